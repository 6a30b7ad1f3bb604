-- The seats of sessions that are over are handed in.
use Rattle.std.proofs.Common.{◌≡◌, List, [], ◌∷◌, length, refl, sym, ◌∙◌, arith}
use Rattle.wp_model.specs.declared.entry.Entry.{Entry}
use Rattle.wp_text.specs.declared.script.Part.{Part}
use Rattle.wp_parts.specs.Devices.{DevicesLeft}
use Rattle.wp_shared.specs.Ended.{IsEnded}
use Rattle.wp_shared.specs.Ending.{AllFree, AreAll}
use Rattle.wp_shared.specs.Seats.{SharedState, SeatState}
use Rattle.wp_replies.specs.Known.{StoredState}
use Rattle.wp_threads.specs.Each.{AllStay}
use Rattle.wp_threads.specs.Explained.{found_in, HaveRun}
use Rattle.wp_threads.specs.SoFar.{IsFound}
use Rattle.wp_threads.specs.Over.{Answered, AreOver}
use Rattle.wp_threads.proofs.Agreeing.{ended_found}
use Rattle.wp_threads.proofs.Composed.{have_run}

module _ {D : Type 0} (z : SharedState D) where
  stay_length : (olds news : List SeatState) → AllStay z olds news → length news ≡ length olds
  stay_length [] [] k = refl
  stay_length (o ∷ olds) (n ∷ news) k = let more = stay_length olds news k.2 in omega (arith, more)
  stay_length _ _ k = absurd k

  pub still_all : (olds news : List SeatState) → AllStay z olds news → AreAll olds → AreAll news
  still_all [] news k all = absurd all
  still_all (o ∷ olds) [] k all = absurd k
  still_all (o ∷ olds) (n ∷ news) k all = (k.0.same_by ∙ all.0, k.0.joined ∙ all.1, k.0.made ∙ (all.2 ∙ sym (stay_length olds news k.2)))

  pub all_free : (olds news : List SeatState) → AllStay z olds news → AllFree z.table news
  all_free [] [] k = tt
  all_free (o ∷ olds) (n ∷ news) k = (k.1, all_free olds news k.2)
  all_free _ _ k = absurd k

-- so the history that is left explains all of them
pub run_explained : {D : Type 0} (z : SharedState D) (parts : List Part) (answered : List Answered) (seats : List SeatState) (history : List Entry) (left : DevicesLeft) → ((found : StoredState) → IsFound z found → AreOver z found parts answered seats)
    → AreAll seats → IsEnded z seats history left → HaveRun z parts answered history left
run_explained z parts answered seats history left over all ended = have_run ended parts answered (over (found_in ended) (ended_found ended)) all
