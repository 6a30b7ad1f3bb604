-- Entries that became pending, and are dropped again.
use Rattle.std.proofs.Common.{◌≡◌, false, List, [], ◌∷◌, ◌++◌, length, refl, sym, subst, ap, ◌∙◌}
use Rattle.wp_model.specs.declared.entry.Entry.{Entry}
use Rattle.wp_model.specs.Legal.{IsLegal}
use Rattle.wp_model.specs.Record.{IsOneRecord}
use Rattle.wp_core.specs.States.{WriteState, writes}
use Rattle.wp_core.specs.Views.{versions_nowhere, number_not_in_heap, pair_not_delayed}
use Rattle.wp_rule.specs.Knows.{Noted}
use Rattle.wp_parts.specs.Log.{LogState}
use Rattle.wp_shared.specs.Seats.{SharedState, SeatState}
use Rattle.wp_shared.specs.Notes.{GoesOn, KnowsWords}
use Rattle.wp_records.specs.Records.{IsUncalled}
use Rattle.wp_records.specs.Writing.{HoldsWrite}
use Rattle.wp_records.specs.Stages.{is_of_pending, HoldsPending, IsBegun}
use Rattle.wp_records.proofs.Holding.{holds_with, as_pending, as_write, words_kept}

module _ (log left : LogState) (entries : List Entry) (is : left.state ≡ record log.state { pending = entries; logged = false }) where
  pending_is : left.state.pending ≡ entries
  pending_is = ap (λ (t : WriteState). t.pending) is

  history_is : left.state.history ≡ log.state.history
  history_is = ap (λ (t : WriteState). t.history) is

  pub begins_as : left.state ≡ record log.state { pending = left.state.pending; logged = false }
  begins_as = is ∙ ap (λ (e : List Entry). record log.state { pending = e; logged = false }) (sym pending_is)

  pub begins_one : IsOneRecord entries → IsOneRecord left.state.pending
  begins_one one = subst IsOneRecord (sym pending_is) one

  pub begins_legal : IsLegal (log.state.history ++ entries) → IsLegal (left.state.history ++ left.state.pending)
  begins_legal legal = subst (λ (x : List Entry × List Entry). IsLegal (x.0 ++ x.1)) (λ i. (sym history_is i, sym pending_is i)) legal

  pub begun : {D : Type 0} (z : SharedState D) (old new : SeatState) → HoldsWrite z old log → left.first ≡ log.first → IsUncalled log left → GoesOn is_of_pending (writes left.state ∷ []) old.turns old new → Noted new.knows versions_nowhere → Noted new.knows number_not_in_heap → Noted new.knows pair_not_delayed
      → IsBegun z old log entries new left
  begun z old new h first uncalled k nowhere below undelayed = record {
    holds = holds_with z old new log left (as_pending z old log h) is_of_pending k first history_is (words_kept is_of_pending old new (writes left.state ∷ []) old.turns (length log.state.history) (λ bound words. refl) k h.words);
    seat = k;
    state = is;
    uncalled = uncalled;
    nowhere = nowhere;
    below = below;
    undelayed = undelayed;
  }

module _ {D : Type 0} (z : SharedState D) (old new : SeatState) (log left : LogState) (h : HoldsPending z old log) (is : left ≡ record log { state = record log.state { pending = [] } }) where
  pub words_before : KnowsWords old.knows (length left.state.history)
  words_before = subst (λ (e : List Entry). KnowsWords old.knows (length e)) (sym (ap (λ (x : LogState). x.state.history) is)) h.words

  pub dropped_holds : GoesOn is_of_pending (writes left.state ∷ []) old.turns old new → HoldsWrite z new left
  dropped_holds k =
      as_write z new left
      (holds_with z old new log left h is_of_pending k (ap (λ (x : LogState). x.first) is) (ap (λ (x : LogState). x.state.history) is) (words_kept is_of_pending old new (writes left.state ∷ []) old.turns (length log.state.history) (λ bound words. refl) k h.words))
      (ap (λ (x : LogState). x.state.pending) is)
