-- A record that is made ready for its log call.
use Rattle.std.proofs.Common.{◌≡◌, ℕ, suc, false, List, length, refl, sym, subst, ap, ◌∙◌}
use Rattle.std.specs.Prelude.{Result}
use Rattle.wp_model.specs.declared.entry.Entry.{Entry}
use Rattle.wp_model.specs.Record.{IsOneRecord}
use Rattle.wp_core.specs.States.{WriteState}
use Rattle.wp_core.specs.Views.{words_stay, unprepared}
use Rattle.wp_core.specs.World.{Participant, Actor}
use Rattle.wp_rule.specs.Knows.{Noted}
use Rattle.wp_parts.specs.Log.{LogState}
use Rattle.wp_shared.specs.Seats.{SharedState, SeatState}
use Rattle.wp_shared.specs.Notes.{GoesOn}
use Rattle.wp_shared.proofs.Goes.{wider}
use Rattle.wp_commits.specs.Notes.{is_of_words}
use Rattle.wp_commits.specs.Ways.{ways_of, AreApart}
use Rattle.wp_records.specs.declared.error.WriteError.{WriteError}
use Rattle.wp_records.specs.Records.{MayPut, Puts}
use Rattle.wp_records.specs.Stages.{is_guarded, is_of_pending, HoldsPending, IsUnlogged, IsBegun}
use Rattle.wp_records.proofs.Facts.{not_pending}
use Rattle.wp_records.proofs.Holding.{still_holds, words_still}
use Rattle.wp_model.proofs.Records.{one_some}
use Rattle.wp_records.proofs.Joined.{own_still}
use Rattle.wp_records.proofs.Puts.{in_step, unreserved, puts_before}

-- words were cleared
pub cleared_holds : {D : Type 0} (z : SharedState D) (s t : SeatState) (log : LogState) → HoldsPending z s log → GoesOn is_of_words s.knows.held s.turns s t
    → ((bound : ℕ) (words : List ℕ) → Noted s.knows (words_stay bound words) → (later : ℕ) × Noted t.knows (words_stay later words)) → HoldsPending z t log
cleared_holds z s t log h k keeps = still_holds z s t log is_of_words h k (words_still s.knows t.knows (length log.state.history) keeps h.words)

-- what may be put may be put still, by the same participant, which has noted still what it noted of names
pub may_still : (a b : Actor) (history entries : List Entry) → b.participant ≡ a.participant → ((name : List ℕ) → Noted a (unprepared name) → Noted b (unprepared name)) → MayPut a history entries → MayPut b history entries
may_still a b history entries same noted may = record { legal = may.legal; owned = own_still a b (ap (λ (x : Participant). x.direct) same) (ap (λ (x : Participant). x.transactions) same) (ap (λ (x : Participant). x.past) same) noted history entries may.owned }

module _ {D : Type 0} (z : SharedState D) (s t : SeatState) (log mid : LogState) (es : List Entry) (b : IsBegun z s log es t mid) where
  pending_is : mid.state.pending ≡ es
  pending_is = ap (λ (x : WriteState). x.pending) b.state

  history_is : mid.state.history ≡ log.state.history
  history_is = ap (λ (x : WriteState). x.history) b.state

  pub begun_unlogged : IsOneRecord mid.state.pending → log.state.closed ≡ false → IsUnlogged mid.state
  begun_unlogged one running = record { some = one_some mid.state.pending one; unlogged = ap (λ (x : WriteState). x.logged) b.state; running = ap (λ (x : WriteState). x.closed) b.state ∙ running }

  pub begun_may : MayPut s.knows log.state.history es → MayPut t.knows mid.state.history mid.state.pending
  begun_may may =
      subst (λ (x : List Entry × List Entry). MayPut t.knows x.0 x.1) (λ i. (sym history_is i, sym pending_is i))
      (may_still s.knows t.knows log.state.history es (ap (λ (x : SeatState). x.knows.participant) b.seat.same) (λ name there. b.seat.noted (unprepared name) refl there) may)

  pub begun_apart : (cells : ℕ) → AreApart cells (ways_of cells (suc (length log.state.history)) es) → AreApart cells (ways_of cells (suc (length mid.state.history)) mid.state.pending)
  begun_apart cells apart = subst (λ (x : List Entry × List Entry). AreApart cells (ways_of cells (suc (length x.0)) x.1)) (λ i. (sym history_is i, sym pending_is i)) apart

  pub begun_puts : (new : SeatState) (left : LogState) (answer : Result (Unit {0}) WriteError) → Puts z t mid mid.state.pending answer new left → Puts z s log es answer new left
  begun_puts new left answer p =
      puts_before z s t new log mid left _ _ (wider is_of_pending s t t is_guarded _ _ not_pending b.seat) history_is (λ bound words there. b.seat.noted (words_stay bound words) refl there) (ap in_step b.state) (ap unreserved b.uncalled) es answer (subst (λ (e : List Entry). Puts z t mid e answer new left) pending_is p)
