use Rattle.std.proofs.Common.{◌≡◌, ℕ, true, List, [], ◌∷◌, refl, sym, ap, subst, ◌∙◌, Some}
use Rattle.wp_judge.specs.Words.{commit_pair, fits}
use Rattle.wp_model.specs.declared.entry.Entry.{Entry}
use Rattle.wp_model.specs.Decision.{decision_of}
use Rattle.wp_core.specs.States.{prepared}
use Rattle.wp_core.specs.Turns.{prepared_turn}
use Rattle.wp_core.specs.Views.{has_left}
use Rattle.wp_shared.specs.Notes.{is_flag, GoesOn, DelayedFlagTells}
use Rattle.wp_shared.specs.Seats.{SeatState}
use Rattle.wp_shared.proofs.Tables.{knows_to_give}
use Rattle.wp_commits.proofs.Clears.{flag_under_prepared}
use Rattle.wp_commits.proofs.TakenOut.{continues_by}
use Rattle.wp_commits.proofs.Through.{held_taken, holds_still, goes_through}
use Rattle.wp_commits.proofs.cleanup.forget_prepared.Goals as goal

pub take_turn-tables-requires-clause-seat : goal.take_turn-tables-requires-clause-seat
take_turn-tables-requires-clause-seat g c = (c.requires.free.same_table, c.requires.free.live)

pub forget_prepared-requires : goal.forget_prepared-requires
forget_prepared-requires g c = let z = c.args.store.now in let s = c.args.seat.now in let t = c.take_turn-tables in let taken = t.ensures.taken in record {
  seat = (taken.holds.same_table, taken.holds.live);
  held = held_taken z s t.new.seat s (prepared t.result.value) (prepared t.result.value) [] c.requires.free.held taken ∙ ap (λ x. prepared x ∷ []) (sym c.deref_mut.ensures.value);
  decided = subst (λ (h : List Entry). (d : ℕ) × (decision_of h c.args.p ≡ Some d) × (fits z.cells (commit_pair c.args.p d) ≡ true)) (sym (ap (λ (x : SeatState). x.knows.participant.seen) taken.seat)) c.requires.decided;
  flag = subst (DelayedFlagTells t.new.seat.knows) (sym c.deref_mut.ensures.value) taken.knows;
}

pub give_turn-requires-clause-holds : goal.give_turn-requires-clause-holds
give_turn-requires-clause-holds g c = let s = c.args.seat.now in let t = c.take_turn-tables in let u = c.forget_prepared in
    ([], s.turns, holds_still c.args.store.now s t.new.seat u.new.seat (prepared t.result.value) (prepared u.new.tables) [] c.requires.free.held t.ensures.taken is_flag _ u.ensures.seat refl)

pub give_turn-requires-clause-knows : goal.give_turn-requires-clause-knows
give_turn-requires-clause-knows g c = let u = c.forget_prepared in knows_to_give u.new.seat.knows (prepared u.new.tables) u.ensures.flag

pub returns : goal.returns
returns g c = let z = c.args.store.now in let s = c.args.seat.now in let t = c.take_turn-tables in let u = c.forget_prepared in let v = c.give_turn.new.seat in
    let holds = holds_still z s t.new.seat u.new.seat (prepared t.result.value) (prepared u.new.tables) [] c.requires.free.held t.ensures.taken is_flag _ u.ensures.seat refl in
    let gave = (c.give_turn.ensures [] s.turns holds).goes in
    let goes = goes_through z s t.new.seat u.new.seat (prepared t.result.value) (prepared u.new.tables) [] c.requires.free.held t.ensures.taken is_flag _ u.ensures.seat refl prepared_turn v flag_under_prepared gave in
    record {
      seat = continues_by z s v c.requires.free (subst (λ (l : List ℕ). GoesOn is_flag [] l s v) c.requires.free.turns goes);
      same = ap (λ (x : SeatState). x.knows.participant) goes.same;
      gone = gave.noted (has_left c.args.p) refl u.ensures.gone;
    }
