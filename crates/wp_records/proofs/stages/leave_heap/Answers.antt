use Rattle.std.proofs.Common.{List, [], ◌∷◌, inl, length, refl, sym, subst, ap, ◌∙◌}
use Rattle.wp_core.specs.Lists.{IsIn}
use Rattle.wp_core.specs.States.{Content, writes, prepared}
use Rattle.wp_core.specs.Turns.{prepared_turn}
use Rattle.wp_core.specs.Views.{number_not_in_heap}
use Rattle.wp_shared.specs.Notes.{GoesOn, DelayedFlagTells}
use Rattle.wp_shared.proofs.Goes.{notes}
use Rattle.wp_shared.proofs.Tables.{knows_to_give}
use Rattle.wp_commits.proofs.Clears.{just_noted}
use Rattle.wp_commits.proofs.Through.{held_taken, holds_still, goes_through}
use Rattle.wp_records.specs.Stages.{is_of_number}
use Rattle.wp_records.proofs.Facts.{number_under_prepared}
use Rattle.wp_records.proofs.Holding.{still_holds, words_kept}
use Rattle.wp_records.proofs.stages.leave_heap.Goals as goal

pub note_no_number-requires : goal.note_no_number-requires
note_no_number-requires g c = let turn = c.requires.holds.turn in record {
  seat = (turn.same_table, turn.live);
  held = subst (IsIn (writes c.args.log.now.state)) (sym turn.held) (inl refl);
  none = sym c.if-not-prepares.ensures.is;
}

pub returns-then-not-prepares : goal.returns-then-not-prepares
returns-then-not-prepares g c = let s = c.args.seat.now in let r = c.note_no_number.new.seat in
    let goes : GoesOn is_of_number s.knows.held s.turns s r = notes is_of_number s r r number_not_in_heap c.note_no_number.ensures in
    record {
      holds = still_holds c.args.store.now s r c.args.log.now is_of_number c.requires.holds goes (words_kept is_of_number s r s.knows.held s.turns (length c.args.log.now.state.history) (λ bound words. refl) goes c.requires.holds.words);
      seat = goes;
      below = just_noted s r number_not_in_heap c.note_no_number.ensures;
    }

pub take_turn-tables-requires-clause-seat : goal.take_turn-tables-requires-clause-seat
take_turn-tables-requires-clause-seat g c = (c.requires.holds.turn.same_table, c.requires.holds.turn.live)

pub remove_number-requires-clause-seat : goal.remove_number-requires-clause-seat
remove_number-requires-clause-seat g c = c.take_turn-tables.ensures.taken.holds.same_table

pub remove_number-requires-clause-prepare : goal.remove_number-requires-clause-prepare
remove_number-requires-clause-prepare g c = c.if-not-prepares.ensures.prepare refl

pub remove_number-requires-clause-held : goal.remove_number-requires-clause-held
remove_number-requires-clause-held g c = let z = c.args.store.now in let s = c.args.seat.now in let d = c.args.log.now.state in let t = c.take_turn-tables in held_taken z s t.new.seat s (prepared t.result.value) (prepared t.result.value) (writes d ∷ []) c.requires.holds.turn.held t.ensures.taken ∙ ap (λ x. prepared x ∷ writes d ∷ []) (sym c.deref_mut.ensures.value)

pub remove_number-requires-clause-flag : goal.remove_number-requires-clause-flag
remove_number-requires-clause-flag g c = let t = c.take_turn-tables in subst (DelayedFlagTells t.new.seat.knows) (sym c.deref_mut.ensures.value) t.ensures.taken.knows

pub give_turn-requires-clause-holds : goal.give_turn-requires-clause-holds
give_turn-requires-clause-holds g c = let z = c.args.store.now in let s = c.args.seat.now in let d = c.args.log.now.state in let t = c.take_turn-tables in let u = c.remove_number in
    (writes d ∷ [], s.turns, holds_still z s t.new.seat u.new.seat (prepared t.result.value) (prepared u.new.tables) (writes d ∷ []) c.requires.holds.turn.held t.ensures.taken is_of_number _ u.ensures.seat refl)

pub give_turn-requires-clause-knows : goal.give_turn-requires-clause-knows
give_turn-requires-clause-knows g c = let u = c.remove_number in knows_to_give u.new.seat.knows (prepared u.new.tables) u.ensures.flag

pub returns : goal.returns
returns g c = let z = c.args.store.now in let s = c.args.seat.now in let d = c.args.log.now.state in let t = c.take_turn-tables in let u = c.remove_number in let v = c.give_turn.new.seat in
    let holds = holds_still z s t.new.seat u.new.seat (prepared t.result.value) (prepared u.new.tables) (writes d ∷ []) c.requires.holds.turn.held t.ensures.taken is_of_number _ u.ensures.seat refl in
    let gave = (c.give_turn.ensures (writes d ∷ []) s.turns holds).goes in
    let goes = goes_through z s t.new.seat u.new.seat (prepared t.result.value) (prepared u.new.tables) (writes d ∷ []) c.requires.holds.turn.held t.ensures.taken is_of_number _ u.ensures.seat refl prepared_turn v number_under_prepared gave in
    let all = subst (λ (h : List Content). GoesOn is_of_number h s.turns s v) (sym c.requires.holds.turn.held) goes in
    record {
      holds = still_holds z s v c.args.log.now is_of_number c.requires.holds all (words_kept is_of_number s v _ _ _ (λ bound words. refl) all c.requires.holds.words);
      seat = all;
      below = gave.noted number_not_in_heap refl u.ensures.below;
    }
