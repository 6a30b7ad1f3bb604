use Rattle.std.proofs.Common.{◌≡◌, true, true≢false, List, [], ◌∷◌, refl, sym, subst, ap, ◌∙◌}
use Rattle.wp_model.specs.History.{is_prepare}
use Rattle.wp_core.specs.Entries.{next_of}
use Rattle.wp_core.specs.States.{Content, writes, prepared}
use Rattle.wp_core.specs.Turns.{prepared_turn}
use Rattle.wp_core.specs.Views.{number_in_heap, number_not_in_heap}
use Rattle.wp_rule.specs.Knows.{Noted}
use Rattle.wp_shared.specs.Notes.{GoesOn, DelayedFlagTells}
use Rattle.wp_shared.proofs.Goes.{stays}
use Rattle.wp_shared.proofs.Tables.{knows_to_give}
use Rattle.wp_commits.proofs.Clears.{on_ok}
use Rattle.wp_commits.proofs.Through.{held_taken, holds_still, goes_through}
use Rattle.wp_records.specs.Stages.{is_of_number}
use Rattle.wp_records.proofs.Facts.{number_under_prepared}
use Rattle.wp_records.proofs.Holding.{still_holds, words_kept}
use Rattle.wp_records.proofs.stages.put_number.Goals as goal

pub returns-then-not-prepares : goal.returns-then-not-prepares
returns-then-not-prepares g c = let s = c.args.seat.now in record {
  holds = c.requires.holds;
  seat = stays is_of_number s s s;
  ok = λ is. absurd (true≢false (sym (c.if-not-prepares.ensures.is ∙ is)));
}

pub take_turn-tables-requires-clause-seat : goal.take_turn-tables-requires-clause-seat
take_turn-tables-requires-clause-seat g c = (c.requires.holds.turn.same_table, c.requires.holds.turn.live)

pub insert_number-result-requires-clause-seat : goal.insert_number-result-requires-clause-seat
insert_number-result-requires-clause-seat g c = c.take_turn-tables.ensures.taken.holds.same_table

pub insert_number-result-requires-clause-prepare : goal.insert_number-result-requires-clause-prepare
insert_number-result-requires-clause-prepare g c = c.if-not-prepares.ensures.prepare refl

pub insert_number-result-requires-clause-below : goal.insert_number-result-requires-clause-below
insert_number-result-requires-clause-below g c = c.take_turn-tables.ensures.taken.goes.noted number_not_in_heap refl c.requires.below

pub insert_number-result-requires-clause-held : goal.insert_number-result-requires-clause-held
insert_number-result-requires-clause-held g c = let z = c.args.store.now in let s = c.args.seat.now in let d = c.args.log.now.state in let t = c.take_turn-tables in held_taken z s t.new.seat s (prepared t.result.value) (prepared t.result.value) (writes d ∷ []) c.requires.holds.turn.held t.ensures.taken ∙ ap (λ x. prepared x ∷ writes d ∷ []) (sym c.deref_mut.ensures.value)

pub insert_number-result-requires-clause-flag : goal.insert_number-result-requires-clause-flag
insert_number-result-requires-clause-flag g c = let t = c.take_turn-tables in subst (DelayedFlagTells t.new.seat.knows) (sym c.deref_mut.ensures.value) t.ensures.taken.knows

pub give_turn-requires-clause-holds : goal.give_turn-requires-clause-holds
give_turn-requires-clause-holds g c = let z = c.args.store.now in let s = c.args.seat.now in let d = c.args.log.now.state in let t = c.take_turn-tables in let u = c.insert_number-result in
    (writes d ∷ [], s.turns, holds_still z s t.new.seat u.new.seat (prepared t.result.value) (prepared u.new.tables) (writes d ∷ []) c.requires.holds.turn.held t.ensures.taken is_of_number _ u.ensures.seat refl)

pub give_turn-requires-clause-knows : goal.give_turn-requires-clause-knows
give_turn-requires-clause-knows g c = let u = c.insert_number-result in knows_to_give u.new.seat.knows (prepared u.new.tables) u.ensures.flag

pub returns : goal.returns
returns g c = let z = c.args.store.now in let s = c.args.seat.now in let d = c.args.log.now.state in let t = c.take_turn-tables in let u = c.insert_number-result in let v = c.give_turn.new.seat in
    let holds = holds_still z s t.new.seat u.new.seat (prepared t.result.value) (prepared u.new.tables) (writes d ∷ []) c.requires.holds.turn.held t.ensures.taken is_of_number _ u.ensures.seat refl in
    let gave = (c.give_turn.ensures (writes d ∷ []) s.turns holds).goes in
    let goes = goes_through z s t.new.seat u.new.seat (prepared t.result.value) (prepared u.new.tables) (writes d ∷ []) c.requires.holds.turn.held t.ensures.taken is_of_number _ u.ensures.seat refl prepared_turn v number_under_prepared gave in
    let all = subst (λ (h : List Content). GoesOn is_of_number h s.turns s v) (sym c.requires.holds.turn.held) goes in
    record {
      holds = still_holds z s v c.args.log.now is_of_number c.requires.holds all (words_kept is_of_number s v _ _ _ (λ bound words. refl) all c.requires.holds.words);
      seat = all;
      ok = on_ok u.result (Noted u.new.seat.knows number_in_heap) (is_prepare (next_of d.pending) ≡ true → Noted v.knows number_in_heap) (λ there is. gave.noted number_in_heap refl there) u.ensures.ok;
    }
