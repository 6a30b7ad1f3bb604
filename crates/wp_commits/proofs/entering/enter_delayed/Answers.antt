use Rattle.std.proofs.Common.{List, [], ◌∷◌, refl, sym, subst, ap, ◌∙◌}
use Rattle.wp_core.specs.States.{Content, prepared, writes}
use Rattle.wp_core.specs.Turns.{prepared_turn}
use Rattle.wp_core.specs.Views.{words_stay, pair_delayed}
use Rattle.wp_shared.specs.Notes.{GoesOn, DelayedFlagTells}
use Rattle.wp_shared.proofs.Tables.{knows_to_give}
use Rattle.wp_commits.specs.Notes.{is_of_delayed}
use Rattle.wp_commits.proofs.Clears.{flag_under_prepared}
use Rattle.wp_commits.proofs.Passed.{flags_in_delayed}
use Rattle.wp_commits.proofs.Through.{held_taken, holds_still, goes_through}
use Rattle.wp_commits.proofs.entering.enter_delayed.Goals as goal

pub delay_pending-requires-clause-held : goal.delay_pending-requires-clause-held
delay_pending-requires-clause-held g c = let z = c.args.store.now in let s = c.args.seat.now in let d = c.args.log.now.state in let t = c.take_turn-tables in
    held_taken z s t.new.seat s (prepared t.result.value) (prepared t.result.value) (writes d ∷ []) c.requires.held t.ensures.taken ∙ ap (λ x. prepared x ∷ writes d ∷ []) (sym c.deref_mut.ensures.value)

pub delay_pending-requires-clause-reached : goal.delay_pending-requires-clause-reached
delay_pending-requires-clause-reached g c = let r = c.requires.reached in (r.0, r.1, c.take_turn-tables.ensures.taken.goes.noted (words_stay r.0 r.1) refl r.2, r.3)

pub delay_pending-requires-clause-flag : goal.delay_pending-requires-clause-flag
delay_pending-requires-clause-flag g c = let t = c.take_turn-tables in subst (DelayedFlagTells t.new.seat.knows) (sym c.deref_mut.ensures.value) t.ensures.taken.knows

pub give_turn-requires-clause-holds : goal.give_turn-requires-clause-holds
give_turn-requires-clause-holds g c = let z = c.args.store.now in let s = c.args.seat.now in let d = c.args.log.now.state in let t = c.take_turn-tables in let u = c.delay_pending in
    (writes d ∷ [], s.turns, holds_still z s t.new.seat u.new.seat (prepared t.result.value) (prepared u.new.tables) (writes d ∷ []) c.requires.held t.ensures.taken is_of_delayed _ u.ensures.seat refl)

pub give_turn-requires-clause-knows : goal.give_turn-requires-clause-knows
give_turn-requires-clause-knows g c = let u = c.delay_pending in knows_to_give u.new.seat.knows (prepared u.new.tables) u.ensures.flag

pub returns : goal.returns
returns g c = let z = c.args.store.now in let s = c.args.seat.now in let d = c.args.log.now.state in let t = c.take_turn-tables in let u = c.delay_pending in let v = c.give_turn.new.seat in
    let holds = holds_still z s t.new.seat u.new.seat (prepared t.result.value) (prepared u.new.tables) (writes d ∷ []) c.requires.held t.ensures.taken is_of_delayed _ u.ensures.seat refl in
    let gave = (c.give_turn.ensures (writes d ∷ []) s.turns holds).goes in
    record {
      seat = subst (λ (h : List Content). GoesOn is_of_delayed h s.turns s v) (sym c.requires.held)
          (goes_through z s t.new.seat u.new.seat (prepared t.result.value) (prepared u.new.tables) (writes d ∷ []) c.requires.held t.ensures.taken is_of_delayed _ u.ensures.seat refl prepared_turn v (λ fact e. flag_under_prepared fact (flags_in_delayed fact e)) gave);
      there = gave.noted pair_delayed refl u.ensures.there;
      low = λ bound words there. u.ensures.low bound words (t.ensures.taken.goes.noted (words_stay bound words) refl there);
    }
