use Rattle.std.proofs.Common.{◌∷◌, sym, subst, ap, ◌∙◌}
use Rattle.wp_core.specs.States.{store}
use Rattle.wp_core.specs.Turns.{store_turn}
use Rattle.wp_parts.specs.Stock.{store_state}
use Rattle.wp_shared.specs.Notes.{no_fact, is_under, GoesOn}
use Rattle.wp_shared.proofs.Goes.{then, wider, none_too}
use Rattle.wp_shared.proofs.TakenTurns.{last_without}
use Rattle.wp_read.proofs.Shows.{copies_show}
use Rattle.wp_read.proofs.values.copy_newest.Goals as goal

pub returns-clause-goes : goal.returns-clause-goes
returns-clause-goes g c =
    let k = c.take_turn-stock.ensures.taken in let s0 = c.args.seat.now in let s1 = c.take_turn-stock.new.seat in let s2 = c.give_turn.new.seat in
    let test = is_under store_turn in let taken = store (store_state c.take_turn-stock.result.value) ∷ s0.knows.held in
    then test s0 s1 s2 taken s0.knows.held (3 ∷ s0.turns) s0.turns (wider no_fact s0 s1 s1 test taken (3 ∷ s0.turns) (none_too test) k.goes)
    (subst (λ held. GoesOn test held s0.turns s1 s2) (last_without store_turn s0.knows.held c.requires.order) (c.give_turn.ensures s0.knows.held s0.turns k.holds).goes)

pub returns-clause-found : goal.returns-clause-found
returns-clause-found g c =
    let k = c.take_turn-stock.ensures.taken in
    copies_show c.args.store.now c.args.seat.now c.deref.result.now c.args.key.now c.args.most c.collect-found.result (k.world, k.before, k.is ∙ ap store_state (sym c.deref.ensures)) c.collect-found.ensures
