use Rattle.std.proofs.Common.{◌∷◌, sym, subst, ap, ◌∙◌}
use Rattle.wp_core.specs.States.{store}
use Rattle.wp_core.specs.Turns.{store_turn}
use Rattle.wp_parts.specs.Stock.{store_state}
use Rattle.wp_shared.specs.Notes.{no_fact, is_under, GoesOn}
use Rattle.wp_shared.proofs.Goes.{then, wider, none_too}
use Rattle.wp_shared.proofs.TakenTurns.{last_without}
use Rattle.wp_read.proofs.Next.{next_from, next_skips, next_shows, next_words}
use Rattle.wp_read.proofs.rows.copy_next.Goals as goal

pub returns-clause-goes : goal.returns-clause-goes
returns-clause-goes g c =
    let k = c.take_turn-stock.ensures.taken in let s0 = c.args.seat.now in let s1 = c.take_turn-stock.new.seat in let s2 = c.give_turn.new.seat in
    let test = is_under store_turn in let taken = store (store_state c.take_turn-stock.result.value) ∷ s0.knows.held in
    then test s0 s1 s2 taken s0.knows.held (3 ∷ s0.turns) s0.turns (wider no_fact s0 s1 s1 test taken (3 ∷ s0.turns) (none_too test) k.goes)
    (subst (λ held. GoesOn test held s0.turns s1 s2) (last_without store_turn s0.knows.held c.requires.order) (c.give_turn.ensures s0.knows.held s0.turns k.holds).goes)

pub returns-clause-from : goal.returns-clause-from
returns-clause-from g c =
    let k = c.take_turn-stock.ensures.taken in
    next_from c.args.store.now c.args.seat.now c.deref.result.now c.args.above c.args.key.now (k.world, k.before, k.is ∙ ap store_state (sym c.deref.ensures)) c.next_version-found.result c.next_version-found.ensures.found

pub returns-clause-skips : goal.returns-clause-skips
returns-clause-skips g c =
    let k = c.take_turn-stock.ensures.taken in
    next_skips c.args.store.now c.args.seat.now c.deref.result.now c.args.above c.args.key.now (k.world, k.before, k.is ∙ ap store_state (sym c.deref.ensures)) c.next_version-found.result c.next_version-found.ensures.found

pub returns-clause-shows : goal.returns-clause-shows
returns-clause-shows g c =
    let k = c.take_turn-stock.ensures.taken in
    next_shows c.args.store.now c.args.seat.now c.deref.result.now c.args.above c.args.key.now (k.world, k.before, k.is ∙ ap store_state (sym c.deref.ensures)) c.next_version-found.result c.next_version-found.ensures.found

pub returns-clause-words : goal.returns-clause-words
returns-clause-words g c =
    let k = c.take_turn-stock.ensures.taken in
    next_words c.args.store.now c.args.seat.now c.deref.result.now c.args.above c.args.key.now (k.world, k.before, k.is ∙ ap store_state (sym c.deref.ensures)) c.next_version-found.result c.next_version-found.ensures.in_range
