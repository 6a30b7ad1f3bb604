use Rattle.std.proofs.Common.{List, [], length, take, sym, ap, ◌∙◌, arith}
use Rattle.wp_model.specs.declared.entry.Entry.{Entry}
use Rattle.wp_model.specs.Legal.{undone_last}
use Rattle.wp_parts.specs.Log.{LogState}
use Rattle.wp_shared.proofs.FromBase.{from_base}
use Rattle.wp_open_txns.proofs.Looked as looked
use Rattle.wp_open_txns.proofs.undecided.undone_at.Goals as goal

pub undone_in-undone-requires-clause-from : goal.undone_in-undone-requires-clause-from
undone_in-undone-requires-clause-from g c =
    let base = c.history.ensures.base ∙ ap (λ (x : LogState). x.first.segment.base) c.deref.ensures in
    let low = from_base c.take_log-log.ensures c.shows_one_store.ensures c.args.snapshot.now c.requires.registered in omega (arith, base, low, c.number.ensures)

pub undone_in-undone-requires-clause-within : goal.undone_in-undone-requires-clause-within
undone_in-undone-requires-clause-within g c =
    let same = ap (λ (h : List Entry). length h) (c.history.ensures.entries ∙ ap (λ (x : LogState). x.state.history) c.deref.ensures) in
    let low = looked.in_history c.args.store.now c.args.seat.now c.take_log-log.new.seat c.take_log-log.result.value c.take_log-log.ensures c.args.snapshot.now c.requires.registered in omega (arith, same, low, c.number.ensures)

pub returns-clause-continues : goal.returns-clause-continues
returns-clause-continues g c =
    let z = c.args.store.now in let old = c.args.seat.now in let t = c.take_log-log.new.seat in let log = c.take_log-log.result.value in let took = c.take_log-log.ensures in
    looked.continues z old t log took c.give_turn.new.seat (c.give_turn.ensures [] [] (looked.holds z old t log took c.requires.free))

pub returns-clause-undone : goal.returns-clause-undone
returns-clause-undone g c =
    let z = c.args.store.now in let old = c.args.seat.now in let t = c.take_log-log.new.seat in let log = c.take_log-log.result.value in let took = c.take_log-log.ensures in
    let seen = looked.seen_is z old t log took c.give_turn.new.seat (c.give_turn.ensures [] [] (looked.holds z old t log took c.requires.free)) in
    let all = c.history.ensures.entries ∙ ap (λ (x : LogState). x.state.history) c.deref.ensures ∙ sym seen in
    c.undone_in-undone.ensures ∙ (λ i. undone_last (take (c.number.ensures i) (all i)))
