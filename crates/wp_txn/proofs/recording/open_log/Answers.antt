use Rattle.std.proofs.Common.{[], ◌+◌, length, min, sym, subst, ap, ◌∙◌, arith}
use Rattle.wp_entry.specs.Record.{last_number}
use Rattle.wp_parts.specs.Log.{LogState, IsLog}
use Rattle.wp_shared.specs.Notes.{seat_of}
use Rattle.wp_open_txns.specs.Actors.{with_stopped, with_base}
use Rattle.wp_txn.proofs.UnderLog.{alone_still, unsaturated, stopped_back, full_back, opened}
use Rattle.wp_txn.proofs.recording.open_log.Goals as goal

pub give_turn-requires-clause-holds : goal.give_turn-requires-clause-holds
give_turn-requires-clause-holds g c =
    let s = c.take_log-log.new.seat in
    let found = c.find_log_closed.ensures ∙ ap (λ (x : LogState). seat_of s (with_stopped (length x.state.history) s.knows)) c.deref-then-is_closed.ensures in
    ([], [], alone_still _ _ _ _ c.take_log-log.ensures c.find_log_closed.new.seat c.find_log_closed.new.seat _ found c.requires.free)

pub returns-then-is_closed-clause-refused : goal.returns-then-is_closed-clause-refused
returns-then-is_closed-clause-refused g c =
    let s = c.take_log-log.new.seat in let t = c.find_log_closed.new.seat in let p = c.published-published in
    let number = p.ensures.value ∙ ap (λ (x : LogState). length x.state.history) c.deref-2.ensures in
    let found = c.find_log_closed.ensures ∙ ap (λ (x : LogState). seat_of s (with_stopped (length x.state.history) s.knows)) c.deref-then-is_closed.ensures in
    let closed = ap (λ (x : LogState). x.state.closed) (sym c.deref-3.ensures) ∙ sym c.is_closed.ensures ∙ c.if-is_closed.true in
    stopped_back _ _ _ _ c.take_log-log.ensures t c.give_turn.new.seat p.result c.args.needed (λ asked. ⊥) found number closed (subst IsLog c.deref.ensures c.devices_agree.ensures.log) (c.give_turn.ensures [] [] (alone_still _ _ _ _ c.take_log-log.ensures t t _ found c.requires.free))

pub find_base-requires-clause-waits : goal.find_base-requires-clause-waits
find_base-requires-clause-waits g c = (subst IsLog (c.deref.ensures ∙ sym c.deref-then-saturating_add-limit.ensures) c.devices_agree.ensures.log).none_waits

pub give_turn-requires-then-saturating_add-limit-clause-holds : goal.give_turn-requires-then-saturating_add-limit-clause-holds
give_turn-requires-then-saturating_add-limit-clause-holds g c =
    let s = c.take_log-log.new.seat in
    let found = c.find_base.ensures ∙ ap (λ (x : LogState). seat_of s (with_base (length x.state.history) x.state.segment.base s.knows)) c.deref-then-saturating_add-limit.ensures in
    ([], [], alone_still _ _ _ _ c.take_log-log.ensures c.find_base.new.seat c.find_base.new.seat _ found c.requires.free)

pub returns-then-saturating_add-limit-clause-refused : goal.returns-then-saturating_add-limit-clause-refused
returns-then-saturating_add-limit-clause-refused g c =
    let s = c.take_log-log.new.seat in let t = c.find_base.new.seat in let p = c.published-published in
    let number = p.ensures.value ∙ ap (λ (x : LogState). length x.state.history) c.deref-2.ensures in
    let found = c.find_base.ensures ∙ ap (λ (x : LogState). seat_of s (with_base (length x.state.history) x.state.segment.base s.knows)) c.deref-then-saturating_add-limit.ensures in
    let running = ap (λ (x : LogState). x.state.closed) (sym c.deref-3.ensures) ∙ sym c.is_closed.ensures ∙ c.if-is_closed.false in
    full_back _ _ _ _ c.take_log-log.ensures t c.give_turn-then-saturating_add-limit.new.seat c.args.needed p.result c.least_limit-limit.result (λ asked. ⊥) found running (subst IsLog c.deref.ensures c.devices_agree.ensures.log) number (c.least_limit-limit.ensures ∙ (λ i. min (c.limit.ensures.0 i) (last_number ((c.format.ensures ∙ ap (λ (x : LogState). x.wal.format) c.deref-4.ensures) i)))) (let above = c.if-saturating_add-limit.true in let sum = c.saturating_add.ensures in omega (arith, above, sum))
    (c.give_turn-then-saturating_add-limit.ensures [] [] (alone_still _ _ _ _ c.take_log-log.ensures t t _ found c.requires.free))

pub returns-clause-ok : goal.returns-clause-ok
returns-clause-ok g c =
    let p = c.published-published in
    let number = p.ensures.value ∙ ap (λ (x : LogState). length x.state.history) c.deref-2.ensures in
    let running = ap (λ (x : LogState). x.state.closed) (sym c.deref-3.ensures) ∙ sym c.is_closed.ensures ∙ c.if-is_closed.false in
    let within = unsaturated (p.result + c.args.needed) c.saturating_add.result c.least_limit-limit.result c.limit.result c.format.result c.saturating_add.ensures c.least_limit-limit.ensures c.if-saturating_add-limit.false in
    opened _ _ _ _ c.take_log-log.ensures c.requires.free c.args.needed p.result c.least_limit-limit.result running number (c.least_limit-limit.ensures ∙ (λ i. min (c.limit.ensures.0 i) (last_number ((c.format.ensures ∙ ap (λ (x : LogState). x.wal.format) c.deref-4.ensures) i)))) within (subst IsLog c.deref.ensures c.devices_agree.ensures.log)
