use Rattle.std.proofs.Common.{List, length, ap, arith}
use Rattle.wp_model.specs.declared.version.Version.{Version}
use Rattle.wp_maint.proofs.Freezes.{none_frozen}
use Rattle.wp_maint.proofs.frozen.freeze_some.Goals as goal

pub returns-then-is_flushed-clause-frozen : goal.returns-then-is_flushed-clause-frozen
returns-then-is_flushed-clause-frozen g c =
    none_frozen c.args.store.now c.args.seat.now c.args.log.now.state c.args.stock.now c.args.edits.now.state c.requires.holds.held c.requires.pending c.requires.seen c.requires.in_step c.requires.stands.0 c.requires.stands.1
    (c.is_flushed.ensures.none c.if-is_flushed.true)

pub returns-clause-frozen : goal.returns-clause-frozen
returns-clause-frozen g c =
    let k = c.in_ok-frozen.ensures.frozen in let some = c.is_flushed.ensures.some c.if-is_flushed.false in let same = ap (λ (l : List Version). length l) k.1 in
    (k.0, omega (arith, some, same))
