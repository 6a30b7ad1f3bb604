use Rattle.std.proofs.lemmas.Grind.{common_steps}
use Rattle.std.proofs.Common.{◌<◌, length, arith}
use Rattle.wp_memtable.proofs.Listed.{is_change_to}
use Rattle.wp_memtable.proofs.places.put_all.Goals as goal

pub put-more-requires-clause-place : goal.put-more-requires-clause-place
put-more-requires-clause-place c =
    let within : c.len.result < length c.args.changes.now = omega (arith, c.len.ensures, c.in-Some.ensures.len, c.loop-value.invariant.few, c.loop-value.values.ok) in
    rw c.key.ensures (c.loop-value.invariant.places _ (is_change_to c.args.changes.now c.len.result _ within c.index-changes-len.is))

pub loop-value-init : goal.loop-value-init
loop-value-init c = grind (arith, common_steps)

pub loop-value-preserved : goal.loop-value-preserved
loop-value-preserved c = grind (arith, common_steps)
