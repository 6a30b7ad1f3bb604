use Rattle.std.proofs.Common.{add-one, append_assoc}
use Rattle.std.proofs.lemmas.List.{take_rest}
use Rattle.wp_machine_permits.proofs.Stores.{after_next}
use Rattle.wp_machine_permits.proofs.needs.edits.later_versions.Goals as goal

pub loop-i-preserved : goal.loop-i-preserved
loop-i-preserved c =
    let all = take_rest c.args.entries.now c.loop-i.i in
    let next = after_next c.loop-i.i c.args.entries.now c.loop-i.i c.loop-i-test.true in
    rw (c.in_ok-append.ensures.items, c.in_ok-versions.ensures, all, add-one, append_assoc, ← next) c.loop-i.invariant
