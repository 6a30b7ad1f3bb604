use Rattle.std.proofs.Common.{refl}
use Rattle.wp_core.specs.Steps as step
use Rattle.wp_machine_permits.proofs.OfferedSteps.{offered}
use Rattle.wp_machine_permits.proofs.permitted.store.store.Goals as goal

pub returns-in-MoveVersions : goal.returns-in-MoveVersions
returns-in-MoveVersions c =
    let k = c.in-MoveVersions in
    let tested = rw (c.deref.ensures.value, c.deref-in-MoveVersions.ensures.value) at (c.may_move_versions.ensures c.args.actor.now) in
    offered c.may_move_versions.result c.args.world.now c.args.by c.args.actor.now _ (step.move_versions k.memory.items k.moved.items) (rw k.is refl) tested

pub returns-in-ReplaceVersions : goal.returns-in-ReplaceVersions
returns-in-ReplaceVersions c =
    let k = c.in-ReplaceVersions in
    let tested = rw c.deref-in-ReplaceVersions.ensures.value at (c.may_replace_versions.ensures c.args.actor.now) in
    offered c.may_replace_versions.result c.args.world.now c.args.by c.args.actor.now _ (step.replace_versions k.replaced.items k.floor) (rw k.is refl) tested
