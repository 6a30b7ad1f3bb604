use Rattle.std.proofs.Common.{refl}
use Rattle.wp_core.specs.Steps as step
use Rattle.wp_machine_permits.proofs.OfferedSteps.{offered}
use Rattle.wp_machine_permits.proofs.permitted.tables.Goals as goal

pub returns-in-Install : goal.returns-in-Install
returns-in-Install c =
    let k = c.in-Install in
    offered c.may_install.result c.args.world.now c.args.by c.args.actor.now _ (step.install k.edit k.compacts) (rw k.is refl) (c.may_install.ensures c.args.actor.now)

pub returns-in-Renew : goal.returns-in-Renew
returns-in-Renew c =
    let k = c.in-Renew in
    offered c.may_renew.result c.args.world.now c.args.by c.args.actor.now _ (step.renew k.edit) (rw k.is refl) (c.may_renew.ensures c.args.actor.now)

pub returns-in-Halt : goal.returns-in-Halt
returns-in-Halt c =
    let k = c.in-Halt in
    offered c.may_halt.result c.args.world.now c.args.by c.args.actor.now _ (step.halt k.edit) (rw k.is refl) (c.may_halt.ensures c.args.actor.now)
