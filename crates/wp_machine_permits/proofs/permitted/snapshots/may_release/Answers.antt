use Rattle.std.proofs.Common.{rules, ◌<◌, length}
use Rattle.wp_core.specs.Turns.{Holds, snapshots_turn}
use Rattle.wp_machine_permits.proofs.Held.{releases}
use Rattle.wp_machine_permits.proofs.permitted.snapshots.may_release.Goals as goal

pub returns-then-holds : goal.returns-then-holds
returns-then-holds c below =
    let turn : Holds c.args.world.now.holders snapshots_turn c.args.by = search rules in
    let within : c.args.place < length c.args.actor.now.participant.registered = search rules in
    releases c.args.world.now c.args.by c.args.actor.now c.args.place turn within
