use Rattle.std.proofs.Common.{rules, ◌≡◌, Some, true}
use Rattle.std.specs.List.{slice_get}
use Rattle.wp_core.specs.Turns.{Holds, write_turn}
use Rattle.wp_machine_permits.specs.Permits.{IsEntitled, IsMade}
use Rattle.wp_machine_permits.proofs.Held.{publishes}
use Rattle.wp_machine_permits.proofs.permitted.publishing.may_publish.Goals as goal

pub returns : goal.returns
returns c yes_made =
    let first : Some c.in-Some.entry.now ≡ slice_get c.args.world.now.writes.pending 0 = search rules in
    let turn : Holds c.args.world.now.holders write_turn c.args.by = search rules in
    let logged : c.args.world.now.writes.logged ≡ true = search rules in
    let entitled : IsEntitled c.args.world.now c.args.actor.now c.in-Some.entry.now = search rules in
    let made : IsMade c.args.world.now c.in-Some.entry.now = search rules in
    publishes c.args.world.now c.args.by c.args.actor.now c.in-Some.entry.now first turn logged entitled made
