use Rattle.std.proofs.Common.{rules, ◌≡◌, Some, drop}
use Rattle.std.specs.List.{slice_get}
use Rattle.wp_model.specs.declared.entry.Entry.TheVariants.{Prepare}
use Rattle.wp_core.specs.Turns.{Holds, write_turn, prepared_turn}
use Rattle.wp_machine_permits.proofs.Held.{front_of}
use Rattle.wp_machine_permits.proofs.permitted.prepared.is_prepare_pending.Goals as goal

pub returns-in-Some-Prepare : goal.returns-in-Some-Prepare
returns-in-Some-Prepare c _ =
    let first : Some (Prepare c.in-Some-Prepare.field-0-0 c.in-Some-Prepare.field-0-1) ≡ slice_get c.args.world.now.writes.pending 0 = search rules in
    let write : Holds c.args.world.now.holders write_turn c.args.by = search rules in
    let prepared : Holds c.args.world.now.holders prepared_turn c.args.by = search rules in
    (write, prepared, (c.in-Some-Prepare.field-0-0, c.in-Some-Prepare.field-0-1, drop 1 c.args.world.now.writes.pending, front_of c.args.world.now.writes.pending _ first))
