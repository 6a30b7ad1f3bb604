use Rattle.std.proofs.Common.{rules, ◌≡◌}
use Rattle.wp_core.specs.Views.{unchanged}
use Rattle.wp_machine_permits.proofs.needs.note.is_so.Goals as goal

pub returns-in_default : goal.returns-in_default
returns-in_default c = c.is_so_of_versions.ensures c.args.participant.now

pub returns-in-Unchanged : goal.returns-in-Unchanged
returns-in-Unchanged c =
    let says : c.args.fact.now ≡ unchanged c.in-Unchanged.name c.in-Unchanged.key c.in-Unchanged.n = search rules in
    let same : c.deref-in-Unchanged.result.now ≡ c.args.world.now.writes.history = search rules in
    rw (says, ← same) c.has_unchanged.ensures
