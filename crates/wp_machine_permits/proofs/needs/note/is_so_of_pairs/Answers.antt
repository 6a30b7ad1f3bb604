use Rattle.std.proofs.Common.{rules, ◌≡◌}
use Rattle.wp_core.specs.Views.{none_waits}
use Rattle.wp_machine_permits.proofs.needs.note.is_so_of_pairs.Goals as goal

pub returns-in-NoneWaits : goal.returns-in-NoneWaits
returns-in-NoneWaits c a =
    let says : c.args.fact.now ≡ none_waits = search rules in
    rw says c.none_waits.ensures
