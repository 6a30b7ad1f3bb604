use Rattle.std.proofs.Common.{rules, ◌≡◌}
use Rattle.wp_machine_permits.proofs.permitted.publishing.is_of_own.Goals as goal

pub returns-in-Some : goal.returns-in-Some
returns-in-Some c owns name is =
    let same : c.in-Some.name.now ≡ name = search rules in
    rw same at c.is_own.ensures owns
