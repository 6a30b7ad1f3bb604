use Rattle.std.proofs.Common.{sym}
use Rattle.wp_machine_permits.proofs.needs.stored.has_version.Goals as goal

pub returns-in-Some : goal.returns-in-Some
returns-in-Some c =
    let is = rw c.in-Some.is at (c.entry_at.ensures.whole c.requires) in
    rw (sym is) c.has_versions_of.ensures
