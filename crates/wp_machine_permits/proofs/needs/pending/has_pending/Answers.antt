use Rattle.std.proofs.Common.{◌≡◌, Some, sym, ◌∙◌}
use Rattle.wp_core.specs.Entries.{next_of}
use Rattle.wp_machine_permits.proofs.Owning.{first_next}
use Rattle.wp_machine_permits.proofs.needs.pending.has_pending.Goals as goal

pub returns-in-Some : goal.returns-in-Some
returns-in-Some c =
    let is = rw c.in-Some.is at c.first.ensures.value in
    let next : next_of c.args.pending.now ≡ Some c.in-Some.entry.now = sym (is ∙ first_next c.args.pending.now) in
    rw next c.has_versions_of.ensures
