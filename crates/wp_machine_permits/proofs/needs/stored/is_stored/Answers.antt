use Rattle.std.proofs.Common.{ap, arith}
use Rattle.wp_model.specs.Flushed.{InstalledEdit}
use Rattle.wp_machine_permits.proofs.needs.stored.is_stored.Goals as goal

pub returns : goal.returns
returns c =
    let flushed = ap (λ (e : InstalledEdit). e.flushed) c.last.view_is in
    let versions = rw flushed at (c.are_versions.ensures c.if-not-are_versions.false) in
    let edits = c.in_ok-are_edits.ensures c.if-not-branch.false in
    λ halted e. record {
      covered = c.in_ok-yes.ensures e;
      based = omega (arith, flushed);
      floor = omega (arith, c.published.ensures.value);
      next = versions.0;
      tables = versions.1;
      last = edits.0;
      failed = edits.1;
      in_memory = versions.2;
    }
