use Rattle.std.proofs.Common.{drop}
use Rattle.wp_machine_permits.proofs.ListFacts.{AreNotAt}
use Rattle.wp_machine_permits.proofs.needs.versions.are_not_at.Given as goal

abbrev pub invariant-loop-version : goal.invariant-loop-version
invariant-loop-version l = record {
  onward : AreNotAt l.n l.versions → AreNotAt l.n (drop l.version-index l.versions);
  back : AreNotAt l.n (drop l.version-index l.versions) → AreNotAt l.n l.versions;
}
