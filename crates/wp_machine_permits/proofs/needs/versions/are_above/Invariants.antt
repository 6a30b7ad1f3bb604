use Rattle.std.proofs.Common.{drop}
use Rattle.wp_machine_permits.proofs.ListFacts.{AreAbove}
use Rattle.wp_machine_permits.proofs.needs.versions.are_above.Given as goal

abbrev pub invariant-loop-version : goal.invariant-loop-version
invariant-loop-version l = record {
  onward : AreAbove l.flushed l.versions → AreAbove l.flushed (drop l.version-index l.versions);
  back : AreAbove l.flushed (drop l.version-index l.versions) → AreAbove l.flushed l.versions;
}
