use Rattle.std.proofs.Common.{drop}
use Rattle.wp_machine_permits.proofs.ListFacts.{AreAmong}
use Rattle.wp_machine_permits.proofs.needs.versions.each_is_among.Given as goal

abbrev pub invariant-loop-version : goal.invariant-loop-version
invariant-loop-version l = record {
  onward : AreAmong l.versions l.others l.listed → AreAmong l.versions l.others (drop l.version-index l.listed);
  back : AreAmong l.versions l.others (drop l.version-index l.listed) → AreAmong l.versions l.others l.listed;
}
