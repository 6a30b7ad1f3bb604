use Rattle.std.proofs.Common.{drop}
use Rattle.wp_machine_permits.proofs.Changes.{AreThere}
use Rattle.wp_machine_permits.proofs.needs.versions.are_there.Given as goal

abbrev pub invariant-loop-change : goal.invariant-loop-change
invariant-loop-change l = record {
  onward : AreThere l.versions l.number l.batch l.changes → AreThere l.versions l.number l.batch (drop l.change-index l.changes);
  back : AreThere l.versions l.number l.batch (drop l.change-index l.changes) → AreThere l.versions l.number l.batch l.changes;
}
