use Rattle.std.proofs.Common.{drop}
use Rattle.wp_cover.specs.Present.{ArePart}
use Rattle.wp_cover.proofs.present.is_list_part.Given as goal

abbrev pub invariant-loop-version : goal.invariant-loop-version
invariant-loop-version l = record {
  onward : ArePart l.history l.versions → ArePart l.history (drop l.version-index l.version-items);
  back : ArePart l.history (drop l.version-index l.version-items) → ArePart l.history l.versions;
}
