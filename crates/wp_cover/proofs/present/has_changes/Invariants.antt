use Rattle.std.proofs.Common.{drop}
use Rattle.wp_cover.specs.Sources.{all_of}
use Rattle.wp_cover.proofs.Presence.{AreThere}
use Rattle.wp_cover.proofs.present.has_changes.Given as goal

abbrev pub invariant-loop-change : goal.invariant-loop-change
invariant-loop-change l = record {
  onward : AreThere (all_of l.sources) l.number l.batch → AreThere (all_of l.sources) l.number (drop l.change-index l.change-items);
  back : AreThere (all_of l.sources) l.number (drop l.change-index l.change-items) → AreThere (all_of l.sources) l.number l.batch;
}
