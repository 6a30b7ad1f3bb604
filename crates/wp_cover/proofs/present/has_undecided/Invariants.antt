use Rattle.std.proofs.Common.{drop}
use Rattle.wp_model.specs.History.{undecided}
use Rattle.wp_cover.specs.Present.{HasBatches}
use Rattle.wp_cover.specs.Sources.{all_of}
use Rattle.wp_cover.proofs.present.has_undecided.Given as goal

abbrev pub invariant-loop-p : goal.invariant-loop-p
invariant-loop-p l = record {
  onward : HasBatches l.sources.history.now.entries (all_of l.sources) (undecided l.sources.history.now.entries) → HasBatches l.sources.history.now.entries (all_of l.sources) (drop l.p-index l.p-items);
  back : HasBatches l.sources.history.now.entries (all_of l.sources) (drop l.p-index l.p-items) → HasBatches l.sources.history.now.entries (all_of l.sources) (undecided l.sources.history.now.entries);
}
