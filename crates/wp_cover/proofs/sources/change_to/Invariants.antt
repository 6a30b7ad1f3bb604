use Rattle.std.proofs.Common.{◌≡◌, drop}
use Rattle.wp_model.specs.Batch.{change_to}
use Rattle.wp_cover.proofs.sources.change_to.Given as goal

abbrev pub invariant-loop-change : goal.invariant-loop-change
invariant-loop-change l = change_to (drop l.change-index l.change-items) l.key ≡ change_to l.batch l.key
