use Rattle.std.proofs.Common.{◌≡◌, ℕ, List, length}
use Rattle.std.specs.Option.{option_or}
use Rattle.wp_model.specs.Versions.{AreInOrder, version_at}
use Rattle.wp_merge.specs.Merge.{first_at}
use Rattle.wp_merge.proofs.merge.Merge.of.Given as goal

abbrev pub invariant-loop-source : goal.invariant-loop-source
invariant-loop-source l = record {
  in_order : AreInOrder l.versions.items;
  each : (key : List ℕ) (n : ℕ) → option_or (first_at l.sources.items key n) (version_at l.versions.items key n) ≡ first_at l.fn.sources.items key n;
}

abbrev pub decreases-loop-source : goal.decreases-loop-source
decreases-loop-source l = length l.sources.items
