use Rattle.std.proofs.Common.{ap, ◌∙◌}
use Rattle.std.specs.declared.ops.Bound.{Bound}
use Rattle.std.specs.declared.ops.Bound.TheVariants.{Unbounded}
use Rattle.std.specs.BTreeMap.Range.{entries_between}
use Rattle.std.specs.Prelude.{ℕ, List}
use Rattle.wp_model.specs.Batch.{key_cmp}
use Rattle.wp_memtable.proofs.NextVersion.{first_with, next_from}
use Rattle.wp_memtable.proofs.memtable.first_between.Goals as goal

pub loop-other-init : goal.loop-other-init
loop-other-init c =
    let entries = c.args.places.now.entries in
    let from = c.range-other-items.ensures.between tt ∙ ap (λ (start : Bound (List ℕ)). entries_between key_cmp start Unbounded entries) c.start_at.ensures in
    ap (first_with c.args.bounds) c.into_iter-other-iterator.ensures.into_iter_gives ∙ next_from c.args.above c.args.key.now c.args.bounds _ entries from
