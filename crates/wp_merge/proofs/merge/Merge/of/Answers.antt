use Rattle.std.proofs.Common.{sym, ap, subst, ◌∙◌}
use Rattle.wp_model.specs.Versions.{AreInOrder}
use Rattle.wp_merge.specs.Merge.{first_at, merge_of}
use Rattle.wp_model.proofs.VersionLists.{in_order_nil}
use Rattle.wp_merge.proofs.Merged.{in_order-merge, or_none, merged_more}
use Rattle.wp_merge.proofs.merge.Merge.of.Goals as goal

pub loop-source-init : goal.loop-source-init
loop-source-init c =
    rw c.new-versions.ensures.items (record { in_order = in_order_nil; each = λ key n. or_none key n (first_at c.args.sources.items key n) })

pub loop-source-preserved : goal.loop-source-preserved
loop-source-preserved c =
    let is = c.in_ok-versions.ensures ∙ ap (λ source. merge_of source c.loop-source.versions.items) (c.from_vec.ensures.items ∙ c.into_vec.ensures.value) in
    record {
      in_order = subst AreInOrder (sym is) (in_order-merge _ _ c.into_vec.ensures.in_order c.loop-source.invariant.in_order);
      each = λ key n. merged_more key n _ _ c.in-Some.source c.loop-source.versions.items _ c.in-Some.ensures.items is c.into_vec.ensures.in_order ∙ c.loop-source.invariant.each key n;
    }
