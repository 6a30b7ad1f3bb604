use Rattle.std.proofs.Common.{arith}
use Rattle.std.proofs.lemmas.Grind.{common_steps}
use Rattle.std.proofs.Common.{map, sym, ap, subst, ◌∙◌}
use Rattle.std.specs.Arc.{arc_value}
use Rattle.std.specs.VecDeque.Iter.{deque_iter_rest}
use Rattle.wp_model.specs.Versions.{AreInOrder, version_at}
use Rattle.wp_model.proofs.VersionLists.{in_order_nil}
use Rattle.std.specs.Option.{option_or}
use Rattle.wp_merge.specs.Merge.{first_at, merge_of}
use Rattle.wp_merge.proofs.Merged.{in_order-merge, merged_next}
use Rattle.wp_merge.proofs.merge.Merge.of_tables.Goals as goal

pub loop-table-init : goal.loop-table-init
loop-table-init c =
    rw c.new-versions.ensures.items (record { in_order = in_order_nil; each = λ key n. ap (λ tables. first_at (map arc_value tables) key n) c.into_iter-table-iterator.ensures.into_iter_gives.0 })

pub loop-table-preserved : goal.loop-table-preserved
loop-table-preserved c =
    let before = c.loop-table.invariant in
    let versions = c.loop-table.versions.items in
    let rest = map arc_value (deque_iter_rest c.next.new.self) in
    let is = c.in_ok-versions.ensures.merged ∙ ap (merge_of versions) c.deref.ensures in
    let order = subst AreInOrder c.deref.ensures c.in_ok-versions.ensures.in_order in
    record {
      in_order = subst AreInOrder (sym is) (in_order-merge versions _ before.in_order order);
      each = λ key n. merged_next key n versions _ c.in_ok-versions.versions.items rest is before.in_order ∙ ap (λ tables. option_or (version_at versions key n) (first_at (map arc_value tables) key n)) (sym c.in-Some.ensures.steps) ∙ before.each key n;
    }

pub returns : goal.returns
returns c = grind (arith, common_steps)
