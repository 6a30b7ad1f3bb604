use Rattle.std.proofs.Common.{[], ◌∷◌, ◌++◌, sym, ap, ◌∙◌, subst}
use Rattle.wp_model.specs.declared.version.Version.{Version}
use Rattle.wp_model.specs.Versions.{AreInOrder}
use Rattle.wp_checkpoint.proofs.RowLists.{Ascend, rows_in_order, so_far_all, so_far_more}
use Rattle.wp_checkpoint.proofs.image.row_versions.Goals as goal

pub loop-versions-preserved : goal.loop-versions-preserved
loop-versions-preserved g c =
    let first = rw c.in-Some.is at c.in_ok-row.ensures.row in
    let given = rw c.in-Some.is at c.in_ok-row.ensures.given in
    let before = c.loop-versions.invariant in
    record {
      so_far = so_far_more _ _ _ _ c.loop-versions.versions.items c.push.new.self.items c.in-Some.row first (before.still c.in-Some.row given)
          (c.in_ok-push.ensures.items ∙ ap (λ (v : Version). c.loop-versions.versions.items ++ v ∷ []) c.version_of.ensures) before.so_far;
      still = λ row gives. before.still row (c.next.ensures.still row gives);
      later = g.met.R.Rows.again _ _ _ before.later c.next.ensures.later;
    }

pub of-requires : goal.of-requires
of-requires g c =
    let first = rw c.in_default.is at c.in_ok-row.ensures.row in
    let made = so_far_all _ _ _ c.loop-versions.versions.items first.0 c.loop-versions.invariant.so_far in
    subst AreInOrder (sym made.are) (rows_in_order made.rows (subst Ascend (sym made.all) c.requires.ascend))
