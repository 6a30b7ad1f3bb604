use Rattle.std.proofs.Common.{[], ◌∷◌, ◌++◌, sym, ap, subst, ◌∙◌}
use Rattle.wp_model.specs.Versions.{AreInOrder}
use Rattle.wp_model.proofs.VersionLists.{in_order_nil, in_order_cons}
use Rattle.wp_store.proofs.next_version.copied_with_key.Goals as goal

pub of-requires : goal.of-requires
of-requires c =
    let copy = c.in_ok-copy.copy in
    let pushed = c.in_ok-push.ensures.items ∙ ap (λ list. list ++ copy ∷ []) c.in_ok-list.ensures.items in
    subst AreInOrder (sym pushed) (in_order_cons copy [] tt in_order_nil)
