use Rattle.std.proofs.Common.{sym, subst}
use Rattle.wp_model.specs.Versions.{AreInOrder}
use Rattle.wp_model.proofs.VersionLists.{in_order_nil}
use Rattle.wp_history.proofs.outline.no_versions.Goals as goal

pub of-none-requires : goal.of-none-requires
of-none-requires c = subst AreInOrder (sym c.new.ensures.items) in_order_nil
