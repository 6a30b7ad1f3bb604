use Rattle.std.proofs.Common.{List, sym, ap, ◌∙◌}
use Rattle.wp_model.specs.declared.version.Version.{Version}
use Rattle.wp_model.specs.Versions.{version_at}
use Rattle.wp_merge.specs.Merge.{first_at}
use Rattle.wp_machine_permits.proofs.Stores.{of_singles}
use Rattle.wp_machine_permits.proofs.needs.order.in_order.Goals as goal

pub returns : goal.returns
returns c = λ key p. sym (ap (λ (xs : List Version). version_at xs key p) (c.of-2.ensures ∙ c.in_ok-versions.ensures) ∙ c.in_ok-merge.ensures.each key p ∙ ap (λ (s : List (List Version)). first_at s key p) c.in_ok-singles.ensures ∙ of_singles c.args.list.now key p)
