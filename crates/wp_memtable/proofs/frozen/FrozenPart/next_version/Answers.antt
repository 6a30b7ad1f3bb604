use Rattle.std.proofs.Common.{◌≡◌, true, List, ap, subst, ◌∙◌}
use Rattle.std.specs.List.{list_all}
use Rattle.wp_model.specs.Rows.{next_version}
use Rattle.wp_model.specs.Versions.{AreInOrder}
use Rattle.wp_model.specs.Word.{is_key}
use Rattle.wp_model.specs.declared.version.Version.{Version}
use Rattle.wp_memtable.specs.Bounds.{between, is_between}
use Rattle.wp_memtable.proofs.Between.{in_order_between}
use Rattle.wp_memtable.proofs.NextVersion.{kept_words}
use Rattle.wp_memtable.proofs.frozen.FrozenPart.next_version.Goals as goal

pub returns-clause-found : goal.returns-clause-found
returns-clause-found c =
    let next = next_version c.args.above c.args.key.now in
    c.next_between.ensures.found ∙ ap (λ vs. next (between c.self.inside.bounds vs)) c.deref.ensures ∙ ap next c.self.view_is

pub returns-clause-in_order : goal.returns-clause-in_order
returns-clause-in_order c = subst AreInOrder (ap (between c.self.inside.bounds) c.deref.ensures ∙ c.self.view_is) (in_order_between c.self.inside.bounds _ c.next_between.ensures.in_order)

pub returns-clause-in_range : goal.returns-clause-in_range
returns-clause-in_range c = subst (λ (vs : List Version). list_all (λ v. is_key v.key) vs ≡ true) (ap (between c.self.inside.bounds) c.deref.ensures ∙ c.self.view_is) (kept_words (λ v. is_between c.self.inside.bounds v.number) _ c.next_between.ensures.in_range)
