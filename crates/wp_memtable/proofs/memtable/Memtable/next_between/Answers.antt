use Rattle.std.proofs.Common.{◌≡◌, true, List, subst}
use Rattle.std.specs.List.{list_all}
use Rattle.wp_model.specs.declared.version.Version.{Version}
use Rattle.wp_model.specs.Word.{is_key}
use Rattle.wp_model.specs.Versions.{AreInOrder}
use Rattle.wp_memtable.proofs.Listed.{in_order-versions_in, words_in}
use Rattle.wp_memtable.proofs.memtable.Memtable.next_between.Goals as goal

pub returns-clause-in_order : goal.returns-clause-in_order
returns-clause-in_order c = subst AreInOrder c.self.view_is (in_order-versions_in _ c.self.invariant.0)

pub returns-clause-in_range : goal.returns-clause-in_range
returns-clause-in_range c = subst (λ (vs : List Version). list_all (λ v. is_key v.key) vs ≡ true) c.self.view_is (words_in c.self.inside.places.entries c.self.invariant.0.words)
