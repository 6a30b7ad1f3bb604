use Rattle.std.proofs.Common.{◌≡◌, ◌∷◌, ◌++◌, ℕ, List, Option, map, [], sym, ap, subst, ◌∙◌}
use Rattle.std.specs.Arc.{arc_value}
use Rattle.std.specs.Option.{option_map}
use Rattle.std.proofs.lemmas.Result.{IfOk-weaker}
use Rattle.wp_model.specs.declared.version.Version.{Version}
use Rattle.wp_model.specs.Rows.{next_version}
use Rattle.wp_model.specs.Versions.{AreInOrder}
use Rattle.wp_merge.specs.Merge.{AreMerged}
use Rattle.wp_store.specs.Store.{parts_of, least_next, AreWords}
use Rattle.wp_store.proofs.NextVersion.{next_of_parts, words_merged}
use Rattle.wp_store.proofs.Taken.{all-append}
use Rattle.wp_store.proofs.store.Store.next_version.Goals as goal

pub returns-clause-found : goal.returns-clause-found
returns-clause-found c =
    let above = c.args.above in
    let key = c.args.key.now in
    let memory = c.self.inside.memory in
    let frozen = c.self.inside.frozen.items in
    let tables = map arc_value c.self.inside.tables.items in
    let least = c.least_in_frozen-least.ensures.found ∙ ap (λ o. least_next above key o frozen) c.next_in_memory-in_memory.ensures.found in
    let found = c.least_in_tables-found.ensures.found ∙ ap (λ o. least_next above key o tables) least in
    let in_order = all-append AreInOrder frozen tables c.least_in_frozen-least.ensures.in_order c.least_in_tables-found.ensures.in_order in
    let pair = option_map (λ (v : Version). (v.key, v ∷ [])) in
    IfOk-weaker c.copied_with_key.result _
    (λ (copy : Option (List ℕ × List Version)). (all : List Version) → AreMerged (parts_of c.args.self.now) all → copy ≡ pair (next_version above key all))
    (λ copy is all merged. is ∙ ap pair (found ∙ next_of_parts above key memory frozen tables all c.next_in_memory-in_memory.ensures.in_order in_order (subst (λ s. AreMerged (parts_of s) all) (sym c.self.view_is) merged))) c.copied_with_key.ensures

pub returns-clause-in_range : goal.returns-clause-in_range
returns-clause-in_range c = λ all is.
    let memory = c.self.inside.memory in
    let frozen = c.self.inside.frozen.items in
    let tables = map arc_value c.self.inside.tables.items in
    words_merged memory (frozen ++ tables) all c.next_in_memory-in_memory.ensures.in_order
    (all-append AreInOrder frozen tables c.least_in_frozen-least.ensures.in_order c.least_in_tables-found.ensures.in_order) c.next_in_memory-in_memory.ensures.in_range
    (all-append AreWords frozen tables c.least_in_frozen-least.ensures.in_range c.least_in_tables-found.ensures.in_range) (subst (λ s. AreMerged (parts_of s) all) (sym c.self.view_is) is)
