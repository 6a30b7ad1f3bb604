use Rattle.std.proofs.Common.{rules, ◌≡◌, length, arith, sym, ap, subst, [], ◌∷◌, ◌++◌, map, take, ◌∙◌}
use Rattle.std.specs.Arc.{arc_value}
use Rattle.std.proofs.lemmas.List.{nil_from_length}
use Rattle.wp_model.specs.Versions.{AreInOrder}
use Rattle.wp_merge.specs.Merge.{AreMerged}
use Rattle.wp_store.specs.Store.{parts_of, newest_of}
use Rattle.wp_store.proofs.OneMerge.{AreAllInOrder, merged_alone}
use Rattle.wp_store.proofs.NewestOfKey.{in_order-take, newest_merged}
use Rattle.wp_store.proofs.Taken.{all-append, each_part}
use Rattle.wp_store.proofs.store.Store.collect.Goals as goal

pub returns-then-is_empty-2 : goal.returns-then-is_empty-2
returns-then-is_empty-2 c = λ all is.
    let memory = c.self.inside.memory in
    let none_frozen : length c.self.inside.frozen.items ≡ 0 = search (arith, rules) in
    let no_tables : length c.self.inside.tables.items ≡ 0 = search (arith, rules) in
    let frozen = nil_from_length c.self.inside.frozen.items none_frozen in
    let tables = ap (map arc_value) (nil_from_length c.self.inside.tables.items no_tables) in
    let alone = subst (λ ss. AreMerged ss all) (ap parts_of (sym c.self.view_is) ∙ (λ i. memory ∷ (frozen i ++ tables i))) is in
    c.in_ok-newest.ensures.newest ∙ ap (newest_of c.args.n c.args.key.now) (sym (merged_alone memory all c.in_ok-newest.ensures.in_order alone))

pub of-requires : goal.of-requires
of-requires c =
    subst AreInOrder (sym (c.truncate.ensures.items ∙ ap (take c.args.n) c.into_vec-found.ensures.value)) (in_order-take _ c.args.n c.into_vec-found.ensures.in_order)

pub returns : goal.returns
returns c = λ all is.
    let n = c.args.n in
    let key = c.args.key.now in
    let memory = c.self.inside.memory in
    let frozen = c.self.inside.frozen.items in
    let tables = map arc_value c.self.inside.tables.items in
    let pushed = c.in_ok-push.ensures.items ∙ (λ i. c.new-sources.ensures.items i ++ (c.in_ok-newest.ensures.newest i ∷ [])) in
    let sources = each_part (newest_of n key) memory frozen tables _ _ _ pushed c.in_ok-push_newest_frozen.ensures.newest c.in_ok-push_newest_tables.ensures.newest in
    let in_order : AreAllInOrder (memory ∷ frozen ++ tables) = (c.in_ok-newest.ensures.in_order, all-append AreInOrder frozen tables c.in_ok-push_newest_frozen.ensures.in_order c.in_ok-push_newest_tables.ensures.in_order) in
    let few = subst (λ ss. AreMerged ss c.in_ok-merged.field-0) sources c.in_ok-merged.ensures in
    let whole = subst (λ s. AreMerged (parts_of s) all) (sym c.self.view_is) is in
    c.of.ensures ∙ c.truncate.ensures.items ∙ ap (take n) c.into_vec-found.ensures.value ∙ newest_merged key n (memory ∷ frozen ++ tables) c.in_ok-merged.field-0 all in_order few whole
