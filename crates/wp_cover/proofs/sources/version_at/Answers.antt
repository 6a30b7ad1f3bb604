use Rattle.std.proofs.Common.{rules, sym, ap, ◌∙◌, subst, List, Some}
use Rattle.std.proofs.lemmas.Fn.{always_returns_same}
use Rattle.wp_model.specs.declared.version.Version.{Version}
use Rattle.wp_model.specs.Versions.{AreInOrder, version_at}
use Rattle.wp_cover.specs.Present.{place_cmp}
use Rattle.wp_cover.proofs.Order.{found_at, none_found}
use Rattle.wp_cover.proofs.sources.version_at.Goals as goal

pub returns-in-Ok : goal.returns-in-Ok
returns-in-Ok c =
    let order = subst AreInOrder (sym c.as_slice-list.ensures.value) c.as_slice-list.ensures.in_order in
    let found = c.in-Ok.ensures.position (place_cmp c.args.key.now c.args.number) (always_returns_same _ _ _ (λ a r g called. search rules)) in
    let here = c.index-list-i.result in
    let there = found_at c.args.key.now c.args.number c.as_slice-list.result.now c.in-Ok.i here order c.in-Ok.ensures.bound (found here) in
    ap (λ v. Some v) (c.bytes_of.ensures ∙ c.as_ref.ensures.value) ∙ sym there ∙ ap (λ (vs : List Version). version_at vs c.args.key.now c.args.number) c.as_slice-list.ensures.value

pub returns-in-Err : goal.returns-in-Err
returns-in-Err c =
    let order = subst AreInOrder (sym c.as_slice-list.ensures.value) c.as_slice-list.ensures.in_order in
    let parted = c.in-Err.ensures.position (place_cmp c.args.key.now c.args.number) (always_returns_same _ _ _ (λ a r g called. search rules)) in
    sym (none_found c.args.key.now c.args.number c.as_slice-list.result.now c.in-Err.field-0 order parted) ∙ ap (λ (vs : List Version). version_at vs c.args.key.now c.args.number) c.as_slice-list.ensures.value
