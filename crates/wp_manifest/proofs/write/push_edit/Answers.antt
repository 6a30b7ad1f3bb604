use Rattle.std.proofs.Common.{◌++◌, ℕ, List, Some, ap, ◌∙◌}
use Rattle.wp_manifest.specs.Edit.{Edit, front_bytes, places_bytes}
use Rattle.wp_manifest.proofs.EditLemmas.{edit_pushed}
use Rattle.wp_manifest.proofs.write.push_edit.Goals as goal

pub returns-clause-pushed : goal.returns-clause-pushed
returns-clause-pushed c =
    let edit : Edit = record { flushed = c.edit.inside.flushed; place = c.edit.inside.place; tables = c.edit.inside.tables.items } in
    let count = c.len.ensures ∙ c.edit.inside.tables.ok.0 in
    let front = c.in_ok-push_front.ensures.pushed ∙ ap (λ (n : ℕ). c.args.out.now.items ++ front_bytes (Some c.in-Some.place) edit.flushed n) count in
    let all = c.in_ok-push_places.ensures.pushed ∙ ap (λ (tables : List (ℕ × ℕ)). c.push_front.new.out.items ++ places_bytes tables) c.deref.ensures.value in
    rw (← c.edit.view_is) (edit_pushed c.args.out.now.items c.push_front.new.out.items c.push_places.new.out.items edit c.in-Some.place c.in-Some.is front all)
