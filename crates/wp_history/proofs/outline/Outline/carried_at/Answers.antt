use Rattle.std.proofs.Common.{◌≡◌, ◌==◌, Some, None, rules, sym, ap, ◌∙◌}
use Rattle.std.specs.Prelude.{option_map}
use Rattle.std.specs.List.{find}
use Rattle.wp_model.specs.declared.carried.Carried.{Carried}
use Rattle.wp_history.specs.History.{cut_of}
use Rattle.wp_history.proofs.Full.{name_and_batch, prepare_carried}
use Rattle.wp_history.proofs.outline.Outline.carried_at.Goals as goal

pub carried_in-requires : goal.carried_in-requires
carried_in-requires c = rw c.deref.ensures.value c.self.invariant.0.cut.numbered.ascend

pub returns-in_err-carried : goal.returns-in_err-carried
returns-in_err-carried c =
    let inside = c.self.inside in
    let none : find (λ (x : Carried). x.number == c.args.p) inside.carried.items ≡ None = search rules in
    let nothing : option_map (λ t. (t.0.now, t.1.now)) c.from_residual.result ≡ None = search rules in
    rw (← c.self.view_is) (nothing ∙ ap (option_map name_and_batch) (sym none) ∙ prepare_carried (cut_of inside.base inside.carried.items inside.later.items) inside.versions.value c.args.p c.self.invariant.0.cut.numbered (rw (← c.self.view_is) at c.requires))

pub returns : goal.returns
returns c =
    let inside = c.self.inside in
    let found : find (λ (x : Carried). x.number == c.args.p) inside.carried.items ≡ Some c.in_ok-carried.carried.now = search rules in
    rw (← c.self.view_is) (ap (option_map name_and_batch) (sym found) ∙ prepare_carried (cut_of inside.base inside.carried.items inside.later.items) inside.versions.value c.args.p c.self.invariant.0.cut.numbered (rw (← c.self.view_is) at c.requires))
