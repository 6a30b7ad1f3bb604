use Rattle.std.proofs.Common.{refl, sym, ap, ◌∙◌, eqb, get_or}
use Rattle.std.specs.List.{list_any}
use Rattle.std.proofs.lemmas.Bool.{eq-eqb}
use Rattle.std.proofs.lemmas.List.Folds.{list_any_at}
use Rattle.wp_history_laws.proofs.Undecided.{is_undecided_by_list}
use Rattle.wp_parts.proofs.base.end_of.Goals as goal

pub carried-requires : goal.carried-requires
carried-requires c =
    let items = c.undecided-p-items.result.now in
    let p = get_or items c.loop-p.p-index 0 in
    sym (is_undecided_by_list c.args.history.now.entries p) ∙ ap (list_any (λ k. eqb k p)) (sym c.undecided-p-items.ensures) ∙ list_any_at (λ k. eqb k p) items c.loop-p.p-index 0 c.loop-p-test.true (eq-eqb p p refl)
