use Rattle.std.proofs.Common.{sym, ◌∙◌}
use Rattle.wp_history.proofs.outline.Outline.may_decide.Goals as goal

pub returns-in-Undo-clause-may : goal.returns-in-Undo-clause-may
returns-in-Undo-clause-may c =
    let closed = rw c.in-Undo.is at (c.is_closed_by.ensures.0 c.if-not-is_closed_by.false) in
    rw c.in-Undo.is (
      λ undecided. record { names_undecided = sym c.is_undecided-in-Undo.ensures ∙ undecided; undo_is_closed = closed },
      λ may. c.is_undecided-in-Undo.ensures ∙ may.names_undecided,
    )
