use Rattle.std.proofs.Common.{sym, ◌∙◌, eq-eqb, arith}
use Rattle.std.proofs.lemmas.Bool.{eqb-true}
use Rattle.wp_prepared.proofs.Commits.{empty_none, none_empty}
use Rattle.wp_prepared.proofs.delayed.DelayedSet.is_empty.Goals as goal

pub returns : goal.returns
returns c =
    let es = c.self.inside.entries in
    rw (← c.self.view_is) (
      λ empty. empty_none es.items (omega (arith, es.ok, eqb-true _ _ (sym c.is_empty.ensures ∙ empty))),
      λ none. c.is_empty.ensures ∙ eq-eqb _ _ (omega (arith, es.ok, none_empty es.items none.0)),
    )
