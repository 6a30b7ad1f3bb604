use Rattle.std.proofs.Common.{rules, Bool, ℕ, false, List, get_or, set, sym, ap, ◌∙◌}
use lib.ListN.{get_elem?}
use Rattle.wp_rule.proofs.Ends.{six_empty, six_there, leaves}
use Rattle.wp_rule.proofs.words.Words.close.Goals as goal

pub free-requires : goal.free-requires
free-requires g c k low =
    let off = λ (f : List Bool) (i : ℕ). set f i false in
    let all = c.take-6.ensures.others.1 ∙ ap (λ f. off f 5) (c.take-5.ensures.others.1 ∙ ap (λ f. off f 4) (c.take-4.ensures.others.1 ∙ ap (λ f. off f 3) (c.take-3.ensures.others.1 ∙ ap (λ f. off f 2) (c.take-2.ensures.others.1 ∙ ap (λ f. off f 1) c.take.ensures.others.1)))) in
    ap (λ f. get_or f k false) all ∙ six_empty _ k (search rules)

pub returns : goal.returns
returns g c =
    let a1 = c.take.ensures.others.0 in let a2 = c.take-2.ensures.others.0 ∙ a1 in let a3 = c.take-3.ensures.others.0 ∙ a2 in let a4 = c.take-4.ensures.others.0 ∙ a3 in let a5 = c.take-5.ensures.others.0 ∙ a4 in
    let first = c.requires.first in let all = c.requires.all in
    leaves g.S.HoldsPart.content g.S.HoldsPart.tells _ _ c.args.first.id c.args.first.me.0 _ _ _ c.self.view_is first.1 all.0 all.1 c.close_with-closed.ensures.values.2
    (six_there _ _ c.take.ensures.value (ap (λ xs. get_elem? xs 1) (sym a1) ∙ c.take-2.ensures.value) (ap (λ xs. get_elem? xs 2) (sym a2) ∙ c.take-3.ensures.value) (ap (λ xs. get_elem? xs 3) (sym a3) ∙ c.take-4.ensures.value)
    (ap (λ xs. get_elem? xs 4) (sym a4) ∙ c.take-5.ensures.value) (ap (λ xs. get_elem? xs 5) (sym a5) ∙ c.take-6.ensures.value))
