use Rattle.std.proofs.Common.{ℕ, ◌∷◌, [], ◌++◌, List, sym, ap, subst, take, ◌∙◌}
use Rattle.std.proofs.lemmas.List.{take_more}
use Rattle.wp_model.specs.declared.carried.Carried.{Carried}
use Rattle.wp_history.specs.Holders.{Holds}
use Rattle.wp_history.proofs.Holding.{first_collides}
use Rattle.wp_history.proofs.Taking.{not_true}
use Rattle.wp_history.proofs.holders.Holders.of.Goals as goal

pub returns-then-not-free-clause-err : goal.returns-then-not-free-clause-err
returns-then-not-free-clause-err c =
    let prepares = c.args.prepares.now in
    let i : ℕ = c.loop-x.x-index in
    let x : Carried = c.x-item.result in
    let takes = c.in_ok-free.ensures (take i prepares) c.loop-x.invariant in
    first_collides prepares i x c.loop-x-test.true c.x-item.is c.loop-x.invariant.apart (not_true _ (sym takes.apart ∙ c.if-not-free.true))

pub loop-x-preserved : goal.loop-x-preserved
loop-x-preserved c =
    let prepares = c.args.prepares.now in
    let i : ℕ = c.loop-x.x-index in
    let x : Carried = c.x-item.result in
    let takes = c.in_ok-free.ensures (take i prepares) c.loop-x.invariant in
    subst (λ (xs : List Carried). Holds xs c.take.new.self) (sym (take_more prepares i x c.loop-x-test.true ∙ ap (λ (y : Carried). take i prepares ++ y ∷ []) (sym c.x-item.is)))
    (takes.holds c.if-not-free.false)
