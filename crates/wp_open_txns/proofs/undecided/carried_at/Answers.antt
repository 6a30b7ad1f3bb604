use Rattle.std.proofs.Common.{ℕ, ◌≤◌, List, length, map, take, subst, ap, ◌∙◌, take_all}
use Rattle.wp_model.specs.History.{undecided}
use Rattle.wp_cuts.specs.Cut.{carried_from}
use Rattle.wp_open_txns.proofs.UndecidedAt.{carried_alike, prepared_at}
use Rattle.wp_open_txns.proofs.undecided.carried_at.Goals as goal

pub carried-requires : goal.carried-requires
carried-requires c =
    let are = c.deref-p-items.ensures.value ∙ c.in_ok-numbers.ensures in
    prepared_at c.args.history.now.entries c.args.n c.requires.within c.deref-p-items.result.now c.loop-p.p-index are c.loop-p-test.true

pub returns : goal.returns
returns c =
    let history = c.args.history.now.entries in
    let are = c.deref-p-items.ensures.value ∙ c.in_ok-numbers.ensures in
    let done = subst (λ (ps : List ℕ). length ps ≤ c.loop-p.p-index) are c.loop-p-test.false in
    c.loop-p.invariant ∙ ap (map (carried_from history)) (take_all c.loop-p.p-index (undecided (take c.args.n history)) done) ∙ carried_alike history c.args.n c.requires.within
