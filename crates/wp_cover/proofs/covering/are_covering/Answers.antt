use Rattle.std.proofs.Common.{sym, ◌∙◌}
use Rattle.std.proofs.lemmas.Result.{IfOk-weaker}
use Rattle.wp_cover.specs.Sources.{all_of}
use Rattle.wp_cover.proofs.Presence.{batches_there}
use Rattle.wp_cover.proofs.Together.{covered}
use Rattle.wp_cover.proofs.covering.are_covering.Goals as goal

pub returns-then-not-is_part : goal.returns-then-not-is_part
returns-then-not-is_part c = (λ no. absurd cc, λ is. sym c.if-not-is_part.true ∙ c.in_ok-is_part.ensures.1 is.part)

pub returns-then-not-has_undecided : goal.returns-then-not-has_undecided
returns-then-not-has_undecided c = (λ no. absurd cc, λ is. sym c.if-not-has_undecided.true ∙ c.has_undecided.ensures.1 (batches_there c.args.sources.now.history.now.entries (all_of c.args.sources.now) is.undecided))

pub returns-then-not-has_undone : goal.returns-then-not-has_undone
returns-then-not-has_undone c = (λ no. absurd cc, λ is. sym c.if-not-has_undone.true ∙ c.has_undone.ensures.1 is.undone)

pub gives_listed-requires-clause-same : goal.gives_listed-requires-clause-same
gives_listed-requires-clause-same c = sym c.in_ok-decisions.ensures

pub gives_later-requires-clause-same : goal.gives_later-requires-clause-same
gives_later-requires-clause-same c = sym c.in_ok-decisions.ensures

pub returns : goal.returns
returns c =
    IfOk-weaker c.gives_later.result _ _ (λ yes later. covered c.args.sources.now.history.now.entries _ (all_of c.args.sources.now) c.args.numbers.now c.args.from yes c.in_ok-decisions.ensures (c.in_ok-is_part.ensures.0 c.if-not-is_part.false) (c.has_undecided.ensures.0 c.if-not-has_undecided.false) (c.has_undone.ensures.0 c.if-not-has_undone.false) (c.in_ok-gives_listed.ensures.0 c.if-not-branch.false) later) c.gives_later.ensures
