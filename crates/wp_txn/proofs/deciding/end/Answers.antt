use Rattle.std.proofs.Common.{◌≡◌, ◌≤◌, ◌^◌, ◌∙◌, ℕ, Some, false, sym, subst, ap, true≢false}
use Rattle.wp_judge.specs.Words.{CommitPair, fits}
use Rattle.wp_model.specs.Decision.{decision_of}
use Rattle.wp_core.specs.Lists.{IsIn}
use Rattle.wp_core.specs.Views.{has_left}
use Rattle.wp_core.specs.World.{Participant}
use Rattle.wp_open_txns.specs.Calls.{Frees}
use Rattle.wp_open_txns.specs.Txn.{PreparedState, HasLocked}
use Rattle.wp_txn.proofs.Ends.{freed_then}
use Rattle.wp_txn.proofs.deciding.end.Goals as goal

pub free-requires-clause-has : goal.free-requires-clause-has
free-requires-clause-has g c = subst (λ (txn : PreparedState). HasLocked c.args.seat.now txn.name txn.batch txn.locked) (sym c.txn.view_is) c.requires.has

pub fits-requires-clause-ordered : goal.fits-requires-clause-ordered
fits-requires-clause-ordered g c = subst (λ (txn : PreparedState). txn.number ≤ c.args.decision) (sym c.txn.view_is) c.requires.decided.1

pub returns-then-not-fits-clause-frees : goal.returns-then-not-fits-clause-frees
returns-then-not-fits-clause-frees g c = subst (λ (txn : PreparedState). Frees c.args.store.now c.args.seat.now c.free.new.seat txn.name) c.txn.view_is c.free.ensures

-- the pair fits no word
pub returns-then-not-fits-clause-gone : goal.returns-then-not-fits-clause-gone
returns-then-not-fits-clause-gone g c narrow =
    let pair : PreparedState → CommitPair = λ txn. record { number = txn.number; decision = c.args.decision } in
    let wide : fits c.args.store.now.cells (pair c.args.txn) ≡ false =
    ap (λ (n : ℕ). fits n (pair c.args.txn)) c.bits.ensures.1 ∙ (ap (λ (txn : PreparedState). fits (2 ^ c.bits.result) (pair txn)) (sym c.txn.view_is) ∙ (sym c.fits.ensures ∙ c.if-not-fits.true)) in
    absurd (true≢false (sym narrow ∙ wide))

pub forget_prepared-requires-clause-decided : goal.forget_prepared-requires-clause-decided
forget_prepared-requires-clause-decided g c =
    let number = c.txn.inside.number in (
      c.args.decision,
      ap (λ (p : Participant). decision_of p.seen number) c.free.ensures.same ∙ subst (λ (txn : PreparedState). decision_of c.args.seat.now.knows.participant.seen txn.number ≡ Some c.args.decision) (sym c.txn.view_is) c.requires.decided.0,
      ap (λ n. fits n (record { number = number; decision = c.args.decision })) c.bits.ensures.1 ∙ (sym c.fits.ensures ∙ c.if-not-fits.false),
    )

pub returns-clause-frees : goal.returns-clause-frees
returns-clause-frees g c =
    subst (λ (txn : PreparedState). Frees c.args.store.now c.args.seat.now c.forget_prepared.new.seat txn.name) c.txn.view_is
    (freed_then c.args.store.now c.args.seat.now c.free.new.seat c.forget_prepared.new.seat c.txn.inside.name c.free.ensures c.forget_prepared.ensures.seat c.forget_prepared.ensures.same)

pub returns-clause-gone : goal.returns-clause-gone
returns-clause-gone g c narrow = subst (λ (txn : PreparedState). IsIn (has_left txn.number) c.forget_prepared.new.seat.knows.notes) c.txn.view_is c.forget_prepared.ensures.gone
