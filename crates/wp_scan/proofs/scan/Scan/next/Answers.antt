use Rattle.std.proofs.Common.{Some, None, refl, sym, subst, ap, ◌∙◌}
use Rattle.std.proofs.lemmas.Result.{err_from_is_err_and}
use Rattle.wp_core.specs.Lists.{IsIn}
use Rattle.wp_core.specs.World.{Participant}
use Rattle.wp_shared.proofs.Onward.{continues_none, continues_still}
use Rattle.wp_scan.specs.Scan.{left_of, IsShownAt}
use Rattle.wp_scan.specs.Step.{IsStep, IsVersionOf}
use Rattle.wp_scan.proofs.Passing.{first_gives_on, passed_on, row_on, end_on, refused_on}
use Rattle.wp_scan.proofs.scan.Scan.next.Goals as goal

pub loop-init : goal.loop-init
loop-init g c = record { continues = continues_none c.args.store.now c.args.seat.now c.requires.free; same = refl; left = refl }

pub go_on-requires-clause-free : goal.go_on-requires-clause-free
go_on-requires-clause-free g c = c.loop.invariant.continues.free

pub go_on-requires-clause-registered : goal.go_on-requires-clause-registered
go_on-requires-clause-registered g c = subst (λ (p : Participant). IsIn c.args.snapshot.now p.registered) (sym c.loop.invariant.same) c.requires.registered

pub returns-in_err-step-clause-continues : goal.returns-in_err-step-clause-continues
returns-in_err-step-clause-continues g c =
    continues_still c.args.store.now c.args.seat.now c.loop.seat c.go_on.new.seat c.args.seat.now.knows.participant c.loop.invariant.continues c.go_on.ensures.continues

pub returns-in_err-step-clause-same : goal.returns-in_err-step-clause-same
returns-in_err-step-clause-same g c = c.go_on.ensures.same ∙ c.loop.invariant.same

pub returns-in-Row-clause-continues : goal.returns-in-Row-clause-continues
returns-in-Row-clause-continues g c =
    continues_still c.args.store.now c.args.seat.now c.loop.seat c.go_on.new.seat c.args.seat.now.knows.participant c.loop.invariant.continues c.go_on.ensures.continues

pub returns-in-Row-clause-same : goal.returns-in-Row-clause-same
returns-in-Row-clause-same g c = c.go_on.ensures.same ∙ c.loop.invariant.same

pub returns-in-End-clause-continues : goal.returns-in-End-clause-continues
returns-in-End-clause-continues g c =
    continues_still c.args.store.now c.args.seat.now c.loop.seat c.go_on.new.seat c.args.seat.now.knows.participant c.loop.invariant.continues c.go_on.ensures.continues

pub returns-in-End-clause-same : goal.returns-in-End-clause-same
returns-in-End-clause-same g c = c.go_on.ensures.same ∙ c.loop.invariant.same

pub returns-in_err-step-clause-row : goal.returns-in_err-step-clause-row
returns-in_err-step-clause-row g c = let p = err_from_is_err_and c.from_residual.result c.from_residual.ensures.1 in rw p.1 tt

pub returns-in_err-step-clause-prefix : goal.returns-in_err-step-clause-prefix
returns-in_err-step-clause-prefix g c = let p = err_from_is_err_and c.from_residual.result c.from_residual.ensures.1 in rw p.1 tt

pub returns-in_err-step-clause-version : goal.returns-in_err-step-clause-version
returns-in_err-step-clause-version g c = let p = err_from_is_err_and c.from_residual.result c.from_residual.ensures.1 in rw p.1 tt

pub returns-in_err-step-clause-err : goal.returns-in_err-step-clause-err
returns-in_err-step-clause-err g c =
    let p = err_from_is_err_and c.from_residual.result c.from_residual.ensures.1 in
    rw p.1 (refused_on c.args.seat.now.knows.participant.seen c.loop.seat.knows.participant.seen c.go_on.new.seat.knows.participant.seen c.args.snapshot.now.number c.args.self.now c.loop.self c.go_on.new.self (ap (λ (p : Participant). p.seen) c.loop.invariant.same) (ap (λ (p : Participant). p.seen) c.go_on.ensures.same) c.loop.invariant.left c.in_err-step.ensures.err)

pub returns-in-Row-clause-row : goal.returns-in-Row-clause-row
returns-in-Row-clause-row g c =
    row_on c.args.seat.now.knows.participant.seen c.loop.seat.knows.participant.seen c.go_on.new.seat.knows.participant.seen c.args.snapshot.now.number c.args.self.now c.loop.self c.go_on.new.self (ap (λ (p : Participant). p.seen) c.loop.invariant.same) (ap (λ (p : Participant). p.seen) c.go_on.ensures.same) c.loop.invariant.left c.in-Row.row (subst (IsStep (left_of c.loop.seat.knows.participant.seen c.args.snapshot.now.number c.loop.self) (left_of c.loop.seat.knows.participant.seen c.args.snapshot.now.number c.go_on.new.self)) c.in-Row.is c.in_ok-step.ensures.step)

pub returns-in-Row-clause-prefix : goal.returns-in-Row-clause-prefix
returns-in-Row-clause-prefix g c = first_gives_on _ _ (Some c.in-Row.row) (returns-in-Row-clause-row g c)

pub returns-in-Row-clause-version : goal.returns-in-Row-clause-version
returns-in-Row-clause-version g c =
    subst (λ (p : Participant). IsShownAt p.seen c.args.snapshot.now.number c.in-Row.row) (sym c.go_on.ensures.same)
    (subst (IsVersionOf c.loop.seat.knows.participant.seen c.args.snapshot.now.number) c.in-Row.is c.in_ok-step.ensures.version)

pub returns-in-End-clause-row : goal.returns-in-End-clause-row
returns-in-End-clause-row g c =
    end_on c.args.seat.now.knows.participant.seen c.loop.seat.knows.participant.seen c.go_on.new.seat.knows.participant.seen c.args.snapshot.now.number c.args.self.now c.loop.self c.go_on.new.self (ap (λ (p : Participant). p.seen) c.loop.invariant.same) (ap (λ (p : Participant). p.seen) c.go_on.ensures.same) c.loop.invariant.left (subst (IsStep (left_of c.loop.seat.knows.participant.seen c.args.snapshot.now.number c.loop.self) (left_of c.loop.seat.knows.participant.seen c.args.snapshot.now.number c.go_on.new.self)) c.in-End.is c.in_ok-step.ensures.step)

pub returns-in-End-clause-prefix : goal.returns-in-End-clause-prefix
returns-in-End-clause-prefix g c = first_gives_on _ _ None (returns-in-End-clause-row g c)

pub loop-preserved : goal.loop-preserved
loop-preserved g c = record {
  continues =
      continues_still c.args.store.now c.args.seat.now c.loop.seat c.go_on.new.seat c.args.seat.now.knows.participant c.loop.invariant.continues c.go_on.ensures.continues;
  same = c.go_on.ensures.same ∙ c.loop.invariant.same;
  left = passed_on c.args.seat.now.knows.participant.seen c.loop.seat.knows.participant.seen c.go_on.new.seat.knows.participant.seen c.args.snapshot.now.number c.args.self.now c.loop.self c.go_on.new.self (ap (λ (p : Participant). p.seen) c.loop.invariant.same) (ap (λ (p : Participant). p.seen) c.go_on.ensures.same) c.loop.invariant.left (subst (IsStep (left_of c.loop.seat.knows.participant.seen c.args.snapshot.now.number c.loop.self) (left_of c.loop.seat.knows.participant.seen c.args.snapshot.now.number c.go_on.new.self)) c.in-Passed.is c.in_ok-step.ensures.step);
}
