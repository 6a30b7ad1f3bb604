use Rattle.std.proofs.Common.{sym, subst}
use Rattle.basilcorbel.specs.Lists.{IsIn}
use Rattle.basilcorbel.proofs.Calls.{is_registered}
use Rattle.embedded.proofs.copying.copy.Goals as goal

pub undone_at-requires-clause-registered : goal.undone_at-requires-clause-registered
undone_at-requires-clause-registered g c = is_registered c.args.store.now c.args.seat c.snapshot.new.seat c.in-Ok.at c.in-Ok.ensures.registered

pub release-requires-clause-registered : goal.release-requires-clause-registered
release-requires-clause-registered g c =
    subst (λ p. IsIn c.in-Ok.at p.registered) (sym c.undone_at.ensures.continues.participant) (is_registered c.args.store.now c.args.seat c.snapshot.new.seat c.in-Ok.at c.in-Ok.ensures.registered)

pub copy_at-seat-requires-clause-registered : goal.copy_at-seat-requires-clause-registered
copy_at-seat-requires-clause-registered g c =
    subst (λ p. IsIn c.in-Ok.at p.registered) (sym c.undone_at.ensures.continues.participant) (is_registered c.args.store.now c.args.seat c.snapshot.new.seat c.in-Ok.at c.in-Ok.ensures.registered)

pub release-requires-2-clause-registered : goal.release-requires-2-clause-registered
release-requires-2-clause-registered g c =
    subst (λ r. IsIn r c.copy_at-seat.result.seat.knows.participant.registered) (sym c.copy_at-seat.ensures.snapshot)
    (subst (λ p. IsIn c.in-Ok.at p.registered) (sym c.copy_at-seat.ensures.continues.participant)
    (subst (λ p. IsIn c.in-Ok.at p.registered) (sym c.undone_at.ensures.continues.participant) (is_registered c.args.store.now c.args.seat c.snapshot.new.seat c.in-Ok.at c.in-Ok.ensures.registered)))
