use Rattle.std.proofs.Common.{refl, sym, subst}
use Rattle.basilcorbel.specs.Lists.{IsIn}
use Rattle.embedded.proofs.listing.rows_at.Goals as goal

pub loop-scan-init : goal.loop-scan-init
loop-scan-init g c = record { alone = c.requires.alone; same = refl; given = rw c.new-found.ensures.items (c.in_ok-scan.ensures c.args.seat.now.knows.participant.seen c.args.at.now.number) }

pub next-requires-clause-free : goal.next-requires-clause-free
next-requires-clause-free g c = c.loop-scan.invariant.alone.free

pub next-requires-clause-registered : goal.next-requires-clause-registered
next-requires-clause-registered g c = subst (λ p. IsIn c.args.at.now p.registered) (sym c.loop-scan.invariant.same) c.requires.registered
