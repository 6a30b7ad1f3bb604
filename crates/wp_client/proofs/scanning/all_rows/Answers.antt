use Rattle.std.proofs.Common.{◌≡◌, List, ◌++◌, refl, sym, subst}
use Rattle.wp_model.specs.Rows.{Pair, rows}
use Rattle.wp_core.specs.Lists.{IsIn}
use Rattle.wp_core.specs.World.{Participant}
use Rattle.wp_shared.proofs.Onward.{continues_none, continues_still}
use Rattle.wp_scan.specs.Scan.{left_of}
use Rattle.wp_client.proofs.scanning.all_rows.Goals as goal

pub loop-scan-init : goal.loop-scan-init
loop-scan-init g c = record {
  continues = continues_none c.args.store.now c.args.seat.now c.requires.free;
  same = refl;
  given =
      let seen = c.args.seat.now.knows.participant.seen in let n = c.args.snapshot.now.number in
      subst (λ (pairs : List Pair). pairs ++ left_of seen n c.in_ok-scan.scan ≡ rows seen c.args.from.now c.args.to.now n) (sym c.none-pairs.ensures) (c.in_ok-scan.ensures seen n);
}

pub next-requires-clause-free : goal.next-requires-clause-free
next-requires-clause-free g c = c.loop-scan.invariant.continues.free

pub next-requires-clause-registered : goal.next-requires-clause-registered
next-requires-clause-registered g c = subst (λ (p : Participant). IsIn c.args.snapshot.now p.registered) (sym c.loop-scan.invariant.same) c.requires.registered

pub returns-in_err-row-clause-continues : goal.returns-in_err-row-clause-continues
returns-in_err-row-clause-continues g c =
    continues_still c.args.store.now c.args.seat.now c.loop-scan.seat c.next.new.seat c.args.seat.now.knows.participant c.loop-scan.invariant.continues c.next.ensures.continues
