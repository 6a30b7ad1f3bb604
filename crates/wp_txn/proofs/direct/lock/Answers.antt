use Rattle.std.proofs.Common.{◌≡◌, true, sym, subst, ap, ◌∙◌}
use Rattle.std.specs.FinMap as finite
use Rattle.wp_model.specs.declared.holder.Holder.{Holder}
use Rattle.wp_model.specs.declared.holder.Holder.TheVariants.{Client}
use Rattle.wp_locks.specs.Locks.{is_free_for}
use Rattle.wp_core.specs.Changes.{with_key}
use Rattle.wp_core.specs.Lists.{IsIn}
use Rattle.wp_core.specs.States.{locks}
use Rattle.wp_shared.specs.Seats.{SeatState}
use Rattle.wp_open_txns.specs.Actors.{with_direct}
use Rattle.wp_shared.specs.Notes.{seat_of}
use Rattle.wp_txn.proofs.DirectWrites.{none_there}
use Rattle.wp_open_txns.proofs.GoesOn.{held_last}
use Rattle.wp_txn.proofs.direct.lock.Goals as goal

pub lock_direct-requires-clause-free : goal.lock_direct-requires-clause-free
lock_direct-requires-clause-free g c = let e = (c.in_ok-lock_for.ensures {u = tt}).answered in (
  c.args.tables.now,
  subst (λ (x : SeatState). IsIn (locks c.args.tables.now) x.knows.held) (sym e.2) (held_last c.requires.seat),
  subst (λ (holder : Holder). is_free_for (finite.get c.args.tables.now.keys c.args.key.now) holder ≡ true) (c.requires.holder ∙ ap (λ (x : SeatState). Client x.knows.participant.client) (sym e.2)) e.0,
)

pub returns-clause-answered : goal.returns-clause-answered
returns-clause-answered g c =
    let e = (c.in_ok-lock_for.ensures {u = tt}).answered in let t = c.args.tables.now in let key = c.args.key.now in let s = c.args.seat.now in
    let held = subst (λ (x : SeatState). IsIn (locks t) x.knows.held) (sym e.2) (held_last c.requires.seat) in
    let is_free = subst (λ (holder : Holder). is_free_for (finite.get t.keys key) holder ≡ true) c.requires.holder e.0 in (
      e.1 ∙ ap (with_key t key) c.requires.holder,
      c.lock_direct.ensures t held ∙ ap (λ (x : SeatState). seat_of x (with_direct t key x.knows)) e.2,
      none_there (finite.get t.keys key) s.knows.participant.client is_free,
    )
