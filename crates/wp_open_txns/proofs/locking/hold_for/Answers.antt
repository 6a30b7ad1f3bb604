use Rattle.std.proofs.Common.{◌≡◌, true, [], refl, sym, subst, ap, ◌∙◌}
use Rattle.std.specs.FinMap as finite
use Rattle.wp_model.specs.declared.holder.Holder.{Holder}
use Rattle.wp_model.specs.declared.holder.Holder.TheVariants.{Txn}
use Rattle.wp_locks.specs.Locks.{is_free_for}
use Rattle.wp_core.specs.Lists.{IsIn}
use Rattle.wp_core.specs.Changes.{with_key}
use Rattle.wp_core.specs.States.{locks}
use Rattle.wp_shared.specs.Seats.{SeatState}
use Rattle.wp_shared.specs.Turns.{HoldsTurn}
use Rattle.wp_open_txns.specs.Actors.{with_locked}
use Rattle.wp_open_txns.proofs.GoesOn.{held_last, holds_tables}
use Rattle.wp_open_txns.proofs.locking.hold_for.Goals as goal

pub lock_key-requires-clause-free : goal.lock_key-requires-clause-free
lock_key-requires-clause-free g c = let e = (c.in_ok-lock_for.ensures {u = tt}).answered in (
  c.args.tables.now,
  subst (λ (x : SeatState). IsIn (locks c.args.tables.now) x.knows.held) (sym e.2) (held_last c.requires.seat),
  subst (λ (holder : Holder). is_free_for (finite.get c.args.tables.now.keys c.args.key.now) holder ≡ true) c.requires.holder e.0,
)

pub returns-clause-holds : goal.returns-clause-holds
returns-clause-holds g c =
    let e = (c.in_ok-lock_for.ensures {u = tt}).answered in let t = c.args.tables.now in let name = c.args.name.now in let key = c.args.key.now in let s = c.lock_for.new.seat in
    let holds = subst (λ (x : SeatState). HoldsTurn c.args.store.now x (locks t) [] []) (sym e.2) c.requires.seat in
    let k = c.lock_key.ensures t (held_last holds) in
    holds_tables (with_locked t k.history name key s.knows) (with_key t key (Txn name)) c.lock_for.new.tables holds (e.1 ∙ ap (with_key t key) c.requires.holder) k.seat refl refl
