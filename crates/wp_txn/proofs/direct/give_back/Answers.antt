use Rattle.std.proofs.Common.{[], sym, ap, ◌∙◌}
use Rattle.wp_model.specs.LockState.{LockState}
use Rattle.wp_core.specs.Changes.{without_key}
use Rattle.wp_shared.proofs.Onward.{holds_alone}
use Rattle.wp_txn.proofs.DirectWrites.{ended_holds, ended_direct}
use Rattle.wp_open_txns.proofs.GoesOn.{lent_as, held_last}
use Rattle.wp_txn.proofs.direct.give_back.Goals as goal

pub free_direct-requires-clause-held : goal.free_direct-requires-clause-held
free_direct-requires-clause-held g c = held_last (holds_alone c.requires.free (lent_as c.deref.ensures c.take_turn-tables.ensures.taken))

pub give_turn-requires-clause-holds : goal.give_turn-requires-clause-holds
give_turn-requires-clause-holds g c =
    ([], [], ended_holds c.args.store.now c.args.seat.now c.deref.result.now c.args.key.now _ c.free_direct.new.seat (lent_as c.deref.ensures c.take_turn-tables.ensures.taken) c.free_direct.ensures.without c.requires.free c.unlock.new.self (c.unlock.ensures ∙ ap (λ (x : LockState). without_key x c.args.key.now) (c.deref_mut.ensures.value ∙ sym c.deref.ensures)))

pub returns : goal.returns
returns g c =
    let z = c.args.store.now in let old = c.args.seat.now in let t = c.deref.result.now in let key = c.args.key.now in let r = c.free_direct.new.seat in
    let are = c.unlock.ensures ∙ ap (λ (x : LockState). without_key x key) (c.deref_mut.ensures.value ∙ sym c.deref.ensures) in
    let held = ended_holds z old t key _ r (lent_as c.deref.ensures c.take_turn-tables.ensures.taken) c.free_direct.ensures.without c.requires.free c.unlock.new.self are in
    ended_direct z old t key _ r (lent_as c.deref.ensures c.take_turn-tables.ensures.taken) c.free_direct.ensures.without c.give_turn.new.seat c.unlock.new.self are held c.free_direct.ensures.stands (c.give_turn.ensures [] [] held)
