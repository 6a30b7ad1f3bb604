use Rattle.std.proofs.Common.{[], map, sym, ap, ◌∙◌, is_some}
use Rattle.std.specs.FinMap as finite
use Rattle.wp_model.specs.LockState.{LockState}
use Rattle.wp_core.specs.Changes.{without_transaction}
use Rattle.wp_model.specs.Batch.{key_of}
use Rattle.wp_locks.specs.Locks.{keys_without}
use Rattle.wp_shared.specs.Seats.{SeatState}
use Rattle.wp_shared.proofs.Onward.{holds_alone}
use Rattle.wp_open_txns.proofs.Freed.{just_locked, freed_tables, free_name}
use Rattle.wp_open_txns.proofs.GoesOn.{lent_as, held_last, without_holds, freed}
use Rattle.wp_open_txns.proofs.locking.free.Goals as goal

pub free_transaction-requires-clause-held : goal.free_transaction-requires-clause-held
free_transaction-requires-clause-held g c = held_last (holds_alone c.requires.free (lent_as c.deref.ensures c.take_turn-tables.ensures.taken))

pub free_transaction-requires-clause-has : goal.free_transaction-requires-clause-has
free_transaction-requires-clause-has g c = ap (λ (s : SeatState). is_some (finite.get s.knows.participant.transactions c.args.name)) c.take_turn-tables.ensures.taken.seat ∙ ap is_some c.requires.has.has

pub give_turn-requires-clause-holds : goal.give_turn-requires-clause-holds
give_turn-requires-clause-holds g c =
    let old = c.args.seat.now in
    let t = c.deref.result.now in let l = c.deref_mut-2.result.now in let m = c.unlock_all.new.self in let u = c.unlock_keys.new.self in let name = c.args.name in let batch = c.args.batch in let locked = c.args.locked.items in
    let k = lent_as c.deref.ensures c.take_turn-tables.ensures.taken in
    let named = c.deref_mut-2.ensures.value ∙ c.free_name.ensures ∙ ap (λ (x : LockState). record x { names = finite.remove x.names name }) (c.deref_mut.ensures.value ∙ sym c.deref.ensures) in
    let without_keys = c.unlock_all.ensures ∙ ap (λ changes. record l { keys = keys_without l.keys (map key_of changes) }) c.changes.ensures.value in
    let rest = c.unlock_keys.ensures ∙ (λ i. let x = c.deref_mut-3.ensures.value i in record x { keys = keys_without x.keys (c.deref-2.ensures.value i) }) in
    let just = just_locked old c.take_turn-tables.new.seat t name batch locked (ap (λ (s : SeatState). s.knows.participant) k.seat) c.requires.has c.free_transaction.ensures.keys in
    let are = freed_tables t l m u name batch locked named without_keys rest just in
    ([], [], without_holds c.args.store.now old t _ k c.requires.free (without_transaction t name) u name c.free_transaction.new.seat c.free_transaction.ensures.without are)

pub returns : goal.returns
returns g c =
    let z = c.args.store.now in let old = c.args.seat.now in let r = c.free_transaction.new.seat in let without = c.free_transaction.ensures.without in
    let t = c.deref.result.now in let l = c.deref_mut-2.result.now in let m = c.unlock_all.new.self in let u = c.unlock_keys.new.self in let name = c.args.name in let batch = c.args.batch in let locked = c.args.locked.items in
    let k = lent_as c.deref.ensures c.take_turn-tables.ensures.taken in
    let named = c.deref_mut-2.ensures.value ∙ c.free_name.ensures ∙ ap (λ (x : LockState). record x { names = finite.remove x.names name }) (c.deref_mut.ensures.value ∙ sym c.deref.ensures) in
    let without_keys = c.unlock_all.ensures ∙ ap (λ changes. record l { keys = keys_without l.keys (map key_of changes) }) c.changes.ensures.value in
    let rest = c.unlock_keys.ensures ∙ (λ i. let x = c.deref_mut-3.ensures.value i in record x { keys = keys_without x.keys (c.deref-2.ensures.value i) }) in
    let just = just_locked old c.take_turn-tables.new.seat t name batch locked (ap (λ (s : SeatState). s.knows.participant) k.seat) c.requires.has c.free_transaction.ensures.keys in
    let are = freed_tables t l m u name batch locked named without_keys rest just in
    let held = without_holds z old t _ k c.requires.free (without_transaction t name) u name r without are in
    freed z old t _ k name _ u r c.give_turn.new.seat without c.free_transaction.ensures.stands held (free_name t u name are) (c.give_turn.ensures [] [] held)
