use Rattle.std.proofs.Common.{◌≡◌, true, [], inl, refl, sym, ap, subst, ◌∙◌, Some, None, is_some}
use Rattle.std.specs.FinMap as finite
use Rattle.wp_model.specs.LockState.{LockState}
use Rattle.wp_locks.specs.Locks.{names_left}
use Rattle.wp_core.specs.Lists.{IsIn}
use Rattle.wp_core.specs.Changes.{with_name}
use Rattle.wp_core.specs.Views.{locks_stay}
use Rattle.wp_shared.specs.Seats.{SeatState}
use Rattle.wp_shared.proofs.Goes.{none_under_locks}
use Rattle.wp_model.proofs.Keyed.{at_inserted}
use Rattle.wp_open_txns.specs.Calls.{without_transaction, GivesUp, LocksAre}
use Rattle.wp_open_txns.specs.Turns.{IsWithout}
use Rattle.wp_open_txns.specs.Txn.{PreparedState, keys_in, HasPrepared}
use Rattle.wp_open_txns.proofs.GoesOn.{lent_as, held_last, name_left, free_noting, prepared_noting, gives_up_noting, without_holds, given_up, given_up_same, locks_left}
use Rattle.wp_open_txns.proofs.prepared.leave.Goals as goal

pub leave_name-requires-clause-prepared : goal.leave_name-requires-clause-prepared
leave_name-requires-clause-prepared g c =
    let h = prepared_noting c.args.store.now c.args.seat.now c.note_locks.new.seat _ c.note_locks.ensures c.args.txn c.requires.prepared in
    subst (λ (s : SeatState). HasPrepared s c.args.txn) (sym c.take_turn-tables.ensures.taken.seat)
    (record { transaction = h.transaction; has = h.has; batch_is = h.batch_is; keys = h.keys; noted = h.noted; seen = h.seen; stands = h.stands })

pub give_turn-requires-clause-holds : goal.give_turn-requires-clause-holds
give_turn-requires-clause-holds g c =
    let t = c.deref.result.now in let name = c.txn.inside.name in let s = c.note_locks.new.seat in
    let free = free_noting c.args.store.now c.args.seat.now s _ c.note_locks.ensures c.requires.free in
    let without = subst (λ (x : PreparedState). IsWithout c.take_turn-tables.new.seat c.leave_name.new.seat (with_name t x.name None) x.name) (sym c.txn.view_is) c.leave_name.ensures.without in
    let live = subst (λ (x : PreparedState). is_some (finite.get t.names x.name) ≡ true) (sym c.txn.view_is) c.leave_name.ensures.live in
    ([], [], without_holds c.args.store.now s t _ (lent_as c.deref.ensures c.take_turn-tables.ensures.taken) free (with_name t name None) c.leave_name-2.new.self name c.leave_name.new.seat without (name_left t c.leave_name-2.new.self name live (c.leave_name-2.ensures ∙ ap (λ (x : LockState). record x { names = names_left x.names name }) (c.deref_mut.ensures.value ∙ sym c.deref.ensures))))

pub returns-clause-gives_up : goal.returns-clause-gives_up
returns-clause-gives_up g c =
    let z = c.args.store.now in let old = c.args.seat.now in let s = c.note_locks.new.seat in let t = c.deref.result.now in let k = (lent_as c.deref.ensures c.take_turn-tables.ensures.taken) in let name = c.txn.inside.name in let m = c.leave_name-2.new.self in
    let free = free_noting z old s _ c.note_locks.ensures c.requires.free in
    let without = subst (λ (x : PreparedState). IsWithout c.take_turn-tables.new.seat c.leave_name.new.seat (with_name t x.name None) x.name) (sym c.txn.view_is) c.leave_name.ensures.without in
    let live = subst (λ (x : PreparedState). is_some (finite.get t.names x.name) ≡ true) (sym c.txn.view_is) c.leave_name.ensures.live in
    let held = without_holds z s t _ k free (with_name t name None) m name c.leave_name.new.seat without (name_left t m name live (c.leave_name-2.ensures ∙ ap (λ (x : LockState). record x { names = names_left x.names name }) (c.deref_mut.ensures.value ∙ sym c.deref.ensures))) in
    subst (λ (x : PreparedState). GivesUp z old c.give_turn.new.seat x.name) c.txn.view_is
    (gives_up_noting z old s _ c.note_locks.ensures c.give_turn.new.seat name (given_up z s t _ k name _ _ c.give_turn.new.seat without (c.give_turn.ensures [] [] held)))

pub returns-clause-same : goal.returns-clause-same
returns-clause-same g c =
    let z = c.args.store.now in let old = c.args.seat.now in let s = c.note_locks.new.seat in let t = c.deref.result.now in let k = (lent_as c.deref.ensures c.take_turn-tables.ensures.taken) in let name = c.txn.inside.name in let m = c.leave_name-2.new.self in
    let free = free_noting z old s _ c.note_locks.ensures c.requires.free in
    let without = subst (λ (x : PreparedState). IsWithout c.take_turn-tables.new.seat c.leave_name.new.seat (with_name t x.name None) x.name) (sym c.txn.view_is) c.leave_name.ensures.without in
    let live = subst (λ (x : PreparedState). is_some (finite.get t.names x.name) ≡ true) (sym c.txn.view_is) c.leave_name.ensures.live in
    let held = without_holds z s t _ k free (with_name t name None) m name c.leave_name.new.seat without (name_left t m name live (c.leave_name-2.ensures ∙ ap (λ (x : LockState). record x { names = names_left x.names name }) (c.deref_mut.ensures.value ∙ sym c.deref.ensures))) in
    subst (λ (x : PreparedState). c.give_turn.new.seat.knows.participant ≡ without_transaction x.name old.knows.participant) c.txn.view_is
    (given_up_same z s t _ k name _ _ c.give_turn.new.seat without (c.give_turn.ensures [] [] held) ∙ ap (λ (x : SeatState). without_transaction name x.knows.participant) c.note_locks.ensures)

pub returns-clause-left : goal.returns-clause-left
returns-clause-left g c =
    let z = c.args.store.now in let old = c.args.seat.now in let s = c.note_locks.new.seat in let t = c.deref.result.now in let k = (lent_as c.deref.ensures c.take_turn-tables.ensures.taken) in let name = c.txn.inside.name in let m = c.leave_name-2.new.self in
    let free = free_noting z old s _ c.note_locks.ensures c.requires.free in
    let without = subst (λ (x : PreparedState). IsWithout c.take_turn-tables.new.seat c.leave_name.new.seat (with_name t x.name None) x.name) (sym c.txn.view_is) c.leave_name.ensures.without in
    let live = subst (λ (x : PreparedState). is_some (finite.get t.names x.name) ≡ true) (sym c.txn.view_is) c.leave_name.ensures.live in
    let are = name_left t m name live (c.leave_name-2.ensures ∙ ap (λ (x : LockState). record x { names = names_left x.names name }) (c.deref_mut.ensures.value ∙ sym c.deref.ensures)) in
    let held = without_holds z s t _ k free (with_name t name None) m name c.leave_name.new.seat without are in
    subst (λ (x : PreparedState). LocksAre z c.give_turn.new.seat (λ l. finite.get l.names x.name ≡ Some None)) c.txn.view_is
    (locks_left z c.leave_name.new.seat c.give_turn.new.seat m (λ l. finite.get l.names name ≡ Some None) c.leave_name.ensures.stands (held_last held) (c.give_turn.ensures [] [] held)
    (ap (λ (l : LockState). finite.get l.names name) are ∙ at_inserted t.names name None name refl))

pub returns-clause-noted : goal.returns-clause-noted
returns-clause-noted g c =
    let z = c.args.store.now in let old = c.args.seat.now in let s = c.note_locks.new.seat in let t = c.deref.result.now in let k = (lent_as c.deref.ensures c.take_turn-tables.ensures.taken) in let name = c.txn.inside.name in let m = c.leave_name-2.new.self in
    let free = free_noting z old s _ c.note_locks.ensures c.requires.free in
    let without = subst (λ (x : PreparedState). IsWithout c.take_turn-tables.new.seat c.leave_name.new.seat (with_name t x.name None) x.name) (sym c.txn.view_is) c.leave_name.ensures.without in
    let live = subst (λ (x : PreparedState). is_some (finite.get t.names x.name) ≡ true) (sym c.txn.view_is) c.leave_name.ensures.live in
    let held = without_holds z s t _ k free (with_name t name None) m name c.leave_name.new.seat without (name_left t m name live (c.leave_name-2.ensures ∙ ap (λ (x : LockState). record x { names = names_left x.names name }) (c.deref_mut.ensures.value ∙ sym c.deref.ensures))) in
    let txn = c.args.txn in let fact = locks_stay txn.name txn.number (keys_in txn.batch txn.locked) in
    (c.give_turn.ensures [] [] held).goes.noted fact (none_under_locks fact) (without.notes fact (refl, refl)
    (k.goes.noted fact refl (subst (λ (x : SeatState). IsIn fact x.knows.notes) (sym c.note_locks.ensures) (inl refl))))
