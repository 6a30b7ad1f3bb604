use Rattle.std.proofs.Common.{[], ap, sym, subst, ◌∙◌}
use Rattle.std.specs.FinMap as finite
use Rattle.wp_model.specs.LockState.{LockState}
use Rattle.wp_core.specs.Sound.Views.{OwnsKey}
use Rattle.wp_shared.specs.Seats.{SeatState}
use Rattle.wp_shared.proofs.Onward.{holds_alone}
use Rattle.wp_open_txns.proofs.GoesOn.{lent_as, held_last}
use Rattle.wp_open_txns.proofs.KeyTaken.{holds_without, key_let_go, saw_no_more}
use Rattle.wp_open_txns.proofs.validating.give_back.Goals as goal

pub free_key-requires-clause-held : goal.free_key-requires-clause-held
free_key-requires-clause-held g c = held_last (holds_alone c.requires.free (lent_as c.deref.ensures c.take_turn-tables.ensures.taken))

pub free_key-requires-clause-has : goal.free_key-requires-clause-has
free_key-requires-clause-has g c = subst (λ (x : SeatState). OwnsKey x.knows.participant c.args.name.now c.args.key.now) (sym c.take_turn-tables.ensures.taken.seat) c.requires.has

pub give_turn-requires-clause-holds : goal.give_turn-requires-clause-holds
give_turn-requires-clause-holds g c =
    let same = c.unlock.ensures ∙ ap (λ (l : LockState). record l { keys = finite.remove l.keys c.args.key.now }) (c.deref_mut.ensures.value ∙ sym c.deref.ensures) in
    ([], [], holds_without c.args.store.now c.args.seat.now c.deref.result.now _ (lent_as c.deref.ensures c.take_turn-tables.ensures.taken) c.args.name.now c.args.key.now c.requires.free c.free_key.new.seat c.free_key.new.seat c.unlock.new.self c.free_key.ensures.without same)

pub returns-clause-frees : goal.returns-clause-frees
returns-clause-frees g c =
    let z = c.args.store.now in let old = c.args.seat.now in let t = c.deref.result.now in let k = lent_as c.deref.ensures c.take_turn-tables.ensures.taken in let m = c.unlock.new.self in
    let same = c.unlock.ensures ∙ ap (λ (l : LockState). record l { keys = finite.remove l.keys c.args.key.now }) (c.deref_mut.ensures.value ∙ sym c.deref.ensures) in
    let held = holds_without z old t _ k c.args.name.now c.args.key.now c.requires.free c.free_key.new.seat c.free_key.new.seat m c.free_key.ensures.without same in
    key_let_go z old t _ k c.args.name.now c.args.key.now c.requires.free c.free_key.new.seat c.give_turn.new.seat m c.free_key.ensures.without same c.free_key.ensures.stands (c.give_turn.ensures [] [] held)

pub returns-clause-saw : goal.returns-clause-saw
returns-clause-saw g c =
    let z = c.args.store.now in let old = c.args.seat.now in let t = c.deref.result.now in let k = lent_as c.deref.ensures c.take_turn-tables.ensures.taken in let m = c.unlock.new.self in
    let same = c.unlock.ensures ∙ ap (λ (l : LockState). record l { keys = finite.remove l.keys c.args.key.now }) (c.deref_mut.ensures.value ∙ sym c.deref.ensures) in
    let held = holds_without z old t _ k c.args.name.now c.args.key.now c.requires.free c.free_key.new.seat c.free_key.new.seat m c.free_key.ensures.without same in
    saw_no_more z old t _ k c.args.name.now c.args.key.now c.requires.free c.free_key.new.seat c.give_turn.new.seat m c.free_key.ensures.without same (c.give_turn.ensures [] [] held)
