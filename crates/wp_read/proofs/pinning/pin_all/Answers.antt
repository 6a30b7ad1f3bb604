use Rattle.std.proofs.Common.{◌≡◌, List, [], ◌∷◌, length, refl, ap, ◌∙◌}
use Rattle.std.proofs.lemmas.Result.{IfOk-weaker}
use Rattle.wp_model.specs.declared.entry.Entry.{Entry}
use Rattle.wp_core.specs.Lists.{IsIn}
use Rattle.wp_core.specs.States.{prepared}
use Rattle.wp_core.specs.Views.{live_listed}
use Rattle.wp_read.specs.declared.registration.Pinned.{Pinned}
use Rattle.wp_read.specs.Registers.{numbers_of, IsPinned, registered_by}
use Rattle.wp_read.proofs.Seated.{took_both, holds_both, holds_changed, gives_snaps, holds_left, gives_tables, seen_both, noted_both, continues_both}
use Rattle.wp_read.proofs.Taking.{registered_blind, taken_ok, refused_err, pinned_since}
use Rattle.wp_read.proofs.pinning.pin_all.Goals as goal

pub pin_in-pinned-requires : goal.pin_in-pinned-requires
pin_in-pinned-requires g c = record { holds = holds_both c.requires c.take_turn-tables.ensures.taken c.take_turn-snaps.ensures.taken c.deref_mut.ensures.value c.deref.ensures }

pub give_turn-requires-clause-holds : goal.give_turn-requires-clause-holds
give_turn-requires-clause-holds g c = (prepared c.take_turn-tables.result.value ∷ [], 1 ∷ [], holds_changed c.requires c.take_turn-tables.ensures.taken c.take_turn-snaps.ensures.taken c.deref_mut.ensures.value c.deref.ensures c.pin_in-pinned.ensures.changes)

pub give_turn-requires-clause-knows : goal.give_turn-requires-clause-knows
give_turn-requires-clause-knows g c = gives_snaps c.requires c.take_turn-tables.ensures.taken c.take_turn-snaps.ensures.taken c.deref_mut.ensures.value c.deref.ensures c.pin_in-pinned.ensures.changes c.pin_in-pinned.ensures.kept

pub give_turn-requires-2-clause-holds : goal.give_turn-requires-2-clause-holds
give_turn-requires-2-clause-holds g c = ([], [], holds_left c.requires c.take_turn-tables.ensures.taken c.take_turn-snaps.ensures.taken c.deref_mut.ensures.value c.deref.ensures c.pin_in-pinned.ensures.changes c.give_turn.ensures)

pub give_turn-requires-2-clause-knows : goal.give_turn-requires-2-clause-knows
give_turn-requires-2-clause-knows g c = gives_tables c.requires c.take_turn-tables.ensures.taken c.take_turn-snaps.ensures.taken c.deref_mut.ensures.value c.deref.ensures c.pin_in-pinned.ensures.changes c.give_turn.ensures

pub returns-clause-registered : goal.returns-clause-registered
returns-clause-registered g c =
    let k1 = c.take_turn-tables.ensures.taken in let k2 = c.take_turn-snaps.ensures.taken in let lent = c.deref_mut.ensures.value in let shown = c.deref.ensures in let k3 = c.pin_in-pinned.ensures.changes in
    taken_ok c.args.store.now c.args.seat.now c.give_turn-2.new.seat (λ (p : Pinned). p.floor ∷ p.live.items) c.pin_in-pinned.result (continues_both c.requires k1 k2 lent shown k3 c.give_turn.ensures c.give_turn-2.ensures (registered_by (λ (p : Pinned). p.floor ∷ p.live.items) c.pin_in-pinned.result) (registered_blind (λ (p : Pinned). p.floor ∷ p.live.items) c.pin_in-pinned.result) refl)

pub returns-clause-refused : goal.returns-clause-refused
returns-clause-refused g c =
    let k1 = c.take_turn-tables.ensures.taken in let k2 = c.take_turn-snaps.ensures.taken in let lent = c.deref_mut.ensures.value in let shown = c.deref.ensures in let k3 = c.pin_in-pinned.ensures.changes in
    refused_err c.args.store.now c.args.seat.now c.give_turn-2.new.seat (λ (p : Pinned). p.floor ∷ p.live.items) c.pin_in-pinned.result (continues_both c.requires k1 k2 lent shown k3 c.give_turn.ensures c.give_turn-2.ensures (registered_by (λ (p : Pinned). p.floor ∷ p.live.items) c.pin_in-pinned.result) (registered_blind (λ (p : Pinned). p.floor ∷ p.live.items) c.pin_in-pinned.result) refl)

pub returns-clause-number : goal.returns-clause-number
returns-clause-number g c =
    let k1 = c.take_turn-tables.ensures.taken in let k2 = c.take_turn-snaps.ensures.taken in let lent = c.deref_mut.ensures.value in let shown = c.deref.ensures in let k3 = c.pin_in-pinned.ensures.changes in
    let seen = c.pin_in-pinned.new.seat.knows.participant.seen in let last = c.give_turn-2.new.seat.knows.participant.seen in
    IfOk-weaker c.pin_in-pinned.result (λ p. p.floor.number ≡ length seen) (λ p. p.floor.number ≡ length last) (λ p number. number ∙ ap (λ (h : List Entry). length h) (seen_both c.requires k1 k2 lent shown k3 c.give_turn.ensures c.give_turn-2.ensures)) c.pin_in-pinned.ensures.number

pub returns-clause-listed : goal.returns-clause-listed
returns-clause-listed g c =
    let k1 = c.take_turn-tables.ensures.taken in let k2 = c.take_turn-snaps.ensures.taken in let lent = c.deref_mut.ensures.value in let shown = c.deref.ensures in let k3 = c.pin_in-pinned.ensures.changes in
    IfOk-weaker c.pin_in-pinned.result (λ p. IsIn (live_listed p.floor.number (numbers_of p.live.items)) c.pin_in-pinned.new.seat.knows.notes) (λ p. IsIn (live_listed p.floor.number (numbers_of p.live.items)) c.give_turn-2.new.seat.knows.notes)
    (λ p there. noted_both c.requires k1 k2 lent shown k3 c.give_turn.ensures c.give_turn-2.ensures (live_listed p.floor.number (numbers_of p.live.items)) refl there) c.pin_in-pinned.ensures.listed

pub returns-clause-pinned : goal.returns-clause-pinned
returns-clause-pinned g c =
    let k1 = c.take_turn-tables.ensures.taken in let k2 = c.take_turn-snaps.ensures.taken in let lent = c.deref_mut.ensures.value in let shown = c.deref.ensures in let k3 = c.pin_in-pinned.ensures.changes in
    let z = c.args.store.now in let s0 = c.args.seat.now in let s2 = c.take_turn-snaps.new.seat in let seen = c.pin_in-pinned.new.seat.knows.participant.seen in let last = c.give_turn-2.new.seat.knows.participant.seen in
    IfOk-weaker c.pin_in-pinned.result (λ p. IsPinned z s2 seen p.floor p.live.items) (λ p. IsPinned z s0 last p.floor p.live.items) (λ p k. pinned_since z s0 s2 _ _ _ (took_both c.requires k1 k2).same seen last (seen_both c.requires k1 k2 lent shown k3 c.give_turn.ensures c.give_turn-2.ensures) p.floor p.live.items k) c.pin_in-pinned.ensures.pinned
