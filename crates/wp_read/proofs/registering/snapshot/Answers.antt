use Rattle.std.proofs.Common.{◌≡◌, inl, inr, List, [], ◌∷◌, length, refl, sym, subst, ap, ◌∙◌}
use Rattle.std.proofs.lemmas.Result.{IfOk-weaker}
use Rattle.wp_model.specs.declared.entry.Entry.{Entry}
use Rattle.wp_core.specs.Lists.{IsIn}
use Rattle.wp_core.specs.Reading.{Registration}
use Rattle.wp_core.specs.States.{prepared}
use Rattle.wp_read.specs.Registers.{IsTakenWithLeast, registered_by}
use Rattle.wp_read.proofs.Seated.{took_both, holds_both, holds_changed, gives_snaps, holds_left, gives_tables, seen_both, continues_both}
use Rattle.wp_read.proofs.Taking.{registered_blind, taken_ok, refused_err, least_since}
use Rattle.wp_read.proofs.registering.snapshot.Goals as goal

pub register_in-taken-requires-clause-holds : goal.register_in-taken-requires-clause-holds
register_in-taken-requires-clause-holds g c = (prepared c.deref.result.now ∷ [], 1 ∷ [], holds_both c.requires c.take_turn-tables.ensures.taken c.take_turn-snaps.ensures.taken c.deref_mut.ensures.value c.deref.ensures)

pub register_in-taken-requires-clause-smallest : goal.register_in-taken-requires-clause-smallest
register_in-taken-requires-clause-smallest g c =
    let tables = c.deref.result.now in let holds = holds_both c.requires c.take_turn-tables.ensures.taken c.take_turn-snaps.ensures.taken c.deref_mut.ensures.value c.deref.ensures in
    inr (tables, subst (IsIn (prepared tables)) (sym holds.held) (inr (inl refl)), c.smallest-smallest.ensures)

pub give_turn-requires-clause-holds : goal.give_turn-requires-clause-holds
give_turn-requires-clause-holds g c = (prepared c.take_turn-tables.result.value ∷ [], 1 ∷ [], holds_changed c.requires c.take_turn-tables.ensures.taken c.take_turn-snaps.ensures.taken c.deref_mut.ensures.value c.deref.ensures (c.register_in-taken.ensures.changes (prepared c.deref.result.now ∷ []) (1 ∷ []) (holds_both c.requires c.take_turn-tables.ensures.taken c.take_turn-snaps.ensures.taken c.deref_mut.ensures.value c.deref.ensures)))

pub give_turn-requires-clause-knows : goal.give_turn-requires-clause-knows
give_turn-requires-clause-knows g c = gives_snaps c.requires c.take_turn-tables.ensures.taken c.take_turn-snaps.ensures.taken c.deref_mut.ensures.value c.deref.ensures (c.register_in-taken.ensures.changes (prepared c.deref.result.now ∷ []) (1 ∷ []) (holds_both c.requires c.take_turn-tables.ensures.taken c.take_turn-snaps.ensures.taken c.deref_mut.ensures.value c.deref.ensures)) c.register_in-taken.ensures.kept

pub give_turn-requires-2-clause-holds : goal.give_turn-requires-2-clause-holds
give_turn-requires-2-clause-holds g c = ([], [], holds_left c.requires c.take_turn-tables.ensures.taken c.take_turn-snaps.ensures.taken c.deref_mut.ensures.value c.deref.ensures (c.register_in-taken.ensures.changes (prepared c.deref.result.now ∷ []) (1 ∷ []) (holds_both c.requires c.take_turn-tables.ensures.taken c.take_turn-snaps.ensures.taken c.deref_mut.ensures.value c.deref.ensures)) c.give_turn.ensures)

pub give_turn-requires-2-clause-knows : goal.give_turn-requires-2-clause-knows
give_turn-requires-2-clause-knows g c = gives_tables c.requires c.take_turn-tables.ensures.taken c.take_turn-snaps.ensures.taken c.deref_mut.ensures.value c.deref.ensures (c.register_in-taken.ensures.changes (prepared c.deref.result.now ∷ []) (1 ∷ []) (holds_both c.requires c.take_turn-tables.ensures.taken c.take_turn-snaps.ensures.taken c.deref_mut.ensures.value c.deref.ensures)) c.give_turn.ensures

pub returns-clause-registered : goal.returns-clause-registered
returns-clause-registered g c =
    let k1 = c.take_turn-tables.ensures.taken in let k2 = c.take_turn-snaps.ensures.taken in let lent = c.deref_mut.ensures.value in let shown = c.deref.ensures in let k3 = c.register_in-taken.ensures.changes (prepared c.deref.result.now ∷ []) (1 ∷ []) (holds_both c.requires k1 k2 lent shown) in
    taken_ok c.args.store.now c.args.seat.now c.give_turn-2.new.seat (λ (r : Registration). r ∷ []) c.register_in-taken.result (continues_both c.requires k1 k2 lent shown k3 c.give_turn.ensures c.give_turn-2.ensures (registered_by (λ (r : Registration). r ∷ []) c.register_in-taken.result) (registered_blind (λ (r : Registration). r ∷ []) c.register_in-taken.result) refl)

pub returns-clause-refused : goal.returns-clause-refused
returns-clause-refused g c =
    let k1 = c.take_turn-tables.ensures.taken in let k2 = c.take_turn-snaps.ensures.taken in let lent = c.deref_mut.ensures.value in let shown = c.deref.ensures in let k3 = c.register_in-taken.ensures.changes (prepared c.deref.result.now ∷ []) (1 ∷ []) (holds_both c.requires k1 k2 lent shown) in
    refused_err c.args.store.now c.args.seat.now c.give_turn-2.new.seat (λ (r : Registration). r ∷ []) c.register_in-taken.result (continues_both c.requires k1 k2 lent shown k3 c.give_turn.ensures c.give_turn-2.ensures (registered_by (λ (r : Registration). r ∷ []) c.register_in-taken.result) (registered_blind (λ (r : Registration). r ∷ []) c.register_in-taken.result) refl)

pub returns-clause-number : goal.returns-clause-number
returns-clause-number g c =
    let k1 = c.take_turn-tables.ensures.taken in let k2 = c.take_turn-snaps.ensures.taken in let lent = c.deref_mut.ensures.value in let shown = c.deref.ensures in let k3 = c.register_in-taken.ensures.changes (prepared c.deref.result.now ∷ []) (1 ∷ []) (holds_both c.requires k1 k2 lent shown) in
    let seen = c.register_in-taken.new.seat.knows.participant.seen in let last = c.give_turn-2.new.seat.knows.participant.seen in
    IfOk-weaker c.register_in-taken.result (λ r. r.number ≡ length seen) (λ r. r.number ≡ length last) (λ r number. number ∙ ap (λ (h : List Entry). length h) (seen_both c.requires k1 k2 lent shown k3 c.give_turn.ensures c.give_turn-2.ensures)) c.register_in-taken.ensures.number

pub returns-clause-taken : goal.returns-clause-taken
returns-clause-taken g c =
    let k1 = c.take_turn-tables.ensures.taken in let k2 = c.take_turn-snaps.ensures.taken in let lent = c.deref_mut.ensures.value in let shown = c.deref.ensures in let both = holds_both c.requires k1 k2 lent shown in
    let tables = c.deref.result.now in let k3 = c.register_in-taken.ensures.changes (prepared tables ∷ []) (1 ∷ []) both in
    let z = c.args.store.now in let s0 = c.args.seat.now in let s2 = c.take_turn-snaps.new.seat in let m = c.deref_mut.result.now in let seen = c.register_in-taken.new.seat.knows.participant.seen in let last = c.give_turn-2.new.seat.knows.participant.seen in
    IfOk-weaker c.register_in-taken.result _ (λ r. IsTakenWithLeast z s0 last r)
    (λ r k. let since = least_since z s0 s2 _ _ _ (took_both c.requires k1 k2).same seen last (seen_both c.requires k1 k2 lent shown k3 c.give_turn.ensures c.give_turn-2.ensures) r m (k.0, k.1 tables (subst (IsIn (prepared tables)) (sym both.held) (inr (inl refl))) c.smallest-smallest.ensures) in (m, since.0, since.1))
    c.register_in-taken.ensures.taken
