use Rattle.std.proofs.Common.{◌≡◌, List, [], ◌∷◌, length, inl, refl, ap, ◌∙◌}
use Rattle.std.proofs.lemmas.Result.{IfOk-weaker}
use Rattle.wp_model.specs.declared.entry.Entry.{Entry}
use Rattle.wp_core.specs.Reading.{Registration}
use Rattle.wp_read.specs.Registers.{IsTaken, registered_by}
use Rattle.wp_read.proofs.Seated.{holds_lent, gives_lent, seen_lent, continues_lent}
use Rattle.wp_read.proofs.Taking.{registered_blind, taken_ok, refused_err, taken_since}
use Rattle.wp_read.proofs.registering.brief_snapshot.Goals as goal

pub register_in-taken-requires-clause-holds : goal.register_in-taken-requires-clause-holds
register_in-taken-requires-clause-holds g c = ([], [], holds_lent c.take_turn-snaps.ensures.taken c.deref_mut.ensures.value c.requires)

pub register_in-taken-requires-clause-smallest : goal.register_in-taken-requires-clause-smallest
register_in-taken-requires-clause-smallest g c = inl refl

pub give_turn-requires-clause-holds : goal.give_turn-requires-clause-holds
give_turn-requires-clause-holds g c = ([], [], (c.register_in-taken.ensures.changes [] [] (holds_lent c.take_turn-snaps.ensures.taken c.deref_mut.ensures.value c.requires)).holds)

pub give_turn-requires-clause-knows : goal.give_turn-requires-clause-knows
give_turn-requires-clause-knows g c =
    let k1 = c.take_turn-snaps.ensures.taken in let lent = c.deref_mut.ensures.value in
    let k2 = c.register_in-taken.ensures.changes [] [] (holds_lent k1 lent c.requires) in
    gives_lent k1 lent (λ fact loose. tt) k2.goes k2.holds tt c.register_in-taken.ensures.kept

pub returns-clause-registered : goal.returns-clause-registered
returns-clause-registered g c =
    let k1 = c.take_turn-snaps.ensures.taken in let lent = c.deref_mut.ensures.value in let k2 = c.register_in-taken.ensures.changes [] [] (holds_lent k1 lent c.requires) in let adds = λ (r : Registration). r ∷ [] in
    taken_ok c.args.store.now c.args.seat.now c.give_turn.new.seat adds c.register_in-taken.result (continues_lent k1 lent (λ fact loose. tt) k2.goes k2.holds c.give_turn.ensures (registered_by adds c.register_in-taken.result) (registered_blind adds c.register_in-taken.result) refl)

pub returns-clause-refused : goal.returns-clause-refused
returns-clause-refused g c =
    let k1 = c.take_turn-snaps.ensures.taken in let lent = c.deref_mut.ensures.value in let k2 = c.register_in-taken.ensures.changes [] [] (holds_lent k1 lent c.requires) in let adds = λ (r : Registration). r ∷ [] in
    refused_err c.args.store.now c.args.seat.now c.give_turn.new.seat adds c.register_in-taken.result (continues_lent k1 lent (λ fact loose. tt) k2.goes k2.holds c.give_turn.ensures (registered_by adds c.register_in-taken.result) (registered_blind adds c.register_in-taken.result) refl)

pub returns-clause-number : goal.returns-clause-number
returns-clause-number g c =
    let k1 = c.take_turn-snaps.ensures.taken in let lent = c.deref_mut.ensures.value in let k2 = c.register_in-taken.ensures.changes [] [] (holds_lent k1 lent c.requires) in
    let seen = c.register_in-taken.new.seat.knows.participant.seen in let last = c.give_turn.new.seat.knows.participant.seen in
    IfOk-weaker c.register_in-taken.result (λ r. r.number ≡ length seen) (λ r. r.number ≡ length last) (λ r number. number ∙ ap (λ (h : List Entry). length h) (seen_lent k1 lent (λ fact loose. tt) k2.goes k2.holds c.give_turn.ensures)) c.register_in-taken.ensures.number

pub returns-clause-taken : goal.returns-clause-taken
returns-clause-taken g c =
    let k1 = c.take_turn-snaps.ensures.taken in let lent = c.deref_mut.ensures.value in let k2 = c.register_in-taken.ensures.changes [] [] (holds_lent k1 lent c.requires) in
    let z = c.args.store.now in let s0 = c.args.seat.now in let s1 = c.take_turn-snaps.new.seat in let m = c.deref_mut.result.now in
    let seen = c.register_in-taken.new.seat.knows.participant.seen in let last = c.give_turn.new.seat.knows.participant.seen in
    IfOk-weaker c.register_in-taken.result _ (λ r. IsTaken z s0 last r) (λ r k. (m, taken_since z s0 s1 _ _ _ k1.goes.same seen last (seen_lent k1 lent (λ fact loose. tt) k2.goes k2.holds c.give_turn.ensures) r m k.0)) c.register_in-taken.ensures.taken
