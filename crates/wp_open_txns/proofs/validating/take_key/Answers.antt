use Rattle.std.proofs.Common.{ℕ, sym, ap, subst, ◌∙◌, Option}
use Rattle.std.specs.FinMap as finite
use Rattle.wp_core.specs.Lists.{IsIn}
use Rattle.wp_core.specs.Sound.Views.{OwnsKey}
use Rattle.wp_core.specs.Views.{unprepared}
use Rattle.wp_open_txns.specs.Keys.{HoldsFree, Validates, FreesKey}
use Rattle.wp_open_txns.specs.Txn.{OpenState}
use Rattle.wp_open_txns.proofs.KeyTaken.{owns_held, pins_held, owns_looked, noted_looked, key_taken, key_conflicts}
use Rattle.wp_open_txns.proofs.validating.take_key.Goals as goal

pub hold_key-requires-clause-has : goal.hold_key-requires-clause-has
hold_key-requires-clause-has g c = let h = c.requires.open in (
  h.transaction,
  ap (λ (x : OpenState). finite.get c.args.seat.now.knows.participant.transactions x.name) c.txn.view_is ∙ h.has,
  h.keys c.args.key.now ∙ c.requires.none,
)

pub validate-requires-clause-has : goal.validate-requires-clause-has
validate-requires-clause-has g c =
    let z = c.args.store.now in let old = c.args.seat.now in let txn = c.args.txn.now in let s = c.hold_key.new.seat in
    let held = subst (λ (x : OpenState). HoldsFree z old x.name c.args.key.now s) c.txn.view_is (c.in_ok-hold_key.ensures {u = tt}) in
    owns_held z old s s txn c.args.key.now c.requires.open c.requires.none held

pub validate-requires-clause-pin : goal.validate-requires-clause-pin
validate-requires-clause-pin g c =
    let z = c.args.store.now in let old = c.args.seat.now in let txn = c.args.txn.now in let s = c.hold_key.new.seat in
    let held = subst (λ (x : OpenState). HoldsFree z old x.name c.args.key.now s) c.txn.view_is (c.in_ok-hold_key.ensures {u = tt}) in
    pins_held z old s s txn c.args.key.now c.requires.open c.requires.none held

pub give_back-requires-clause-has : goal.give_back-requires-clause-has
give_back-requires-clause-has g c =
    let z = c.args.store.now in let old = c.args.seat.now in let txn = c.args.txn.now in let s = c.hold_key.new.seat in let u = c.validate.new.seat in
    let held = subst (λ (x : OpenState). HoldsFree z old x.name c.args.key.now s) c.txn.view_is (c.in_ok-hold_key.ensures {u = tt}) in
    subst (λ (x : OpenState). OwnsKey u.knows.participant x.name c.args.key.now) (sym c.txn.view_is) (owns_looked z old s u txn c.args.key.now c.requires.open c.requires.none held c.validate.result c.validate.ensures)

pub give_back-requires-clause-noted : goal.give_back-requires-clause-noted
give_back-requires-clause-noted g c =
    let z = c.args.store.now in let old = c.args.seat.now in let txn = c.args.txn.now in let s = c.hold_key.new.seat in let u = c.validate.new.seat in
    let held = subst (λ (x : OpenState). HoldsFree z old x.name c.args.key.now s) c.txn.view_is (c.in_ok-hold_key.ensures {u = tt}) in
    subst (λ (x : OpenState). IsIn (unprepared x.name) u.knows.notes) (sym c.txn.view_is) (noted_looked z old s u txn c.args.key.now c.requires.open c.requires.none held c.validate.result c.validate.ensures)

pub returns-in-None : goal.returns-in-None
returns-in-None g c =
    let z = c.args.store.now in let old = c.args.seat.now in let txn = c.args.txn.now in let s = c.hold_key.new.seat in let u = c.validate.new.seat in
    let held = subst (λ (x : OpenState). HoldsFree z old x.name c.args.key.now s) c.txn.view_is (c.in_ok-hold_key.ensures {u = tt}) in
    key_taken z old s u txn c.args.key.now c.requires.open c.requires.none held (subst (λ (o : Option ℕ). Validates z s txn c.args.key.now o u) c.in-None.is c.validate.ensures)

pub returns-in-Some : goal.returns-in-Some
returns-in-Some g c =
    let z = c.args.store.now in let old = c.args.seat.now in let txn = c.args.txn.now in let s = c.hold_key.new.seat in let u = c.validate.new.seat in let new = c.give_back.new.seat in
    let held = subst (λ (x : OpenState). HoldsFree z old x.name c.args.key.now s) c.txn.view_is (c.in_ok-hold_key.ensures {u = tt}) in
    let freed = subst (λ (x : OpenState). FreesKey z u new x.name c.args.key.now) c.txn.view_is c.give_back.ensures.frees in
    key_conflicts z old s u txn c.args.key.now c.requires.open c.requires.none held c.in-Some.number new (subst (λ (o : Option ℕ). Validates z s txn c.args.key.now o u) c.in-Some.is c.validate.ensures) freed c.give_back.ensures.saw
