use Rattle.std.proofs.Common.{◌≡◌, ℕ, List, [], Option, inl, refl, sym, subst}
use Rattle.std.specs.Prelude.{MatchOption}
use Rattle.wp_model.specs.History.{value_at}
use Rattle.wp_model.specs.Snapshots.{Snapshots, after_register}
use Rattle.wp_core.specs.Changes.{with_registered}
use Rattle.wp_core.specs.Lists.{IsIn}
use Rattle.wp_core.specs.States.{snapshots}
use Rattle.wp_shared.specs.Turns.{HoldsTurn}
use Rattle.wp_read.proofs.AtOnce.{reading_holds, reading_at, registered_goes, registered_holds, registered_in, begun_registered, back_holds, back_goes, back_read, begun_read}
use Rattle.wp_read.proofs.Registers.{changes_placed}
use Rattle.wp_read.proofs.Seated.{kept_before}
use Rattle.wp_read.proofs.at_once.begin_in.Goals as goal

pub register-number-requires-clause-snapshots : goal.register-number-requires-clause-snapshots
register-number-requires-clause-snapshots g c = (c.args.snaps.now, subst (IsIn (snapshots c.args.snaps.now)) (sym c.requires.holds.held) (inl refl))

pub register-number-requires-clause-smallest : goal.register-number-requires-clause-smallest
register-number-requires-clause-smallest g c = inl refl

pub newest_value-requires-clause-holds : goal.newest_value-requires-clause-holds
newest_value-requires-clause-holds g c =
    let m = c.args.snaps.now in (with_registered m c.register-number.result, reading_holds (c.register-number.ensures m (subst (IsIn (snapshots m)) (sym c.requires.holds.held) (inl refl))) c.requires.holds)

pub newest_value-requires-clause-registered : goal.newest_value-requires-clause-registered
newest_value-requires-clause-registered g c =
    let m = c.args.snaps.now in reading_at (c.register-number.ensures m (subst (IsIn (snapshots m)) (sym c.requires.holds.held) (inl refl))) c.requires.holds

pub give_back-requires-clause-seat : goal.give_back-requires-clause-seat
give_back-requires-clause-seat g c =
    let m = c.args.snaps.now in let was = c.requires.holds in let k = c.register-number.ensures m (subst (IsIn (snapshots m)) (sym was.held) (inl refl)) in let on = c.newest_value.ensures.goes in
    (registered_holds k was on).same_table

pub give_back-requires-clause-last : goal.give_back-requires-clause-last
give_back-requires-clause-last g c =
    let m = c.args.snaps.now in let was = c.requires.holds in let k = c.register-number.ensures m (subst (IsIn (snapshots m)) (sym was.held) (inl refl)) in let on = c.newest_value.ensures.goes in
    (c.args.seat.now.knows.participant.registered, registered_in k was on)

pub give_back-requires-clause-snapshots : goal.give_back-requires-clause-snapshots
give_back-requires-clause-snapshots g c =
    let m = c.args.snaps.now in let was = c.requires.holds in let k = c.register-number.ensures m (subst (IsIn (snapshots m)) (sym was.held) (inl refl)) in let on = c.newest_value.ensures.goes in
    let more = with_registered m c.register-number.result in (more, subst (IsIn (snapshots more)) (sym (registered_holds k was on).held) (inl refl))

pub give_back-requires-in-Err-register-clause-seat : goal.give_back-requires-in-Err-register-clause-seat
give_back-requires-in-Err-register-clause-seat g c =
    let m = c.args.snaps.now in let was = c.requires.holds in let k = c.register-number.ensures m (subst (IsIn (snapshots m)) (sym was.held) (inl refl)) in let on = c.newest_value.ensures.goes in
    (registered_holds k was on).same_table

pub give_back-requires-in-Err-register-clause-last : goal.give_back-requires-in-Err-register-clause-last
give_back-requires-in-Err-register-clause-last g c =
    let m = c.args.snaps.now in let was = c.requires.holds in let k = c.register-number.ensures m (subst (IsIn (snapshots m)) (sym was.held) (inl refl)) in let on = c.newest_value.ensures.goes in
    (c.args.seat.now.knows.participant.registered, registered_in k was on)

pub give_back-requires-in-Err-register-clause-snapshots : goal.give_back-requires-in-Err-register-clause-snapshots
give_back-requires-in-Err-register-clause-snapshots g c =
    let m = c.args.snaps.now in let was = c.requires.holds in let k = c.register-number.ensures m (subst (IsIn (snapshots m)) (sym was.held) (inl refl)) in let on = c.newest_value.ensures.goes in
    let more = with_registered m c.register-number.result in (more, subst (IsIn (snapshots more)) (sym (registered_holds k was on).held) (inl refl))

pub give_back-requires-in-Err-clause-seat : goal.give_back-requires-in-Err-clause-seat
give_back-requires-in-Err-clause-seat g c =
    let m = c.args.snaps.now in let was = c.requires.holds in let k = c.register-number.ensures m (subst (IsIn (snapshots m)) (sym was.held) (inl refl)) in let on = c.newest_value.ensures.goes in
    (registered_holds k was on).same_table

pub give_back-requires-in-Err-clause-last : goal.give_back-requires-in-Err-clause-last
give_back-requires-in-Err-clause-last g c =
    let m = c.args.snaps.now in let was = c.requires.holds in let k = c.register-number.ensures m (subst (IsIn (snapshots m)) (sym was.held) (inl refl)) in let on = c.newest_value.ensures.goes in
    (c.args.seat.now.knows.participant.registered, registered_in k was on)

pub give_back-requires-in-Err-clause-snapshots : goal.give_back-requires-in-Err-clause-snapshots
give_back-requires-in-Err-clause-snapshots g c =
    let m = c.args.snaps.now in let was = c.requires.holds in let k = c.register-number.ensures m (subst (IsIn (snapshots m)) (sym was.held) (inl refl)) in let on = c.newest_value.ensures.goes in
    let more = with_registered m c.register-number.result in (more, subst (IsIn (snapshots more)) (sym (registered_holds k was on).held) (inl refl))

pub returns-in-Ok-Some-clause-goes : goal.returns-in-Ok-Some-clause-goes
returns-in-Ok-Some-clause-goes g c =
    let m = c.args.snaps.now in let was = c.requires.holds in let k = c.register-number.ensures m (subst (IsIn (snapshots m)) (sym was.held) (inl refl)) in let on = c.newest_value.ensures.goes in
    let more = with_registered m c.register-number.result in
    let back = c.give_back.ensures c.args.seat.now.knows.participant.registered more (registered_in k was on) (subst (IsIn (snapshots more)) (sym (registered_holds k was on).held) (inl refl)) in
    back_read k was on back

pub returns-in-Ok-Some-clause-holds : goal.returns-in-Ok-Some-clause-holds
returns-in-Ok-Some-clause-holds g c =
    let m = c.args.snaps.now in let was = c.requires.holds in let k = c.register-number.ensures m (subst (IsIn (snapshots m)) (sym was.held) (inl refl)) in let on = c.newest_value.ensures.goes in
    let more = with_registered m c.register-number.result in
    let back = c.give_back.ensures c.args.seat.now.knows.participant.registered more (registered_in k was on) (subst (IsIn (snapshots more)) (sym (registered_holds k was on).held) (inl refl)) in
    back_holds k was on back

pub returns-in-Ok-Some-clause-begun : goal.returns-in-Ok-Some-clause-begun
returns-in-Ok-Some-clause-begun g c =
    let m = c.args.snaps.now in let was = c.requires.holds in let k = c.register-number.ensures m (subst (IsIn (snapshots m)) (sym was.held) (inl refl)) in let on = c.newest_value.ensures.goes in
    let more = with_registered m c.register-number.result in
    let back = c.give_back.ensures c.args.seat.now.knows.participant.registered more (registered_in k was on) (subst (IsIn (snapshots more)) (sym (registered_holds k was on).held) (inl refl)) in
    let seen = c.register-number.new.seat.knows.participant.seen in let key = c.args.key.now in let n = c.register-number.result in
    begun_read k was on back key c.in-Ok-Some.value (subst (λ (o : Option (Option (List ℕ))). MatchOption o (Unit {0}) (λ v. v ≡ value_at seen key n)) c.in-Ok-Some.field-0-is c.in-Ok-Some.ensures.value)

pub returns-in-Ok-clause-goes : goal.returns-in-Ok-clause-goes
returns-in-Ok-clause-goes g c =
    let m = c.args.snaps.now in let was = c.requires.holds in let k = c.register-number.ensures m (subst (IsIn (snapshots m)) (sym was.held) (inl refl)) in let on = c.newest_value.ensures.goes in
    registered_goes k was on

pub returns-in-Ok-clause-holds : goal.returns-in-Ok-clause-holds
returns-in-Ok-clause-holds g c =
    let m = c.args.snaps.now in let was = c.requires.holds in let k = c.register-number.ensures m (subst (IsIn (snapshots m)) (sym was.held) (inl refl)) in let on = c.newest_value.ensures.goes in
    let entered = changes_placed m c.register.new.self c.register-number.result after_register c.in-Ok.ensures.ok in
    subst (λ (x : Snapshots). HoldsTurn c.args.store.now c.newest_value.new.seat (snapshots x) [] []) (sym entered) (registered_holds k was on)

pub returns-in-Ok-clause-begun : goal.returns-in-Ok-clause-begun
returns-in-Ok-clause-begun g c =
    let m = c.args.snaps.now in let was = c.requires.holds in let k = c.register-number.ensures m (subst (IsIn (snapshots m)) (sym was.held) (inl refl)) in let on = c.newest_value.ensures.goes in
    begun_registered k was on c.args.key.now

pub returns-in-Ok-clause-kept : goal.returns-in-Ok-clause-kept
returns-in-Ok-clause-kept g c =
    let m = c.args.snaps.now in let n = c.register-number.result in kept_before m c.register.new.self n (changes_placed m c.register.new.self n after_register c.in-Ok.ensures.ok)

pub returns-in-Err-register-clause-goes : goal.returns-in-Err-register-clause-goes
returns-in-Err-register-clause-goes g c =
    let m = c.args.snaps.now in let was = c.requires.holds in let k = c.register-number.ensures m (subst (IsIn (snapshots m)) (sym was.held) (inl refl)) in let on = c.newest_value.ensures.goes in
    let more = with_registered m c.register-number.result in
    let back = c.give_back-in-Err-register.ensures c.args.seat.now.knows.participant.registered more (registered_in k was on) (subst (IsIn (snapshots more)) (sym (registered_holds k was on).held) (inl refl)) in
    back_goes k was on back

pub returns-in-Err-register-clause-holds : goal.returns-in-Err-register-clause-holds
returns-in-Err-register-clause-holds g c =
    let m = c.args.snaps.now in let was = c.requires.holds in let k = c.register-number.ensures m (subst (IsIn (snapshots m)) (sym was.held) (inl refl)) in let on = c.newest_value.ensures.goes in
    let more = with_registered m c.register-number.result in
    let back = c.give_back-in-Err-register.ensures c.args.seat.now.knows.participant.registered more (registered_in k was on) (subst (IsIn (snapshots more)) (sym (registered_holds k was on).held) (inl refl)) in
    subst (λ (x : Snapshots). HoldsTurn c.args.store.now c.give_back-in-Err-register.new.seat (snapshots x) [] []) (sym c.in-Err-register.ensures.err) (back_holds k was on back)

pub returns-in-Err-clause-goes : goal.returns-in-Err-clause-goes
returns-in-Err-clause-goes g c =
    let m = c.args.snaps.now in let was = c.requires.holds in let k = c.register-number.ensures m (subst (IsIn (snapshots m)) (sym was.held) (inl refl)) in let on = c.newest_value.ensures.goes in
    let more = with_registered m c.register-number.result in
    let back = c.give_back-in-Err.ensures c.args.seat.now.knows.participant.registered more (registered_in k was on) (subst (IsIn (snapshots more)) (sym (registered_holds k was on).held) (inl refl)) in
    back_goes k was on back

pub returns-in-Err-clause-holds : goal.returns-in-Err-clause-holds
returns-in-Err-clause-holds g c =
    let m = c.args.snaps.now in let was = c.requires.holds in let k = c.register-number.ensures m (subst (IsIn (snapshots m)) (sym was.held) (inl refl)) in let on = c.newest_value.ensures.goes in
    let more = with_registered m c.register-number.result in
    let back = c.give_back-in-Err.ensures c.args.seat.now.knows.participant.registered more (registered_in k was on) (subst (IsIn (snapshots more)) (sym (registered_holds k was on).held) (inl refl)) in
    back_holds k was on back
