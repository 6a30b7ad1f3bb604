use Rattle.std.proofs.Common.{inl, refl, sym, subst, ap, ◌∙◌}
use Rattle.wp_core.specs.Changes.{with_registered}
use Rattle.wp_core.specs.Lists.{IsIn}
use Rattle.wp_core.specs.Reading.{Registration}
use Rattle.wp_core.specs.States.{snapshots}
use Rattle.wp_core.specs.World.{Participant}
use Rattle.wp_read.specs.Registers.{registration_of}
use Rattle.wp_read.proofs.Seated.{changed_so, changed, number_seen, smallest_is, was_taken, changed_back, kept_before}
use Rattle.wp_read.proofs.registering.register_in.Goals as goal

pub register-number-requires-clause-snapshots : goal.register-number-requires-clause-snapshots
register-number-requires-clause-snapshots g c = (c.args.snaps.now, subst (IsIn (snapshots c.args.snaps.now)) (sym c.requires.holds.2.held) (inl refl))

pub unregister_last-requires-clause-seat : goal.unregister_last-requires-clause-seat
unregister_last-requires-clause-seat g c =
    let k = c.register-number.ensures c.args.snaps.now (subst (IsIn (snapshots c.args.snaps.now)) (sym c.requires.holds.2.held) (inl refl)) in
    (changed_so k c.requires.holds.2 _ refl).holds.same_table

pub unregister_last-requires-clause-last : goal.unregister_last-requires-clause-last
unregister_last-requires-clause-last g c =
    let k = c.register-number.ensures c.args.snaps.now (subst (IsIn (snapshots c.args.snaps.now)) (sym c.requires.holds.2.held) (inl refl)) in
    (c.args.seat.now.knows.participant.registered, registration_of c.register-number.result c.args.smallest, ap (λ (p : Participant). p.registered) (changed_so k c.requires.holds.2 _ refl).goes.participant)

pub unregister_last-requires-clause-snapshots : goal.unregister_last-requires-clause-snapshots
unregister_last-requires-clause-snapshots g c =
    let k = c.register-number.ensures c.args.snaps.now (subst (IsIn (snapshots c.args.snaps.now)) (sym c.requires.holds.2.held) (inl refl)) in
    let m = with_registered c.args.snaps.now c.register-number.result in (m, subst (IsIn (snapshots m)) (sym (changed_so k c.requires.holds.2 m refl).holds.held) (inl refl))

pub returns-in-Ok-clause-changes : goal.returns-in-Ok-clause-changes
returns-in-Ok-clause-changes g c others beneath holds =
    let k = c.register-number.ensures c.args.snaps.now (subst (IsIn (snapshots c.args.snaps.now)) (sym holds.held) (inl refl)) in
    changed k holds c.in-Ok.snapshot c.in-Ok.ensures.snapshot c.enter.new.snaps c.in-Ok.ensures.registered

pub returns-in-Ok-clause-number : goal.returns-in-Ok-clause-number
returns-in-Ok-clause-number g c =
    let k = c.register-number.ensures c.args.snaps.now (subst (IsIn (snapshots c.args.snaps.now)) (sym c.requires.holds.2.held) (inl refl)) in
    number_seen k c.requires.holds.2 c.in-Ok.snapshot c.in-Ok.ensures.snapshot

pub returns-in-Ok-clause-smallest : goal.returns-in-Ok-clause-smallest
returns-in-Ok-clause-smallest g c =
    let k = c.register-number.ensures c.args.snaps.now (subst (IsIn (snapshots c.args.snaps.now)) (sym c.requires.holds.2.held) (inl refl)) in
    smallest_is k c.requires.holds.2 c.in-Ok.snapshot c.in-Ok.ensures.snapshot

pub returns-in-Ok-clause-taken : goal.returns-in-Ok-clause-taken
returns-in-Ok-clause-taken g c =
    let k = c.register-number.ensures c.args.snaps.now (subst (IsIn (snapshots c.args.snaps.now)) (sym c.requires.holds.2.held) (inl refl)) in
    was_taken k c.requires.holds.2 c.in-Ok.snapshot c.in-Ok.ensures.snapshot

pub returns-in-Ok-clause-entered : goal.returns-in-Ok-clause-entered
returns-in-Ok-clause-entered g c = c.in-Ok.ensures.registered ∙ ap (λ (x : Registration). with_registered c.args.snaps.now x.number) (sym c.in-Ok.ensures.snapshot)

pub returns-in-Ok-clause-kept : goal.returns-in-Ok-clause-kept
returns-in-Ok-clause-kept g c = kept_before c.args.snaps.now c.enter.new.snaps c.register-number.result c.in-Ok.ensures.registered

pub returns-in-Err-clause-changes : goal.returns-in-Err-clause-changes
returns-in-Err-clause-changes g c others beneath holds =
    let k = c.register-number.ensures c.args.snaps.now (subst (IsIn (snapshots c.args.snaps.now)) (sym holds.held) (inl refl)) in
    let m = with_registered c.args.snaps.now c.register-number.result in let first = changed_so k holds m refl in let rs = c.args.seat.now.knows.participant.registered in
    changed_back k holds c.unregister_last.new.seat c.enter.new.snaps
    (c.unregister_last.ensures rs (registration_of c.register-number.result c.args.smallest) m (ap (λ (p : Participant). p.registered) first.goes.participant) (subst (IsIn (snapshots m)) (sym first.holds.held) (inl refl)))
    c.in-Err.ensures.err
