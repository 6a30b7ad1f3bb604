use Rattle.std.proofs.Common.{inl, inr, refl, ℕ, List, [], ◌∷◌, ◌++◌, length, sym, subst, ap, ◌∙◌}
use Rattle.std.proofs.lemmas.Result.{err_from_is_err_and}
use Rattle.wp_model.specs.declared.entry.Entry.{Entry}
use Rattle.wp_model.specs.Snapshots.{Snapshots, NoOldCommits}
use Rattle.wp_core.specs.Changes.{with_released}
use Rattle.wp_core.specs.Lists.{IsIn}
use Rattle.wp_core.specs.Reading.{Registration}
use Rattle.wp_core.specs.States.{prepared, snapshots}
use Rattle.wp_core.specs.World.{Participant}
use Rattle.wp_shared.specs.Turns.{HoldsTurn}
use Rattle.wp_read.specs.Registers.{AreCounted, AreLive, IsPinned, MayPin}
use Rattle.wp_read.proofs.AllPinned.{taken_counted, taken_may_pin, pin_changes, pin_seen, pin_listed, is_pinned, unpinned}
use Rattle.wp_read.proofs.Counts.{counted_more, kept_each}
use Rattle.wp_read.proofs.Seated.{changes_none, changes_then, changes_ok}
use Rattle.wp_read.proofs.pinning.pin_in.Goals as goal

pub register_in-requires-clause-holds : goal.register_in-requires-clause-holds
register_in-requires-clause-holds g c = (prepared c.args.tables.now ∷ [], 1 ∷ [], c.requires.holds)

pub register_in-requires-clause-smallest : goal.register_in-requires-clause-smallest
register_in-requires-clause-smallest g c =
    let tables = c.args.tables.now in inr (tables, subst (IsIn (prepared tables)) (sym c.requires.holds.held) (inr (inl refl)), c.smallest.ensures)

pub enter_each-requires : goal.enter_each-requires
enter_each-requires g c =
    let m = c.args.snaps.now in let floor = c.in_ok-floor.floor in let k = c.in_ok-floor.ensures in
    subst AreCounted (sym k.entered) (counted_more m floor.number (taken_counted c.args.store.now c.args.seat.now c.register_in.new.seat.knows.participant.seen floor m k.taken.0))

pub register_again-requires-clause-held : goal.register_again-requires-clause-held
register_again-requires-clause-held g c =
    let m = c.args.snaps.now in let floor = c.in_ok-floor.floor in let k = c.in_ok-floor.ensures in let seen = c.register_in.new.seat.knows.participant.seen in
    let numbers = c.deref-numbers.result.now in (
      c.register_in.new.snaps,
      prepared c.args.tables.now ∷ [],
      (c.register_in.ensures.changes (prepared c.args.tables.now ∷ []) (1 ∷ []) c.requires.holds).holds.held,
      subst (λ (n : ℕ). MayPin seen c.register_in.new.snaps n numbers) (sym c.number.ensures)
          (taken_may_pin c.args.store.now c.args.seat.now seen floor m k.taken.0 seen numbers c.register_in.new.snaps k.number (subst (AreLive m) (sym c.deref-numbers.ensures.value) c.in_ok-found.ensures) k.entered),
    )

pub release_last-requires-clause-last : goal.release_last-requires-clause-last
release_last-requires-clause-last g c = (c.args.seat.now.knows.participant.registered, ap (λ (p : Participant). p.registered) (changes_ok (λ (r : Registration). r ∷ []) c.in_ok-floor.was (c.register_in.ensures.changes (prepared c.args.tables.now ∷ []) (1 ∷ []) c.requires.holds)).goes.participant)

pub release_last-requires-clause-holds : goal.release_last-requires-clause-holds
release_last-requires-clause-holds g c =
    let others = prepared c.args.tables.now ∷ [] in (others, 1 ∷ [], subst (λ (m : Snapshots). HoldsTurn c.args.store.now c.register_in.new.seat (snapshots m) others (1 ∷ [])) (sym c.in-Err.ensures.err) (c.register_in.ensures.changes (prepared c.args.tables.now ∷ []) (1 ∷ []) c.requires.holds).holds)

pub returns-in_err-floor-clause-changes : goal.returns-in_err-floor-clause-changes
returns-in_err-floor-clause-changes g c =
    let p = err_from_is_err_and c.from_residual-in_err-floor.result c.from_residual-in_err-floor.ensures.1 in
    rw p.1 (c.in_err-floor.ensures.changes (prepared c.args.tables.now ∷ []) (1 ∷ []) c.requires.holds)

pub returns-in-Ok-clause-changes : goal.returns-in-Ok-clause-changes
returns-in-Ok-clause-changes g c =
    let k = changes_ok (λ (r : Registration). r ∷ []) c.in_ok-floor.was (c.register_in.ensures.changes (prepared c.args.tables.now ∷ []) (1 ∷ []) c.requires.holds) in
    pin_changes c.in_ok-floor.floor c.deref-numbers.result.now k c.in-Ok.ensures.live c.number.ensures (c.register_again.ensures c.register_in.new.snaps (prepared c.args.tables.now ∷ []) k.holds.held) c.enter_each.new.snaps c.in-Ok.ensures.ok

pub returns-in-Ok-clause-number : goal.returns-in-Ok-clause-number
returns-in-Ok-clause-number g c =
    let k = changes_ok (λ (r : Registration). r ∷ []) c.in_ok-floor.was (c.register_in.ensures.changes (prepared c.args.tables.now ∷ []) (1 ∷ []) c.requires.holds) in
    c.in_ok-floor.ensures.number ∙ ap (λ (h : List Entry). length h) (pin_seen c.in_ok-floor.floor c.deref-numbers.result.now k c.in-Ok.ensures.live c.number.ensures (c.register_again.ensures c.register_in.new.snaps (prepared c.args.tables.now ∷ []) k.holds.held))

pub returns-in-Ok-clause-pinned : goal.returns-in-Ok-clause-pinned
returns-in-Ok-clause-pinned g c =
    let k = changes_ok (λ (r : Registration). r ∷ []) c.in_ok-floor.was (c.register_in.ensures.changes (prepared c.args.tables.now ∷ []) (1 ∷ []) c.requires.holds) in let floor = c.in_ok-floor.floor in let numbers = c.deref-numbers.result.now in let m = c.args.snaps.now in
    let taken = c.in_ok-floor.ensures.taken in let tables = c.args.tables.now in
    subst (λ (h : List Entry). IsPinned c.args.store.now c.args.seat.now h floor c.in-Ok.live.items) (pin_seen floor numbers k c.in-Ok.ensures.live c.number.ensures (c.register_again.ensures c.register_in.new.snaps (prepared c.args.tables.now ∷ []) k.holds.held))
    (is_pinned c.args.store.now c.args.seat.now c.register_in.new.seat.knows.participant.seen floor m numbers c.in-Ok.live.items taken.0 (taken.1 tables (subst (IsIn (prepared tables)) (sym c.requires.holds.held) (inr (inl refl))) c.smallest.ensures) c.in-Ok.ensures.live (subst (AreLive m) (sym c.deref-numbers.ensures.value) c.in_ok-found.ensures))

pub returns-in-Ok-clause-listed : goal.returns-in-Ok-clause-listed
returns-in-Ok-clause-listed g c =
    let k = changes_ok (λ (r : Registration). r ∷ []) c.in_ok-floor.was (c.register_in.ensures.changes (prepared c.args.tables.now ∷ []) (1 ∷ []) c.requires.holds) in
    pin_listed c.in_ok-floor.floor c.deref-numbers.result.now k c.in-Ok.ensures.live c.number.ensures (c.register_again.ensures c.register_in.new.snaps (prepared c.args.tables.now ∷ []) k.holds.held)

pub returns-in-Ok-clause-kept : goal.returns-in-Ok-clause-kept
returns-in-Ok-clause-kept g c none = c.register_in.ensures.kept (kept_each c.deref-numbers.result.now c.register_in.new.snaps (subst NoOldCommits c.in-Ok.ensures.ok none))

pub returns-clause-changes : goal.returns-clause-changes
returns-clause-changes g c =
    let s0 = c.args.seat.now in let rs = s0.knows.participant.registered in let others = prepared c.args.tables.now ∷ [] in let k = changes_ok (λ (r : Registration). r ∷ []) c.in_ok-floor.was (c.register_in.ensures.changes (prepared c.args.tables.now ∷ []) (1 ∷ []) c.requires.holds) in
    let holds = subst (λ (m : Snapshots). HoldsTurn c.args.store.now c.register_in.new.seat (snapshots m) others (1 ∷ [])) (sym c.in-Err.ensures.err) k.holds in
    changes_then s0 c.register_in.new.seat c.release_last.new.seat (record s0.knows.participant { registered = rs ++ c.in_ok-floor.floor ∷ [] }) rs c.register_in.new.snaps c.release_last.new.snaps k (c.release_last.ensures.changes rs others (1 ∷ []) (ap (λ (p : Participant). p.registered) k.goes.participant) holds)

pub returns-clause-kept : goal.returns-clause-kept
returns-clause-kept g c none =
    let m = c.args.snaps.now in let m1 = c.register_in.new.snaps in let floor = c.in_ok-floor.floor in
    let back = c.release_last.ensures.released ∙ ap (λ (x : Snapshots). with_released x floor.number) c.in-Err.ensures.err in
    subst NoOldCommits (unpinned c.args.store.now c.args.seat.now c.register_in.new.seat.knows.participant.seen floor m m1 c.release_last.new.snaps c.in_ok-floor.ensures.taken.0 c.in_ok-floor.ensures.entered back) none

pub returns-in_err-found-clause-changes : goal.returns-in_err-found-clause-changes
returns-in_err-found-clause-changes g c = let p = err_from_is_err_and c.from_residual.result c.from_residual.ensures.1 in rw p.1 (changes_none c.requires.holds)

pub returns-in_err-found-clause-number : goal.returns-in_err-found-clause-number
returns-in_err-found-clause-number g c = let p = err_from_is_err_and c.from_residual.result c.from_residual.ensures.1 in rw p.1 tt

pub returns-in_err-found-clause-pinned : goal.returns-in_err-found-clause-pinned
returns-in_err-found-clause-pinned g c = let p = err_from_is_err_and c.from_residual.result c.from_residual.ensures.1 in rw p.1 tt

pub returns-in_err-found-clause-listed : goal.returns-in_err-found-clause-listed
returns-in_err-found-clause-listed g c = let p = err_from_is_err_and c.from_residual.result c.from_residual.ensures.1 in rw p.1 tt

pub returns-in_err-floor-clause-number : goal.returns-in_err-floor-clause-number
returns-in_err-floor-clause-number g c = let p = err_from_is_err_and c.from_residual-in_err-floor.result c.from_residual-in_err-floor.ensures.1 in rw p.1 tt

pub returns-in_err-floor-clause-pinned : goal.returns-in_err-floor-clause-pinned
returns-in_err-floor-clause-pinned g c = let p = err_from_is_err_and c.from_residual-in_err-floor.result c.from_residual-in_err-floor.ensures.1 in rw p.1 tt

pub returns-in_err-floor-clause-listed : goal.returns-in_err-floor-clause-listed
returns-in_err-floor-clause-listed g c = let p = err_from_is_err_and c.from_residual-in_err-floor.result c.from_residual-in_err-floor.ensures.1 in rw p.1 tt

pub returns-in_err-found-clause-kept : goal.returns-in_err-found-clause-kept
returns-in_err-found-clause-kept g c none = none

pub returns-in_err-floor-clause-kept : goal.returns-in_err-floor-clause-kept
returns-in_err-floor-clause-kept g c = c.register_in.ensures.kept

pub register_again-requires-clause-seat : goal.register_again-requires-clause-seat
register_again-requires-clause-seat g c = (c.register_in.ensures.changes (prepared c.args.tables.now ∷ []) (1 ∷ []) c.requires.holds).holds.same_table

pub register_again-requires-clause-live : goal.register_again-requires-clause-live
register_again-requires-clause-live g c = (c.register_in.ensures.changes (prepared c.args.tables.now ∷ []) (1 ∷ []) c.requires.holds).holds.live

pub returns-clause-number : goal.returns-clause-number
returns-clause-number g c = tt

pub returns-clause-pinned : goal.returns-clause-pinned
returns-clause-pinned g c = tt

pub returns-clause-listed : goal.returns-clause-listed
returns-clause-listed g c = tt
