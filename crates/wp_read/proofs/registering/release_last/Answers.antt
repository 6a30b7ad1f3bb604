use Rattle.std.proofs.Common.{List, [], inl, refl, sym, subst, append-nil}
use Rattle.wp_core.specs.Lists.{IsIn}
use Rattle.wp_core.specs.Reading.{Registration}
use Rattle.wp_core.specs.States.{snapshots}
use Rattle.wp_read.specs.Registers.{ChangesSnapshots}
use Rattle.wp_read.proofs.Seated.{released_one}
use Rattle.wp_read.proofs.registering.release_last.Goals as goal

pub unregister_last-requires-clause-last : goal.unregister_last-requires-clause-last
unregister_last-requires-clause-last g c = (c.requires.last.0, c.args.snapshot, c.requires.last.1)

pub unregister_last-requires-clause-snapshots : goal.unregister_last-requires-clause-snapshots
unregister_last-requires-clause-snapshots g c = (c.args.snaps.now, subst (IsIn (snapshots c.args.snaps.now)) (sym c.requires.holds.2.held) (inl refl))

pub withdraw-requires : goal.withdraw-requires
withdraw-requires g c =
    let m = c.args.snaps.now in (c.unregister_last.ensures c.requires.last.0 c.args.snapshot m c.requires.last.1 (subst (IsIn (snapshots m)) (sym c.requires.holds.2.held) (inl refl))).live

pub returns-clause-changes : goal.returns-clause-changes
returns-clause-changes g c front others beneath last holds =
    let m = c.args.snaps.now in
    subst (λ (rs : List Registration). ChangesSnapshots c.args.store.now c.args.seat.now c.unregister_last.new.seat (record c.args.seat.now.knows.participant { registered = rs }) c.withdraw.new.snaps others beneath) (append-nil front)
    (released_one c.args.seat.now c.unregister_last.new.seat front [] c.args.snapshot m c.withdraw.new.snaps (c.unregister_last.ensures front c.args.snapshot m last (subst (IsIn (snapshots m)) (sym holds.held) (inl refl))) holds c.withdraw.ensures)
