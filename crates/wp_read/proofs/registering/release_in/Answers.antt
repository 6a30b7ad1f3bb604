use Rattle.std.proofs.Common.{inl, refl, sym, subst, ap}
use Rattle.wp_core.specs.Lists.{IsIn}
use Rattle.wp_core.specs.States.{snapshots}
use Rattle.wp_shared.specs.Seats.{SeatState}
use Rattle.wp_read.specs.Registers.{before_last, behind_last}
use Rattle.wp_read.proofs.Registers.{none_behind, split_last}
use Rattle.wp_read.proofs.Seated.{released_one}
use Rattle.wp_read.proofs.registering.release_in.Goals as goal

pub unregister-requires-clause-snapshots : goal.unregister-requires-clause-snapshots
unregister-requires-clause-snapshots g c = (c.args.snaps.now, subst (IsIn (snapshots c.args.snaps.now)) (sym c.requires.holds.held) (inl refl))

pub withdraw-requires : goal.withdraw-requires
withdraw-requires g c = let m = c.args.snaps.now in (c.unregister.ensures m (subst (IsIn (snapshots m)) (sym c.requires.holds.held) (inl refl))).live

pub returns : goal.returns
returns g c =
    let rs = c.args.seat.now.knows.participant.registered in let r = c.args.snapshot in let m = c.args.snaps.now in
    let gone = c.unregister.ensures m (subst (IsIn (snapshots m)) (sym c.requires.holds.held) (inl refl)) in (
      before_last r rs,
      behind_last r rs,
      split_last r rs c.requires.registered,
      none_behind r rs,
      released_one c.args.seat.now c.unregister.new.seat (before_last r rs) (behind_last r rs) r m c.withdraw.new.snaps gone c.requires.holds c.withdraw.ensures,
      refl,
      ap (λ (s : SeatState). s.knows.participant) gone.seat,
    )
