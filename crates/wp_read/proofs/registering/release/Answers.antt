use Rattle.std.proofs.Common.{◌≡◌, [], ◌∷◌, ◌++◌, Some, sym, subst, ap, ◌∙◌}
use Rattle.wp_model.specs.Snapshots.{Snapshots, NoOldCommits}
use Rattle.wp_core.specs.States.{snapshots}
use Rattle.wp_core.specs.Views.{old_flag_stays}
use Rattle.wp_core.specs.World.{Participant}
use Rattle.wp_shared.specs.Seats.{SeatState}
use Rattle.wp_shared.specs.Turns.{HoldsTurn}
use Rattle.wp_shared.proofs.Tables.{knows_to_give}
use Rattle.wp_shared.proofs.Onward.{holds_on, holds_alone}
use Rattle.wp_read.specs.Registers.{without_last}
use Rattle.wp_read.proofs.Seated.{continues_one}
use Rattle.wp_read.proofs.registering.release.Goals as goal

pub release_in-requires-clause-holds : goal.release_in-requires-clause-holds
release_in-requires-clause-holds g c = subst (λ (m : Snapshots). HoldsTurn c.args.store.now c.take_turn-snaps.new.seat (snapshots m) [] []) (sym c.deref_mut.ensures.value) (holds_alone c.requires.free c.take_turn-snaps.ensures.taken)

pub settle_old_flag-requires-clause-down : goal.settle_old_flag-requires-clause-down
settle_old_flag-requires-clause-down g c empty =
    let k = c.take_turn-snaps.ensures.taken in
    c.release_in.ensures.4.goes.notes (old_flag_stays 0) tt (knows_to_give c.take_turn-snaps.new.seat.knows (snapshots c.take_turn-snaps.result.value) k.knows (subst NoOldCommits c.deref.ensures (c.none_kept-was_empty.ensures.0 empty)))

pub give_turn-requires-clause-holds : goal.give_turn-requires-clause-holds
give_turn-requires-clause-holds g c = ([], [], holds_on c.release_in.ensures.4.holds c.settle_old_flag.ensures.seat)

pub returns : goal.returns
returns g c =
    let k = c.release_in.ensures in let first = c.take_turn-snaps.ensures.taken in let in_step = c.settle_old_flag.ensures.seat in let r = c.args.snapshot in
    let gave = c.give_turn.ensures [] [] (holds_on k.4.holds in_step) in
    let person : SeatState → Participant = λ s. s.knows.participant in (
      k.0,
      k.1,
      subst (λ (s : SeatState). s.knows.participant.registered ≡ k.0 ++ r ∷ k.1) first.goes.same k.2,
      k.3,
      continues_one (k.0 ++ k.1) first k.4 in_step gave,
      subst (λ (s : SeatState). k.0 ++ k.1 ≡ without_last (Some r) s.knows.participant.registered) first.goes.same k.5,
      ap person gave.goes.same ∙ ap person in_step.same ∙ k.6 ∙ ap (λ (s : SeatState). record s.knows.participant { registered = k.0 ++ k.1 }) first.goes.same,
    )
