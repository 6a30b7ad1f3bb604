-- Each snapshot of a seat is from the base on that the log had as it was opened.
use Rattle.std.proofs.Common.{◌≡◌, ℕ, ◌≤◌, sym, subst, ap, ◌∙◌, arith}
use Rattle.wp_model.specs.declared.segment.Segment.{Segment}
use Rattle.wp_model.specs.Flushed.{InstalledEdit}
use Rattle.wp_model.proofs.Tests.{same_some}
use Rattle.wp_wal.specs.Wal.{WalState}
use Rattle.wp_core.specs.IsSound.{IsSound}
use Rattle.wp_core.specs.Lists.{IsIn}
use Rattle.wp_core.specs.Reading.{Registration}
use Rattle.wp_core.proofs.Registered.{registered_live}
use Rattle.wp_rule.proofs.Knows.{at_sound}
use Rattle.wp_parts.specs.Log.{LogState}
use Rattle.wp_shared.specs.Opening.{IsOneStore}
use Rattle.wp_shared.specs.Seats.{SharedState, SeatState, place_at}
use Rattle.wp_shared.specs.Turns.{TookLog}

module _ {D : Type 0} {z : SharedState D} {s t : SeatState} {log : LogState} (took : TookLog z s t log) (one : IsOneStore z.opened z.first) where
  sound : IsSound took.world
  sound = at_sound (place_at z t.by) t.knows took.world took.stands

  edit_is : one.edit ≡ took.world.first_edit
  edit_is = same_some one.edit took.world.first_edit (sym one.last ∙ took.stands.first_edit)

  wal_is : log.first ≡ one.wal
  wal_is = same_some log.first one.wal (sym took.of_store ∙ one.log)

  pub base_is : log.first.segment.base ≡ one.edit.segment.base
  base_is = ap (λ (x : WalState). x.segment.base) wal_is ∙ ap (λ (g : Segment). g.base) (sym one.segment)

  pub from_base : (r : Registration) → IsIn r s.knows.participant.registered → log.first.segment.base ≤ r.number
  from_base r there =
      let registered = subst (IsIn r) (sym (ap (λ (x : SeatState). x.knows.participant.registered) took.seat)) there in
      let live = (registered_live took.world.writes.history took.world.snapshots took.world.actors t.by t.knows r took.stands.there registered sound.registrations).0 in
      let b = sound.from_base r.number live in let e = base_is ∙ ap (λ (x : InstalledEdit). x.segment.base) edit_is in
      omega (arith, b, e)
