-- A look at the versions in tables: which of them are of the history that the seat has seen.
use Rattle.std.proofs.Common.{◌≡◌, inl, List, [], ◌∷◌, refl, sym, subst, ap, ◌∙◌, Some}
use Rattle.wp_model.specs.declared.entry.Entry.{Entry}
use Rattle.wp_model.specs.Decision.{entry_version}
use Rattle.wp_model.specs.History.{entry_at}
use Rattle.wp_model.specs.Versions.{AreInOrder, version_at}
use Rattle.wp_model.proofs.Entries.{entry_at_old}
use Rattle.wp_core.specs.Changes.{turn_index}
use Rattle.wp_core.specs.IsSound.{IsSound}
use Rattle.wp_core.specs.Lists.{IsIn}
use Rattle.wp_core.specs.Sound.Actors.{StartsWith}
use Rattle.wp_core.specs.Sound.Snapshots.{has_versions}
use Rattle.wp_core.specs.States.{StoreState, Content, store, turn_of}
use Rattle.wp_core.specs.Turns.{Turn}
use Rattle.wp_core.specs.Views.{Event}
use Rattle.wp_core.specs.World.{Participant}
use Rattle.wp_rule.proofs.Knows.{at_sound, seen_is}
use Rattle.wp_shared.specs.Calls.{Continues}
use Rattle.wp_shared.specs.Notes.{no_fact, is_under}
use Rattle.wp_shared.specs.Seats.{SharedState, SeatState, place_at}
use Rattle.wp_shared.specs.Turns.{Taken, Given}
use Rattle.wp_shared.proofs.Onward.{starts_equal, loose_none, loose_under, goes_same, goes_still, goes_free}
use Rattle.wp_read.proofs.Shows.{versions_of}
use Rattle.wp_maint.specs.Calls.{HeldContent}
use Rattle.wp_compact.specs.Compaction.{HadVersions}
use Rattle.wp_compact.specs.Decided.{AreSeen}
use Rattle.wp_maint.proofs.Onward.{held_then}
use Rattle.wp_maint.proofs.Versions.{at_own}

module _ {D : Type 0} {z : SharedState D} {s t : SeatState} {before : StoreState} (taken : Taken z s t (store before)) where
  pub are_seen : AreInOrder before.tables → AreSeen s.knows.participant.seen before.tables
  are_seen ordered v there low =
      let seen = s.knows.participant.seen in
      let w = taken.world in
      let sound : IsSound w = at_sound (place_at z s.by) s.knows w taken.before in
      let stored : version_at w.store.tables v.key v.number ≡ Some v.value = ap (λ (x : StoreState). version_at x.tables v.key v.number) taken.is ∙ at_own before.tables ordered v there in
      let is : entry_version w.writes.history v.number v.key ≡ Some v.value = sound.versions.tables v.key v.number v.value stored in
      let grown : StartsWith w.writes.history seen = seen_is (place_at z s.by) s.knows w taken.before in
      ap has_versions (sym (ap (λ (h : List Entry). entry_at h v.number) grown.1 ∙ entry_at_old seen grown.0 v.number low)) ∙ versions_of (entry_at w.writes.history v.number) v.key v.value is

  pub had_versions : (v : SeatState) → v.knows.participant ≡ s.knows.participant → HadVersions z s v before.tables
  had_versions v same =
      let seat = taken.seat in (
        before,
        subst (λ (past : List Event). HeldContent z s v past (store before)) (ap (λ (p : Participant). p.past) same)
            (held_then z s t v (store before) taken.stands (ap (λ (x : SeatState). x.by) seat, ap (λ (x : SeatState). x.knows.made) seat, ap (λ (x : SeatState). x.knows.joined) seat)
            (starts_equal s.knows.participant.seen t.knows.participant.seen (ap (λ (x : SeatState). x.knows.participant.seen) seat)) (same ∙ sym (ap (λ (x : SeatState). x.knows.participant) seat)) (subst (IsIn (store before)) (sym (ap (λ (x : SeatState). x.knows.held) seat)) (inl refl))),
        refl,
      )

-- a turn is taken and given
module _ {D : Type 0} {z : SharedState D} {s t u : SeatState} {table : Content} {turn : Turn} (taken : Taken z s t table) (given : Given z turn t u [] []) where
  pub looked_on : Continues z s u s.knows.participant
  looked_on =
      goes_free z s u s.knows.participant (given.free refl refl)
      (goes_still s t u s.knows.participant (goes_same s t no_fact (table ∷ s.knows.held) (turn_index (turn_of table) ∷ s.turns) loose_none taken.goes) (goes_same t u (is_under turn) [] [] (loose_under turn) given.goes))

  pub same_look : u.knows.participant ≡ s.knows.participant
  same_look = ap (λ (x : SeatState). x.knows.participant) given.goes.same ∙ ap (λ (x : SeatState). x.knows.participant) taken.goes.same
