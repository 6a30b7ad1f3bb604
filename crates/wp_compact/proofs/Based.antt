-- What a look at the log tells of its bases.
use Rattle.std.proofs.Common.{◌≡◌, ⊎_elim, inl, inr, ℕ, ◌<◌, ◌≤◌, List, [], ◌∷◌, min, take, refl, sym, subst, ap, ◌∙◌, arith}
use Rattle.std.proofs.Math.Nat.{min-le_right, min-eq_left, min-eq_right}
use Rattle.std.proofs.lemmas.Bool.{cases_lt}
use Rattle.wp_model.specs.declared.entry.Entry.{Entry}
use Rattle.wp_model.specs.declared.segment.Segment.{Segment}
use Rattle.wp_model.specs.Flushed.{InstalledEdit}
use Rattle.wp_model.specs.Legal.{IsLegal, undone_last}
use Rattle.wp_model.specs.Snapshots.{IsLive}
use Rattle.wp_wal.specs.Wal.{WalState}
use Rattle.wp_core.specs.IsSound.{IsSound}
use Rattle.wp_core.specs.Lists.{IsIn}
use Rattle.wp_core.specs.Reading.{Registration}
use Rattle.wp_core.specs.Sound.Actors.{StartsWith}
use Rattle.wp_core.specs.States.{Content, WriteState, writes}
use Rattle.wp_core.specs.Turns.{write_turn}
use Rattle.wp_core.specs.Views.{Event}
use Rattle.wp_core.specs.World.{Participant}
use Rattle.wp_core.proofs.Registered.{registered_live}
use Rattle.wp_model.proofs.Tests.{same_some}
use Rattle.wp_rule.proofs.Knows.{at_sound}
use Rattle.wp_shared.specs.Calls.{Continues, GoesOnAs}
use Rattle.wp_parts.specs.Log.{LogState, IsLog}
use Rattle.wp_shared.specs.Notes.{no_fact, is_under, seeing}
use Rattle.wp_shared.specs.Opening.{IsOneStore}
use Rattle.wp_shared.specs.Seats.{SharedState, SeatState, IsFree, place_at}
use Rattle.wp_shared.specs.Turns.{HoldsTurn, TookLog, Given}
use Rattle.wp_shared.proofs.Onward.{loose_none, loose_under, goes_same, goes_still, goes_seeing, goes_free}
use Rattle.wp_compact.specs.declared.decided.Bases.{Bases}
use Rattle.wp_maint.specs.Calls.{HeldContent}
use Rattle.wp_compact.specs.Compaction.{AreBases, AreLow}
use Rattle.wp_compact.specs.Decided.{ArePinned}
use Rattle.wp_maint.proofs.Onward.{held_then}
use Rattle.wp_compact.proofs.Pinning.{take_grown}

no_greater : (k a b : ℕ) → k ≤ a → k ≤ b → k ≤ min a b
no_greater k a b first second = ⊎_elim (λ (lt : a < b). let e : min a b ≡ a = min-eq_left (omega (arith, lt)) in omega (arith, e, first)) (λ (le : b ≤ a). let e : min a b ≡ b = min-eq_right le in omega (arith, e, second)) (cases_lt a b)

module _ {D : Type 0} {z : SharedState D} {s t : SeatState} {log : LogState} (took : TookLog z s t log) where
  -- a free seat holds this turn alone
  pub took_alone : IsFree z.table s → HoldsTurn z t (writes log.state) [] []
  took_alone free = subst (λ (x : List Content × List ℕ). HoldsTurn z t (writes log.state) x.0 x.1) (λ i. (free.held i, free.turns i)) took.holds

  goes_took : GoesOnAs s t s.knows.participant
  goes_took =
      let h = log.state.history in
      goes_still s (seeing h s) t s.knows.participant (goes_seeing s h took.grown) (goes_same (seeing h s) t no_fact (writes log.state ∷ s.knows.held) (0 ∷ s.turns) loose_none took.goes)

  sound : IsSound took.world
  sound = at_sound (place_at z t.by) t.knows took.world took.stands

  history_is : took.world.writes.history ≡ t.knows.participant.seen
  history_is = ap (λ (x : WriteState). x.history) took.is ∙ sym took.seen

  pub took_legal : IsLegal t.knows.participant.seen
  took_legal = subst IsLegal history_is sound.history.legal

  -- ---- the turn is given

  module _ {v : SeatState} (given : Given z write_turn t v [] []) where
    pub same_given : v.knows.participant ≡ t.knows.participant
    same_given = ap (λ (x : SeatState). x.knows.participant) given.goes.same

    pub given_on : Continues z s v s.knows.participant
    given_on = goes_free z s v s.knows.participant (given.free refl refl) (goes_still s t v s.knows.participant goes_took (goes_same t v (is_under write_turn) [] [] (loose_under write_turn) given.goes))

    pub given_legal : IsLegal v.knows.participant.seen
    given_legal = subst (λ (p : Participant). IsLegal p.seen) (sym same_given) took_legal

    -- ---- the bases

    module _ (one : IsOneStore z.opened z.first) (told : IsLog log) (floor : Registration) (live : List Registration) (pinned : ArePinned s.knows.participant (floor ∷ live)) where
      edit_is : one.edit ≡ took.world.first_edit
      edit_is = same_some one.edit took.world.first_edit (sym one.last ∙ took.stands.first_edit)

      wal_is : log.first ≡ one.wal
      wal_is = same_some log.first one.wal (sym took.of_store ∙ one.log)

      base_is : log.first.segment.base ≡ one.edit.segment.base
      base_is = ap (λ (x : WalState). x.segment.base) wal_is ∙ ap (λ (g : Segment). g.base) (sym one.segment)

      registered : t.knows.participant.registered ≡ s.knows.participant.registered
      registered = ap (λ (x : SeatState). x.knows.participant.registered) took.seat

      is_live : (r : Registration) → IsIn r (floor ∷ live) → IsLive took.world.snapshots r.number
      is_live r there =
          (registered_live took.world.writes.history took.world.snapshots took.world.actors t.by t.knows r took.stands.there (subst (IsIn r) (sym registered) (pinned r there).0) sound.registrations).0

      base_low : (r : Registration) → IsIn r (floor ∷ live) → log.first.segment.base ≤ r.number
      base_low r there = let b = sound.from_base r.number (is_live r there) in let e = base_is ∙ ap (λ (x : InstalledEdit). x.segment.base) edit_is in omega (arith, b, e)

      module _ (bases : Bases) (opened_is : bases.opened ≡ log.first.segment.base) (installed_is : bases.installed ≡ min log.state.segment.base floor.number) where
        pub are_low : AreLow v.knows.participant.seen floor.number live bases
        are_low = subst (λ (p : Participant). AreLow p.seen floor.number live bases) (sym same_given) (record {
          opened =
              let risen = told.risen in let segment = ap (λ (g : Segment). g.base) told.segment in let low = base_low floor (inl refl) in
              let k = no_greater log.first.segment.base log.state.segment.base floor.number (omega (arith, risen, segment)) low in omega (arith, k, opened_is, installed_is);
          installed = let k = min-le_right log.state.segment.base floor.number in omega (arith, k, installed_is);
          live_from = λ r there. let k = base_low r (inr there) in omega (arith, k, opened_is);
          whole =
              let opened : z.opened ≡ took.world.opened = sym took.stands.opened in
              let starts : StartsWith t.knows.participant.seen z.opened = subst (λ (x : List Entry × List Entry). StartsWith x.0 x.1) (λ i. (history_is i, sym opened i)) sound.history.grown in
              ap undone_last (ap (λ (n : ℕ). take n t.knows.participant.seen) (opened_is ∙ base_is) ∙ take_grown one.edit.segment.base z.opened t.knows.participant.seen one.based starts) ∙ one.whole;
        })

        pub are_bases : AreBases z s v floor.number bases
        are_bases = record {
          opened = (one.edit, one.last, opened_is ∙ base_is);
          state = log.state;
          held = subst (λ (past : List Event). HeldContent z s v past (writes log.state)) (ap (λ (p : Participant). p.past) (same_given ∙ goes_took.participant))
              (held_then z s t v (writes log.state) (took.world, took.stands) (goes_took.same_by, goes_took.made, goes_took.joined) goes_took.seen same_given (subst (IsIn (writes log.state)) (sym took.holds.held) (inl refl)));
          installed_is = installed_is;
        }
