-- A refused compaction installed no edit and called no device, or a device failed it.
use Rattle.std.proofs.Common.{◌≡◌, ◌⊎◌, inl, inr, List, [], ◌∷◌, ◌++◌, Option, Some, None, refl}
use Rattle.std.specs.Prelude.{Result, Ok, Err, IfErr}
use Rattle.wp_core.specs.Lists.{IsIn}
use Rattle.wp_core.specs.Sound.Actors.{StartsWith}
use Rattle.wp_core.specs.States.{Installed, installed}
use Rattle.wp_core.specs.Views.{tables_failed}
use Rattle.wp_shared.specs.Seats.{SharedState, SeatState}
use Rattle.wp_maint.specs.declared.done.Done.{Done}
use Rattle.wp_maint.specs.declared.error.MaintError.{MaintError}
use Rattle.wp_maint.specs.declared.error.MaintError.TheVariants.{Memory, Nothing, TableFault, TablesStopped}
use Rattle.wp_maint.specs.Calls.{KeepsEach, UnlessFault, RefusesBeforeDevices, found_by}
use Rattle.wp_compact.specs.Calls.{Compacts}
use Rattle.wp_compact.specs.Compaction.{InRound}
use Rattle.wp_maint.proofs.Onward.{IsSeat, held_between}
use Rattle.wp_maint.proofs.BeforeInstall.{as_it_was, err_more, marked, none_marked}

pub round_more : {A B : Type 0} → (A → B) → (result : Option (Result Done MaintError)) → InRound A result → InRound B result
round_more f (Some result) k = err_more f result k
round_more f None k = f k

-- ---- the tables were given back as they were

pub none_taken : {D : Type 0} (z : SharedState D) (s v : SeatState) → KeepsEach z s v
none_taken z s v = ([], λ e none. absurd none)

-- of a call between two others, and so between two that are further apart
module _ {D : Type 0} (z : SharedState D) (s t u v : SeatState) (seat : IsSeat s t) (past : t.knows.participant.past ≡ s.knows.participant.past) (starts : StartsWith t.knows.participant.seen s.knows.participant.seen) (grown : StartsWith v.knows.participant.seen u.knows.participant.seen) where
  pub each_between : KeepsEach z t u → KeepsEach z s v
  each_between k = (k.0, λ e there. (held_between z s t u v t.knows.participant.past s.knows.participant.past (installed e) seat starts grown past (k.1 e there).0, (k.1 e there).1))

-- those of one call, and of the next
module _ {D : Type 0} (z : SharedState D) (s v : SeatState) where
  in_both : (one two : List Installed) (e : Installed) → IsIn e (one ++ two) → IsIn e one ⊎ IsIn e two
  in_both [] two e there = inr there
  in_both (x ∷ one) two e (inl is) = inl (inl is)
  in_both (x ∷ one) two e (inr rest) = elim (in_both one two e rest) [
    | inl front ↦ inl (inr front)
    | inr back ↦ inr back
  ]

  pub each_then : KeepsEach z s v → KeepsEach z s v → KeepsEach z s v
  each_then first second = (
    first.0 ++ second.0,
    λ e there. elim (in_both first.0 second.0 e there) [
      | inl front ↦ first.1 e front
      | inr back ↦ second.1 e back
    ],
  )

-- ---- what it remembers

module _ {D : Type 0} (z : SharedState D) (old new : SeatState) (Leaves : Type 0) where
  pub compacted_before : (result : Result Done MaintError) → Compacts z old result new → IfErr result (UnlessFault Leaves) → IfErr result (λ why. RefusesBeforeDevices Leaves old why new)
  compacted_before (Ok done) k left = tt
  compacted_before (Err Memory) k left = (as_it_was z old new k.1, left)
  compacted_before (Err Nothing) k left = (none_marked z old new (found_by z old new k.0 k.1.found ∷ []) refl k.1.goes_on, left)
  compacted_before (Err TableFault) k left = (k.0.last, k.1.asked, marked z old new (found_by z old new k.0 k.1.found ∷ tables_failed k.0.last k.1.asked ∷ []) k.1.goes_on)
  compacted_before (Err (TablesStopped flushed)) k left = (none_marked z old new (found_by z old new k.0 k.1.found ∷ []) refl k.1.goes_on, left)
