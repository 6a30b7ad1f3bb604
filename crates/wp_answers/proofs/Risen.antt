-- The base of the log goes up alone: in each reached world the last edit has a base no lower than the first one, and than each renewal that an actor made.
use Rattle.std.proofs.Common.{◌≡◌, ◌⊎◌, ⊎_elim, inl, inr, ℕ, ◌≤◌, List, length, refl, ap, arith}
use mathlib.Core.Option.{some}
use lib.ListN.{get_elem?}
use Rattle.wp_model.specs.declared.segment.Segment.{Segment}
use Rattle.wp_model.specs.Flushed.{InstalledEdit}
use Rattle.wp_core.specs.IsSound.{IsSound, participants}
use Rattle.wp_core.specs.Lists.{IsIn}
use Rattle.wp_core.specs.Runs.{Reaches}
use Rattle.wp_core.specs.Sound.Pasts.{past_of, IsPast}
use Rattle.wp_core.specs.Views.{Event, renewed}
use Rattle.wp_core.specs.World.{Actor, World}
use Rattle.wp_client.specs.Answers.{HasBase}
use Rattle.wp_core.proofs.AllParticipants.{mine}
use Rattle.wp_core.proofs.EachStep.{reached_is_sound}

module _ (w : World) (reached : Reaches w) where
  abbrev sound : IsSound w
  sound = reached_is_sound w reached

  above_first : w.first_edit.segment.base ≤ w.installed.last.segment.base
  above_first = ⊎_elim
      (λ (opened : w.installed.last.segment ≡ w.first_edit.segment). let same = ap (λ (s : Segment). s.base) opened in omega (arith, same))
      (λ (k : (edit : InstalledEdit) × (edit.segment ≡ w.installed.last.segment) × IsPast (participants past_of w) (renewed edit)). let same = ap (λ (s : Segment). s.base) k.1 in let risen = sound.edits.risen k.0 k.2 in omega (arith, same, risen.0))
      sound.edits.placed

  -- it is within the history
  pub base_within : w.installed.last.segment.base ≤ length w.writes.history
  base_within = let low = sound.versions.last.base in let high = sound.versions.last.flushed in omega (arith, low, high)

-- ---- what a client knows by its replies

-- what was in the past is there
pub base_there : (first : InstalledEdit) (base : ℕ) (old past : List Event) → ((event : Event) → IsIn event old → IsIn event past) → (base ≡ first.segment.base) ⊎ HasBase old base → (base ≡ first.segment.base) ⊎ HasBase past base
base_there first base old past all known = ⊎_elim (λ (opened : base ≡ first.segment.base). inl opened) (λ (k : HasBase old base). inr (k.0, k.1, all (renewed k.0) k.2)) known

-- it is between that of the opening and that of the last edit
pub base_between : (first : InstalledEdit) (w : World) → Reaches w → (j : ℕ) (a : Actor) → get_elem? w.actors j ≡ some a → w.first_edit ≡ first → (base : ℕ) → (base ≡ first.segment.base) ⊎ HasBase a.participant.past base
    → (first.segment.base ≤ base) × (base ≤ w.installed.last.segment.base)
base_between first w reached j a at same base known =
    let low = above_first w reached in let is : w.first_edit.segment.base ≡ first.segment.base = ap (λ (x : InstalledEdit). x.segment.base) same in ⊎_elim
    (λ (opened : base ≡ first.segment.base). (omega (arith, opened), omega (arith, opened, is, low)))
    (λ (k : HasBase a.participant.past base).
    let risen = (reached_is_sound w reached).edits.risen k.0 (j, 0, (a.participant.past, mine past_of w.actors j a a at refl, k.2)) in let of = k.1 in
    (omega (arith, risen.0, is, of), omega (arith, risen.1, of)))
    known
