-- What is so of the registrations.
use Rattle.std.specs.Prelude.{◌≡◌, ℕ, ◌≤◌, ◌<◌, ◌==◌, Bool, true, false, List, length, Option, Some, None}
use Rattle.std.specs.FinMap as finite
use Rattle.wp_model.specs.declared.entry.Entry.{Entry}
use Rattle.wp_model.specs.declared.entry.Entry.TheVariants.{Write, Prepare, Undo}
use Rattle.wp_model.specs.History.{entry_at}
use Rattle.wp_model.specs.Decision.{IsCommittedAt}
use Rattle.wp_model.specs.Snapshots as snaps
use Rattle.wp_core.specs.Lists.{EachAt, IsIn, one_if, total}
use Rattle.wp_model.specs.Snapshots.{Snapshots, IsLive}
use Rattle.wp_core.specs.Reading.{Registration}
use Rattle.wp_core.specs.World.{Participant}
use Rattle.wp_core.specs.Sound.Actors.{EachParticipant, total_participants}

abbrev pub has_versions : Option Entry → Bool
has_versions (Some (Write batch)) = true
has_versions (Some (Prepare name batch)) = true
has_versions (Some (Undo p batch)) = true
has_versions other = false

-- the entry with this number has versions
abbrev pub has_versions_at : List Entry → ℕ → Bool
has_versions_at history p = has_versions (entry_at history p)

abbrev pub count_of : Option snaps.LiveSnapshot → ℕ
count_of None = 0
count_of (Some x) = x.registrations

abbrev pub registered_of : Participant → List Registration
registered_of p = p.registered

abbrev pub registrations_at : ℕ → List (List (List Registration)) → ℕ
registrations_at s registered = total_participants (total (λ r. one_if (r.number == s))) registered

-- what is below the smallest number of a registration is committed there
abbrev pub IsBelowCommitted : List Entry → Registration → Type 0
IsBelowCommitted history r = (p : ℕ) → p < r.smallest → p ≤ r.number → has_versions_at history p ≡ true → IsCommittedAt history p r.number

abbrev pub AreBelowCommitted : List Entry → List Registration → Type 0
AreBelowCommitted history registered = EachAt (λ i r. IsBelowCommitted history r) registered

-- ---- what it had seen

abbrev pub view_of : Participant → List Entry × List Registration
view_of p = (p.seen, p.registered)

-- each registered number is at most the length of what was seen
abbrev pub HasSeen : List Entry × List Registration → Type 0
HasSeen view = (r : Registration) → IsIn r view.1 → r.number ≤ length view.0

-- ---- together

-- no live number is below the base at which the log was opened
abbrev pub AreFromBase : ℕ → Snapshots → Type 0
AreFromBase base snapshots = (s : ℕ) → IsLive snapshots s → base ≤ s

-- the counts are the sums of the actors' registrations, and each live number is at most the published one
pub record AreRegistered (history : List Entry) (snapshots : Snapshots) (registered : List (List (List Registration))) : Type 0 where
  pub counted : (s : ℕ) → count_of (finite.get snapshots s) ≡ registrations_at s registered
  pub live : (s : ℕ) (x : snaps.LiveSnapshot) → finite.get snapshots s ≡ Some x → (1 ≤ x.registrations) × (s ≤ length history)
  pub smallest : EachParticipant (AreBelowCommitted history) registered
