-- What a compaction decides of versions, at the numbers that it pinned.
use Rattle.std.specs.Prelude.{◌≡◌, ◌⊎◌, ℕ, ◌≤◌, true, List, [], ◌∷◌, length, map}
use Rattle.wp_model.specs.declared.entry.Entry.{Entry}
use Rattle.wp_model.specs.declared.version.Version.{Version}
use Rattle.wp_model.specs.Decision.{IsCommittedAt}
use Rattle.wp_keep.specs.declared.pair.Pair.{Pair}
use Rattle.wp_keep.specs.Keep.{is_committed}
use Rattle.wp_core.specs.Lists.{IsIn}
use Rattle.wp_core.specs.Reading.{Registration}
use Rattle.wp_core.specs.Sound.Snapshots.{has_versions_at}
use Rattle.wp_core.specs.World.{Participant}
use Rattle.wp_compact.specs.declared.decided.Bases.{Bases}

-- the participant registered these, and has seen each number
abbrev pub ArePinned : Participant → List Registration → Type 0
ArePinned p pinned = (r : Registration) → IsIn r pinned → IsIn r p.registered × (r.number ≤ length p.seen)

-- of these versions those that are numbered up to what was seen are of its entries
abbrev pub AreSeen : List Entry → List Version → Type 0
AreSeen seen versions = (v : Version) → IsIn v versions → v.number ≤ length seen → has_versions_at seen v.number ≡ true

abbrev pub version_numbers : List Version → List ℕ
version_numbers versions = map (λ v. v.number) versions

-- the base at which the log was opened, and the one that it has
abbrev pub both_bases : Bases → List ℕ
both_bases bases = bases.opened ∷ bases.installed ∷ []

-- The pairs tell what the others told, and of each of these versions' numbers at which of these numbers the history has it
-- committed; and nothing else.
pub record Decides (history : List Entry) (versions numbers : List ℕ) (before after : List Pair) : Type 0 where
  pub still : (p n : ℕ) → is_committed before p n ≡ true → is_committed after p n ≡ true
  pub only : (p n : ℕ) → is_committed after p n ≡ true → (is_committed before p n ≡ true) ⊎ IsCommittedAt history p n
  pub all : (p n : ℕ) → IsIn p versions → IsIn n numbers → IsCommittedAt history p n → is_committed after p n ≡ true
