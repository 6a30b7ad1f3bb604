-- The parts of a covered history together, and number by number.
use Rattle.std.proofs.Common.{◌≡◌, ℕ, ◌+◌, ◌<◌, ◌≤◌, Bool, true, List, length, subst, inl, inr, arith}
use Rattle.std.specs.Bool.{Decides}
use Rattle.std.proofs.lemmas.Bool.{cases_lt}
use Rattle.wp_model.specs.declared.entry.Entry.{Entry}
use Rattle.wp_model.specs.declared.version.Version.{Version}
use Rattle.wp_model.specs.History.{undecided}
use Rattle.wp_model.specs.Covered.{GivesStore, IsCovered, is_among}
use Rattle.wp_cover.specs.Present.{AreAllPart, HasBatches, HasUndone}
use Rattle.wp_cover.proofs.Presence.{undecided_there}

module _ (versions : List Version) (history : List Entry) where
  abbrev pub GivesAt : ℕ → Type 0
  GivesAt n = (key : List ℕ) → GivesStore versions history key n

  -- ---- listed numbers

  abbrev pub GivesListed : List ℕ → Type 0
  GivesListed numbers = (key : List ℕ) (n : ℕ) → is_among numbers n ≡ true → GivesStore versions history key n

  -- ---- numbers from one on

  abbrev pub GivesBelow : ℕ → ℕ → Type 0
  GivesBelow from end = (key : List ℕ) (n : ℕ) → from ≤ n → n < end → GivesStore versions history key n

  pub below_more : (from n : ℕ) → GivesAt n → GivesBelow from n → GivesBelow from (n + 1)
  below_more from n gives before key m le lt =
      elim (cases_lt m n) [
        | inl below ↦ before key m le below
        | inr at ↦ subst (λ (k : ℕ). GivesStore versions history key k) (let e : n ≡ m = omega arith in e) (gives key)
      ]

  abbrev pub GivesLater : ℕ → Type 0
  GivesLater from = (key : List ℕ) (n : ℕ) → from ≤ n → n ≤ length history → GivesStore versions history key n

-- ---- together

-- what was asked of a history that is this one
pub covered : (history decisions : List Entry) (versions : List Version) (numbers : List ℕ) (from : ℕ) (r : Bool) → decisions ≡ history → AreAllPart history versions → HasBatches history versions (undecided history) → HasUndone history versions → GivesListed versions decisions numbers → Decides r (GivesLater versions decisions from) → Decides r (IsCovered versions history numbers from)
covered history decisions versions numbers from r same part batches undone listed later =
    let ends = subst (λ (h : List Entry). Decides r (GivesLater versions h from)) same later in (
      λ yes. record {
        part = part;
        undecided = undecided_there history versions batches;
        undone = undone;
        listed = subst (λ (h : List Entry). GivesListed versions h numbers) same listed;
        later = ends.0 yes;
      },
      λ is. ends.1 is.later,
    )
