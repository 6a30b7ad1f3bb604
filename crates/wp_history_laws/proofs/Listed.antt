-- The numbers at which versions cover a history; and at the number 0 the store is empty, and nothing is committed.
use Rattle.std.proofs.Common.{◌≡◌, ℕ, zero, suc, ◌≤◌, ◌==◌, true, List, [], ◌∷◌, Option, Some, None, refl, subst, inl, inr, arith}
use Rattle.std.specs.Prelude.{option_map}
use Rattle.std.specs.List.{position}
use Rattle.std.proofs.lemmas.Bool.{or_cases, eqb-true}
use Rattle.wp_model.specs.declared.entry.Entry.{Entry}
use Rattle.wp_model.specs.declared.entry.Entry.TheVariants.{Write, Prepare, Commit, Undo, Close}
use Rattle.wp_model.specs.declared.version.Version.{Version}
use Rattle.wp_model.specs.History.{entry_at, decides}
use Rattle.wp_model.specs.Decision.{decision_in, IsCommittedAt}
use Rattle.wp_model.specs.Covered.{GivesStore, is_among, IsCovered}

-- ---- the numbers

pub only_listed : (n m : ℕ) → is_among (n ∷ []) m ≡ true → n ≡ m
only_listed n m listed = elim (or_cases (n == m) (is_among [] m) listed) [
  | inl here ↦ eqb-true n m here
  | inr there ↦ absurd cc
]

-- what covers for some numbers covers without them
pub none_listed : (versions : List Version) (history : List Entry) (numbers : List ℕ) (from : ℕ) → IsCovered versions history numbers from → IsCovered versions history [] from
none_listed versions history numbers from covered = record {
  part = covered.part;
  undecided = covered.undecided;
  undone = covered.undone;
  listed = λ key n listed. absurd cc;
  later = covered.later;
}

-- ---- the number 0

some_above : (o : Option ℕ) (by : ℕ) → option_map suc o ≡ Some by → by ≤ 0 → ⊥
some_above None by e le = absurd cc
some_above (Some i) by e le = let same : suc i ≡ by = cc in omega (arith, same, le)

decided_above : (history : List Entry) (n : ℕ) (at : Option Entry) (by : ℕ) → decision_in history (suc n) at ≡ Some by → by ≤ 0 → ⊥
decided_above history n None by e le = absurd cc
decided_above history n (Some (Write batch)) by e le = let same : suc n ≡ by = cc in omega (arith, same, le)
decided_above history n (Some (Prepare name batch)) by e le = some_above (position (decides (suc n)) history) by e le
decided_above history n (Some (Commit q)) by e le = absurd cc
decided_above history n (Some (Undo q batch)) by e le = let same : suc n ≡ by = cc in omega (arith, same, le)
decided_above history n (Some (Close q)) by e le = absurd cc

none_at_zero : (history : List Entry) (p : ℕ) → IsCommittedAt history p 0 → ⊥
none_at_zero history zero committed = let decided = committed.decided in absurd cc
none_at_zero history (suc n) committed = decided_above history n (entry_at history (suc n)) committed.by committed.decided committed.within

pub zero_covered : (versions : List Version) (history : List Entry) (numbers : List ℕ) (from : ℕ) → IsCovered versions history numbers from → IsCovered versions history (0 ∷ numbers) from
zero_covered versions history numbers from covered = record {
  part = covered.part;
  undecided = covered.undecided;
  undone = covered.undone;
  listed = λ key n listed. elim (or_cases (0 == n) (is_among numbers n) listed) [
    | inl here ↦ subst (GivesStore versions history key) (eqb-true 0 n here) (inr (record { none = λ p committed. absurd (none_at_zero history p committed); missing = refl }))
    | inr there ↦ covered.listed key n there
  ];
  later = covered.later;
}
