-- Numbers that are registered once more, one after another, and taken back.
use Rattle.std.proofs.Common.{◌≡◌, ◌⊎◌, inl, inr, ℕ, ◌+◌, ◌<◌, ◌≤◌, List, [], ◌∷◌, length, take, get_or, refl, sym, subst, ap, ◌∙◌, Option, Some, None, IsSome, arith}
use Rattle.std.specs.FinMap as finite
use Rattle.std.proofs.lemmas.Bool.{cases_eq}
use Rattle.std.proofs.lemmas.List.{take_more}
use Rattle.std.proofs.lemmas.List.Sums.{fold-append}
use Rattle.wp_model.specs.Snapshots as snaps
use Rattle.wp_model.specs.Snapshots.{Snapshots, IsLive, after_register, NoOldCommits}
use Rattle.wp_core.specs.Changes.{with_registered, with_released}
use Rattle.wp_model.proofs.Tests.{same_some}
use Rattle.wp_read.specs.Registers.{AreCounted, with_each}
use Rattle.wp_read.proofs.Registers.{placed_there, placed_else, registered_and_released, kept_by_register}

-- ---- one number

some_registered : (o : Option snaps.LiveSnapshot) → IsSome (after_register o)
some_registered None = refl
some_registered (Some x) = refl

at_least_one : (o : Option snaps.LiveSnapshot) (x : snaps.LiveSnapshot) → after_register o ≡ Some x → 1 ≤ x.registrations
at_least_one None x e = let k : 1 ≡ x.registrations = ap (λ (y : snaps.LiveSnapshot). y.registrations) (same_some _ x e) in omega arith
at_least_one (Some y) x e = let k : y.registrations + 1 ≡ x.registrations = ap (λ (z : snaps.LiveSnapshot). z.registrations) (same_some _ x e) in omega arith

module _ (m : Snapshots) (n : ℕ) where
  is_live : IsLive (with_registered m n) n
  is_live = subst IsSome (sym (placed_there m n (after_register (finite.get m n)))) (some_registered (finite.get m n))

  -- what was live is live
  pub live_still : (q : ℕ) → IsLive m q → IsLive (with_registered m n) q
  live_still q live = elim (cases_eq q n) [
    | inl same ↦ subst (IsLive (with_registered m n)) (sym same) is_live
    | inr other ↦ subst IsSome (sym (placed_else m n (after_register (finite.get m n)) q other)) live
  ]

  -- what is live was live, or is the number
  pub live_before : (q : ℕ) → IsLive (with_registered m n) q → (q ≡ n) ⊎ IsLive m q
  live_before q live = elim (cases_eq q n) [
    | inl same ↦ inl same
    | inr other ↦ inr (subst IsSome (placed_else m n (after_register (finite.get m n)) q other) live)
  ]

  pub counted_more : AreCounted m → AreCounted (with_registered m n)
  counted_more counted q x is = elim (cases_eq q n) [
    | inl same ↦ at_least_one (finite.get m n) x (sym (placed_there m n (after_register (finite.get m n))) ∙ (ap (finite.get (with_registered m n)) (sym same) ∙ is))
    | inr other ↦ counted q x (sym (placed_else m n (after_register (finite.get m n)) q other) ∙ is)
  ]

  pub registered_is_live : (m' : Snapshots) → m' ≡ with_registered m n → IsLive m' n
  registered_is_live m' same = subst (λ (x : Snapshots). IsLive x n) (sym same) is_live

-- ---- each number of a list

pub counted_each : (numbers : List ℕ) (m : Snapshots) → AreCounted m → AreCounted (with_each m numbers)
counted_each [] m counted = counted
counted_each (n ∷ numbers) m counted = counted_each numbers (with_registered m n) (counted_more m n counted)

pub kept_each : (numbers : List ℕ) (m : Snapshots) → NoOldCommits (with_each m numbers) → NoOldCommits m
kept_each [] m none = none
kept_each (n ∷ numbers) m none = kept_by_register m n (kept_each numbers (with_registered m n) none)

module _ (m : Snapshots) (numbers : List ℕ) (i : ℕ) (within : i < length numbers) where
  pub each_next : with_registered (with_each m (take i numbers)) (get_or numbers i 0) ≡ with_each m (take (i + 1) numbers)
  each_next = sym (ap (with_each m) (take_more numbers i 0 within) ∙ fold-append with_registered m (take i numbers) (get_or numbers i 0 ∷ []))

  pub each_live : IsLive (with_each m (take (i + 1) numbers)) (get_or numbers i 0)
  each_live = registered_is_live (with_each m (take i numbers)) (get_or numbers i 0) (with_each m (take (i + 1) numbers)) (sym each_next)

  pub each_back : AreCounted m → with_released (with_each m (take (i + 1) numbers)) (get_or numbers i 0) ≡ with_each m (take i numbers)
  each_back counted =
      ap (λ (x : Snapshots). with_released x (get_or numbers i 0)) (sym each_next)
      ∙ registered_and_released (with_each m (take i numbers)) (get_or numbers i 0) (counted_each (take i numbers) m counted (get_or numbers i 0))
