-- Where participants go at a join: that of the actor that is joined comes after the first one of the actor that joins it, and
-- those that this one joined before come one place later.
use Rattle.std.proofs.Common.{◌≡◌, ◌≢◌, ◌⊎◌, inl, inr, ℕ, zero, suc, ◌≤◌, ◌==◌, Bool, true, false, eq-eqb, refl, sym, ◌∙◌, arith}
use Rattle.std.proofs.lemmas.Bool.Decides.{nat_tests}

-- the actor by joins the other one
module _ (by other : ℕ) where
  -- the participant i of the actor j goes to this place
  pub data Goes (j i k l : ℕ) : Type 0 where
    joins : j ≡ other → i ≡ 0 → k ≡ by → l ≡ 1 → Goes j i k l
    -- the other one has joined none
    strays : j ≡ other → 1 ≤ i → k ≡ j → l ≡ i → Goes j i k l
    first : j ≡ by → i ≡ 0 → k ≡ j → l ≡ i → Goes j i k l
    later : j ≡ by → 1 ≤ i → k ≡ j → l ≡ suc i → Goes j i k l
    elsewhere : j ≢ other → j ≢ by → k ≡ j → l ≡ i → Goes j i k l

  abbrev row_by : Bool → ℕ → ℕ → ℕ
  row_by true zero j = by
  row_by is_other i j = j

  abbrev place_by : Bool → Bool → ℕ → ℕ
  place_by true is_by zero = 1
  place_by false true (suc i) = suc (suc i)
  place_by is_other is_by i = i

  abbrev pub row : ℕ → ℕ → ℕ
  row j i = row_by (j == other) i j

  abbrev pub place : ℕ → ℕ → ℕ
  place j i = place_by (j == other) (j == by) i

  by_tests : (b c : Bool) (j i : ℕ) → (b ≡ true → j ≡ other) → (b ≡ false → j ≢ other) → (c ≡ true → j ≡ by) → (c ≡ false → j ≢ by) → Goes j i (row_by b i j) (place_by b c i)
  by_tests true c j zero is not_other is_by not_by = joins (is refl) refl refl refl
  by_tests true c j (suc i) is not_other is_by not_by = strays (is refl) (omega arith) refl refl
  by_tests false true j zero is not_other is_by not_by = first (is_by refl) refl refl refl
  by_tests false true j (suc i) is not_other is_by not_by = later (is_by refl) (omega arith) refl refl
  by_tests false false j i is not_other is_by not_by = elsewhere (not_other refl) (not_by refl) refl refl

  tested : (j n : ℕ) → (j == n) ≡ true → j ≡ n
  tested j n e = grind (arith, nat_tests)

  not_tested : (j n : ℕ) → (j == n) ≡ false → j ≢ n
  not_tested j n e q = let t : true ≡ false = sym (eq-eqb j n q) ∙ e in absurd (cc)

  pub goes : (j i : ℕ) → Goes j i (row j i) (place j i)
  goes j i = by_tests (j == other) (j == by) j i (tested j other) (not_tested j other) (tested j by) (not_tested j by)

  -- the same, as a choice of equations
  abbrev Says : ℕ → ℕ → ℕ → ℕ → Type 0
  Says j i k l =
      ((j ≡ other) × (i ≡ 0) × (k ≡ by) × (l ≡ 1)) ⊎ (((j ≡ other) × (1 ≤ i) × (k ≡ j) × (l ≡ i)) ⊎ (((j ≡ by) × (i ≡ 0) × (k ≡ j) × (l ≡ i)) ⊎ (((j ≡ by) × (1 ≤ i) × (k ≡ j) × (l ≡ suc i)) ⊎ ((j ≢ other) × (j ≢ by) × (k ≡ j) × (l ≡ i)))))

  says : (j i k l : ℕ) → Goes j i k l → Says j i k l
  says j i k l (joins e f g h) = inl (e, f, g, h)
  says j i k l (strays e f g h) = inr (inl (e, f, g, h))
  says j i k l (first e f g h) = inr (inr (inl (e, f, g, h)))
  says j i k l (later e f g h) = inr (inr (inr (inl (e, f, g, h))))
  says j i k l (elsewhere e f g h) = inr (inr (inr (inr (e, f, g, h))))

  -- no two go to one place
  pub goes_apart : (j i m n k l : ℕ) → other ≢ by → Goes j i k l → Goes m n k l → (j ≡ m) × (i ≡ n)
  goes_apart j i m n k l ne g h = let u = says j i k l g in let v = says m n k l h in (omega arith, omega arith)

  -- one goes to one place
  pub goes_same : (j i m n k l : ℕ) → other ≢ by → Goes j i k l → Goes j i m n → (k ≡ m) × (l ≡ n)
  goes_same j i m n k l ne g h = let u = says j i k l g in let v = says j i m n h in (omega arith, omega arith)
