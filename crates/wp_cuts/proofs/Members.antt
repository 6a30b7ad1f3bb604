-- What is under a key and a number in a list in order is one of its versions, and the other way round.
use Rattle.std.proofs.Common.{◌≡◌, ℕ, ◌==◌, Bool, true, false, ◌⊎◌, cond, List, [], ◌∷◌, Option, Some, refl, sym, ap, ◌∙◌, subst, inl, inr}
use Rattle.std.specs.List.{AllByRecursion, filter, list_any}
use Rattle.std.specs.Str.{bytes_eq}
use Rattle.std.proofs.lemmas.Bool.{or_cases, or_left, or_right, and_parts, eqb-true}
use Rattle.std.proofs.lemmas.List.Kept.{IsStrictlySortedBy-filter}
use Rattle.std.proofs.lemmas.Slice.Eq.{bytes_eq-Decides}
use Rattle.wp_model.specs.declared.version.Version.{Version}
use Rattle.wp_model.specs.Versions.{AreInOrder, version_cmp, version_at}
use Rattle.wp_cuts.proofs.Keeping.{own, all_own}
use Rattle.wp_cuts.proofs.Versions.{is_here}

abbrev pub IsIn : Version → List Version → Type 0
IsIn v [] = ⊥
IsIn v (w ∷ ws) = (w ≡ v) ⊎ IsIn v ws

abbrev pub version : List ℕ → ℕ → Option (List ℕ) → Version
version key p value = record { key = key; number = p; value = value }

-- ---- members and tests

pub in_any : (test : Version → Bool) (vs : List Version) (v : Version) → IsIn v vs → test v ≡ true → list_any test vs ≡ true
in_any test [] v there passes = absurd there
in_any test (w ∷ ws) v (inl is) passes = or_left (test w) (list_any test ws) (ap test is ∙ passes)
in_any test (w ∷ ws) v (inr there) passes = or_right (test w) (list_any test ws) (in_any test ws v there passes)

pub record IsFound (test : Version → Bool) (vs : List Version) : Type 0 where
  pub found : Version
  pub there : IsIn found vs
  pub passes : test found ≡ true

pub any_in : (test : Version → Bool) (vs : List Version) → list_any test vs ≡ true → IsFound test vs
any_in test [] any = absurd cc
any_in test (w ∷ ws) any = elim (or_cases (test w) (list_any test ws) any) [
  | inl here ↦ record { found = w; there = inl refl; passes = here }
  | inr behind ↦ let it = any_in test ws behind in record { found = it.found; there = inr it.there; passes = it.passes }
]

in_filter : (test : Version → Bool) (vs : List Version) (v : Version) → IsIn v vs → test v ≡ true → IsIn v (filter test vs)
in_filter test [] v there passes = there
in_filter test (w ∷ ws) v there passes = by (test w) refl there (in_filter test ws v)
  where
    by : (b : Bool) → test w ≡ b → (w ≡ v) ⊎ IsIn v ws → (IsIn v ws → test v ≡ true → IsIn v (filter test ws)) → IsIn v (cond b (w ∷ filter test ws) (filter test ws))
    by true kept (inl is) rest = inl is
    by true kept (inr behind) rest = inr (rest behind passes)
    by false dropped (inl is) rest = let no : test v ≡ false = ap test (sym is) ∙ dropped in absurd cc
    by false dropped (inr behind) rest = rest behind passes

filter_in : (test : Version → Bool) (vs : List Version) (v : Version) → IsIn v (filter test vs) → IsIn v vs × (test v ≡ true)
filter_in test [] v there = absurd there
filter_in test (w ∷ ws) v there = by (test w) refl there (filter_in test ws v)
  where
    by : (b : Bool) → test w ≡ b → IsIn v (cond b (w ∷ filter test ws) (filter test ws)) → (IsIn v (filter test ws) → IsIn v ws × (test v ≡ true)) → ((w ≡ v) ⊎ IsIn v ws) × (test v ≡ true)
    by true kept (inl is) rest = (inl is, ap test (sym is) ∙ kept)
    by true kept (inr behind) rest = let it = rest behind in (inr it.0, it.1)
    by false dropped it rest = let r = rest it in (inr r.0, r.1)

-- ---- members and look-ups

pub at_in : (vs : List Version) (key : List ℕ) (p : ℕ) (value : Option (List ℕ)) → version_at vs key p ≡ Some value → IsIn (version key p value) vs
at_in [] key p value e = absurd cc
at_in (v ∷ vs) key p value e = by (is_here key p v) refl e (at_in vs key p value)
  where
    by : (b : Bool) → is_here key p v ≡ b → cond b (Some v.value) (version_at vs key p) ≡ Some value → (version_at vs key p ≡ Some value → IsIn (version key p value) vs) → (v ≡ version key p value) ⊎ IsIn (version key p value) vs
    by true here is rest =
        let parts = and_parts (bytes_eq v.key key) (v.number == p) here in
        let keys : v.key ≡ key = (bytes_eq-Decides v.key key).0 parts.0 in
        let numbers : v.number ≡ p = eqb-true v.number p parts.1 in
        let values : v.value ≡ value = cc in
        inl (λ i. record { key = keys i; number = numbers i; value = values i })
    by false other is rest = inr (rest is)

pub in_at : (vs : List Version) (v : Version) → AreInOrder vs → IsIn v vs → version_at vs v.key v.number ≡ Some v.value
in_at vs v order there = each vs (all_own vs order) there
  where
    each : (ws : List Version) → AllByRecursion (own vs) ws → IsIn v ws → own vs v
    each [] owns there = absurd there
    each (w ∷ ws) owns (inl is) = subst (own vs) is owns.0
    each (w ∷ ws) owns (inr behind) = each ws owns.1 behind

-- ---- some of a list in order

module _ (test : Version → Bool) (vs : List Version) (order : AreInOrder vs) where
  pub some_order : AreInOrder (filter test vs)
  some_order = IsStrictlySortedBy-filter version_cmp test vs order

  pub at_some : (key : List ℕ) (p : ℕ) (value : Option (List ℕ)) → version_at vs key p ≡ Some value → test (version key p value) ≡ true → version_at (filter test vs) key p ≡ Some value
  at_some key p value e passes = in_at (filter test vs) (version key p value) some_order (in_filter test vs (version key p value) (at_in vs key p value e) passes)

  pub some_at : (key : List ℕ) (p : ℕ) (value : Option (List ℕ)) → version_at (filter test vs) key p ≡ Some value → (version_at vs key p ≡ Some value) × (test (version key p value) ≡ true)
  some_at key p value e =
      let it = filter_in test vs (version key p value) (at_in (filter test vs) key p value e) in
      (in_at vs (version key p value) order it.0, it.1)
