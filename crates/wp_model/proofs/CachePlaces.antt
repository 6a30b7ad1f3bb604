-- Numbers of which no two have one place in the commit cache: no first two of them have.
use Rattle.std.proofs.Common.{◌≡◌, ◌≢◌, ℕ, cond, List, [], ◌∷◌, ◌++◌, Option, Some, None, refl, sym, ap, ◌∙◌, inl, inr}
use Rattle.std.specs.List.{find}
use Rattle.std.proofs.lemmas.Bool.{cases_eq, eq-eqb, ne_eqb}
use Rattle.wp_model.specs.CachePlace.{cache_place, shares_place, HasOwnPlace, NoneShare, pair_or, crowded_behind, first_crowded}

none_here : (q : ℕ) (found : Option ℕ) (behind : Option (ℕ × ℕ)) → pair_or q found behind ≡ None → (found ≡ None) × (behind ≡ None)
none_here q None behind none = (refl, none)
none_here q (Some p) behind none = absurd cc

passed : (cells p q : ℕ) (front : List ℕ) → cache_place cells p ≢ cache_place cells q → find (shares_place cells q) (p ∷ front) ≡ find (shares_place cells q) front
passed cells p q front ne = ap (λ b. cond b (Some p) (find (shares_place cells q) front)) (ne_eqb (cache_place cells p) (cache_place cells q) ne)

found_first : (cells p q : ℕ) (front : List ℕ) → cache_place cells p ≡ cache_place cells q → find (shares_place cells q) (p ∷ front) ≡ Some p
found_first cells p q front same = ap (λ b. cond b (Some p) (find (shares_place cells q) front)) (eq-eqb (cache_place cells p) (cache_place cells q) same)

parted : (cells p : ℕ) (front others : List ℕ) → crowded_behind cells (p ∷ front) others ≡ None → HasOwnPlace cells p others × (crowded_behind cells front others ≡ None)
parted cells p front [] none = (tt, refl)
parted cells p front (q ∷ others) none =
    let behind : Option (ℕ × ℕ) = crowded_behind cells (p ∷ (front ++ q ∷ [])) others in
    elim (cases_eq (cache_place cells p) (cache_place cells q)) [
      | inl same ↦ let found : pair_or q (Some p) behind ≡ None = ap (λ f. pair_or q f behind) (sym (found_first cells p q front same)) ∙ none in absurd cc
      | inr ne ↦
          let here = none_here q (find (shares_place cells q) front) behind (ap (λ f. pair_or q f behind) (sym (passed cells p q front ne)) ∙ none) in
          let later = parted cells p (front ++ q ∷ []) others here.1 in
          ((ne, later.0), ap (λ f. pair_or q f (crowded_behind cells (front ++ q ∷ []) others)) here.0 ∙ later.1)
    ]

joined : (cells p : ℕ) (front others : List ℕ) → HasOwnPlace cells p others → crowded_behind cells front others ≡ None → crowded_behind cells (p ∷ front) others ≡ None
joined cells p front [] own none = refl
joined cells p front (q ∷ others) own none =
    let here = none_here q (find (shares_place cells q) front) (crowded_behind cells (front ++ q ∷ []) others) none in
    ap (λ f. pair_or q f (crowded_behind cells (p ∷ (front ++ q ∷ [])) others)) (passed cells p q front own.0 ∙ here.0) ∙ joined cells p (front ++ q ∷ []) others own.1 here.1

pub none_share : (cells : ℕ) (numbers : List ℕ) → first_crowded cells numbers ≡ None → NoneShare cells numbers
none_share cells [] none = tt
none_share cells (p ∷ others) none = let apart = parted cells p [] others none in (apart.0, none_share cells others apart.1)

pub none_crowded : (cells : ℕ) (numbers : List ℕ) → NoneShare cells numbers → first_crowded cells numbers ≡ None
none_crowded cells [] share = refl
none_crowded cells (p ∷ others) share = joined cells p [] others share.0 (none_crowded cells others share.1)
