-- Which versions are decided, one after another.
use Rattle.std.proofs.Common.{◌≡◌, ◌⊎◌, ⊎_elim, inl, inr, ℕ, zero, suc, ◌+◌, ◌<◌, ◌≤◌, nat_le, ◌==◌, ◌&&◌, ◌||◌, Bool, true, false, eq-eqb, List, [], ◌∷◌, ◌++◌, length, get_or, map, take, refl, sym, subst, ap, ◌∙◌, arith}
use Rattle.std.specs.Prelude.{Some}
use Rattle.std.proofs.lemmas.Bool.{and_parts, and_from, le-leb, leb-true, eqb-true, or_left, or_right}
use Rattle.std.proofs.lemmas.List.{take_more}
use Rattle.std.proofs.lemmas.List.Folds.{list_any-append}
use Rattle.wp_model.specs.declared.entry.Entry.{Entry}
use Rattle.wp_model.specs.declared.version.Version.{Version}
use Rattle.wp_model.specs.Decision as decision
use Rattle.wp_model.specs.Decision.{IsCommittedAt}
use Rattle.wp_keep.specs.declared.pair.Pair.{Pair}
use Rattle.wp_keep.specs.Keep.{is_committed}
use Rattle.wp_model.specs.Legal.{IsLegal}
use Rattle.wp_core.specs.Lists.{IsIn}
use Rattle.wp_core.specs.Sound.Actors.{StartsWith}
use Rattle.wp_compact.specs.Decided.{Decides, version_numbers}
use Rattle.wp_compact.proofs.Covering.{committed_true, committed_only, committed_whole, committed_front}

or_either : (a b : Bool) → (a || b) ≡ true → (a ≡ true) ⊎ (b ≡ true)
or_either true b is = inl refl
or_either false b is = inr is

-- ---- one pair more, or none

module _ (history : List Entry) (p n : ℕ) (pairs : List Pair) where
  abbrev pair : Pair
  pair = record { number = p; commit = n }

  more_test : (q m : ℕ) → is_committed (pairs ++ pair ∷ []) q m ≡ (is_committed pairs q m || (((p == q) && nat_le n m) || false))
  more_test q m = list_any-append (λ (x : Pair). (x.number == q) && nat_le x.commit m) pairs (pair ∷ [])

  by_pair : IsCommittedAt history p n → (q m : ℕ) → (((p == q) && nat_le n m) || false) ≡ true → IsCommittedAt history q m
  by_pair at q m is =
      let parts = ⊎_elim (λ (e : ((p == q) && nat_le n m) ≡ true). and_parts (p == q) (nat_le n m) e) (λ e. absurd cc) (or_either ((p == q) && nat_le n m) false is) in
      let low : n ≤ m = leb-true n m parts.1 in let w = at.within in
      record { by = at.by; decided = subst (λ (k : ℕ). decision.decision_of history k ≡ Some at.by) (eqb-true p q parts.0) at.decided; within = omega (arith, w, low) }

  pub decided_visible : (after : List Pair) → after ≡ pairs ++ pair ∷ [] → IsCommittedAt history p n → Decides history (p ∷ []) (n ∷ []) pairs after
  decided_visible after is at = subst (Decides history (p ∷ []) (n ∷ []) pairs) (sym is) (record {
    still = λ q m there. more_test q m ∙ or_left (is_committed pairs q m) _ there;
    only = λ q m there. ⊎_elim (λ old. inl old) (λ new. inr (by_pair at q m new)) (or_either (is_committed pairs q m) _ (sym (more_test q m) ∙ there));
    all = λ q m mine here committed. more_test q m ∙ or_right (is_committed pairs q m) _ (is_there q m mine here);
  })
    where
      is_there : (q m : ℕ) → IsIn q (p ∷ []) → IsIn m (n ∷ []) → (((p == q) && nat_le n m) || false) ≡ true
      is_there q m (inl same) (inl here) = or_left ((p == q) && nat_le n m) false (and_from (p == q) (nat_le n m) (eq-eqb p q same) (le-leb n m (omega (arith, here))))
      is_there q m (inl same) (inr none) = absurd none
      is_there q m (inr none) here = absurd none

  pub decided_invisible : (IsCommittedAt history p n → ⊥) → Decides history (p ∷ []) (n ∷ []) pairs pairs
  decided_invisible not_at = record {
    still = λ q m there. there;
    only = λ q m there. inl there;
    all = λ q m mine here committed. absurd (not_at (is_here q m mine here committed));
  }
    where
      is_here : (q m : ℕ) → IsIn q (p ∷ []) → IsIn m (n ∷ []) → IsCommittedAt history q m → IsCommittedAt history p n
      is_here q m (inl same) (inl here) at = subst (λ (k : ℕ). IsCommittedAt history k n) (sym same) (subst (IsCommittedAt history q) (sym here) at)
      is_here q m (inl same) (inr none) at = absurd none
      is_here q m (inr none) here at = absurd none

  -- the pairs told it already
  pub decided_told : is_committed pairs p n ≡ true → Decides history (p ∷ []) (n ∷ []) pairs pairs
  decided_told told = record { still = λ q m there. there; only = λ q m there. inl there; all = λ q m mine here at. is_here q m mine here }
    where
      is_here : (q m : ℕ) → IsIn q (p ∷ []) → IsIn m (n ∷ []) → is_committed pairs q m ≡ true
      is_here q m (inl same) (inl here) = subst (λ (k : ℕ × ℕ). is_committed pairs k.0 k.1 ≡ true) (λ i. (same i, here i)) told
      is_here q m (inl same) (inr none) = absurd none
      is_here q m (inr none) here = absurd none

-- ---- one after another

pub in_either : {X : Type 0} (x : X) (xs ys : List X) → IsIn x (xs ++ ys) → IsIn x xs ⊎ IsIn x ys
in_either x [] ys k = inr k
in_either x (y ∷ xs) ys (inl same) = inl (inl same)
in_either x (y ∷ xs) ys (inr rest) = ⊎_elim (λ (a : IsIn x xs). inl (inr a)) (λ (b : IsIn x ys). inr b) (in_either x xs ys rest)

pub in_front : {X : Type 0} (x : X) (xs ys : List X) → IsIn x xs → IsIn x (xs ++ ys)
in_front x [] ys none = absurd none
in_front x (y ∷ xs) ys (inl same) = inl same
in_front x (y ∷ xs) ys (inr rest) = inr (in_front x xs ys rest)

pub in_back : {X : Type 0} (x : X) (xs ys : List X) → IsIn x ys → IsIn x (xs ++ ys)
in_back x [] ys there = there
in_back x (y ∷ xs) ys there = inr (in_back x xs ys there)

pub decided_none : (history : List Entry) (ps : List ℕ) (pairs : List Pair) → Decides history ps [] pairs pairs
decided_none history ps pairs = record { still = λ p n there. there; only = λ p n there. inl there; all = λ p n mine none at. absurd none }

pub decided_nothing : (history : List Entry) (ns : List ℕ) (pairs : List Pair) → Decides history [] ns pairs pairs
decided_nothing history ns pairs = record { still = λ p n there. there; only = λ p n there. inl there; all = λ p n none here at. absurd none }

module _ (history : List Entry) (before mid after : List Pair) where
  then_each : (ps ns ms all : List ℕ) → ((n : ℕ) → IsIn n all → IsIn n ns ⊎ IsIn n ms) → Decides history ps ns before mid → Decides history ps ms mid after → Decides history ps all before after
  then_each ps ns ms all are first second = record {
    still = λ p n there. second.still p n (first.still p n there);
    only = λ p n there. ⊎_elim (λ old. first.only p n old) (λ at. inr at) (second.only p n there);
    all = λ p n mine here at. ⊎_elim (λ (k : IsIn n ns). second.still p n (first.all p n mine k at)) (λ (k : IsIn n ms). second.all p n mine k at) (are n here);
  }

  pub then_numbers : (ps ns ms : List ℕ) → Decides history ps ns before mid → Decides history ps ms mid after → Decides history ps (ns ++ ms) before after
  then_numbers ps ns ms first second = then_each ps ns ms (ns ++ ms) (λ n here. in_either n ns ms here) first second

  pub then_one : (ps ns : List ℕ) (m : ℕ) → Decides history ps ns before mid → Decides history ps (m ∷ []) mid after → Decides history ps (m ∷ ns) before after
  then_one ps ns m first second = then_each ps ns (m ∷ []) (m ∷ ns) (λ n here. ⊎_elim (λ same. inr (inl same)) (λ rest. inl rest) here) first second

  pub then_versions : (ps qs ns : List ℕ) → Decides history ps ns before mid → Decides history qs ns mid after → Decides history (ps ++ qs) ns before after
  then_versions ps qs ns first second = record {
    still = λ p n there. second.still p n (first.still p n there);
    only = λ p n there. ⊎_elim (λ old. first.only p n old) (λ at. inr at) (second.only p n there);
    all = λ p n mine here at. ⊎_elim (λ (k : IsIn p ps). second.still p n (first.all p n k here at)) (λ (k : IsIn p qs). second.all p n k here at) (in_either p ps qs mine);
  }

-- what was decided over the first entries is decided over all of them, at numbers that those have
pub decides_grown : (whole front : List Entry) → StartsWith whole front → IsLegal whole → (ps ns : List ℕ) (before after : List Pair) → ((n : ℕ) → IsIn n ns → n ≤ length front) → Decides front ps ns before after → Decides whole ps ns before after
decides_grown whole front starts legal ps ns before after low k = record {
  still = k.still;
  only = λ p n there. ⊎_elim (λ old. inl old) (λ at. inr (committed_whole whole front starts p n at)) (k.only p n there);
  all = λ p n mine here at. k.all p n mine here (committed_front whole front starts legal p n (low n here) at);
}

-- ---- in a list

pub in_place : {X : Type 0} (xs : List X) (i : ℕ) (x : X) → i < length xs → x ≡ get_or xs i x → IsIn x xs
in_place [] i x lt is = absurd (omega (arith, lt))
in_place (y ∷ xs) zero x lt is = inl (sym is)
in_place (y ∷ xs) (suc i) x lt is = inr (in_place xs i x (omega (arith, lt)) is)

mapped_more : {X : Type 0} (f : X → ℕ) (xs : List X) (x : X) → map f (xs ++ x ∷ []) ≡ map f xs ++ f x ∷ []
mapped_more f [] x = refl
mapped_more f (y ∷ xs) x = ap (λ (l : List ℕ). f y ∷ l) (mapped_more f xs x)

pub mapped_next : {X : Type 0} (f : X → ℕ) (xs : List X) (i : ℕ) (x : X) → i < length xs → x ≡ get_or xs i x → map f (take (i + 1) xs) ≡ map f (take i xs) ++ f x ∷ []
mapped_next f xs i x lt is = ap (map f) (take_more xs i x lt ∙ ap (λ y. take i xs ++ y ∷ []) (sym is)) ∙ mapped_more f (take i xs) x

-- ---- the pairs tell what the history tells

pub same_bool : (a b : Bool) → (a ≡ true → b ≡ true) → (b ≡ true → a ≡ true) → a ≡ b
same_bool true b there back = sym (there refl)
same_bool false true there back = back refl
same_bool false false there back = refl

pub decided_same : (history : List Entry) (versions : List Version) (numbers : List ℕ) (pairs : List Pair) → Decides history (version_numbers versions) numbers [] pairs → (v : Version) → IsIn v versions → (n : ℕ) → IsIn n numbers → is_committed pairs v.number n ≡ decision.is_committed history v.number n
decided_same history versions numbers pairs k v there n among =
    same_bool (is_committed pairs v.number n) (decision.is_committed history v.number n)
    (λ is. ⊎_elim (λ none. absurd cc) (λ at. committed_true history v.number n at) (k.only v.number n is))
    (λ is. k.all v.number n (number_in versions there) among (committed_only history v.number n is))
  where
    number_in : (vs : List Version) → IsIn v vs → IsIn v.number (version_numbers vs)
    number_in [] none = absurd none
    number_in (w ∷ vs) (inl same) = inl (ap (λ (x : Version). x.number) same)
    number_in (w ∷ vs) (inr rest) = inr (number_in vs rest)
