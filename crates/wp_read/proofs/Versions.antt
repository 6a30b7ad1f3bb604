-- The newest versions of a key, and which of them shows the store's value.
use Rattle.std.proofs.Common.{◌≡◌, ◌⊎◌, inl, inr, ⊎_elim, ℕ, ◌<◌, ◌≤◌, Bool, true, false, ◌==◌, ◌&&◌, ◌||◌, cond, Less, Equal, List, [], ◌∷◌, ◌++◌, length, refl, sym, subst, ap, ◌∙◌, Option, Some, None, arith}
use Rattle.std.specs.List.{list_any}
use Rattle.std.specs.Ordering.{nat_cmp, ordering_then}
use Rattle.std.specs.Str.{bytes_eq}
use Rattle.std.proofs.lemmas.Bool.{cases_lt, and_parts, and_from, eqb-true, eq-eqb, ne_eqb}
use Rattle.std.proofs.lemmas.Cmp.{ranked, tied_itself, nat_list_cmp_total}
use Rattle.std.proofs.lemmas.Slice.Eq.{bytes_eq-Decides}
use Rattle.wp_model.specs.declared.entry.Entry.{Entry}
use Rattle.wp_model.specs.declared.version.Version.{Version}
use Rattle.wp_model.specs.Batch.{key_cmp}
use Rattle.wp_model.specs.Covered.{GivesNewest, GivesNone, GivesStore}
use Rattle.wp_model.specs.Decision.{IsCommittedAt}
use Rattle.wp_model.specs.History.{value_at}
use Rattle.wp_model.specs.Versions.{AreInOrder, version_cmp, version_at}
use Rattle.wp_model.proofs.VersionLists.{IsBefore, in_order_parts}
use Rattle.wp_core.specs.Lists.{IsIn}
use Rattle.wp_core.specs.States.{up_to}
use Rattle.wp_core.proofs.Frames.{in_filter}
use Rattle.wp_core.proofs.PublishesVersions.{up_to_within, up_to_past}
use Rattle.wp_model.proofs.Tests.{same_some, none_some}
use Rattle.wp_store.specs.Store.{of_key}
use Rattle.wp_read.specs.Values.{NoneCommitted}

same_key : (a b : List ℕ) → bytes_eq a b ≡ true → a ≡ b
same_key a b h = (bytes_eq-Decides a b).0 h

-- ---- what is in parts of a list

pub in_front : {X : Type 0} (x : X) (xs ys : List X) → IsIn x xs → IsIn x (xs ++ ys)
in_front x [] ys k = absurd k
in_front x (y ∷ xs) ys k = ⊎_elim (λ (e : y ≡ x). inl e) (λ (j : IsIn x xs). inr (in_front x xs ys j)) k

pub in_either : {X : Type 0} (x : X) (xs ys : List X) → IsIn x (xs ++ ys) → IsIn x xs ⊎ IsIn x ys
in_either x [] ys k = inr k
in_either x (y ∷ xs) ys k = ⊎_elim (λ (e : y ≡ x). inl (inl e)) (λ (j : IsIn x (xs ++ ys)). ⊎_elim (λ (a : IsIn x xs). inl (inr a)) (λ (b : IsIn x ys). inr b) (in_either x xs ys j)) k

pub any_in : (test : Version → Bool) (vs : List Version) → list_any test vs ≡ true → (v : Version) × IsIn v vs × (test v ≡ true)
any_in test [] e = absurd cc
any_in test (v ∷ vs) e = by (test v) refl e (any_in test vs)
  where
    by : (b : Bool) → test v ≡ b → (b || list_any test vs) ≡ true → (list_any test vs ≡ true → (u : Version) × IsIn u vs × (test u ≡ true)) → (u : Version) × IsIn u (v ∷ vs) × (test u ≡ true)
    by true is h rest = (v, inl refl, is)
    by false is h rest = let k = rest h in (k.0, inr k.1, k.2)

-- ---- the versions of one key, the newest first

abbrev pub Descends : List ℕ → List Version → Type 0
Descends key [] = Unit {0}
Descends key (v ∷ vs) = (v.key ≡ key) × ((w : Version) → IsIn w vs → w.number < v.number) × Descends key vs

lesser_number : (v w : Version) → version_cmp v w ≡ Less → v.key ≡ w.key → w.number < v.number
lesser_number v w less same =
    let tied : key_cmp v.key w.key ≡ Equal = ap (λ k. key_cmp k w.key) same ∙ tied_itself nat_list_cmp_total w.key in
    ranked w.number v.number Less (sym less ∙ ap (λ o. ordering_then o (nat_cmp w.number v.number)) tied)

before_it : (v w : Version) (vs : List Version) → IsBefore v vs → IsIn w vs → version_cmp v w ≡ Less
before_it v w [] before there = absurd there
before_it v w (x ∷ xs) before there = ⊎_elim (λ (e : x ≡ w). subst (λ (y : Version). version_cmp v y ≡ Less) e before.0) (λ (k : IsIn w xs). before_it v w xs before.1 k) there

pub descends : (key : List ℕ) (vs : List Version) → AreInOrder vs → Descends key (of_key key vs)
descends key [] order = tt
descends key (v ∷ vs) order = let parts = in_order_parts v vs order in by parts.0 (bytes_eq v.key key) refl (descends key vs parts.1)
  where
    by : IsBefore v vs → (b : Bool) → bytes_eq v.key key ≡ b → Descends key (of_key key vs) → Descends key (cond b (v ∷ of_key key vs) (of_key key vs))
    by before true is rest =
        let mine = same_key v.key key is in
        (mine, (λ w there. let k = in_filter (λ (x : Version). bytes_eq x.key key) w vs there in lesser_number v w (before_it v w vs before k.0) (mine ∙ sym (same_key w.key key k.1))), rest)
    by before false is rest = rest

pub at_of_key : (key : List ℕ) (p : ℕ) (vs : List Version) → version_at (of_key key vs) key p ≡ version_at vs key p
at_of_key key p [] = refl
at_of_key key p (v ∷ vs) = by (bytes_eq v.key key) refl (at_of_key key p vs)
  where
    by : (b : Bool) → bytes_eq v.key key ≡ b → version_at (of_key key vs) key p ≡ version_at vs key p → version_at (cond b (v ∷ of_key key vs) (of_key key vs)) key p ≡ cond (bytes_eq v.key key && (v.number == p)) (Some v.value) (version_at vs key p)
    by true is rest = ap (cond (bytes_eq v.key key && (v.number == p)) (Some v.value)) rest
    by false is rest = rest ∙ sym (ap (λ t. cond (t && (v.number == p)) (Some v.value) (version_at vs key p)) is)

and_false : (b c : Bool) → c ≡ false → (b && c) ≡ false
and_false true c e = e
and_false false c e = refl

-- what is in the list is under its number
pub at_its_number : (key : List ℕ) (vs : List Version) (v : Version) → Descends key vs → IsIn v vs → version_at vs key v.number ≡ Some v.value
at_its_number key [] v d there = absurd there
at_its_number key (w ∷ ws) v d there = ⊎_elim
    (λ (e : w ≡ v).
    let test : (bytes_eq w.key key && (w.number == v.number)) ≡ true = and_from (bytes_eq w.key key) (w.number == v.number) ((bytes_eq-Decides w.key key).1 d.0) (eq-eqb w.number v.number (ap (λ (x : Version). x.number) e)) in
    ap (λ t. cond t (Some w.value) (version_at ws key v.number)) test ∙ ap (λ (x : Version). Some x.value) e)
    (λ (k : IsIn v ws).
    let less = d.1 v k in
    let test : (bytes_eq w.key key && (w.number == v.number)) ≡ false = and_false (bytes_eq w.key key) (w.number == v.number) (ne_eqb w.number v.number (λ (e : w.number ≡ v.number). absurd (omega arith))) in
    ap (λ t. cond t (Some w.value) (version_at ws key v.number)) test ∙ at_its_number key ws v d.2 k)
    there

-- what is under a number is in the list
pub record IsUnder (p : ℕ) (value : Option (List ℕ)) (vs : List Version) : Type 0 where
  pub version : Version
  pub there : IsIn version vs
  pub number_is : version.number ≡ p
  pub value_is : version.value ≡ value

pub under_number : (key : List ℕ) (p : ℕ) (value : Option (List ℕ)) (vs : List Version) → version_at vs key p ≡ Some value → IsUnder p value vs
under_number key p value [] e = absurd cc
under_number key p value (w ∷ ws) e = by (bytes_eq w.key key && (w.number == p)) refl e (under_number key p value ws)
  where
    by : (b : Bool) → (bytes_eq w.key key && (w.number == p)) ≡ b → cond b (Some w.value) (version_at ws key p) ≡ Some value → (version_at ws key p ≡ Some value → IsUnder p value ws) → IsUnder p value (w ∷ ws)
    by true is h rest = record { version = w; there = inl refl; number_is = eqb-true w.number p (and_parts (bytes_eq w.key key) (w.number == p) is).1; value_is = same_some w.value value h }
    by false is h rest = let k = rest h in record { version = k.version; there = inr k.there; number_is = k.number_is; value_is = k.value_is }

behind_is_less : (key : List ℕ) (front back : List Version) (v u : Version) → Descends key (front ++ v ∷ back) → IsIn u back → u.number < v.number
behind_is_less key [] back v u d there = d.1 u there
behind_is_less key (w ∷ front) back v u d there = behind_is_less key front back v u d.2 there

-- ---- the first that is committed

module _ (history : List Entry) (key : List ℕ) (n : ℕ) (all ys : List Version) (each : (p : ℕ) → version_at ys key p ≡ version_at all key p) (d : Descends key ys) (low : n ≤ length history) (gives : GivesStore (up_to (length history) all) history key n) where
  is_there : (p : ℕ) (value : Option (List ℕ)) → version_at (up_to (length history) all) key p ≡ Some value → IsUnder p value ys
  is_there p value e = ⊎_elim (λ (past : length history < p). absurd (none_some (version_at (up_to (length history) all) key p) value (up_to_past (length history) all key p past) e))
      (λ (within : p ≤ length history). under_number key p value ys (each p ∙ (sym (up_to_within (length history) all key p within) ∙ e))) (cases_lt (length history) p)

  pub in_store : (v : Version) → IsIn v ys → v.number ≤ n → version_at (up_to (length history) all) key v.number ≡ Some v.value
  in_store v there le = up_to_within (length history) all key v.number (omega arith) ∙ (sym (each v.number) ∙ at_its_number key ys v d there)

  pub first_shows : (front back : List Version) (v : Version) → ys ≡ front ++ v ∷ back → NoneCommitted history n front → IsCommittedAt history v.number n → v.number ≤ n → v.value ≡ value_at history key n
  first_shows front back v are none committed le = ⊎_elim by_newest by_none gives
    where
      mine : version_at (up_to (length history) all) key v.number ≡ Some v.value
      mine = in_store v (subst (IsIn v) (sym are) (in_middle front)) le
        where
          in_middle : (xs : List Version) → IsIn v (xs ++ v ∷ back)
          in_middle [] = inl refl
          in_middle (x ∷ xs) = inr (in_middle xs)

      by_newest : GivesNewest (up_to (length history) all) history key n → v.value ≡ value_at history key n
      by_newest g =
          let u = is_there g.number g.value g.there in
          ⊎_elim (λ (k : IsIn u.version front). absurd (none u.version k (subst (λ (p : ℕ). IsCommittedAt history p n) (sym u.number_is) g.committed)))
          (λ (k : (v ≡ u.version) ⊎ IsIn u.version back).
          ⊎_elim (λ (e : v ≡ u.version). ap (λ (x : Version). x.value) e ∙ (u.value_is ∙ sym g.stored))
          (λ (j : IsIn u.version back).
          let less = behind_is_less key front back v u.version (subst (Descends key) are d) j in
          let same = u.number_is in
          absurd (none_some (version_at (up_to (length history) all) key v.number) v.value (g.newest v.number (omega arith) committed) mine)) k)
          (in_either u.version front (v ∷ back) (subst (IsIn u.version) are u.there))

      by_none : GivesNone (up_to (length history) all) history key n → v.value ≡ value_at history key n
      by_none g = absurd (none_some (version_at (up_to (length history) all) key v.number) v.value (g.none v.number committed) mine)

  pub none_shows : NoneCommitted history n ys → value_at history key n ≡ None
  none_shows none = ⊎_elim (λ (g : GivesNewest (up_to (length history) all) history key n). let u = is_there g.number g.value g.there in absurd (none u.version u.there (subst (λ (p : ℕ). IsCommittedAt history p n) (sym u.number_is) g.committed)))
      (λ (g : GivesNone (up_to (length history) all) history key n). g.missing) gives
