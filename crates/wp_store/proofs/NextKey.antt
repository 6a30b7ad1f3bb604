-- The next key of a list of versions in order is the least one from there on.
use Rattle.std.proofs.Common.{◌≡◌, ◌⊎◌, inl, inr, ℕ, Bool, true, false, true≢false, cond, Less, List, [], ◌∷◌, Option, Some, None, refl, sym, ap, ◌∙◌, subst}
use Rattle.std.specs.List.{list_all}
use Rattle.std.specs.Ordering.{nat_cmp, ordering_then}
use Rattle.std.proofs.lemmas.Bool.{and_from, and_parts}
use Rattle.wp_model.specs.Rows.{is_from, next_key}
use Rattle.wp_model.specs.Word.{is_key}
use Rattle.wp_model.specs.declared.version.Version.{Version}
use Rattle.wp_model.specs.Versions.{AreInOrder, version_at, version_cmp}
use Rattle.wp_model.proofs.Ordered.{IsLess, which_less, less_not_same}
use Rattle.wp_model.proofs.VersionLists.{IsBefore, in_order_parts}
use Rattle.wp_merge.proofs.Merged.{is_here, place_of, missing, before_more}
use Rattle.wp_merge.proofs.Sorted.{own_place, own_value}
use Rattle.wp_table.specs.Table.{has_words, is_stored}
use Rattle.wp_store.specs.Store.{AreWords}

-- the key has a version there
abbrev pub HasKey : List Version → List ℕ → Type 0
HasKey versions key = (n : ℕ) × (value : Option (List ℕ)) × (version_at versions key n ≡ Some value)

-- a key is there, which is not above the other one
abbrev pub IsUpTo : Option (List ℕ) → List ℕ → Type 0
IsUpTo found other = (key : List ℕ) × (found ≡ Some key) × (IsLess other key → ⊥)

some_is : (a b : List ℕ) → Some a ≡ Some b → a ≡ b
some_is a b e = cc

none_is_some : (a : List ℕ) → None ≡ Some a → ⊥
none_is_some a e = absurd cc

value_none : (a : Option (List ℕ)) → None ≡ Some a → ⊥
value_none a e = absurd cc

-- whose version is there is one
pub has_word : (versions : List Version) (k : List ℕ) (n : ℕ) (value : Option (List ℕ)) → AreWords versions → version_at versions k n ≡ Some value → is_key k ≡ true
has_word [] k n value words is = absurd (value_none value is)
has_word (v ∷ vs) k n value words is = by (λ e. has_word vs k n value parts.1 e) (is_here k n v) refl
  where
    parts : (is_key v.key ≡ true) × AreWords vs
    parts = and_parts (is_key v.key) (list_all (λ w. is_key w.key) vs) words

    by : (version_at vs k n ≡ Some value → is_key k ≡ true) → (b : Bool) → is_here k n v ≡ b → is_key k ≡ true
    by again true here = ap is_key (sym (place_of k n v here).0) ∙ parts.0
    by again false here = again (sym (ap (λ (b : Bool). cond b (Some v.value) (version_at vs k n)) here) ∙ is)

-- what a table has are words
pub stored_words : (versions : List Version) → list_all has_words versions ≡ true → AreWords versions
stored_words [] all = refl
stored_words (v ∷ vs) all =
    let parts = and_parts (has_words v) (list_all has_words vs) all in
    and_from (is_key v.key) (list_all (λ w. is_key w.key) vs) (and_parts (is_key v.key) (is_stored v.value) parts.0).0 (stored_words vs parts.1)

module _ (above : Bool) (key : List ℕ) where
  -- of the keys from a place on that have something it is the least
  pub record IsLeast (Has : List ℕ → Type 0) (found : Option (List ℕ)) : Type 0 where
    pub there : (k : List ℕ) → found ≡ Some k → (is_from above key k ≡ true) × Has k
    pub least : (other : List ℕ) → is_from above key other ≡ true → Has other → IsUpTo found other

  -- a key that is below the first one has no version
  none_lesser : (v : Version) (vs : List Version) (other : List ℕ) (n : ℕ) → IsBefore v vs → IsLess other v.key → version_at (v ∷ vs) other n ≡ None
  none_lesser v vs other n before less =
      let u : Version = record { key = other; number = n; value = None } in
      let first : version_cmp u v ≡ Less = ap (λ o. ordering_then o (nat_cmp v.number n)) less in
      missing other n u (v ∷ vs) (first, before_more u v vs first before) (own_place u)

  more_has : (v : Version) (vs : List Version) (k : List ℕ) → HasKey vs k → HasKey (v ∷ vs) k
  more_has v vs k has = by (is_here k has.0 v) refl
    where
      by : (b : Bool) → is_here k has.0 v ≡ b → HasKey (v ∷ vs) k
      by true here = (has.0, v.value, ap (λ (b : Bool). cond b (Some v.value) (version_at vs k has.0)) here)
      by false here = (has.0, has.1, ap (λ (b : Bool). cond b (Some v.value) (version_at vs k has.0)) here ∙ has.2)

  has_itself : (v : Version) (vs : List Version) (k : List ℕ) → v.key ≡ k → HasKey (v ∷ vs) k
  has_itself v vs k same = subst (HasKey (v ∷ vs)) same (v.number, v.value, own_value v vs)

  -- a version of the list is the first, or one of the others
  has_either : (v : Version) (vs : List Version) (k : List ℕ) → HasKey (v ∷ vs) k → (v.key ≡ k) ⊎ HasKey vs k
  has_either v vs k has = by (which_less v.key k)
    where
      apart : (v.key ≡ k → ⊥) → (b : Bool) → is_here k has.0 v ≡ b → HasKey vs k
      apart differ true here = absurd (differ ((place_of k has.0 v here).0))
      apart differ false here = (has.0, has.1, sym (ap (λ (b : Bool). cond b (Some v.value) (version_at vs k has.0)) here) ∙ has.2)

      by : IsLess v.key k ⊎ ((v.key ≡ k) ⊎ IsLess k v.key) → (v.key ≡ k) ⊎ HasKey vs k
      by (inl less) = inr (apart (less_not_same v.key k less) (is_here k has.0 v) refl)
      by (inr (inl same)) = inl same
      by (inr (inr less)) = inr (apart (λ same. less_not_same k v.key less (sym same)) (is_here k has.0 v) refl)

  pub next_is_least : (vs : List Version) → AreInOrder vs → IsLeast (HasKey vs) (next_key above key vs)
  next_is_least [] h = record { there = λ k e. absurd (none_is_some k e); least = λ other from has. absurd (value_none has.1 has.2) }
  next_is_least (v ∷ vs) h = by (next_is_least vs (in_order_parts v vs h).1) (is_from above key v.key) refl
    where
      by : IsLeast (HasKey vs) (next_key above key vs) → (b : Bool) → is_from above key v.key ≡ b → IsLeast (HasKey (v ∷ vs)) (next_key above key (v ∷ vs))
      by rest true from = rw from (record {
        there = λ k e. (ap (is_from above key) (sym (some_is v.key k e)) ∙ from, has_itself v vs k (some_is v.key k e));
        least = λ other o has. (v.key, refl, λ less. value_none has.1 (sym (none_lesser v vs other has.0 (in_order_parts v vs h).0 less) ∙ has.2));
      })
      by rest false short = rw short (record {
        there = λ k e. ((rest.there k e).0, more_has v vs k (rest.there k e).1);
        least = λ other o has. rest.least other o (later other o (has_either v vs other has));
      })
        where
          later : (other : List ℕ) → is_from above key other ≡ true → (v.key ≡ other) ⊎ HasKey vs other → HasKey vs other
          later other o (inl same) = absurd (true≢false (sym o ∙ ap (is_from above key) (sym same) ∙ short))
          later other o (inr has) = has
