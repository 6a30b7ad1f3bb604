-- What merging two lists keeps: their order, and what is under each key and number.
use Rattle.std.proofs.Common.{◌≡◌, ℕ, Bool, true, false, cond, ◌&&◌, ◌==◌, Less, Equal, Greater, List, [], ◌∷◌, ◌++◌, Option, Some, None, refl, sym, ap, ◌∙◌}
use Rattle.std.specs.Option.{option_or}
use Rattle.std.specs.declared.cmp.Ordering.{Ordering}
use Rattle.std.specs.Ordering.{nat_cmp, ordering_then, ordering_reverse}
use Rattle.std.specs.Str.{bytes_eq}
use Rattle.std.proofs.lemmas.Bool.{false≢true, and_parts, eqb-true}
use Rattle.std.proofs.lemmas.Map.Lookups.{exact_bytes}
use Rattle.std.proofs.lemmas.Cmp.{ranked, tied_itself}
use Rattle.std.proofs.lemmas.Slice.Eq.{bytes_eq-Decides}
use Rattle.wp_model.specs.Batch.{key_cmp}
use Rattle.wp_model.specs.declared.version.Version.{Version}
use Rattle.wp_model.specs.Versions.{AreInOrder, version_cmp, version_at}
use Rattle.wp_model.proofs.VersionLists.{IsBefore, in_order_parts, in_order_cons, or_cond, version_total}
use Rattle.wp_merge.specs.Merge.{first_at, choose_by_order, weave, merge_of}

pub merge_none : (xs : List Version) → merge_of xs [] ≡ xs
merge_none [] = refl
merge_none (x ∷ xs) = ap (λ (ys : List Version). x ∷ ys) (merge_none xs)

less_not_equal : Less ≡ Equal → ⊥
less_not_equal h = absurd cc

pub both_equal : (o p : Ordering) → ordering_then o p ≡ Equal → (o ≡ Equal) × (p ≡ Equal)
both_equal Less p h = absurd cc
both_equal Equal p h = (refl, h)
both_equal Greater p h = absurd cc

pub before_more : (v w : Version) (ys : List Version) → version_cmp v w ≡ Less → IsBefore w ys → IsBefore v ys
before_more v w [] less before = tt
before_more v w (y ∷ ys) less before = (version_total.trans v w y less before.0, before_more v w ys less before.1)

before_same : (v w : Version) (ys : List Version) → version_cmp v w ≡ Equal → IsBefore w ys → IsBefore v ys
before_same v w [] same before = tt
before_same v w (y ∷ ys) same before = (version_total.congr v w y same ∙ before.0, before_same v w ys same before.1)

-- ---- the order

before_weave : (v x : Version) (rest : List Version → List Version) (ys : List Version) → version_cmp v x ≡ Less → ((zs : List Version) → IsBefore v zs → IsBefore v (rest zs)) → IsBefore v ys → IsBefore v (weave x rest ys)
before_weave v x rest [] here after before = (here, after [] tt)
before_weave v x rest (y ∷ ys) here after before = by (version_cmp x y) (before_weave v x rest ys here after before.1)
  where
    by : (o : Ordering) → IsBefore v (weave x rest ys) → IsBefore v (choose_by_order o (x ∷ rest (y ∷ ys)) (x ∷ rest ys) (y ∷ weave x rest ys))
    by Less later = (here, after (y ∷ ys) before)
    by Equal later = (here, after ys before.1)
    by Greater later = (before.0, later)

before_merge : (v : Version) (xs ys : List Version) → IsBefore v xs → IsBefore v ys → IsBefore v (merge_of xs ys)
before_merge v [] ys first second = second
before_merge v (x ∷ xs) ys first second = before_weave v x (merge_of xs) ys first.0 (λ zs. before_merge v xs zs first.1) second

in_order-weave : (x : Version) (xs ys : List Version) → IsBefore x xs → ((zs : List Version) → AreInOrder zs → AreInOrder (merge_of xs zs)) → AreInOrder ys → AreInOrder (weave x (merge_of xs) ys)
in_order-weave x xs [] before after h = in_order_cons x (merge_of xs []) (before_merge x xs [] before tt) (after [] h)
in_order-weave x xs (y ∷ ys) before after h = by (version_cmp x y) refl (in_order_parts y ys h) (in_order-weave x xs ys before after (in_order_parts y ys h).1)
  where
    by : (o : Ordering) → version_cmp x y ≡ o → IsBefore y ys × AreInOrder ys → AreInOrder (weave x (merge_of xs) ys) → AreInOrder (choose_by_order o (x ∷ merge_of xs (y ∷ ys)) (x ∷ merge_of xs ys) (y ∷ weave x (merge_of xs) ys))
    by Less is parts later = in_order_cons x (merge_of xs (y ∷ ys)) (before_merge x xs (y ∷ ys) before (is, before_more x y ys is parts.0)) (after (y ∷ ys) h)
    by Equal is parts later = in_order_cons x (merge_of xs ys) (before_merge x xs ys before (before_same x y ys is parts.0)) (after ys parts.1)
    by Greater is parts later =
        let less : version_cmp y x ≡ Less = version_total.antisymm y x ∙ ap ordering_reverse is in
        in_order_cons y (weave x (merge_of xs) ys) (before_weave y x (merge_of xs) ys less (λ zs b. before_merge y xs zs (before_more y x xs less before) b) parts.0) later

pub in_order-merge : (xs ys : List Version) → AreInOrder xs → AreInOrder ys → AreInOrder (merge_of xs ys)
in_order-merge [] ys first second = second
in_order-merge (x ∷ xs) ys first second =
    let parts = in_order_parts x xs first in
    in_order-weave x xs ys parts.0 (λ zs h. in_order-merge xs zs parts.1 h) second

-- ---- what is under a key and a number

module _ (key : List ℕ) (n : ℕ) where
  -- whether the version is the one of the key and the number
  abbrev pub is_here : Version → Bool
  is_here v = bytes_eq v.key key && (v.number == n)

  pub place_of : (v : Version) → is_here v ≡ true → (v.key ≡ key) × (v.number ≡ n)
  place_of v h =
      let parts = and_parts (bytes_eq v.key key) (v.number == n) h in
      ((bytes_eq-Decides v.key key).0 parts.0, eqb-true v.number n parts.1)

  -- a version of the place is before all others of it
  apart : (y w : Version) → version_cmp y w ≡ Less → is_here y ≡ true → is_here w ≡ false
  apart y w less here = by (is_here w) refl
    where
      by : (b : Bool) → is_here w ≡ b → b ≡ false
      by false is = refl
      by true is =
          let first = place_of y here in
          let second = place_of w is in
          let keys : y.key ≡ w.key = first.0 ∙ sym second.0 in
          let numbers : y.number ≡ w.number = first.1 ∙ sym second.1 in
          let same : version_cmp y w ≡ version_cmp w w = λ i. ordering_then (key_cmp (keys i) w.key) (nat_cmp w.number (numbers i)) in
          absurd (less_not_equal (sym less ∙ same ∙ tied_itself version_total w))

  pub missing : (y : Version) (xs : List Version) → IsBefore y xs → is_here y ≡ true → version_at xs key n ≡ None
  missing y [] before here = refl
  missing y (x ∷ xs) before here = rw (apart y x before.0 here) (missing y xs before.1 here)

  pub same_place : (x y : Version) → version_cmp x y ≡ Equal → is_here x ≡ is_here y
  same_place x y same =
      let both = both_equal (key_cmp x.key y.key) (nat_cmp y.number x.number) same in
      let keys = exact_bytes x.key y.key both.0 in
      let numbers = ranked y.number x.number Equal (sym both.1) in
      λ i. bytes_eq (keys i) key && (sym numbers i == n)

  at_weave : (x : Version) (xs ys : List Version) → IsBefore x xs → ((zs : List Version) → version_at (merge_of xs zs) key n ≡ option_or (version_at xs key n) (version_at zs key n)) → version_at (weave x (merge_of xs) ys) key n ≡ cond (is_here x) (Some x.value) (option_or (version_at xs key n) (version_at ys key n))
  at_weave x xs [] before after = ap (cond (is_here x) (Some x.value)) (after [])
  at_weave x xs (y ∷ ys) before after = by (version_cmp x y) refl (at_weave x xs ys before after)
    where
      by : (o : Ordering) → version_cmp x y ≡ o → version_at (weave x (merge_of xs) ys) key n ≡ cond (is_here x) (Some x.value) (option_or (version_at xs key n) (version_at ys key n)) → version_at (choose_by_order o (x ∷ merge_of xs (y ∷ ys)) (x ∷ merge_of xs ys) (y ∷ weave x (merge_of xs) ys)) key n ≡ cond (is_here x) (Some x.value) (option_or (version_at xs key n) (cond (is_here y) (Some y.value) (version_at ys key n)))
      by Less is later = ap (cond (is_here x) (Some x.value)) (after (y ∷ ys))
      by Equal is later = ap (cond (is_here x) (Some x.value)) (after ys) ∙ dropped (is_here x) (is_here y) (same_place x y is)
        where
          dropped : (a b : Bool) → a ≡ b → cond a (Some x.value) (option_or (version_at xs key n) (version_at ys key n)) ≡ cond a (Some x.value) (option_or (version_at xs key n) (cond b (Some y.value) (version_at ys key n)))
          dropped true b h = refl
          dropped false true h = absurd (false≢true h)
          dropped false false h = refl
      by Greater is later = ap (cond (is_here y) (Some y.value)) later ∙ ahead (is_here y) refl (version_total.antisymm y x ∙ ap ordering_reverse is)
        where
          ahead : (b : Bool) → is_here y ≡ b → version_cmp y x ≡ Less → cond b (Some y.value) (cond (is_here x) (Some x.value) (option_or (version_at xs key n) (version_at ys key n))) ≡ cond (is_here x) (Some x.value) (option_or (version_at xs key n) (cond b (Some y.value) (version_at ys key n)))
          ahead false here less = refl
          ahead true here less = rw (apart y x less here, missing y xs (before_more y x xs less before) here) refl

  pub at_merge : (xs ys : List Version) → AreInOrder xs → version_at (merge_of xs ys) key n ≡ option_or (version_at xs key n) (version_at ys key n)
  at_merge [] ys h = refl
  at_merge (x ∷ xs) ys h =
      let parts = in_order_parts x xs h in
      at_weave x xs ys parts.0 (λ zs. at_merge xs zs parts.1) ∙ or_cond (is_here x) x.value (version_at xs key n) (version_at ys key n)

  -- ---- several lists

  or_or : (a b c : Option (Option (List ℕ))) → option_or (option_or a b) c ≡ option_or a (option_or b c)
  or_or None b c = refl
  or_or (Some v) b c = refl

  pub or_none : (a : Option (Option (List ℕ))) → option_or a None ≡ a
  or_none None = refl
  or_none (Some v) = refl

  first_at-push : (sources : List (List Version)) (source : List Version) → first_at (sources ++ source ∷ []) key n ≡ option_or (first_at sources key n) (version_at source key n)
  first_at-push [] source = or_none (version_at source key n)
  first_at-push (s ∷ sources) source = ap (option_or (version_at s key n)) (first_at-push sources source) ∙ sym (or_or (version_at s key n) (first_at sources key n) (version_at source key n))

  -- the last list merged with what was merged after it
  pub merged_more : (now rest : List (List Version)) (source versions merged : List Version) → now ≡ rest ++ source ∷ [] → merged ≡ merge_of source versions → AreInOrder source → option_or (first_at rest key n) (version_at merged key n) ≡ option_or (first_at now key n) (version_at versions key n)
  merged_more now rest source versions merged left is h =
      ap (λ m. option_or (first_at rest key n) (version_at m key n)) is
      ∙ ap (option_or (first_at rest key n)) (at_merge source versions h)
      ∙ sym (or_or (first_at rest key n) (version_at source key n) (version_at versions key n))
      ∙ ap (λ o. option_or o (version_at versions key n)) (sym (first_at-push rest source) ∙ ap (λ ss. first_at ss key n) (sym left))

  -- what was merged of the first lists, merged with the next one
  pub merged_next : (versions source merged : List Version) (sources : List (List Version)) → merged ≡ merge_of versions source → AreInOrder versions → option_or (version_at merged key n) (first_at sources key n) ≡ option_or (version_at versions key n) (first_at (source ∷ sources) key n)
  merged_next versions source merged sources is h =
      ap (λ m. option_or (version_at m key n) (first_at sources key n)) is
      ∙ ap (λ o. option_or o (first_at sources key n)) (at_merge versions source h)
      ∙ or_or (version_at versions key n) (version_at source key n) (first_at sources key n)
