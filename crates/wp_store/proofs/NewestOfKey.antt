-- The newest versions of a key.
use Rattle.std.proofs.Common.{◌≡◌, ℕ, zero, suc, Bool, true, false, cond, List, [], ◌∷◌, take, map, Option, Some, None, refl, sym, ap, ◌∙◌}
use Rattle.std.specs.Option.{option_or}
use Rattle.std.specs.Str.{bytes_eq}
use Rattle.std.proofs.lemmas.List.Kept.{IsStrictlySortedBy-filter}
use Rattle.wp_model.specs.declared.version.Version.{Version}
use Rattle.wp_model.specs.Versions.{AreInOrder, version_cmp, version_at}
use Rattle.wp_model.proofs.VersionLists.{IsBefore, in_order_nil, in_order_parts, in_order_cons}
use Rattle.wp_merge.specs.Merge.{AreMerged, first_at}
use Rattle.wp_merge.proofs.Merged.{is_here, place_of}
use Rattle.wp_store.specs.Store.{of_key, newest_of}
use Rattle.wp_store.proofs.OneMerge.{AreAllInOrder, merged_of, one_list, in_order-merged, at_merged, merged_is}
use Rattle.wp_store.proofs.Fronts.{front-merged}

-- ---- their order

before-take : (v : Version) (vs : List Version) (n : ℕ) → IsBefore v vs → IsBefore v (take n vs)
before-take v vs zero h = tt
before-take v [] (suc n) h = tt
before-take v (w ∷ vs) (suc n) h = (h.0, before-take v vs n h.1)

pub in_order-take : (vs : List Version) (n : ℕ) → AreInOrder vs → AreInOrder (take n vs)
in_order-take vs zero h = in_order_nil
in_order-take [] (suc n) h = in_order_nil
in_order-take (v ∷ vs) (suc n) h =
    let parts = in_order_parts v vs h in
    in_order_cons v (take n vs) (before-take v vs n parts.0) (in_order-take vs n parts.1)

either_way : (b : Bool) (x : Option (Option (List ℕ))) → x ≡ cond b x x
either_way true x = refl
either_way false x = refl

module _ (key : List ℕ) where
  pub in_order-of_key : (vs : List Version) → AreInOrder vs → AreInOrder (of_key key vs)
  in_order-of_key vs h = IsStrictlySortedBy-filter version_cmp (λ v. bytes_eq v.key key) vs h

  pub in_order-newest : (n : ℕ) (vs : List Version) → AreInOrder vs → AreInOrder (newest_of n key vs)
  in_order-newest n vs h = in_order-take (of_key key vs) n (in_order-of_key vs h)

  all-of_key : (sources : List (List Version)) → AreAllInOrder sources → AreAllInOrder (map (of_key key) sources)
  all-of_key [] h = tt
  all-of_key (s ∷ ss) h = (in_order-of_key s h.0, all-of_key ss h.1)

  all-newest : (n : ℕ) (sources : List (List Version)) → AreAllInOrder sources → AreAllInOrder (map (newest_of n key) sources)
  all-newest n [] h = tt
  all-newest n (s ∷ ss) h = (in_order-newest n s h.0, all-newest n ss h.1)

  -- ---- what is under a key and a number

  module _ (other : List ℕ) (n : ℕ) where
    at_of_key : (vs : List Version) → version_at (of_key key vs) other n ≡ cond (bytes_eq other key) (version_at vs other n) None
    at_of_key [] = either_way (bytes_eq other key) None
    at_of_key (v ∷ vs) = by (bytes_eq v.key key) (is_here other n v) refl refl (at_of_key vs)
      where
        by : (f here : Bool) → bytes_eq v.key key ≡ f → is_here other n v ≡ here → version_at (of_key key vs) other n ≡ cond (bytes_eq other key) (version_at vs other n) None
            → version_at (cond f (v ∷ of_key key vs) (of_key key vs)) other n ≡ cond (bytes_eq other key) (cond here (Some v.value) (version_at vs other n)) None
        by true true passes here rest =
            let same = sym (ap (λ k. bytes_eq k key) (place_of other n v here).0) ∙ passes in
            rw (here, same) refl
        by true false passes here rest = rw here rest
        by false true passes here rest =
            let same = sym (ap (λ k. bytes_eq k key) (place_of other n v here).0) ∙ passes in
            rest ∙ ap (λ b. cond b (version_at vs other n) None) same ∙ sym (ap (λ b. cond b (Some v.value) None) same)
        by false false passes here rest = rest

    or_of_key : (b : Bool) (x y : Option (Option (List ℕ))) → option_or (cond b x None) (cond b y None) ≡ cond b (option_or x y) None
    or_of_key true x y = refl
    or_of_key false x y = refl

    first_of_key : (sources : List (List Version)) → first_at (map (of_key key) sources) other n ≡ cond (bytes_eq other key) (first_at sources other n) None
    first_of_key [] = at_of_key []
    first_of_key (s ∷ ss) =
        (λ i. option_or (at_of_key s i) (first_of_key ss i)) ∙ or_of_key (bytes_eq other key) (version_at s other n) (first_at ss other n)

  of_key_merged : (sources : List (List Version)) (all : List Version) → AreAllInOrder sources → AreMerged sources all → of_key key all ≡ merged_of (map (of_key key) sources)
  of_key_merged sources all h is =
      let parts = all-of_key sources h in
      one_list (of_key key all) (merged_of (map (of_key key) sources)) (in_order-of_key all is.in_order) (in_order-merged _ parts)
      (λ other n. at_of_key other n all ∙ ap (λ x. cond (bytes_eq other key) x None) (is.each other n) ∙ sym (first_of_key other n sources) ∙ sym (at_merged other n _ parts))

  -- of what each source has of the key its first n serve
  pub newest_merged : (n : ℕ) (sources : List (List Version)) (found all : List Version) → AreAllInOrder sources → AreMerged (map (newest_of n key) sources) found → AreMerged sources all → take n found ≡ newest_of n key all
  newest_merged n sources found all h few is =
      ap (take n) (merged_is (map (newest_of n key) sources) found (all-newest n sources h) few)
      ∙ front-merged n (of_key key) sources
      ∙ sym (ap (take n) (of_key_merged sources all h is))
