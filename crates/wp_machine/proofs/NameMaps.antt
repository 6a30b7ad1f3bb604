-- Finite sets and maps of names and keys, as lists whose newest item comes first.
use Rattle.std.proofs.Common.{◌≡◌, ℕ, Bool, true, false, cond, not, ◌&&◌, ◌||◌, filter, map, List, [], ◌∷◌, Option, Some, None, is_some, refl, sym, ap, ◌∙◌}
use Rattle.std.specs.declared.cmp.Ordering.{Ordering}
use Rattle.std.specs.declared.cmp.Ordering.TheVariants.{Less, Equal, Greater}
use Rattle.std.specs.Ordering.{eq_by_cmp, is_eq}
use Rattle.std.specs.List.{list_any}
use Rattle.std.specs.Str.{bytes_eq}
use Rattle.std.specs.FinSet as set
use Rattle.std.specs.FinMap as finite
use Rattle.std.proofs.lemmas.Cmp.{nat_list_cmp_total}
use Rattle.std.proofs.lemmas.Map.Lookups.{exact_bytes}
use Rattle.std.proofs.lemmas.Map.Text.{is_eq-slice_cmp}
use Rattle.wp_model.specs.Batch.{key_cmp}

equal_from_test : (o : Ordering) → is_eq o ≡ true → o ≡ Equal
equal_from_test Less h = absurd cc
equal_from_test Equal h = refl
equal_from_test Greater h = absurd cc

pub same_key : (a b : List ℕ) → eq_by_cmp key_cmp a b ≡ true → a ≡ b
same_key a b h = exact_bytes a b (equal_from_test (key_cmp a b) h)

abbrev pub set_of : List (List ℕ) → set.FinSet key_cmp
set_of xs = set.from_list xs

abbrev pub map_of : {X : Type 0} → List (List ℕ × X) → finite.FinMap key_cmp X
map_of es = finite.from_entries es

is_anti : finite.IsAntisymmetric key_cmp
is_anti = finite.slice_cmp-IsAntisymmetric finite.nat_cmp-IsAntisymmetric

and_false : (b : Bool) → (b && false) ≡ false
and_false true = refl
and_false false = refl

turned : (a b : Bool) → (a && b) ≡ (b && a)
turned true true = refl
turned true false = refl
turned false true = refl
turned false false = refl

any_filtered : (f : List ℕ → Bool) (xs : List (List ℕ)) (q : List ℕ) → list_any (eq_by_cmp key_cmp q) (filter f xs) ≡ (list_any (eq_by_cmp key_cmp q) xs && f q)
any_filtered f [] q = refl
any_filtered f (x ∷ xs) q = by (f x) refl (eq_by_cmp key_cmp q x) refl (any_filtered f xs q)
  where
    by : (b : Bool) → f x ≡ b → (d : Bool) → eq_by_cmp key_cmp q x ≡ d → list_any (eq_by_cmp key_cmp q) (filter f xs) ≡ (list_any (eq_by_cmp key_cmp q) xs && f q) → list_any (eq_by_cmp key_cmp q) (cond b (x ∷ filter f xs) (filter f xs)) ≡ ((eq_by_cmp key_cmp q x || list_any (eq_by_cmp key_cmp q) xs) && f q)
    by true e true d h = let fq = ap f (same_key q x d) ∙ e in rw (d, fq) refl
    by true e false d h = rw d h
    by false e true d h = let fq = ap f (same_key q x d) ∙ e in rw (d, h, fq) (and_false _)
    by false e false d h = rw d h

pub contains_filtered : (f : List ℕ → Bool) (xs : List (List ℕ)) (q : List ℕ) → set.contains (set_of (filter f xs)) q ≡ (set.contains (set_of xs) q && f q)
contains_filtered f xs q = set.contains-from_list nat_list_cmp_total (filter f xs) q ∙ any_filtered f xs q ∙ ap (λ b. b && f q) (sym (set.contains-from_list nat_list_cmp_total xs q))

pub set_removed : (p : List ℕ) (xs : List (List ℕ)) → set_of (filter (λ q. not (bytes_eq q p)) xs) ≡ set.remove (set_of xs) p
set_removed p xs = set.same_set nat_list_cmp_total is_anti _ _ (λ q. contains_filtered (λ x. not (bytes_eq x p)) xs q ∙ turned (set.contains (set_of xs) q) (not (bytes_eq q p)) ∙ ap (λ b. not b && set.contains (set_of xs) q) (sym (is_eq-slice_cmp q p)) ∙ sym (set.contains-remove nat_list_cmp_total (set_of xs) p q))

alike : (f : List ℕ → Bool) (q x : List ℕ) → key_cmp q x ≡ Equal → f x ≡ f q
alike f q x e = ap f (sym (exact_bytes q x e))

module _ {X : Type 0} where
  none_either : (o : Option X) (b : Bool) → o ≡ None → o ≡ cond b o None
  none_either o true e = refl
  none_either o false e = e

  find_retained : (f : List ℕ → Bool) (es : List (List ℕ × X)) (q : List ℕ) → finite.find key_cmp q (filter (λ e. f e.0) es) ≡ cond (f q) (finite.find key_cmp q es) None
  find_retained f [] q = none_either _ (f q) refl
  find_retained f (e ∷ es) q = by (f e.0) refl (eq_by_cmp key_cmp q e.0) refl (find_retained f es q)
    where
      by : (b : Bool) → f e.0 ≡ b → (d : Bool) → eq_by_cmp key_cmp q e.0 ≡ d → finite.find key_cmp q (filter (λ x. f x.0) es) ≡ cond (f q) (finite.find key_cmp q es) None → finite.find key_cmp q (cond b (e ∷ filter (λ x. f x.0) es) (filter (λ x. f x.0) es)) ≡ cond (f q) (cond (eq_by_cmp key_cmp q e.0) (Some e.1) (finite.find key_cmp q es)) None
      by true b true d h = let fq = ap f (same_key q e.0 d) ∙ b in rw (d, fq) refl
      by true b false d h = rw d h
      by false b true d h = let fq = ap f (same_key q e.0 d) ∙ b in h ∙ rw fq refl
      by false b false d h = rw d h

  get_retained : (f : List ℕ → Bool) (es : List (List ℕ × X)) (q : List ℕ) → finite.get (map_of (filter (λ e. f e.0) es)) q ≡ cond (f q) (finite.get (map_of es) q) None
  get_retained f es q = finite.get-from_entries nat_list_cmp_total (filter (λ e. f e.0) es) q ∙ find_retained f es q ∙ ap (λ o. cond (f q) o None) (sym (finite.get-from_entries nat_list_cmp_total es q))

  pub map_retained : (f : List ℕ → Bool) (es : List (List ℕ × X)) → map_of (filter (λ e. f e.0) es) ≡ finite.retain_keys (map_of es) f
  map_retained f es = finite.same_map nat_list_cmp_total is_anti _ _ (λ q. get_retained f es q ∙ sym (finite.get-retain_keys (map_of es) f q (alike f q)))

  swapped : (b : Bool) (o : Option X) → cond (not b) o None ≡ cond b None o
  swapped true o = refl
  swapped false o = refl

  pub map_removed : (p : List ℕ) (es : List (List ℕ × X)) → map_of (filter (λ e. not (bytes_eq e.0 p)) es) ≡ finite.remove (map_of es) p
  map_removed p es = finite.same_map nat_list_cmp_total is_anti _ _ (λ q. get_retained (λ x. not (bytes_eq x p)) es q ∙ swapped (bytes_eq q p) (finite.get (map_of es) q) ∙ ap (λ b. cond b None (finite.get (map_of es) q)) (sym (is_eq-slice_cmp q p)) ∙ sym (finite.get-remove nat_list_cmp_total (map_of es) p q))

  any_key : (es : List (List ℕ × X)) (q : List ℕ) → list_any (eq_by_cmp key_cmp q) (map (λ e. e.0) es) ≡ is_some (finite.find key_cmp q es)
  any_key [] q = refl
  any_key (e ∷ es) q = by (eq_by_cmp key_cmp q e.0) refl (any_key es q)
    where
      by : (d : Bool) → eq_by_cmp key_cmp q e.0 ≡ d → list_any (eq_by_cmp key_cmp q) (map (λ x. x.0) es) ≡ is_some (finite.find key_cmp q es) → (eq_by_cmp key_cmp q e.0 || list_any (eq_by_cmp key_cmp q) (map (λ x. x.0) es)) ≡ is_some (cond (eq_by_cmp key_cmp q e.0) (Some e.1) (finite.find key_cmp q es))
      by true d h = rw d refl
      by false d h = rw d h

  -- a list of pairs has the keys of its map, some perhaps twice
  pub keys_filtered : (f : List ℕ → Bool) (es : List (List ℕ × X)) → set_of (filter f (map (λ e. e.0) es)) ≡ set_of (filter f (finite.keys (map_of es)))
  keys_filtered f es = set.same_set nat_list_cmp_total is_anti _ _ (λ q.
      contains_filtered f (map (λ e. e.0) es) q
      ∙ ap (λ b. b && f q) (set.contains-from_list nat_list_cmp_total (map (λ e. e.0) es) q ∙ any_key es q ∙ ap is_some (sym (finite.get-from_entries nat_list_cmp_total es q)) ∙ finite.contains_key-keys (map_of es) q ∙ sym (set.contains-from_list nat_list_cmp_total (finite.keys (map_of es)) q))
      ∙ sym (contains_filtered f (finite.keys (map_of es)) q))
