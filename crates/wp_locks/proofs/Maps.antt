-- The finite map that a tree's entries stand for.
use Rattle.std.proofs.Common.{◌≡◌, ℕ, Bool, true, false, cond, List, [], ◌∷◌, Option, Some, None, is_some, refl, sym, ap, ◌∙◌}
use Rattle.std.specs.Cmp.{eq_by_cmp_equiv}
use Rattle.std.specs.Ordering.{eq_by_cmp}
use Rattle.std.specs.Map.{lookup}
use Rattle.std.specs.BTreeMap.{is_at}
use Rattle.std.specs.FinMap.{FinMap, from_entries, get, find, insert, remove, get-from_entries, get-insert, get-remove, same_map, nat_cmp-IsAntisymmetric, slice_cmp-IsAntisymmetric}
use Rattle.std.proofs.lemmas.Cmp.{nat_list_cmp_total}
use Rattle.wp_model.specs.Batch.{key_cmp}
use Rattle.wp_model.proofs.Words.{same_word}

same_either_way : (a b : List ℕ) → eq_by_cmp key_cmp a b ≡ eq_by_cmp key_cmp b a
same_either_way a b = (eq_by_cmp_equiv nat_list_cmp_total).symm a b

module _ {X : Type 0} where
  -- what the entries have at q
  abbrev pub value_at : List (List ℕ × X) → List ℕ → Option X
  value_at es q = lookup (is_at (key_cmp q)) es

  -- the map of the entries
  abbrev pub map_of : List (List ℕ × X) → FinMap key_cmp X
  map_of es = from_entries es

  find_is : (es : List (List ℕ × X)) (q : List ℕ) → find key_cmp q es ≡ value_at es q
  find_is [] q = refl
  find_is (e ∷ es) q = ap (cond (eq_by_cmp key_cmp q e.0) (Some e.1)) (find_is es q)

  pub get-map_of : (es : List (List ℕ × X)) (q : List ℕ) → get (map_of es) q ≡ value_at es q
  get-map_of es q = get-from_entries nat_list_cmp_total es q ∙ find_is es q

  pub map_of_same : (es : List (List ℕ × X)) (m : FinMap key_cmp X) → ((q : List ℕ) → value_at es q ≡ get m q) → map_of es ≡ m
  map_of_same es m same = same_map nat_list_cmp_total (slice_cmp-IsAntisymmetric nat_cmp-IsAntisymmetric) _ _ (λ q. get-map_of es q ∙ same q)

  at_old : (es : List (List ℕ × X)) (k q : List ℕ) (w : Option X) → cond (eq_by_cmp key_cmp k q) w (value_at es q) ≡ cond (eq_by_cmp key_cmp q k) w (get (map_of es) q)
  at_old es k q w = ap (λ b. cond b w (value_at es q)) (same_either_way k q) ∙ ap (cond (eq_by_cmp key_cmp q k) w) (sym (get-map_of es q))

  -- ns has w at k, and what es has at each other key
  abbrev pub UpdatedAt : List (List ℕ × X) → List (List ℕ × X) → List ℕ → Option X → Type 0
  UpdatedAt es ns k w = (q : List ℕ) → value_at ns q ≡ cond (eq_by_cmp key_cmp k q) w (value_at es q)

  pub map_of_inserted : (es ns : List (List ℕ × X)) (k : List ℕ) (v : X) → UpdatedAt es ns k (Some v) → map_of ns ≡ insert (map_of es) k v
  map_of_inserted es ns k v is = map_of_same ns _ (λ q. is q ∙ at_old es k q (Some v) ∙ sym (get-insert nat_list_cmp_total (map_of es) k v q))

  pub map_of_removed : (es ns : List (List ℕ × X)) (k : List ℕ) → UpdatedAt es ns k None → map_of ns ≡ remove (map_of es) k
  map_of_removed es ns k is = map_of_same ns _ (λ q. is q ∙ at_old es k q None ∙ sym (get-remove nat_list_cmp_total (map_of es) k q))

  -- one entry more before those that the old entries stand for
  pub joined_one : (es ns more : List (List ℕ × X)) (k : List ℕ) (v : X) → UpdatedAt es ns k (Some v) → map_of es ≡ map_of more → map_of ns ≡ map_of ((k, v) ∷ more)
  joined_one es ns more k v updated same = map_of_inserted es ns k v updated ∙ ap (λ m. insert m k v) same

  pub none_from_false : (o : Option X) → is_some o ≡ false → o ≡ None
  none_from_false None h = refl
  none_from_false (Some x) h = absurd cc

  -- what a test of the entries says of the map
  pub get_none : (es : List (List ℕ × X)) (k : List ℕ) (b : Bool) → b ≡ is_some (value_at es k) → b ≡ false → get (map_of es) k ≡ None
  get_none es k b is none = get-map_of es k ∙ none_from_false _ (sym is ∙ none)

  pub get_some : (es : List (List ℕ × X)) (k : List ℕ) (b : Bool) → b ≡ is_some (value_at es k) → b ≡ true → is_some (get (map_of es) k) ≡ true
  get_some es k b is some = ap is_some (get-map_of es k) ∙ sym is ∙ some

  pub get_found : (es : List (List ℕ × X)) (k : List ℕ) (o : Option X) → o ≡ value_at es k → get (map_of es) k ≡ o
  get_found es k o is = get-map_of es k ∙ sym is

  -- with what is there already a map is as it was
  pub insert_same : (m : FinMap key_cmp X) (k : List ℕ) (v : X) → get m k ≡ Some v → insert m k v ≡ m
  insert_same m k v had =
      same_map nat_list_cmp_total (slice_cmp-IsAntisymmetric nat_cmp-IsAntisymmetric) _ _ (λ q. get-insert nat_list_cmp_total m k v q ∙ by q (eq_by_cmp key_cmp q k) refl)
    where
      by : (q : List ℕ) (b : Bool) → eq_by_cmp key_cmp q k ≡ b → cond b (Some v) (get m q) ≡ get m q
      by q true is = sym had ∙ ap (get m) (sym (same_word q k is))
      by q false is = refl
