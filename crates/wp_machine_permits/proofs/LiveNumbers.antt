-- Live numbers, as a list: what is so of each of the list is so of each.
use Rattle.std.proofs.Common.{◌≡◌, ℕ, Bool, true, false, ◌==◌, ◌||◌, cond, List, [], ◌∷◌, map, Option, Some, None, is_some, refl, sym, ap, ◌∙◌, subst}
use Rattle.std.specs.Option.{IsSome}
use Rattle.std.specs.List.{list_any}
use Rattle.std.specs.Ordering.{nat_cmp, eq_by_cmp}
use Rattle.std.specs.FinSet as set
use Rattle.std.specs.FinMap as finite
use Rattle.std.proofs.lemmas.Bool.{eqb-true, eq-eqb}
use Rattle.std.proofs.lemmas.Cmp.{nat_list_cmp_total}
use Rattle.wp_model.specs.Batch.{key_cmp}
use Rattle.wp_model.specs.Covered.{is_among}
use Rattle.wp_model.specs.Snapshots.{LiveSnapshot, Snapshots, IsLive}
use Rattle.wp_machine_permits.specs.Each.{Each}
use Rattle.wp_machine.specs.Pairs.{newest_of}
use Rattle.wp_machine.proofs.Maps.{newest_is_got}
use Rattle.std.proofs.lemmas.Map.Text.{is_eq-slice_cmp}
use Rattle.wp_machine.proofs.NameMaps as names
use Rattle.wp_cover.proofs.Order.{key_itself}

either_some : {X : Type 0} (b : Bool) (x : X) (o : Option X) → is_some (cond b (Some x) o) ≡ (b || is_some o)
either_some true x o = refl
either_some false x o = refl

among_pairs : (pairs : List (ℕ × LiveSnapshot)) (n : ℕ) → is_among (map (λ (pair : ℕ × LiveSnapshot). pair.0) pairs) n ≡ is_some (newest_of pairs n)
among_pairs [] n = refl
among_pairs (pair ∷ pairs) n = ap (λ b. (pair.0 == n) || b) (among_pairs pairs n) ∙ sym (either_some (pair.0 == n) pair.1 (newest_of pairs n))

-- the numbers of the pairs are those that the map has
pub among_got : (pairs : List (ℕ × LiveSnapshot)) (numbers : List ℕ) → numbers ≡ map (λ (pair : ℕ × LiveSnapshot). pair.0) pairs → (n : ℕ) → is_among numbers n ≡ is_some (finite.get (finite.from_entries {R = nat_cmp} pairs) n)
among_got pairs numbers are n = ap (λ (xs : List ℕ). is_among xs n) are ∙ among_pairs pairs n ∙ ap is_some (newest_is_got pairs n)

module _ (P : ℕ → Type 0) where
  each_among : (xs : List ℕ) → Each P xs → (n : ℕ) → is_among xs n ≡ true → P n
  each_among [] each n among = absurd cc
  each_among (x ∷ xs) each n among = by (x == n) refl among (each_among xs each.1 n)
    where
      by : (b : Bool) → (x == n) ≡ b → (b || is_among xs n) ≡ true → (is_among xs n ≡ true → P n) → P n
      by true same is rest = subst P (eqb-true x n same) each.0
      by false other is rest = rest is

  among_each : (xs : List ℕ) → ((n : ℕ) → is_among xs n ≡ true → P n) → Each P xs
  among_each [] every = tt
  among_each (x ∷ xs) every = (every x (ap (λ b. b || is_among xs x) (eq-eqb x x refl)), among_each xs (λ n among. every n (behind n among (x == n))))
    where
      behind : (n : ℕ) → is_among xs n ≡ true → (b : Bool) → (b || is_among xs n) ≡ true
      behind n among true = refl
      behind n among false = among

  live_some : (m : Snapshots) (n : ℕ) → IsLive m n → is_some (finite.get m n) ≡ true
  live_some m n live = by (finite.get m n) live
    where
      by : (o : Option LiveSnapshot) → IsSome o → is_some o ≡ true
      by (Some x) h = refl
      by None h = absurd cc

  some_live : (m : Snapshots) (n : ℕ) → is_some (finite.get m n) ≡ true → IsLive m n
  some_live m n is = by (finite.get m n) is
    where
      by : (o : Option LiveSnapshot) → is_some o ≡ true → IsSome o
      by (Some x) h = refl
      by None h = absurd cc

  pub each_live : (m : Snapshots) (numbers : List ℕ) → ((n : ℕ) → is_among numbers n ≡ is_some (finite.get m n)) → Each P numbers → (n : ℕ) → IsLive m n → P n
  each_live m numbers are each n live = each_among numbers each n (are n ∙ live_some m n live)

  pub live_each : (m : Snapshots) (numbers : List ℕ) → ((n : ℕ) → is_among numbers n ≡ is_some (finite.get m n)) → ((n : ℕ) → IsLive m n → P n) → Each P numbers
  live_each m numbers are every = among_each numbers (λ n among. every n (some_live m n (sym (are n) ∙ among)))

-- ---- keys of a set

module _ (P : List ℕ → Type 0) where
  pub each_locked : (keys : List (List ℕ)) → Each P keys → (key : List ℕ) → set.contains (names.set_of keys) key ≡ true → P key
  each_locked keys each key has = go keys each (sym (set.contains-from_list nat_list_cmp_total keys key) ∙ has)
    where
      go : (keys : List (List ℕ)) → Each P keys → list_any (eq_by_cmp key_cmp key) keys ≡ true → P key
      go [] each has = absurd cc
      go (first ∷ others) each has = by (eq_by_cmp key_cmp key first) refl has (go others each.1)
        where
          by : (b : Bool) → eq_by_cmp key_cmp key first ≡ b → (b || list_any (eq_by_cmp key_cmp key) others) ≡ true → (list_any (eq_by_cmp key_cmp key) others ≡ true → P key) → P key
          by true same is rest = subst P (sym (names.same_key key first same)) each.0
          by false other is rest = rest is

  pub locked_each : (keys : List (List ℕ)) → ((key : List ℕ) → set.contains (names.set_of keys) key ≡ true → P key) → Each P keys
  locked_each keys every = go keys (λ key has. every key (set.contains-from_list nat_list_cmp_total keys key ∙ has))
    where
      go : (keys : List (List ℕ)) → ((key : List ℕ) → list_any (eq_by_cmp key_cmp key) keys ≡ true → P key) → Each P keys
      go [] every = tt
      go (first ∷ others) every = (every first (ap (λ b. b || list_any (eq_by_cmp key_cmp first) others) (is_eq-slice_cmp first first ∙ key_itself first)), go others (λ key has. every key (behind key others has (eq_by_cmp key_cmp key first))))
        where
          behind : (key : List ℕ) (others : List (List ℕ)) → list_any (eq_by_cmp key_cmp key) others ≡ true → (b : Bool) → (b || list_any (eq_by_cmp key_cmp key) others) ≡ true
          behind key others has true = refl
          behind key others has false = has
