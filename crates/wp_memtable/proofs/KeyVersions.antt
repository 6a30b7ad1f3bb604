-- The versions of one key, the newest first.
use Rattle.std.proofs.Common.{◌≡◌, ℕ, zero, suc, ◌+◌, ◌-◌, ◌<◌, ◌≤◌, Bool, true, false, cond, not, ◌||◌, ◌==◌, Less, List, [], ◌∷◌, length, get_or, take, nat_lt, nat_eq, filter, Option, Some, None, is_some, IsSome, IfSome, Bor, Result, Ok, Err, OnErr, IsOk, inl, inr, refl, sym, ap, ◌∙◌, subst, arith}
use Rattle.std.specs.Prelude.{insert, remove}
use Rattle.std.specs.List.{AllByRecursion, prefix_len}
use Rattle.std.specs.List.Sorted.{IsStrictlySortedBy}
use Rattle.std.specs.Map.{lookup, keys_of}
use Rattle.std.specs.Cmp.{nat_eq_equiv}
use Rattle.std.proofs.lemmas.Bool.{cases_eq, cases_order, ltb-true, ltb-false, lt-ltb, le-ltb, eq-eqb, eqb-true, ne_eqb, false≢true}
use Rattle.std.proofs.lemmas.Map.{NonePasses, lookup-none, lookup-insert}
use Rattle.std.proofs.lemmas.Map.Entries.{lookup-filter-keys}
use Rattle.std.proofs.lemmas.List.Kept.{IsStrictlySortedBy-filter}
use Rattle.std.proofs.lemmas.Cmp.{ranked}
use Rattle.wp_memtable.specs.KeyVersions.{Numbered, newest_cmp, AreNewestFirst}

pub newest_none : AreNewestFirst []
unfolding IsStrictlySortedBy
newest_none = tt

-- the numbers after the first are smaller
abbrev AreBelow : ℕ → Numbered → Type 0
AreBelow x es = AllByRecursion (λ y. newest_cmp x y ≡ Less) (keys_of es)

newest_parts : (e : ℕ × Option (List ℕ)) (es : Numbered) → AreNewestFirst (e ∷ es) → AreBelow e.0 es × AreNewestFirst es
unfolding IsStrictlySortedBy
newest_parts e es h = h

newest_cons : (e : ℕ × Option (List ℕ)) (es : Numbered) → AreBelow e.0 es → AreNewestFirst es → AreNewestFirst (e ∷ es)
unfolding IsStrictlySortedBy
newest_cons e es below h = (below, h)

pub newest_one : (n : ℕ) → IsStrictlySortedBy newest_cmp (n ∷ [])
newest_one n = newest_cons (n, None) [] tt newest_none

cond_map : (b : Bool) (x : ℕ × Option (List ℕ)) (xs : Numbered) → cond b (x.0 ∷ keys_of xs) (keys_of xs) ≡ keys_of (cond b (x ∷ xs) xs)
cond_map true x xs = refl
cond_map false x xs = refl

keys-filter : (p : ℕ → Bool) (es : Numbered) → filter p (keys_of es) ≡ keys_of (filter (λ e. p e.0) es)
keys-filter p [] = refl
keys-filter p (e ∷ es) = ap (λ (ks : List ℕ). cond (p e.0) (e.0 ∷ ks) ks) (keys-filter p es) ∙ cond_map (p e.0) e (filter (λ x. p x.0) es)

-- those whose numbers pass a test are in order
newest-filter : (p : ℕ → Bool) (es ns : Numbered) → AreNewestFirst es → ns ≡ filter (λ e. p e.0) es → AreNewestFirst ns
newest-filter p es ns h is = subst AreNewestFirst (sym is) (subst (IsStrictlySortedBy newest_cmp) (keys-filter p es) (IsStrictlySortedBy-filter newest_cmp p (keys_of es) h))

module _ (n : ℕ) where
  abbrev pub newer : ℕ × Option (List ℕ) → Bool
  newer e = nat_lt n e.0

  abbrev pub other : ℕ × Option (List ℕ) → Bool
  other e = not (e.0 == n)

  -- where all are smaller than a number up to n, n is none of them
  all_other : (x : ℕ) (es : Numbered) → x ≤ n → AreBelow x es → filter other es ≡ es
  all_other x [] low below = refl
  all_other x (e ∷ es) low below =
      let smaller : e.0 < x = ranked e.0 x Less (sym below.0) in
      rw (ne_eqb e.0 n (λ same. omega arith)) (ap (λ (ys : Numbered). e ∷ ys) (all_other x es low below.1))

  removed_cons : (e d : ℕ × Option (List ℕ)) (es : Numbered) → AreBelow e.0 es → (prefix_len newer es < length es → (get_or es (prefix_len newer es) d).0 ≡ n → remove es (prefix_len newer es) ≡ filter other es) → (b : Bool) → newer e ≡ b → cond b (1 + prefix_len newer es) 0 < suc (length es) → (get_or (e ∷ es) (cond b (1 + prefix_len newer es) 0) d).0 ≡ n → remove (e ∷ es) (cond b (1 + prefix_len newer es) 0) ≡ filter other (e ∷ es)
  removed_cons e d es below rest true is within same =
      let later : n < e.0 = ltb-true n e.0 is in
      let one : 1 + prefix_len newer es ≡ suc (prefix_len newer es) = omega arith in
      rw (ne_eqb e.0 n (λ s. omega arith), one) (ap (λ (ys : Numbered). e ∷ ys) (rest (omega arith) (ap (λ i. (get_or (e ∷ es) i d).0) (sym one) ∙ same)))
  removed_cons e d es below rest false is within same = rw (eq-eqb e.0 n same) (sym (all_other e.0 es (omega (arith, same)) below))

  pub removed_at : (es : Numbered) (d : ℕ × Option (List ℕ)) → AreNewestFirst es → prefix_len newer es < length es → (get_or es (prefix_len newer es) d).0 ≡ n → remove es (prefix_len newer es) ≡ filter other es
  removed_at [] d h within same = absurd (omega arith)
  removed_at (e ∷ es) d h within same =
      let parts = newest_parts e es h in
      removed_cons e d es parts.0 (removed_at es d parts.1) (newer e) refl within same

  kept_cons : (e d : ℕ × Option (List ℕ)) (es : Numbered) → AreBelow e.0 es → ((prefix_len newer es < length es → (get_or es (prefix_len newer es) d).0 ≡ n → ⊥) → filter other es ≡ es) → (b : Bool) → newer e ≡ b → (cond b (1 + prefix_len newer es) 0 < suc (length es) → (get_or (e ∷ es) (cond b (1 + prefix_len newer es) 0) d).0 ≡ n → ⊥) → filter other (e ∷ es) ≡ e ∷ es
  kept_cons e d es below rest true is apart =
      let later : n < e.0 = ltb-true n e.0 is in
      let one : 1 + prefix_len newer es ≡ suc (prefix_len newer es) = omega arith in
      rw (ne_eqb e.0 n (λ s. omega arith)) (ap (λ (ys : Numbered). e ∷ ys) (rest (λ within same. apart (omega arith) (ap (λ i. (get_or (e ∷ es) i d).0) one ∙ same))))
  kept_cons e d es below rest false is apart = rw (ne_eqb e.0 n (λ same. apart (omega arith) same)) (ap (λ (ys : Numbered). e ∷ ys) (all_other e.0 es (ltb-false n e.0 is) below))

  kept_all : (es : Numbered) (d : ℕ × Option (List ℕ)) → AreNewestFirst es → (prefix_len newer es < length es → (get_or es (prefix_len newer es) d).0 ≡ n → ⊥) → filter other es ≡ es
  kept_all [] d h apart = refl
  kept_all (e ∷ es) d h apart =
      let parts = newest_parts e es h in
      kept_cons e d es parts.0 (kept_all es d parts.1) (newer e) refl apart

  -- what `remove` and `get` of a queue say, as the filter
  pub removed_by : (es ns : Numbered) (i : ℕ) (e : ℕ × Option (List ℕ)) → AreNewestFirst es → i ≡ prefix_len newer es → i < length es → e ≡ get_or es i e → e.0 ≡ n → ns ≡ remove es i → ns ≡ filter other es
  removed_by es ns i e h place within is same removed =
      removed ∙ ap (remove es) place ∙ removed_at es e h (omega (arith, place)) (ap (λ j. (get_or es j e).0) (sym place) ∙ ap (λ (x : ℕ × Option (List ℕ)). x.0) (sym is) ∙ same)

  -- what `get` says where it found another number, or none
  pub changes_in : (es : Numbered) (i : ℕ) (r : Option (Bor (ℕ × Option (List ℕ)))) → AreNewestFirst es → i ≡ prefix_len newer es → (i < length es → IsSome r) → IfSome r (λ x. x.now ≡ get_or es i x.now) → IfSome r (λ x. x.now.0 ≡ n → ⊥) → es ≡ filter other es
  changes_in es i None h place some is apart = sym (kept_all es (n, None) h (λ within same. absurd (false≢true (some (omega (arith, place))))))
  changes_in es i (Some x) h place some is apart = sym (kept_all es x.now h (λ within same. apart (ap (λ (y : ℕ × Option (List ℕ)). y.0) is ∙ ap (λ j. (get_or es j x.now).0) place ∙ same)))

  pub newest-removed : (es ns : Numbered) → AreNewestFirst es → ns ≡ filter other es → AreNewestFirst ns
  newest-removed = newest-filter (λ k. not (k == n))

  -- ---- the newer ones stay

  none_newer : (x : ℕ) (es : Numbered) → x ≤ n → AreBelow x es → filter newer es ≡ []
  none_newer x [] low below = refl
  none_newer x (e ∷ es) low below =
      let smaller : e.0 < x = ranked e.0 x Less (sym below.0) in
      rw (le-ltb n e.0 (omega arith)) (none_newer x es low below.1)

  pub kept_newer : (es : Numbered) → AreNewestFirst es → take (prefix_len newer es) es ≡ filter newer es
  kept_newer [] h = refl
  kept_newer (e ∷ es) h = by (newer e) refl (kept_newer es (newest_parts e es h).1)
    where
      by : (b : Bool) → newer e ≡ b → take (prefix_len newer es) es ≡ filter newer es → take (cond b (1 + prefix_len newer es) 0) (e ∷ es) ≡ cond b (e ∷ filter newer es) (filter newer es)
      by true is rest =
          let one : 1 + prefix_len newer es ≡ suc (prefix_len newer es) = omega arith in
          rw one (ap (λ (ys : Numbered). e ∷ ys) rest)
      by false is rest = sym (none_newer e.0 es (ltb-false n e.0 is) (newest_parts e es h).0)

  pub newest-newer : (es ns : Numbered) → AreNewestFirst es → ns ≡ filter newer es → AreNewestFirst ns
  newest-newer = newest-filter (nat_lt n)

  pub newest-older : (es ns : Numbered) → AreNewestFirst es → ns ≡ filter (λ e. nat_lt e.0 n) es → AreNewestFirst ns
  newest-older = newest-filter (λ k. nat_lt k n)

  -- after n was taken out none has it
  pub none_is : (es : Numbered) → NonePasses (nat_eq n) (filter other es)
  none_is [] = tt
  none_is (e ∷ es) =
      elim (cases_eq n e.0) [
        | inl same ↦ rw (eq-eqb e.0 n (sym same)) (none_is es)
        | inr apart ↦ rw (ne_eqb e.0 n (λ same. apart (sym same))) (ne_eqb n e.0 apart, none_is es)
      ]

  below_more : (x y : ℕ) (es : Numbered) → y < x → AreBelow y es → AreBelow x es
  below_more x y [] less below = tt
  below_more x y (e ∷ es) less below =
      let smaller : e.0 < y = ranked e.0 y Less (sym below.0) in
      (rw (lt-ltb e.0 x (omega arith)) refl, below_more x y es less below.1)

  below_put : (x : ℕ) (v : Option (List ℕ)) (es : Numbered) → n < x → AreBelow x es → AreBelow x (insert es (prefix_len newer es) (n, v))
  below_put x v [] low below = (rw (lt-ltb n x low) refl, tt)
  below_put x v (e ∷ es) low below = by (newer e) (below_put x v es low below.1)
    where
      by : (b : Bool) → AreBelow x (insert es (prefix_len newer es) (n, v)) → AreBelow x (insert (e ∷ es) (cond b (1 + prefix_len newer es) 0) (n, v))
      by true rest =
          let one : 1 + prefix_len newer es ≡ suc (prefix_len newer es) = omega arith in
          rw one (below.0, rest)
      by false rest = (rw (lt-ltb n x low) refl, below)

  newest_put_cons : (v : Option (List ℕ)) (e : ℕ × Option (List ℕ)) (es : Numbered) → AreNewestFirst (e ∷ es) → nat_eq n e.0 ≡ false → AreNewestFirst (insert es (prefix_len newer es) (n, v)) → (b : Bool) → newer e ≡ b → AreNewestFirst (insert (e ∷ es) (cond b (1 + prefix_len newer es) 0) (n, v))
  newest_put_cons v e es h apart rest true is =
      let one : 1 + prefix_len newer es ≡ suc (prefix_len newer es) = omega arith in
      let parts = newest_parts e es h in
      rw one (newest_cons e _ (below_put e.0 v es (ltb-true n e.0 is) parts.0) rest)
  newest_put_cons v e es h apart rest false is = newest_cons (n, v) (e ∷ es) (below_n (ltb-false n e.0 is)) h
    where
      below_n : e.0 ≤ n → AreBelow n (e ∷ es)
      below_n low =
          elim (cases_order e.0 n) [
            | inl same ↦ absurd (false≢true (sym apart ∙ eq-eqb n e.0 (sym same)))
            | inr (inl less) ↦ (rw (lt-ltb e.0 n less) refl, below_more n e.0 es less (newest_parts e es h).0)
            | inr (inr more) ↦ absurd (omega arith)
          ]

  -- with n put in its place they are in order again
  pub newest-put : (v : Option (List ℕ)) (es : Numbered) → AreNewestFirst es → NonePasses (nat_eq n) es → AreNewestFirst (insert es (prefix_len newer es) (n, v))
  newest-put v [] h none = newest_cons (n, v) [] below_none newest_none
    where
      below_none : AreBelow n []
      below_none = tt
  newest-put v (e ∷ es) h none = newest_put_cons v e es h none.0 (newest-put v es (newest_parts e es h).1 none.1) (newer e) refl

  -- what is under each number then
  pub lookup-put : (v : Option (List ℕ)) (es : Numbered) (i m : ℕ) → lookup (nat_eq m) (insert (filter other es) i (n, v)) ≡ cond (n == m) (Some v) (lookup (nat_eq m) es)
  lookup-put v es i m =
      lookup-insert nat_eq_equiv n v m (filter other es) i (none_is es)
      ∙ elim (cases_eq n m) [
        | inl same ↦ rw (eq-eqb n m same) refl
        | inr apart ↦
            let found = lookup-filter-keys (nat_eq m) (λ k. not (k == n)) true (λ k is. ap not (ne_eqb k n (λ e. apart (sym e ∙ sym (eqb-true m k is))))) es in
            rw (ne_eqb n m apart) found
      ]

  -- n is found where it is, and nowhere where taking it out changes nothing
  pub found_at : (es : Numbered) (i : ℕ) (e : ℕ × Option (List ℕ)) → i < length es → e ≡ get_or es i e → e.0 ≡ n → is_some (lookup (nat_eq n) es) ≡ true
  found_at [] i e within is same = absurd (omega arith)
  found_at (x ∷ es) zero e within is same = rw (eq-eqb n x.0 (sym same ∙ ap (λ (y : ℕ × Option (List ℕ)). y.0) is)) refl
  found_at (x ∷ es) (suc i) e within is same =
      elim (cases_eq n x.0) [
        | inl here ↦ rw (eq-eqb n x.0 here) refl
        | inr apart ↦ rw (ne_eqb n x.0 apart) (found_at es i e (omega arith) is same)
      ]

  pub found_nowhere : (es : Numbered) → es ≡ filter other es → is_some (lookup (nat_eq n) es) ≡ false
  found_nowhere es is = ap is_some (lookup-none (nat_eq n) es (subst (NonePasses (nat_eq n)) (sym is) (none_is es)))

  -- with n taken out, or with room, there is room
  pub room_left : (had : Bool) (found : Bool) (old new : ℕ) → had ≡ found → (found || nat_lt 0 old) ≡ true → old + cond had 1 0 ≤ new → 0 < new
  room_left true found old new is place room = omega arith
  room_left false true old new is place room = absurd (false≢true is)
  room_left false false old new is place room = omega (arith, ltb-true 0 old place)

-- with room an insert succeeds
pub ok_from_room : {T E : Type 0} (r : Result T E) (capacity len : ℕ) → OnErr r (capacity ≤ len) → 0 < capacity - len → IsOk r
ok_from_room (Ok v) capacity len full room = refl
ok_from_room (Err e) capacity len full room = absurd (omega arith)
