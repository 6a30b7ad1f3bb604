-- How the last changes of keys go on with the entries, and what they tell of a change above a number.
use Rattle.std.proofs.Common.{◌≡◌, ℕ, zero, suc, ◌+◌, ◌-◌, ◌<◌, ◌≤◌, ◌⊎◌, Bool, true, false, true≢false, cond, List, [], ◌∷◌, ◌++◌, length, Option, Some, None, refl, sym, ap, ◌∙◌, subst, inl, inr, arith}
use Rattle.std.specs.List.{filter, range_with_len, last_or}
use Rattle.std.specs.Option.{IfSome}
use Rattle.std.specs.Result.{IfOk, is_err}
use Rattle.std.specs.declared.result.Result.{Result}
use Rattle.std.specs.declared.result.Result.TheVariants.{Ok, Err}
use Rattle.std.proofs.lemmas.Bool.{cases_eq}
use Rattle.std.proofs.lemmas.Option.{same_Some}
use Rattle.wp_model.specs.declared.change.Change.{Change}
use Rattle.wp_model.specs.declared.entry.Entry.{Entry}
use Rattle.wp_model.specs.Changed.{changes_key, conflict}
use Rattle.wp_model.specs.History.{changes_of, is_changed}
use Rattle.wp_model.specs.Legal.{IsLegal, IsLegalNext}
use Rattle.wp_model.proofs.Tests.{some_none}
use Rattle.wp_history_laws.proofs.Growth.{legal_naming, length_next}
use Rattle.wp_history_laws.proofs.Unchanged.{changes_key_next, changes_key_old, unchanged_at_end, unchanged_by_each}
use Rattle.wp_history.specs.declared.last_changes.LastChanges.{LastChanges}
use Rattle.wp_history.specs.History.{RoomyHistory, IsStore}
use Rattle.wp_history.specs.Holders.{Marks, marked}
use Rattle.wp_history.specs.LastChanges.{AreLastChanges}
use Rattle.wp_history.proofs.Conflict.{last_passes}
use Rattle.wp_history.proofs.Holding.{as_values, marked_is}

-- ---- one number more

-- the last that passes, with one more number behind
last_more : (p q : ℕ → Bool) (a n j : ℕ) → a + n ≡ j → ((k : ℕ) → a ≤ k → k < a + n → p k ≡ q k) → (o : Option ℕ) → last_or o (filter p (range_with_len a (suc n))) ≡ cond (p j) (Some j) (last_or o (filter q (range_with_len a n)))
last_more p q a zero j at same o = by (p a) refl
  where
    here : a ≡ j
    here = omega (arith, at)

    by : (b : Bool) → p a ≡ b → last_or o (cond b (a ∷ []) []) ≡ cond (p j) (Some j) o
    by true is = ap (λ (m : ℕ). Some m) here ∙ sym (ap (λ (b : Bool). cond b (Some j) o) (ap p (sym here) ∙ is))
    by false is = sym (ap (λ (b : Bool). cond b (Some j) o) (ap p (sym here) ∙ is))
last_more p q a (suc n) j at same o = by (p a) refl (same a (omega arith) (omega arith)) (last_more p q (a + 1) n j (omega (arith, at)) (λ k low high. same k (omega (arith, low)) (omega (arith, high))))
  where
    by : (b : Bool) → p a ≡ b → p a ≡ q a → ((e : Option ℕ) → last_or e (filter p (range_with_len (a + 1) (suc n))) ≡ cond (p j) (Some j) (last_or e (filter q (range_with_len (a + 1) n)))) → last_or o (cond b (a ∷ filter p (range_with_len (a + 1) (suc n))) (filter p (range_with_len (a + 1) (suc n)))) ≡ cond (p j) (Some j) (last_or o (cond (q a) (a ∷ filter q (range_with_len (a + 1) n)) (filter q (range_with_len (a + 1) n))))
    by true is also rest = rest (Some a) ∙ sym (ap (λ (b : Bool). cond (p j) (Some j) (last_or o (cond b (a ∷ filter q (range_with_len (a + 1) n)) (filter q (range_with_len (a + 1) n))))) (sym also ∙ is))
    by false is also rest = rest o ∙ sym (ap (λ (b : Bool). cond (p j) (Some j) (last_or o (cond b (a ∷ filter q (range_with_len (a + 1) n)) (filter q (range_with_len (a + 1) n))))) (sym also ∙ is))

module _ (history : List Entry) (entry : Entry) (legal : IsLegal history) (after : IsLegalNext history entry) where
  -- the entry is the last that changes the key, or the last is still the last
  conflict_next : (key : List ℕ) (n : ℕ) → n ≤ length history → conflict (history ++ entry ∷ []) key n ≡ cond (is_changed (changes_of history entry) key) (Some (length history + 1)) (conflict history key n)
  conflict_next key n le =
      let l = length_next history entry in
      let more : length (history ++ entry ∷ []) - n ≡ suc (length history - n) = omega (arith, l, le) in
      ap (λ (k : ℕ). last_or None (filter (changes_key (history ++ entry ∷ []) key) (range_with_len (suc n) k))) more
      ∙ last_more (changes_key (history ++ entry ∷ []) key) (changes_key history key) (suc n) (length history - n) (length history + 1) (omega (arith, le)) (λ k low high. changes_key_old history (entry ∷ []) key k (legal_naming history legal.each) (omega (arith, high, le))) None
      ∙ ap (λ (b : Bool). cond b (Some (length history + 1)) (conflict history key n)) (changes_key_next history entry legal after key)

pub was_put : {E P : Type 0} (r : Result (Unit {0}) E) → is_err r ≡ false → IfOk r (λ done. P) → P
was_put (Ok done) ok p = p
was_put (Err error) ok p = absurd (true≢false ok)

pub changes_behind : (old new : RoomyHistory) (before behind : LastChanges) (entry : Entry) → new.base ≡ old.base → new.entries ≡ old.entries ++ entry ∷ [] → IsLegal old.entries → IsLegalNext old.entries entry → AreLastChanges old before → behind.from ≡ before.from → Marks (Some (length old.entries + 1)) (changes_of old.entries entry) before.last behind.last → AreLastChanges new behind
changes_behind old new before behind entry base are legal after had from marks =
    let l = length_next old.entries entry in
    let long : length new.entries ≡ length (old.entries ++ entry ∷ []) = ap length are in
    let above = had.above in
    let within = had.within in
    record {
      above = omega (arith, above, base, from);
      within = omega (arith, within, l, long, from);
      each = as_values (marked (Some (length old.entries + 1)) (changes_of old.entries entry) (λ key. conflict old.entries key before.from)) (λ key. conflict new.entries key behind.from) behind.last
          (λ key.
          marked_is (Some (length old.entries + 1)) (changes_of old.entries entry) (λ key. conflict old.entries key before.from) key
          ∙ sym (conflict_next old.entries entry legal after key before.from within)
          ∙ ap (λ (es : List Entry). conflict es key before.from) (sym are)
          ∙ ap (conflict new.entries key) (sym from))
          (marks (λ key. conflict old.entries key before.from) had.each);
    }

pub changes_pushed : (old new : RoomyHistory) (before behind : Option LastChanges) (entry : Entry) (changes : List Change) (number : ℕ) → new.base ≡ old.base → new.entries ≡ old.entries ++ entry ∷ [] → IsLegal old.entries → IsLegalNext old.entries entry → IfSome before (AreLastChanges old) → IfSome behind (λ b. (a : LastChanges) × (before ≡ Some a) × (b.from ≡ a.from) × Marks (Some number) changes a.last b.last) → changes ≡ changes_of old.entries entry → number ≡ length old.entries + 1 → IfSome behind (AreLastChanges new)
changes_pushed old new before None entry changes number base are legal after had next by is = tt
changes_pushed old new before (Some b) entry changes number base are legal after had (a, was, from, marks) by is =
    changes_behind old new a b entry base are legal after (subst (λ (o : Option LastChanges). IfSome o (AreLastChanges old)) was had) from
    (subst (λ (n : ℕ). Marks (Some n) (changes_of old.entries entry) a.last b.last) is (subst (λ (cs : List Change). Marks (Some number) cs a.last b.last) by marks))

pub changes_same : (old new : RoomyHistory) (changes : Option LastChanges) → new.base ≡ old.base → new.entries ≡ old.entries → IfSome changes (AreLastChanges old) → IfSome changes (AreLastChanges new)
changes_same old new None base are had = tt
changes_same old new (Some changes) base are had =
    let l : length new.entries ≡ length old.entries = ap length are in
    let above = had.above in
    let within = had.within in
    record {
      above = omega (arith, above, base);
      within = omega (arith, within, l);
      each = as_values (λ key. conflict old.entries key changes.from) (λ key. conflict new.entries key changes.from) changes.last (λ key. ap (λ (es : List Entry). conflict es key changes.from) (sym are)) had.each;
    }

-- ---- what is asked

-- the last that passes, and where it stands
record IsLast (p : ℕ → Bool) (a n k : ℕ) : Type 0 where
  low : a ≤ k
  high : k < a + n
  passes : p k ≡ true
  above : (j : ℕ) → k < j → j < a + n → p j ≡ false

last_is : (p : ℕ → Bool) (a n : ℕ) (o : Option ℕ) (k : ℕ) → last_or o (filter p (range_with_len a n)) ≡ Some k → IsLast p a n k ⊎ ((o ≡ Some k) × ((j : ℕ) → a ≤ j → j < a + n → p j ≡ false))
last_is p a zero o k e = inr (e, λ j low high. absurd (omega arith))
last_is p a (suc n) o k e = by (p a) refl e (λ other. last_is p (a + 1) n other k)
  where
    up : IsLast p (a + 1) n k → IsLast p a (suc n) k
    up found = let low = found.low in let high = found.high in record { low = omega (arith, low); high = omega (arith, high); passes = found.passes; above = λ j more within. found.above j more (omega (arith, within)) }

    by : (b : Bool) → p a ≡ b → last_or o (cond b (a ∷ filter p (range_with_len (a + 1) n)) (filter p (range_with_len (a + 1) n))) ≡ Some k → ((other : Option ℕ) → last_or other (filter p (range_with_len (a + 1) n)) ≡ Some k → IsLast p (a + 1) n k ⊎ ((other ≡ Some k) × ((j : ℕ) → a + 1 ≤ j → j < a + 1 + n → p j ≡ false))) → IsLast p a (suc n) k ⊎ ((o ≡ Some k) × ((j : ℕ) → a ≤ j → j < a + suc n → p j ≡ false))
    by true is e rest = elim (rest (Some a) e) [
      | inl found ↦ inl (up found)
      | inr none ↦
          let here : a ≡ k = same_Some a k none.0 in
          inl (record { low = omega (arith, here); high = omega (arith, here); passes = ap p (sym here) ∙ is; above = λ j more within. none.1 j (omega (arith, more, here)) (omega (arith, within)) })
    ]
    by false is e rest = elim (rest o e) [
      | inl found ↦ inl (up found)
      | inr none ↦ inr (
        none.0,
        λ j low high. elim (cases_eq a j) [
          | inl same ↦ ap p (sym same) ∙ is
          | inr other ↦ none.1 j (omega (arith, low, other)) (omega (arith, high))
        ],
      )
    ]

module _ (history : List Entry) (key : List ℕ) (from number : ℕ) (last : conflict history key from ≡ Some number) where
  stands : IsLast (changes_key history key) (suc from) (length history - from) number
  stands = elim (last_is (changes_key history key) (suc from) (length history - from) None number last) [
    | inl found ↦ found
    | inr none ↦ absurd (some_none number (sym none.0))
  ]

  pub is_last_above : (n : ℕ) → n < number → conflict history key n ≡ Some number
  is_last_above n low =
      let under = stands.low in
      let high = stands.high in
      last_passes (changes_key history key) (suc n) (length history - n) number (omega (arith, low)) (omega (arith, low, under, high)) stands.passes (λ j more within. stands.above j more (omega (arith, within, more, under, low))) None

  pub none_above : (n : ℕ) → number ≤ n → conflict history key n ≡ None
  none_above n le = let under = stands.low in unchanged_by_each history key n (λ m low high. stands.above m (omega (arith, low, le)) (omega (arith, low, high, le, under)))

pub changes_begun : (h : RoomyHistory) (changes : Option LastChanges) (begun : LastChanges) (end : ℕ) → h.base ≤ end → end ≡ length h.entries → IfSome changes (AreLastChanges h) → ((changes ≡ Some begun) ⊎ ((begun.from ≡ end) × IsStore (λ key. None) begun.last)) → AreLastChanges h begun
changes_begun h changes begun end base is had either = elim either [
  | inl same ↦ subst (λ (o : Option LastChanges). IfSome o (AreLastChanges h)) same had
  | inr new ↦
      let from = new.0 in
      record {
        above = omega (arith, base, from);
        within = omega (arith, is, from);
        each = as_values (λ key. None) (λ key. conflict h.entries key begun.from) begun.last (λ key. sym (unchanged_at_end h.entries key begun.from (omega (arith, is, from)))) new.1;
      }
]
