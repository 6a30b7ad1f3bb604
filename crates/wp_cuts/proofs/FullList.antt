-- The full list of a cut: what stands where, what it leaves at the base, and that the cut is its cut.
use Rattle.std.proofs.Common.{◌≡◌, ℕ, zero, suc, ◌+◌, ◌-◌, ◌<◌, ◌≤◌, Bool, true, false, ◌==◌, ◌&&◌, not, cond, List, [], ◌∷◌, ◌++◌, length, map, take, drop, Option, Some, None, refl, sym, ap, ◌∙◌, inl, inr, length-append, arith}
use Rattle.std.specs.Prelude.{is_some, unwrap_or, nat_le, slice_get}
use Rattle.std.specs.List.{AllByRecursion, filter, find, range_with_len}
use Rattle.std.proofs.lemmas.Bool.{cases_eq, and_parts, and_from, not-true, not_from_false, leb-true, le-leb, eqb-true, eq-eqb, ne_eqb}
use Rattle.std.proofs.lemmas.List.{take_at, drop_at}
use Rattle.wp_model.specs.declared.carried.Carried.{Carried}
use Rattle.wp_model.specs.declared.entry.Entry.{Entry}
use Rattle.wp_model.specs.declared.entry.Entry.TheVariants.{Prepare}
use Rattle.wp_model.specs.declared.version.Version.{Version}
use Rattle.wp_model.specs.Batch.{change_to}
use Rattle.wp_model.specs.History.{entry_at, is_prepare, prepared_name, prepared_batch, is_undecided, undecided, changes_of, newest, value_at}
use Rattle.wp_model.specs.Legal.{undone_last}
use Rattle.wp_model.specs.Versions.{AreInOrder, version_at}
use Rattle.wp_model.proofs.Entries.{entry_at_old, undecided_within}
use Rattle.wp_history_laws.specs.Growth.{AreAscending}
use Rattle.wp_history_laws.proofs.Growth.{AreNaming}
use Rattle.wp_cuts.specs.Cut.{Cut, carried_from, carried_of, IsCut, carried_at, is_carried, is_fixed, value_in, base_value, is_start, front_entry_of, front_entry, full_of}
use Rattle.wp_cuts.specs.LegalCut.{AreNumbered}
use Rattle.wp_cuts.proofs.Decided.{entry_at_behind}
use Rattle.wp_cuts.proofs.Rows.{rows, rows_long, rows_at, rows_take, rows_undecided, rows_undone, rows_naming, rows_newest}
use Rattle.wp_cuts.proofs.Versions.{changes_to, newest_passing, IsNewestPassing, NonePassing, found_none, found_some}

-- ---- carried prepares by their numbers

abbrev number_of : Carried → ℕ
number_of x = x.number

none_at : (xs : List Carried) (q : ℕ) → AllByRecursion (λ r. q < r) (map number_of xs) → find (λ x. x.number == q) xs ≡ None
none_at [] q above = refl
none_at (x ∷ xs) q above = rw (ne_eqb x.number q (λ e. let lt = above.0 in absurd (omega (arith, e, lt)))) (none_at xs q above.1)

lower : (ns : List ℕ) (p q : ℕ) → q ≤ p → AllByRecursion (λ r. p < r) ns → AllByRecursion (λ r. q < r) ns
lower [] p q le above = tt
lower (n ∷ ns) p q le above = let lt = above.0 in (omega (arith, lt), lower ns p q le above.1)

abbrev AreWithin : ℕ → ℕ → List Carried → Type 0
AreWithin a n xs = AllByRecursion (λ (x : Carried). (a ≤ x.number) × (x.number < a + n)) xs

raise : (xs : List Carried) (a n k : ℕ) → a ≤ k → AllByRecursion (λ r. k < r) (map number_of xs) → AreWithin a (suc n) xs → AreWithin (a + 1) n xs
raise [] a n k le above within = tt
raise (x ∷ xs) a n k le above within =
    let lt = above.0 in let top = within.0.1 in
    ((omega (arith, lt), omega (arith, top)), raise xs a n k le above.1 within.1)

filter_range : (p q : ℕ → Bool) (a n : ℕ) → ((k : ℕ) → a ≤ k → p k ≡ q k) → filter p (range_with_len a n) ≡ filter q (range_with_len a n)
filter_range p q a zero same = refl
filter_range p q a (suc n) same =
    let rest : filter p (range_with_len (a + 1) n) ≡ filter q (range_with_len (a + 1) n) = filter_range p q (a + 1) n (λ k le. same k (omega arith)) in
    rw (same a (omega arith), rest) refl

filter_within : (p q : ℕ → Bool) (a n : ℕ) → ((k : ℕ) → a ≤ k → k < a + n → p k ≡ q k) → filter p (range_with_len a n) ≡ filter q (range_with_len a n)
filter_within p q a zero same = refl
filter_within p q a (suc n) same =
    let rest : filter p (range_with_len (a + 1) n) ≡ filter q (range_with_len (a + 1) n) = filter_within p q (a + 1) n (λ k le lt. same k (omega arith) (omega arith)) in
    rw (same a (omega arith) (omega arith), rest) refl

filter_never : (ps : List ℕ) → filter (λ p. false) ps ≡ []
filter_never [] = refl
filter_never (p ∷ ps) = filter_never ps

abbrev has : List Carried → ℕ → Bool
has xs p = is_some (find (λ x. x.number == p) xs)

-- the numbers in a row at which a prepare is carried are those of the carried
numbers_in : (xs : List Carried) (a n : ℕ) → AreAscending (map number_of xs) → AreWithin a n xs → filter (has xs) (range_with_len a n) ≡ map number_of xs
numbers_in [] a n ascend within = filter_never (range_with_len a n)
numbers_in (x ∷ xs) a zero ascend within = let low = within.0.0 in let top = within.0.1 in absurd (omega (arith, low, top))
numbers_in (x ∷ xs) a (suc n) ascend within =
    let low = within.0.0 in
    elim (cases_eq x.number a) [
      | inl here ↦
          let first : has (x ∷ xs) a ≡ true = ap (λ (b : Bool). is_some (cond b (Some x) (find (λ y. y.number == a) xs))) (eq-eqb x.number a here) in
          let others : filter (has (x ∷ xs)) (range_with_len (a + 1) n) ≡ filter (has xs) (range_with_len (a + 1) n) =
          filter_range (has (x ∷ xs)) (has xs) (a + 1) n (λ k le. ap (λ (b : Bool). is_some (cond b (Some x) (find (λ y. y.number == k) xs))) (ne_eqb x.number k (λ e. absurd (omega (arith, e, here, le))))) in
          let rest = numbers_in xs (a + 1) n ascend.1 (raise xs a n x.number low ascend.0 within.1) in
          rw (first, others, rest) (ap (λ (m : ℕ). m ∷ map number_of xs) (sym here))
      | inr other ↦
          let above : a < x.number = omega (arith, other, low) in
          let first : has (x ∷ xs) a ≡ false = ap is_some (none_at (x ∷ xs) a (above, lower (map number_of xs) x.number a low ascend.0)) in
          let top = within.0.1 in
          let rest = numbers_in (x ∷ xs) (a + 1) n ascend ((omega (arith, above), omega (arith, top)), raise xs a n x.number low ascend.0 within.1) in
          rw (first, rest) refl
    ]

-- each of them is found by its number
lifted : (x : Carried) (xs zs : List Carried) → AllByRecursion (λ r. x.number < r) (map number_of zs) → AllByRecursion (λ (z : Carried). find (λ y. y.number == z.number) xs ≡ Some z) zs
    → AllByRecursion (λ (z : Carried). find (λ y. y.number == z.number) (x ∷ xs) ≡ Some z) zs
lifted x xs [] above found = tt
lifted x xs (z ∷ zs) above found =
    let lt = above.0 in
    (rw (ne_eqb x.number z.number (λ e. absurd (omega (arith, e, lt)))) found.0, lifted x xs zs above.1 found.1)

found_in : (xs : List Carried) → AreAscending (map number_of xs) → AllByRecursion (λ (x : Carried). find (λ y. y.number == x.number) xs ≡ Some x) xs
found_in [] ascend = tt
found_in (x ∷ xs) ascend = (rw (eq-eqb x.number x.number refl) refl, lifted x xs xs ascend.0 (found_in xs ascend.1))

-- a number at which a prepare is carried is not 0
low_in : (base : ℕ) (xs : List Carried) (p : ℕ) (x : Carried) → AllByRecursion (λ (y : Carried). (1 ≤ y.number) × (y.number ≤ base)) xs → find (λ y. y.number == p) xs ≡ Some x → 1 ≤ p
low_in base [] p x within e = absurd cc
low_in base (y ∷ ys) p x within e = by (y.number == p) refl e (low_in base ys p x within.1)
  where
    by : (b : Bool) → (y.number == p) ≡ b → cond b (Some y) (find (λ z. z.number == p) ys) ≡ Some x → (find (λ z. z.number == p) ys ≡ Some x → 1 ≤ p) → 1 ≤ p
    by true here is rest = let low = within.0.0 in let same = eqb-true y.number p here in omega (arith, low, same)
    by false other is rest = rest is

pub numbered_low : (c : Cut) (p : ℕ) (x : Carried) → AreNumbered c → carried_at c p ≡ Some x → 1 ≤ p
numbered_low c p x numbered found = low_in c.base c.carried p x numbered.within found

-- ---- fixed numbers

pub record Fixed (c : Cut) (p : ℕ) : Type 0 where
  pub low : 1 ≤ p
  pub within : p ≤ c.base
  pub other : is_carried c p ≡ false

pub fixed_parts : (c : Cut) (p : ℕ) → is_fixed c p ≡ true → Fixed c p
fixed_parts c p h =
    let parts = and_parts (nat_le 1 p) (nat_le p c.base && not (is_carried c p)) h in
    let more = and_parts (nat_le p c.base) (not (is_carried c p)) parts.1 in
    record { low = leb-true 1 p parts.0; within = leb-true p c.base more.0; other = not-true (is_carried c p) more.1 }

pub fixed_from : (c : Cut) (p : ℕ) → 1 ≤ p → p ≤ c.base → is_carried c p ≡ false → is_fixed c p ≡ true
fixed_from c p low within other =
    and_from (nat_le 1 p) (nat_le p c.base && not (is_carried c p)) (le-leb 1 p low)
    (and_from (nat_le p c.base) (not (is_carried c p)) (le-leb p c.base within) (not_from_false (is_carried c p) other))

-- ---- the front

module _ (c : Cut) (versions : List Version) where
  starts_by : (p : ℕ) (o : Option Carried) → is_start (front_entry_of versions p o) ≡ true
  starts_by p None = refl
  starts_by p (Some x) = refl

  pub starts : (p : ℕ) → is_start (front_entry c versions p) ≡ true
  starts p = starts_by p (carried_at c p)

  -- the first n of the numbers up to the base
  abbrev pub front : ℕ → List Entry
  front n = rows (front_entry c versions) starts n

  pub full_is : full_of c versions ≡ front c.base ++ c.entries
  unfolding full_of
  full_is = refl

  pub front_long : (n : ℕ) → length (front n) ≡ n
  front_long n = rows_long (front_entry c versions) starts n

  pub front_at : (n p : ℕ) → 1 ≤ p → p ≤ n → entry_at (front n) p ≡ Some (front_entry c versions p)
  front_at n p = rows_at (front_entry c versions) starts n p

  pub front_naming : (n : ℕ) → AreNaming (front n)
  front_naming n = rows_naming (front_entry c versions) starts n

  pub front_undone : (n : ℕ) → undone_last (front n) ≡ None
  front_undone n = rows_undone (front_entry c versions) starts n

  pub front_take : (n m : ℕ) → n ≤ m → take n (front m) ≡ front n
  front_take n m le = rows_take (front_entry c versions) starts n m le

  is_prepare_by : (p : ℕ) (o : Option Carried) → is_prepare (Some (front_entry_of versions p o)) ≡ is_some o
  is_prepare_by p None = refl
  is_prepare_by p (Some x) = refl

  -- just what is carried is undecided
  pub front_undecided : (n p : ℕ) → 1 ≤ p → p ≤ n → is_undecided (front n) p ≡ is_carried c p
  front_undecided n p low within = rows_undecided (front_entry c versions) starts n p ∙ ap is_prepare (front_at n p low within) ∙ is_prepare_by p (carried_at c p)

  -- an undecided one is carried, with its name and batch
  pub record IsCarriedIn (n p : ℕ) : Type 0 where
    pub of : Carried
    pub found : carried_at c p ≡ Some of
    pub there : entry_at (front n) p ≡ Some (Prepare of.name of.batch)
    pub within : p ≤ n

  pub carried_in : (n p : ℕ) → is_undecided (front n) p ≡ true → IsCarriedIn n p
  carried_in n p undecided_p = by (carried_at c p) refl
    where
      within : (1 ≤ p) × (p ≤ n)
      within = let both = undecided_within (front n) p undecided_p in (both.0, omega (arith, both.1, front_long n))

      by : (o : Option Carried) → carried_at c p ≡ o → IsCarriedIn n p
      by None e = let no : is_carried c p ≡ false = ap is_some e in let yes : is_carried c p ≡ true = sym (front_undecided n p within.0 within.1) ∙ undecided_p in absurd cc
      by (Some x) e = record {
        of = x;
        found = e;
        there = front_at n p within.0 within.1 ∙ ap (λ (o : Option Carried). Some (front_entry_of versions p o)) e;
        within = within.1;
      }

  pub carried_undecided : (n p : ℕ) (x : Carried) → 1 ≤ p → p ≤ n → carried_at c p ≡ Some x → is_undecided (front n) p ≡ true
  carried_undecided n p x low within found = front_undecided n p low within ∙ ap is_some found

  pub carried_entry : (n p : ℕ) (x : Carried) → 1 ≤ p → p ≤ n → carried_at c p ≡ Some x → entry_at (front n) p ≡ Some (Prepare x.name x.batch)
  carried_entry n p x low within found = front_at n p low within ∙ ap (λ (o : Option Carried). Some (front_entry_of versions p o)) found

  -- ---- the cut

  back_from : (xs : List Carried) → AllByRecursion (λ (x : Carried). carried_at c x.number ≡ Some x) xs → AllByRecursion (λ (x : Carried). (1 ≤ x.number) × (x.number ≤ c.base)) xs → map (carried_from (front c.base)) (map number_of xs) ≡ xs
  back_from [] found within = refl
  back_from (x ∷ xs) found within =
      let at : entry_at (front c.base) x.number ≡ Some (Prepare x.name x.batch) = carried_entry c.base x.number x within.0.0 within.0.1 found.0 in
      let it : carried_from (front c.base) x.number ≡ x = λ i. record { number = x.number; name = prepared_name (at i); batch = prepared_batch (at i) } in
      let rest = back_from xs found.1 within.1 in
      λ i. it i ∷ rest i

  module _ (numbered : AreNumbered c) where
    within_range : (xs : List Carried) → AllByRecursion (λ (x : Carried). (1 ≤ x.number) × (x.number ≤ c.base)) xs → AreWithin 1 c.base xs
    within_range [] all = tt
    within_range (x ∷ xs) all = let top = all.0.1 in ((all.0.0, omega (arith, top)), within_range xs all.1)

    pub front_numbers : undecided (front c.base) ≡ map number_of c.carried
    front_numbers =
        ap (λ (n : ℕ). filter (is_undecided (front c.base)) (range_with_len 1 n)) (front_long c.base)
        ∙ filter_within (is_undecided (front c.base)) (is_carried c) 1 c.base (λ k low top. front_undecided c.base k low (omega arith))
        ∙ numbers_in c.carried 1 c.base numbered.ascend (within_range c.carried numbered.within)

    front_carried : carried_of (front c.base) ≡ c.carried
    front_carried = ap (map (carried_from (front c.base))) front_numbers ∙ back_from c.carried (found_in c.carried numbered.ascend) numbered.within

    pub take_front : take c.base (full_of c versions) ≡ front c.base
    take_front = ap (take c.base) full_is ∙ take_at (front c.base) c.entries c.base (front_long c.base)

    drop_front : drop c.base (full_of c versions) ≡ c.entries
    drop_front = ap (drop c.base) full_is ∙ drop_at (front c.base) c.entries c.base (front_long c.base)

    pub full_is_cut : IsCut (full_of c versions) c
    full_is_cut =
        let carried : c.carried ≡ carried_of (take c.base (full_of c versions)) = sym front_carried ∙ ap carried_of (sym take_front) in
        let entries : c.entries ≡ drop c.base (full_of c versions) = sym drop_front in
        record {
          within = omega (arith, ap length full_is, length-append (front c.base) c.entries, front_long c.base);
          whole = ap undone_last take_front ∙ front_undone c.base;
          is = λ i. record { base = c.base; carried = carried i; entries = entries i };
        }

  -- ---- the values

  front_change : (key : List ℕ) (before : List Entry) (p : ℕ) (o : Option Carried) → change_to (changes_of before (front_entry_of versions p o)) key ≡ cond (is_some o) None (version_at versions key p)
  front_change key before p None = changes_to versions p key
  front_change key before p (Some x) = refl

  value_step : (key : List ℕ) (n : ℕ) → newest (front (suc n)) key ≡ unwrap_or (cond (is_carried c (suc n)) None (version_at versions key (suc n))) (newest (front n) key)
  value_step key n =
      rows_newest (front_entry c versions) starts n key
      ∙ ap (λ (change : Option (Option (List ℕ))). unwrap_or change (newest (front n) key)) (front_change key (front n) (suc n) (carried_at c (suc n)))

  quiet : (key : List ℕ) (n : ℕ) → suc n ≤ c.base → (is_fixed c (suc n) ≡ true → version_at versions key (suc n) ≡ None) → newest (front (suc n)) key ≡ newest (front n) key
  quiet key n within none = value_step key n ∙ by (is_carried c (suc n)) refl
    where
      by : (b : Bool) → is_carried c (suc n) ≡ b → unwrap_or (cond b None (version_at versions key (suc n))) (newest (front n) key) ≡ newest (front n) key
      by true e = refl
      by false e = rw (none (fixed_from c (suc n) (omega arith) within e)) refl

  value_none : (key : List ℕ) (n : ℕ) → n ≤ c.base → NonePassing (is_fixed c) key versions → newest (front n) key ≡ None
  value_none key zero le none = refl
  value_none key (suc n) le none = quiet key n le (none (suc n)) ∙ value_none key n (omega arith) none

  value_some : (key : List ℕ) (n number : ℕ) (value : Option (List ℕ)) → number ≤ n → n ≤ c.base → IsNewestPassing (is_fixed c) key versions number value → newest (front n) key ≡ value
  value_some key zero number value above le v = let s = fixed_parts c number v.passing in let low = s.low in absurd (omega (arith, low))
  value_some key (suc n) number value above le v = elim (cases_eq number (suc n)) [
    | inl here ↦
        let s = fixed_parts c number v.passing in
        let free : is_carried c (suc n) ≡ false = ap (is_carried c) (sym here) ∙ s.other in
        let there : version_at versions key (suc n) ≡ Some value = ap (version_at versions key) (sym here) ∙ v.there in
        value_step key n ∙ rw (free, there) refl
    | inr other ↦ quiet key n le (v.newest (suc n) (omega (arith, other))) ∙ value_some key n number value (omega (arith, other)) (omega arith) v
  ]

  pub front_value : (key : List ℕ) → AreInOrder versions → newest (front c.base) key ≡ base_value c versions key
  front_value key order = by (newest_passing (is_fixed c) key versions) refl
    where
      by : (o : Option Version) → newest_passing (is_fixed c) key versions ≡ o → newest (front c.base) key ≡ value_in o
      by None e = value_none key c.base (omega arith) (found_none (is_fixed c) key versions e)
      by (Some v) e =
          let it = found_some (is_fixed c) key versions v order e in
          let s = fixed_parts c v.number it.passing in
          value_some key c.base v.number v.value s.within (omega arith) it

  pub full_value : (key : List ℕ) → AreNumbered c → AreInOrder versions → value_at (full_of c versions) key c.base ≡ base_value c versions key
  full_value key numbered order = ap (λ (h : List Entry). newest h key) (take_front numbered) ∙ front_value key order

  -- what is known to be the newest fixed one, or that there is none, says what the base value is
  pub base_newest : (key : List ℕ) (number : ℕ) (value : Option (List ℕ)) → AreInOrder versions → IsNewestPassing (is_fixed c) key versions number value → base_value c versions key ≡ value
  base_newest key number value order v = sym (front_value key order) ∙ value_some key c.base number value (fixed_parts c number v.passing).within (omega arith) v

  pub base_none : (key : List ℕ) → AreInOrder versions → NonePassing (is_fixed c) key versions → base_value c versions key ≡ None
  base_none key order none = sym (front_value key order) ∙ value_none key c.base (omega arith) none

  -- ---- what is where in the whole

  pub full_long : length (full_of c versions) ≡ c.base + length c.entries
  full_long = omega (arith, ap length full_is, length-append (front c.base) c.entries, front_long c.base)

  pub full_carried : (p : ℕ) (x : Carried) → AreNumbered c → carried_at c p ≡ Some x → entry_at (full_of c versions) p ≡ Some (Prepare x.name x.batch)
  full_carried p x numbered found =
      let within = carried_within c.carried p x numbered.within found in
      ap (λ (h : List Entry). entry_at h p) full_is
      ∙ entry_at_old (front c.base) c.entries p (omega (arith, within.1, front_long c.base))
      ∙ carried_entry c.base p x within.0 within.1 found
    where
      carried_within : (xs : List Carried) (q : ℕ) (y : Carried) → AllByRecursion (λ (z : Carried). (1 ≤ z.number) × (z.number ≤ c.base)) xs → find (λ z. z.number == q) xs ≡ Some y → (1 ≤ q) × (q ≤ c.base)
      carried_within [] q y all e = absurd cc
      carried_within (z ∷ zs) q y all e = by (z.number == q) refl e (carried_within zs q y all.1)
        where
          by : (b : Bool) → (z.number == q) ≡ b → cond b (Some z) (find (λ u. u.number == q) zs) ≡ Some y → (find (λ u. u.number == q) zs ≡ Some y → (1 ≤ q) × (q ≤ c.base)) → (1 ≤ q) × (q ≤ c.base)
          by true here is rest = let low = all.0.0 in let top = all.0.1 in let same = eqb-true z.number q here in (omega (arith, low, same), omega (arith, top, same))
          by false other is rest = rest is

  pub full_undecided : AreNumbered c → undecided (take c.base (full_of c versions)) ≡ map number_of c.carried
  full_undecided numbered = ap undecided (take_front numbered) ∙ front_numbers numbered

  pub full_behind : (p : ℕ) → c.base < p → entry_at (full_of c versions) p ≡ slice_get c.entries (p - 1 - c.base)
  full_behind p above =
      ap (λ (h : List Entry). entry_at h p) full_is
      ∙ entry_at_behind (front c.base) c.entries p (omega (arith, above, front_long c.base))
      ∙ ap (λ (n : ℕ). slice_get c.entries (p - 1 - n)) (front_long c.base)
