-- The versions of prepares whose numbers ascend.
use Rattle.std.proofs.Common.{◌≡◌, ℕ, suc, ◌+◌, ◌<◌, ◌≤◌, Bool, true, false, true≢false, cond, ◌==◌, ◌&&◌, eq-eqb, ne_eqb, List, [], ◌∷◌, ◌++◌, get_or, length, map, take, drop, Option, None, Some, refl, sym, ap, subst, ◌∙◌, arith}
use Rattle.std.specs.Prelude.{is_none}
use Rattle.std.specs.List.{AllByRecursion, find}
use Rattle.std.specs.Option.{option_or}
use Rattle.std.specs.Str.{bytes_eq}
use Rattle.std.proofs.lemmas.Bool.{eqb-true}
use Rattle.std.proofs.lemmas.List.{take_all, take-append-drop, take_more}
use Rattle.std.proofs.Math.Seq.{drop-cons}
use Rattle.wp_model.specs.declared.carried.Carried.{Carried}
use Rattle.wp_model.specs.declared.change.Change.{Change}
use Rattle.wp_model.specs.declared.version.Version.{Version}
use Rattle.wp_model.specs.Batch.{key_of, value_of, change_to}
use Rattle.wp_model.specs.Flushed.{versions_under}
use Rattle.wp_model.specs.Versions.{AreInOrder, version_at}
use Rattle.wp_model.proofs.VersionLists.{in_order_nil}
use Rattle.wp_history_laws.specs.Growth.{AreAscending}
use Rattle.wp_cuts.specs.Kept.{carried_versions}
use Rattle.wp_memtable.specs.Memtable.{HasChanges}
use Rattle.wp_merge.specs.Merge.{sorted_of}
use Rattle.wp_merge.proofs.Sorted.{at_append, at_sorted, in_order_sorted, in_order_same}

abbrev Found : Type 0
Found = Option (Option (List ℕ))

abbrev pub number_of : Carried → ℕ
number_of x = x.number

pub or_none : (o : Found) → option_or o None ≡ o
or_none None = refl
or_none (Some value) = refl

-- ---- look-ups

none_either : (b : Bool) → let none : Found = None in none ≡ cond b none none
none_either true = refl
none_either false = refl

one_under : (a b : Bool) (v : Option (List ℕ)) (x : Found) → cond (a && b) (Some v) (cond b x None) ≡ cond b (cond a (Some v) x) None
one_under true true v x = refl
one_under true false v x = refl
one_under false true v x = refl
one_under false false v x = refl

at_under : (m : ℕ) (changes : List Change) (key : List ℕ) (p : ℕ) → version_at (versions_under m changes) key p ≡ cond (m == p) (change_to changes key) None
at_under m [] key p = none_either (m == p)
at_under m (c ∷ changes) key p = ap (cond (bytes_eq (key_of c) key && (m == p)) (Some (value_of c))) (at_under m changes key p) ∙ one_under (bytes_eq (key_of c) key) (m == p) (value_of c) (change_to changes key)

-- what the prepare with the number changes, if there is one
abbrev pub change_of : Option Carried → List ℕ → Found
change_of None key = None
change_of (Some x) key = change_to x.batch key

find_above : (n : ℕ) (xs : List Carried) → AllByRecursion (λ q. n < q) (map number_of xs) → find (λ x. x.number == n) xs ≡ None
find_above n [] above = refl
find_above n (x ∷ xs) above =
    let lt = above.0 in
    ap (λ (b : Bool). cond b (Some x) (find (λ y. y.number == n) xs)) (ne_eqb x.number n (λ same. absurd (omega (arith, lt, same)))) ∙ find_above n xs above.1

pub at_carried : (xs : List Carried) (key : List ℕ) (n : ℕ) → AreAscending (map number_of xs) → version_at (carried_versions xs) key n ≡ change_of (find (λ x. x.number == n) xs) key
at_carried [] key n ascend = refl
at_carried (x ∷ xs) key n ascend =
    at_append (versions_under x.number x.batch) (carried_versions xs) key n
    ∙ ap (λ (o : Found). option_or o (version_at (carried_versions xs) key n)) (at_under x.number x.batch key n)
    ∙ ap (option_or (cond (x.number == n) (change_to x.batch key) None)) (at_carried xs key n ascend.1)
    ∙ by (x.number == n) refl
  where
    by : (b : Bool) → (x.number == n) ≡ b → option_or (cond b (change_to x.batch key) None) (change_of (find (λ y. y.number == n) xs) key) ≡ change_of (cond b (Some x) (find (λ y. y.number == n) xs)) key
    by true here =
        let same : x.number ≡ n = eqb-true x.number n here in
        let none : find (λ y. y.number == n) xs ≡ None = ap (λ (m : ℕ). find (λ y. y.number == m) xs) (sym same) ∙ find_above x.number xs ascend.0 in
        ap (λ (o : Option Carried). option_or (change_to x.batch key) (change_of o key)) none ∙ or_none (change_to x.batch key)
    by false other = refl

-- ---- prepare after prepare

-- of these prepares the versions of the first so many are in memory
pub record AreTaken (xs : List Carried) (i : ℕ) (memory : List Version) : Type 0 where
  pub in_order : AreInOrder memory
  pub each : (key : List ℕ) (n : ℕ) → version_at memory key n ≡ change_of (find (λ x. x.number == n) (take i xs)) key

pub none_taken : (xs : List Carried) (memory : List Version) → memory ≡ [] → AreTaken xs 0 memory
none_taken xs memory none = record { in_order = rw none in_order_nil; each = λ key n. rw none refl }

-- before a prepare none has its number
find_before : (x : Carried) (before behind : List Carried) → AreAscending (map number_of (before ++ x ∷ behind)) → find (λ y. y.number == x.number) before ≡ None
find_before x [] behind ascend = refl
find_before x (y ∷ before) behind ascend =
    let lt : y.number < x.number = among before ascend.0 in
    ap (λ (b : Bool). cond b (Some y) (find (λ z. z.number == x.number) before)) (ne_eqb y.number x.number (λ same. absurd (omega (arith, lt, same)))) ∙ find_before x before behind ascend.1
  where
    among : (zs : List Carried) → AllByRecursion (λ q. y.number < q) (map number_of (zs ++ x ∷ behind)) → y.number < x.number
    among [] all = all.0
    among (z ∷ zs) all = among zs all.1

find_last : (x : Carried) (before : List Carried) (n : ℕ) → find (λ y. y.number == n) (before ++ x ∷ []) ≡ cond (is_none (find (λ y. y.number == n) before)) (cond (x.number == n) (Some x) None) (find (λ y. y.number == n) before)
find_last x [] n = refl
find_last x (y ∷ before) n = by (y.number == n) (find_last x before n)
  where
    by : (b : Bool) → find (λ z. z.number == n) (before ++ x ∷ []) ≡ cond (is_none (find (λ z. z.number == n) before)) (cond (x.number == n) (Some x) None) (find (λ z. z.number == n) before)
        → cond b (Some y) (find (λ z. z.number == n) (before ++ x ∷ [])) ≡ cond (is_none (cond b (Some y) (find (λ z. z.number == n) before))) (cond (x.number == n) (Some x) None) (cond b (Some y) (find (λ z. z.number == n) before))
    by true rest = refl
    by false rest = rest

as_it_was : (o : Option Carried) → cond (is_none o) None o ≡ o
as_it_was None = refl
as_it_was (Some y) = refl

module _ (xs : List Carried) (i : ℕ) (x : Carried) (old new : List Version) (ascend : AreAscending (map number_of xs)) (lt : i < length xs) (is : x ≡ get_or xs i x) (has : HasChanges x.number x.batch old new) (taken : AreTaken xs i old) where
  abbrev before : List Carried
  before = take i xs

  parts : xs ≡ before ++ x ∷ drop (suc i) xs
  parts = sym (take-append-drop i xs) ∙ ap (λ (l : List Carried). before ++ l) (drop-cons xs i x lt ∙ ap (λ (y : Carried). y ∷ drop (suc i) xs) (sym is))

  none_before : find (λ y. y.number == x.number) before ≡ None
  none_before = find_before x before (drop (suc i) xs) (subst (λ (l : List Carried). AreAscending (map number_of l)) parts ascend)

  longer : take (i + 1) xs ≡ before ++ x ∷ []
  longer = take_more xs i x lt ∙ ap (λ (y : Carried). before ++ y ∷ []) (sym is)

  now : (key : List ℕ) (n : ℕ) → version_at new key n ≡ change_of (find (λ y. y.number == n) (before ++ x ∷ [])) key
  now key n = by (n == x.number) refl
    where
      by : (b : Bool) → (n == x.number) ≡ b → version_at new key n ≡ change_of (find (λ y. y.number == n) (before ++ x ∷ [])) key
      by true e =
          let same : n ≡ x.number = eqb-true n x.number e in
          let none : find (λ y. y.number == n) before ≡ None = ap (λ (m : ℕ). find (λ y. y.number == m) before) same ∙ none_before in
          let gone : version_at old key n ≡ None = taken.each key n ∙ ap (λ (o : Option Carried). change_of o key) none in
          has.each key n
          ∙ ap (λ (b : Bool). cond b (option_or (change_to x.batch key) (version_at old key n)) (version_at old key n)) e
          ∙ ap (option_or (change_to x.batch key)) gone
          ∙ or_none (change_to x.batch key)
          ∙ sym (ap (λ (o : Option Carried). change_of o key)
          (find_last x before n
          ∙ ap (λ (o : Option Carried). cond (is_none o) (cond (x.number == n) (Some x) None) o) none
          ∙ ap (λ (b : Bool). cond b (Some x) None) (eq-eqb x.number n (sym same))))
      by false e =
          has.each key n
          ∙ ap (λ (b : Bool). cond b (option_or (change_to x.batch key) (version_at old key n)) (version_at old key n)) e
          ∙ taken.each key n
          ∙ sym (ap (λ (o : Option Carried). change_of o key)
          (find_last x before n
          ∙ ap (λ (b : Bool). cond (is_none (find (λ y. y.number == n) before)) (cond b (Some x) None) (find (λ y. y.number == n) before)) (ne_eqb x.number n (λ same. absurd (true≢false (sym (eq-eqb n x.number (sym same)) ∙ e))))
          ∙ as_it_was (find (λ y. y.number == n) before)))

  pub one_taken : AreTaken xs (i + 1) new
  one_taken = record {
    in_order = has.in_order;
    each = λ key n. now key n ∙ ap (λ (l : List Carried). change_of (find (λ y. y.number == n) l) key) (sym longer);
  }

pub all_taken : (xs : List Carried) (i : ℕ) (memory : List Version) → AreAscending (map number_of xs) → length xs ≤ i → AreTaken xs i memory → memory ≡ sorted_of (carried_versions xs)
all_taken xs i memory ascend past taken =
    in_order_same memory (sorted_of (carried_versions xs)) taken.in_order (in_order_sorted (carried_versions xs))
    (λ key n. taken.each key n
    ∙ ap (λ (l : List Carried). change_of (find (λ x. x.number == n) l) key) (take_all i xs past)
    ∙ sym (at_carried xs key n ascend)
    ∙ sym (at_sorted (carried_versions xs) key n))
