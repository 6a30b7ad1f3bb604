-- The history over tables: which versions are below what is carried, what the store had at the base, and what is wrong.
use Rattle.std.proofs.Common.{◌≡◌, ◌⊎◌, ℕ, ◌<◌, ◌==◌, Bool, true, false, true≢false, ◌&&◌, ◌||◌, not, cond, List, [], ◌∷◌, ◌++◌, length, map, Option, Some, refl, sym, ap, ◌∙◌, subst, inl, inr, append-nil, append_assoc, arith}
use Rattle.std.specs.Prelude.{nat_lt}
use Rattle.std.specs.BTreeMap.{BTreeMap, IsOrdered}
use Rattle.std.specs.List.{AllByRecursion, find, list_all}
use Rattle.std.specs.Str.{bytes_eq}
use Rattle.std.proofs.lemmas.Bool.{and_parts, and_from, eqb-true, eq-eqb, ne_eqb, lt-ltb, ltb-true}
use Rattle.std.proofs.lemmas.Option.{same_Some}
use Rattle.wp_model.specs.declared.carried.Carried.{Carried}
use Rattle.wp_model.specs.declared.entry.Entry.{Entry}
use Rattle.wp_model.specs.declared.version.Version.{Version}
use Rattle.wp_model.specs.Batch.{key_cmp}
use Rattle.wp_model.specs.History.{is_changed}
use Rattle.wp_model.specs.Versions.{AreInOrder, version_at}
use Rattle.wp_history_laws.specs.Growth.{AreAscending}
use Rattle.wp_cuts.specs.Cut.{Cut, base_value, carried_at, full_of, value_in}
use Rattle.wp_cuts.specs.Cut as cut
use Rattle.wp_cuts.specs.LegalCut.{AreBelow, AreNumbered}
use Rattle.wp_cuts.proofs.FullList.{front, full_is, full_is_cut, full_long, full_value, fixed_parts}
use Rattle.wp_cuts.proofs.Members.{IsIn, at_in, in_at, version}
use Rattle.wp_history.specs.History.{RoomyHistory, IsStore, HasBaseValues, Leaves}
use Rattle.wp_history.specs.Outline.{IsFirstWrong, RestoreUpTo, cut_in, full_with}
use Rattle.wp_history.proofs.Holding.{as_values, nothing_under}
use Rattle.wp_cover.specs.Sources.{is_fixed}
use Rattle.wp_refused.specs.declared.bad.Bad.{Bad}
use Rattle.wp_refused.specs.declared.bad.Bad.TheVariants as bad
use Rattle.wp_refused.specs.declared.error.OpenError.TheVariants as open_error
use Rattle.wp_refused.specs.Damage.{UndosRestore, IsWrongUndo, end_of, standing}
use Rattle.wp_contents.specs.Opens.{all_in, history_over}
use Rattle.wp_open.specs.Standing.{IsOverCause, fits, is_under}
use Rattle.wp_refused.specs.Tables.{IsHistoryCause}
use Rattle.wp_open.proofs.Base.{same_fixed}

-- ---- all of a list

all_at : (test : Version → Bool) (vs : List Version) (v : Version) → list_all test vs ≡ true → IsIn v vs → test v ≡ true
all_at test [] v all there = absurd there
all_at test (w ∷ ws) v all (inl is) = ap test (sym is) ∙ (and_parts (test w) (list_all test ws) all).0
all_at test (w ∷ ws) v all (inr there) = all_at test ws v (and_parts (test w) (list_all test ws) all).1 there

all_from : (test : Version → Bool) (vs : List Version) → ((v : Version) → IsIn v vs → test v ≡ true) → list_all test vs ≡ true
all_from test [] each = refl
all_from test (w ∷ ws) each = and_from (test w) (list_all test ws) (each w (inl refl)) (all_from test ws (λ v there. each v (inr there)))

abbrev number_of : Carried → ℕ
number_of x = x.number

carried_there : (test : Carried → Bool) (xs : List Carried) (p : ℕ) (x : Carried) → list_all test xs ≡ true → find (λ y. y.number == p) xs ≡ Some x → test x ≡ true
carried_there test [] p x all found = absurd cc
carried_there test (y ∷ ys) p x all found =
    let parts = and_parts (test y) (list_all test ys) all in
    by (carried_there test ys p x parts.1) parts.0 (y.number == p) found
  where
    by : (find (λ z. z.number == p) ys ≡ Some x → test x ≡ true) → test y ≡ true → (b : Bool) → cond b (Some y) (find (λ z. z.number == p) ys) ≡ Some x → test x ≡ true
    by behind first true e = ap test (sym (same_Some y x e)) ∙ first
    by behind first false e = behind e

found_number : (xs : List Carried) (p : ℕ) (x : Carried) → find (λ y. y.number == p) xs ≡ Some x → x.number ≡ p
found_number [] p x found = absurd cc
found_number (y ∷ ys) p x found = by (found_number ys p x) (y.number == p) refl found
  where
    by : (find (λ z. z.number == p) ys ≡ Some x → x.number ≡ p) → (b : Bool) → (y.number == p) ≡ b → cond b (Some y) (find (λ z. z.number == p) ys) ≡ Some x → x.number ≡ p
    by behind true is e = ap number_of (sym (same_Some y x e)) ∙ eqb-true y.number p is
    by behind false is e = behind e

found_above : (k : ℕ) (xs : List Carried) (p : ℕ) (x : Carried) → AllByRecursion (λ r. k < r) (map number_of xs) → find (λ y. y.number == p) xs ≡ Some x → k < p
found_above k [] p x above found = absurd cc
found_above k (y ∷ ys) p x above found = by (found_above k ys p x above.1) above.0 (y.number == p) refl found
  where
    by : (find (λ z. z.number == p) ys ≡ Some x → k < p) → k < y.number → (b : Bool) → (y.number == p) ≡ b → cond b (Some y) (find (λ z. z.number == p) ys) ≡ Some x → k < p
    by behind lt true is e = omega (arith, lt, eqb-true y.number p is)
    by behind lt false is e = behind e

all_carried : (test : Carried → Bool) (xs : List Carried) → AreAscending (map number_of xs) → ((p : ℕ) (x : Carried) → find (λ y. y.number == p) xs ≡ Some x → test x ≡ true) → list_all test xs ≡ true
all_carried test [] ascend each = refl
all_carried test (y ∷ ys) ascend each =
    and_from (test y) (list_all test ys)
    (each y.number y (ap (λ (b : Bool). cond b (Some y) (find (λ z. z.number == y.number) ys)) (eq-eqb y.number y.number refl)))
    (all_carried test ys ascend.1 (λ p x found. each p x (behind p x found)))
  where
    behind : (p : ℕ) (x : Carried) → find (λ z. z.number == p) ys ≡ Some x → find (λ z. z.number == p) (y ∷ ys) ≡ Some x
    behind p x found =
        let above = found_above y.number ys p x ascend.0 found in
        ap (λ (b : Bool). cond b (Some y) (find (λ z. z.number == p) ys)) (ne_eqb y.number p (λ e. absurd (omega (arith, e, above)))) ∙ found

-- ---- below what is carried

module _ (h : RoomyHistory) (its versions : List Version) (order : AreInOrder versions) (numbered : AreNumbered (cut_in h)) (full : h.entries ≡ full_of (cut_in h) its) where
  fixed_is : (p : ℕ) → is_fixed h p ≡ cut.is_fixed (cut_in h) p
  fixed_is p = same_fixed h (cut_in h) its p numbered refl full

  under_by : (b : Bool) (n m : ℕ) → (not b || nat_lt n m) ≡ true → b ≡ true → n < m
  under_by true n m held is = ltb-true n m held
  under_by false n m held is = absurd cc

  below_from : list_all (fits h) versions ≡ true → AreBelow (cut_in h) versions
  below_from all key q p value x there fixed found changed =
      let one : fits h (version key q value) ≡ true = all_at (fits h) versions (version key q value) all (at_in versions key q value there) in
      let under = carried_there (is_under (version key q value)) (cut_in h).carried p x (by (is_fixed h q) (fixed_is q ∙ fixed) one) found in
      let lt = under_by (is_changed x.batch key) q x.number under changed in
      omega (arith, lt, found_number (cut_in h).carried p x found)
    where
      by : (b : Bool) → b ≡ true → (not b || list_all (is_under (version key q value)) (cut_in h).carried) ≡ true → list_all (is_under (version key q value)) (cut_in h).carried ≡ true
      by true is held = held
      by false is held = absurd cc

  below_to : AreBelow (cut_in h) versions → list_all (fits h) versions ≡ true
  below_to below = all_from (fits h) versions (λ v there. by v (in_at versions v order there) (is_fixed h v.number) refl)
    where
      under : (v : Version) (p : ℕ) (x : Carried) → version_at versions v.key v.number ≡ Some v.value → is_fixed h v.number ≡ true → carried_at (cut_in h) p ≡ Some x → (b : Bool) → is_changed x.batch v.key ≡ b → is_under v x ≡ true
      under v p x there fixed found false is = ap (λ (b : Bool). not b || nat_lt v.number x.number) is
      under v p x there fixed found true is =
          let lt = below v.key v.number p v.value x there (sym (fixed_is v.number) ∙ fixed) found is in
          ap (λ (b : Bool). not b || nat_lt v.number x.number) is ∙ lt-ltb v.number x.number (omega (arith, lt, found_number (cut_in h).carried p x found))

      by : (v : Version) → version_at versions v.key v.number ≡ Some v.value → (b : Bool) → is_fixed h v.number ≡ b → fits h v ≡ true
      by v there false is = ap (λ (b : Bool). not b || list_all (is_under v) (cut_in h).carried) is
      by v there true is =
          ap (λ (b : Bool). not b || list_all (is_under v) (cut_in h).carried) is
          ∙ all_carried (is_under v) (cut_in h).carried numbered.ascend (λ p x found. under v p x there is found (is_changed x.batch v.key) refl)

  pub is_below : (r : Bool) → r ≡ list_all (fits h) versions → r ≡ true → AreBelow (cut_in h) versions
  is_below r is held = below_from (sym is ∙ held)

  pub not_below : (r : Bool) → r ≡ list_all (fits h) versions → r ≡ false → AreBelow (cut_in h) versions → ⊥
  not_below r is fails below = true≢false (sym (below_to below) ∙ sym is ∙ fails)

-- ---- what the store had at the base

module _ (c : Cut) (v : Version) (seen : List Version) (store new : BTreeMap (List ℕ) (List ℕ)) where
  with_fixed : (b : Bool) (o : Option Version) → cond b v.value (value_in o) ≡ value_in (cond (b && true) (Some v) o)
  with_fixed true o = refl
  with_fixed false o = refl

  without : (b : Bool) (o : Option Version) → value_in o ≡ value_in (cond (b && false) (Some v) o)
  without true o = refl
  without false o = refl

  pub one_left : cut.is_fixed c v.number ≡ true → IsStore (base_value c seen) store → Leaves v.key v.value store new → IsStore (base_value c (v ∷ seen)) new
  one_left fixed had left =
      as_values (λ key. cond (bytes_eq v.key key) v.value (base_value c seen key)) (base_value c (v ∷ seen)) new
      (λ key. with_fixed (bytes_eq v.key key) (find (λ w. bytes_eq w.key key && cut.is_fixed c w.number) seen) ∙ ap (λ (s : Bool). value_in (cond (bytes_eq v.key key && s) (Some v) (find (λ w. bytes_eq w.key key && cut.is_fixed c w.number) seen))) (sym fixed))
      (left (base_value c seen) had)

  pub one_passed : cut.is_fixed c v.number ≡ false → IsStore (base_value c seen) store → IsStore (base_value c (v ∷ seen)) store
  one_passed other had =
      as_values (base_value c seen) (base_value c (v ∷ seen)) store
      (λ key. without (bytes_eq v.key key) (find (λ w. bytes_eq w.key key && cut.is_fixed c w.number) seen) ∙ ap (λ (s : Bool). value_in (cond (bytes_eq v.key key && s) (Some v) (find (λ w. bytes_eq w.key key && cut.is_fixed c w.number) seen))) (sym other)) had

-- of all versions these are left, the last ones are taken, and their values are in the map
pub record AreTaken (c : Cut) (all left : List Version) (store : BTreeMap (List ℕ) (List ℕ)) : Type 0 where
  pub seen : List Version
  pub parts : left ++ seen ≡ all
  pub has : IsStore (base_value c seen) store

pub none_taken : (c : Cut) (all left : List Version) (store : BTreeMap (List ℕ) (List ℕ)) → left ≡ all → store.entries ≡ [] → IsOrdered key_cmp store → AreTaken c all left store
none_taken c all left store is empty ordered = record { seen = []; parts = append-nil left ∙ is; has = nothing_under store empty ordered }

one_more : (all left rest seen : List Version) (v : Version) → left ≡ rest ++ v ∷ [] → left ++ seen ≡ all → rest ++ v ∷ seen ≡ all
one_more all left rest seen v is parts = sym (append_assoc rest (v ∷ []) seen) ∙ ap (λ (vs : List Version). vs ++ seen) (sym is) ∙ parts

pub taken_fixed : (c : Cut) (all left rest : List Version) (v : Version) (store new : BTreeMap (List ℕ) (List ℕ)) → left ≡ rest ++ v ∷ [] → cut.is_fixed c v.number ≡ true → AreTaken c all left store → Leaves v.key v.value store new → AreTaken c all rest new
taken_fixed c all left rest v store new is fixed t one = record { seen = v ∷ t.seen; parts = one_more all left rest t.seen v is t.parts; has = one_left c v t.seen store new fixed t.has one }

pub taken_other : (c : Cut) (all left rest : List Version) (v : Version) (store : BTreeMap (List ℕ) (List ℕ)) → left ≡ rest ++ v ∷ [] → cut.is_fixed c v.number ≡ false → AreTaken c all left store → AreTaken c all rest store
taken_other c all left rest v store is other t = record { seen = v ∷ t.seen; parts = one_more all left rest t.seen v is t.parts; has = one_passed c v t.seen store store other t.has }

pub all_taken : (c : Cut) (all left : List Version) (store : BTreeMap (List ℕ) (List ℕ)) → length left ≡ 0 → AreTaken c all left store → IsStore (base_value c all) store
all_taken c all [] store none t = subst (λ (vs : List Version). IsStore (base_value c vs) store) t.parts t.has
all_taken c all (v ∷ left) store none t = absurd (omega (arith, none))

-- ---- without a base

no_front : (c : Cut) (versions : List Version) → c.base ≡ 0 → full_of c versions ≡ c.entries
no_front c versions none = full_is c versions ∙ ap (λ (n : ℕ). front c versions n ++ c.entries) none

nothing_fixed : (c : Cut) (p : ℕ) → c.base ≡ 0 → cut.is_fixed c p ≡ true → ⊥
nothing_fixed c p none fixed = let s = fixed_parts c p fixed in let low = s.low in let within = s.within in omega (arith, none, low, within)

module _ (c : Cut) (versions : List Version) (parts : List (List Version)) (either : (versions ≡ all_in parts) ⊎ (c.base ≡ 0)) where
  pub full_either : full_of c versions ≡ history_over c parts
  full_either = elim either [
    | inl same ↦ ap (full_of c) same
    | inr none ↦ no_front c versions none ∙ sym (no_front c (all_in parts) none)
  ]

  pub below_either : AreBelow c versions → AreBelow c (all_in parts)
  below_either below = elim either [
    | inl same ↦ subst (AreBelow c) same below
    | inr none ↦ λ key q p value x there fixed. absurd (nothing_fixed c q none fixed)
  ]

  pub not_either : (AreBelow c versions → ⊥) → AreBelow c (all_in parts) → ⊥
  not_either not below = elim either [
    | inl same ↦ not (subst (AreBelow c) (sym same) below)
    | inr none ↦ not (λ key q p value x there fixed. absurd (nothing_fixed c q none fixed))
  ]

-- ---- what is said of an outline with its versions

pub cut_over : (o : RoomyHistory) (versions : List Version) → AreNumbered (cut_in o) → cut_in (record o { entries = full_with o versions }) ≡ cut_in o
cut_over o versions numbered = sym (full_is_cut (cut_in o) versions numbered).is

pub values_over : (o : RoomyHistory) (versions : List Version) (w : RoomyHistory) (store : BTreeMap (List ℕ) (List ℕ)) → w ≡ record o { entries = full_with o versions } → AreNumbered (cut_in o) → AreInOrder versions → IsStore (base_value (cut_in o) versions) store → HasBaseValues w store
values_over o versions w store is numbered order had =
    subst (λ (h : RoomyHistory). HasBaseValues h store) (sym is) (record { ordered = had.ordered; each = λ key. had.each key ∙ sym (full_value (cut_in o) versions key numbered order) })

module _ (o : RoomyHistory) (versions : List Version) (parts : List (List Version)) (either : (versions ≡ all_in parts) ⊎ (o.base ≡ 0)) where
  pub wrong_over : (number : ℕ) → IsFirstWrong (record o { entries = full_with o versions }) number → IsWrongUndo (cut_in o) parts number
  wrong_over number w =
      subst (λ (es : List Entry). IsFirstWrong (record { base = o.base; entries = es; room = 0 }) number) (full_either (cut_in o) versions parts either)
      (record { behind = w.behind; before = w.before; entry = w.entry; there = w.there; wrong = w.wrong })

  pub restore_over : RestoreUpTo (record o { entries = full_with o versions }) (length (full_with o versions)) → UndosRestore (cut_in o) parts
  restore_over restore =
      let long : length (full_with o versions) ≡ end_of (cut_in o) = full_long (cut_in o) versions in
      subst (λ (m : ℕ). RestoreUpTo (standing (cut_in o) parts) m) long
      (subst (λ (es : List Entry). RestoreUpTo (record { base = o.base; entries = es; room = 0 }) (length (full_with o versions))) (full_either (cut_in o) versions parts either) restore)

  pub cause_over : (w : RoomyHistory) (damage : Bad) → w ≡ record o { entries = full_with o versions } → (AreBelow (cut_in o) (all_in parts) → ⊥) → IsOverCause w damage → IsHistoryCause (cut_in o) parts (open_error.Contents damage)
  cause_over w (bad.Illegal number) is not cause = wrong_over number (subst (λ (h : RoomyHistory). IsFirstWrong h number) is cause)
  cause_over w bad.Uncovered is not cause = (restore_over (subst (λ (h : RoomyHistory). RestoreUpTo h (length h.entries)) is cause), not)
  cause_over w other is not cause = absurd cause
