-- How many versions are kept from a base on: each stands at a place of its own, of as many as the law counts.
use Rattle.std.proofs.Common.{◌≡◌, ℕ, zero, suc, ◌+◌, ◌-◌, ◌<◌, ◌≤◌, Bool, true, false, ◌==◌, ◌&&◌, ◌||◌, cond, Less, List, [], ◌∷◌, ◌++◌, length, map, take, drop, Option, Some, None, refl, sym, ap, ◌∙◌, subst, inl, inr, length-append, arith}
use Rattle.std.specs.Prelude.{is_some, slice_get}
use Rattle.std.specs.Bool.{one_answer}
use Rattle.std.specs.Cmp.{IsEquivalence}
use Rattle.std.specs.List.{AllByRecursion, IsDistinct, find, list_any}
use Rattle.std.specs.Str.{bytes_eq}
use Rattle.std.proofs.lemmas.Bool.{cases_lt, cases_order, and_parts, and_from, eqb-true, eq-eqb, false_from_ne_true}
use Rattle.std.proofs.lemmas.List.{length-map}
use Rattle.std.proofs.lemmas.List.Folds.{list_any-append}
use Rattle.std.proofs.lemmas.Map.Made.{length-le_from_is_member}
use Rattle.std.proofs.lemmas.Slice.Eq.{bytes_eq-Decides}
use Rattle.wp_model.specs.declared.carried.Carried.{Carried}
use Rattle.wp_model.specs.declared.change.Change.{Change}
use Rattle.wp_model.specs.declared.entry.Entry.{Entry}
use Rattle.wp_model.specs.declared.version.Version.{Version}
use Rattle.wp_model.specs.Batch.{key_of, value_of, change_to}
use Rattle.wp_model.specs.Covered.{GivesStore, GivesNewest}
use Rattle.wp_model.specs.Decision.{version_in, entry_version, IsCommittedAt}
use Rattle.wp_model.specs.Flushed.{versions_under, versions_after, later_versions}
use Rattle.wp_model.specs.Legal.{IsLegal, changes_in}
use Rattle.wp_model.specs.Versions.{AreInOrder, version_cmp, version_at}
use Rattle.wp_model.proofs.VersionLists.{IsBefore, in_order_parts}
use Rattle.wp_history_laws.proofs.Counting.{entry_version_old}
use Rattle.wp_history_laws.proofs.Above.{undecided_version}
use Rattle.wp_cuts.specs.Cut.{Cut, IsCut, carried_at, is_fixed}
use Rattle.wp_cuts.specs.Kept.{carried_versions, HasKeysAt, AreKept}
use Rattle.wp_cuts.proofs.Agreeing.{cut_front_long, cut_whole}
use Rattle.wp_cuts.proofs.FullList.{fixed_parts, fixed_from}
use Rattle.wp_cuts.proofs.LegalCuts.{carried_is}
use Rattle.wp_cuts.proofs.Fixed.{fixed_committed, below}
use Rattle.wp_cuts.proofs.Versions.{is_here, lesser_number}

-- ---- places: a key and a number

-- the second version is where the first is
abbrev is_at : Version → Version → Bool
is_at v w = is_here v.key v.number w

abbrev AreAtOne : Version → Version → Type 0
AreAtOne v w = (w.key ≡ v.key) × (w.number ≡ v.number)

at_parts : (v w : Version) → is_at v w ≡ true → AreAtOne v w
at_parts v w h = let parts = and_parts (bytes_eq w.key v.key) (w.number == v.number) h in ((bytes_eq-Decides w.key v.key).0 parts.0, eqb-true w.number v.number parts.1)

at_from : (v w : Version) → AreAtOne v w → is_at v w ≡ true
at_from v w one = and_from (bytes_eq w.key v.key) (w.number == v.number) ((bytes_eq-Decides w.key v.key).1 one.0) (eq-eqb w.number v.number one.1)

places : IsEquivalence is_at
places = record {
  refl = λ v. at_from v v (refl, refl);
  symm = λ v w. one_answer (is_at v w) (is_at w v) (at_parts v w, at_from v w)
      (λ h. let one = at_parts w v h in (sym one.0, sym one.1), λ one. at_from w v (sym one.0, sym one.1));
  congr = λ v w u h. let one = at_parts v w h in
      ap (λ (key : List ℕ). bytes_eq u.key key && (u.number == v.number)) (sym one.0) ∙ ap (λ (n : ℕ). bytes_eq u.key w.key && (u.number == n)) (sym one.1);
}

abbrev has : List Version → List ℕ → ℕ → Bool
has versions key p = list_any (is_here key p) versions

has_left : (xs ys : List Version) (key : List ℕ) (p : ℕ) → has xs key p ≡ true → has (xs ++ ys) key p ≡ true
has_left xs ys key p h = list_any-append (is_here key p) xs ys ∙ ap (λ (b : Bool). b || has ys key p) h

has_right : (xs ys : List Version) (key : List ℕ) (p : ℕ) → has ys key p ≡ true → has (xs ++ ys) key p ≡ true
has_right xs ys key p h = list_any-append (is_here key p) xs ys ∙ ap (λ (b : Bool). has xs key p || b) h ∙ or_true (has xs key p)
  where
    or_true : (b : Bool) → (b || true) ≡ true
    or_true true = refl
    or_true false = refl

-- ---- the versions of changes, of entries, and of what a base carries

has_under : (n : ℕ) (changes : List Change) (key : List ℕ) (value : Option (List ℕ)) → change_to changes key ≡ Some value → has (versions_under n changes) key n ≡ true
has_under n [] key value there = absurd cc
has_under n (change ∷ changes) key value there = by (bytes_eq (key_of change) key) refl there (has_under n changes key value)
  where
    by : (b : Bool) → bytes_eq (key_of change) key ≡ b → cond b (Some (value_of change)) (change_to changes key) ≡ Some value → (change_to changes key ≡ Some value → has (versions_under n changes) key n ≡ true) → has (versions_under n (change ∷ changes)) key n ≡ true
    by true is e rest = rw (is, eq-eqb n n refl) refl
    by false is e rest = rw (is) (rest e)

has_after : (n i : ℕ) (entries : List Entry) (entry : Entry) (key : List ℕ) (value : Option (List ℕ)) → slice_get entries i ≡ Some entry → change_to (changes_in entry) key ≡ Some value → has (versions_after n entries) key (suc (n + i)) ≡ true
has_after n i [] entry key value at there = absurd cc
has_after n zero (first ∷ others) entry key value at there =
    let same : first ≡ entry = cc in
    subst (λ (p : ℕ). has (versions_after n (first ∷ others)) key p ≡ true) (let e : suc n ≡ suc (n + zero) = omega arith in e)
    (has_left (versions_under (suc n) (changes_in first)) (versions_after (suc n) others) key (suc n) (has_under (suc n) (changes_in first) key value (ap (λ (x : Entry). change_to (changes_in x) key) same ∙ there)))
has_after n (suc i) (first ∷ others) entry key value at there =
    subst (λ (p : ℕ). has (versions_after n (first ∷ others)) key p ≡ true) (let e : suc (suc n + i) ≡ suc (n + suc i) = omega arith in e)
    (has_right (versions_under (suc n) (changes_in first)) (versions_after (suc n) others) key (suc (suc n + i)) (has_after (suc n) i others entry key value at there))

taken : (n : ℕ) (xs : List Entry) (i : ℕ) → i < n → slice_get (take n xs) i ≡ slice_get xs i
taken zero xs i lt = absurd (omega (arith, lt))
taken (suc n) [] i lt = refl
taken (suc n) (x ∷ xs) zero lt = refl
taken (suc n) (x ∷ xs) (suc i) lt = taken n xs i (omega (arith, lt))

dropped : (n : ℕ) (xs : List Entry) (i : ℕ) → slice_get (drop n xs) i ≡ slice_get xs (n + i)
dropped zero xs i = ap (slice_get xs) (let e : i ≡ 0 + i = omega arith in e)
dropped (suc n) [] i = refl
dropped (suc n) (x ∷ xs) i = dropped n xs i ∙ ap (slice_get (x ∷ xs)) (let e : suc (n + i) ≡ suc n + i = omega arith in e)

has_later : (history : List Entry) (base floor : ℕ) (key : List ℕ) (p : ℕ) (value : Option (List ℕ)) → base < p → p ≤ floor → entry_version history p key ≡ Some value → has (later_versions (take floor history) base) key p ≡ true
has_later history base floor key zero value lt le there = absurd (omega (arith, lt))
has_later history base floor key (suc i) value lt le there = by (slice_get history i) refl there
  where
    by : (o : Option Entry) → slice_get history i ≡ o → version_in o key ≡ Some value → has (later_versions (take floor history) base) key (suc i) ≡ true
    by None at e = absurd cc
    by (Some entry) at e =
        subst (λ (p : ℕ). has (later_versions (take floor history) base) key p ≡ true) (let same : suc (base + (i - base)) ≡ suc i = omega (arith, lt) in same)
        (has_after base (i - base) (drop base (take floor history)) entry key value
        (dropped base (take floor history) (i - base) ∙ ap (slice_get (take floor history)) (let same : base + (i - base) ≡ i = omega (arith, lt) in same) ∙ taken floor history i (omega (arith, le)) ∙ at) e)

has_carried : (xs : List Carried) (p : ℕ) (x : Carried) (key : List ℕ) (value : Option (List ℕ)) → find (λ y. y.number == p) xs ≡ Some x → change_to x.batch key ≡ Some value → has (carried_versions xs) key p ≡ true
has_carried [] p x key value found there = absurd cc
has_carried (y ∷ ys) p x key value found there = by (y.number == p) refl found (has_carried ys p x key value)
  where
    by : (b : Bool) → (y.number == p) ≡ b → cond b (Some y) (find (λ z. z.number == p) ys) ≡ Some x → (find (λ z. z.number == p) ys ≡ Some x → change_to x.batch key ≡ Some value → has (carried_versions ys) key p ≡ true) → has (carried_versions (y ∷ ys)) key p ≡ true
    by true here e rest =
        let same : y ≡ x = cc in
        has_left (versions_under y.number y.batch) (carried_versions ys) key p
        (subst (λ (q : ℕ). has (versions_under y.number y.batch) key q ≡ true) (eqb-true y.number p here) (has_under y.number y.batch key value (ap (λ (z : Carried). change_to z.batch key) same ∙ there)))
    by false other e rest = has_right (versions_under y.number y.batch) (carried_versions ys) key p (rest e there)

-- ---- where each of a list in order goes to a place of its own

abbrev pub own : List Version → Version → Type 0
own versions v = version_at versions v.key v.number ≡ Some v.value

apart : (v w : Version) → version_cmp v w ≡ Less → AreAtOne v w → ⊥
apart v w less one = let lt = lesser_number v w less (sym one.0) in omega (arith, lt, one.1)

own_behind : (v : Version) (vs ws : List Version) → IsBefore v ws → AllByRecursion (own vs) ws → AllByRecursion (own (v ∷ vs)) ws
own_behind v vs [] before all = tt
own_behind v vs (w ∷ ws) before all = (by (is_here w.key w.number v) refl all.0, own_behind v vs ws before.1 all.1)
  where
    by : (b : Bool) → is_here w.key w.number v ≡ b → version_at vs w.key w.number ≡ Some w.value → cond b (Some v.value) (version_at vs w.key w.number) ≡ Some w.value
    by true is e = let one = at_parts w v is in absurd (apart v w before.0 (sym one.0, sym one.1))
    by false is e = e

pub all_own : (vs : List Version) → AreInOrder vs → AllByRecursion (own vs) vs
all_own [] order = tt
all_own (v ∷ vs) order = let parts = in_order_parts v vs order in (rw (at_from v v (refl, refl)) refl, own_behind v vs vs parts.0 (all_own vs parts.1))

module _ (all : List Version) (f : Version → Version) (one : (v w : Version) → own all v → own all w → AreAtOne (f v) (f w) → AreAtOne v w) where
  apart_all : (v : Version) (ws : List Version) → own all v → IsBefore v ws → AllByRecursion (own all) ws → AllByRecursion (λ u. is_at (f v) u ≡ false) (map f ws)
  apart_all v [] own_v before owns = tt
  apart_all v (w ∷ ws) own_v before owns =
      (false_from_ne_true (is_at (f v) (f w)) (λ h. apart v w before.0 (one v w own_v owns.0 (at_parts (f v) (f w) h))), apart_all v ws own_v before.1 owns.1)

  distinct : (vs : List Version) → AreInOrder vs → AllByRecursion (own all) vs → IsDistinct is_at (map f vs)
  unfolding IsDistinct
  distinct [] order owns = tt
  distinct (v ∷ vs) order owns = let parts = in_order_parts v vs order in (apart_all v vs owns.0 parts.0 owns.1, distinct vs parts.1 owns.1)

  member : (others vs : List Version) → AllByRecursion (λ v. has others (f v).key (f v).number ≡ true) vs → (u : Version) → list_any (is_at u) (map f vs) ≡ true → has others u.key u.number ≡ true
  member others [] each u there = absurd cc
  member others (v ∷ vs) each u there = by (is_at u (f v)) refl there (member others vs each.1 u)
    where
      by : (b : Bool) → is_at u (f v) ≡ b → (b || list_any (is_at u) (map f vs)) ≡ true → (list_any (is_at u) (map f vs) ≡ true → has others u.key u.number ≡ true) → has others u.key u.number ≡ true
      by true is e rest = let it = at_parts u (f v) is in subst (λ (key : List ℕ). has others key u.number ≡ true) it.0 (subst (λ (n : ℕ). has others (f v).key n ≡ true) it.1 each.0)
      by false is e rest = rest e

-- ---- the versions that are kept

module _ (history : List Entry) (c : Cut) (kept : List Version) (keys : List (List ℕ)) (floor : ℕ) (legal : IsLegal history) (cut : IsCut history c)
    (above : c.base ≤ floor) (are : AreKept history c.base floor kept) (values : HasKeysAt history c.base keys) where
  abbrev Found : Type 0
  Found = Option (Option (List ℕ))

  none_some : (o : Found) (value : Option (List ℕ)) → o ≡ None → o ≡ Some value → ⊥
  none_some o value none some = absurd cc

  at_base : (key : List ℕ) (p : ℕ) (value : Option (List ℕ)) → is_fixed c p ≡ true → version_at kept key p ≡ Some value → IsCommittedAt history p c.base
  at_base = fixed_committed history c kept legal cut are.part

  at_floor : (p : ℕ) → IsCommittedAt history p c.base → IsCommittedAt history p floor
  at_floor p at = record { by = at.by; decided = at.decided; within = let le = at.within in omega (arith, le, above) }

  -- a fixed one that is kept is the one that is found at the base
  is_given : (key : List ℕ) (p : ℕ) (value : Option (List ℕ)) → is_fixed c p ≡ true → version_at kept key p ≡ Some value → (g : GivesNewest kept history key c.base) → p ≡ g.number
  is_given key p value fixed there g = elim (cases_order p g.number) [
    | inl same ↦ same
    | inr other ↦ elim other [
      | inl lt ↦
          let n = are.newest key p value there (at_floor p (at_base key p value fixed there)) in
          let from_base = n.from_base in let within = g.committed.within in
          absurd (none_some (version_at kept key g.number) g.value (n.newest g.number lt (record { by = g.committed.by; decided = g.committed.decided; within = omega (arith, within, from_base) })) g.there)
      | inr gt ↦ absurd (none_some (version_at kept key p) value (g.newest p gt (at_base key p value fixed there)) there)
    ]
  ]

  low : (key : List ℕ) (p : ℕ) (value : Option (List ℕ)) → version_at kept key p ≡ Some value → 1 ≤ p
  low key p value there = by p (are.part key p value there)
    where
      by : (q : ℕ) → entry_version history q key ≡ Some value → 1 ≤ q
      by zero e = absurd cc
      by (suc n) e = omega arith

  given : (key : List ℕ) (p : ℕ) (value : Option (List ℕ)) → is_fixed c p ≡ true → version_at kept key p ≡ Some value → GivesNewest kept history key c.base
  given key p value fixed there = by (are.gives key)
    where
      by : GivesStore kept history key c.base → GivesNewest kept history key c.base
      by (inl g) = g
      by (inr g) = absurd (none_some (version_at kept key p) value (g.none p (at_base key p value fixed there)) there)

  -- what is carried has the version that its batch makes
  of_carried : (key : List ℕ) (p : ℕ) (value : Option (List ℕ)) (x : Carried) → p ≤ c.base → carried_at c p ≡ Some x → version_at kept key p ≡ Some value → change_to x.batch key ≡ Some value
  of_carried key p value x within found there =
      let from = carried_is history c p x cut found in
      let long = cut_front_long history c cut in
      ap (λ (y : Carried). change_to y.batch key) from.1
      ∙ sym (undecided_version (take c.base history) key p from.0)
      ∙ sym (entry_version_old (take c.base history) c.entries p key (omega (arith, within, long)))
      ∙ ap (λ (h : List Entry). entry_version h p key) (sym (cut_whole history c cut))
      ∙ are.part key p value there

  -- ---- a fixed one is a value, whose key has it at the base

  not_deleted : (key : List ℕ) (p : ℕ) → is_fixed c p ≡ true → version_at kept key p ≡ Some None → ⊥
  not_deleted key p fixed there =
      let o = are.deletions key p there (at_floor p (at_base key p None fixed there)) in
      let within = (fixed_parts c p fixed).within in
      let older = o.older in
      by (carried_at c o.number) o.number refl o.value o.there (omega (arith, older, within)) older
    where
      by : (x : Option Carried) (q : ℕ) → carried_at c q ≡ x → (value : Option (List ℕ)) → version_at kept key q ≡ Some value → q ≤ c.base → q < p → ⊥
      by (Some x) q found value its within older =
          let lt = below history c kept legal cut are.part key p q None x there fixed found (ap is_some (of_carried key q value x within found its)) in
          omega (arith, lt, older)
      by None q found value its within older =
          let g = given key p None fixed there in
          let one = is_given key p None fixed there g in
          let too = is_given key q value (fixed_from c q (low key q value its) within (ap is_some found)) its g in
          omega (arith, one, too, older)

  key_listed : (key : List ℕ) (p : ℕ) (value : Option (List ℕ)) → is_fixed c p ≡ true → version_at kept key p ≡ Some value → list_any (λ k. bytes_eq k key) keys ≡ true
  key_listed key p None fixed there = absurd (not_deleted key p fixed there)
  key_listed key p (Some value) fixed there =
      let g = given key p (Some value) fixed there in
      let at : version_at kept key p ≡ Some g.value = ap (version_at kept key) (is_given key p (Some value) fixed there g) ∙ g.there in
      let same : g.value ≡ Some value = cc in
      values key value (g.stored ∙ same)

  -- ---- to places of their own

  abbrev base_versions : List (List ℕ) → List Version
  base_versions = map (λ key. record { key = key; number = 0; value = None })

  -- a fixed one goes to its key's place under no number
  abbrev place : Version → Version
  place v = record v { number = cond (is_fixed c v.number) 0 v.number }

  abbrev counted : List Version
  counted = base_versions keys ++ (carried_versions c.carried ++ later_versions (take floor history) c.base)

  has_key : (ks : List (List ℕ)) (key : List ℕ) → list_any (λ k. bytes_eq k key) ks ≡ true → has (base_versions ks) key 0 ≡ true
  has_key [] key there = absurd cc
  has_key (k ∷ ks) key there = by (bytes_eq k key) refl there (has_key ks key)
    where
      by : (b : Bool) → bytes_eq k key ≡ b → (b || list_any (λ x. bytes_eq x key) ks) ≡ true → (list_any (λ x. bytes_eq x key) ks ≡ true → has (base_versions ks) key 0 ≡ true) → has (base_versions (k ∷ ks)) key 0 ≡ true
      by true is e rest = rw is refl
      by false is e rest = rw is (rest e)

  is_counted : (v : Version) → own kept v → has counted v.key (place v).number ≡ true
  is_counted v there = by (is_fixed c v.number) refl
    where
      carried : (o : Option Carried) → carried_at c v.number ≡ o → is_fixed c v.number ≡ false → v.number ≤ c.base → has (carried_versions c.carried ++ later_versions (take floor history) c.base) v.key v.number ≡ true
      carried (Some x) found other within = has_left (carried_versions c.carried) (later_versions (take floor history) c.base) v.key v.number (has_carried c.carried v.number x v.key v.value found (of_carried v.key v.number v.value x within found there))
      carried None found other within = let yes = fixed_from c v.number (low v.key v.number v.value there) within (ap is_some found) in absurd cc

      by : (b : Bool) → is_fixed c v.number ≡ b → has counted v.key (cond b 0 v.number) ≡ true
      by true fixed = has_left (base_versions keys) (carried_versions c.carried ++ later_versions (take floor history) c.base) v.key 0 (has_key keys v.key (key_listed v.key v.number v.value fixed there))
      by false other = has_right (base_versions keys) (carried_versions c.carried ++ later_versions (take floor history) c.base) v.key v.number (elim (cases_lt c.base v.number) [
        | inl behind ↦ has_right (carried_versions c.carried) (later_versions (take floor history) c.base) v.key v.number (has_later history c.base floor v.key v.number v.value behind (are.within v.key v.number v.value there) (are.part v.key v.number v.value there))
        | inr within ↦ carried (carried_at c v.number) refl other within
      ])

  one_place : (v w : Version) → own kept v → own kept w → AreAtOne (place v) (place w) → AreAtOne v w
  one_place v w there also one = (one.0, by (is_fixed c v.number) (is_fixed c w.number) refl refl one.1)
    where
      here : version_at kept v.key w.number ≡ Some w.value
      here = ap (λ (key : List ℕ). version_at kept key w.number) (sym one.0) ∙ also

      by : (a b : Bool) → is_fixed c v.number ≡ a → is_fixed c w.number ≡ b → cond b 0 w.number ≡ cond a 0 v.number → w.number ≡ v.number
      by true true first second same =
          let g = given v.key v.number v.value first there in
          is_given v.key w.number w.value second here g ∙ sym (is_given v.key v.number v.value first there g)
      by true false first second same = let le = low w.key w.number w.value also in absurd (omega (arith, le, same))
      by false true first second same = let le = low v.key v.number v.value there in absurd (omega (arith, le, same))
      by false false first second same = same

  counted_all : (vs : List Version) → AllByRecursion (own kept) vs → AllByRecursion (λ v. has counted (place v).key (place v).number ≡ true) vs
  counted_all [] owns = tt
  counted_all (v ∷ vs) owns = (is_counted v owns.0, counted_all vs owns.1)

  pub kept_few : length kept ≤ length keys + (length (carried_versions c.carried) + length (later_versions (take floor history) c.base))
  kept_few =
      let owns = all_own kept are.order in
      let fewer = length-le_from_is_member places (map place kept) counted (distinct kept place one_place kept are.order owns) (member kept place one_place counted kept (counted_all kept owns)) in
      let mapped = length-map kept place in
      let all = length-append (base_versions keys) (carried_versions c.carried ++ later_versions (take floor history) c.base) in
      let others = length-append (carried_versions c.carried) (later_versions (take floor history) c.base) in
      let of_keys : length (base_versions keys) ≡ length keys = length-map keys _ in
      omega (arith, fewer, mapped, all, others, of_keys)
