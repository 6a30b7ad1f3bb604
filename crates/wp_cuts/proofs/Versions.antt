-- A store's versions: what is under a number, and which is the newest that passes a test.
use Rattle.std.proofs.Common.{◌≡◌, ℕ, ◌<◌, ◌≤◌, Bool, true, false, ◌==◌, ◌&&◌, cond, Less, Equal, Greater, List, [], ◌∷◌, map, Option, Some, None, refl, sym, ap, ◌∙◌, arith}
use Rattle.std.specs.declared.cmp.Ordering.{Ordering}
use Rattle.std.specs.Ordering.{nat_cmp, ordering_then, is_lt}
use Rattle.std.specs.List.{filter, find}
use Rattle.std.specs.Str.{bytes_eq}
use Rattle.std.proofs.lemmas.Bool.{and_parts, and_from, eqb-true, eq-eqb, ne_eqb, false≢true, and_right}
use Rattle.std.proofs.lemmas.Cmp.{ranked, tied_itself, nat_list_cmp_total}
use Rattle.std.proofs.lemmas.Slice.Eq.{bytes_eq-Decides}
use Rattle.wp_model.specs.declared.version.Version.{Version}
use Rattle.wp_model.specs.Batch.{key_cmp, key_of, value_of, change_to, are_ascending}
use Rattle.wp_model.specs.Legal.{change_that_leaves}
use Rattle.wp_model.specs.Versions.{AreInOrder, version_cmp, version_at}
use Rattle.wp_model.proofs.VersionLists.{IsBefore, in_order_parts}
use Rattle.wp_model.proofs.Entries.{left_key}
use Rattle.wp_cuts.specs.Cut.{change_in, changes_at}

same_key : (a b : List ℕ) → bytes_eq a b ≡ true → a ≡ b
same_key a b h = (bytes_eq-Decides a b).0 h

pub key_itself : (a : List ℕ) → bytes_eq a a ≡ true
key_itself a = (bytes_eq-Decides a a).1 refl

left_value : (key : List ℕ) (value : Option (List ℕ)) → value_of (change_that_leaves key value) ≡ value
left_value key (Some value) = refl
left_value key None = refl

abbrev pub is_here : List ℕ → ℕ → Version → Bool
is_here key p v = bytes_eq v.key key && (v.number == p)

-- ---- the changes under a number

and_true : (b : Bool) → (b && true) ≡ b
and_true true = refl
and_true false = refl

and_false : (b : Bool) → (b && false) ≡ false
and_false true = refl
and_false false = refl

pub changes_to : (versions : List Version) (p : ℕ) (key : List ℕ) → change_to (changes_at versions p) key ≡ version_at versions key p
changes_to [] p key = refl
changes_to (v ∷ vs) p key = by (v.number == p) refl (changes_to vs p key)
  where
    by : (b : Bool) → (v.number == p) ≡ b → change_to (changes_at vs p) key ≡ version_at vs key p
        → change_to (map change_in (cond b (v ∷ filter (λ w. w.number == p) vs) (filter (λ w. w.number == p) vs))) key ≡ cond (bytes_eq v.key key && (v.number == p)) (Some v.value) (version_at vs key p)
    by true is rest = rw (left_key v.key v.value, left_value v.key v.value, is, and_true (bytes_eq v.key key), rest) refl
    by false is rest = rw (is, and_false (bytes_eq v.key key)) rest

-- ---- by the order

-- of two versions of a key the one that is first has the greater number
pub lesser_number : (v w : Version) → version_cmp v w ≡ Less → v.key ≡ w.key → w.number < v.number
lesser_number v w less same =
    let tied : key_cmp v.key w.key ≡ Equal = ap (λ k. key_cmp k w.key) same ∙ tied_itself nat_list_cmp_total w.key in
    ranked w.number v.number Less (sym less ∙ ap (λ o. ordering_then o (nat_cmp w.number v.number)) tied)

-- behind a version of the key nothing is under its number or a greater one
none_behind : (key : List ℕ) (p : ℕ) (v : Version) (vs : List Version) → IsBefore v vs → bytes_eq v.key key ≡ true → v.number ≤ p → version_at vs key p ≡ None
none_behind key p v [] before same le = refl
none_behind key p v (w ∷ ws) before same le = by (is_here key p w) refl (none_behind key p v ws before.1 same le)
  where
    by : (b : Bool) → is_here key p w ≡ b → version_at ws key p ≡ None → cond b (Some w.value) (version_at ws key p) ≡ None
    by false e rest = rest
    by true e rest =
        let parts = and_parts (bytes_eq w.key key) (w.number == p) e in
        let number : w.number ≡ p = eqb-true w.number p parts.1 in
        let lesser = lesser_number v w before.0 (same_key v.key key same ∙ sym (same_key w.key key parts.0)) in
        absurd (omega (arith, number, lesser))

-- of two versions with one number the one that is first has the lesser key
lesser_key : (o : Ordering) (v w : Version) → o ≡ key_cmp v.key w.key → ordering_then o (nat_cmp w.number v.number) ≡ Less → v.number ≡ w.number → is_lt o ≡ true
lesser_key Less v w is less same = refl
lesser_key Equal v w is less same = let lt : w.number < v.number = ranked w.number v.number Less (sym less) in absurd (omega (arith, lt, same))
lesser_key Greater v w is less same = absurd cc

under_ascends : (v : Version) (vs : List Version) (p : ℕ) → IsBefore v vs → v.number ≡ p → are_ascending (changes_at vs p) ≡ true → are_ascending (change_in v ∷ changes_at vs p) ≡ true
under_ascends v [] p before is rest = refl
under_ascends v (w ∷ ws) p before is rest = by (w.number == p) refl rest (under_ascends v ws p before.1 is)
  where
    by : (b : Bool) → (w.number == p) ≡ b → are_ascending (map change_in (cond b (w ∷ filter (λ u. u.number == p) ws) (filter (λ u. u.number == p) ws))) ≡ true
        → (are_ascending (changes_at ws p) ≡ true → are_ascending (change_in v ∷ changes_at ws p) ≡ true)
        → are_ascending (change_in v ∷ map change_in (cond b (w ∷ filter (λ u. u.number == p) ws) (filter (λ u. u.number == p) ws))) ≡ true
    by false is_not r skip = skip r
    by true here r skip =
        let number : w.number ≡ p = eqb-true w.number p here in
        let less : is_lt (key_cmp v.key w.key) ≡ true = lesser_key (key_cmp v.key w.key) v w refl before.0 (is ∙ sym number) in
        and_from (is_lt (key_cmp (key_of (change_in v)) (key_of (change_in w)))) (are_ascending (change_in w ∷ changes_at ws p)) (rw (left_key v.key v.value, left_key w.key w.value) less) r

pub changes_ascend : (versions : List Version) (p : ℕ) → AreInOrder versions → are_ascending (changes_at versions p) ≡ true
changes_ascend [] p order = refl
changes_ascend (v ∷ vs) p order = let parts = in_order_parts v vs order in by (v.number == p) refl (changes_ascend vs p parts.1) parts.0
  where
    by : (b : Bool) → (v.number == p) ≡ b → are_ascending (changes_at vs p) ≡ true → IsBefore v vs → are_ascending (map change_in (cond b (v ∷ filter (λ w. w.number == p) vs) (filter (λ w. w.number == p) vs))) ≡ true
    by true here rest before = under_ascends v vs p before (eqb-true v.number p here) rest
    by false is_not rest before = rest

-- ---- the newest version of a key whose number passes

module _ (passes : ℕ → Bool) (key : List ℕ) where
  abbrev pub newest_passing : List Version → Option Version
  newest_passing versions = find (λ v. bytes_eq v.key key && passes v.number) versions

  pub record IsNewestPassing (versions : List Version) (number : ℕ) (value : Option (List ℕ)) : Type 0 where
    pub passing : passes number ≡ true
    pub there : version_at versions key number ≡ Some value
    pub newest : (q : ℕ) → number < q → passes q ≡ true → version_at versions key q ≡ None

  abbrev pub NonePassing : List Version → Type 0
  NonePassing versions = (q : ℕ) → passes q ≡ true → version_at versions key q ≡ None

  -- a version that fails is not the one under a number that passes
  not_here : (v : Version) (q : ℕ) → (bytes_eq v.key key && passes v.number) ≡ false → passes q ≡ true → is_here key q v ≡ false
  not_here v q fails passing = by (is_here key q v) refl
    where
      by : (b : Bool) → is_here key q v ≡ b → b ≡ false
      by false e = refl
      by true e =
          let parts = and_parts (bytes_eq v.key key) (v.number == q) e in
          let number : v.number ≡ q = eqb-true v.number q parts.1 in
          let it : (bytes_eq v.key key && passes v.number) ≡ true = and_from (bytes_eq v.key key) (passes v.number) parts.0 (ap passes number ∙ passing) in
          absurd (false≢true (sym fails ∙ it))

  pub found_none : (versions : List Version) → newest_passing versions ≡ None → NonePassing versions
  found_none [] none q passing = refl
  found_none (v ∷ vs) none q passing = by (bytes_eq v.key key && passes v.number) refl none (λ r. found_none vs r q passing)
    where
      by : (b : Bool) → (bytes_eq v.key key && passes v.number) ≡ b → cond b (Some v) (newest_passing vs) ≡ None → (newest_passing vs ≡ None → version_at vs key q ≡ None)
          → cond (is_here key q v) (Some v.value) (version_at vs key q) ≡ None
      by true is e rest = absurd cc
      by false is e rest = rw (not_here v q is passing) (rest e)

  pub found_some : (versions : List Version) (found : Version) → AreInOrder versions → newest_passing versions ≡ Some found → IsNewestPassing versions found.number found.value
  found_some [] found order some = absurd cc
  found_some (v ∷ vs) found order some = let parts = in_order_parts v vs order in by (bytes_eq v.key key && passes v.number) refl some (λ r. found_some vs found parts.1 r) parts.0
    where
      first : (w : Version) → v ≡ w → (bytes_eq v.key key && passes v.number) ≡ true → IsBefore v vs → IsNewestPassing (v ∷ vs) w.number w.value
      first w same is before =
          let parts = and_parts (bytes_eq v.key key) (passes v.number) is in
          rw (sym same) (record {
            passing = parts.1;
            there = rw (and_from (bytes_eq v.key key) (v.number == v.number) parts.0 (eq-eqb v.number v.number refl)) refl;
            newest = λ q above passing.
                let other : is_here key q v ≡ false = and_right (bytes_eq v.key key) (v.number == q) (ne_eqb v.number q (λ e. absurd (omega (arith, e, above)))) in
                rw other (none_behind key q v vs before parts.0 (omega arith));
          })

      by : (b : Bool) → (bytes_eq v.key key && passes v.number) ≡ b → cond b (Some v) (newest_passing vs) ≡ Some found → (newest_passing vs ≡ Some found → IsNewestPassing vs found.number found.value) → IsBefore v vs
          → IsNewestPassing (v ∷ vs) found.number found.value
      by true is e rest before = let same : v ≡ found = cc in first found same is before
      by false is e rest before =
          let r = rest e in
          record {
            passing = r.passing;
            there = rw (not_here v found.number is r.passing) r.there;
            newest = λ q above passing. rw (not_here v q is passing) (r.newest q above passing);
          }
