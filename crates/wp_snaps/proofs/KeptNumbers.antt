-- How many live numbers the old commit map has something under, as one of them changes.
use Rattle.std.proofs.Common.{◌≡◌, ℕ, ◌+◌, ◌≤◌, Bool, true, false, not, cond, ◌==◌, ◌-◌, List, [], ◌∷◌, length, Option, Some, None, is_some, Result, Ok, Err, OnOk, OnErr, IsTrue, ◌<◌, inl, inr, refl, sym, ap, ◌∙◌, arith}
use Rattle.std.specs.Prelude.{◌↔◌}
use Rattle.std.specs.Cmp.{nat_cmp_total}
use Rattle.std.specs.Ordering.{nat_cmp}
use Rattle.std.specs.Option.{option_map_or}
use Rattle.std.specs.Int.{from_bool}
use Rattle.std.specs.FinMap as finite
use Rattle.std.specs.FinSet.{FinSet, contains, empty, insert, remove, len, contains-empty, contains-from_list, len-empty, len-insert, len-remove, empty_of_len, same_set, nat_cmp-IsAntisymmetric}
use Rattle.std.proofs.lemmas.Bool.{cases_eq, eq-eqb, ne_eqb, eqb-true, both_ways, not-false}
use Rattle.wp_model.specs.Snapshots.{LiveSnapshot, Snapshots, ChangesWhere, after_register, after_release, after_keep, NoOldCommits}
use Rattle.std.specs.declared.alloc.AllocError.{AllocError}
use Rattle.wp_model.proofs.Numbers.{in_inserted, in_inserted_else, in_removed, in_removed_else, get_inserted_else}
use Rattle.wp_snaps.specs.KeptNumbers.{has_old_commits, kept_numbers}
use Rattle.wp_snaps.specs.Room.{RoomySnapshot}
use Rattle.wp_snaps.proofs.Sets.{old_commit_set}
use Rattle.wp_snaps.proofs.Shown.{shown_of, shown, snapshot_at, get-shown_of, after_release-shared, after_release-last}

pub at_most_one : (b : Bool) → from_bool b ≤ 1
at_most_one true = omega arith
at_most_one false = omega arith

-- ---- a set with or without numbers

abbrev pub has_some : FinSet nat_cmp → Bool
has_some s = not (len s == 0)

same_members : (s t : FinSet nat_cmp) → ((q : ℕ) → contains s q ≡ contains t q) → s ≡ t
same_members s t = same_set nat_cmp_total nat_cmp-IsAntisymmetric s t

pub len_none : (s : FinSet nat_cmp) → ((q : ℕ) → contains s q ≡ false) → len s ≡ 0
len_none s none = ap len (same_members s empty (λ q. none q ∙ sym (contains-empty nat_cmp q))) ∙ len-empty nat_cmp

none_len : (s : FinSet nat_cmp) → len s ≡ 0 → (q : ℕ) → contains s q ≡ false
none_len s zero q = ap (λ t. contains t q) (empty_of_len s zero) ∙ contains-empty nat_cmp q

-- a set with a number has at least one
len_some : (s : FinSet nat_cmp) (q : ℕ) → contains s q ≡ true → 1 ≤ len s
len_some s q there = elim (cases_eq (len s) 0) [
  | inl zero ↦ absurd (both_ways _ (none_len s zero q) there)
  | inr apart ↦ omega (arith, apart)
]

some_at : (s : FinSet nat_cmp) (q : ℕ) → contains s q ≡ true → has_some s ≡ true
some_at s q there = ap not (ne_eqb (len s) 0 (λ zero. omega (arith, zero, len_some s q there)))

none_in : (s : FinSet nat_cmp) → has_some s ≡ false → (q : ℕ) → contains s q ≡ false
none_in s none = none_len s (eqb-true (len s) 0 (not-false _ none))

has_none : (s : FinSet nat_cmp) → len s ≡ 0 → has_some s ≡ false
has_none s zero = ap not (eq-eqb (len s) 0 zero)

-- ---- the numbers with something under them

abbrev pub under : Option LiveSnapshot → Bool
under o = option_map_or (λ x. not (len x.old_commits == 0)) o false

kept_or_none : (b : Bool) (o : Option LiveSnapshot) → b ≡ under o → is_some (cond b o None) ≡ b
kept_or_none true None is = absurd cc
kept_or_none true (Some x) is = refl
kept_or_none false o is = refl

pub contains-kept : (m : Snapshots) (q : ℕ) → contains (kept_numbers m) q ≡ has_old_commits m q
contains-kept m q =
    contains-from_list nat_cmp_total _ q
    ∙ sym (finite.contains_key-keys (finite.retain_keys m (has_old_commits m)) q)
    ∙ ap is_some (finite.get-retain_keys m (has_old_commits m) q (λ x tied. ap (has_old_commits m) (sym (nat_cmp-IsAntisymmetric q x tied))))
    ∙ kept_or_none (has_old_commits m q) (finite.get m q) refl

abbrev pub old_commit_in : Option LiveSnapshot → ℕ → Bool
old_commit_in o p = option_map_or (λ x. contains x.old_commits p) o false

none_under : (o : Option LiveSnapshot) → under o ≡ false → (p : ℕ) → old_commit_in o p ≡ false
none_under None none p = refl
none_under (Some x) none p = none_in x.old_commits none p

under_none : (o : Option LiveSnapshot) → ((p : ℕ) → old_commit_in o p ≡ false) → under o ≡ false
under_none None none = refl
under_none (Some x) none = has_none x.old_commits (len_none x.old_commits none)

-- the old commit map is empty just where no live number has something under it
pub no_old_commits : (m : Snapshots) → len (kept_numbers m) ≡ 0 → NoOldCommits m
no_old_commits m zero s p = none_under (finite.get m s) (sym (contains-kept m s) ∙ none_len (kept_numbers m) zero s) p

pub none_kept_of : (m : Snapshots) → NoOldCommits m → len (kept_numbers m) ≡ 0
none_kept_of m none = len_none (kept_numbers m) (λ s. contains-kept m s ∙ under_none (finite.get m s) (none s))

-- ---- one number changes

pub len-changed : (old new : Snapshots) (s : ℕ) → ((q : ℕ) → (q ≡ s → ⊥) → finite.get new q ≡ finite.get old q) → len (kept_numbers new) + from_bool (has_old_commits old s) ≡ len (kept_numbers old) + from_bool (has_old_commits new s)
len-changed old new s apart = by (has_old_commits old s) (has_old_commits new s) refl refl
  where
    at_others : (q : ℕ) → (q ≡ s → ⊥) → contains (kept_numbers new) q ≡ contains (kept_numbers old) q
    at_others q other = contains-kept new q ∙ ap under (apart q other) ∙ sym (contains-kept old q)

    same : (b : Bool) → has_old_commits old s ≡ b → has_old_commits new s ≡ b → len (kept_numbers new) ≡ len (kept_numbers old)
    same b had has = ap len (same_members _ _ (λ q. elim (cases_eq q s) [
      | inl here ↦ ap (contains (kept_numbers new)) here ∙ contains-kept new s ∙ has ∙ sym had ∙ sym (contains-kept old s) ∙ ap (contains (kept_numbers old)) (sym here)
      | inr other ↦ at_others q other
    ]))

    by : (a b : Bool) → has_old_commits old s ≡ a → has_old_commits new s ≡ b → len (kept_numbers new) + from_bool a ≡ len (kept_numbers old) + from_bool b
    by true true had has = ap (λ n. n + 1) (same true had has)
    by false false had has = ap (λ n. n + 0) (same false had has)
    by false true had has =
        let is : kept_numbers new ≡ insert (kept_numbers old) s = same_members _ _ (λ q. elim (cases_eq q s) [
          | inl here ↦ ap (contains (kept_numbers new)) here ∙ contains-kept new s ∙ has ∙ sym (in_inserted (kept_numbers old) s) ∙ ap (contains (insert (kept_numbers old) s)) (sym here)
          | inr other ↦ at_others q other ∙ sym (in_inserted_else (kept_numbers old) s q other)
        ]) in
        let more : len (kept_numbers new) ≡ len (kept_numbers old) + 1 = ap len is ∙ len-insert nat_cmp_total (kept_numbers old) s ∙ ap (λ b. cond b (len (kept_numbers old)) (len (kept_numbers old) + 1)) (contains-kept old s ∙ had) in
        omega (arith, more)
    by true false had has =
        let is : kept_numbers new ≡ remove (kept_numbers old) s = same_members _ _ (λ q. elim (cases_eq q s) [
          | inl here ↦ ap (contains (kept_numbers new)) here ∙ contains-kept new s ∙ has ∙ sym (in_removed (kept_numbers old) s) ∙ ap (contains (remove (kept_numbers old) s)) (sym here)
          | inr other ↦ at_others q other ∙ sym (in_removed_else (kept_numbers old) s q other)
        ]) in
        let less : len (kept_numbers new) ≡ len (kept_numbers old) - 1 = ap len is ∙ len-remove nat_cmp_total (kept_numbers old) s ∙ ap (λ b. cond b (len (kept_numbers old) - 1) (len (kept_numbers old))) (contains-kept old s ∙ had) in
        let some = len_some (kept_numbers old) s (contains-kept old s ∙ had) in
        omega (arith, less, some)

pub has_counted : (m : Snapshots) (s : ℕ) → from_bool (has_old_commits m s) ≤ len (kept_numbers m)
has_counted m s = by (has_old_commits m s) refl
  where
    by : (b : Bool) → has_old_commits m s ≡ b → from_bool b ≤ len (kept_numbers m)
    by true is = len_some (kept_numbers m) s (contains-kept m s ∙ is)
    by false is = omega arith

module _ (old new : Snapshots) (s : ℕ) (change : Option LiveSnapshot → Option LiveSnapshot) (changes : ChangesWhere (λ q. q == s) change old new) where
  elsewhere : (q : ℕ) → (q ≡ s → ⊥) → finite.get new q ≡ finite.get old q
  elsewhere q other = changes q ∙ ap (λ b. cond b (change (finite.get old q)) (finite.get old q)) (ne_eqb q s other)

  here : finite.get new s ≡ change (finite.get old s)
  here = changes s ∙ ap (λ b. cond b (change (finite.get old s)) (finite.get old s)) (eq-eqb s s refl)

  -- as many before the change and after it, but for what the changed number had and has
  pub len-change : len (kept_numbers new) + from_bool (has_old_commits old s) ≡ len (kept_numbers old) + from_bool (under (change (finite.get old s)))
  len-change = len-changed old new s elsewhere ∙ ap (λ o. len (kept_numbers old) + from_bool (under o)) here

  -- a change that leaves what is under a number leaves how many there are
  pub len-same : under (change (finite.get old s)) ≡ has_old_commits old s → len (kept_numbers new) ≡ len (kept_numbers old)
  len-same same = let e = len-change in let f = ap from_bool same in omega (arith, e, f)

pub under-register : (o : Option LiveSnapshot) → under (after_register o) ≡ under o
under-register None = has_none empty (len-empty nat_cmp)
under-register (Some x) = refl

pub under-keep : (p : ℕ) (x : LiveSnapshot) → under (after_keep p (Some x)) ≡ true
under-keep p x = some_at (insert x.old_commits p) p (in_inserted x.old_commits p)

-- ---- what a call makes of one entry

has_at : (es : List (ℕ × RoomySnapshot)) (s : ℕ) (x : RoomySnapshot) → Some x ≡ snapshot_at es s → has_old_commits (shown_of es) s ≡ has_some x.snapshot.old_commits
has_at es s x found = ap under (get-shown_of es s ∙ ap shown (sym found))

pub had_counted : (es : List (ℕ × RoomySnapshot)) (s : ℕ) (x : RoomySnapshot) → Some x ≡ snapshot_at es s → from_bool (has_some x.snapshot.old_commits) ≤ len (kept_numbers (shown_of es))
had_counted es s x found = let e = ap from_bool (has_at es s x found) in omega (arith, e, has_counted (shown_of es) s)

pub len-register : (r : Result (Unit {0}) AllocError) (old new : Snapshots) (s : ℕ) → OnOk r (ChangesWhere (λ q. q == s) after_register old new) → OnErr r (new ≡ old) → len (kept_numbers new) ≡ len (kept_numbers old)
len-register (Ok done) old new s changes same = len-same old new s after_register changes (under-register (finite.get old s))
len-register (Err why) old new s changes same = ap (λ m. len (kept_numbers m)) same

module _ (es ns : List (ℕ × RoomySnapshot)) (s : ℕ) (x : RoomySnapshot) (found : Some x ≡ snapshot_at es s) where
  was : finite.get (shown_of es) s ≡ Some x.snapshot
  was = get-shown_of es s ∙ ap shown (sym found)

  pub len-keep : (p : ℕ) (first : Bool) → ChangesWhere (λ q. q == s) (after_keep p) (shown_of es) (shown_of ns) → first ≡ (len x.snapshot.old_commits == 0) → len (kept_numbers (shown_of ns)) ≡ len (kept_numbers (shown_of es)) + from_bool first
  len-keep p first changes is =
      let e = len-change (shown_of es) (shown_of ns) s (after_keep p) changes in
      let had = ap from_bool (has_at es s x found ∙ ap not (sym is)) in
      let has = ap from_bool (ap (λ o. under (after_keep p o)) was ∙ under-keep p x.snapshot) in
      by first e had has
    where
      by : (b : Bool) → len (kept_numbers (shown_of ns)) + from_bool (has_old_commits (shown_of es) s) ≡ len (kept_numbers (shown_of es)) + from_bool (under (after_keep p (finite.get (shown_of es) s))) → from_bool (has_old_commits (shown_of es) s) ≡ from_bool (not b) → from_bool (under (after_keep p (finite.get (shown_of es) s))) ≡ 1 → len (kept_numbers (shown_of ns)) ≡ len (kept_numbers (shown_of es)) + from_bool b
      by true e had has = omega (arith, e, had, has)
      by false e had has = omega (arith, e, had, has)

  pub len-release_shared : ChangesWhere (λ q. q == s) after_release (shown_of es) (shown_of ns) → 1 < x.snapshot.registrations → len (kept_numbers (shown_of ns)) ≡ len (kept_numbers (shown_of es))
  len-release_shared changes shared = len-same (shown_of es) (shown_of ns) s after_release changes (ap (λ o. under (after_release o)) was ∙ ap under (after_release-shared x.snapshot shared) ∙ sym (has_at es s x found))

  pub len-release_last : ChangesWhere (λ q. q == s) after_release (shown_of es) (shown_of ns) → x.snapshot.registrations ≤ 1 → len (kept_numbers (shown_of ns)) + from_bool (has_some x.snapshot.old_commits) ≡ len (kept_numbers (shown_of es))
  len-release_last changes last =
      let e = len-change (shown_of es) (shown_of ns) s after_release changes in
      let had = ap from_bool (has_at es s x found) in
      let gone = ap from_bool (ap (λ o. under (after_release o)) was ∙ ap under (after_release-last x.snapshot last)) in
      omega (arith, e, had, gone)

-- ---- no more than there are entries

pub len-none : (es : List (ℕ × RoomySnapshot)) → es ≡ [] → len (kept_numbers (shown_of es)) ≡ 0
len-none es none = ap (λ xs. len (kept_numbers (shown_of xs))) none ∙ none_kept_of finite.empty (λ s p. ap (λ o. old_commit_in o p) (finite.get-empty nat_cmp s))

pub len-kept : (es : List (ℕ × RoomySnapshot)) → len (kept_numbers (shown_of es)) ≤ length es
len-kept [] = omega (arith, len-none [] refl)
len-kept (e ∷ es) =
    let rest = shown_of es in
    let more = len-changed rest (shown_of (e ∷ es)) e.0 (λ q other. get_inserted_else rest e.0 e.1.snapshot q other) in
    let one = at_most_one (has_old_commits (shown_of (e ∷ es)) e.0) in
    omega (arith, more, one, len-kept es)

-- ---- what a hash set says of its numbers

pub no_keys : (ks : List ℕ) (b : Bool) → (IsTrue b ↔ (length ks ≡ 0)) → b ≡ (len (old_commit_set ks) == 0)
no_keys [] b is = is.1 refl ∙ sym (eq-eqb _ 0 (len-empty nat_cmp))
no_keys (k ∷ ks) b is =
    let some = len_some (old_commit_set (k ∷ ks)) k (in_inserted (old_commit_set ks) k) in
    by b is ∙ sym (ne_eqb (len (old_commit_set (k ∷ ks))) 0 (λ zero. omega (arith, zero, some)))
  where
    by : (b : Bool) → (IsTrue b ↔ (length (k ∷ ks) ≡ 0)) → b ≡ false
    by true is = absurd (omega (arith, is.0 refl))
    by false is = refl
