-- What versions have at a base hangs on those that are numbered up to it.
use Rattle.std.proofs.Common.{◌≡◌, ℕ, zero, suc, ◌+◌, ◌<◌, ◌≤◌, Bool, false, true, ◌==◌, ◌&&◌, cond, List, [], ◌∷◌, ◌++◌, length, map, take, drop, nat_le, Option, Some, None, refl, sym, ap, ◌∙◌, subst, inl, inr, append-nil, length-take-le, take-append-drop, arith}
use Rattle.std.specs.Option.{option_or}
use Rattle.std.specs.List.{AllByRecursion, filter, range_with_len}
use Rattle.std.specs.Str.{bytes_eq}
use Rattle.std.proofs.lemmas.Bool.{lt-leb, ne_eqb}
use Rattle.std.proofs.lemmas.List.Elements.{filter-append}
use Rattle.std.proofs.lemmas.List.Folds.{find-append}
use Rattle.wp_model.specs.declared.carried.Carried.{Carried}
use Rattle.wp_model.specs.declared.change.Change.{Change}
use Rattle.wp_model.specs.declared.entry.Entry.{Entry}
use Rattle.wp_model.specs.declared.entry.Entry.TheVariants.{Write}
use Rattle.wp_model.specs.declared.version.Version.{Version}
use Rattle.wp_model.specs.Covered.{GivesStore}
use Rattle.wp_model.specs.Decision.{IsCommittedAt}
use Rattle.wp_model.specs.Flushed.{versions_under, versions_after, later_versions}
use Rattle.wp_model.specs.Legal.{IsLegal, changes_in}
use Rattle.wp_model.specs.Versions.{AreInOrder, version_at}
use Rattle.wp_model.proofs.VersionLists.{or_cond}
use Rattle.wp_history_laws.proofs.Counting.{counts_from, counts_within}
use Rattle.wp_cuts.specs.Cut.{Cut, is_fixed, carried_at, value_in, base_value, change_in, changes_at, front_entry_of, front_entry, full_of}
use Rattle.wp_cuts.specs.UpTo.{HaveSameUpTo}
use Rattle.wp_cuts.proofs.FullList.{fixed_parts, full_is, base_newest, base_none}
use Rattle.wp_cuts.proofs.Versions.{newest_passing, found_none, found_some}

-- ---- later versions

abbrev pub AreAbove : ℕ → List Version → Type 0
AreAbove n versions = AllByRecursion (λ (v : Version). n < v.number) versions

above_both : (n : ℕ) (xs ys : List Version) → AreAbove n xs → AreAbove n ys → AreAbove n (xs ++ ys)
above_both n [] ys first second = second
above_both n (x ∷ xs) ys first second = (first.0, above_both n xs ys first.1 second)

above_under : (n m : ℕ) (changes : List Change) → n < m → AreAbove n (versions_under m changes)
above_under n m [] lt = tt
above_under n m (change ∷ changes) lt = (lt, above_under n m changes lt)

above_after : (n m : ℕ) (entries : List Entry) → n ≤ m → AreAbove n (versions_after m entries)
above_after n m [] le = tt
above_after n m (entry ∷ entries) le = above_both n (versions_under (suc m) (changes_in entry)) (versions_after (suc m) entries) (above_under n (suc m) (changes_in entry) (omega (arith, le))) (above_after n (suc m) entries (omega (arith, le)))

pub later_above : (history : List Entry) (base flushed : ℕ) → base ≤ flushed → AreAbove base (later_versions history flushed)
later_above history base flushed le = above_after base flushed (drop flushed history) le

none_above : (n : ℕ) (later : List Version) (key : List ℕ) (p : ℕ) → AreAbove n later → p ≤ n → version_at later key p ≡ None
none_above n [] key p above le = refl
none_above n (v ∷ later) key p above le =
    let lt = above.0 in
    rw (ne_eqb v.number p (λ same. absurd (omega (arith, same, lt, le))), none_above n later key p above.1 le) (past (bytes_eq v.key key))
  where
    past : (b : Bool) → let nothing : Option (Option (List ℕ)) = None in cond (b && false) (Some v.value) nothing ≡ nothing
    past true = refl
    past false = refl

or_none : {X : Type 0} (o : Option X) → option_or o None ≡ o
or_none None = refl
or_none (Some x) = refl

version_at_both : (xs ys : List Version) (key : List ℕ) (p : ℕ) → version_at (xs ++ ys) key p ≡ option_or (version_at xs key p) (version_at ys key p)
version_at_both [] ys key p = refl
version_at_both (x ∷ xs) ys key p = ap (cond (bytes_eq x.key key && (x.number == p)) (Some x.value)) (version_at_both xs ys key p) ∙ or_cond (bytes_eq x.key key && (x.number == p)) x.value (version_at xs key p) (version_at ys key p)

pub same_with_later : (base : ℕ) (versions later : List Version) → AreAbove base later → HaveSameUpTo base (versions ++ later) versions
same_with_later base versions later above key p le =
    version_at_both versions later key p ∙ ap (option_or (version_at versions key p)) (none_above base later key p above le) ∙ or_none (version_at versions key p)

-- ---- the values at the base

unfixed_above : (c : Cut) (p : ℕ) → c.base < p → is_fixed c p ≡ false
unfixed_above c p lt = rw (lt-leb p c.base lt) (no (nat_le 1 p))
  where
    no : (b : Bool) → (b && false) ≡ false
    no true = refl
    no false = refl

none_fixed : (c : Cut) (key : List ℕ) (later : List Version) → AreAbove c.base later → newest_passing (is_fixed c) key later ≡ None
none_fixed c key [] above = refl
none_fixed c key (v ∷ later) above = rw (unfixed_above c v.number above.0, none_fixed c key later above.1) (skip (bytes_eq v.key key))
  where
    skip : (b : Bool) → let nothing : Option Version = None in cond (b && false) (Some v) nothing ≡ nothing
    skip true = refl
    skip false = refl

pub value_with_later : (c : Cut) (versions later : List Version) (key : List ℕ) → AreAbove c.base later → base_value c (versions ++ later) key ≡ base_value c versions key
value_with_later c versions later key above =
    ap value_in (find-append (λ (v : Version). bytes_eq v.key key && is_fixed c v.number) versions later
    ∙ ap (option_or (newest_passing (is_fixed c) key versions)) (none_fixed c key later above)
    ∙ or_none (newest_passing (is_fixed c) key versions))

pub value_by_same : (c : Cut) (one other : List Version) (key : List ℕ) → AreInOrder one → AreInOrder other → HaveSameUpTo c.base one other → base_value c one key ≡ base_value c other key
value_by_same c one other key order also same = by (newest_passing (is_fixed c) key one) refl
  where
    within : (q : ℕ) → is_fixed c q ≡ true → version_at one key q ≡ version_at other key q
    within q fixed = let s = fixed_parts c q fixed in same key q s.within

    by : (o : Option Version) → newest_passing (is_fixed c) key one ≡ o → base_value c one key ≡ base_value c other key
    by None e = ap value_in e ∙ sym (base_none c other key also (λ q fixed. sym (within q fixed) ∙ found_none (is_fixed c) key one e q fixed))
    by (Some v) e =
        let it = found_some (is_fixed c) key one v order e in
        ap value_in e ∙ sym (base_newest c other key v.number v.value also (record {
          passing = it.passing;
          there = sym (within v.number it.passing) ∙ it.there;
          newest = λ q lt fixed. sym (within q fixed) ∙ it.newest q lt fixed;
        }))

-- ---- the full list

none_under : (n p : ℕ) (later : List Version) → AreAbove n later → p ≤ n → filter (λ v. v.number == p) later ≡ []
none_under n p [] above le = refl
none_under n p (v ∷ later) above le = let lt = above.0 in rw (ne_eqb v.number p (λ same. absurd (omega (arith, same, lt, le)))) (none_under n p later above.1 le)

changes_with_later : (n p : ℕ) (versions later : List Version) → AreAbove n later → p ≤ n → changes_at (versions ++ later) p ≡ changes_at versions p
changes_with_later n p versions later above le =
    ap (map change_in) (filter-append (λ (v : Version). v.number == p) versions later ∙ ap (λ (vs : List Version). filter (λ v. v.number == p) versions ++ vs) (none_under n p later above le) ∙ append-nil (filter (λ v. v.number == p) versions))

entry_with_later : (versions later : List Version) (n p : ℕ) (o : Option Carried) → AreAbove n later → p ≤ n → front_entry_of (versions ++ later) p o ≡ front_entry_of versions p o
entry_with_later versions later n p None above le = ap Write (changes_with_later n p versions later above le)
entry_with_later versions later n p (Some x) above le = refl

pub map_within : (f g : ℕ → Entry) (a n : ℕ) → ((p : ℕ) → p < a + n → f p ≡ g p) → map f (range_with_len a n) ≡ map g (range_with_len a n)
map_within f g a zero same = refl
map_within f g a (suc n) same =
    let rest : map f (range_with_len (a + 1) n) ≡ map g (range_with_len (a + 1) n) = map_within f g (a + 1) n (λ p lt. same p (omega (arith, lt))) in
    let first : f a ≡ g a = same a (omega arith) in
    λ i. first i ∷ rest i

pub full_with_later : (c : Cut) (versions later : List Version) → AreAbove c.base later → full_of c (versions ++ later) ≡ full_of c versions
full_with_later c versions later above =
    full_is c (versions ++ later)
    ∙ ap (λ (h : List Entry). h ++ c.entries) (map_within (front_entry c (versions ++ later)) (front_entry c versions) 1 c.base (λ p lt. entry_with_later versions later c.base p (carried_at c p) above (omega (arith, lt))))
    ∙ sym (full_is c versions)

-- ---- what readers find at the base

pub gives_by_same : (history : List Entry) (one other : List Version) (base : ℕ) (key : List ℕ) → IsLegal history → base ≤ length history → HaveSameUpTo base one other → GivesStore one history key base → GivesStore other history key base
gives_by_same history one other base key legal le same = by
  where
    low : (p : ℕ) → IsCommittedAt history p base → p ≤ base
    low p at =
        let front = take base history in
        let whole : history ≡ front ++ drop base history = sym (take-append-drop base history) in
        let long : length front ≡ base = length-take-le base history le in
        let its : IsCommittedAt (front ++ drop base history) p (length front) = subst (IsCommittedAt (front ++ drop base history) p) (sym long) (subst (λ (h : List Entry). IsCommittedAt h p base) whole at) in
        let within = counts_within front p (counts_from front (drop base history) p (subst IsLegal whole legal) its) in
        omega (arith, within, long)

    by : GivesStore one history key base → GivesStore other history key base
    by (inl g) = inl (record {
      number = g.number;
      value = g.value;
      there = sym (same key g.number (low g.number g.committed)) ∙ g.there;
      committed = g.committed;
      newest = λ q above at. sym (same key q (low q at)) ∙ g.newest q above at;
      stored = g.stored;
    })
    by (inr g) = inr (record { none = λ p at. sym (same key p (low p at)) ∙ g.none p at; missing = g.missing })
