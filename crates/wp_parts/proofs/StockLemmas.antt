-- What is so of the versions in memory and in tables.
use Rattle.std.proofs.Common.{◌≡◌, inl, inr, ℕ, ◌≤◌, ◌==◌, ◌&&◌, nat_le, nat_lt, Bool, true, false, cond, Less, Equal, Greater, List, [], ◌∷◌, ◌++◌, length, map, filter, Option, Some, None, refl, sym, ap, ◌∙◌, eqb-true, arith}
use Rattle.std.proofs.lemmas.Bool.{and_parts, cases_lt, lt-ltb, le-ltb, lt-leb, le-leb}
use Rattle.std.specs.List.{list_all}
use Rattle.std.specs.declared.cmp.Ordering.{Ordering}
use Rattle.std.specs.Option.{option_or}
use Rattle.std.specs.Str.{bytes_eq}
use Rattle.wp_model.specs.declared.change.Change.{Change}
use Rattle.wp_model.specs.declared.entry.Entry.{Entry}
use Rattle.wp_model.specs.declared.version.Version.{Version}
use Rattle.wp_model.specs.Batch.{change_to}
use Rattle.wp_model.specs.Legal.{changes_in}
use Rattle.wp_model.specs.Versions.{version_at, version_cmp}
use Rattle.wp_memtable.specs.Memtable.{HasChanges, above, below}
use Rattle.wp_merge.specs.Merge.{AreMerged, first_at, joined, sorted_of, merge_of, weave, choose_by_order}
use Rattle.wp_merge.proofs.Merged.{or_none}
use Rattle.wp_merge.proofs.Sorted.{at_append, at_sorted, in_order_sorted, merged_sorted}
use Rattle.wp_store.specs.Store.{parts_above}
use Rattle.wp_core.specs.Entries.{HasVersionsAt}
use Rattle.wp_parts.specs.Stock.{HasNoneAt}

abbrev Found : Type 0
Found = Option (Option (List ℕ))

-- ---- several parts

or_or : (a b c : Found) → option_or (option_or a b) c ≡ option_or a (option_or b c)
or_or None b c = refl
or_or (Some v) b c = refl

pub first_of_both : (xs ys : List (List Version)) (key : List ℕ) (p : ℕ) → first_at (xs ++ ys) key p ≡ option_or (first_at xs key p) (first_at ys key p)
first_of_both [] ys key p = refl
first_of_both (x ∷ xs) ys key p = ap (option_or (version_at x key p)) (first_of_both xs ys key p) ∙ sym (or_or (version_at x key p) (first_at xs key p) (first_at ys key p))

-- what the parts have as one
pub at_parts : (parts : List (List Version)) (key : List ℕ) (p : ℕ) → version_at (sorted_of (joined parts)) key p ≡ first_at parts key p
at_parts parts key p = (merged_sorted parts).each key p

-- memory and tables, each as one, are merged as all parts are
pub both_merged : (memory : List Version) (frozen tables : List (List Version)) → AreMerged (memory ∷ frozen ++ tables) (sorted_of (sorted_of (joined (memory ∷ frozen)) ++ sorted_of (joined tables)))
both_merged memory frozen tables = record {
  in_order = in_order_sorted (sorted_of (joined (memory ∷ frozen)) ++ sorted_of (joined tables));
  each = λ key p.
      at_sorted (sorted_of (joined (memory ∷ frozen)) ++ sorted_of (joined tables)) key p
      ∙ at_append (sorted_of (joined (memory ∷ frozen))) (sorted_of (joined tables)) key p
      ∙ ap (λ (o : Found). option_or o (version_at (sorted_of (joined tables)) key p)) (at_parts (memory ∷ frozen) key p)
      ∙ ap (option_or (first_at (memory ∷ frozen) key p)) (at_parts tables key p)
      ∙ sym (first_of_both (memory ∷ frozen) tables key p);
}

-- ---- an entry's versions come

pub inserted : (n : ℕ) (changes : List Change) (old new : List Version) (frozen : List (List Version)) (entry : Entry) → HasChanges n changes old new → changes_in entry ≡ changes → HasNoneAt n (sorted_of (joined (old ∷ frozen)))
    → HasVersionsAt (Some entry) n (sorted_of (joined (old ∷ frozen))) (sorted_of (joined (new ∷ frozen)))
inserted n changes old new frozen entry has is none key p =
    at_parts (new ∷ frozen) key p ∙ ap (λ (o : Found). option_or o (first_at frozen key p)) (has.each key p) ∙ by (p == n) refl
  where
    by : (b : Bool) → (p == n) ≡ b → option_or (cond b (option_or (change_to changes key) (version_at old key p)) (version_at old key p)) (first_at frozen key p) ≡ cond b (change_to (changes_in entry) key) (version_at (sorted_of (joined (old ∷ frozen))) key p)
    by true same =
        let here : option_or (version_at old key p) (first_at frozen key p) ≡ None = sym (at_parts (old ∷ frozen) key p) ∙ ap (version_at (sorted_of (joined (old ∷ frozen))) key) (eqb-true p n same) ∙ none key in
        or_or (change_to changes key) (version_at old key p) (first_at frozen key p) ∙ ap (option_or (change_to changes key)) here ∙ or_none key p (change_to changes key) ∙ ap (λ (cs : List Change). change_to cs key) (sym is)
    by false other = sym (at_parts (old ∷ frozen) key p)

-- ---- a number goes

module _ (stays : ℕ → Bool) (key : List ℕ) (p : ℕ) where
  abbrev pub staying : List Version → List Version
  staying versions = filter (λ v. stays v.number) versions

  gone : (b : Bool) → let nothing : Found = None in nothing ≡ cond b None None
  gone true = refl
  gone false = refl

  left_at : (versions : List Version) → version_at (staying versions) key p ≡ cond (stays p) (version_at versions key p) None
  left_at [] = gone (stays p)
  left_at (v ∷ versions) = by (stays v.number) refl (bytes_eq v.key key && (v.number == p)) refl (left_at versions)
    where
      at : (h : Bool) → (bytes_eq v.key key && (v.number == p)) ≡ h → h ≡ true → stays v.number ≡ stays p
      at h is here = ap stays (eqb-true v.number p (and_parts (bytes_eq v.key key) (v.number == p) (is ∙ here)).1)

      by : (s : Bool) → stays v.number ≡ s → (h : Bool) → (bytes_eq v.key key && (v.number == p)) ≡ h → version_at (staying versions) key p ≡ cond (stays p) (version_at versions key p) None
          → version_at (cond s (v ∷ staying versions) (staying versions)) key p ≡ cond (stays p) (version_at (v ∷ versions) key p) None
      by true s true h rest = let here : stays p ≡ true = sym (at true h refl) ∙ s in rw (h, here) refl
      by true s false h rest = rw h rest
      by false s true h rest = let here : stays p ≡ false = sym (at true h refl) ∙ s in rest ∙ rw here refl
      by false s false h rest = rw h rest

  pub first_left : (parts : List (List Version)) → first_at (map staying parts) key p ≡ cond (stays p) (first_at parts key p) None
  first_left [] = gone (stays p)
  first_left (part ∷ parts) =
      ap (λ (o : Found). option_or o (first_at (map staying parts) key p)) (left_at part)
      ∙ ap (option_or (cond (stays p) (version_at part key p) None)) (first_left parts)
      ∙ both (stays p) (version_at part key p) (first_at parts key p)
    where
      both : (b : Bool) (x y : Found) → option_or (cond b x None) (cond b y None) ≡ cond b (option_or x y) None
      both true x y = refl
      both false x y = refl

below_or_from : (n p : ℕ) (x : Found) → cond (nat_lt p n) x None ≡ cond (nat_le n p) None x
below_or_from n p x = elim (cases_lt p n) [
  | inl lower ↦ rw (lt-ltb p n lower, lt-leb n p lower) refl
  | inr within ↦ rw (le-ltb p n within, le-leb n p within) refl
]

pub removed : (n : ℕ) (memory : List Version) (frozen : List (List Version)) (key : List ℕ) (p : ℕ) → version_at (sorted_of (joined (below n memory ∷ map (below n) frozen))) key p ≡ cond (nat_le n p) None (version_at (sorted_of (joined (memory ∷ frozen))) key p)
removed n memory frozen key p =
    at_parts (below n memory ∷ map (below n) frozen) key p
    ∙ first_left (λ m. nat_lt m n) key p (memory ∷ frozen)
    ∙ below_or_from n p (first_at (memory ∷ frozen) key p)
    ∙ ap (cond (nat_le n p) None) (sym (at_parts (memory ∷ frozen) key p))

-- ---- what is in memory as a whole

none_joined : (parts : List (List Version)) → list_all (λ part. length part == 0) parts ≡ true → joined parts ≡ []
none_joined [] all = refl
none_joined ([] ∷ parts) all = none_joined parts all
none_joined ((v ∷ part) ∷ parts) all =
    let none = (and_parts (length (v ∷ part) == 0) (list_all (λ others. length others == 0) parts) all).0 in
    absurd (omega (arith, eqb-true (length (v ∷ part)) 0 none))

some_joined : (parts : List (List Version)) → list_all (λ part. length part == 0) parts ≡ false → 1 ≤ length (joined parts)
some_joined [] some = absurd cc
some_joined ([] ∷ parts) some = some_joined parts some
some_joined ((v ∷ part) ∷ parts) some = let counted : 1 ≤ length (v ∷ (part ++ joined parts)) = omega arith in counted

some_sorted : (versions : List Version) → 1 ≤ length versions → 1 ≤ length (sorted_of versions)
some_sorted [] some = absurd (omega (arith, some))
some_sorted (v ∷ versions) some = woven (sorted_of versions)
  where
    chosen : (o : Ordering) (y : Version) (a b c : List Version) → 1 ≤ length (choose_by_order o (v ∷ a) (v ∷ b) (y ∷ c))
    chosen Less y a b c = omega arith
    chosen Equal y a b c = omega arith
    chosen Greater y a b c = omega arith

    woven : (ys : List Version) → 1 ≤ length (merge_of (v ∷ []) ys)
    woven [] = omega arith
    woven (y ∷ ys) = chosen (version_cmp v y) y (y ∷ ys) ys (weave v (merge_of []) ys)

pub nothing_in_memory : (memory : List Version) (frozen : List (List Version)) → list_all (λ part. length part == 0) (memory ∷ frozen) ≡ true → sorted_of (joined (memory ∷ frozen)) ≡ []
nothing_in_memory memory frozen all = ap sorted_of (none_joined (memory ∷ frozen) all)

pub something_in_memory : (memory : List Version) (frozen : List (List Version)) → list_all (λ part. length part == 0) (memory ∷ frozen) ≡ false → 1 ≤ length (sorted_of (joined (memory ∷ frozen)))
something_in_memory memory frozen some = some_sorted (joined (memory ∷ frozen)) (some_joined (memory ∷ frozen) some)

-- ---- what was flushed goes

-- the parts that have a version
abbrev filled : List (List Version) → List (List Version)
filled parts = filter (λ part. nat_lt 0 (length part)) parts

-- ... miss no version of the others
at_filled : (parts : List (List Version)) (key : List ℕ) (p : ℕ) → first_at (filled parts) key p ≡ first_at parts key p
at_filled [] key p = refl
at_filled ([] ∷ parts) key p = at_filled parts key p
at_filled ((v ∷ part) ∷ parts) key p =
    let some : nat_lt 0 (length (v ∷ part)) ≡ true = lt-ltb 0 (length (v ∷ part)) (omega arith) in
    ap (λ (b : Bool). first_at (cond b ((v ∷ part) ∷ filled parts) (filled parts)) key p) some ∙ ap (option_or (version_at (v ∷ part) key p)) (at_filled parts key p)

up_to_or_above : (n p : ℕ) (x : Found) → cond (nat_lt n p) x None ≡ cond (nat_le p n) None x
up_to_or_above n p x = elim (cases_lt n p) [
  | inl later ↦ rw (lt-ltb n p later, lt-leb p n later) refl
  | inr within ↦ rw (le-ltb n p within, le-leb p n within) refl
]

pub in_step : (n : ℕ) (memory : List Version) (frozen : List (List Version)) (key : List ℕ) (p : ℕ) → version_at (sorted_of (joined (above n memory ∷ parts_above n frozen))) key p ≡ cond (nat_le p n) None (version_at (sorted_of (joined (memory ∷ frozen))) key p)
in_step n memory frozen key p =
    at_parts (above n memory ∷ parts_above n frozen) key p
    ∙ ap (option_or (version_at (above n memory) key p)) (at_filled (map (above n) frozen) key p)
    ∙ first_left (nat_lt n) key p (memory ∷ frozen)
    ∙ up_to_or_above n p (first_at (memory ∷ frozen) key p)
    ∙ ap (cond (nat_le p n) None) (sym (at_parts (memory ∷ frozen) key p))
