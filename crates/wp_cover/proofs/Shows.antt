-- What versions show a reader, against what a reader is to find.
use Rattle.std.proofs.Common.{◌≡◌, ℕ, suc, ◌+◌, ◌<◌, ◌≤◌, ◌⊎◌, Bool, true, false, ◌==◌, ◌&&◌, cond, nat_lt, List, [], ◌∷◌, ◌++◌, length, get_or, drop, Bor, Option, Some, None, refl, sym, ap, ◌∙◌, subst, inl, inr, arith}
use Rattle.std.specs.Bool.{Decides}
use Rattle.std.specs.Option.{option_or}
use Rattle.std.specs.Str.{bytes_eq}
use Rattle.std.specs.Map.{lookup}
use Rattle.std.specs.BTreeMap.{is_at}
use Rattle.std.proofs.lemmas.Bool.{cases_order, false≢true, and_from, eq-eqb, ne_eqb, leb-true, le-leb, ltb-true, ltb-false}
use Rattle.wp_model.specs.declared.change.Change.{Change}
use Rattle.wp_model.specs.declared.entry.Entry.{Entry}
use Rattle.wp_model.specs.declared.version.Version.{Version}
use Rattle.wp_model.specs.Batch.{key_cmp, key_of, value_of as change_value}
use Rattle.wp_model.specs.History.{value_at}
use Rattle.wp_model.specs.Decision.{decision_of, IsCommittedAt, is_by, is_committed}
use Rattle.wp_model.specs.Flushed.{versions_under, versions_after}
use Rattle.wp_model.specs.Legal.{changes_in}
use Rattle.wp_model.specs.Versions.{version_at}
use Rattle.wp_model.specs.Covered.{GivesNewest, GivesStore}
use Rattle.wp_cover.specs.declared.shown.Newest.{Newest}
use Rattle.wp_cover.specs.Store.{Leaves, under}
use Rattle.wp_cover.specs.Shown.{is_above, number_of, value_of, newer, newest_from, shown, IsNewest, Notes}
use Rattle.wp_cover.proofs.Order.{is_here, same_key}
use Rattle.wp_cover.proofs.Places.{or_none, next_item}
use Rattle.wp_cover.proofs.Stores.{as_values, none_left}

and_false : (b : Bool) → (b && false) ≡ false
and_false true = refl
and_false false = refl

-- ---- the versions, one after the other

as_newest : (f g : List ℕ → Option Version) (newest : Newest) → ((key : List ℕ) → f key ≡ g key) → IsNewest f newest → IsNewest g newest
as_newest f g newest same had = record {
  numbers = λ key. had.numbers key ∙ ap number_of (same key);
  values = as_values _ _ newest.values (λ key. ap value_of (same key)) had.values;
}

pub none_newest : (newest : Newest) → newest.numbers.entries ≡ [] → newest.values.entries ≡ [] → IsNewest (λ key. None) newest
none_newest newest no_numbers no_values = record {
  numbers = λ key. ap (λ es. lookup (is_at (λ (k : Bor (List ℕ)). key_cmp key k.now)) es) no_numbers;
  values = none_left newest.values no_values;
}

module _ (history : List Entry) (n : ℕ) where
  pub none_noted : (vs : List Version) (newest : Newest) → vs ≡ [] → Notes history n vs newest newest
  none_noted vs newest none = subst (λ (ws : List Version). Notes history n ws newest newest) (sym none) (λ found had. had)

  pub one_more : (vs rest : List Version) (v : Version) (old now new : Newest) → vs ≡ v ∷ rest → Notes history n (v ∷ []) old now → Notes history n rest now new → Notes history n vs old new
  one_more vs rest v old now new is first second = subst (λ (ws : List Version). Notes history n ws old new) (sym is) (λ found had. second _ (first found had))

  newest_append : (key : List ℕ) (xs ys : List Version) (found : Option Version) → newest_from history n key (newest_from history n key found xs) ys ≡ newest_from history n key found (xs ++ ys)
  newest_append key [] ys found = refl
  newest_append key (x ∷ xs) ys found = newest_append key xs ys (newer history n key found x)

  pub notes_append : (xs ys : List Version) (old now new : Newest) → Notes history n xs old now → Notes history n ys now new → Notes history n (xs ++ ys) old new
  notes_append xs ys old now new first second found had = as_newest _ _ new (λ key. newest_append key xs ys (found key)) (second _ (first found had))

  -- the version of the change at the index, and those of the changes behind it
  pub change_noted : (number : ℕ) (changes : List Change) (i : ℕ) (change : Change) (key : List ℕ) (value : Option (List ℕ)) (old now new : Newest) → i < length changes → change ≡ get_or changes i change → key ≡ key_of change → value ≡ change_value change
      → Notes history n (record { key = key; number = number; value = value } ∷ []) old now → Notes history n (versions_under number (drop (i + 1) changes)) now new → Notes history n (versions_under number (drop i changes)) old new
  change_noted number changes i change key value old now new lt is keys values first second =
      one_more (versions_under number (drop i changes)) (versions_under number (drop (i + 1) changes)) (record { key = key; number = number; value = value }) old now new
      (ap (versions_under number) (next_item changes i change lt is) ∙ (λ j. record { key = sym keys j; number = number; value = sym values j } ∷ versions_under number (drop (i + 1) changes)))
      first second

  -- the versions of the entry after i, and those of the entries behind it
  pub later_noted : (i : ℕ) (entries others : List Entry) (entry : Entry) (changes : List Change) (old now new : Newest) → entries ≡ entry ∷ others → changes ≡ changes_in entry → Notes history n (versions_under (i + 1) changes) old now → Notes history n (versions_after (i + 1) others) now new → Notes history n (versions_after i entries) old new
  later_noted i entries others entry changes old now new is its first second =
      subst (λ (es : List Entry). Notes history n (versions_after i es) old new) (sym is)
      (subst (λ (m : ℕ). Notes history n (versions_under m (changes_in entry) ++ versions_after m others) old new) next
      (notes_append (versions_under (i + 1) (changes_in entry)) (versions_after (i + 1) others) old now new (subst (λ (cs : List Change). Notes history n (versions_under (i + 1) cs) old now) its first) second))
    where
      next : i + 1 ≡ suc i
      next = omega arith

  -- ---- one version

  pub uncommitted_noted : (v : Version) (newest : Newest) → is_committed history v.number n ≡ false → Notes history n (v ∷ []) newest newest
  uncommitted_noted v newest uncommitted found had = as_newest found _ newest (λ key. sym (passed key (bytes_eq v.key key))) had
    where
      passed : (key : List ℕ) (b : Bool) → cond (b && (is_committed history v.number n && is_above (number_of (found key)) v.number)) (Some v) (found key) ≡ found key
      passed key b = ap (λ (c : Bool). cond (b && (c && is_above (number_of (found key)) v.number)) (Some v) (found key)) uncommitted ∙ ap (λ (c : Bool). cond c (Some v) (found key)) (and_false b)

  pub older_noted : (v : Version) (newest : Newest) → is_above (under newest.numbers v.key) v.number ≡ false → Notes history n (v ∷ []) newest newest
  older_noted v newest older found had = as_newest found _ newest (λ key. sym (by key (bytes_eq v.key key) refl)) had
    where
      by : (key : List ℕ) (b : Bool) → bytes_eq v.key key ≡ b → cond (b && (is_committed history v.number n && is_above (number_of (found key)) v.number)) (Some v) (found key) ≡ found key
      by key true same =
          let below : is_above (number_of (found key)) v.number ≡ false = ap (λ (k : List ℕ). is_above (number_of (found k)) v.number) (sym (same_key v.key key same)) ∙ ap (λ (o : Option ℕ). is_above o v.number) (sym (had.numbers v.key)) ∙ older in
          ap (λ (c : Bool). cond (is_committed history v.number n && c) (Some v) (found key)) below ∙ ap (λ (c : Bool). cond c (Some v) (found key)) (and_false (is_committed history v.number n))
      by key false other = refl

  pub newer_noted : (v : Version) (old new : Newest) → is_committed history v.number n ≡ true → is_above (under old.numbers v.key) v.number ≡ true
      → ((key : List ℕ) → under new.numbers key ≡ cond (bytes_eq v.key key) (Some v.number) (under old.numbers key)) → Leaves v.key v.value old.values new.values → Notes history n (v ∷ []) old new
  newer_noted v old new committed above numbers left found had = record {
    numbers = λ key. numbers key ∙ ap (cond (bytes_eq v.key key) (Some v.number)) (had.numbers key) ∙ number_is key (bytes_eq v.key key) refl;
    values = as_values _ _ new.values (λ key. value_is key (bytes_eq v.key key) refl) (left _ had.values);
  }
    where
      taken : (key : List ℕ) → bytes_eq v.key key ≡ true → (is_committed history v.number n && is_above (number_of (found key)) v.number) ≡ true
      taken key same =
          and_from (is_committed history v.number n) (is_above (number_of (found key)) v.number) committed
          (ap (λ (k : List ℕ). is_above (number_of (found k)) v.number) (sym (same_key v.key key same)) ∙ ap (λ (o : Option ℕ). is_above o v.number) (sym (had.numbers v.key)) ∙ above)

      number_is : (key : List ℕ) (b : Bool) → bytes_eq v.key key ≡ b → cond b (Some v.number) (number_of (found key)) ≡ number_of (cond (b && (is_committed history v.number n && is_above (number_of (found key)) v.number)) (Some v) (found key))
      number_is key true same = ap (λ (c : Bool). number_of (cond c (Some v) (found key))) (sym (taken key same))
      number_is key false other = refl

      value_is : (key : List ℕ) (b : Bool) → bytes_eq v.key key ≡ b → cond b v.value (value_of (found key)) ≡ value_of (cond (b && (is_committed history v.number n && is_above (number_of (found key)) v.number)) (Some v) (found key))
      value_is key true same = ap (λ (c : Bool). value_of (cond c (Some v) (found key))) (sym (taken key same))
      value_is key false other = refl

-- ---- what is shown

module _ (history : List Entry) (n : ℕ) (key : List ℕ) where
  committed_from : (p : ℕ) → is_committed history p n ≡ true → IsCommittedAt history p n
  committed_from p h = by (decision_of history p) refl h
    where
      by : (o : Option ℕ) → decision_of history p ≡ o → is_by o n ≡ true → IsCommittedAt history p n
      by None e h = absurd cc
      by (Some commit) e h = record { by = commit; decided = e; within = leb-true commit n h }

  committed_to : (p : ℕ) → IsCommittedAt history p n → is_committed history p n ≡ true
  committed_to p c = ap (λ (o : Option ℕ). is_by o n) c.decided ∙ le-leb c.by n c.within

  -- the newest version of the key that is committed is shown
  record ShowsNewest (versions : List Version) : Type 0 where
    number : ℕ
    value : Option (List ℕ)
    there : version_at versions key number ≡ Some value
    committed : is_committed history number n ≡ true
    newest : (q : ℕ) → number < q → is_committed history q n ≡ true → version_at versions key q ≡ None
    shows : shown history n versions key ≡ value

  -- none is committed, and nothing is shown
  record ShowsNone (versions : List Version) : Type 0 where
    none : (p : ℕ) → is_committed history p n ≡ true → version_at versions key p ≡ None
    shows : shown history n versions key ≡ None

  abbrev Shows : List Version → Type 0
  Shows versions = ShowsNewest versions ⊎ ShowsNone versions

  -- ---- what is found among versions in any order

  -- what was found, where this is what is under the key and each number
  abbrev Finds : (ℕ → Option (Option (List ℕ))) → Option Version → Type 0
  Finds at None = (q : ℕ) → is_committed history q n ≡ true → at q ≡ None
  Finds at (Some w) = (at w.number ≡ Some w.value) × (is_committed history w.number n ≡ true) × ((q : ℕ) → w.number < q → is_committed history q n ≡ true → at q ≡ None)

  same_finds : (a b : ℕ → Option (Option (List ℕ))) → ((q : ℕ) → a q ≡ b q) → (found : Option Version) → Finds a found → Finds b found
  same_finds a b same None finds = λ q c. sym (same q) ∙ finds q c
  same_finds a b same (Some w) finds = (sym (same w.number) ∙ finds.0, finds.1, λ q lt c. sym (same q) ∙ finds.2 q lt c)

  -- with one version more behind what was looked at
  abbrev with_one : (ℕ → Option (Option (List ℕ))) → Version → ℕ → Option (Option (List ℕ))
  with_one at v q = option_or (at q) (cond (is_here key q v) (Some v.value) None)

  still : (at : ℕ → Option (Option (List ℕ))) (v : Version) (q : ℕ) (value : Option (List ℕ)) → at q ≡ Some value → with_one at v q ≡ Some value
  still at v q value e = ap (λ (o : Option (Option (List ℕ))). option_or o (cond (is_here key q v) (Some v.value) None)) e

  still_none : (at : ℕ → Option (Option (List ℕ))) (v : Version) (q : ℕ) → at q ≡ None → is_here key q v ≡ false → with_one at v q ≡ None
  still_none at v q e elsewhere = (λ i. option_or (e i) (cond (elsewhere i) (Some v.value) None))

  elsewhere_by : (v : Version) (q : ℕ) → (v.number == q) ≡ false → is_here key q v ≡ false
  elsewhere_by v q apart = ap (λ b. bytes_eq v.key key && b) apart ∙ and_false (bytes_eq v.key key)

  -- nothing that is committed stands in the version's place
  passes : (at : ℕ → Option (Option (List ℕ))) (v : Version) → ((q : ℕ) → is_committed history q n ≡ true → is_here key q v ≡ false) → (found : Option Version) → Finds at found → Finds (with_one at v) found
  passes at v elsewhere None finds = λ q c. still_none at v q (finds q c) (elsewhere q c)
  passes at v elsewhere (Some w) finds = (still at v w.number w.value finds.0, finds.1, λ q lt c. still_none at v q (finds.2 q lt c) (elsewhere q c))

  takes : (at : ℕ → Option (Option (List ℕ))) (v : Version) → bytes_eq v.key key ≡ true → is_committed history v.number n ≡ true → at v.number ≡ None → ((q : ℕ) → v.number < q → is_committed history q n ≡ true → at q ≡ None) → Finds (with_one at v) (Some v)
  takes at v same committed none above = (
    (λ i. option_or (none i) (cond (and_from (bytes_eq v.key key) (v.number == v.number) same (eq-eqb v.number v.number refl) i) (Some v.value) None)),
    committed,
    λ q lt c. still_none at v q (above q lt c) (elsewhere_by v q (ne_eqb v.number q (λ e. absurd (omega (arith, e, lt))))),
  )

  newer_finds : (at : ℕ → Option (Option (List ℕ))) (v : Version) (found : Option Version) → Finds at found → Finds (with_one at v) (newer history n key found v)
  newer_finds at v found finds = by (bytes_eq v.key key) refl (is_committed history v.number n) refl
    where
      above_or_not : bytes_eq v.key key ≡ true → is_committed history v.number n ≡ true → (o : Option Version) → Finds at o → Finds (with_one at v) (cond (is_above (number_of o) v.number) (Some v) o)
      above_or_not same committed None none = takes at v same committed (none v.number committed) (λ q lt c. none q c)
      above_or_not same committed (Some w) one = is_more (nat_lt w.number v.number) refl
        where
          is_more : (b : Bool) → nat_lt w.number v.number ≡ b → Finds (with_one at v) (cond b (Some v) (Some w))
          is_more true e = let lt : w.number < v.number = ltb-true w.number v.number e in takes at v same committed (one.2 v.number lt committed) (λ q more c. one.2 q (omega (arith, lt, more)) c)
          is_more false e =
              let ge : v.number ≤ w.number = ltb-false w.number v.number e in
              (still at v w.number w.value one.0, one.1, λ q lt c. still_none at v q (one.2 q lt c) (elsewhere_by v q (ne_eqb v.number q (λ same. absurd (omega (arith, same, lt, ge))))))

      by : (b : Bool) → bytes_eq v.key key ≡ b → (c : Bool) → is_committed history v.number n ≡ c → Finds (with_one at v) (cond (b && (c && is_above (number_of found) v.number)) (Some v) found)
      by true same true committed = above_or_not same committed found finds
      by true same false uncommitted = passes at v (λ q c. elsewhere_by v q (ne_eqb v.number q (λ e. false≢true (sym uncommitted ∙ ap (λ (p : ℕ). is_committed history p n) e ∙ c)))) found finds
      by false other c committed = passes at v (λ q c. ap (λ b. b && (v.number == q)) other) found finds

  one_then : (a : Option (Option (List ℕ))) (here : Bool) (v : Option (List ℕ)) (rest : Option (Option (List ℕ))) → option_or (option_or a (cond here (Some v) None)) rest ≡ option_or a (cond here (Some v) rest)
  one_then None true v rest = refl
  one_then None false v rest = refl
  one_then (Some x) here v rest = refl

  finds_from : (vs : List Version) (at : ℕ → Option (Option (List ℕ))) (found : Option Version) → Finds at found → Finds (λ q. option_or (at q) (version_at vs key q)) (newest_from history n key found vs)
  finds_from [] at found finds = same_finds at _ (λ q. sym (or_none (at q))) found finds
  finds_from (v ∷ vs) at found finds =
      same_finds _ _ (λ q. one_then (at q) (is_here key q v) v.value (version_at vs key q)) _
      (finds_from vs (with_one at v) (newer history n key found v) (newer_finds at v found finds))

  finds_shown : (versions : List Version) → Shows versions
  finds_shown versions = by (newest_from history n key None versions) refl (finds_from versions (λ q. None) None (λ q c. refl))
    where
      by : (o : Option Version) → newest_from history n key None versions ≡ o → Finds (λ q. version_at versions key q) o → Shows versions
      by None is none = inr (record { none = none; shows = ap value_of is })
      by (Some w) is one = inl (record { number = w.number; value = w.value; there = one.0; committed = one.1; newest = one.2; shows = ap value_of is })

  -- ---- and what a reader is to find

  pub gives_shown : (versions : List Version) → shown history n versions key ≡ value_at history key n → GivesStore versions history key n
  gives_shown versions same =
      elim (finds_shown versions) [
        | inl one ↦ inl (record { number = one.number; value = one.value; there = one.there; committed = committed_from one.number one.committed; newest = λ q lt c. one.newest q lt (committed_to q c); stored = sym same ∙ one.shows })
        | inr none ↦ inr (record { none = λ p c. none.none p (committed_to p c); missing = sym same ∙ none.shows })
      ]

  one_newest : (versions : List Version) → ShowsNewest versions → GivesNewest versions history key n → shown history n versions key ≡ value_at history key n
  one_newest versions one gives =
      elim (cases_order one.number gives.number) [
        | inl same ↦ let values : one.value ≡ gives.value = let e = sym one.there ∙ ap (version_at versions key) same ∙ gives.there in cc in one.shows ∙ values ∙ sym gives.stored
        | inr apart ↦ elim apart [
          | inl less ↦ let none = one.newest gives.number less (committed_to gives.number gives.committed) in let some = gives.there in absurd cc
          | inr more ↦ let none = gives.newest one.number more (committed_from one.number one.committed) in let some = one.there in absurd cc
        ]
      ]

  pub shown_gives : (versions : List Version) → GivesStore versions history key n → shown history n versions key ≡ value_at history key n
  shown_gives versions gives =
      elim (finds_shown versions) [
        | inl one ↦ elim gives [
          | inl newest ↦ one_newest versions one newest
          | inr none ↦ let nothing = none.none one.number (committed_from one.number one.committed) in let some = one.there in absurd cc
        ]
        | inr nothing ↦ elim gives [
          | inl newest ↦ let none = nothing.none newest.number (committed_to newest.number newest.committed) in let some = newest.there in absurd cc
          | inr none ↦ nothing.shows ∙ sym none.missing
        ]
      ]

-- where the maps are equal, each key is given
pub gives_all : (history : List Entry) (n : ℕ) (versions : List Version) (r : Bool) → Decides r ((key : List ℕ) → value_at history key n ≡ shown history n versions key) → Decides r ((key : List ℕ) → GivesStore versions history key n)
gives_all history n versions r decides = (λ yes key. gives_shown history n key versions (sym (decides.0 yes key)), λ gives. decides.1 (λ key. sym (shown_gives history n key versions (gives key))))
