-- What stays of versions, for readers at numbers from a base on, is kept from there on.
use Rattle.std.proofs.Common.{◌≡◌, ℕ, ◌<◌, ◌≤◌, Bool, true, false, ◌==◌, ◌&&◌, ◌||◌, not, nat_le, nat_lt, List, [], ◌∷◌, Option, Some, None, is_none, is_some, refl, sym, ap, ◌∙◌, subst, inl, inr, arith}
use Rattle.std.specs.List.{list_any}
use Rattle.std.specs.Str.{bytes_eq}
use Rattle.std.proofs.lemmas.Bool.{false≢true, cases_lt, or_cases, or_left, or_right, and_parts, and_from, not-true, not_from_false, eqb-true, eq-eqb, ltb-true, lt-ltb, leb-true, le-leb, false_from_ne_true}
use Rattle.std.proofs.lemmas.Slice.Eq.{bytes_eq-Decides}
use Rattle.wp_model.specs.declared.entry.Entry.{Entry}
use Rattle.wp_model.specs.declared.version.Version.{Version}
use Rattle.wp_model.specs.Covered.{GivesNewest, GivesStore, is_among}
use Rattle.wp_model.specs.Decision.{IsCommittedAt}
use Rattle.wp_model.specs.Versions.{AreInOrder, version_at}
use Rattle.wp_keep.specs.Keep.{has_newer, stays, staying, is_fixed_deletion, remains, retained_of}
use Rattle.wp_keep.specs.MayGo.{DecidesAt, MayGo}
use Rattle.wp_cuts.specs.Kept.{IsNewestFrom, HasOlder, AreKept, StayFrom}
use Rattle.wp_cuts.proofs.Members.{version, in_any, any_in, at_in, in_at, some_order, at_some, some_at}
use Rattle.wp_cuts.proofs.Versions.{key_itself}

-- ---- numbers that are listed

pub record IsListed (test : ℕ → Bool) (numbers : List ℕ) : Type 0 where
  pub number : ℕ
  pub among : is_among numbers number ≡ true
  pub passes : test number ≡ true

listed_in : (test : ℕ → Bool) (numbers : List ℕ) → list_any test numbers ≡ true → IsListed test numbers
listed_in test [] any = absurd cc
listed_in test (n ∷ numbers) any = elim (or_cases (test n) (list_any test numbers) any) [
  | inl here ↦ record { number = n; among = or_left (n == n) (is_among numbers n) (eq-eqb n n refl); passes = here }
  | inr there ↦ let it = listed_in test numbers there in record { number = it.number; among = or_right (n == it.number) (is_among numbers it.number) it.among; passes = it.passes }
]

any_listed : (test : ℕ → Bool) (numbers : List ℕ) (n : ℕ) → is_among numbers n ≡ true → test n ≡ true → list_any test numbers ≡ true
any_listed test [] n among passes = absurd cc
any_listed test (m ∷ numbers) n among passes = elim (or_cases (m == n) (is_among numbers n) among) [
  | inl here ↦ or_left (test m) (list_any test numbers) (ap test (eqb-true m n here) ∙ passes)
  | inr there ↦ or_right (test m) (list_any test numbers) (any_listed test numbers n there passes)
]

-- ---- what stays

module _ (committed : ℕ → ℕ → Bool) (history : List Entry) (newer versions : List Version) (numbers : List ℕ) (base floor : ℕ)
    (go : MayGo committed history newer versions numbers floor) (from : StayFrom history versions numbers base floor) where
  abbrev stayed : List Version
  stayed = staying committed versions numbers floor

  abbrev stays_test : Version → Bool
  stays_test = stays committed versions numbers floor

  abbrev remains_test : Version → Bool
  remains_test = remains committed stayed floor

  abbrev kept : List Version
  kept = retained_of committed versions numbers floor

  stayed_order : AreInOrder stayed
  stayed_order = some_order stays_test versions go.in_order

  to_stayed : (key : List ℕ) (p : ℕ) (value : Option (List ℕ)) → version_at kept key p ≡ Some value → version_at stayed key p ≡ Some value
  to_stayed key p value e = (some_at remains_test stayed stayed_order key p value e).0

  before : (key : List ℕ) (p : ℕ) (value : Option (List ℕ)) → version_at kept key p ≡ Some value → version_at versions key p ≡ Some value
  before key p value e = (some_at stays_test versions go.in_order key p value (to_stayed key p value e)).0

  none_kept : (key : List ℕ) (p : ℕ) → ((value : Option (List ℕ)) → version_at kept key p ≡ Some value → ⊥) → version_at kept key p ≡ None
  none_kept key p never = by (version_at kept key p) refl
    where
      by : (o : Option (Option (List ℕ))) → version_at kept key p ≡ o → version_at kept key p ≡ None
      by None e = e
      by (Some value) e = absurd (never value e)

  none_before : (key : List ℕ) (p : ℕ) → version_at versions key p ≡ None → version_at kept key p ≡ None
  none_before key p none = none_kept key p (λ value e. let some = before key p value e in absurd cc)

  -- ---- numbers at which what is committed is known

  decides : (n : ℕ) → is_among (floor ∷ numbers) n ≡ true → DecidesAt committed history versions n
  decides n among = elim (or_cases (floor == n) (is_among numbers n) among) [
    | inl here ↦ subst (DecidesAt committed history versions) (eqb-true floor n here) go.at_floor
    | inr there ↦ go.at_snapshots n there
  ]

  low : (n : ℕ) → is_among (floor ∷ numbers) n ≡ true → base ≤ n
  low n among = elim (or_cases (floor == n) (is_among numbers n) among) [
    | inl here ↦ let same = eqb-true floor n here in let above = from.above in omega (arith, same, above)
    | inr there ↦ from.from_base n there
  ]

  abbrev newer_passes : List ℕ → ℕ → ℕ → Version → Bool
  newer_passes key p n w = bytes_eq w.key key && (nat_lt p w.number && committed w.number n)

  abbrev is_newest : List ℕ → ℕ → Option (List ℕ) → ℕ → Bool
  is_newest key p value n = committed p n && not (has_newer committed versions (version key p value) n)

  -- ---- each is the newest somewhere

  not_newer : (key : List ℕ) (p q n : ℕ) (value : Option (List ℕ)) → is_among (floor ∷ numbers) n ≡ true → has_newer committed versions (version key p value) n ≡ false → p < q → IsCommittedAt history q n → version_at kept key q ≡ None
  not_newer key p q n value among none above at = none_kept key q (λ x there.
      let e = before key q x there in
      let passes = (decides n among).true_of key q (ap is_some e) at in
      let it : newer_passes key p n (version key q x) ≡ true = and_from (bytes_eq key key) (nat_lt p q && committed q n) (key_itself key) (and_from (nat_lt p q) (committed q n) (lt-ltb p q above) passes) in
      absurd (false≢true (sym none ∙ in_any (newer_passes key p n) versions (version key q x) (at_in versions key q x e) it)))

  newest_at : (key : List ℕ) (p n : ℕ) (value : Option (List ℕ)) → version_at kept key p ≡ Some value → is_among (floor ∷ numbers) n ≡ true → is_newest key p value n ≡ true → IsNewestFrom history kept base key p
  newest_at key p n value there among newest_n =
      let parts = and_parts (committed p n) (not (has_newer committed versions (version key p value) n)) newest_n in
      record {
        at = n;
        from_base = low n among;
        committed = (decides n among).true_only key p (ap is_some (before key p value there)) parts.0;
        newest = λ q above at. not_newer key p q n value among (not-true (has_newer committed versions (version key p value) n) parts.1) above at;
      }

  newest : (key : List ℕ) (p : ℕ) (value : Option (List ℕ)) → version_at kept key p ≡ Some value → IsCommittedAt history p floor → IsNewestFrom history kept base key p
  newest key p value there at =
      let passes : committed p floor ≡ true = go.at_floor.true_of key p (ap is_some (before key p value there)) at in
      let stays_p : stays committed versions numbers floor (version key p value) ≡ true = (some_at stays_test versions go.in_order key p value (to_stayed key p value there)).1 in
      let it = listed_in (is_newest key p value) (floor ∷ numbers) (needed (committed p floor) passes stays_p) in
      newest_at key p it.number value there it.among it.passes
    where
      needed : (b : Bool) → b ≡ true → (not b || list_any (is_newest key p value) (floor ∷ numbers)) ≡ true → list_any (is_newest key p value) (floor ∷ numbers) ≡ true
      needed true is h = h
      needed false is h = absurd cc

  -- ---- a deletion has an older one

  abbrev older_passes : List ℕ → ℕ → Version → Bool
  older_passes key p w = bytes_eq w.key key && (nat_le w.number p && not (is_fixed_deletion committed floor w))

  older_from : (key : List ℕ) (p q : ℕ) (value : Option (List ℕ)) → q ≤ p → is_fixed_deletion committed floor (version key q value) ≡ false → older_passes key p (version key q value) ≡ true
  older_from key p q value le says =
      and_from (bytes_eq key key) (nat_le q p && not (is_fixed_deletion committed floor (version key q value))) (key_itself key)
      (and_from (nat_le q p) (not (is_fixed_deletion committed floor (version key q value))) (le-leb q p le) (not_from_false (is_fixed_deletion committed floor (version key q value)) says))

  -- what stays and is no fixed deletion remains
  remains_itself : (key : List ℕ) (p : ℕ) (value : Option (List ℕ)) → version_at stayed key p ≡ Some value → is_fixed_deletion committed floor (version key p value) ≡ false → version_at kept key p ≡ Some value
  remains_itself key p value e says =
      at_some remains_test stayed stayed_order key p value e (in_any (older_passes key p) stayed (version key p value) (at_in stayed key p value e) (older_from key p p value (omega arith) says))

  deletions : (key : List ℕ) (p : ℕ) → version_at kept key p ≡ Some None → IsCommittedAt history p floor → HasOlder kept key p
  deletions key p there at =
      let it = any_in (older_passes key p) stayed (some_at remains_test stayed stayed_order key p None there).1 in
      let parts = and_parts (bytes_eq it.found.key key) (nat_le it.found.number p && not (is_fixed_deletion committed floor it.found)) it.passes in
      let tests = and_parts (nat_le it.found.number p) (not (is_fixed_deletion committed floor it.found)) parts.1 in
      let same : it.found.key ≡ key = (bytes_eq-Decides it.found.key key).0 parts.0 in
      let here : version_at stayed key it.found.number ≡ Some it.found.value = ap (λ (k : List ℕ). version_at stayed k it.found.number) (sym same) ∙ in_at stayed it.found stayed_order it.there in
      let says : is_fixed_deletion committed floor (version key it.found.number it.found.value) ≡ false = not-true (is_fixed_deletion committed floor it.found) tests.1 in
      record {
        number = it.found.number;
        value = it.found.value;
        older = elim (cases_lt it.found.number p) [
          | inl lt ↦ lt
          | inr le ↦
              let low = leb-true it.found.number p tests.0 in
              let one : it.found.number ≡ p = omega (arith, low, le) in
              let deleted : it.found.value ≡ None = is_deletion it.found.value (sym (ap (version_at stayed key) (sym one) ∙ here) ∙ to_stayed key p None there) in
              let passes : committed it.found.number floor ≡ true = ap (λ (q : ℕ). committed q floor) one ∙ go.at_floor.true_of key p (ap is_some (before key p None there)) at in
              absurd (false≢true (sym says ∙ and_from (is_none it.found.value) (committed it.found.number floor) (ap is_none deleted) passes))
        ];
        there = remains_itself key it.found.number it.found.value here says;
      }
    where
      is_deletion : (value : Option (List ℕ)) → Some value ≡ Some None → value ≡ None
      is_deletion value e = cc

  -- ---- what is found at the base

  base_listed : is_among (floor ∷ numbers) base ≡ true
  base_listed = or_right (floor == base) (is_among numbers base) from.listed

  stays_at_base : (key : List ℕ) (g : GivesNewest versions history key base) → version_at stayed key g.number ≡ Some g.value
  stays_at_base key g =
      let none : has_newer committed versions (version key g.number g.value) base ≡ false = false_from_ne_true (has_newer committed versions (version key g.number g.value) base) (λ h.
      let it = any_in (newer_passes key g.number base) versions h in
      let parts = and_parts (bytes_eq it.found.key key) (nat_lt g.number it.found.number && committed it.found.number base) it.passes in
      let tests = and_parts (nat_lt g.number it.found.number) (committed it.found.number base) parts.1 in
      let there : version_at versions key it.found.number ≡ Some it.found.value = ap (λ (k : List ℕ). version_at versions k it.found.number) (sym ((bytes_eq-Decides it.found.key key).0 parts.0)) ∙ in_at versions it.found go.in_order it.there in
      let at = (decides base base_listed).true_only key it.found.number (ap is_some there) tests.1 in
      let none = g.newest it.found.number (ltb-true g.number it.found.number tests.0) at in
      absurd cc) in
      let passes = (decides base base_listed).true_of key g.number (ap is_some g.there) g.committed in
      let newest_here : is_newest key g.number g.value base ≡ true = and_from (committed g.number base) (not (has_newer committed versions (version key g.number g.value) base)) passes (not_from_false (has_newer committed versions (version key g.number g.value) base) none) in
      at_some stays_test versions go.in_order key g.number g.value g.there
      (or_right (not (committed g.number floor)) (list_any (is_newest key g.number g.value) (floor ∷ numbers)) (any_listed (is_newest key g.number g.value) (floor ∷ numbers) base base_listed newest_here))

  older_more : (key : List ℕ) (p q : ℕ) → q ≤ p → (w : Version) → older_passes key q w ≡ true → older_passes key p w ≡ true
  older_more key p q le w h =
      let parts = and_parts (bytes_eq w.key key) (nat_le w.number q && not (is_fixed_deletion committed floor w)) h in
      let tests = and_parts (nat_le w.number q) (not (is_fixed_deletion committed floor w)) parts.1 in
      let first = leb-true w.number q tests.0 in
      and_from (bytes_eq w.key key) (nat_le w.number p && not (is_fixed_deletion committed floor w)) parts.0
      (and_from (nat_le w.number p) (not (is_fixed_deletion committed floor w)) (le-leb w.number p (omega (arith, first, le))) tests.1)

  -- what remains as old lets this one remain too
  remains_above : (key : List ℕ) (p q : ℕ) (value other : Option (List ℕ)) → q ≤ p → version_at kept key q ≡ Some other → remains_test (version key p value) ≡ true
  remains_above key p q value other le there =
      let it = any_in (older_passes key q) stayed (some_at remains_test stayed stayed_order key q other there).1 in
      in_any (older_passes key p) stayed it.found it.there (older_more key p q le it.found it.passes)

  gives : (key : List ℕ) → GivesStore kept history key base
  gives key = by (from.gives key)
    where
      of_newest : (g : GivesNewest versions history key base) (b : Bool) → remains committed stayed floor (version key g.number g.value) ≡ b → GivesStore kept history key base
      of_newest g true is = inl (record {
        number = g.number;
        value = g.value;
        there = at_some remains_test stayed stayed_order key g.number g.value (stays_at_base key g) is;
        committed = g.committed;
        newest = λ q above at. none_before key q (g.newest q above at);
        stored = g.stored;
      })
      of_newest g false is = inr (record {
        none = λ q at. elim (cases_lt g.number q) [
          | inl above ↦ none_before key q (g.newest q above at)
          | inr le ↦ none_kept key q (λ x there. absurd (false≢true (sym is ∙ remains_above key g.number q g.value x le there)))
        ];
        missing = g.stored ∙ deleted (is_fixed_deletion committed floor (version key g.number g.value)) refl;
      })
        where
          none_value : (o : Option (List ℕ)) → is_none o ≡ true → o ≡ None
          none_value None h = refl
          none_value (Some x) h = absurd cc

          deleted : (b : Bool) → is_fixed_deletion committed floor (version key g.number g.value) ≡ b → g.value ≡ None
          deleted true h = none_value g.value (and_parts (is_none g.value) (committed g.number floor) h).0
          deleted false h = absurd (false≢true (sym is ∙ in_any (older_passes key g.number) stayed (version key g.number g.value) (at_in stayed key g.number g.value (stays_at_base key g)) (older_from key g.number g.number g.value (omega arith) h)))

      by : GivesStore versions history key base → GivesStore kept history key base
      by (inl g) = of_newest g (remains committed stayed floor (version key g.number g.value)) refl
      by (inr g) = inr (record { none = λ p at. none_before key p (g.none p at); missing = g.missing })

  pub are_kept : AreKept history base floor kept
  are_kept = record {
    order = some_order remains_test stayed stayed_order;
    part = λ key p value there. from.part key p value (before key p value there);
    within = λ key p value there. from.within key p value (before key p value there);
    gives = gives;
    newest = newest;
    deletions = deletions;
  }
