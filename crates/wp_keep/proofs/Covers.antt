-- What stays covers a history as well as all did.
use Rattle.std.proofs.Common.{◌≡◌, ℕ, ◌<◌, ◌≤◌, ◌⊎◌, Bool, true, false, ◌==◌, ◌&&◌, ◌||◌, not, List, [], ◌∷◌, ◌++◌, length, nat_le, nat_lt, Option, Some, None, is_none, is_some, refl, sym, ap, ◌∙◌, inl, inr, arith}
use Rattle.std.specs.Option.{option_or}
use Rattle.std.specs.List.{list_any}
use Rattle.std.specs.Str.{bytes_eq}
use Rattle.std.proofs.lemmas.Bool.{false≢true, cases_lt, and_parts, and_from, or_left, or_right, not_from_false, eqb-true, eq-eqb, ltb-true, leb-true, le-leb, false_from_ne_true, and_right}
use Rattle.std.proofs.lemmas.Slice.Eq.{bytes_eq-Decides}
use Rattle.wp_model.specs.declared.entry.Entry.{Entry}
use Rattle.wp_model.specs.History.{is_undecided}
use Rattle.wp_model.specs.Legal.{IsLegal}
use Rattle.wp_model.specs.Decision as decision
use Rattle.wp_model.specs.declared.version.Version.{Version}
use Rattle.wp_model.specs.Versions.{version_at}
use Rattle.wp_keep.specs.Keep.{has_newer, stays, staying, is_fixed_deletion, remains, retained_of}
use Rattle.wp_keep.specs.MayGo.{DecidesAt, MayGo}
use Rattle.wp_model.specs.Covered.{GivesNewest, GivesNone, GivesStore, is_among, IsCovered}
use Rattle.wp_keep.proofs.Order.{in_order_filter, bytes_eq-same}
use Rattle.wp_keep.proofs.Lookups.{version, at_both, any_mono, any_found, at_filter, passed_filter, in_filtered, finds}
use Rattle.wp_model.proofs.Entries.{entry_at_past}
use Rattle.wp_keep.proofs.Undone.{undecided_uncommitted, UndoesLast, undoes_last}

-- ---- lists and options

any_listed : (g : ℕ → Bool) (ns : List ℕ) (n : ℕ) → is_among ns n ≡ true → g n ≡ true → list_any g ns ≡ true
any_listed g [] n h e = absurd cc
any_listed g (m ∷ ms) n h e = by (m == n) refl h (λ r. any_listed g ms n r e)
  where
    by : (b : Bool) → (m == n) ≡ b → (b || is_among ms n) ≡ true → (is_among ms n ≡ true → list_any g ms ≡ true) → (g m || list_any g ms) ≡ true
    by true same is rest = or_left (g m) (list_any g ms) (ap g (eqb-true m n same) ∙ e)
    by false other is rest = or_right (g m) (list_any g ms) (rest is)

or_none : (a b : Option (Option (List ℕ))) → option_or a b ≡ None → (a ≡ None) × (b ≡ None)
or_none None b h = (refl, h)
or_none (Some x) b h = absurd cc

module _ (committed : ℕ → ℕ → Bool) (history : List Entry) (newer versions : List Version) (snapshots : List ℕ) (floor : ℕ) where
  abbrev stayed : List Version
  stayed = staying committed versions snapshots floor

  abbrev retained : List Version
  retained = retained_of committed versions snapshots floor

  -- ---- what stays

  stayed_before : MayGo committed history newer versions snapshots floor → (key : List ℕ) (p : ℕ) (value : Option (List ℕ)) → version_at stayed key p ≡ Some value → version_at versions key p ≡ Some value
  stayed_before go key p value e = in_filtered key p (stays committed versions snapshots floor) versions value go.in_order e

  retained_stayed : MayGo committed history newer versions snapshots floor → (key : List ℕ) (p : ℕ) (value : Option (List ℕ)) → version_at retained key p ≡ Some value → version_at stayed key p ≡ Some value
  retained_stayed go key p value e = in_filtered key p (remains committed stayed floor) stayed value (in_order_filter (stays committed versions snapshots floor) versions go.in_order) e

  -- what the newer ones and those that stay have, all had
  all_before : MayGo committed history newer versions snapshots floor → (key : List ℕ) (p : ℕ) (value : Option (List ℕ)) → version_at (newer ++ retained) key p ≡ Some value → version_at (newer ++ versions) key p ≡ Some value
  all_before go key p value e = at_both newer versions key p ∙ by (version_at newer key p) (sym (at_both newer retained key p) ∙ e)
    where
      by : (o : Option (Option (List ℕ))) → option_or o (version_at retained key p) ≡ Some value → option_or o (version_at versions key p) ≡ Some value
      by None h = stayed_before go key p value (retained_stayed go key p value h)
      by (Some x) h = h

  all_none : MayGo committed history newer versions snapshots floor → (key : List ℕ) (p : ℕ) → version_at (newer ++ versions) key p ≡ None → version_at (newer ++ retained) key p ≡ None
  all_none go key p none = by (version_at (newer ++ retained) key p) refl
    where
      by : (o : Option (Option (List ℕ))) → version_at (newer ++ retained) key p ≡ o → o ≡ None
      by None e = refl
      by (Some x) e = let some = all_before go key p x e in absurd cc

  -- of what all have a version stays where it is newer, or where it stays itself
  all_after : (key : List ℕ) (p : ℕ) (value : Option (List ℕ)) → version_at (newer ++ versions) key p ≡ Some value → (version_at newer key p ≡ None → version_at versions key p ≡ Some value → version_at retained key p ≡ Some value) → version_at (newer ++ retained) key p ≡ Some value
  all_after key p value e there = at_both newer retained key p ∙ by (version_at newer key p) refl (sym (at_both newer versions key p) ∙ e)
    where
      by : (o : Option (Option (List ℕ))) → version_at newer key p ≡ o → option_or o (version_at versions key p) ≡ Some value → option_or o (version_at retained key p) ≡ Some value
      by None is h = there is h
      by (Some x) is h = h

  stays_uncommitted : (key : List ℕ) (p : ℕ) (value : Option (List ℕ)) → version_at versions key p ≡ Some value → committed p floor ≡ false → version_at stayed key p ≡ Some value
  stays_uncommitted key p value e not_there =
      at_filter key p (stays committed versions snapshots floor) versions value e (or_left _ _ (not_from_false (committed p floor) not_there))

  -- no version of the key above p is committed at n
  abbrev NoneAbove : List ℕ → ℕ → ℕ → Type 0
  NoneAbove key p n = (q : ℕ) (value : Option (List ℕ)) → p < q → version_at versions key q ≡ Some value → committed q n ≡ true → ⊥

  none_newer : (key : List ℕ) (p n : ℕ) (value : Option (List ℕ)) → NoneAbove key p n → has_newer committed versions (version key p value) n ≡ false
  none_newer key p n value none = false_from_ne_true _ (λ h.
      let it = finds (λ w. bytes_eq w.key key && (nat_lt p w.number && committed w.number n)) versions h in
      let parts = and_parts (bytes_eq it.found.key key) (nat_lt p it.found.number && committed it.found.number n) it.passes in
      let tests = and_parts (nat_lt p it.found.number) (committed it.found.number n) parts.1 in
      none it.found.number it.value (ltb-true p it.found.number tests.0) (ap (λ k. version_at versions k it.found.number) (sym ((bytes_eq-Decides it.found.key key).0 parts.0)) ∙ it.there) tests.1)

  stays_newest : (key : List ℕ) (p n : ℕ) (value : Option (List ℕ)) → version_at versions key p ≡ Some value → committed p n ≡ true → NoneAbove key p n → is_among (floor ∷ snapshots) n ≡ true → version_at stayed key p ≡ Some value
  stays_newest key p n value e there none listed =
      let shown : (committed p n && not (has_newer committed versions (version key p value) n)) ≡ true = and_from (committed p n) (not (has_newer committed versions (version key p value) n)) there (not_from_false (has_newer committed versions (version key p value) n) (none_newer key p n value none)) in
      at_filter key p (stays committed versions snapshots floor) versions value e (or_right _ _ (any_listed (λ m. committed p m && not (has_newer committed versions (version key p value) m)) (floor ∷ snapshots) n listed shown))

  -- ---- what remains of it

  abbrev older_passes : List ℕ → ℕ → Version → Bool
  older_passes key p w = bytes_eq w.key key && (nat_le w.number p && not (is_fixed_deletion committed floor w))

  -- a version that stays remains where one as old says more than a deletion that is committed at the floor
  remains_over : (key : List ℕ) (p q : ℕ) (value older : Option (List ℕ)) → version_at stayed key p ≡ Some value → q ≤ p → version_at stayed key q ≡ Some older → is_fixed_deletion committed floor (version key q older) ≡ false → version_at retained key p ≡ Some value
  remains_over key p q value older e le at says =
      let passes : older_passes key p (version key q older) ≡ true = and_from (bytes_eq key key) (nat_le q p && not (is_fixed_deletion committed floor (version key q older))) (bytes_eq-same key) (and_from (nat_le q p) (not (is_fixed_deletion committed floor (version key q older))) (le-leb q p le) (not_from_false (is_fixed_deletion committed floor (version key q older)) says)) in
      at_filter key p (remains committed stayed floor) stayed value e (any_found key q (older_passes key p) stayed older at passes)

  pub record IsDropped (key : List ℕ) (p : ℕ) (value : Option (List ℕ)) : Type 0 where
    pub deletion : value ≡ None
    pub below : (q : ℕ) → q ≤ p → version_at retained key q ≡ None

  older_more : (key : List ℕ) (p q : ℕ) → q ≤ p → (w : Version) → older_passes key q w ≡ true → older_passes key p w ≡ true
  older_more key p q le w h =
      let parts = and_parts (bytes_eq w.key key) (nat_le w.number q && not (is_fixed_deletion committed floor w)) h in
      let tests = and_parts (nat_le w.number q) (not (is_fixed_deletion committed floor w)) parts.1 in
      let first = leb-true w.number q tests.0 in
      and_from (bytes_eq w.key key) (nat_le w.number p && not (is_fixed_deletion committed floor w)) parts.0 (and_from (nat_le w.number p) (not (is_fixed_deletion committed floor w)) (le-leb w.number p (omega arith)) tests.1)

  none_value : (o : Option (List ℕ)) → is_none o ≡ true → o ≡ None
  none_value None h = refl
  none_value (Some x) h = absurd cc

  remains_or_is_dropped : (key : List ℕ) (p : ℕ) (value : Option (List ℕ)) → version_at stayed key p ≡ Some value → (version_at retained key p ≡ Some value) ⊎ IsDropped key p value
  remains_or_is_dropped key p value e = by (remains committed stayed floor (version key p value)) refl
    where
      by : (b : Bool) → remains committed stayed floor (version key p value) ≡ b → (version_at retained key p ≡ Some value) ⊎ IsDropped key p value
      by true is = inl (at_filter key p (remains committed stayed floor) stayed value e is)
      by false is = inr (record { deletion = fixed (is_fixed_deletion committed floor (version key p value)) refl; below = λ q le. at q le (version_at retained key q) refl })
        where
          fixed : (b : Bool) → is_fixed_deletion committed floor (version key p value) ≡ b → value ≡ None
          fixed true h = none_value value (and_parts (is_none value) (committed p floor) h).0
          fixed false h = let remaining = passed_filter key p (remains committed stayed floor) stayed value (remains_over key p p value value e (omega arith) e h) in absurd (false≢true (sym is ∙ remaining))

          at : (q : ℕ) → q ≤ p → (o : Option (Option (List ℕ))) → version_at retained key q ≡ o → o ≡ None
          at q le None h = refl
          at q le (Some x) h =
              let remaining = passed_filter key q (remains committed stayed floor) stayed x h in
              absurd (false≢true (sym is ∙ any_mono (older_passes key q) (older_passes key p) (older_more key p q le) stayed remaining))

  -- ---- what a reader finds

  module _ (go : MayGo committed history newer versions snapshots floor) where
    none_more : (key : List ℕ) (p n m : ℕ) → n ≤ m → DecidesAt committed history versions n → ((q : ℕ) → p < q → decision.IsCommittedAt history q m → version_at (newer ++ versions) key q ≡ None) → NoneAbove key p n
    none_more key p n m le decides newest q value lt there passes =
        let committed_q = decides.true_only key q (ap is_some there) passes in
        let none = newest q lt (record { by = committed_q.by; decided = committed_q.decided; within = omega (arith, committed_q.within) }) in
        let parts = or_none (version_at newer key q) (version_at versions key q) (sym (at_both newer versions key q) ∙ none) in
        let second = parts.1 in
        absurd cc

    gives_none : (key : List ℕ) (n : ℕ) → GivesNone (newer ++ versions) history key n → GivesNone (newer ++ retained) history key n
    gives_none key n none = record { none = λ p is. all_none go key p (none.none p is); missing = none.missing }

    -- the newest one that a reader found is still there, or is a deletion with nothing left below it
    gives_newest : (key : List ℕ) (n : ℕ) (found : GivesNewest (newer ++ versions) history key n) → (version_at versions key found.number ≡ Some found.value → version_at stayed key found.number ≡ Some found.value) → GivesStore (newer ++ retained) history key n
    gives_newest key n found there = by (version_at newer key found.number) refl
      where
        whole : option_or (version_at newer key found.number) (version_at versions key found.number) ≡ Some found.value
        whole = sym (at_both newer versions key found.number) ∙ found.there

        still : version_at (newer ++ retained) key found.number ≡ Some found.value → GivesStore (newer ++ retained) history key n
        still e = inl (record { number = found.number; value = found.value; there = e; committed = found.committed; newest = λ q lt is. all_none go key q (found.newest q lt is); stored = found.stored })

        dropped : version_at newer key found.number ≡ None → version_at versions key found.number ≡ Some found.value → IsDropped key found.number found.value → GivesStore (newer ++ retained) history key n
        dropped apart here gone = inr (record { none = λ q is. at q is (cases_lt found.number q); missing = found.stored ∙ gone.deletion })
          where
            at : (q : ℕ) → decision.IsCommittedAt history q n → (found.number < q) ⊎ (q ≤ found.number) → version_at (newer ++ retained) key q ≡ None
            at q is (inl lt) = all_none go key q (found.newest q lt is)
            at q is (inr le) = at_both newer retained key q ∙ first (version_at newer key q) refl
              where
                first : (o : Option (Option (List ℕ))) → version_at newer key q ≡ o → option_or o (version_at retained key q) ≡ None
                first None h = gone.below q le
                first (Some x) h =
                    let above = go.no_older key q found.number (ap is_some h) (ap is_some here) in
                    let same : q ≡ found.number = omega arith in
                    let none : version_at newer key q ≡ None = ap (version_at newer key) same ∙ apart in
                    absurd cc

        by : (o : Option (Option (List ℕ))) → version_at newer key found.number ≡ o → GivesStore (newer ++ retained) history key n
        by (Some x) is = still (at_both newer retained key found.number ∙ ap (λ o. option_or o (version_at retained key found.number)) is ∙ sym (ap (λ o. option_or o (version_at versions key found.number)) is) ∙ whole)
        by None is =
            let here : version_at versions key found.number ≡ Some found.value = sym (ap (λ o. option_or o (version_at versions key found.number)) is) ∙ whole in
            elim (remains_or_is_dropped key found.number found.value (there here)) [
              | inl e ↦ still (at_both newer retained key found.number ∙ ap (λ o. option_or o (version_at retained key found.number)) is ∙ e)
              | inr gone ↦ dropped is here gone
            ]

    gives_listed : (key : List ℕ) (n : ℕ) → is_among snapshots n ≡ true → GivesStore (newer ++ versions) history key n → GivesStore (newer ++ retained) history key n
    gives_listed key n listed (inr none) = inr (gives_none key n none)
    gives_listed key n listed (inl found) = gives_newest key n found (λ here.
        let decides = go.at_snapshots n listed in
        stays_newest key found.number n found.value here (decides.true_of key found.number (ap is_some here) found.committed) (none_more key found.number n n (omega arith) decides found.newest) (or_right (floor == n) (is_among snapshots n) listed))

    -- what is committed at the floor and above which nothing later is committed stays, and what is not committed there
    stays_from : (key : List ℕ) (p n : ℕ) (value : Option (List ℕ)) → floor ≤ n → version_at versions key p ≡ Some value → ((q : ℕ) → p < q → decision.IsCommittedAt history q n → version_at (newer ++ versions) key q ≡ None) → version_at stayed key p ≡ Some value
    stays_from key p n value le here newest = by (committed p floor) refl
      where
        by : (b : Bool) → committed p floor ≡ b → version_at stayed key p ≡ Some value
        by false is = stays_uncommitted key p value here is
        by true is = stays_newest key p floor value here is (none_more key p floor n le go.at_floor newest) (or_left (floor == floor) (is_among snapshots floor) (eq-eqb floor floor refl))

    gives_later : (key : List ℕ) (n : ℕ) → floor ≤ n → GivesStore (newer ++ versions) history key n → GivesStore (newer ++ retained) history key n
    gives_later key n le (inr none) = inr (gives_none key n none)
    gives_later key n le (inl found) = gives_newest key n found (λ here. stays_from key found.number n found.value le here found.newest)

    -- ---- what is undecided, and the last undo

    undecided_unfixed : (key : List ℕ) (p : ℕ) (value : Option (List ℕ)) → is_undecided history p ≡ true → version_at versions key p ≡ Some value → committed p floor ≡ false
    undecided_unfixed key p value undecided here = false_from_ne_true (committed p floor) (λ passes. undecided_uncommitted history p floor undecided (go.at_floor.true_only key p (ap is_some here) passes))

    unfixed : (key : List ℕ) (p : ℕ) (value : Option (List ℕ)) → committed p floor ≡ false → is_fixed_deletion committed floor (version key p value) ≡ false
    unfixed key p value is = and_right (is_none value) (committed p floor) is

    undecided_stays : (key : List ℕ) (p : ℕ) (value : Option (List ℕ)) → is_undecided history p ≡ true → version_at versions key p ≡ Some value → version_at retained key p ≡ Some value
    undecided_stays key p value undecided here =
        let open_ = undecided_unfixed key p value undecided here in
        let there = stays_uncommitted key p value here open_ in
        remains_over key p p value value there (omega arith) there (unfixed key p value open_)

    undo_stays : (key : List ℕ) (value : Option (List ℕ)) (last : (p : ℕ) × UndoesLast history key p) (numbers : List ℕ) (from : ℕ) → IsCovered (newer ++ versions) history numbers from → version_at versions key (length history) ≡ Some value → version_at retained key (length history) ≡ Some value
    undo_stays key value last numbers from covered here =
        remains_over key (length history) last.0 value last.1.value stays_ (omega (arith, last.1.below)) prepare (unfixed key last.0 last.1.value (undecided_unfixed key last.0 last.1.value last.1.undecided prepare_here))
      where
        prepare_here : version_at versions key last.0 ≡ Some last.1.value
        prepare_here = by (version_at newer key last.0) refl (sym (at_both newer versions key last.0) ∙ covered.undecided key last.0 last.1.value last.1.undecided last.1.there)
          where
            by : (o : Option (Option (List ℕ))) → version_at newer key last.0 ≡ o → option_or o (version_at versions key last.0) ≡ Some last.1.value → version_at versions key last.0 ≡ Some last.1.value
            by None is e = e
            by (Some x) is e = let lt = go.no_older key last.0 (length history) (ap is_some is) (ap is_some here) in let below = last.1.below in absurd (omega arith)

        prepare : version_at stayed key last.0 ≡ Some last.1.value
        prepare = stays_uncommitted key last.0 last.1.value prepare_here (undecided_unfixed key last.0 last.1.value last.1.undecided prepare_here)

        past : (q : ℕ) → length history < q → decision.IsCommittedAt history q floor → version_at (newer ++ versions) key q ≡ None
        past q lt is = at (version_at (newer ++ versions) key q) refl
          where
            at : (o : Option (Option (List ℕ))) → version_at (newer ++ versions) key q ≡ o → o ≡ None
            at None e = refl
            at (Some x) e = let some = covered.part key q x e in let none = ap (λ (o : Option Entry). decision.version_in o key) (entry_at_past history q lt) in absurd cc

        stays_ : version_at stayed key (length history) ≡ Some value
        stays_ = stays_from key (length history) floor value (omega arith) here past

    pub covers : (numbers : List ℕ) (from : ℕ) → IsLegal history → from ≤ floor → ((n : ℕ) → is_among numbers n ≡ true → is_among snapshots n ≡ true) → IsCovered (newer ++ versions) history numbers from → IsCovered (newer ++ retained) history numbers floor
    covers numbers from legal le among covered = record {
      part = λ key p value e. covered.part key p value (all_before go key p value e);
      undecided = λ key p value undecided there. all_after key p value (covered.undecided key p value undecided there) (λ _ here. undecided_stays key p value undecided here);
      undone = λ key p value undone there. all_after key (length history) value (covered.undone key p value undone there) (λ _ here. undo_stays key value (p, undoes_last history key p value legal undone there) numbers from covered here);
      listed = λ key n listed. gives_listed key n (among n listed) (covered.listed key n listed);
      later = λ key n above within. gives_later key n above (covered.later key n (omega arith) within);
    }
