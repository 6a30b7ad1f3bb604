-- What is kept of the tables' versions is enough in their place, for an edit and for readers.
use Rattle.std.proofs.Common.{◌≡◌, ◌⊎◌, ⊎_elim, inl, inr, ℕ, zero, suc, ◌+◌, ◌<◌, ◌≤◌, ◌==◌, eq-eqb, Bool, true, false, List, [], ◌∷◌, ◌++◌, append-nil, length, length-append, min, take, Option, Some, None, is_some, refl, sym, subst, ap, ◌∙◌, arith}
use Rattle.std.proofs.lemmas.Bool.{cases_lt, eqb-true, le-leb, leb-true, or_cases, or_left, or_right}
use Rattle.std.proofs.lemmas.List.{take-append-le}
use Rattle.std.specs.List.{list_all}
use Rattle.std.specs.Option.{option_or}
use Rattle.wp_model.specs.declared.entry.Entry.{Entry}
use Rattle.wp_model.specs.declared.version.Version.{Version}
use Rattle.wp_model.specs.Covered.{GivesStore, IsCovered, is_among}
use Rattle.wp_model.specs.Decision.{decision_of, is_by, is_committed, IsCommittedAt, entry_version}
use Rattle.wp_model.specs.Flushed.{IsEditCovered, later_versions}
use Rattle.wp_model.specs.History.{newest, value_at}
use Rattle.wp_model.specs.Legal.{IsLegal, undone_last}
use Rattle.std.specs.FinMap as finite
use Rattle.wp_model.specs.Snapshots.{LiveSnapshot, IsLive}
use Rattle.wp_model.specs.Versions.{AreInOrder, version_at}
use Rattle.wp_history_laws.proofs.Counting.{entry_version_old}
use Rattle.wp_history_laws.proofs.Growth.{legal_before}
use Rattle.wp_history_laws.proofs.Listed.{only_listed}
use Rattle.wp_keep.specs.Keep.{retained_of}
use Rattle.wp_keep.specs.MayGo.{DecidesAt, MayGo}
use Rattle.wp_keep.proofs.Covers.{covers}
use Rattle.wp_cuts.specs.Cut.{Cut, IsCut, cut_at}
use Rattle.wp_cuts.specs.Kept.{HasKeysAt, StayFrom, carried_versions}
use Rattle.wp_cuts.specs.UpTo.{HaveSameUpTo}
use Rattle.wp_cuts.proofs.Keeping as count
use Rattle.wp_cuts.proofs.Staying.{are_kept}
use Rattle.wp_cuts.proofs.UpTo.{gives_by_same}
use Rattle.wp_merge.proofs.Merged.{or_none}
use Rattle.wp_merge.proofs.Sorted.{at_append}
use Rattle.wp_replies.specs.Replies.{IsCompactionCount}
use Rattle.wp_replies.specs.Tables.{after_compaction}
use Rattle.wp_table.specs.Table.{is_numbered, is_flushed}
use Rattle.wp_core.specs.Conditions.{KeepsStore}
use Rattle.wp_core.specs.IsSound.{IsSound}
use Rattle.wp_core.specs.Sound.Actors.{StartsWith}
use Rattle.wp_core.specs.Sound.Store.{NoneFlushed}
use Rattle.wp_core.specs.States.{live_numbers, up_to}
use Rattle.wp_core.specs.World.{World}
use Rattle.wp_core.proofs.CoveredGrows.{version_within}
use Rattle.wp_core.proofs.HistoryLaws.{decided_late, decision_stays, decision_was}
use Rattle.wp_core.proofs.PendingVersions.{covers_same}
use Rattle.wp_core.proofs.PublishesVersions.{up_to_within, up_to_past}
use Rattle.wp_core.proofs.SnapshotsStep.{among_live}
use Rattle.wp_model.proofs.Tests.{none_some}
use Rattle.wp_parts.proofs.LaterVersions.{later_none, later_past}
use Rattle.wp_maint.proofs.Memory.{above_is}
use Rattle.wp_compact.proofs.Retained.{all_retained}
use Rattle.wp_maint.proofs.Versions.{Found, all_found, none_past}

-- ---- what a part of a history decides

pub committed_true : (history : List Entry) (p n : ℕ) → IsCommittedAt history p n → is_committed history p n ≡ true
committed_true history p n at = rw at.decided (le-leb at.by n at.within)

pub committed_only : (history : List Entry) (p n : ℕ) → is_committed history p n ≡ true → IsCommittedAt history p n
committed_only history p n is = by (decision_of history p) refl is
  where
    by : (o : Option ℕ) → decision_of history p ≡ o → is_by o n ≡ true → IsCommittedAt history p n
    by None e h = absurd cc
    by (Some c) e h = record { by = c; decided = e; within = leb-true c n h }

module _ (whole front : List Entry) (starts : StartsWith whole front) where
  pub committed_whole : (p n : ℕ) → IsCommittedAt front p n → IsCommittedAt whole p n
  committed_whole p n k = record { by = k.by; decided = subst (λ (h : List Entry). decision_of h p ≡ Some k.by) (sym starts.1) (decision_stays front starts.0 p k.by k.decided); within = k.within }

  pub committed_front : IsLegal whole → (p n : ℕ) → n ≤ length front → IsCommittedAt whole p n → IsCommittedAt front p n
  committed_front legal p n low k =
      let w = k.within in let le : k.by ≤ length front = omega (arith, w, low) in
      let late = decided_late whole p k.by legal k.decided in
      record { by = k.by; decided = decision_was front starts.0 p k.by (omega (arith, late, le)) le (subst (λ (h : List Entry). decision_of h p ≡ Some k.by) starts.1 k.decided); within = w }

  decides_front : IsLegal whole → (versions : List Version) (n : ℕ) → n ≤ length front → DecidesAt (is_committed front) whole versions n
  decides_front legal versions n low = record {
    true_of = λ key p there at. committed_true front p n (committed_front legal p n low at);
    true_only = λ key p there is. committed_whole p n (committed_only front p n is);
  }

-- ---- in a sound world

swapped : (a b : Found) → (a ≡ None) ⊎ (b ≡ None) → option_or a b ≡ option_or b a
swapped a b (inl none) = rw none (sym (or_none [] 0 b))
swapped a b (inr none) = rw none (or_none [] 0 a)

module _ (w : World) (sound : IsSound w) (front : List Entry) (starts : StartsWith w.writes.history front) (numbers : List ℕ) (low : (n : ℕ) → is_among numbers n ≡ true → n ≤ length front) (versions : List Version) (tables : w.store.tables ≡ versions) (ordered : AreInOrder versions)
    (flushed_all : list_all (is_flushed w.installed.last.flushed) versions ≡ true) (gone : NoneFlushed w.store.memory w.installed.last.flushed) (given_up : w.store.floor ≤ length front) where
  abbrev history : List Entry
  history = w.writes.history

  abbrev flushed : ℕ
  flushed = w.installed.last.flushed

  -- the base at which the log was opened, and the last edit's
  abbrev opened : ℕ
  opened = w.first_edit.segment.base

  abbrev base : ℕ
  base = w.installed.last.segment.base

  abbrev kept : List Version
  kept = retained_of (is_committed front) versions numbers (length front)

  abbrev newer : List Version
  newer = up_to (length history) w.store.memory

  legal : IsLegal history
  legal = sound.history.legal

  legal_front : IsLegal front
  legal_front = legal_before front starts.0 (subst IsLegal starts.1 legal)

  front_within : length front ≤ length history
  front_within = let l = length-append front starts.0 in let q = ap (λ (h : List Entry). length h) starts.1 in omega (arith, l, q)

  versions_low : (key : List ℕ) (p : ℕ) → flushed < p → version_at versions key p ≡ None
  versions_low = none_past flushed versions flushed_all

  pub kept_flushed : list_all (is_flushed flushed) kept ≡ true
  kept_flushed = all_retained (is_committed front) versions numbers (length front) (is_flushed flushed) flushed_all

  kept_low : (key : List ℕ) (p : ℕ) → flushed < p → version_at kept key p ≡ None
  kept_low = none_past flushed kept kept_flushed

  newer_high : (key : List ℕ) (p : ℕ) → p ≤ flushed → version_at newer key p ≡ None
  newer_high key p below = let f = sound.versions.last.flushed in up_to_within (length history) w.store.memory key p (omega (arith, below, f)) ∙ gone key p below

  of_versions : (key : List ℕ) (p : ℕ) (value : Option (List ℕ)) → version_at versions key p ≡ Some value → entry_version history p key ≡ Some value
  of_versions key p value there = sound.versions.tables key p value (ap (λ (l : List Version). version_at l key p) tables ∙ there)

  -- ---- numbers

  pub versions_numbered : list_all is_numbered versions ≡ true
  versions_numbered = all_found is_numbered versions ordered (λ v there. let n = number_of v there in let few = legal.few in grind (arith, n.0, n.1, few))
    where
      number_of : (v : Version) → version_at versions v.key v.number ≡ Some v.value → (1 ≤ v.number) × (v.number ≤ length history)
      number_of v there = (above v.number refl, version_within history v.number v.key v.value here)
        where
          here : entry_version history v.number v.key ≡ Some v.value
          here = of_versions v.key v.number v.value there

          above : (n : ℕ) → v.number ≡ n → 1 ≤ v.number
          above zero is = let none = ap (λ (m : ℕ). entry_version history m v.key) (sym is) ∙ here in absurd cc
          above (suc n) is = omega (arith, is)

  -- ---- the newer versions with others that no number above the flushed one has are what is up to the published number

  both_at : (others : List Version) → ((key : List ℕ) (p : ℕ) → flushed < p → version_at others key p ≡ None) → (key : List ℕ) (p : ℕ) → version_at (newer ++ others) key p ≡ version_at (up_to (length history) (w.store.memory ++ others)) key p
  both_at others none key p = at_append newer others key p ∙ elim (cases_lt (length history) p) [
    | inr within ↦
        ap (λ (o : Found). option_or o (version_at others key p)) (up_to_within (length history) w.store.memory key p within)
        ∙ sym (at_append w.store.memory others key p)
        ∙ sym (up_to_within (length history) (w.store.memory ++ others) key p within)
    | inl past ↦
        ap (λ (o : Found). option_or o (version_at others key p)) (up_to_past (length history) w.store.memory key p past)
        ∙ none key p (let f = sound.versions.last.flushed in omega (arith, past, f))
        ∙ sym (up_to_past (length history) (w.store.memory ++ others) key p past)
  ]

  all_covered : IsCovered (newer ++ versions) history (opened ∷ live_numbers w.snapshots) w.store.floor
  all_covered =
      covers_same (up_to (length history) (w.store.memory ++ w.store.tables)) (newer ++ versions) history (opened ∷ live_numbers w.snapshots) w.store.floor
      (λ key p. both_at versions versions_low key p ∙ ap (λ (l : List Version). version_at (up_to (length history) (w.store.memory ++ l)) key p) (sym tables)) sound.versions.covered

  -- ---- what is kept covers as much, from the floor on

  may_go : MayGo (is_committed front) history newer versions numbers (length front)
  may_go = record {
    in_order = ordered;
    no_older = λ key p q new old. by key p q new old (cases_lt flushed p) (cases_lt flushed q);
    at_floor = decides_front history front starts legal versions (length front) (omega arith);
    at_snapshots = λ n among. decides_front history front starts legal versions n (low n among);
  }
    where
      by : (key : List ℕ) (p q : ℕ) → is_some (version_at newer key p) ≡ true → is_some (version_at versions key q) ≡ true → (flushed < p) ⊎ (p ≤ flushed) → (flushed < q) ⊎ (q ≤ flushed) → q ≤ p
      by key p q new old (inr below) second = let none = newer_high key p below in absurd cc
      by key p q new old (inl above) (inl past) = let none = versions_low key q past in absurd cc
      by key p q new old (inl above) (inr le) = omega (arith, above, le)

  kept_covers : (ns : List ℕ) → ((n : ℕ) → is_among ns n ≡ true → is_among numbers n ≡ true) → IsCovered (newer ++ versions) history ns w.store.floor → IsCovered (newer ++ kept) history ns (length front)
  kept_covers ns listed c = covers (is_committed front) history newer versions numbers (length front) may_go ns w.store.floor legal given_up listed c

  -- at a number for which all of it answered too
  kept_at : (n : ℕ) → is_among numbers n ≡ true → is_among (opened ∷ live_numbers w.snapshots) n ≡ true → IsCovered (newer ++ kept) history (n ∷ []) (length front)
  kept_at n listed answered =
      let c = all_covered in
      kept_covers (n ∷ []) (λ m among. subst (λ (k : ℕ). is_among numbers k ≡ true) (only_listed n m among) listed)
      (record { part = c.part; undecided = c.undecided; undone = c.undone; listed = λ key m among. c.listed key m (subst (λ (k : ℕ). is_among (opened ∷ live_numbers w.snapshots) k ≡ true) (only_listed n m among) answered); later = c.later })

  none_kept : IsCovered (newer ++ kept) history [] (length front)
  none_kept = let c = all_covered in kept_covers [] (λ n among. absurd cc) (record { part = c.part; undecided = c.undecided; undone = c.undone; listed = λ key n among. absurd cc; later = c.later })

  -- ---- the edit

  later_at : (key : List ℕ) (p : ℕ) → version_at (later_versions history flushed) key p ≡ version_at newer key p
  later_at key p = elim (cases_lt flushed p) [
    | inr below ↦ later_none history flushed key p below ∙ sym (newer_high key p below)
    | inl above ↦ elim (cases_lt (length history) p) [
      | inl past ↦ later_past history flushed key p legal sound.versions.last.flushed past ∙ sym (up_to_past (length history) w.store.memory key p past)
      | inr within ↦ sym (up_to_within (length history) w.store.memory key p within ∙ above_is w sound key p above within)
    ]
  ]

  edit_at : (others : List Version) → ((key : List ℕ) (p : ℕ) → flushed < p → version_at others key p ≡ None) → (key : List ℕ) (p : ℕ) → version_at (others ++ later_versions history flushed) key p ≡ version_at (newer ++ others) key p
  edit_at others none key p =
      at_append others (later_versions history flushed) key p
      ∙ ap (option_or (version_at others key p)) (later_at key p)
      ∙ swapped (version_at others key p) (version_at newer key p) apart
      ∙ sym (at_append newer others key p)
    where
      apart : (version_at others key p ≡ None) ⊎ (version_at newer key p ≡ None)
      apart = ⊎_elim (λ (above : flushed < p). inl (none key p above)) (λ (below : p ≤ flushed). inr (newer_high key p below)) (cases_lt flushed p)

  -- the tables answered for the last edit's base, and what is kept of them does
  pub kept_is_covered : is_among numbers base ≡ true → versions ≡ w.installed.last.versions → IsEditCovered history (after_compaction front numbers w.installed.last)
  kept_is_covered listed is = subst (λ (l : List Version). IsEditCovered history (record w.installed.last { versions = retained_of (is_committed front) l numbers (length front); tables = min (length (retained_of (is_committed front) l numbers (length front))) 1 })) is (record {
    base = sound.versions.last.base;
    flushed = sound.versions.last.flushed;
    covered = record { part = c.part; undecided = c.undecided; undone = c.undone; listed = c.listed; later = λ key n above within. let le = front_within in c.later key n (omega (arith, le, above)) within };
  })
    where
      all : IsCovered (newer ++ versions) history (base ∷ []) w.store.floor
      all =
          let c = all_covered in
          let e = covers_same (w.installed.last.versions ++ later_versions history flushed) (newer ++ versions) history (base ∷ []) (length history) (λ key p. sym (edit_at versions versions_low key p) ∙ ap (λ (l : List Version). version_at (l ++ later_versions history flushed) key p) is) sound.versions.last.covered in
          record { part = c.part; undecided = c.undecided; undone = c.undone; listed = e.listed; later = c.later }

      c : IsCovered (kept ++ later_versions history flushed) history (base ∷ []) (length front)
      c =
          covers_same (newer ++ kept) (kept ++ later_versions history flushed) history (base ∷ []) (length front) (edit_at kept kept_low)
          (kept_covers (base ∷ []) (λ m among. subst (λ (k : ℕ). is_among numbers k ≡ true) (only_listed base m among) listed) all)

  -- ---- how many they are

  of_front : (key : List ℕ) (p : ℕ) (value : Option (List ℕ)) → version_at versions key p ≡ Some value → p ≤ length front → entry_version front p key ≡ Some value
  of_front key p value there low =
      sym (entry_version_old front starts.0 p key low) ∙ ap (λ (h : List Entry). entry_version h p key) (sym starts.1) ∙ of_versions key p value there

  value_front : (key : List ℕ) (n : ℕ) → n ≤ length front → value_at front key n ≡ value_at history key n
  value_front key n low = sym (ap (λ (h : List Entry). newest h key) (ap (take n) starts.1 ∙ take-append-le n front starts.0 low))

  gives_front : (key : List ℕ) (n : ℕ) → n ≤ length front → GivesStore versions history key n → GivesStore versions front key n
  gives_front key n low (inl g) = inl (record {
    number = g.number;
    value = g.value;
    there = g.there;
    committed = committed_front history front starts legal g.number n low g.committed;
    newest = λ q above at. g.newest q above (committed_whole history front starts q n at);
    stored = value_front key n low ∙ g.stored;
  })
  gives_front key n low (inr g) = inr (record { none = λ p at. g.none p (committed_whole history front starts p n at); missing = value_front key n low ∙ g.missing })

  module _ (flushed_low : flushed ≤ length front) (opened_listed : is_among numbers opened ≡ true) (from_opened : (n : ℕ) → is_among numbers n ≡ true → opened ≤ n) (whole : undone_last (take opened front) ≡ None) where
    opened_low : opened ≤ flushed
    opened_low = sound.versions.based

    within_flushed : (key : List ℕ) (p : ℕ) (value : Option (List ℕ)) → version_at versions key p ≡ Some value → p ≤ flushed
    within_flushed key p value there = ⊎_elim (λ (above : flushed < p). absurd (none_some (version_at versions key p) value (versions_low key p above) there)) (λ (below : p ≤ flushed). below) (cases_lt flushed p)

    within : (key : List ℕ) (p : ℕ) (value : Option (List ℕ)) → version_at versions key p ≡ Some value → p ≤ length front
    within key p value there = let f = within_flushed key p value there in omega (arith, f, flushed_low)

    -- no newer version has a number up to the opened base
    same_low : HaveSameUpTo opened (newer ++ versions) versions
    same_low key p le = let o = opened_low in at_append newer versions key p ∙ ap (λ (f : Found). option_or f (version_at versions key p)) (newer_high key p (omega (arith, o, le)))

    gives_opened : (key : List ℕ) → GivesStore versions front key opened
    gives_opened key =
        let o = opened_low in let f = sound.versions.last.flushed in
        gives_front key opened (omega (arith, o, flushed_low))
        (gives_by_same history (newer ++ versions) versions opened key legal (omega (arith, o, f)) same_low (all_covered.listed key opened (or_left (opened == opened) (is_among (live_numbers w.snapshots) opened) (eq-eqb opened opened refl))))

    stay_from : StayFrom front versions numbers opened (length front)
    stay_from = record {
      above = let o = opened_low in omega (arith, o, flushed_low);
      listed = opened_listed;
      from_base = from_opened;
      part = λ key p value there. of_front key p value there (within key p value there);
      within = within;
      gives = gives_opened;
    }

    go_front : MayGo (is_committed front) front [] versions numbers (length front)
    go_front = record {
      in_order = ordered;
      no_older = λ key p q new old. absurd cc;
      at_floor = decides_front front front ([], sym (append-nil front)) legal_front versions (length front) (omega arith);
      at_snapshots = λ n among. decides_front front front ([], sym (append-nil front)) legal_front versions n (low n among);
    }

    pub kept_few : IsCompactionCount front opened (length front) (length kept)
    kept_few keys has =
        let o = opened_low in
        few (is_committed front) front (cut_at front opened) [] versions numbers keys (length front) legal_front (record { within = omega (arith, o, flushed_low); whole = whole; is = refl }) go_front stay_from has
      where
        few : (committed : ℕ → ℕ → Bool) (h : List Entry) (c : Cut) (more vs : List Version) (ns : List ℕ) (ks : List (List ℕ)) (floor : ℕ) → IsLegal h → IsCut h c → MayGo committed h more vs ns floor → StayFrom h vs ns c.base floor → HasKeysAt h c.base ks
            → length (retained_of committed vs ns floor) ≤ length ks + (length (carried_versions c.carried) + length (later_versions (take floor h) c.base))
        few committed h c more vs ns ks floor legal cut go from has = count.kept_few h c (retained_of committed vs ns floor) ks floor legal cut from.above (are_kept committed h more vs ns c.base floor go from) has

  -- ---- the store

  within_live : (n : ℕ) (o : Option LiveSnapshot) → finite.get w.snapshots n ≡ o → is_some o ≡ true → n ≤ length history
  within_live n None is live = absurd cc
  within_live n (Some x) is live = (sound.registrations.live n x is).1

  kept_part : (key : List ℕ) (p : ℕ) (value : Option (List ℕ)) → version_at kept key p ≡ Some value → entry_version history p key ≡ Some value
  kept_part key p value there = elim (cases_lt flushed p) [
    | inl above ↦ absurd (none_some (version_at kept key p) value (kept_low key p above) there)
    | inr below ↦ none_kept.part key p value (at_append newer kept key p ∙ ap (λ (o : Found). option_or o (version_at kept key p)) (newer_high key p below) ∙ there)
  ]

  in_store : (ns : List ℕ) → IsCovered (newer ++ kept) history ns (length front) → IsCovered (up_to (length history) (w.store.memory ++ kept)) history ns (length front)
  in_store ns c = covers_same (newer ++ kept) (up_to (length history) (w.store.memory ++ kept)) history ns (length front) (λ key p. sym (both_at kept kept_low key p)) c

  pub kept_keeps : is_among numbers opened ≡ true → ((n : ℕ) → IsLive w.snapshots n → (is_among numbers n ≡ true) ⊎ (length front ≤ n))
      → KeepsStore w (record w.store { tables = kept; floor = length front }) w.installed
  kept_keeps opened_listed listed =
      let s = sound.versions in let c = in_store [] none_kept in record {
        covered = record {
          part = c.part;
          undecided = c.undecided;
          undone = c.undone;
          listed = λ key n among. ⊎_elim (λ same. at_opened key n (eqb-true opened n same)) (λ live. at_live key n live) (or_cases (opened == n) (is_among (live_numbers w.snapshots) n) among);
          later = c.later;
        };
        based = s.based;
        floor = front_within;
        next = s.next;
        tables = kept_part;
        last = s.last;
        failed = s.failed;
        in_memory = s.in_memory;
      }
    where
      Shown : List ℕ → ℕ → Type 0
      Shown key n = GivesStore (up_to (length history) (w.store.memory ++ kept)) history key n

      one : (key : List ℕ) (n : ℕ) → is_among numbers n ≡ true → is_among (opened ∷ live_numbers w.snapshots) n ≡ true → Shown key n
      one key n there answered = (in_store (n ∷ []) (kept_at n there answered)).listed key n (or_left (n == n) false (eq-eqb n n refl))

      at_opened : (key : List ℕ) (n : ℕ) → opened ≡ n → Shown key n
      at_opened key n same = subst (Shown key) same (one key opened opened_listed (or_left (opened == opened) (is_among (live_numbers w.snapshots) opened) (eq-eqb opened opened refl)))

      at_live : (key : List ℕ) (n : ℕ) → is_among (live_numbers w.snapshots) n ≡ true → Shown key n
      at_live key n among =
          let is_live : IsLive w.snapshots n = sym (among_live w.snapshots n) ∙ among in
          ⊎_elim (λ there. one key n there (or_right (opened == n) (is_among (live_numbers w.snapshots) n) among)) (λ high. (in_store [] none_kept).later key n high (within_live n (finite.get w.snapshots n) refl is_live)) (listed n is_live)
