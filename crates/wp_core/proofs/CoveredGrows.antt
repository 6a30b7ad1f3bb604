-- The versions that show a history show it with one entry more, once the entry's versions are among them.
use Rattle.std.proofs.Common.{◌≡◌, ◌⊎◌, ⊎_elim, inl, inr, ℕ, suc, ◌<◌, ◌≤◌, true, List, [], ◌∷◌, ◌++◌, length, refl, sym, subst, ap, ◌∙◌, Option, Some, None, arith}
use Rattle.std.specs.Prelude.{option_map, unwrap_or}
use Rattle.std.proofs.lemmas.Bool.{cases_lt}
use Rattle.wp_model.specs.declared.change.Change.{Change}
use Rattle.wp_model.specs.declared.entry.Entry.{Entry}
use Rattle.wp_model.specs.declared.entry.Entry.TheVariants.{Write, Prepare, Commit, Undo, Close}
use Rattle.wp_model.specs.declared.version.Version.{Version}
use Rattle.wp_model.specs.Batch.{change_to}
use Rattle.wp_model.specs.Covered.{GivesStore, IsCovered, is_among}
use Rattle.wp_model.specs.History.{entry_at, batch_at, is_undecided, newest, value_at, changes_of}
use Rattle.wp_model.specs.Legal.{IsLegal, IsLegalNext, undone_last}
use Rattle.wp_model.specs.Decision.{decision_in, decision_of, IsCommittedAt, version_in, entry_version}
use Rattle.wp_model.specs.Versions.{version_at}
use Rattle.wp_judge.specs.Words.{CommitPair, commit_pair}
use Rattle.wp_history_laws.proofs.Above.{legal_none_above, none_above, undecided_version, is_changed_from}
use Rattle.wp_history_laws.proofs.Counting.{entry_version_old}
use Rattle.wp_history_laws.proofs.Growth.{entry_at_next, length_next, after_front}
use Rattle.wp_model.proofs.Entries.{entry_at_past, batch_at_old, undecided_within, last_undo}
use Rattle.wp_history_laws.proofs.Held.{prior_to}
use Rattle.wp_core.specs.Entries.{pair_by}
use Rattle.wp_core.proofs.HistoryGrows.{none_is, before, after, grown_length, committed_old, committed_stays, committed_before_or_now, undecided_before_or_now, version_new, value_old, value_new, value_whole}
use Rattle.wp_core.proofs.HistoryLaws.{decided_within, next_decides}
use Rattle.wp_model.proofs.Tests.{same_some, none_some}

-- what an undo has under a key is the store's value
restored : {A : Type 0} {x : A} (o : Option A) (v : A) → option_map (λ _. x) o ≡ Some v → x ≡ v
restored None v e = absurd cc
restored {A} {x} (Some y) v e = same_some x v e

-- only the entries of a history have versions
pub version_within : (history : List Entry) (p : ℕ) (key : List ℕ) (value : Option (List ℕ)) → entry_version history p key ≡ Some value → p ≤ length history
version_within history p key value e = elim (cases_lt (length history) p) [
  | inl past ↦ absurd (none_some (entry_version history p key) value (ap (λ (o : Option Entry). version_in o key) (entry_at_past history p past)) e)
  | inr le ↦ le
]

-- ---- a history that ends in an undo

-- its last entry is the newest version of each key of the prepare that it undoes
pub record IsUndoneAt (history : List Entry) (key : List ℕ) (p : ℕ) : Type 0 where
  pub value : Option (List ℕ)
  pub there : entry_version history (length history) key ≡ Some value
  pub decided : decision_of history (length history) ≡ Some (length history)
  pub above : p < length history

undone_at : (front : List Entry) (p : ℕ) (batch : List Change) (key : List ℕ) (x : Option (List ℕ)) → IsLegal (front ++ Undo p batch ∷ []) → change_to (batch_at (front ++ Undo p batch ∷ []) p) key ≡ Some x → IsUndoneAt (front ++ Undo p batch ∷ []) key p
undone_at front p batch key x legal changed =
    let history = front ++ Undo p batch ∷ [] in
    let k : IsLegalNext front (Undo p batch) = after_front front (Undo p batch) [] legal in
    let within : p ≤ length front = (undecided_within front p k.orderly.names_undecided).1 in
    let old : change_to (batch_at front p) key ≡ Some x = ap (λ (changes : List Change). change_to changes key) (sym (batch_at_old front (Undo p batch ∷ []) p within)) ∙ changed in
    let held : change_to batch key ≡ Some (newest front key) = ap (λ (changes : List Change). change_to changes key) k.restores_prior ∙ (prior_to front (batch_at front p) key ∙ ap (option_map (λ _. newest front key)) old) in
    let there : entry_at history (length history) ≡ Some (Undo p batch) = ap (entry_at history) (length_next front (Undo p batch)) ∙ entry_at_next front (Undo p batch) in
    record {
      value = newest front key;
      there = ap (λ (o : Option Entry). version_in o key) there ∙ held;
      decided = ap (decision_in history (length history)) there;
      above = let l = length_next front (Undo p batch) in omega (arith, l, within);
    }

pub undo_ends : (history : List Entry) (p : ℕ) (key : List ℕ) (x : Option (List ℕ)) → IsLegal history → undone_last history ≡ Some p → change_to (batch_at history p) key ≡ Some x → IsUndoneAt history key p
undo_ends history p key x legal undone changed =
    let last = last_undo history p undone in
    let P : List Entry → Type 0 = λ h. IsLegal h → change_to (batch_at h p) key ≡ Some x → IsUndoneAt h key p in
    subst P (sym last.is) (undone_at last.front p last.batch key x) legal changed

module _ (history : List Entry) (entry : Entry) (legal : IsLegal (history ++ entry ∷ [])) (xs ys : List Version) (numbers : List ℕ) (from : ℕ) (k : IsCovered xs history numbers from) (low : from ≤ length history) (old : (key : List ℕ) (p : ℕ) → p ≤ length history → version_at ys key p ≡ version_at xs key p) (new : (key : List ℕ) → version_at ys key (suc (length history)) ≡ version_in (Some entry) key) (past : (key : List ℕ) (p : ℕ) → suc (length history) < p → version_at ys key p ≡ None) where
  abbrev grown : List Entry
  grown = history ++ entry ∷ []

  abbrev next : ℕ
  next = suc (length history)

  part_now : (key : List ℕ) (p : ℕ) (value : Option (List ℕ)) → version_at ys key p ≡ Some value → entry_version grown p key ≡ Some value
  part_now key p value e = elim (cases_lt (length history) p) [
    | inr le ↦ entry_version_old history (entry ∷ []) p key le ∙ k.part key p value (sym (old key p le) ∙ e)
    | inl gt ↦ elim (cases_lt next p) [
      | inl beyond ↦ absurd (none_some (version_at ys key p) value (past key p beyond) e)
      | inr le ↦ let same : p ≡ next = omega arith in ap (λ (q : ℕ). entry_version grown q key) same ∙ (version_new history entry legal key ∙ (sym (new key) ∙ (ap (version_at ys key) (sym same) ∙ e)))
    ]
  ]

  -- a version of the new number
  at_new : (key : List ℕ) (p : ℕ) (value : Option (List ℕ)) → p ≡ next → entry_version grown p key ≡ Some value → version_at ys key p ≡ Some value
  at_new key p value same e = ap (version_at ys key) same ∙ (new key ∙ (sym (version_new history entry legal key) ∙ (ap (λ (q : ℕ). entry_version grown q key) (sym same) ∙ e)))

  committed_within : (p n : ℕ) → IsCommittedAt history p n → p ≤ length history
  committed_within p n c = decided_within history p c.by c.decided

  -- a reader below finds what it found
  gives_old : (key : List ℕ) (n : ℕ) → n ≤ length history → GivesStore xs history key n → GivesStore ys grown key n
  gives_old key n le (inl g) = inl record {
    number = g.number;
    value = g.value;
    there = old key g.number (committed_within g.number n g.committed) ∙ g.there;
    committed = committed_stays history entry legal g.number n n (omega arith) g.committed;
    newest = λ q lt is. let c = committed_old history entry legal q n le is in old key q (committed_within q n c) ∙ g.newest q lt c;
    stored = value_old history entry legal key n le ∙ g.stored;
  }
  gives_old key n le (inr g) = inr record {
    none = λ p is. let c = committed_old history entry legal p n le is in old key p (committed_within p n c) ∙ g.none p c;
    missing = value_old history entry legal key n le ∙ g.missing;
  }

  module _ (key : List ℕ) where
    g_last : GivesStore xs history key (length history)
    g_last = k.later key (length history) low (omega arith)

    -- what is decided now has no version of the key, or one below the newest
    gives_same : value_at grown key next ≡ value_at history key (length history)
        → ((q : ℕ) → pair_by next entry ≡ Some (commit_pair q next) → (version_at ys key q ≡ None) ⊎ ((m : ℕ) (value : Option (List ℕ)) → version_at xs key m ≡ Some value → IsCommittedAt history m (length history) → ((r : ℕ) → m < r → IsCommittedAt history r (length history) → version_at xs key r ≡ None) → q < m))
        → ((q : ℕ) → pair_by next entry ≡ Some (commit_pair q next) → ((p : ℕ) → IsCommittedAt history p (length history) → version_at xs key p ≡ None) → version_at ys key q ≡ None)
        → GivesStore xs history key (length history) → GivesStore ys grown key next
    gives_same same below none (inl g) = inl record {
      number = g.number;
      value = g.value;
      there = old key g.number (committed_within g.number (length history) g.committed) ∙ g.there;
      committed = committed_stays history entry legal g.number (length history) next (omega arith) g.committed;
      newest = λ q lt is. ⊎_elim
          (λ (c : IsCommittedAt history q (length history)). old key q (committed_within q (length history) c) ∙ g.newest q lt c)
          (λ (e : pair_by next entry ≡ Some (commit_pair q next)). ⊎_elim
          (λ (none_there : version_at ys key q ≡ None). none_there)
          (λ lower. let under = lower g.number g.value g.there g.committed g.newest in absurd (omega (arith, under, lt)))
          (below q e))
          (committed_before_or_now history entry legal q is);
      stored = same ∙ g.stored;
    }
    gives_same same below none (inr g) = inr record {
      none = λ p is. ⊎_elim
          (λ (c : IsCommittedAt history p (length history)). old key p (committed_within p (length history) c) ∙ g.none p c)
          (λ e. none p e g.none)
          (committed_before_or_now history entry legal p is);
      missing = same ∙ g.missing;
    }

    gives_kept : value_at grown key next ≡ value_at history key (length history) → ((q : ℕ) → pair_by next entry ≡ Some (commit_pair q next) → version_at ys key q ≡ None) → GivesStore ys grown key next
    gives_kept same none = gives_same same (λ q e. inl (none q e)) (λ q e _. none q e) g_last

    -- the version of the key at p is the newest
    gives_top : (p : ℕ) (value : Option (List ℕ)) → version_at ys key p ≡ Some value → IsCommittedAt grown p next → ((q : ℕ) → p < q → version_at ys key q ≡ None) → value_at grown key next ≡ value → GivesStore ys grown key next
    gives_top p value there committed above stored = inl record { number = p; value = value; there = there; committed = committed; newest = λ q lt is. above q lt; stored = stored }

    decided_now : (p : ℕ) → pair_by next entry ≡ Some (commit_pair p next) → IsCommittedAt grown p next
    decided_now p e = let d = next_decides history entry (commit_pair p next) legal e in record { by = next; decided = d.decided; within = omega arith }

    number_of : (p q : ℕ) → ◌≡◌ {A = Option CommitPair} (Some (commit_pair p next)) (Some (commit_pair q next)) → p ≡ q
    number_of p q e = ap (λ (x : CommitPair). x.number) (same_some (commit_pair p next) (commit_pair q next) e)

    -- a prepare that the entry decides, without the key
    none_of_prepare : (p : ℕ) → is_undecided history p ≡ true → change_to (batch_at history p) key ≡ None → version_at ys key p ≡ None
    none_of_prepare p u none = none_is (version_at ys key p) (λ v e. none_some (entry_version history p key) v (undecided_version history key p u ∙ none) (sym (entry_version_old history (entry ∷ []) p key (undecided_within history p u).1) ∙ part_now key p v e))

    -- a version that the entry itself has and decides
    own_version : (change : Option (Option (List ℕ))) → version_in (Some entry) key ≡ change → pair_by next entry ≡ Some (commit_pair next next)
        → (change ≡ None → value_at grown key next ≡ value_at history key (length history)) → ((v : Option (List ℕ)) → change ≡ Some v → value_at grown key next ≡ v) → GivesStore ys grown key next
    own_version None is pair same stored = gives_kept (same refl) (λ q e. ap (version_at ys key) (sym (number_of next q (sym pair ∙ e))) ∙ (new key ∙ is))
    own_version (Some v) is pair same stored = gives_top next v (new key ∙ is) (decided_now next pair) (λ q lt. past key q lt) (stored v refl)

    value_now : (x : Entry) → entry ≡ x → value_at grown key next ≡ unwrap_or (change_to (changes_of history x) key) (value_at history key (length history))
    value_now x is = value_new history entry legal key ∙ ap (λ (z : Entry). unwrap_or (change_to (changes_of history z) key) (value_at history key (length history))) is

    commit_version : (p : ℕ) (change : Option (Option (List ℕ))) → entry ≡ Commit p → change_to (batch_at history p) key ≡ change → is_undecided history p ≡ true → undone_last history ≡ None → GivesStore ys grown key next
    commit_version p None is e u undone =
        gives_kept
        (value_now (Commit p) is ∙ ap (λ (o : Option (Option (List ℕ))). unwrap_or o (value_at history key (length history))) e)
        (λ q pair. let same : p ≡ q = number_of p q (sym (ap (pair_by next) is) ∙ pair) in ap (version_at ys key) (sym same) ∙ none_of_prepare p u e)
    commit_version p (Some v) is e u undone =
        let low_p = (undecided_within history p u).1 in
        let h = undecided_version history key p u ∙ e in
        let none : (q : ℕ) → p < q → entry_version history q key ≡ None = λ q lt. none_above history key p q (legal_none_above history (before history entry legal)) undone (record { undecided = u; changed = is_changed_from (batch_at history p) key v e }) lt in
        gives_top p v (old key p low_p ∙ k.undecided key p v u h) (decided_now p (ap (pair_by next) is))
        (λ q lt. none_is (version_at ys key q) (λ x there. elim (cases_lt (length history) q) [
          | inr le ↦ none_some (entry_version history q key) x (none q lt) (k.part key q x (sym (old key q le) ∙ there))
          | inl gt ↦ elim (cases_lt next q) [
            | inl beyond ↦ none_some (version_at ys key q) x (past key q beyond) there
            | inr le ↦ let same : q ≡ next = omega arith in none_some (version_at ys key q) x (ap (version_at ys key) same ∙ (new key ∙ ap (λ (z : Entry). version_in (Some z) key) is)) there
          ]
        ]))
        (value_now (Commit p) is ∙ ap (λ (o : Option (Option (List ℕ))). unwrap_or o (value_at history key (length history))) e)

    close_version : (p : ℕ) (change : Option (Option (List ℕ))) → entry ≡ Close p → change_to (batch_at history p) key ≡ change → is_undecided history p ≡ true → undone_last history ≡ Some p → GivesStore ys grown key next
    close_version p None is e u undone =
        gives_kept
        (value_now (Close p) is)
        (λ q pair. let same : p ≡ q = number_of p q (sym (ap (pair_by next) is) ∙ pair) in ap (version_at ys key) (sym same) ∙ none_of_prepare p u e)
    close_version p (Some v) is e u undone =
        let z = undo_ends history p key v (before history entry legal) undone e in
        let there : version_at xs key (length history) ≡ Some z.value = k.undone key p z.value undone z.there in
        let last : IsCommittedAt history (length history) (length history) = record { by = length history; decided = z.decided; within = omega arith } in
        gives_same
        (value_now (Close p) is)
        (λ q pair. inr (λ m value at committed newest.
        let same : p ≡ q = number_of p q (sym (ap (pair_by next) is) ∙ pair) in
        elim (cases_lt m (length history)) [
          | inl under ↦ absurd (none_some (version_at xs key (length history)) z.value (newest (length history) under last) there)
          | inr le ↦ let a = z.above in omega (arith, a, le, same)
        ]))
        (λ q pair none. absurd (none_some (version_at xs key (length history)) z.value (none (length history) last) there)) g_last

    -- whatever the entry is
    by_entry : (x : Entry) → entry ≡ x → IsLegalNext history x → GivesStore ys grown key next
    by_entry (Write batch) is a =
        own_version (change_to batch key) (ap (λ (z : Entry). version_in (Some z) key) is) (ap (pair_by next) is)
        (λ e. value_now (Write batch) is ∙ ap (λ (o : Option (Option (List ℕ))). unwrap_or o (value_at history key (length history))) e)
        (λ v e. value_now (Write batch) is ∙ ap (λ (o : Option (Option (List ℕ))). unwrap_or o (value_at history key (length history))) e)
    by_entry (Prepare name batch) is a = gives_kept (value_now (Prepare name batch) is) (λ q pair. let no : None ≡ Some (commit_pair q next) = sym (ap (pair_by next) is) ∙ pair in absurd cc)
    by_entry (Commit p) is a = commit_version p (change_to (batch_at history p) key) is refl a.orderly.names_undecided a.orderly.undo_is_closed
    by_entry (Undo p batch) is a =
        own_version (change_to batch key) (ap (λ (z : Entry). version_in (Some z) key) is) (ap (pair_by next) is)
        (λ _. value_now (Undo p batch) is)
        (λ v e. value_now (Undo p batch) is ∙ (value_whole history entry legal history key ∙ restored (change_to (batch_at history p) key) v (sym (prior_to history (batch_at history p) key) ∙ (ap (λ (changes : List Change). change_to changes key) (sym a.restores_prior) ∙ e))))
    by_entry (Close p) is a = close_version p (change_to (batch_at history p) key) is refl a.orderly.names_undecided a.orderly.undo_is_closed

    gives_new : GivesStore ys grown key next
    gives_new = by_entry entry refl (after history entry legal)

  undecided_now : (key : List ℕ) (p : ℕ) (value : Option (List ℕ)) → is_undecided grown p ≡ true → entry_version grown p key ≡ Some value → version_at ys key p ≡ Some value
  undecided_now key p value u e = ⊎_elim
      (λ o. old key p o.0 ∙ k.undecided key p value o.1 (sym (entry_version_old history (entry ∷ []) p key o.0) ∙ e))
      (λ o. at_new key p value o.0 e) (undecided_before_or_now history entry legal p u)

  pub covered_grows : (to : ℕ) → from ≤ to → ((m : ℕ) → is_among numbers m ≡ true → m ≤ length history) → IsCovered ys grown numbers to
  covered_grows to rises within = record {
    part = part_now;
    undecided = undecided_now;
    undone = λ key p value undone e. at_new key (length grown) value (grown_length history entry legal) e;
    listed = λ key m among. gives_old key m (within m among) (k.listed key m among);
    later = λ key m high le. elim (cases_lt (length history) m) [
      | inr lower ↦ gives_old key m lower (k.later key m (omega arith) lower)
      | inl gt ↦ let l = grown_length history entry legal in let same : next ≡ m = omega (arith, l, gt, le) in subst (λ (z : ℕ). GivesStore ys grown key z) same (gives_new key)
    ];
  }
