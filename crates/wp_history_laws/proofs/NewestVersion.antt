-- The newest committed version of a key is the store's value.
use Rattle.std.proofs.Common.{◌≡◌, ℕ, zero, suc, ◌+◌, ◌<◌, ◌≤◌, Bool, true, false, ◌||◌, cond, List, [], ◌∷◌, ◌++◌, length, take, drop, Option, Some, None, ◌⊎◌, refl, sym, ap, ◌∙◌, subst, inl, inr, arith}
use Rattle.std.specs.Prelude.{option_map, unwrap_or, is_some}
use Rattle.std.specs.List.{list_any}
use Rattle.std.proofs.Math.Seq.{take-append_seam}
use Rattle.std.proofs.lemmas.List.{take-append-drop, length-take-le}
use Rattle.std.proofs.lemmas.Bool.{cases_lt, cases_Bool, cases_eq, cases_order, or_right, eqb-true, eq-eqb, ne_eqb}
use Rattle.wp_model.specs.declared.change.Change.{Change}
use Rattle.wp_model.specs.declared.entry.Entry.{Entry}
use Rattle.wp_model.specs.declared.entry.Entry.TheVariants.{Write, Prepare, Commit, Undo, Close}
use Rattle.wp_model.specs.Batch.{change_to}
use Rattle.wp_model.specs.History.{entry_at, is_prepare, batch_at, decides, is_undecided, newest, value_at}
use Rattle.wp_model.specs.Legal.{changes_in, IsLegal, IsLegalNext, undone_last, prior}
use Rattle.wp_model.specs.Decision.{version_in, entry_version, decision_in, IsCommittedAt, IsNewestCommitted, HasNoneCommitted}
use Rattle.wp_history_laws.proofs.Growth.{entry_at_next, length_next, by_growth, legal_before, after_front, decided_next, legal_naming}
use Rattle.wp_model.proofs.Entries.{entry_at_old, entry_at_past, undecided_prepared, undecided_within, last_undo, batch_at_old}
use Rattle.wp_history_laws.proofs.Undecided.{never_decided}
use Rattle.wp_history_laws.proofs.Newest.{newest_next}
use Rattle.wp_history_laws.proofs.Counting.{counts, committed_version, decided_any, counts_within, counts_from, committed_from, entry_version_old}
use Rattle.wp_history_laws.proofs.Held.{prior_to}
use Rattle.wp_history_laws.proofs.Above.{Holds, NoneAbove, legal_none_above, none_above, undecided_version, is_changed_from}

-- ---- what is committed, with an entry more

none_counts_past : (history : List Entry) (q : ℕ) (key : List ℕ) → length history < q → committed_version history q key ≡ None
none_counts_past history q key past = ap (λ (at : Option Entry). cond (is_some (decision_in history q at)) (version_in at key) None) (entry_at_past history q past)

no_version_counts : (history : List Entry) (q : ℕ) (key : List ℕ) → entry_version history q key ≡ None → committed_version history q key ≡ None
no_version_counts history q key none =
    elim (counts history q) as (λ b. cond b (entry_version history q key) None ≡ None) [
      | true ↦ none
      | false ↦ refl
    ]

or_false : (a b : Bool) → b ≡ false → (a || b) ≡ a
or_false true b e = refl
or_false false b e = e

counts_as_before : (history : List Entry) (entry : Entry) (q : ℕ) (at : Option Entry) → decides q entry ≡ false → is_some (decision_in (history ++ entry ∷ []) q at) ≡ is_some (decision_in history q at)
counts_as_before history entry q None other = refl
counts_as_before history entry q (Some (Write batch)) other = refl
counts_as_before history entry q (Some (Prepare name batch)) other = decided_any (history ++ entry ∷ []) q ∙ decided_next history entry q ∙ or_false (list_any (decides q) history) (decides q entry) other ∙ sym (decided_any history q)
counts_as_before history entry q (Some (Commit p)) other = refl
counts_as_before history entry q (Some (Undo p batch)) other = refl
counts_as_before history entry q (Some (Close p)) other = refl

version_stays : (history : List Entry) (entry : Entry) (q : ℕ) (key : List ℕ) → q ≤ length history → decides q entry ≡ false → committed_version (history ++ entry ∷ []) q key ≡ committed_version history q key
version_stays history entry q key le other =
    ap (λ (at : Option Entry). cond (is_some (decision_in (history ++ entry ∷ []) q at)) (version_in at key) None) (entry_at_old history (entry ∷ []) q le)
    ∙ ap (λ (b : Bool). cond b (entry_version history q key) None) (counts_as_before history entry q (entry_at history q) other)

counts_decided : (history : List Entry) (p : ℕ) (at : Option Entry) → is_prepare at ≡ true → list_any (decides p) history ≡ true → is_some (decision_in history p at) ≡ true
counts_decided history p None prepared decided = absurd cc
counts_decided history p (Some (Write batch)) prepared decided = absurd cc
counts_decided history p (Some (Prepare name batch)) prepared decided = decided_any history p ∙ decided
counts_decided history p (Some (Commit q)) prepared decided = absurd cc
counts_decided history p (Some (Undo q batch)) prepared decided = absurd cc
counts_decided history p (Some (Close q)) prepared decided = absurd cc

-- a decided prepare is committed
decided_version : (history : List Entry) (entry : Entry) (p : ℕ) (key : List ℕ) → is_undecided history p ≡ true → decides p entry ≡ true → committed_version (history ++ entry ∷ []) p key ≡ entry_version history p key
decided_version history entry p key undecided it =
    let le = (undecided_within history p undecided).1 in
    let decided : list_any (decides p) (history ++ entry ∷ []) ≡ true = decided_next history entry p ∙ or_right (list_any (decides p) history) (decides p entry) it in
    ap (λ (at : Option Entry). cond (is_some (decision_in (history ++ entry ∷ []) p at)) (version_in at key) None) (entry_at_old history (entry ∷ []) p le)
    ∙ ap (λ (b : Bool). cond b (entry_version history p key) None) (counts_decided (history ++ entry ∷ []) p (entry_at history p) (undecided_prepared history p undecided) decided)

next_version : (history : List Entry) (entry : Entry) (key : List ℕ) → committed_version (history ++ entry ∷ []) (length history + 1) key ≡ cond (is_some (decision_in (history ++ entry ∷ []) (length history + 1) (Some entry))) (change_to (changes_in entry) key) None
next_version history entry key = ap (λ (at : Option Entry). cond (is_some (decision_in (history ++ entry ∷ []) (length history + 1) at)) (version_in at key) None) (entry_at_next history entry)

-- ---- the law at one key

pub record IsLawful (history : List Entry) (key : List ℕ) : Type 0 where
  pub newest_counts : (p : ℕ) (value : Option (List ℕ)) → committed_version history p key ≡ Some value → ((q : ℕ) → p < q → committed_version history q key ≡ None) → value ≡ newest history key
  pub none_counts : ((p : ℕ) → committed_version history p key ≡ None) → newest history key ≡ None

-- where no version of the key is new, and the store keeps its value
lawful_same : (history grown : List Entry) (key : List ℕ) → IsLawful history key → ((q : ℕ) → committed_version grown q key ≡ committed_version history q key) → newest grown key ≡ newest history key → IsLawful grown key
lawful_same history grown key lawful same value = record {
  newest_counts = λ p x here above. lawful.newest_counts p x (sym (same p) ∙ here) (λ q lt. sym (same q) ∙ above q lt) ∙ sym value;
  none_counts = λ none. value ∙ lawful.none_counts (λ q. sym (same q) ∙ none q);
}

-- where the store's value is the version at d, and none above counts
lawful_top : (grown : List Entry) (key : List ℕ) (d : ℕ) → committed_version grown d key ≡ Some (newest grown key) → ((q : ℕ) → d < q → committed_version grown q key ≡ None) → IsLawful grown key
lawful_top grown key d top above = record {
  newest_counts = λ p x here above_p. elim (cases_order p d) [
    | inl same ↦ let again : committed_version grown d key ≡ Some x = ap (λ (n : ℕ). committed_version grown n key) (sym same) ∙ here in cc
    | inr apart ↦ elim apart [
      | inl below ↦ let nothing = above_p d below in absurd cc
      | inr past ↦ let nothing = above p past in absurd cc
    ]
  ];
  none_counts = λ none. let nothing = none d in absurd cc;
}

-- ---- with an entry that commits nothing under the key

nothing_past : (history : List Entry) (entry : Entry) (key : List ℕ) → committed_version (history ++ entry ∷ []) (length history + 1) key ≡ None → (q : ℕ) → length history < q → committed_version (history ++ entry ∷ []) q key ≡ None
nothing_past history entry key next q past =
    elim (cases_order q (length history + 1)) [
      | inl same ↦ rw same next
      | inr apart ↦ elim apart [
        | inl below ↦ absurd (omega arith)
        | inr beyond ↦ none_counts_past (history ++ entry ∷ []) q key (omega (arith, length_next history entry))
      ]
    ]

same_versions : (history : List Entry) (entry : Entry) (key : List ℕ) → committed_version (history ++ entry ∷ []) (length history + 1) key ≡ None → ((q : ℕ) → q ≤ length history → decides q entry ≡ true → committed_version (history ++ entry ∷ []) q key ≡ committed_version history q key)
    → (q : ℕ) → committed_version (history ++ entry ∷ []) q key ≡ committed_version history q key
same_versions history entry key next decided q =
    elim (cases_lt (length history) q) [
      | inl past ↦ nothing_past history entry key next q past ∙ sym (none_counts_past history q key past)
      | inr le ↦ elim (cases_Bool (decides q entry)) [
        | inl it ↦ decided q le it
        | inr other ↦ version_stays history entry q key le other
      ]
    ]

-- a prepare that has no version of the key brings none when it is decided
nothing_decided : (history : List Entry) (entry : Entry) (key : List ℕ) (p : ℕ) → change_to (batch_at history p) key ≡ None → is_undecided history p ≡ true → ((q : ℕ) → decides q entry ≡ true → p ≡ q)
    → (q : ℕ) → q ≤ length history → decides q entry ≡ true → committed_version (history ++ entry ∷ []) q key ≡ committed_version history q key
nothing_decided history entry key p none undecided it q le decided =
    let nothing : entry_version history q key ≡ None = ap (λ (n : ℕ). entry_version history n key) (sym (it q decided)) ∙ undecided_version history key p undecided ∙ none in
    no_version_counts (history ++ entry ∷ []) q key (entry_version_old history (entry ∷ []) q key le ∙ nothing) ∙ sym (no_version_counts history q key nothing)

-- ---- with an entry that keeps what it commits

kept_lawful : (history : List Entry) (entry : Entry) (key : List ℕ) → IsLawful history key → ((q : ℕ) → decides q entry ≡ false)
    → committed_version (history ++ entry ∷ []) (length history + 1) key ≡ change_to (changes_in entry) key → newest (history ++ entry ∷ []) key ≡ unwrap_or (change_to (changes_in entry) key) (newest history key) → IsLawful (history ++ entry ∷ []) key
kept_lawful history entry key lawful never version value =
    let grown = history ++ entry ∷ [] in
    elim (change_to (changes_in entry) key) as (λ change. change_to (changes_in entry) key ≡ change → IsLawful grown key) [
      | None ↦ λ e. lawful_same history grown key lawful (same_versions history entry key (version ∙ e) (λ q le it. let other = never q in absurd cc)) (value ∙ ap (λ (c : Option (Option (List ℕ))). unwrap_or c (newest history key)) e)
      | Some x ↦ λ e.
          let store : newest grown key ≡ x = value ∙ ap (λ (c : Option (Option (List ℕ))). unwrap_or c (newest history key)) e in
          lawful_top grown key (length history + 1) (version ∙ e ∙ ap (λ (v : Option (List ℕ)). Some v) (sym store)) (λ q lt. none_counts_past grown q key (omega (arith, length_next history entry)))
    ] refl

restored_same : (change : Option (Option (List ℕ))) (value : Option (List ℕ)) → unwrap_or (option_map (λ _. value) change) value ≡ value
restored_same None value = refl
restored_same (Some x) value = refl

undo_keeps_store : (history : List Entry) (p : ℕ) (batch : List Change) (key : List ℕ) → IsLegal history → IsLegalNext history (Undo p batch) → newest (history ++ Undo p batch ∷ []) key ≡ newest history key
undo_keeps_store history p batch key legal after = newest_next history (Undo p batch) key (legal_naming history legal.each) after.orderly.names_undecided

-- what an undo holds under a key of its prepare
undone_to : (history : List Entry) (p : ℕ) (batch : List Change) (key : List ℕ) → batch ≡ prior history (batch_at history p) → change_to batch key ≡ option_map (λ _. newest history key) (change_to (batch_at history p) key)
undone_to history p batch key restores = ap (λ (changes : List Change). change_to changes key) restores ∙ prior_to history (batch_at history p) key

undo_lawful : (history : List Entry) (p : ℕ) (batch : List Change) (key : List ℕ) → IsLegal history → IsLegalNext history (Undo p batch) → IsLawful history key → IsLawful (history ++ Undo p batch ∷ []) key
undo_lawful history p batch key legal after lawful =
    let value : unwrap_or (change_to batch key) (newest history key) ≡ newest history key = ap (λ (c : Option (Option (List ℕ))). unwrap_or c (newest history key)) (undone_to history p batch key after.restores_prior) ∙ restored_same (change_to (batch_at history p) key) (newest history key) in
    kept_lawful history (Undo p batch) key lawful (λ q. refl) (next_version history (Undo p batch) key) (undo_keeps_store history p batch key legal after ∙ sym value)

-- ---- with a decision

commit_lawful : (history : List Entry) (p : ℕ) (key : List ℕ) → IsLegal history → NoneAbove history → IsLegalNext history (Commit p) → IsLawful history key → IsLawful (history ++ Commit p ∷ []) key
commit_lawful history p key legal none after lawful =
    let grown = history ++ Commit p ∷ [] in
    let value = newest_next history (Commit p) key (legal_naming history legal.each) after.orderly.names_undecided in
    let next = next_version history (Commit p) key in
    elim (change_to (batch_at history p) key) as (λ change. change_to (batch_at history p) key ≡ change → IsLawful grown key) [
      | None ↦ λ e. lawful_same history grown key lawful (same_versions history (Commit p) key next (nothing_decided history (Commit p) key p e after.orderly.names_undecided (λ q. eqb-true p q))) (value ∙ ap (λ (c : Option (Option (List ℕ))). unwrap_or c (newest history key)) e)
      | Some x ↦ λ e.
          let store : newest grown key ≡ x = value ∙ ap (λ (c : Option (Option (List ℕ))). unwrap_or c (newest history key)) e in
          let version : committed_version grown p key ≡ Some x = decided_version history (Commit p) p key after.orderly.names_undecided (eq-eqb p p refl) ∙ undecided_version history key p after.orderly.names_undecided ∙ e in
          let holds : Holds history key p = record { undecided = after.orderly.names_undecided; changed = is_changed_from (batch_at history p) key x e } in
          lawful_top grown key p (version ∙ ap (λ (v : Option (List ℕ)). Some v) (sym store)) (λ q lt. elim (cases_lt (length history) q) [
            | inl past ↦ nothing_past history (Commit p) key next q past
            | inr le ↦ no_version_counts grown q key (entry_version_old history (Commit p ∷ []) q key le ∙ none_above history key p q none after.orderly.undo_is_closed holds lt)
          ])
    ] refl

-- the undo that ends a history, with its prepare below it, is the version of each key of that prepare
pub record EndsUndone (history : List Entry) (key : List ℕ) (p : ℕ) : Type 0 where
  pub below : p < length history
  pub version : committed_version history (length history) key ≡ Some (newest history key)

undo_version : (front : List Entry) (p : ℕ) (batch : List Change) (key : List ℕ) (x : Option (List ℕ)) → IsLegal (front ++ Undo p batch ∷ []) → change_to (batch_at (front ++ Undo p batch ∷ []) p) key ≡ Some x → EndsUndone (front ++ Undo p batch ∷ []) key p
undo_version front p batch key x legal changed =
    let history = front ++ Undo p batch ∷ [] in
    let before : IsLegal front = legal_before front (Undo p batch ∷ []) legal in
    let after : IsLegalNext front (Undo p batch) = after_front front (Undo p batch) [] legal in
    let within : p ≤ length front = (undecided_within front p after.orderly.names_undecided).1 in
    let old : change_to (batch_at front p) key ≡ Some x = ap (λ (changes : List Change). change_to changes key) (sym (batch_at_old front (Undo p batch ∷ []) p within)) ∙ changed in
    let held : change_to batch key ≡ Some (newest front key) = undone_to front p batch key after.restores_prior ∙ ap (option_map (λ _. newest front key)) old in
    record {
      below = omega (arith, length_next front (Undo p batch));
      version = ap (λ (n : ℕ). committed_version history n key) (length_next front (Undo p batch)) ∙ next_version front (Undo p batch) key ∙ held ∙ ap (λ (v : Option (List ℕ)). Some v) (sym (undo_keeps_store front p batch key before after));
    }

ends_undone : (history : List Entry) (p : ℕ) (key : List ℕ) (x : Option (List ℕ)) → IsLegal history → undone_last history ≡ Some p → change_to (batch_at history p) key ≡ Some x → EndsUndone history key p
ends_undone history p key x legal undone changed =
    let last = last_undo history p undone in
    let P : List Entry → Type 0 = λ h. IsLegal h → change_to (batch_at h p) key ≡ Some x → EndsUndone h key p in
    subst P (sym last.is) (undo_version last.front p last.batch key x) legal changed

close_lawful : (history : List Entry) (p : ℕ) (key : List ℕ) → IsLegal history → IsLegalNext history (Close p) → IsLawful history key → IsLawful (history ++ Close p ∷ []) key
close_lawful history p key legal after lawful =
    let grown = history ++ Close p ∷ [] in
    let value : newest grown key ≡ newest history key = newest_next history (Close p) key (legal_naming history legal.each) after.orderly.names_undecided in
    let next = next_version history (Close p) key in
    elim (change_to (batch_at history p) key) as (λ change. change_to (batch_at history p) key ≡ change → IsLawful grown key) [
      | None ↦ λ e. lawful_same history grown key lawful (same_versions history (Close p) key next (nothing_decided history (Close p) key p e after.orderly.names_undecided (λ q. eqb-true p q))) value
      | Some x ↦ λ e.
          let last = ends_undone history p key x legal after.orderly.undo_is_closed e in
          let below = last.below in
          let other : decides (length history) (Close p) ≡ false = ne_eqb p (length history) (λ same. omega arith) in
          lawful_top grown key (length history) (version_stays history (Close p) (length history) key (omega arith) other ∙ last.version ∙ ap (λ (v : Option (List ℕ)). Some v) (sym value)) (nothing_past history (Close p) key next)
    ] refl

-- ---- with any entry

prepare_version : (history : List Entry) (name : List ℕ) (batch : List Change) (key : List ℕ) → IsLegal history → committed_version (history ++ Prepare name batch ∷ []) (length history + 1) key ≡ None
prepare_version history name batch key legal =
    let decided : is_some (decision_in (history ++ Prepare name batch ∷ []) (length history + 1) (Some (Prepare name batch))) ≡ false = decided_any (history ++ Prepare name batch ∷ []) (length history + 1) ∙ decided_next history (Prepare name batch) (length history + 1) ∙ or_false _ false refl ∙ never_decided history (length history + 1) (legal_naming history legal.each) (omega arith) in
    next_version history (Prepare name batch) key ∙ ap (λ (b : Bool). cond b (change_to batch key) None) decided

lawful_next : (history : List Entry) (entry : Entry) (key : List ℕ) → IsLegal history → IsLegalNext history entry → IsLawful history key → IsLawful (history ++ entry ∷ []) key
lawful_next history (Write batch) key legal after lawful = kept_lawful history (Write batch) key lawful (λ q. refl) (next_version history (Write batch) key) (newest_next history (Write batch) key (legal_naming history legal.each) tt)
lawful_next history (Prepare name batch) key legal after lawful = lawful_same history (history ++ Prepare name batch ∷ []) key lawful (same_versions history (Prepare name batch) key (prepare_version history name batch key legal) (λ q le it. absurd cc)) (newest_next history (Prepare name batch) key (legal_naming history legal.each) tt)
lawful_next history (Commit p) key legal after lawful = commit_lawful history p key legal (legal_none_above history legal) after lawful
lawful_next history (Undo p batch) key legal after lawful = undo_lawful history p batch key legal after lawful
lawful_next history (Close p) key legal after lawful = close_lawful history p key legal after lawful

version_in_none : (p : ℕ) (key : List ℕ) → entry_version [] p key ≡ None
version_in_none zero key = refl
version_in_none (suc n) key = refl

lawful_none : (key : List ℕ) → IsLawful [] key
lawful_none key = record {
  newest_counts = λ p x here above. let nothing = no_version_counts [] p key (version_in_none p key) in absurd cc;
  none_counts = λ none. refl;
}

legal_lawful : (history : List Entry) → IsLegal history → (key : List ℕ) → IsLawful history key
legal_lawful history legal key = by_growth (λ h. IsLawful h key) (lawful_none key) (λ h entry _ before after lawful. lawful_next h entry key before after lawful) history legal

-- ---- by what is committed at a number

-- no entry above p has a version of the key that counts
record NoneCountsAbove (front : List Entry) (key : List ℕ) (p : ℕ) : Type 0 where
  above : (q : ℕ) → p < q → committed_version front q key ≡ None

-- at the number that the first entries reach
module _ (front more : List Entry) (key : List ℕ) (legal : IsLegal (front ++ more)) where
  lawful : IsLawful front key
  lawful = legal_lawful front (legal_before front more legal) key

  stored_in : value_at (front ++ more) key (length front) ≡ newest front key
  stored_in = ap (λ (h : List Entry). newest h key) (take-append_seam front more)

  version_by : (p : ℕ) → IsCommittedAt (front ++ more) p (length front) → committed_version front p key ≡ entry_version (front ++ more) p key
  version_by p committed =
      let counted = counts_from front more p legal committed in
      ap (λ (b : Bool). cond b (entry_version front p key) None) counted ∙ sym (entry_version_old front more p key (counts_within front p counted))

  -- a version that counts is committed
  committed_by : (p : ℕ) (value : Option (List ℕ)) → committed_version front p key ≡ Some value → IsCommittedAt (front ++ more) p (length front)
  committed_by p value here = committed_from front more p (elim (cases_Bool (counts front p)) [
    | inl counted ↦ counted
    | inr uncounted ↦ let nothing : committed_version front p key ≡ None = ap (λ (b : Bool). cond b (entry_version front p key) None) uncounted in absurd cc
  ])

  none_by : (p : ℕ) → (IsCommittedAt (front ++ more) p (length front) → entry_version (front ++ more) p key ≡ None) → committed_version front p key ≡ None
  none_by p none = by (committed_version front p key) refl
    where
      by : (o : Option (Option (List ℕ))) → committed_version front p key ≡ o → committed_version front p key ≡ None
      by None is = is
      by (Some value) is = let committed = committed_by p value is in version_by p committed ∙ none committed

  newest_stored : (p : ℕ) (v : IsNewestCommitted (front ++ more) key (length front) p) → value_at (front ++ more) key (length front) ≡ v.value
  newest_stored p v = stored_in ∙ sym (lawful.newest_counts p v.value (version_by p v.committed ∙ v.there) (λ q lt. none_by q (v.newest q lt)))

  none_stored : HasNoneCommitted (front ++ more) key (length front) → value_at (front ++ more) key (length front) ≡ None
  none_stored none = stored_in ∙ lawful.none_counts (λ p. none_by p (none p))

  -- searched backwards
  sought : (p : ℕ) → NoneCountsAbove front key p → HasNoneCommitted (front ++ more) key (length front) ⊎ ((q : ℕ) × IsNewestCommitted (front ++ more) key (length front) q)
  sought zero none = inl (λ p committed. sym (version_by p committed) ∙ elim (cases_eq p 0) [
    | inl start ↦ rw start (no_version_counts front 0 key refl)
    | inr other ↦ none.above p (omega arith)
  ])
  sought (suc n) none = by (sought n) (committed_version front (suc n) key) refl
    where
      by : (NoneCountsAbove front key n → HasNoneCommitted (front ++ more) key (length front) ⊎ ((q : ℕ) × IsNewestCommitted (front ++ more) key (length front) q))
          → (o : Option (Option (List ℕ))) → committed_version front (suc n) key ≡ o → HasNoneCommitted (front ++ more) key (length front) ⊎ ((q : ℕ) × IsNewestCommitted (front ++ more) key (length front) q)
      by below None is = below (record {
        above = λ q lt. elim (cases_eq q (suc n)) [
          | inl here ↦ rw here is
          | inr other ↦ none.above q (omega arith)
        ];
      })
      by below (Some value) is = let committed = committed_by (suc n) value is in inr (
        suc n,
        record {
          value = value;
          there = sym (version_by (suc n) committed) ∙ is;
          committed = committed;
          newest = λ q lt at. sym (version_by q at) ∙ none.above q lt;
        },
      )

  newest_or_none : HasNoneCommitted (front ++ more) key (length front) ⊎ ((q : ℕ) × IsNewestCommitted (front ++ more) key (length front) q)
  newest_or_none = sought (length front) (record { above = λ q lt. none_counts_past front q key lt })

-- the first n entries reach n
at_front : (P : List Entry → ℕ → Type 0) (history : List Entry) (n : ℕ) → IsLegal history → n ≤ length history → ((front more : List Entry) → IsLegal (front ++ more) → P (front ++ more) (length front)) → P history n
at_front P history n legal le holds =
    let whole = take-append-drop n history in
    subst (λ (m : ℕ). P history m) (length-take-le n history le)
    (subst (λ (h : List Entry). P h (length (take n history))) whole (holds (take n history) (drop n history) (subst IsLegal (sym whole) legal)))

pub newest_is_value : (history : List Entry) (key : List ℕ) (n p : ℕ) → IsLegal history → n ≤ length history → (v : IsNewestCommitted history key n p) → value_at history key n ≡ v.value
newest_is_value history key n p legal le =
    at_front (λ h m. (v : IsNewestCommitted h key m p) → value_at h key m ≡ v.value) history n legal le (λ front more whole. newest_stored front more key whole p)

pub none_is_no_value : (history : List Entry) (key : List ℕ) (n : ℕ) → IsLegal history → n ≤ length history → HasNoneCommitted history key n → value_at history key n ≡ None
none_is_no_value history key n legal le =
    at_front (λ h m. HasNoneCommitted h key m → value_at h key m ≡ None) history n legal le (λ front more whole. none_stored front more key whole)

pub one_or_none : (history : List Entry) (key : List ℕ) (n : ℕ) → IsLegal history → n ≤ length history → HasNoneCommitted history key n ⊎ ((p : ℕ) × IsNewestCommitted history key n p)
one_or_none history key n legal le =
    at_front (λ h m. HasNoneCommitted h key m ⊎ ((p : ℕ) × IsNewestCommitted h key m p)) history n legal le (λ front more whole. newest_or_none front more key whole)
