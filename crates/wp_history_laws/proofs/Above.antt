-- No version of a key is above an undecided prepare of it but its own undo, and that ends the history.
use Rattle.std.proofs.Common.{◌≡◌, ℕ, ◌+◌, ◌<◌, ◌≤◌, true, false, not, List, [], ◌∷◌, ◌++◌, length, Option, Some, None, ◌⊎◌, refl, sym, ap, ◌∙◌, inl, inr, arith}
use Rattle.std.specs.Prelude.{option_map, is_some}
use Rattle.std.proofs.lemmas.Bool.{cases_lt, cases_Bool, cases_order, and_parts, not-true, eq-eqb}
use Rattle.wp_model.specs.declared.change.Change.{Change}
use Rattle.wp_model.specs.declared.entry.Entry.{Entry}
use Rattle.wp_model.specs.declared.entry.Entry.TheVariants.{Write, Prepare, Commit, Undo, Close}
use Rattle.wp_model.specs.Batch.{change_to}
use Rattle.wp_model.specs.History.{entry_at, is_prepare, prepared_batch, batch_at, decides, is_undecided, is_changed, newest}
use Rattle.wp_model.specs.Legal.{changes_in, IsLegal, IsLegalNext, UndoIsClosed, undone_last, prior}
use Rattle.wp_model.specs.Decision.{version_in, entry_version}
use Rattle.wp_history_laws.specs.Growth.{undone_by}
use Rattle.wp_history_laws.proofs.Growth.{entry_at_next, length_next, by_growth}
use Rattle.wp_model.proofs.Entries.{entry_at_past, undecided_prepared, undecided_within, batch_at_old}
use Rattle.wp_history_laws.proofs.Undecided.{undecided_old}
use Rattle.wp_history_laws.proofs.Undone.{undone_next}
use Rattle.wp_history_laws.proofs.Counting.{entry_version_old}
use Rattle.wp_history_laws.proofs.Held.{not_free, free_key, prior_to}

-- p is an undecided prepare of the key
pub record Holds (history : List Entry) (key : List ℕ) (p : ℕ) : Type 0 where
  pub undecided : is_undecided history p ≡ true
  pub changed : is_changed (batch_at history p) key ≡ true

-- nothing is there under the key, or the undo of p, which ends the history
abbrev pub IsNoneOrUndo : List Entry → List ℕ → ℕ → ℕ → Type 0
IsNoneOrUndo history key p q = (entry_version history q key ≡ None) ⊎ ((q ≡ length history) × (undone_last history ≡ Some p))

pub record NoneAbove (history : List Entry) : Type 0 where
  pub above : (key : List ℕ) (p q : ℕ) → Holds history key p → p < q → IsNoneOrUndo history key p q

-- ---- with an entry more

entry_version_past : (history : List Entry) (q : ℕ) (key : List ℕ) → length history < q → entry_version history q key ≡ None
entry_version_past history q key past = ap (λ (at : Option Entry). version_in at key) (entry_at_past history q past)

entry_version_next : (history : List Entry) (entry : Entry) (key : List ℕ) → entry_version (history ++ entry ∷ []) (length history + 1) key ≡ change_to (changes_in entry) key
entry_version_next history entry key = ap (λ (at : Option Entry). version_in at key) (entry_at_next history entry)

version_of_prepare : (at : Option Entry) (key : List ℕ) → is_prepare at ≡ true → version_in at key ≡ change_to (prepared_batch at) key
version_of_prepare None key h = absurd cc
version_of_prepare (Some (Write batch)) key h = absurd cc
version_of_prepare (Some (Prepare name batch)) key h = refl
version_of_prepare (Some (Commit p)) key h = absurd cc
version_of_prepare (Some (Undo p batch)) key h = absurd cc
version_of_prepare (Some (Close p)) key h = absurd cc

-- an undecided prepare has the version that its batch makes
pub undecided_version : (history : List Entry) (key : List ℕ) (p : ℕ) → is_undecided history p ≡ true → entry_version history p key ≡ change_to (batch_at history p) key
undecided_version history key p undecided = version_of_prepare (entry_at history p) key (undecided_prepared history p undecided)

-- what held a key with an entry more held it before, and is not decided by the entry
pub held_before : (history : List Entry) (entry : Entry) (key : List ℕ) (p : ℕ) → p ≤ length history → Holds (history ++ entry ∷ []) key p → Holds history key p × (decides p entry ≡ false)
held_before history entry key p le holds =
    let both = and_parts (is_undecided history p) (not (decides p entry)) (sym (undecided_old history entry p le) ∙ holds.undecided) in
    (record { undecided = both.0; changed = ap (λ (batch : List Change). is_changed batch key) (sym (batch_at_old history (entry ∷ []) p le)) ∙ holds.changed }, not-true (decides p entry) both.1)

-- only the Close of a prepare may follow its undo
closed_by : (history : List Entry) (entry : Entry) (p : ℕ) → UndoIsClosed history entry → undone_last history ≡ Some p → decides p entry ≡ true
closed_by history (Write batch) p closed undone = absurd cc
closed_by history (Prepare name batch) p closed undone = absurd cc
closed_by history (Commit q) p closed undone = absurd cc
closed_by history (Undo q batch) p closed undone = absurd cc
closed_by history (Close q) p closed undone = let same : q ≡ p = cc in eq-eqb q p same

-- where no undo ends the history, nothing at all is above under the key
pub none_above : (history : List Entry) (key : List ℕ) (p q : ℕ) → NoneAbove history → undone_last history ≡ None → Holds history key p → p < q → entry_version history q key ≡ None
none_above history key p q none ended holds lt =
    elim (none.above key p q holds lt) [
      | inl nothing ↦ nothing
      | inr undo ↦ absurd cc
    ]

-- nor where the next entry does not close the prepare
none_above_others : (history : List Entry) (entry : Entry) (key : List ℕ) (p q : ℕ) → NoneAbove history → UndoIsClosed history entry → Holds history key p → decides p entry ≡ false → p < q → entry_version history q key ≡ None
none_above_others history entry key p q none closed holds other lt =
    elim (none.above key p q holds lt) [
      | inl nothing ↦ nothing
      | inr undo ↦ let it = closed_by history entry p closed undo.1 in absurd cc
    ]

pub is_changed_from : (changes : List Change) (key : List ℕ) (value : Option (List ℕ)) → change_to changes key ≡ Some value → is_changed changes key ≡ true
is_changed_from changes key value e = ap is_some e

not_changed : (changes : List Change) (key : List ℕ) → (is_changed changes key ≡ true → ⊥) → change_to changes key ≡ None
not_changed changes key never =
    elim (change_to changes key) as (λ c. change_to changes key ≡ c → c ≡ None) [
      | None ↦ λ _. refl
      | Some value ↦ λ e. absurd (never (is_changed_from changes key value e))
    ] refl

-- two undecided prepares hold no key together
held_once : (history : List Entry) (key : List ℕ) (p q : ℕ) → NoneAbove history → undone_last history ≡ None → Holds history key p → Holds history key q → p < q → ⊥
held_once history key p q none ended holds other lt =
    let version = undecided_version history key q other.undecided in
    let nothing = none_above history key p q none ended holds lt in
    let changed = other.changed in
    let missing : is_changed (batch_at history q) key ≡ false = ap is_some (sym version ∙ nothing) in
    absurd cc

pub same_holder : (history : List Entry) (key : List ℕ) (p q : ℕ) → NoneAbove history → undone_last history ≡ None → Holds history key p → Holds history key q → q ≡ p
same_holder history key p q none ended holds other =
    elim (cases_order q p) [
      | inl same ↦ same
      | inr apart ↦ elim apart [
        | inl below ↦ absurd (held_once history key q p none ended other holds below)
        | inr above ↦ absurd (held_once history key p q none ended holds other above)
      ]
    ]

some_kept : (change : Option (Option (List ℕ))) (value : Option (List ℕ)) → is_some (option_map (λ _. value) change) ≡ is_some change
some_kept None value = refl
some_kept (Some change) value = refl

-- an undo changes the keys of its prepare
undo_changes : (history : List Entry) (p : ℕ) (batch : List Change) (key : List ℕ) → batch ≡ prior history (batch_at history p) → is_changed batch key ≡ is_changed (batch_at history p) key
undo_changes history p batch key restores =
    ap (λ (changes : List Change). is_changed changes key) restores ∙ ap is_some (prior_to history (batch_at history p) key) ∙ some_kept (change_to (batch_at history p) key) (newest history key)

-- what an entry changes under a key that an undecided prepare holds: nothing, or the entry undoes that prepare
kept_under_held : (history : List Entry) (entry : Entry) (key : List ℕ) (p : ℕ) → NoneAbove history → IsLegalNext history entry → Holds history key p → (change_to (changes_in entry) key ≡ None) ⊎ (undone_by entry ≡ Some p)
kept_under_held history (Write batch) key p none after holds = inl (not_changed batch key (λ changed. not_free history key p holds.undecided holds.changed (free_key history batch key after.orderly.keys_are_free changed)))
kept_under_held history (Prepare name batch) key p none after holds = inl (not_changed batch key (λ changed. not_free history key p holds.undecided holds.changed (free_key history batch key after.orderly.keys_are_free.0 changed)))
kept_under_held history (Commit q) key p none after holds = inl refl
kept_under_held history (Undo q batch) key p none after holds =
    elim (cases_Bool (is_changed batch key)) [
      | inl changed ↦
          let other : Holds history key q = record { undecided = after.orderly.names_undecided; changed = sym (undo_changes history q batch key after.restores_prior) ∙ changed } in
          let same : q ≡ p = same_holder history key p q none after.orderly.undo_is_closed holds other in
          inr (ap (λ (r : ℕ). Some r) same)
      | inr not_it ↦ inl (not_changed batch key (λ changed. absurd cc))
    ]
kept_under_held history (Close q) key p none after holds = inl refl

none_above_at : (history : List Entry) (entry : Entry) (key : List ℕ) (p q : ℕ) → NoneAbove history → IsLegalNext history entry → Holds history key p → decides p entry ≡ false → p < q → IsNoneOrUndo (history ++ entry ∷ []) key p q
none_above_at history entry key p q none after holds other lt =
    elim (cases_order q (length history + 1)) [
      | inl next ↦ elim (kept_under_held history entry key p none after holds) [
        | inl nothing ↦ inl (rw next (entry_version_next history entry key ∙ nothing))
        | inr undone ↦ inr (next ∙ sym (length_next history entry), undone_next history entry ∙ undone)
      ]
      | inr apart ↦ elim apart [
        | inl below ↦ inl (entry_version_old history (entry ∷ []) q key (omega arith) ∙ none_above_others history entry key p q none after.orderly.undo_is_closed holds other lt)
        | inr past ↦ inl (entry_version_past (history ++ entry ∷ []) q key (omega (arith, length_next history entry)))
      ]
    ]

none_above_next : (history : List Entry) (entry : Entry) → NoneAbove history → IsLegalNext history entry → NoneAbove (history ++ entry ∷ [])
none_above_next history entry none after = record {
  above = λ key p q holds lt. elim (cases_lt (length history) p) [
    | inl past ↦ inl (entry_version_past (history ++ entry ∷ []) q key (omega (arith, length_next history entry)))
    | inr le ↦ let before = held_before history entry key p le holds in none_above_at history entry key p q none after before.0 before.1 lt
  ];
}

none_above_none : NoneAbove []
none_above_none = record { above = λ key p q holds lt. absurd (omega (arith, (undecided_within [] p holds.undecided).0, (undecided_within [] p holds.undecided).1)) }

pub legal_none_above : (history : List Entry) → IsLegal history → NoneAbove history
legal_none_above history legal = by_growth NoneAbove none_above_none (λ h entry _ _ after none. none_above_next h entry none after) history legal
