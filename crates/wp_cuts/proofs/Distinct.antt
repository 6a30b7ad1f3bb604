-- No two undecided prepares of a legal list have a name or a key together.
use Rattle.std.proofs.Common.{◌≡◌, ℕ, ◌+◌, Bool, true, false, not, cond, eqb, List, [], ◌∷◌, ◌++◌, length, Option, Some, None, ◌⊎◌, refl, sym, ap, ◌∙◌, inl, inr, arith}
use Rattle.std.specs.List.{list_any, find}
use Rattle.std.specs.Str.{bytes_eq}
use Rattle.std.proofs.lemmas.Bool.{cases_lt, or_cases, and_parts, eqb-true}
use Rattle.std.proofs.lemmas.Slice.Eq.{bytes_eq-Decides}
use Rattle.wp_model.specs.declared.entry.Entry.{Entry}
use Rattle.wp_model.specs.declared.entry.Entry.TheVariants.{Write, Prepare, Commit, Undo, Close}
use Rattle.wp_model.specs.History.{entry_at, is_prepare, prepared_name, prepared_batch, name_at, batch_at, decides, is_undecided, undecided, named, is_changed}
use Rattle.wp_model.specs.Legal.{KeysAreFree, IsLegalNext, AreLegal}
use Rattle.wp_model.proofs.Entries.{entry_at_old, undecided_prepared, undecided_within}
use Rattle.wp_history_laws.proofs.Growth.{entry_at_next, length_next}
use Rattle.wp_history_laws.proofs.Undecided.{is_undecided_by_list, undecided_old}
use Rattle.wp_history_laws.proofs.Held.{not_free, free_key}
use Rattle.wp_history_laws.proofs.Following.{by_following}

pub record AreDistinct (history : List Entry) : Type 0 where
  pub names : (p q : ℕ) → is_undecided history p ≡ true → is_undecided history q ≡ true → name_at history p ≡ name_at history q → p ≡ q
  pub keys : (p q : ℕ) (key : List ℕ) → is_undecided history p ≡ true → is_undecided history q ≡ true → is_changed (batch_at history p) key ≡ true → is_changed (batch_at history q) key ≡ true → p ≡ q

-- ---- what is free is no undecided prepare's

not_found : (test : ℕ → Bool) (ps : List ℕ) (p : ℕ) → find test ps ≡ None → list_any (λ k. eqb k p) ps ≡ true → test p ≡ true → ⊥
not_found test [] p none there passes = absurd cc
not_found test (q ∷ ps) p none there passes = by (test q) refl none (λ e behind. not_found test ps p e behind passes)
  where
    by : (b : Bool) → test q ≡ b → cond b (Some q) (find test ps) ≡ None → (find test ps ≡ None → list_any (λ k. eqb k p) ps ≡ true → ⊥) → ⊥
    by true is e rest = absurd cc
    by false is e rest = elim (or_cases (eqb q p) (list_any (λ k. eqb k p) ps) there) [
      | inl here ↦ let same : test q ≡ test p = ap test (eqb-true q p here) in absurd cc
      | inr behind ↦ rest e behind
    ]

pub not_named : (history : List Entry) (name : List ℕ) (p : ℕ) → is_undecided history p ≡ true → name_at history p ≡ name → named history name ≡ None → ⊥
not_named history name p undecided_p same none =
    not_found (λ q. bytes_eq (name_at history q) name) (undecided history) p none (is_undecided_by_list history p ∙ undecided_p) ((bytes_eq-Decides (name_at history p) name).1 same)

-- ---- with an entry that may follow

other_name : (history : List Entry) (entry : Entry) (p : ℕ) → KeysAreFree history entry → is_prepare (Some entry) ≡ true → is_undecided history p ≡ true → name_at history p ≡ prepared_name (Some entry) → ⊥
other_name history (Write batch) p free is undecided_p same = absurd cc
other_name history (Prepare name batch) p free is undecided_p same = not_named history name p undecided_p same free.1
other_name history (Commit q) p free is undecided_p same = absurd cc
other_name history (Undo q batch) p free is undecided_p same = absurd cc
other_name history (Close q) p free is undecided_p same = absurd cc

other_keys : (history : List Entry) (entry : Entry) (p : ℕ) (key : List ℕ) → KeysAreFree history entry → is_prepare (Some entry) ≡ true → is_undecided history p ≡ true
    → is_changed (batch_at history p) key ≡ true → is_changed (prepared_batch (Some entry)) key ≡ true → ⊥
other_keys history (Write batch) p key free is undecided_p changed its = absurd cc
other_keys history (Prepare name batch) p key free is undecided_p changed its = not_free history key p undecided_p changed (free_key history batch key free.0 its)
other_keys history (Commit q) p key free is undecided_p changed its = absurd cc
other_keys history (Undo q batch) p key free is undecided_p changed its = absurd cc
other_keys history (Close q) p key free is undecided_p changed its = absurd cc

-- an undecided prepare was undecided before, or is the entry
abbrev IsOldOrNext : List Entry → Entry → ℕ → Type 0
IsOldOrNext history entry p =
    ((is_undecided history p ≡ true) × (entry_at (history ++ entry ∷ []) p ≡ entry_at history p)) ⊎ ((p ≡ length history + 1) × (is_prepare (Some entry) ≡ true) × (entry_at (history ++ entry ∷ []) p ≡ Some entry))

old_or_next : (history : List Entry) (entry : Entry) (p : ℕ) → is_undecided (history ++ entry ∷ []) p ≡ true → IsOldOrNext history entry p
old_or_next history entry p undecided_p =
    elim (cases_lt (length history) p) [
      | inl past ↦
          let within = undecided_within (history ++ entry ∷ []) p undecided_p in
          let next : p ≡ length history + 1 = omega (arith, past, within.1, length_next history entry) in
          let at : entry_at (history ++ entry ∷ []) p ≡ Some entry = ap (entry_at (history ++ entry ∷ [])) next ∙ entry_at_next history entry in
          inr (next, ap is_prepare (sym at) ∙ undecided_prepared (history ++ entry ∷ []) p undecided_p, at)
      | inr le ↦
          let before = and_parts (is_undecided history p) (not (decides p entry)) (sym (undecided_old history entry p le) ∙ undecided_p) in
          inl (before.0, entry_at_old history (entry ∷ []) p le)
    ]

module _ (history : List Entry) (entry : Entry) (free : KeysAreFree history entry) (distinct : AreDistinct history) where
  abbrev grown : List Entry
  grown = history ++ entry ∷ []

  names_next : (p q : ℕ) → is_undecided grown p ≡ true → is_undecided grown q ≡ true → name_at grown p ≡ name_at grown q → p ≡ q
  names_next p q one other same = elim (old_or_next history entry p one) [
    | inl old ↦ elim (old_or_next history entry q other) [
      | inl too ↦ distinct.names p q old.0 too.0 (ap prepared_name (sym old.1) ∙ same ∙ ap prepared_name too.1)
      | inr next ↦ absurd (other_name history entry p free next.1 old.0 (ap prepared_name (sym old.1) ∙ same ∙ ap prepared_name next.2))
    ]
    | inr next ↦ elim (old_or_next history entry q other) [
      | inl old ↦ absurd (other_name history entry q free next.1 old.0 (ap prepared_name (sym old.1) ∙ sym same ∙ ap prepared_name next.2))
      | inr too ↦ next.0 ∙ sym too.0
    ]
  ]

  keys_next : (p q : ℕ) (key : List ℕ) → is_undecided grown p ≡ true → is_undecided grown q ≡ true → is_changed (batch_at grown p) key ≡ true → is_changed (batch_at grown q) key ≡ true → p ≡ q
  keys_next p q key one other changed its =
      let of : (a b : Option Entry) → a ≡ b → is_changed (prepared_batch a) key ≡ true → is_changed (prepared_batch b) key ≡ true = λ a b e h. ap (λ (x : Option Entry). is_changed (prepared_batch x) key) (sym e) ∙ h in
      elim (old_or_next history entry p one) [
        | inl old ↦ elim (old_or_next history entry q other) [
          | inl too ↦ distinct.keys p q key old.0 too.0 (of (entry_at grown p) (entry_at history p) old.1 changed) (of (entry_at grown q) (entry_at history q) too.1 its)
          | inr next ↦ absurd (other_keys history entry p key free next.1 old.0 (of (entry_at grown p) (entry_at history p) old.1 changed) (of (entry_at grown q) (Some entry) next.2 its))
        ]
        | inr next ↦ elim (old_or_next history entry q other) [
          | inl old ↦ absurd (other_keys history entry q key free next.1 old.0 (of (entry_at grown q) (entry_at history q) old.1 its) (of (entry_at grown p) (Some entry) next.2 changed))
          | inr too ↦ next.0 ∙ sym too.0
        ]
      ]

distinct_none : AreDistinct []
distinct_none = record {
  names = λ p q one other same. let within = undecided_within [] p one in absurd (omega (arith, within.0, within.1));
  keys = λ p q key one other changed its. let within = undecided_within [] p one in absurd (omega (arith, within.0, within.1));
}

pub legal_distinct : (history : List Entry) → AreLegal history → AreDistinct history
legal_distinct history each =
    by_following IsLegalNext AreDistinct distinct_none (λ h entry _ after distinct. record { names = names_next h entry after.orderly.keys_are_free distinct; keys = keys_next h entry after.orderly.keys_are_free distinct }) history each
