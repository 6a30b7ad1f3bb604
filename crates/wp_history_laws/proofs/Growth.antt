-- How legal histories grow by an entry, and what is at the old numbers.
use Rattle.std.proofs.Common.{◌≡◌, ℕ, ◌+◌, ◌<◌, Bool, true, false, ◌||◌, List, [], ◌∷◌, ◌++◌, length, Some, refl, sym, ap, ◌∙◌, subst, ⊎_elim, add-one, length-append, arith}
use Rattle.std.specs.List.{list_any}
use Rattle.std.proofs.lemmas.Bool.{or_cases, eqb-true}
use Rattle.std.proofs.lemmas.List.Folds.{list_any-append}
use Rattle.wp_model.specs.declared.entry.Entry.{Entry}
use Rattle.wp_model.specs.declared.entry.Entry.TheVariants.{Write, Prepare, Commit, Undo, Close}
use Rattle.wp_model.specs.History.{entry_at, is_prepare, decides, is_undecided}
use Rattle.wp_model.specs.Legal.{AreLegal, IsLegal, IsLegalNext, NamesUndecided, log_end}
use Rattle.wp_model.proofs.Entries.{entry_at_old, prepared_within, undecided_prepared, slice_get_next}
use Rattle.wp_history_laws.proofs.Following.{Follow, follows, follow_front, follow_next, by_following}

-- ---- what is at a number

pub entry_at_next : (history : List Entry) (entry : Entry) → entry_at (history ++ entry ∷ []) (length history + 1) ≡ Some entry
entry_at_next history entry = rw add-one (slice_get_next history entry [])

pub length_next : (history : List Entry) (entry : Entry) → length (history ++ entry ∷ []) ≡ length history + 1
length_next history entry = length-append history (entry ∷ [])

-- ---- legal histories

pub after_front : (history : List Entry) (entry : Entry) (more : List Entry) → IsLegal (history ++ entry ∷ more) → IsLegalNext history entry
after_front history entry more legal = follows IsLegalNext history entry more legal.each

pub legal_before : (history more : List Entry) → IsLegal (history ++ more) → IsLegal history
legal_before history more legal = record {
  few = omega (arith, legal.few, length-append history more);
  each = follow_front IsLegalNext history more legal.each;
}

pub legal_next : (history : List Entry) (entry : Entry) → IsLegal history → IsLegalNext history entry → length history + 1 < log_end → IsLegal (history ++ entry ∷ [])
legal_next history entry legal after few = record {
  few = rw length_next few;
  each = follow_next IsLegalNext history entry legal.each after;
}

-- what holds of no entries, and goes on with each entry that may follow, holds of every legal history
pub by_growth : (P : List Entry → Type 0) → P [] → ((history : List Entry) (entry : Entry) → IsLegal (history ++ entry ∷ []) → IsLegal history → IsLegalNext history entry → P history → P (history ++ entry ∷ []))
    → (history : List Entry) → IsLegal history → P history
by_growth P base step history legal = by_following IsLegalNext (λ h. length h < log_end → P h) (λ few. base) one_more history legal.each legal.few
  where
    one_more : (h : List Entry) (entry : Entry) → AreLegal h → IsLegalNext h entry → (length h < log_end → P h) → length (h ++ entry ∷ []) < log_end → P (h ++ entry ∷ [])
    one_more h entry each after before few =
        let all : IsLegal (h ++ entry ∷ []) = record { few = few; each = follow_next IsLegalNext h entry each after } in
        let old : IsLegal h = legal_before h (entry ∷ []) all in
        step h entry all old after (before old.few)

-- ---- decisions

-- what decides a prepare names it, and so finds it undecided
pub decides_undecided : (history : List Entry) (entry : Entry) (p : ℕ) → NamesUndecided history entry → decides p entry ≡ true → is_undecided history p ≡ true
decides_undecided history (Write batch) p names h = absurd cc
decides_undecided history (Prepare name batch) p names h = absurd cc
decides_undecided history (Commit q) p names h = subst (λ (r : ℕ). is_undecided history r ≡ true) (eqb-true q p h) names
decides_undecided history (Undo q batch) p names h = absurd cc
decides_undecided history (Close q) p names h = subst (λ (r : ℕ). is_undecided history r ≡ true) (eqb-true q p h) names

or_false : (b : Bool) → (b || false) ≡ b
or_false true = refl
or_false false = refl

pub decided_next : (history : List Entry) (entry : Entry) (p : ℕ) → list_any (decides p) (history ++ entry ∷ []) ≡ (list_any (decides p) history || decides p entry)
decided_next history entry p = list_any-append (decides p) history (entry ∷ []) ∙ ap (λ (b : Bool). list_any (decides p) history || b) (or_false (decides p entry))

-- each decision names an undecided prepare
abbrev pub AreNaming : List Entry → Type 0
AreNaming = Follow NamesUndecided

pub legal_naming : (history : List Entry) → AreLegal history → AreNaming history
legal_naming history each n entry at = (each n entry at).orderly.names_undecided

-- only prepares are decided then
IsPreparedWhereDecided : List Entry → Type 0
IsPreparedWhereDecided history = (p : ℕ) → list_any (decides p) history ≡ true → is_prepare (entry_at history p) ≡ true

decided_prepared_next : (history : List Entry) (entry : Entry) → NamesUndecided history entry → IsPreparedWhereDecided history → IsPreparedWhereDecided (history ++ entry ∷ [])
unfolding IsPreparedWhereDecided
decided_prepared_next history entry names before p h =
    let prepared : is_prepare (entry_at history p) ≡ true = ⊎_elim (before p) (λ (d : decides p entry ≡ true). undecided_prepared history p (decides_undecided history entry p names d)) (or_cases (list_any (decides p) history) (decides p entry) (sym (decided_next history entry p) ∙ h)) in
    ap is_prepare (entry_at_old history (entry ∷ []) p (prepared_within history p prepared).1) ∙ prepared

pub decided_prepared : (history : List Entry) → AreNaming history → (p : ℕ) → list_any (decides p) history ≡ true → is_prepare (entry_at history p) ≡ true
unfolding IsPreparedWhereDecided
decided_prepared history naming = by_following NamesUndecided IsPreparedWhereDecided (λ p h. absurd cc) (λ h entry _ names before. decided_prepared_next h entry names before) history naming
