-- A cut of a legal list is legal, with the values that the list has at its base.
use Rattle.std.proofs.Common.{◌≡◌, ℕ, zero, suc, ◌+◌, ◌-◌, Bool, true, false, ◌==◌, cond, eqb, List, [], ◌∷◌, length, map, take, Option, Some, refl, sym, ap, ◌∙◌, inl, inr, arith}
use Rattle.std.specs.Prelude.{slice_get}
use Rattle.std.specs.List.{list_any, filter, find, range_with_len}
use Rattle.std.proofs.lemmas.Bool.{cases_eq, or_cases, eqb-true, eq-eqb, ne_eqb}
use Rattle.std.proofs.lemmas.Option.{slice_get_within}
use Rattle.wp_model.specs.declared.carried.Carried.{Carried}
use Rattle.wp_model.specs.declared.entry.Entry.{Entry}
use Rattle.wp_model.specs.declared.entry.Entry.TheVariants.{Prepare}
use Rattle.wp_model.specs.Batch.{are_ascending}
use Rattle.wp_model.specs.History.{entry_at, prepared_name, prepared_batch, batch_at, is_changed, is_undecided, undecided, value_at}
use Rattle.wp_model.specs.Legal.{IsLegalNext, AreLegal, IsLegal}
use Rattle.wp_model.proofs.Entries.{undecided_within, undecided_prepared}
use Rattle.wp_history_laws.proofs.Undecided.{is_undecided_by_list}
use Rattle.wp_history_laws.proofs.Following.{follow_take}
use Rattle.wp_history_laws.proofs.Growth.{legal_naming}
use Rattle.wp_cuts.specs.Cut.{Cut, carried_from, IsCut, carried_at}
use Rattle.wp_cuts.specs.LegalCut.{AreApart, cut_front, IsLegalCut}
use Rattle.wp_cuts.proofs.Decided.{slice_get_behind}
use Rattle.wp_cuts.proofs.Agreeing.{prepare_whole, cut_front_long, cut_whole}
use Rattle.wp_cuts.proofs.Growing.{cut_carried, entries_long, front_is_cut, value_of_front}
use Rattle.wp_cuts.proofs.Standing.{cut_numbered, orderly_from, restores_from}
use Rattle.wp_cuts.proofs.Distinct.{legal_distinct}

-- ---- what a cut carries is undecided at its base, and the other way round

find_carried : (before : List Entry) (ps : List ℕ) (p : ℕ) → list_any (λ k. eqb k p) ps ≡ true → find (λ x. x.number == p) (map (carried_from before) ps) ≡ Some (carried_from before p)
find_carried before [] p there = absurd cc
find_carried before (q ∷ ps) p there = elim (cases_eq q p) [
  | inl here ↦ rw (eq-eqb q p here) (ap (λ (r : ℕ). Some (carried_from before r)) here)
  | inr other ↦ rw (ne_eqb q p other) (find_carried before ps p (elim (or_cases (eqb q p) (list_any (λ k. eqb k p) ps) there) [
    | inl here ↦ absurd (other (eqb-true q p here))
    | inr behind ↦ behind
  ]))
]

pub carries : (history : List Entry) (c : Cut) (p : ℕ) → IsCut history c → is_undecided (take c.base history) p ≡ true → carried_at c p ≡ Some (carried_from (take c.base history) p)
carries history c p cut undecided_p =
    ap (find (λ x. x.number == p)) (cut_carried history c cut) ∙ find_carried (take c.base history) (undecided (take c.base history)) p (is_undecided_by_list (take c.base history) p ∙ undecided_p)

abbrev IsFrom : List Entry → (ℕ → Bool) → ℕ → Carried → Type 0
IsFrom before keeps p x = (keeps p ≡ true) × (x ≡ carried_from before p)

abbrev FindsFrom : List Entry → (ℕ → Bool) → List ℕ → ℕ → Carried → Type 0
FindsFrom before keeps ps p x = find (λ y. y.number == p) (map (carried_from before) (filter keeps ps)) ≡ Some x → IsFrom before keeps p x

found_from : (before : List Entry) (keeps : ℕ → Bool) (ps : List ℕ) (p : ℕ) (x : Carried) → FindsFrom before keeps ps p x
found_from before keeps [] p x e = absurd cc
found_from before keeps (q ∷ ps) p x e = by (keeps q) refl e (found_from before keeps ps p x)
  where
    here : (b : Bool) → (q == p) ≡ b → keeps q ≡ true → cond b (Some (carried_from before q)) (find (λ y. y.number == p) (map (carried_from before) (filter keeps ps))) ≡ Some x → FindsFrom before keeps ps p x → IsFrom before keeps p x
    here true is kept found rest =
        let same : q ≡ p = eqb-true q p is in
        let its : carried_from before q ≡ x = cc in
        (ap keeps (sym same) ∙ kept, sym its ∙ ap (carried_from before) same)
    here false is kept found rest = rest found

    by : (b : Bool) → keeps q ≡ b → find (λ y. y.number == p) (map (carried_from before) (cond b (q ∷ filter keeps ps) (filter keeps ps))) ≡ Some x → FindsFrom before keeps ps p x → IsFrom before keeps p x
    by true kept found rest = here (q == p) refl kept found rest
    by false dropped found rest = rest found

pub carried_is : (history : List Entry) (c : Cut) (p : ℕ) (x : Carried) → IsCut history c → carried_at c p ≡ Some x → IsFrom (take c.base history) (is_undecided (take c.base history)) p x
carried_is history c p x cut found =
    found_from (take c.base history) (is_undecided (take c.base history)) (range_with_len 1 (length (take c.base history))) p x (ap (find (λ y. y.number == p)) (sym (cut_carried history c cut)) ∙ found)

-- ---- its prepares fit one another

ascending_in : (before : List Entry) (p : ℕ) → AreLegal before → is_undecided before p ≡ true → are_ascending (batch_at before p) ≡ true
ascending_in before zero each undecided_p = let low = (undecided_within before 0 undecided_p).0 in absurd (omega (arith, low))
ascending_in before (suc i) each undecided_p =
    let at : slice_get before i ≡ Some (Prepare (prepared_name (entry_at before (suc i))) (prepared_batch (entry_at before (suc i)))) = prepare_whole (entry_at before (suc i)) (undecided_prepared before (suc i) undecided_p) in
    (each i (Prepare (prepared_name (entry_at before (suc i))) (prepared_batch (entry_at before (suc i)))) at).orderly.ascending

are_apart : (history : List Entry) (c : Cut) → AreLegal history → IsCut history c → AreApart c
are_apart history c each cut =
    let before = take c.base history in
    let legal : AreLegal before = follow_take IsLegalNext c.base history each in
    let distinct = legal_distinct before legal in
    record {
      ascending = λ p x found. let from = carried_is history c p x cut found in ap (λ (y : Carried). are_ascending y.batch) from.1 ∙ ascending_in before p legal from.0;
      names = λ p q x y found too same.
          let one = carried_is history c p x cut found in
          let other = carried_is history c q y cut too in
          distinct.names p q one.0 other.0 (ap (λ (z : Carried). z.name) (sym one.1) ∙ same ∙ ap (λ (z : Carried). z.name) other.1);
      keys = λ p q x y key found too changed its.
          let one = carried_is history c p x cut found in
          let other = carried_is history c q y cut too in
          distinct.keys p q key one.0 other.0 (ap (λ (z : Carried). is_changed z.batch key) (sym one.1) ∙ changed) (ap (λ (z : Carried). is_changed z.batch key) (sym other.1) ∙ its);
    }

-- ---- the entries behind it

module _ (history : List Entry) (c : Cut) (values : List ℕ → Option (List ℕ)) (legal : IsLegal history) (cut : IsCut history c) (same : (key : List ℕ) → value_at history key c.base ≡ values key) where
  at_entry : (n : ℕ) (entry : Entry) → slice_get c.entries n ≡ Some entry → slice_get history (c.base + n) ≡ Some entry
  at_entry n entry at =
      let long = cut_front_long history c cut in
      let place : c.base + n - length (take c.base history) ≡ n = omega (arith, long) in
      ap (λ (h : List Entry). slice_get h (c.base + n)) (cut_whole history c cut)
      ∙ slice_get_behind (take c.base history) c.entries (c.base + n) (omega (arith, long))
      ∙ ap (slice_get c.entries) place
      ∙ at

  front_cut : (n : ℕ) (entry : Entry) → slice_get c.entries n ≡ Some entry → IsCut (take (c.base + n) history) (cut_front c n)
  front_cut n entry at = let lt = slice_get_within c.entries n entry at in front_is_cut history c n cut (omega (arith, lt))

  front_legal : (n : ℕ) → AreLegal (take (c.base + n) history)
  front_legal n = follow_take IsLegalNext (c.base + n) history legal.each

  pub cut_is_legal : IsLegalCut c values
  cut_is_legal = record {
    orderly = record {
      few = omega (arith, legal.few, entries_long history c cut);
      numbered = cut_numbered history c cut;
      apart = are_apart history c legal.each cut;
      each = λ n entry at. orderly_from (take (c.base + n) history) (cut_front c n) entry (legal_naming (take (c.base + n) history) (front_legal n)) (front_cut n entry at) (legal.each (c.base + n) entry (at_entry n entry at)).orderly;
    };
    restores = λ n entry at.
        let after = legal.each (c.base + n) entry (at_entry n entry at) in
        restores_from (take (c.base + n) history) (cut_front c n) values (legal_naming (take (c.base + n) history) (front_legal n)) (front_cut n entry at) (λ key. value_of_front history c n key ∙ same key) entry after.orderly.names_undecided after.restores_prior;
  }
