-- Lists with one cut and the same values at its base tell alike at each number from there on.
use Rattle.std.proofs.Common.{◌≡◌, ℕ, zero, suc, ◌+◌, ◌-◌, ◌<◌, ◌≤◌, Bool, true, false, ◌||◌, not, eqb, Option, Some, None, List, ◌++◌, length, take, drop, refl, sym, ap, ◌∙◌, inl, inr, length-take-le, take-append-drop, arith}
use Rattle.std.specs.List.{list_any, filter, range_with_len, last_or}
use Rattle.std.specs.Option.{option_map_or}
use Rattle.std.proofs.lemmas.Bool.{cases_lt, and_parts, and_from}
use Rattle.std.proofs.lemmas.List.Folds.{list_any-append}
use Rattle.std.proofs.lemmas.List.{take-take, drop-take, drop_all}
use Rattle.wp_model.specs.declared.change.Change.{Change}
use Rattle.wp_model.specs.declared.entry.Entry.{Entry}
use Rattle.wp_model.specs.declared.entry.Entry.TheVariants.{Write, Prepare, Commit, Undo, Close}
use Rattle.wp_model.specs.Changed.{changes_key, conflict}
use Rattle.wp_model.specs.History.{entry_at, is_prepare, prepared_batch, decides, is_undecided, is_changed, changes_of, value_at, newest}
use Rattle.wp_model.specs.Flushed.{versions_after, later_versions}
use Rattle.wp_model.specs.Legal.{NamesUndecided}
use Rattle.wp_model.proofs.Entries.{entry_at_old, undecided_within}
use Rattle.wp_history_laws.proofs.Growth.{AreNaming}
use Rattle.wp_history_laws.proofs.Following.{follow_take}
use Rattle.wp_history_laws.proofs.Unchanged.{changes_key_old}
use Rattle.wp_history_laws.proofs.Undecided.{is_undecided_by_list, filter_range}
use Rattle.wp_cuts.specs.Cut.{Cut, IsCut}
use Rattle.wp_model.proofs.RowLaws.{same_rows}
use Rattle.wp_cuts.specs.Agree.{HaveSameValues, AgreeFrom, TellAlike}
use Rattle.wp_cuts.specs.LegalCut.{cut_front}
use Rattle.wp_cuts.proofs.Agreeing.{cuts_agree}
use Rattle.wp_cuts.proofs.Growing.{cut_to}

not_left : (a b : Bool) → not (a || b) ≡ true → not a ≡ true
not_left true b h = absurd cc
not_left false b h = refl

was_undecided : (before more : List Entry) (p : ℕ) → p ≤ length before → is_undecided (before ++ more) p ≡ true → is_undecided before p ≡ true
was_undecided before more p le undecided_p =
    let parts = and_parts (is_prepare (entry_at (before ++ more) p)) (not (list_any (decides p) (before ++ more))) undecided_p in
    and_from (is_prepare (entry_at before p)) (not (list_any (decides p) before))
    (ap is_prepare (sym (entry_at_old before more p le)) ∙ parts.0)
    (not_left (list_any (decides p) before) (list_any (decides p) more) (ap not (sym (list_any-append (decides p) before more)) ∙ parts.1))

entry_in_front : (history : List Entry) (n p : ℕ) → p ≤ length (take n history) → entry_at (take n history) p ≡ entry_at history p
entry_in_front history n p le = sym (entry_at_old (take n history) (drop n history) p le) ∙ ap (λ (h : List Entry). entry_at h p) (take-append-drop n history)

module _ (one other : List Entry) (c : Cut) (naming : AreNaming one) (also : AreNaming other) (cut : IsCut one c) (cut_too : IsCut other c) (values : HaveSameValues one other c.base) where
  abbrev base : ℕ
  base = c.base

  whole : AgreeFrom one other base
  whole = cuts_agree one other c naming also cut cut_too values

  fronts : (n : ℕ) → base ≤ n → n ≤ length one → AgreeFrom (take n one) (take n other) base
  fronts n above within =
      let at_base : (history : List Entry) (key : List ℕ) → value_at (take n history) key base ≡ value_at history key base = λ history key. ap (λ (h : List Entry). newest h key) (take-take base n history above) in
      cuts_agree (take n one) (take n other) (cut_front c (n - base)) (follow_take NamesUndecided n one naming) (follow_take NamesUndecided n other also)
      (cut_to one c n cut above within) (cut_to other c n cut_too above (omega (arith, within, whole.long)))
      (λ key. at_base one key ∙ values key ∙ sym (at_base other key))

  undecided_same : (p n : ℕ) → base ≤ n → n ≤ length one → is_undecided (take n one) p ≡ is_undecided (take n other) p
  undecided_same p n above within =
      sym (is_undecided_by_list (take n one) p) ∙ ap (list_any (λ k. eqb k p)) (whole.prepares n above within) ∙ is_undecided_by_list (take n other) p

  -- a prepare that is undecided somewhere from the base on was so at the base, or is behind it
  own : (p n : ℕ) → base ≤ n → n ≤ length one → is_undecided (take n one) p ≡ true → entry_at one p ≡ entry_at other p
  own p n above within undecided_p = elim (cases_lt base p) [
    | inl behind ↦ whole.entries p behind
    | inr le ↦ whole.carried p (was_undecided (take base one) (drop base (take n one)) p (omega (arith, le, length-take-le base one cut.within)) (ap (λ (h : List Entry). is_undecided h p) split ∙ undecided_p))
  ]
    where
      split : take base one ++ drop base (take n one) ≡ take n one
      split = ap (λ (h : List Entry). h ++ drop base (take n one)) (sym (take-take base n one above)) ∙ take-append-drop base (take n one)

  prepared : (p n : ℕ) → base ≤ n → n ≤ length one → is_undecided (take n one) p ≡ true → entry_at (take n one) p ≡ entry_at (take n other) p
  prepared p n above within undecided_p =
      let inside = (undecided_within (take n one) p undecided_p).1 in
      let long = length-take-le n one within in
      let too = length-take-le n other (omega (arith, within, whole.long)) in
      entry_in_front one n p inside
      ∙ own p n above within undecided_p
      ∙ sym (entry_in_front other n p (omega (arith, inside, long, too)))

  behind : (n : ℕ) → base ≤ n → n ≤ length one → drop n one ≡ drop n other
  behind n above within = ap (λ (d : Cut). d.entries) (whole.cuts n above within)

  later : (m n : ℕ) → base ≤ m → n ≤ length one → later_versions (take n one) m ≡ later_versions (take n other) m
  later m n above within = ap (versions_after m) (elim (cases_lt m n) [
    | inl lt ↦
        let split : n ≡ m + (n - m) = omega (arith, lt) in
        let rest : (history : List Entry) → drop m (take n history) ≡ take (n - m) (drop m history) = λ history. ap (λ (k : ℕ). drop m (take k history)) split ∙ drop-take m (n - m) history in
        rest one ∙ ap (take (n - m)) (behind m above (omega (arith, lt, within))) ∙ sym (rest other)
    | inr le ↦
        drop_all m (take n one) (omega (arith, le, length-take-le n one within))
        ∙ sym (drop_all m (take n other) (omega (arith, le, length-take-le n other (omega (arith, within, whole.long)))))
  ])

  -- each entry behind the base changes the same keys in both
  changes_same : (i : ℕ) (entry : Entry) → base ≤ i → i ≤ length one → NamesUndecided (take i one) entry → changes_of one entry ≡ changes_of other entry
  changes_same i (Write batch) above within names = refl
  changes_same i (Prepare name batch) above within names = refl
  changes_same i (Commit p) above within names = ap prepared_batch (own p i above within names)
  changes_same i (Undo p batch) above within names = refl
  changes_same i (Close p) above within names = refl

  key_same : (key : List ℕ) (k : ℕ) → base < k → k ≤ length one → changes_key one key k ≡ changes_key other key k
  key_same key zero low high = absurd (omega (arith, low))
  key_same key (suc i) low high = by (entry_at one (suc i)) refl ∙ ap (λ (o : Option Entry). option_map_or (λ entry. is_changed (changes_of other entry) key) o false) (whole.entries (suc i) low)
    where
      by : (o : Option Entry) → entry_at one (suc i) ≡ o → option_map_or (λ entry. is_changed (changes_of one entry) key) o false ≡ option_map_or (λ entry. is_changed (changes_of other entry) key) o false
      by None at = refl
      by (Some entry) at = ap (λ (changes : List Change). is_changed changes key) (changes_same i entry (omega (arith, low)) (omega (arith, high)) (naming i entry at))

  key_in_front : (history : List Entry) (key : List ℕ) (n k : ℕ) → AreNaming history → k ≤ length (take n history) → changes_key (take n history) key k ≡ changes_key history key k
  key_in_front history key n k names le = sym (changes_key_old (take n history) (drop n history) key k (follow_take NamesUndecided n history names) le) ∙ ap (λ (h : List Entry). changes_key h key k) (take-append-drop n history)

  conflicts : (key : List ℕ) (m n : ℕ) → base ≤ m → n ≤ length one → conflict (take n one) key m ≡ conflict (take n other) key m
  conflicts key m n above within =
      let long = length-take-le n one within in
      let too = length-take-le n other (omega (arith, within, whole.long)) in
      ap (last_or None)
      (filter_range (changes_key (take n one) key) (changes_key (take n other) key) (suc m) (length (take n one) - m)
      (λ k low high. key_in_front one key n k naming (omega (arith, low, high)) ∙ key_same key k (omega (arith, low, above)) (omega (arith, low, high, long, within)) ∙ sym (key_in_front other key n k also (omega (arith, low, high, long, too))))
      ∙ ap (λ (l : ℕ). filter (changes_key (take n other) key) (range_with_len (suc m) (l - m))) (long ∙ sym too))

  pub tell_alike : TellAlike one other base
  tell_alike = record { whole = whole; fronts = fronts; undecided = undecided_same; prepared = prepared; own = own; behind = behind; later = later; rows = λ from to n above within. same_rows one other n (λ key. whole.values key n above within) false from to; conflicts = conflicts }
