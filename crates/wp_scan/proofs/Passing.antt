-- How a scan goes from key to key.
use Rattle.std.proofs.Common.{◌≡◌, ℕ, true, false, List, [], ◌∷◌, ◌++◌, append_assoc, append-nil, Option, Some, None, refl, sym, ap, subst, ◌∙◌}
use Rattle.std.specs.Prelude.{Result, Ok, Err, IfOk, OnOk}
use Rattle.wp_model.specs.declared.entry.Entry.{Entry}
use Rattle.wp_model.specs.declared.row.Row.{Row}
use Rattle.wp_model.specs.History.{value_at}
use Rattle.wp_model.specs.Rows.{Pair, pair_of, rows_from, GivesFirst}
use Rattle.wp_model.proofs.Rows.{first_row, past_row, no_row}
use Rattle.wp_read.specs.Rows.{IsRowAt, IsRowOf, SkipsNoRow, HasNoRow, IsInRange, HasWords}
use Rattle.wp_scan.specs.declared.scan.Step.{Step}
use Rattle.wp_scan.specs.declared.scan.Step.TheVariants as step
use Rattle.wp_scan.specs.Step.{given, IsStep, IsVersionOf}
use Rattle.wp_scan.specs.Scan.{ScanState, left_of, passed, GivesOn}

-- what gives the first of the rows that are left gives them on
pub first_gives_on : (before after : List Pair) (found : Option Row) → GivesFirst before after found → GivesOn before after found
first_gives_on before after None first = λ given whole all. sym (append-nil given) ∙ ap (λ (rows : List Pair). given ++ rows) (sym first.0) ∙ all
first_gives_on before after (Some row) first = λ given whole all. append_assoc given (pair_of row ∷ []) after ∙ ap (λ (rows : List Pair). given ++ rows) (sym first) ∙ all

-- nothing is left once it is over
pub left_over : (history : List Entry) (n : ℕ) (s : ScanState) → s.over ≡ true → left_of history n s ≡ []
left_over history n s over = rw over refl

module _ (history : List Entry) (n : ℕ) (s : ScanState) (on : s.over ≡ false) where
  is_on : left_of history n s ≡ rows_from history s.above s.at s.to n
  is_on = rw on refl

  module _ (key : List ℕ) (range : IsInRange s.above s.at s.to key) (skips : SkipsNoRow history n s.above s.at (Some key)) where
    -- behind a key that has a row the others are left
    pub row_given : (number : ℕ) (value : List ℕ) → IsRowAt history key n number value → left_of history n s ≡ (key, value) ∷ left_of history n (passed key s)
    row_given number value row = is_on ∙ first_row history n s.above s.at key s.to value range.0 range.1 (λ other from less. skips other from less) row.stored ∙ ap (λ (rows : List Pair). (key, value) ∷ rows) (sym (rw on refl))

    -- behind one that has none as many are left
    pub none_given : value_at history key n ≡ None → left_of history n s ≡ left_of history n (passed key s)
    none_given none = is_on ∙ past_row history n s.above s.at key s.to range.0 (λ other from less. skips other from less) none ∙ sym (rw on refl)

  -- where the range has no row more nothing is left
  pub nothing_left : HasNoRow history n s.above s.at s.to → left_of history n s ≡ []
  nothing_left none = is_on ∙ no_row history n s.above s.at s.to (λ other from within. none other (from, within))

  -- what is given of the next key is a step
  step_is : (key : List ℕ) (row : Option (ℕ × List ℕ)) → IsInRange s.above s.at s.to key → SkipsNoRow history n s.above s.at (Some key) → IsRowOf history key n row → IsStep (left_of history n s) (left_of history n (passed key s)) (given key row)
  step_is key None range skips none = none_given key range skips none
  step_is key (Some row) range skips is = row_given key range skips row.0 row.1 is

  pub step_on : {E : Type 0} (result : Result Step E) (new : ScanState) (key : List ℕ) (row : Option (ℕ × List ℕ)) → IsInRange s.above s.at s.to key × SkipsNoRow history n s.above s.at (Some key) → IsRowOf history key n row → IfOk result (λ step. step ≡ given key row) → OnOk result (new ≡ passed key s) → IfOk result (IsStep (left_of history n s) (left_of history n new))
  step_on (Ok step) new key row next of is same =
      subst (IsStep (left_of history n s) (left_of history n new)) (sym is)
      (subst (λ (x : ScanState). IsStep (left_of history n s) (left_of history n x) (given key row)) (sym same) (step_is key row next.0 next.1 of))
  step_on (Err error) new key row next of is same = is

module _ (history : List Entry) (n : ℕ) (words : HasWords history n) where
  version_is : (key : List ℕ) (row : Option (ℕ × List ℕ)) → IsRowOf history key n row → IsVersionOf history n (given key row)
  version_is key None none = tt
  version_is key (Some row) is = record { is = is; in_range = words key row.1 is.stored }

  pub version_on : {E : Type 0} (result : Result Step E) (key : List ℕ) (row : Option (ℕ × List ℕ)) → IsRowOf history key n row → IfOk result (λ step. step ≡ given key row) → IfOk result (IsVersionOf history n)
  version_on (Ok step) key row of is = subst (IsVersionOf history n) (sym is) (version_is key row of)
  version_on (Err error) key row of is = is

-- ---- from call to call

module _ (first before after : List Entry) (n : ℕ) (old now new : ScanState) (one : before ≡ first) (two : after ≡ before) (left : left_of first n now ≡ left_of first n old) where
  stepped : (step : Step) → IsStep (left_of before n now) (left_of before n new) step → IsStep (left_of first n now) (left_of first n new) step
  stepped step is = subst (λ (h : List Entry). IsStep (left_of h n now) (left_of h n new) step) one is

  gives_first : (found : Option Row) → GivesFirst (left_of first n old) (left_of first n new) found → GivesFirst (left_of after n old) (left_of after n new) found
  gives_first found is = subst (λ (h : List Entry). GivesFirst (left_of h n old) (left_of h n new) found) (sym (two ∙ one)) is

  pub passed_on : IsStep (left_of before n now) (left_of before n new) step.Passed → left_of first n new ≡ left_of first n old
  passed_on is = sym (stepped step.Passed is) ∙ left

  pub row_on : (row : Row) → IsStep (left_of before n now) (left_of before n new) (step.Row row) → GivesFirst (left_of after n old) (left_of after n new) (Some row)
  row_on row is = gives_first (Some row) (sym left ∙ stepped (step.Row row) is)

  pub end_on : IsStep (left_of before n now) (left_of before n new) step.End → GivesFirst (left_of after n old) (left_of after n new) None
  end_on is = let end = stepped step.End is in gives_first None (sym left ∙ end.0, end.1)

  pub refused_on : new ≡ now → left_of after n new ≡ left_of after n old
  refused_on same = subst (λ (h : List Entry). left_of h n new ≡ left_of h n old) (sym (two ∙ one)) (ap (left_of first n) same ∙ left)
