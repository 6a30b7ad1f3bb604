-- Reading lines one after the other, as a loop does.
use Rattle.std.proofs.Common.{◌≡◌, ℕ, suc, ◌+◌, ◌<◌, List, [], ◌∷◌, length, get_or, drop, Result, Ok, Err, refl, sym, ap, ◌∙◌, arith, zero-add, add-one, drop-cons}
use Rattle.std.specs.List.{enumerate_from}
use Rattle.std.proofs.lemmas.List.{drop_all}
use Rattle.std.proofs.lemmas.List.FromFn.{length-enumerate_from, get_or-enumerate_from}
use Rattle.wp_text.specs.declared.fault.Fault.{Fault}
use Rattle.wp_text.specs.declared.fault.LineError.{LineError}
use Rattle.wp_text.specs.declared.fault.LineError.TheVariants as errors
use Rattle.wp_text.specs.declared.script.Part.{Part}
use Rattle.wp_fields.specs.Reading.{Fails}
use Rattle.wp_text.specs.Reading.{with_line, with_lines, script_error, line_fault, script_fault}

-- this turn's line is the first of those that are left
pub record Turn (lines : List (List ℕ)) (n i : ℕ) (line : List ℕ) : Type 0 where
  pub number : i ≡ n
  pub left : drop n lines ≡ line ∷ drop (n + 1) lines

pub turn_from : (lines : List (List ℕ)) (n i : ℕ) (line : List ℕ) → n < length (enumerate_from 0 lines) → (i, line) ≡ get_or (enumerate_from 0 lines) n (i, line) → Turn lines n i line
turn_from lines n i line lt is =
    let within : n < length lines = rw length-enumerate_from at lt in
    let both : (i, line) ≡ (n, get_or lines n line) = is ∙ get_or-enumerate_from 0 lines n (i, line) within ∙ rw zero-add refl in
    record {
      number = ap (λ (p : ℕ × List ℕ). p.0) both;
      left = rw add-one (drop-cons lines n line within ∙ ap (λ (x : List ℕ). x ∷ drop (suc n) lines) (sym (ap (λ (p : ℕ × List ℕ). p.1) both)));
    }

pub line_read : (lines : List (List ℕ)) (n i : ℕ) (line : List ℕ) (parts now : List Part) (total : Result (List Part) Fault) → Turn lines n i line → with_line parts line ≡ Ok now
    → with_lines n parts (drop n lines) ≡ total → with_lines (n + 1) now (drop (n + 1) lines) ≡ total
unfolding with_lines
line_read lines n i line parts now total turn e so_far =
    let step : with_lines n parts (drop n lines) ≡ with_lines (n + 1) now (drop (n + 1) lines) = rw (turn.left, e) refl in
    sym step ∙ so_far

pub line_refused : (lines : List (List ℕ)) (n i : ℕ) (line : List ℕ) (parts : List Part) (error : LineError) (total : Result (List Part) Fault) → Turn lines n i line → Fails line_fault error (with_line parts line)
    → with_lines n parts (drop n lines) ≡ total → Fails script_fault (script_error (i + 1) error) total
unfolding with_lines
line_refused lines n i line parts errors.Memory total turn e so_far = tt
line_refused lines n i line parts (errors.Wrong why) total turn e so_far =
    let step : with_lines n parts (drop n lines) ≡ Err (record { line = n + 1; why = why }) = rw (turn.left, e) refl in
    sym so_far ∙ step ∙ rw turn.number refl

pub all_lines_read : (lines : List (List ℕ)) (n : ℕ) (parts : List Part) (total : Result (List Part) Fault) → n ≡ length lines → with_lines n parts (drop n lines) ≡ total → total ≡ Ok parts
unfolding with_lines
all_lines_read lines n parts total all so_far =
    let nothing : drop n lines ≡ [] = rw all (drop_all (length lines) lines (omega arith)) in
    let step : with_lines n parts (drop n lines) ≡ Ok parts = rw nothing refl in
    sym so_far ∙ step
