-- What is read of bytes is a script or its first fault, and each of these is read so.
use Rattle.std.proofs.Common.{◌≡◌, ℕ, zero, suc, ◌+◌, ◌≤◌, ltb, List, [], ◌∷◌, ◌++◌, length, Option, Some, None, Result, Ok, Err, refl, sym, ap, subst, ◌∙◌, inl, inr, append_assoc, arith}
use Rattle.std.specs.List.{flat_map, filter_map, AllZip}
use Rattle.std.proofs.lemmas.Bool.{ltb-true, ltb-false, lt-ltb, le-ltb}
use Rattle.std.proofs.lemmas.List.{append-nil, length_push}
use Rattle.std.proofs.lemmas.List.Elements.{filter_map-append}
use Rattle.wp_text.specs.declared.fault.Fault.{Fault}
use Rattle.wp_text.specs.declared.fault.Why.{Why}
use Rattle.wp_text.specs.declared.fault.Why.TheVariants.{TooLong}
use Rattle.wp_text.specs.declared.line.Statement.{Statement}
use Rattle.wp_text.specs.declared.script.Part.{Part}
use Rattle.wp_text.specs.declared.read.TheConstants.{MOST_BYTES}
use Rattle.wp_text.specs.Grammar.{lines_of, Means, statements_of, Spell, IsScript}
use Rattle.wp_text.specs.Faults.{IsWrongAfter, IsFirstWrong, IsFault}
use Rattle.wp_fields.specs.Reading.{map_err}
use Rattle.wp_text.specs.Reading.{line_of, with_meaning, with_line, fault_in, with_lines, script_of}
use Rattle.wp_fields.proofs.Results.{bind_ok, bind_err, chosen, failed, ok_is, err_is, ok_or_err, map_ok, map_failed}
use Rattle.wp_text.proofs.LineLaws.{means, is_wrong, means_again, is_wrong_again}
use Rattle.wp_text.proofs.Placing.{Fits, statement_placed, statement_refused, refused_again, placed_again, one_list_of_parts}

-- ---- lines that spell parts

abbrev said : List (Option Statement) → List Statement
said meanings = filter_map (λ meaning. meaning) meanings

fits_of : (lines : List (List ℕ)) (parts : List Part) → Spell lines parts → Fits parts
fits_of lines parts spell = record { distinct = spell.distinct; few = spell.few }

spell_nothing : Spell [] []
spell_nothing = record { meanings = []; each = tt; statements = refl; distinct = λ i j d lt within. absurd (omega arith); few = omega arith }

each_more : (lines : List (List ℕ)) (meanings : List (Option Statement)) (line : List ℕ) (meaning : Option Statement) → AllZip Means lines meanings → Means line meaning → AllZip Means (lines ++ line ∷ []) (meanings ++ meaning ∷ [])
each_more [] [] line meaning each m = (m, tt)
each_more [] (n ∷ ms) line meaning each m = absurd each
each_more (l ∷ ls) [] line meaning each m = absurd each
each_more (l ∷ ls) (n ∷ ms) line meaning each m = (each.0, each_more ls ms line meaning each.1 m)

spell_more : (lines : List (List ℕ)) (parts new : List Part) (line : List ℕ) (meaning : Option Statement) → Spell lines parts → Means line meaning → with_meaning parts meaning ≡ Ok new → Spell (lines ++ line ∷ []) new
unfolding with_meaning
spell_more lines parts new line None spell m e =
    let statements : said (spell.meanings ++ None ∷ []) ≡ flat_map statements_of parts = filter_map-append (λ (x : Option Statement). x) spell.meanings (None ∷ []) ∙ append-nil (said spell.meanings) ∙ spell.statements in
    subst (λ (x : List Part). Spell (lines ++ line ∷ []) x) (ok_is parts new e) (record { meanings = spell.meanings ++ None ∷ []; each = each_more lines spell.meanings line None spell.each m; statements = statements; distinct = spell.distinct; few = spell.few })
spell_more lines parts new line (Some s) spell m e =
    let more = statement_placed parts new s (fits_of lines parts spell) e in
    let statements : said (spell.meanings ++ Some s ∷ []) ≡ flat_map statements_of new = filter_map-append (λ (x : Option Statement). x) spell.meanings (Some s ∷ []) ∙ ap (λ (x : List Statement). x ++ s ∷ []) spell.statements ∙ sym more.statements in
    record { meanings = spell.meanings ++ Some s ∷ []; each = each_more lines spell.meanings line (Some s) spell.each m; statements = statements; distinct = more.fits.distinct; few = more.fits.few }

-- ---- a line after parts

line_spells : (lines : List (List ℕ)) (parts new : List Part) (line : List ℕ) → Spell lines parts → with_line parts line ≡ Ok new → Spell (lines ++ line ∷ []) new
unfolding with_line
line_spells lines parts new line spell e =
    let b = bind_ok (line_of line) (λ meaning. with_meaning parts meaning) new e in
    spell_more lines parts new line b.0 spell (means line b.0 b.1) b.2

misplaced : (parts : List Part) (line : List ℕ) (meaning : Option Statement) (why : Why) → Fits parts → Means line meaning → with_meaning parts meaning ≡ Err why → IsWrongAfter parts line why
unfolding with_meaning
misplaced parts line None why fits m e = absurd (ok_or_err parts why e)
misplaced parts line (Some s) why fits m e = inr (s, m, statement_refused parts s why fits e)

line_fails : (parts : List Part) (line : List ℕ) (why : Why) → Fits parts → with_line parts line ≡ Err why → IsWrongAfter parts line why
unfolding with_line
line_fails parts line why fits e =
    elim (bind_err (line_of line) (λ meaning. with_meaning parts meaning) why e) [
      | inl wrong ↦ inl (is_wrong line why wrong)
      | inr read ↦ misplaced parts line read.0 why fits (means line read.0 read.1) read.2
    ]

line_fails_again : (parts : List Part) (line : List ℕ) (why : Why) → IsWrongAfter parts line why → with_line parts line ≡ Err why
unfolding with_line with_meaning
line_fails_again parts line why (inl wrong) = let e = is_wrong_again line why wrong in rw e refl
line_fails_again parts line why (inr read) = let e = means_again line (Some read.0) read.1 in let r = refused_again parts read.0 why read.2 in rw (e, r) refl

-- ---- lines one after the other

fault_in_line : {A : Type 0} (n : ℕ) (r : Result A Why) (fault : Fault) → map_err (fault_in n) r ≡ Err fault → (fault.line ≡ n) × (r ≡ Err fault.why)
fault_in_line {A = A} n r fault e =
    let d = map_failed (fault_in n) r fault e in
    (ap (λ (f : Fault). f.line) (sym d.2), d.1 ∙ ap (λ (f : Fault). failed A f.why) d.2)

pub lines_spell : (lines before : List (List ℕ)) (n : ℕ) (parts new : List Part) → Spell before parts → with_lines n parts lines ≡ Ok new → Spell (before ++ lines) new
unfolding with_lines
lines_spell [] before n parts new spell e = subst (λ (x : List Part). Spell (before ++ []) x) (ok_is parts new e) (rw append-nil spell)
lines_spell (line ∷ lines) before n parts new spell e =
    let b = bind_ok (map_err (fault_in (n + 1)) (with_line parts line)) (λ now. with_lines (n + 1) now lines) new e in
    let more = line_spells before parts b.0 line spell (map_ok (fault_in (n + 1)) (with_line parts line) b.0 b.1) in
    let all = lines_spell lines (before ++ line ∷ []) (n + 1) b.0 new more b.2 in
    subst (λ (x : List (List ℕ)). Spell x new) (append_assoc before (line ∷ []) lines) all

-- a fault of the lines, which are counted from 1
record FailsAt (lines : List (List ℕ)) (fault : Fault) : Type 0 where
  before : List (List ℕ)
  number : fault.line ≡ suc (length before)
  first : IsFirstWrong lines before fault.why

lines_fail : (lines before : List (List ℕ)) (n : ℕ) (parts : List Part) (fault : Fault) → length before ≡ n → Spell before parts → with_lines n parts lines ≡ Err fault → FailsAt (before ++ lines) fault
unfolding with_lines
lines_fail [] before n parts fault len spell e = absurd (ok_or_err parts fault e)
lines_fail (line ∷ lines) before n parts fault len spell e =
    elim (bind_err (map_err (fault_in (n + 1)) (with_line parts line)) (λ now. with_lines (n + 1) now lines) fault e) [
      | inl here ↦
          let f = fault_in_line (n + 1) (with_line parts line) fault here in
          record {
            before = before;
            number = omega (arith, f.0);
            first = record { line = line; after = lines; place = refl; parts = parts; spelled = spell; wrong = line_fails parts line fault.why (fits_of before parts spell) f.1 };
          }
      | inr after ↦
          let more = line_spells before parts after.0 line spell (map_ok (fault_in (n + 1)) (with_line parts line) after.0 after.1) in
          let all = lines_fail lines (before ++ line ∷ []) (n + 1) after.0 fault (length_push before line ∙ ap (λ (k : ℕ). k + 1) len) more after.2 in
          subst (λ (x : List (List ℕ)). FailsAt x fault) (append_assoc before (line ∷ []) lines) all
    ]

-- lines that spell parts are read as them, whatever follows
go_through : (lines : List (List ℕ)) (meanings : List (Option Statement)) (n : ℕ) (parts target : List Part) (rest : List (List ℕ)) → AllZip Means lines meanings → flat_map statements_of parts ++ said meanings ≡ flat_map statements_of target → Fits parts → Fits target
    → with_lines n parts (lines ++ rest) ≡ with_lines (n + length lines) target rest
unfolding with_lines with_line with_meaning
go_through [] [] n parts target rest each e fits aim =
    let same = one_list_of_parts parts target (sym (append-nil (flat_map statements_of parts)) ∙ e) in
    let number : n ≡ n + 0 = omega arith in
    rw (← number, same) refl
go_through [] (m ∷ ms) n parts target rest each e fits aim = absurd each
go_through (line ∷ lines) [] n parts target rest each e fits aim = absurd each
go_through (line ∷ lines) (None ∷ ms) n parts target rest each e fits aim =
    let read = means_again line None each.0 in
    let number : n + suc (length lines) ≡ n + 1 + length lines = omega arith in
    rw (read, number) (go_through lines ms (n + 1) parts target rest each.1 e fits aim)
go_through (line ∷ lines) (Some s ∷ ms) n parts target rest each e fits aim =
    let read = means_again line (Some s) each.0 in
    let made = placed_again parts target s (said ms) fits aim e in
    let more = statement_placed parts made.0 s fits made.1 in
    let placed_is = made.1 in
    let number : n + suc (length lines) ≡ n + 1 + length lines = omega arith in
    let next : flat_map statements_of made.0 ++ said ms ≡ flat_map statements_of target = ap (λ (x : List Statement). x ++ said ms) more.statements ∙ append_assoc (flat_map statements_of parts) (s ∷ []) (said ms) ∙ e in
    rw (read, placed_is, number) (go_through lines ms (n + 1) made.0 target rest each.1 next more.fits aim)

spell_again : (lines : List (List ℕ)) (parts : List Part) (rest : List (List ℕ)) → Spell lines parts → with_lines 0 [] (lines ++ rest) ≡ with_lines (length lines) parts rest
spell_again lines parts rest spell =
    let number : 0 + length lines ≡ length lines = omega arith in
    rw number at (go_through lines spell.meanings 0 [] parts rest spell.each spell.statements (fits_of [] [] spell_nothing) (fits_of lines parts spell))

-- ---- a script

-- what is read is a script with these parts
pub is_script : (bytes : List ℕ) (parts : List Part) → script_of bytes ≡ Ok parts → IsScript bytes parts
unfolding script_of
is_script bytes parts e =
    elim (chosen (ltb MOST_BYTES (length bytes)) (Err (record { line = 0; why = TooLong })) (with_lines 0 [] (lines_of bytes)) (Ok parts) e) [
      | inl long ↦ absurd cc
      | inr short ↦ record { short = ltb-false _ _ short.0; lines = lines_spell (lines_of bytes) [] 0 [] parts spell_nothing short.1 }
    ]

fault_at : (bytes : List ℕ) (fault : Fault) → length bytes ≤ MOST_BYTES → FailsAt (lines_of bytes) fault → IsFault bytes fault.line fault.why
fault_at bytes fault short fails = rw fails.number (short, (fails.before, refl, fails.first))

-- what is statement_refused has this fault
pub has_fault : (bytes : List ℕ) (fault : Fault) → script_of bytes ≡ Err fault → IsFault bytes fault.line fault.why
unfolding script_of
has_fault bytes fault e =
    elim (chosen (ltb MOST_BYTES (length bytes)) (Err (record { line = 0; why = TooLong })) (with_lines 0 [] (lines_of bytes)) (Err fault) e) [
      | inl long ↦ subst (λ (f : Fault). IsFault bytes f.line f.why) (err_is {A = List Part} (record { line = 0; why = TooLong }) fault long.1) (ltb-true _ _ long.0, refl)
      | inr short ↦ fault_at bytes fault (ltb-false _ _ short.0) (lines_fail (lines_of bytes) [] 0 [] fault refl spell_nothing short.1)
    ]

-- a script with these parts is read so
pub is_script_again : (bytes : List ℕ) (parts : List Part) → IsScript bytes parts → script_of bytes ≡ Ok parts
unfolding script_of with_lines
is_script_again bytes parts is =
    let fits = le-ltb MOST_BYTES (length bytes) is.short in
    rw fits (ap (with_lines 0 []) (sym (append-nil (lines_of bytes))) ∙ spell_again (lines_of bytes) parts [] is.lines)

-- bytes with this fault are statement_refused for it
pub is_fault_again : (bytes : List ℕ) (line : ℕ) (why : Why) → IsFault bytes line why → script_of bytes ≡ Err (record { line = line; why = why })
unfolding script_of with_lines
is_fault_again bytes zero why is = let long = lt-ltb MOST_BYTES (length bytes) is.0 in rw (long, is.1) refl
is_fault_again bytes (suc n) why is =
    let fits = le-ltb MOST_BYTES (length bytes) is.0 in
    let first = is.1.2 in
    let fails = line_fails_again first.parts first.line why first.wrong in
    let number : length is.1.0 + 1 ≡ suc n = omega (arith, is.1.1) in
    rw fits (ap (with_lines 0 []) first.place ∙ spell_again is.1.0 first.parts (first.line ∷ first.after) first.spelled ∙ rw (fails, number) refl)
