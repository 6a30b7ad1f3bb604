-- A line that is read means what is read, and one that is statement_refused is wrong.
use Rattle.std.proofs.Common.{◌≡◌, ℕ, false, cond, ltb, List, length, Option, Ok, Err, refl, subst, inl, inr, ◌∙◌}
use Rattle.std.specs.List.{list_all}
use Rattle.std.proofs.lemmas.Bool.{ltb-true, ltb-false, lt-ltb, le-ltb}
use Rattle.wp_text.specs.declared.fault.Why.{Why}
use Rattle.wp_text.specs.declared.fault.Why.TheVariants.{LineLong, BadByte, BadCommand, BadWord}
use Rattle.wp_text.specs.declared.line.Statement.{Statement}
use Rattle.wp_text.specs.declared.line.TheConstants.{MOST_LINE_BYTES}
use Rattle.wp_text.specs.Grammar.{is_line_byte, IsText, words_of, is_passed_over, Means}
use Rattle.wp_text.specs.Faults.{AreWrong, IsWrong}
use Rattle.wp_text.specs.Reading.{statement_of, line_of}
use Rattle.wp_fields.proofs.Results.{chosen, err_is}
use Rattle.wp_text.proofs.StatementLaws.{says, words_refused, says_again, unknown_again, range_again}

pub means : (line : List ℕ) (meaning : Option Statement) → line_of line ≡ Ok meaning → Means line meaning
unfolding line_of
means line meaning e =
    elim (chosen (ltb MOST_LINE_BYTES (length line)) (Err LineLong) (cond (list_all is_line_byte line) (statement_of (words_of line)) (Err BadByte)) (Ok meaning) e) [
      | inl long ↦ absurd cc
      | inr short ↦ elim (chosen (list_all is_line_byte line) (statement_of (words_of line)) (Err BadByte) (Ok meaning) short.1) [
        | inl text ↦ record { text = record { short = ltb-false _ _ short.0; printable = text.0 }; words = says (words_of line) meaning text.1 }
        | inr bad ↦ absurd cc
      ]
    ]

wrong_by_words : (line : List ℕ) (why : Why) → IsText line → is_passed_over (words_of line) ≡ false → AreWrong (words_of line) why → IsWrong line why
wrong_by_words line LineLong text counts wrong = absurd wrong
wrong_by_words line BadByte text counts wrong = absurd wrong
wrong_by_words line why text counts wrong = (text, counts, wrong)

pub is_wrong : (line : List ℕ) (why : Why) → line_of line ≡ Err why → IsWrong line why
unfolding line_of
is_wrong line why e =
    elim (chosen (ltb MOST_LINE_BYTES (length line)) (Err LineLong) (cond (list_all is_line_byte line) (statement_of (words_of line)) (Err BadByte)) (Err why) e) [
      | inl long ↦ subst (λ (x : Why). IsWrong line x) (err_is {A = Option Statement} LineLong why long.1) (ltb-true _ _ long.0)
      | inr short ↦ elim (chosen (list_all is_line_byte line) (statement_of (words_of line)) (Err BadByte) (Err why) short.1) [
        | inl text ↦ let statement_refused = words_refused (words_of line) why text.1 in wrong_by_words line why (record { short = ltb-false _ _ short.0; printable = text.0 }) statement_refused.0 statement_refused.1
        | inr bad ↦ subst (λ (x : Why). IsWrong line x) (err_is {A = Option Statement} BadByte why bad.1) (ltb-false _ _ short.0, bad.0)
      ]
    ]

-- a text is read by its words
by_words : (line : List ℕ) → IsText line → line_of line ≡ statement_of (words_of line)
unfolding line_of
by_words line text =
    let fits = le-ltb MOST_LINE_BYTES (length line) text.short in
    rw (fits, text.printable) refl

pub means_again : (line : List ℕ) (meaning : Option Statement) → Means line meaning → line_of line ≡ Ok meaning
means_again line meaning m = by_words line m.text ∙ says_again (words_of line) meaning m.words

pub is_wrong_again : (line : List ℕ) (why : Why) → IsWrong line why → line_of line ≡ Err why
unfolding line_of
is_wrong_again line LineLong wrong = let long = lt-ltb MOST_LINE_BYTES (length line) wrong in rw long refl
is_wrong_again line BadByte wrong = let fits = le-ltb MOST_LINE_BYTES (length line) wrong.0 in rw (fits, wrong.1) refl
is_wrong_again line BadCommand wrong = by_words line wrong.0 ∙ unknown_again (words_of line) wrong.1 wrong.2
is_wrong_again line BadWord wrong = by_words line wrong.0 ∙ range_again (words_of line) wrong.2
is_wrong_again line why wrong = absurd wrong.2
