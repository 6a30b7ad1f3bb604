-- Which texts are a number in decimal digits.
use Rattle.std.proofs.Common.{arith, ap, sym, ◌∙◌, ◌≡◌, ◌≢◌, ◌<◌, ◌≤◌, ◌^◌, ℕ, List, length, get_or, decimal, Result, Ok, Err, IfSome, IfNone, inl, inr}
use Rattle.std.specs.Result.{result_ok}
use Rattle.std.specs.Str.Parse.{AllDigits, ParsesUnsigned, digits_value}
use Rattle.std.proofs.lemmas.Bool.{cases_lt}
use Rattle.std.proofs.lemmas.Str.Parse.{IsNumeralModel, digit_at, numerals_by_value, parse_plain, tells_digits}
use Rattle.std.proofs.lemmas.Fmt.{decimal-digits_value, decimal_digit, decimal_is_IsNumeral, decimal_nonempty, first_decimal, parse-decimal}

abbrev pub first_byte : List ℕ → ℕ
first_byte text = get_or text 0 0

-- not empty, no plus sign, and a leading zero only where it is the whole text
pub record IsPlain (text : List ℕ) : Type 0 where
  pub some : 0 < length text
  pub unsigned : get_or text 0 0 ≢ 43
  pub unpadded : get_or text 0 0 ≡ 48 → length text ≤ 1

pub own : IsNumeralModel (AllDigits 10) (digits_value 10)
own = numerals_by_value _ tells_digits

module _ {E : Type 0} where
  -- the number that is parsed from a plain text is spelled by it
  pub parsed_is_spelled : (text : List ℕ) (parsed : Result ℕ E) → IsPlain text → ParsesUnsigned 64 10 text parsed → IfSome (result_ok parsed) (λ number. text ≡ decimal number)
  parsed_is_spelled text (Err e) plain parses = tt
  parsed_is_spelled text (Ok number) plain parses =
      let read = parse_plain own {E = E} 64 text (Ok number) parses plain.unsigned in
      sym (ap decimal read.1 ∙ decimal-digits_value own text read.0.0 read.0.1 (λ zero. omega (arith, plain.unpadded zero, read.0.1)) read.0.2)

  -- a text from which nothing is parsed spells no number
  pub unparsed_spells_none : (text : List ℕ) (parsed : Result ℕ E) → ParsesUnsigned 64 10 text parsed → IfNone (result_ok parsed) ((number : ℕ) → number < 2 ^ 64 → ¬ (text ≡ decimal number))
  unparsed_spells_none text (Ok number) parses = tt
  unparsed_spells_none text (Err e) parses = λ number small spells.
      let parsed : Err e ≡ Ok number = parse-decimal 64 number text (Err e) small small spells parses in cc

pub decimal_is_plain : (number : ℕ) → number < 2 ^ 64 → IsPlain (decimal number)
decimal_is_plain number small = record {
  some = decimal_nonempty number small;
  unsigned = λ plus. omega (arith, digit_at (decimal number) 0 (decimal_is_IsNumeral number small).0.1 (decimal_nonempty number small), plus);
  unpadded = λ zero. elim (cases_lt 0 number) [
    | inl positive ↦ omega (arith, first_decimal number positive small, zero)
    | inr none ↦ omega (arith, ap length (decimal_digit number (omega arith)))
  ];
}
