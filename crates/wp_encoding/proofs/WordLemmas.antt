-- Keys, names and values: what is read is spelled so, what is spelled so is read, and what is refused has the fault.
use Rattle.std.proofs.Common.{◌≡◌, ℕ, ◌^◌, ◌≤◌, true, false, cond, ltb, leb, eqb, ◌||◌, ◌&&◌, List, [], ◌∷◌, ◌++◌, length, take, drop, Result, Ok, Err, refl, sym, ap, subst, ◌∙◌, append_assoc, arith, inl, inr}
use Rattle.std.specs.Int.{w16, to_be_bytes}
use Rattle.std.specs.List.{list_all}
use Rattle.std.proofs.lemmas.Bool.{ltb-true, ltb-false, lt-ltb, le-ltb, leb-true, eqb-true, and_parts, or_from, ne_eqb}
use Rattle.std.proofs.lemmas.List.{take_at, drop_at, length-append, length-take-le}
use Rattle.wp_model.specs.declared.word.TheConstants.{MOST_VALUE_BYTES}
use Rattle.wp_model.specs.Word.{is_word, is_word_byte, is_value}
use Rattle.wp_fields.specs.Reading.{◌>>=◌, byte_at, number_at, piece_at}
use Rattle.wp_fields.proofs.Results.{bind_ok, bind_err, chosen, either, ok_is, err_is, ok_or_err}
use Rattle.wp_fields.proofs.FieldLemmas.{AreBytes, Begins, Begins-then, Begins-piece, refusal_missed, test_met, byte_takes, piece_takes, piece_fails, piece_there, piece_short, number_takes, number_fails, number_again, number_short, fields_16}
use Rattle.wp_encoding.specs.declared.error.EncodingError.{EncodingError}
use Rattle.wp_encoding.specs.declared.error.EncodingError.TheVariants.{Memory, Short, Kind, Word}
use Rattle.wp_encoding.specs.Encoding.{word_bytes, value_bytes}
use Rattle.wp_encoding.specs.Reading.{text_at, word_field_at, value_field_at}
use Rattle.wp_encoding.specs.Faults.{IsTextFault, IsWordFault, IsValueFault}

-- ---- texts

abbrev Text : Type 0
Text = Result (List ℕ × List ℕ) EncodingError

-- the text, where it is a word
abbrev tested : ℕ → List ℕ × List ℕ → Text
tested most text = cond (is_word most text.0) (Ok text) (Err Word)

text_takes : (most len : ℕ) (bytes : List ℕ) (x : List ℕ × List ℕ) → AreBytes bytes → text_at most len bytes ≡ Ok x → Begins bytes x.0 x.1 × (length x.0 ≡ len) × (is_word most x.0 ≡ true)
unfolding text_at
text_takes most len bytes x h e =
    let in_range = refusal_missed (eqb len 0 || ltb most len) Word (piece_at Short len bytes >>= tested most) x e in
    let s = bind_ok (piece_at Short len bytes) (tested most) x in_range.1 in
    let piece = piece_takes Short len bytes s.0 s.1 in
    let is = test_met (is_word most s.0.0) Word (Ok s.0) x s.2 in
    let whole : (take len bytes, drop len bytes) ≡ x = piece.1 ∙ ok_is {E = EncodingError} s.0 x is.1 in
    let word : is_word most (take len bytes) ≡ true = rw (← piece.1) at is.0 in
    let found : Begins bytes (take len bytes) (drop len bytes) × (length (take len bytes) ≡ len) × (is_word most (take len bytes) ≡ true) = (Begins-piece len bytes h, length-take-le len bytes piece.0, word) in
    rw (← whole) found

pub length_of_word : (most : ℕ) (word : List ℕ) → is_word most word ≡ true → (1 ≤ length word) × (length word ≤ most)
length_of_word most word is =
    let outer = and_parts (leb 1 (length word) && leb (length word) most) (list_all is_word_byte word) is in
    let inner = and_parts (leb 1 (length word)) (leb (length word) most) outer.0 in
    (leb-true _ _ inner.0, leb-true _ _ inner.1)

-- a length in range
length_in_range : (most len : ℕ) → 1 ≤ len → len ≤ most → (eqb len 0 || ltb most len) ≡ false
length_in_range most len some few = or_from _ _ (ne_eqb _ _ (λ zero. omega arith)) (le-ltb _ _ few)

text_again : (most : ℕ) (word rest : List ℕ) → is_word most word ≡ true → text_at most (length word) (word ++ rest) ≡ Ok (word, rest)
unfolding text_at
text_again most word rest is =
    let range = length_of_word most word is in
    let long : length word ≤ length (word ++ rest) = omega (arith, length-append word rest) in
    rw (length_in_range most (length word) range.0 range.1, piece_there Short (length word) (word ++ rest) long, take_at word rest (length word) refl, drop_at word rest (length word) refl, is) refl

out_of_range : (most len : ℕ) (bytes : List ℕ) → (eqb len 0 || ltb most len) ≡ true → IsTextFault most len bytes Word
out_of_range most len bytes test =
    elim (either (eqb len 0)) [
      | inl zero ↦ inl (eqb-true len 0 zero)
      | inr some ↦ inr (inl (ltb-true most len (rw some at test)))
    ]

text_fails : (most len : ℕ) (bytes : List ℕ) (fault : EncodingError) → text_at most len bytes ≡ Err fault → IsTextFault most len bytes fault
unfolding text_at
text_fails most len bytes fault e =
    let named : (other : EncodingError) → other ≡ fault → IsTextFault most len bytes other → IsTextFault most len bytes fault = λ other same is. subst (λ (f : EncodingError). IsTextFault most len bytes f) same is in
    elim (chosen (eqb len 0 || ltb most len) (Err Word) (piece_at Short len bytes >>= tested most) (Err fault) e) [
      | inl out ↦ named Word (err_is {A = List ℕ × List ℕ} Word fault out.1) (out_of_range most len bytes out.0)
      | inr within ↦ elim (bind_err (piece_at Short len bytes) (tested most) fault within.1) [
        | inl short ↦
            let piece = piece_fails Short len bytes fault short in
            elim (either (eqb len 0)) [
              | inl zero ↦ absurd (omega (arith, piece.0, eqb-true len 0 zero))
              | inr some ↦
                  let few : ltb most len ≡ false = rw some at within.0 in
                  named Short piece.1 (omega (arith, piece.0), ltb-false most len few, piece.0)
            ]
        | inr there ↦
            let piece = piece_takes Short len bytes there.0 there.1 in
            elim (chosen (is_word most there.0.0) (Ok there.0) (Err Word) (Err fault) there.2) [
              | inl is ↦ absurd (ok_or_err there.0 fault is.1)
              | inr bad_text ↦
                  let bad : is_word most (take len bytes) ≡ false = rw (← piece.1) at bad_text.0 in
                  named Word (err_is {A = List ℕ × List ℕ} Word fault bad_text.1) (inr (inr (piece.0, bad)))
            ]
      ]
    ]

text_refused : (most len : ℕ) (bytes : List ℕ) (fault : EncodingError) → IsTextFault most len bytes fault → text_at most len bytes ≡ Err fault
unfolding text_at
text_refused most len bytes Word (inl zero) = rw zero refl
text_refused most len bytes Word (inr (inl many)) =
    elim (either (eqb len 0)) [
      | inl zero ↦ rw zero refl
      | inr some ↦ rw (some, lt-ltb most len many) refl
    ]
text_refused most len bytes Word (inr (inr there)) =
    elim (either (eqb len 0 || ltb most len)) [
      | inl out ↦ rw out refl
      | inr within ↦ rw (within, piece_there Short len bytes there.0, there.1) refl
    ]
text_refused most len bytes Short is = rw (length_in_range most len is.0 is.1, piece_short Short len bytes is.2) refl
text_refused most len bytes Memory is = absurd is
text_refused most len bytes (Kind byte) is = absurd is

-- ---- keys and names

pub word_takes : (most : ℕ) (bytes : List ℕ) (x : List ℕ × List ℕ) → AreBytes bytes → word_field_at most bytes ≡ Ok x → Begins bytes (word_bytes x.0) x.1 × (is_word most x.0 ≡ true)
unfolding word_field_at
word_takes most bytes x h e =
    let s = bind_ok (byte_at Short bytes) (λ len. text_at most len.0 len.1) x e in
    let len = byte_takes Short bytes s.0 h s.1 in
    let word = text_takes most s.0.0 s.0.1 x len.rest_bytes s.2 in
    (rw word.1 (Begins-then bytes (s.0.0 ∷ []) s.0.1 x.0 x.1 len word.0), word.2)

pub word_again : (most : ℕ) (word rest : List ℕ) → is_word most word ≡ true → word_field_at most (word_bytes word ++ rest) ≡ Ok (word, rest)
unfolding word_field_at
word_again most word rest is = text_again most word rest is

pub word_fails : (most : ℕ) (bytes : List ℕ) (fault : EncodingError) → word_field_at most bytes ≡ Err fault → IsWordFault most bytes fault
unfolding word_field_at
word_fails most [] fault e = sym (err_is {A = List ℕ × List ℕ} Short fault e)
word_fails most (len ∷ bytes) fault e = text_fails most len bytes fault e

pub word_refused : (most : ℕ) (bytes : List ℕ) (fault : EncodingError) → IsWordFault most bytes fault → word_field_at most bytes ≡ Err fault
unfolding word_field_at
word_refused most [] fault is = rw is refl
word_refused most (len ∷ bytes) fault is = text_refused most len bytes fault is

-- ---- values

pub value_takes : (bytes : List ℕ) (x : List ℕ × List ℕ) → AreBytes bytes → value_field_at bytes ≡ Ok x → Begins bytes (value_bytes x.0) x.1 × (is_value x.0 ≡ true)
unfolding value_field_at
value_takes bytes x h e =
    let s = bind_ok (number_at Short w16 bytes) (λ len. text_at MOST_VALUE_BYTES len.0 len.1) x e in
    let len = number_takes Short w16 (2 ^ 16) fields_16 bytes s.0 h s.1 in
    let word = text_takes MOST_VALUE_BYTES s.0.0 s.0.1 x len.0.rest_bytes s.2 in
    (rw word.1 (Begins-then bytes (to_be_bytes w16 s.0.0) s.0.1 x.0 x.1 len.0 word.0), word.2)

pub value_again : (value rest : List ℕ) → is_value value ≡ true → value_field_at (value_bytes value ++ rest) ≡ Ok (value, rest)
unfolding value_field_at
value_again value rest is =
    let range = length_of_word MOST_VALUE_BYTES value is in
    let regrouped : value_bytes value ++ rest ≡ to_be_bytes w16 (length value) ++ (value ++ rest) = append_assoc (to_be_bytes w16 (length value)) value rest in
    ap value_field_at regrouped ∙ rw (number_again Short w16 (2 ^ 16) fields_16 (length value) (value ++ rest) (omega arith)) (text_again MOST_VALUE_BYTES value rest is)

pub value_fails : (bytes : List ℕ) (fault : EncodingError) → AreBytes bytes → value_field_at bytes ≡ Err fault → IsValueFault bytes fault
unfolding value_field_at
value_fails bytes fault h e =
    elim (bind_err (number_at Short w16 bytes) (λ len. text_at MOST_VALUE_BYTES len.0 len.1) fault e) [
      | inl short ↦
          let number = number_fails Short w16 bytes fault short in
          inl (number.0, sym number.1)
      | inr there ↦
          let len = number_takes Short w16 (2 ^ 16) fields_16 bytes there.0 h there.1 in
          inr (record { len = there.0.0; text = there.0.1; parts = len.0.parts; small = len.1; wrong = text_fails MOST_VALUE_BYTES there.0.0 there.0.1 fault there.2 })
    ]

pub value_refused : (bytes : List ℕ) (fault : EncodingError) → IsValueFault bytes fault → value_field_at bytes ≡ Err fault
unfolding value_field_at
value_refused bytes fault (inl short) = rw (number_short Short w16 bytes short.0, short.1) refl
value_refused bytes fault (inr is) =
    ap value_field_at is.parts ∙ rw (number_again Short w16 (2 ^ 16) fields_16 is.len is.text is.small) (text_refused MOST_VALUE_BYTES is.len is.text fault is.wrong)
