-- Faults of a table's fields: what is refused has the fault, and what has a fault is refused for it.
use Rattle.std.proofs.Common.{◌≡◌, ℕ, zero, suc, Bool, true, false, leb, ◌&&◌, List, [], ◌∷◌, ◌++◌, Some, None, Result, Ok, Err, refl, sym, ap, ◌∙◌, append_assoc, inl, inr}
use Rattle.std.specs.Int.{Width, to_be_bytes}
use Rattle.wp_model.specs.declared.version.Version.{Version}
use Rattle.wp_fields.specs.Reading.{◌>>=◌, map_err, number_at}
use Rattle.wp_fields.proofs.Results.{bind_err, ok_or_err, err_is, map_failed, map_ok}
use Rattle.wp_fields.proofs.FieldLemmas.{AreBytes, Begins-byte, AreFields, number_takes, number_fails, number_again, number_short, fields_of}
use Rattle.wp_encoding.specs.Encoding.{word_bytes}
use Rattle.wp_encoding.specs.Reading.{word_field_at, value_field_at}
use Rattle.wp_encoding.proofs.WordLemmas.{word_takes, word_again, word_fails, word_refused, value_fails, value_refused}
use Rattle.wp_fields.specs.declared.format.Format.{Format}
use Rattle.wp_fields.specs.Format.{number_width, number_end}
use Rattle.wp_table.specs.declared.error.TableError.{TableError}
use Rattle.wp_table.specs.declared.error.TableError.TheVariants.{Short, Number, Order, Word}
use Rattle.wp_table.specs.Errors.{table_error}
use Rattle.wp_table.specs.Reading.{if_right, flushed_number_at, stored_at, last_of, is_after_last, next_place_at, next_version_at}
use Rattle.wp_table.specs.Faults.{IsNumberFault, ends, is_wrong, IsStoredFault, HasPlace, IsVersionFault, in_key, in_number, out_of_order, in_value}
use Rattle.wp_table.proofs.Order.{after-any_value}
use Rattle.wp_table.proofs.VersionLemmas.{Stored, put_value, place_after, with_value, flushed_number_takes, flushed_number_again, place_takes}

-- what was read was wrong
pub was_wrong : {X : Type 0} (right : Bool) (named fault : TableError) (read : X) → if_right right named read ≡ Err fault → (right ≡ false) × (named ≡ fault)
was_wrong {X} true named fault read e = absurd (ok_or_err read fault e)
was_wrong {X} false named fault read e = (refl, err_is {A = X} named fault e)

-- ---- numbers that are tested

abbrev tested : {X : Type 0} → (ℕ → Bool) → (ℕ → TableError) → (ℕ × List ℕ → X) → ℕ × List ℕ → Result X TableError
tested right named read found = if_right (right found.0) (named found.0) (read found)

pub tested_fails : {X : Type 0} (w : Width) (limit : ℕ) → AreFields w limit → (right : ℕ → Bool) (named : ℕ → TableError) (read : ℕ × List ℕ → X) (bytes : List ℕ) (fault : TableError) → AreBytes bytes
    → number_at Short w bytes >>= tested right named read ≡ Err fault → IsNumberFault w limit right named bytes fault
tested_fails w limit laws right named read bytes fault h e =
    elim (bind_err (number_at Short w bytes) (tested right named read) fault e) [
      | inl short ↦ let number = number_fails Short w bytes fault short in ends number.0 (sym number.1)
      | inr there ↦
          let found = number_takes Short w limit laws bytes there.0 h there.1 in
          let wrong = was_wrong (right there.0.0) (named there.0.0) fault (read there.0) there.2 in
          is_wrong there.0.0 there.0.1 found.0.parts found.1 wrong.0 (sym wrong.1)
    ]

pub tested_refused : {X : Type 0} (w : Width) (limit : ℕ) → AreFields w limit → (right : ℕ → Bool) (named : ℕ → TableError) (read : ℕ × List ℕ → X) (bytes : List ℕ) (fault : TableError)
    → IsNumberFault w limit right named bytes fault → number_at Short w bytes >>= tested right named read ≡ Err fault
tested_refused w limit laws right named read bytes fault (ends short is) = rw (number_short Short w bytes short, is) refl
tested_refused w limit laws right named read bytes fault (is_wrong found rest parts small wrong is) =
    ap (λ (t : List ℕ). number_at Short w t >>= tested right named read) parts ∙ rw (number_again Short w limit laws found rest small, wrong, is) refl

-- ---- a version

stored_fails : (bytes : List ℕ) (fault : TableError) → AreBytes bytes → stored_at bytes ≡ Err fault → IsStoredFault bytes fault
unfolding stored_at
stored_fails [] fault h e = sym (err_is {A = Stored} Short fault e)
stored_fails (zero ∷ bytes) fault h e = let none : Stored = (None, bytes) in absurd (ok_or_err none fault e)
stored_fails (suc zero ∷ bytes) fault h e =
    elim (bind_err (map_err table_error (value_field_at bytes)) put_value fault e) [
      | inl wrong ↦
          let field = map_failed table_error (value_field_at bytes) fault wrong in
          (field.0, value_fails bytes field.0 (Begins-byte 1 bytes h).rest_bytes field.1, sym field.2)
      | inr there ↦ let some : Stored = (Some there.0.0, there.0.1) in absurd (ok_or_err some fault there.2)
    ]
stored_fails (suc (suc n) ∷ bytes) fault h e = sym (err_is {A = Stored} Word fault e)

stored_refused : (bytes : List ℕ) (fault : TableError) → IsStoredFault bytes fault → stored_at bytes ≡ Err fault
unfolding stored_at
stored_refused [] fault is = rw is refl
stored_refused (zero ∷ bytes) fault is = absurd is
stored_refused (suc zero ∷ bytes) fault (field, wrong, is) = rw (value_refused bytes field wrong, is) refl
stored_refused (suc (suc n) ∷ bytes) fault is = rw is refl

place_again : (format : Format) (flushed : ℕ) (before : List Version) (bytes : List ℕ) (v : Version) (rest : List ℕ) → HasPlace format flushed bytes v rest → is_after_last before v ≡ true → next_place_at format flushed (last_of before) bytes ≡ Ok (record { key = v.key; number = v.number; value = None }, rest)
unfolding next_place_at
place_again format flushed before bytes v rest has after =
    let same : is_after_last before (record { key = v.key; number = v.number; value = None }) ≡ true = after-any_value (last_of before) v.key v.number None v.value ∙ after in
    ap (next_place_at format flushed (last_of before)) has.parts ∙ rw (word_again 64 v.key (to_be_bytes (number_width format) v.number ++ rest) has.word, flushed_number_again format flushed v.number rest has.numbered has.flushed_number, same) refl

place_fails : (format : Format) (flushed : ℕ) (before : List Version) (bytes : List ℕ) (fault : TableError) → AreBytes bytes → next_place_at format flushed (last_of before) bytes ≡ Err fault → IsVersionFault format flushed before bytes fault
unfolding next_place_at flushed_number_at
place_fails format flushed before bytes fault h e =
    elim (bind_err (map_err table_error (word_field_at 64 bytes)) (λ key. flushed_number_at format flushed key.1 >>= place_after (last_of before) key.0) fault e) [
      | inl wrong ↦
          let field = map_failed table_error (word_field_at 64 bytes) fault wrong in
          in_key field.0 (word_fails 64 bytes field.0 field.1) (sym field.2)
      | inr there ↦
          let word = word_takes 64 bytes there.0 h (map_ok table_error (word_field_at 64 bytes) there.0 there.1) in
          elim (bind_err (flushed_number_at format flushed there.0.1) (place_after (last_of before) there.0.0) fault there.2) [
            | inl wrong ↦
                in_number there.0.0 there.0.1 (record { parts = word.0.parts; in_range = word.1 })
                (tested_fails (number_width format) (number_end format) (fields_of format) (λ n. leb 1 n && leb n flushed) (λ _. Number) (λ n. n) there.0.1 fault word.0.rest_bytes wrong)
            | inr read ↦
                let n = flushed_number_takes format flushed there.0.1 read.0 word.0.rest_bytes read.1 in
                let v : Version = record { key = there.0.0; number = read.0.0; value = None } in
                let wrong = was_wrong (is_after_last before v) Order fault (v, read.0.1) read.2 in
                let parts : bytes ≡ word_bytes there.0.0 ++ (to_be_bytes (number_width format) read.0.0 ++ read.0.1) = word.0.parts ∙ ap (λ (t : List ℕ). word_bytes there.0.0 ++ t) n.parts.parts in
                out_of_order v read.0.1 (record { parts = parts; word = word.1; numbered = n.numbered; flushed_number = n.is_in }) wrong.0 (sym wrong.1)
          ]
    ]

pub version_fails : (format : Format) (flushed : ℕ) (before : List Version) (bytes : List ℕ) (fault : TableError) → AreBytes bytes → next_version_at format flushed (last_of before) bytes ≡ Err fault → IsVersionFault format flushed before bytes fault
unfolding next_version_at
version_fails format flushed before bytes fault h e =
    elim (bind_err (next_place_at format flushed (last_of before) bytes) (λ place. stored_at place.1 >>= with_value place.0) fault e) [
      | inl wrong ↦ place_fails format flushed before bytes fault h wrong
      | inr there ↦
          let place = place_takes format flushed (last_of before) bytes there.0 h there.1 in
          let v = there.0.0 in
          let parts : bytes ≡ word_bytes v.key ++ (to_be_bytes (number_width format) v.number ++ there.0.1) = place.parts.parts ∙ append_assoc (word_bytes v.key) (to_be_bytes (number_width format) v.number) there.0.1 in
          let has : HasPlace format flushed bytes v there.0.1 = record { parts = parts; word = place.word; numbered = place.numbered; flushed_number = place.is_in } in
          elim (bind_err (stored_at there.0.1) (with_value v) fault there.2) [
            | inl wrong ↦ in_value v there.0.1 has (after-any_value (last_of before) v.key v.number v.value None ∙ place.after) (stored_fails there.0.1 fault place.parts.rest_bytes wrong)
            | inr read ↦ let whole : Version = record { key = v.key; number = v.number; value = read.0.0 } in absurd (ok_or_err (whole, read.0.1) fault read.2)
          ]
    ]

pub version_refused : (format : Format) (flushed : ℕ) (before : List Version) (bytes : List ℕ) (fault : TableError) → IsVersionFault format flushed before bytes fault → next_version_at format flushed (last_of before) bytes ≡ Err fault
unfolding next_version_at next_place_at flushed_number_at
version_refused format flushed before bytes fault (in_key field wrong is) = rw (word_refused 64 bytes field wrong, is) refl
version_refused format flushed before bytes fault (in_number word rest has wrong) =
    ap (next_version_at format flushed (last_of before)) has.parts ∙ rw (word_again 64 word rest has.in_range, tested_refused (number_width format) (number_end format) (fields_of format) (λ n. leb 1 n && leb n flushed) (λ _. Number) (λ n. n) rest fault wrong) refl
version_refused format flushed before bytes fault (out_of_order v rest has after is) =
    let same : is_after_last before (record { key = v.key; number = v.number; value = None }) ≡ false = after-any_value (last_of before) v.key v.number None v.value ∙ after in
    ap (next_version_at format flushed (last_of before)) has.parts ∙ rw (word_again 64 v.key (to_be_bytes (number_width format) v.number ++ rest) has.word, flushed_number_again format flushed v.number rest has.numbered has.flushed_number, same, is) refl
version_refused format flushed before bytes fault (in_value v rest has after wrong) = rw (place_again format flushed before bytes v rest has after, stored_refused rest fault wrong) refl
