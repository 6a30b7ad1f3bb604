-- What is refused as a base record has the fault, and what has a fault is refused for it.
use Rattle.std.proofs.Common.{◌≡◌, ℕ, zero, suc, ◌<◌, ◌≤◌, true, false, leb, ltb, eqb, ◌||◌, List, [], ◌∷◌, ◌++◌, length, Result, Ok, Err, refl, sym, ap, ◌∙◌, append_assoc, arith, inl, inr, ◌⊎◌}
use Rattle.std.specs.Prelude.{IfErr, IfSome}
use Rattle.std.specs.Int.{w64}
use Rattle.std.specs.List.{flat_map, list_all}
use Rattle.std.proofs.lemmas.Bool.{ne_eqb, leb-true, ltb-true, le-leb, lt-ltb, and_parts, and_from, or_left, or_right}
use Rattle.wp_model.specs.declared.word.TheConstants.{MOST_NAME_BYTES}
use Rattle.wp_model.specs.declared.carried.Carried.{Carried}
use Rattle.wp_fields.specs.declared.format.Format.TheVariants.{Two}
use Rattle.wp_fields.specs.Format.{number_end}
use Rattle.wp_fields.specs.Reading.{number_at, Gives}
use Rattle.wp_fields.proofs.Results.{bind_err, chosen, either, err_is, ok_or_err, map_failed}
use Rattle.wp_fields.proofs.FieldLemmas.{AreBytes, number_takes, number_fails, number_again, number_short, fields_of}
use Rattle.wp_encoding.specs.Reading.{word_field_at, batch_field_at}
use Rattle.wp_encoding.proofs.WordLemmas.{word_again, word_fails, word_refused}
use Rattle.wp_encoding.proofs.ChangeLemmas.{batch_fails, batch_refused}
use Rattle.wp_entry.specs.declared.error.RecordError.{RecordError}
use Rattle.wp_entry.specs.declared.error.RecordError.TheVariants.{Memory, Short, BadNumber, BadKind, BadWord, Extra}
use Rattle.wp_entry.specs.Errors.{record_error, record_fault}
use Rattle.wp_entry.specs.Record.{last_number}
use Rattle.wp_entry.specs.Reading.{name_in_record}
use Rattle.wp_entry.specs.Faults.{HasNumberField, HasName}
use Rattle.wp_entry.specs.Base.{Base, carried_bytes, AscendUpTo, is_carried}
use Rattle.wp_entry.specs.BaseReading.{base_error, batch_in_base, carried_number_at, carried_with, carried_at, carried_after, base_number_at, base_at}
use Rattle.wp_entry.specs.BaseFaults.{HasCarriedNumber, IsCarriedFault, no_number, number_out, in_name, in_batch, last_of, HasBase, IsBaseFault, no_base, past_last, no_count, among, extra}
use Rattle.wp_entry.proofs.Grammar.{last_fits, name_takes}
use Rattle.wp_entry.proofs.BaseGrammar.{number_in, carried_number_takes, carried_number_again, batch_for, name_for, carried_takes, carried_again, others_after, base_in_range, base_number_takes, base_number_again, base_with, at_end, carried_to_end, after_base, base_found, base_again}

-- ---- one prepare: what is refused has the fault

carried_number_fails : (base last : ℕ) (bytes : List ℕ) (fault : RecordError) → AreBytes bytes → carried_number_at base last bytes ≡ Err fault → IsCarriedFault base last bytes fault
unfolding carried_number_at
carried_number_fails base last bytes fault h e =
    elim (bind_err (number_at Short w64 bytes) (number_in base last) fault e) [
      | inl short ↦ let number = number_fails Short w64 bytes fault short in no_number number.0 (sym number.1)
      | inr there ↦
          let p = there.0.0 in
          let number = number_takes Short w64 (number_end Two) (fields_of Two) bytes there.0 h there.1 in
          let has : HasNumberField Two bytes p there.0.1 = record { parts = number.0.parts; small = number.1 } in
          elim (chosen (leb p last || ltb base p) (Err BadWord) (Ok there.0) (Err fault) there.2) [
            | inl out ↦
                let range : (p ≤ last) ⊎ (base < p) = elim (either (leb p last)) [
                  | inl low ↦ inl (leb-true p last low)
                  | inr above ↦ inr (ltb-true base p (rw above at out.0))
                ] in
                number_out p there.0.1 has range (sym (err_is {A = ℕ × List ℕ} BadWord fault out.1))
            | inr within ↦ absurd (ok_or_err there.0 fault within.1)
          ]
    ]

carried_fails : (base last : ℕ) (bytes : List ℕ) (fault : RecordError) → AreBytes bytes → carried_at base last bytes ≡ Err fault → IsCarriedFault base last bytes fault
unfolding carried_at
carried_fails base last bytes fault h e =
    elim (bind_err (carried_number_at base last bytes) name_for fault e) [
      | inl wrong ↦ carried_number_fails base last bytes fault h wrong
      | inr there ↦
          let number = carried_number_takes base last bytes there.0 h there.1 in
          let has : HasCarriedNumber base last bytes there.0.0 there.0.1 = record { field = record { parts = number.parts.parts; small = number.small }; above = number.above; within = number.within } in
          elim (bind_err (name_in_record there.0.1) (batch_for there.0.0) fault there.2) [
            | inl wrong ↦
                let named = map_failed record_error (word_field_at MOST_NAME_BYTES there.0.1) fault wrong in
                in_name there.0.0 there.0.1 named.0 has (word_fails MOST_NAME_BYTES there.0.1 named.0 named.1) (sym named.2)
            | inr read ↦
                let name = name_takes there.0.1 read.0 number.parts.rest_bytes read.1 in
                let has_name : HasName there.0.1 read.0.0 read.0.1 = record { parts = name.0.parts; in_range = name.1 } in
                elim (bind_err (batch_in_base read.0.1) (λ batch. Ok (carried_with there.0.0 read.0.0 batch.0, batch.1)) fault read.2) [
                  | inl wrong ↦
                      let named = map_failed base_error (batch_field_at read.0.1) fault wrong in
                      in_batch there.0.0 there.0.1 read.0.0 read.0.1 named.0 has has_name (batch_fails read.0.1 named.0 name.0.rest_bytes named.1) (sym named.2)
                  | inr batch ↦ absurd (ok_or_err (carried_with there.0.0 read.0.0 batch.0.0, batch.0.1) fault batch.2)
                ]
          ]
    ]

-- ---- one prepare: what has a fault is refused for it

number_refused : (base last : ℕ) (bytes : List ℕ) (fault : RecordError) → carried_number_at base last bytes ≡ Err fault → carried_at base last bytes ≡ Err fault
unfolding carried_at
number_refused base last bytes fault e = rw e refl

short_number : (base last : ℕ) (bytes : List ℕ) → length bytes < 8 → carried_number_at base last bytes ≡ Err Short
unfolding carried_number_at
short_number base last bytes short = rw (number_short Short w64 bytes short) refl

number_is_out : (base last number : ℕ) (bytes rest : List ℕ) → HasNumberField Two bytes number rest → (number ≤ last) ⊎ (base < number) → carried_number_at base last bytes ≡ Err BadWord
unfolding carried_number_at
number_is_out base last number bytes rest has out =
    let test : (leb number last || ltb base number) ≡ true = elim out [
      | inl low ↦ or_left (leb number last) (ltb base number) (le-leb number last low)
      | inr high ↦ or_right (leb number last) (ltb base number) (lt-ltb base number high)
    ] in
    ap (carried_number_at base last) has.parts ∙ rw (number_again Short w64 (number_end Two) (fields_of Two) number rest has.small, test) refl

number_there : (base last number : ℕ) (bytes rest : List ℕ) → base ≤ last_number Two → HasCarriedNumber base last bytes number rest → carried_number_at base last bytes ≡ Ok (number, rest)
number_there base last number bytes rest small has = ap (carried_number_at base last) has.field.parts ∙ carried_number_again base last number rest has.above has.within small

carried_refused : (base last : ℕ) (bytes : List ℕ) (fault : RecordError) → base ≤ last_number Two → IsCarriedFault base last bytes fault → carried_at base last bytes ≡ Err fault
unfolding carried_at
carried_refused base last bytes fault low (no_number short is) = rw is (number_refused base last bytes Short (short_number base last bytes short))
carried_refused base last bytes fault low (number_out number rest has out is) = rw is (number_refused base last bytes BadWord (number_is_out base last number bytes rest has out))
carried_refused base last bytes fault low (in_name number rest named has wrong is) =
    rw (number_there base last number bytes rest low has, word_refused MOST_NAME_BYTES rest named wrong, is) refl
carried_refused base last bytes fault low (in_batch number more name rest named has has_name wrong is) =
    let read : name_in_record more ≡ Ok (name, rest) = ap name_in_record has_name.parts ∙ rw (word_again MOST_NAME_BYTES name rest has_name.in_range) refl in
    rw (number_there base last number bytes more low has, read, batch_refused rest named wrong, is) refl

-- ---- several

-- fewer prepares more are right, and the one behind them has the fault
record FailsAfter (count base last : ℕ) (bytes : List ℕ) (fault : RecordError) : Type 0 where
  more : List Carried
  rest : List ℕ
  parts : bytes ≡ flat_map carried_bytes more ++ rest
  ascend : AscendUpTo base last more
  in_range : list_all is_carried more ≡ true
  fewer : length more < count
  wrong : IsCarriedFault base (last_of last more) rest fault

several_fail : (count base last : ℕ) (carried : List Carried) (bytes : List ℕ) (fault : RecordError) → AreBytes bytes → carried_after count base last carried bytes ≡ Err fault → FailsAfter count base last bytes fault
unfolding carried_after
several_fail zero base last carried bytes fault h e = absurd (ok_or_err (carried, bytes) fault e)
several_fail (suc count) base last carried bytes fault h e =
    elim (bind_err (carried_at base last bytes) (others_after count base carried) fault e) [
      | inl wrong ↦ record { more = []; rest = bytes; parts = refl; ascend = tt; in_range = refl; fewer = omega arith; wrong = carried_fails base last bytes fault h wrong }
      | inr there ↦
          let one = carried_takes base last bytes there.0 h there.1 in
          let after = several_fail count base there.0.0.number (carried ++ there.0.0 ∷ []) there.0.1 fault one.parts.rest_bytes there.2 in
          record {
            more = there.0.0 ∷ after.more;
            rest = after.rest;
            parts = one.parts.parts ∙ ap (λ (t : List ℕ). carried_bytes there.0.0 ++ t) after.parts ∙ sym (append_assoc (carried_bytes there.0.0) (flat_map carried_bytes after.more) after.rest);
            ascend = (one.above, one.within, after.ascend);
            in_range = and_from _ _ one.in_range after.in_range;
            fewer = omega (arith, after.fewer);
            wrong = after.wrong;
          }
    ]

several_refused : (more : List Carried) (count base last : ℕ) (carried : List Carried) (rest : List ℕ) (fault : RecordError) → base ≤ last_number Two → AscendUpTo base last more → list_all is_carried more ≡ true → length more < count → IsCarriedFault base (last_of last more) rest fault → carried_after count base last carried (flat_map carried_bytes more ++ rest) ≡ Err fault
unfolding carried_after
several_refused more zero base last carried rest fault small ascend range fewer wrong = absurd (omega (arith, fewer))
several_refused [] (suc count) base last carried rest fault small ascend range fewer wrong = rw (carried_refused base last rest fault small wrong) refl
several_refused (x ∷ more) (suc count) base last carried rest fault small ascend range fewer wrong =
    let parts = and_parts (is_carried x) (list_all is_carried more) range in
    let regrouped : (carried_bytes x ++ flat_map carried_bytes more) ++ rest ≡ carried_bytes x ++ (flat_map carried_bytes more ++ rest) = append_assoc (carried_bytes x) (flat_map carried_bytes more) rest in
    let others = several_refused more count base x.number (carried ++ x ∷ []) rest fault small ascend.2 parts.1 (omega (arith, fewer)) wrong in
    ap (carried_after (suc count) base last carried) regrouped ∙ rw (carried_again base last x (flat_map carried_bytes more ++ rest) ascend.0 ascend.1 small parts.0) others

-- ---- the base

base_number_fails : (bytes : List ℕ) (fault : RecordError) → AreBytes bytes → base_number_at bytes ≡ Err fault → IsBaseFault bytes fault
unfolding base_number_at
base_number_fails bytes fault h e =
    elim (bind_err (number_at Short w64 bytes) base_in_range fault e) [
      | inl short ↦ let number = number_fails Short w64 bytes fault short in no_base number.0 (sym number.1)
      | inr there ↦
          let number = number_takes Short w64 (number_end Two) (fields_of Two) bytes there.0 h there.1 in
          elim (chosen (ltb (last_number Two) there.0.0) (Err BadWord) (Ok there.0) (Err fault) there.2) [
            | inl past ↦ past_last there.0.0 there.0.1 (record { parts = number.0.parts; small = number.1 }) (ltb-true _ _ past.0) (sym (err_is {A = ℕ × List ℕ} BadWord fault past.1))
            | inr within ↦ absurd (ok_or_err there.0 fault within.1)
          ]
    ]

more_than_none : (bytes : List ℕ) → eqb (length bytes) 0 ≡ false → 1 ≤ length bytes
more_than_none [] e = absurd cc
more_than_none (byte ∷ bytes) e = omega arith

pub base_fails : (bytes : List ℕ) (fault : RecordError) → AreBytes bytes → base_at bytes ≡ Err fault → IsBaseFault bytes fault
unfolding base_at
base_fails bytes fault h e =
    elim (bind_err (base_number_at bytes) after_base fault e) [
      | inl wrong ↦ base_number_fails bytes fault h wrong
      | inr number ↦
          let takes = base_number_takes bytes number.0 h number.1 in
          let small : number.0.0 < number_end Two = omega (arith, takes.1, last_fits Two) in
          let has : HasBase bytes number.0.0 number.0.1 = record { field = record { parts = takes.0.parts; small = small }; small = takes.1 } in
          elim (bind_err (number_at Short w64 number.0.1) (carried_to_end number.0.0) fault number.2) [
            | inl short ↦ let count = number_fails Short w64 number.0.1 fault short in no_count number.0.0 number.0.1 has count.0 (sym count.1)
            | inr count ↦
                let field = number_takes Short w64 (number_end Two) (fields_of Two) number.0.1 count.0 takes.0.rest_bytes count.1 in
                elim (bind_err (carried_after count.0.0 number.0.0 0 [] count.0.1) (at_end number.0.0) fault count.2) [
                  | inl wrong ↦
                      let after = several_fail count.0.0 number.0.0 0 [] count.0.1 fault field.0.rest_bytes wrong in
                      among number.0.0 count.0.0 number.0.1 count.0.1 has (record { parts = field.0.parts; small = field.1 }) (record { carried = after.more; rest = after.rest; parts = after.parts; ascend = after.ascend; in_range = after.in_range; fewer = after.fewer; wrong = after.wrong })
                  | inr found ↦
                      let begins = base_found bytes number.0 count.0 found.0 h number.1 count.1 found.1 in
                      elim (chosen (eqb (length found.0.1) 0) (Ok (base_with number.0.0 found.0.0)) (Err (Extra (length found.0.1))) (Err fault) found.2) [
                        | inl whole ↦ absurd (ok_or_err (base_with number.0.0 found.0.0) fault whole.1)
                        | inr more ↦ extra (base_with number.0.0 found.0.0) found.0.1 begins.is begins.parts (more_than_none found.0.1 more.0) (sym (err_is {A = Base} (Extra (length found.0.1)) fault more.1))
                      ]
                ]
          ]
    ]

number_missed : (bytes : List ℕ) (fault : RecordError) → base_number_at bytes ≡ Err fault → base_at bytes ≡ Err fault
unfolding base_at
number_missed bytes fault e = rw e refl

short_base : (bytes : List ℕ) → length bytes < 8 → base_number_at bytes ≡ Err Short
unfolding base_number_at
short_base bytes short = rw (number_short Short w64 bytes short) refl

base_past : (number : ℕ) (bytes rest : List ℕ) → HasNumberField Two bytes number rest → last_number Two < number → base_number_at bytes ≡ Err BadWord
unfolding base_number_at
base_past number bytes rest has past = ap base_number_at has.parts ∙ rw (number_again Short w64 (number_end Two) (fields_of Two) number rest has.small, lt-ltb _ _ past) refl

base_there : (number : ℕ) (bytes rest : List ℕ) → HasBase bytes number rest → base_number_at bytes ≡ Ok (number, rest)
base_there number bytes rest has = ap base_number_at has.field.parts ∙ base_number_again number rest has.small

pub base_refused : (bytes : List ℕ) (fault : RecordError) → IsBaseFault bytes fault → base_at bytes ≡ Err fault
unfolding base_at
base_refused bytes fault (no_base short is) = rw is (number_missed bytes Short (short_base bytes short))
base_refused bytes fault (past_last number rest has past is) = rw is (number_missed bytes BadWord (base_past number bytes rest has past))
base_refused bytes fault (no_count number rest has short is) = rw (base_there number bytes rest has, number_short Short w64 rest short, is) refl
base_refused bytes fault (among number count rest more has counted wrong) =
    let read : number_at Short w64 rest ≡ Ok (count, more) = ap (number_at Short w64) counted.parts ∙ number_again Short w64 (number_end Two) (fields_of Two) count more counted.small in
    let refused : carried_after count number 0 [] more ≡ Err fault = ap (carried_after count number 0 []) wrong.parts ∙ several_refused wrong.carried count number 0 [] wrong.rest fault has.small wrong.ascend wrong.in_range wrong.fewer wrong.wrong in
    rw (base_there number bytes rest has, read, refused) refl
base_refused bytes fault (extra base rest is parts some counted) =
    let more : eqb (length rest) 0 ≡ false = ne_eqb (length rest) 0 (λ none. omega (arith, some, none)) in
    let refused : at_end base.number (base.carried, rest) ≡ Err (Extra (length rest)) = rw more refl in
    rw counted (ap base_at parts ∙ base_again base rest is ∙ refused)

-- ---- what a call gave

pub refused_has_fault : (bytes : List ℕ) (result : Result Base RecordError) → AreBytes bytes → Gives record_fault (λ base. base) result (base_at bytes) → IfErr result (λ error. IfSome (record_fault error) (λ fault. IsBaseFault bytes fault))
refused_has_fault bytes (Ok base) h read = tt
refused_has_fault bytes (Err Memory) h read = tt
refused_has_fault bytes (Err Short) h read = base_fails bytes Short h read
refused_has_fault bytes (Err (BadNumber found due)) h read = base_fails bytes (BadNumber found due) h read
refused_has_fault bytes (Err (BadKind byte)) h read = base_fails bytes (BadKind byte) h read
refused_has_fault bytes (Err BadWord) h read = base_fails bytes BadWord h read
refused_has_fault bytes (Err (Extra more)) h read = base_fails bytes (Extra more) h read
