-- What is refused has the fault, and what has a fault is refused for it.
use Rattle.std.proofs.Common.{◌≡◌, ℕ, zero, suc, ◌+◌, ◌<◌, ◌≤◌, true, false, cond, leb, ltb, eqb, ◌||◌, List, [], ◌∷◌, ◌++◌, length, Result, Ok, Err, refl, sym, ap, subst, ◌∙◌, append_assoc, arith, inl, inr, ◌⊎◌}
use Rattle.std.specs.Prelude.{IfErr, IfSome}
use Rattle.std.specs.Global.{Vec}
use Rattle.std.specs.Int.{byte_len, to_be_bytes}
use Rattle.std.specs.List.{flat_map, AllByRecursion}
use Rattle.std.proofs.lemmas.Bool.{eqb-true, eqb-false, ne_eqb, eq-eqb, lt-ltb, ltb-true, leb-true, leb-false, le-leb, lt-leb, or_left, or_right}
use Rattle.wp_model.specs.declared.word.TheConstants.{MOST_NAME_BYTES}
use Rattle.wp_model.specs.declared.entry.Entry.{Entry}
use Rattle.wp_model.specs.declared.entry.Entry.TheVariants.{Write, Prepare, Commit, Undo, Close}
use Rattle.wp_model.specs.Record.{AreCommits}
use Rattle.wp_fields.specs.Reading.{◌>>=◌, byte_at, number_at, Gives}
use Rattle.wp_fields.proofs.Results.{bind_err, chosen, either, err_is, ok_or_err, map_failed}
use Rattle.wp_fields.proofs.FieldLemmas.{AreBytes, byte_takes, byte_fails, number_takes, number_fails, number_again, number_short, fields_of}
use Rattle.wp_fields.specs.declared.format.Format.{Format}
use Rattle.wp_fields.specs.Format.{number_width, number_end}
use Rattle.wp_encoding.specs.declared.error.EncodingError.{EncodingError}
use Rattle.wp_encoding.specs.declared.error.EncodingError.TheVariants as encoding_error
use Rattle.wp_encoding.specs.Faults.{IsBatchFault}
use Rattle.wp_encoding.specs.Reading as encoding
use Rattle.wp_encoding.proofs.WordLemmas.{word_again, word_fails, word_refused}
use Rattle.wp_encoding.proofs.ChangeLemmas.{batch_fails, batch_refused, no_memory_in_word, no_memory_in_batch}
use Rattle.wp_entry.specs.declared.error.RecordError.{RecordError}
use Rattle.wp_entry.specs.declared.error.RecordError.TheVariants.{Memory, Short, BadNumber, BadKind, BadWord, Extra}
use Rattle.wp_entry.specs.Errors.{record_error, record_fault}
use Rattle.wp_entry.specs.Faults.{HasNumberField, HasDue, IsEarlierFault, IsEntriesFault, write_batch, prepare_name, prepare_batch, commit_number, no_number_for_close, undo_number, undo_batch, no_count, count_out, group_number, IsCountOut, IsFaultInGroup, IsNoKind, IsFaultAfterKind, HasMore, IsRecordFault}
use Rattle.wp_entry.specs.Record.{last_number, named_bytes, entries_bytes, record_bytes, NamesEarlier}
use Rattle.wp_entry.specs.Reading.{name_in_record, batch_in_record, after_number, write_at, prepare_at, earlier_at, commit_at, rollback_at, commits_after, count_at, group_at, entries_at, record_at}
use Rattle.wp_entry.proofs.Grammar.{Entries, name_takes, earlier_takes, commits_behind, count_in_range, count_takes, commits_counted, entries_take, number_takes_due, this_kind, another, kind_by_test, at_end, entries_to_end, kind_and_entries, last_fits}
use Rattle.wp_entry.proofs.Spelled.{record_after_number, earlier_again, count_again, entries_again}

-- ---- what is refused has the fault

-- It is the error of a record, of a field with this fault.
record IsNamed (P : EncodingError → Type 0) (fault : RecordError) : Type 0 where
  field_fault : EncodingError
  named : record_error field_fault ≡ fault
  wrong : P field_fault

batch_at_fails : (bytes : List ℕ) (fault : RecordError) → AreBytes bytes → batch_in_record bytes ≡ Err fault → IsNamed (IsBatchFault bytes) fault
batch_at_fails bytes fault h e =
    let d = map_failed record_error (encoding.batch_field_at bytes) fault e in
    record { field_fault = d.0; named = d.2; wrong = batch_fails bytes d.0 h d.1 }

earlier_fails : (format : Format) (due : ℕ) (bytes : List ℕ) (fault : RecordError) → AreBytes bytes → earlier_at format due bytes ≡ Err fault → IsNamed (IsEarlierFault format due bytes) fault
unfolding earlier_at
earlier_fails format due bytes fault h e =
    elim (bind_err (number_at Short (number_width format) bytes) (λ number. cond (eqb number.0 0 || leb due number.0) (Err BadWord) (Ok number)) fault e) [
      | inl short ↦
          let number = number_fails Short (number_width format) bytes fault short in
          record { field_fault = encoding_error.Short; named = number.1; wrong = number.0 }
      | inr there ↦
          let p = there.0.0 in
          let number = number_takes Short (number_width format) (number_end format) (fields_of format) bytes there.0 h there.1 in
          let has : HasNumberField format bytes p there.0.1 = record { parts = number.0.parts; small = number.1 } in
          elim (chosen (eqb p 0 || leb due p) (Err BadWord) (Ok there.0) (Err fault) there.2) [
            | inl out ↦
                let range : (p ≡ 0) ⊎ (due ≤ p) = elim (either (eqb p 0)) [
                  | inl none ↦ inl (eqb-true p 0 none)
                  | inr some ↦ inr (leb-true due p (rw some at out.0))
                ] in
                record { field_fault = encoding_error.Word; named = err_is {A = ℕ × List ℕ} BadWord fault out.1; wrong = (p, (there.0.1, has, range)) }
            | inr within ↦ absurd (ok_or_err there.0 fault within.1)
          ]
    ]

write_fails : (format : Format) (due kind : ℕ) (bytes : List ℕ) (fault : RecordError) → AreBytes bytes → kind ≡ 1 → write_at bytes ≡ Err fault → IsNamed (IsEntriesFault format due kind bytes) fault
unfolding write_at
write_fails format due kind bytes fault h is e =
    elim (bind_err (batch_in_record bytes) (λ batch. Ok (Write batch.0 ∷ [], batch.1)) fault e) [
      | inl wrong ↦
          let batch = batch_at_fails bytes fault h wrong in
          record { field_fault = batch.field_fault; named = batch.named; wrong = write_batch is batch.wrong }
      | inr read ↦ absurd (ok_or_err (Write read.0.0 ∷ [], read.0.1) fault read.2)
    ]

abbrev prepared_with : List ℕ × List ℕ → Entries
prepared_with name = batch_in_record name.1 >>= λ batch. Ok (Prepare name.0 batch.0 ∷ [], batch.1)

prepare_fails : (format : Format) (due kind : ℕ) (bytes : List ℕ) (fault : RecordError) → AreBytes bytes → kind ≡ 2 → prepare_at bytes ≡ Err fault → IsNamed (IsEntriesFault format due kind bytes) fault
unfolding prepare_at
prepare_fails format due kind bytes fault h is e =
    elim (bind_err (name_in_record bytes) prepared_with fault e) [
      | inl wrong ↦
          let d = map_failed record_error (encoding.word_field_at MOST_NAME_BYTES bytes) fault wrong in
          record { field_fault = d.0; named = d.2; wrong = prepare_name is (word_fails MOST_NAME_BYTES bytes d.0 d.1) }
      | inr there ↦
          let name = name_takes bytes there.0 h there.1 in
          elim (bind_err (batch_in_record there.0.1) (λ batch. Ok (Prepare there.0.0 batch.0 ∷ [], batch.1)) fault there.2) [
            | inl wrong ↦
                let batch = batch_at_fails there.0.1 fault name.0.rest_bytes wrong in
                record { field_fault = batch.field_fault; named = batch.named; wrong = prepare_batch there.0.0 there.0.1 is (record { parts = name.0.parts; in_range = name.1 }) batch.wrong }
            | inr read ↦ absurd (ok_or_err (Prepare there.0.0 read.0.0 ∷ [], read.0.1) fault read.2)
          ]
    ]

commit_fails : (format : Format) (due kind : ℕ) (bytes : List ℕ) (fault : RecordError) → AreBytes bytes → kind ≡ 3 → commit_at format due bytes ≡ Err fault → IsNamed (IsEntriesFault format due kind bytes) fault
unfolding commit_at
commit_fails format due kind bytes fault h is e =
    elim (bind_err (earlier_at format due bytes) (λ p. Ok (Commit p.0 ∷ [], p.1)) fault e) [
      | inl wrong ↦
          let p = earlier_fails format due bytes fault h wrong in
          record { field_fault = p.field_fault; named = p.named; wrong = commit_number is p.wrong }
      | inr read ↦ absurd (ok_or_err (Commit read.0.0 ∷ [], read.0.1) fault read.2)
    ]

abbrev undone_with : ℕ × List ℕ → Entries
undone_with p = batch_in_record p.1 >>= λ batch. Ok (Undo p.0 batch.0 ∷ Close p.0 ∷ [], batch.1)

rollback_fails : (format : Format) (due kind : ℕ) (bytes : List ℕ) (fault : RecordError) → AreBytes bytes → kind ≡ 4 → rollback_at format due bytes ≡ Err fault → IsNamed (IsEntriesFault format due kind bytes) fault
unfolding rollback_at
rollback_fails format due kind bytes fault h is e =
    elim (chosen (leb (last_number format) due) (Err BadWord) (earlier_at format due bytes >>= undone_with) (Err fault) e) [
      | inl last ↦
          let none : last_number format ≤ due = leb-true (last_number format) due last.0 in
          record { field_fault = encoding_error.Word; named = err_is {A = List Entry × List ℕ} BadWord fault last.1; wrong = no_number_for_close is none refl }
      | inr first ↦
          let room : due < last_number format = leb-false (last_number format) due first.0 in
          elim (bind_err (earlier_at format due bytes) undone_with fault first.1) [
            | inl wrong ↦
                let p = earlier_fails format due bytes fault h wrong in
                record { field_fault = p.field_fault; named = p.named; wrong = undo_number is room p.wrong }
            | inr there ↦
                let p = earlier_takes format due bytes there.0 h there.1 in
                let below = p.1.below in
                elim (bind_err (batch_in_record there.0.1) (λ batch. Ok (Undo there.0.0 batch.0 ∷ Close there.0.0 ∷ [], batch.1)) fault there.2) [
                  | inl wrong ↦
                      let batch = batch_at_fails there.0.1 fault p.0.rest_bytes wrong in
                      record { field_fault = batch.field_fault; named = batch.named; wrong = undo_batch there.0.0 there.0.1 is room (record { parts = p.0.parts; small = omega (arith, last_fits format) }) p.1 batch.wrong }
                  | inr read ↦ absurd (ok_or_err (Undo there.0.0 read.0.0 ∷ Close there.0.0 ∷ [], read.0.1) fault read.2)
                ]
          ]
    ]

commits_fail : (count : ℕ) (format : Format) (due : ℕ) (commits : List Entry) (bytes : List ℕ) (fault : RecordError) → AreBytes bytes → commits_after count format due commits bytes ≡ Err fault → IsNamed (IsFaultInGroup format due count bytes) fault
unfolding commits_after
commits_fail zero format due commits bytes fault h e = absurd (ok_or_err (commits, bytes) fault e)
commits_fail (suc count) format due commits bytes fault h e =
    elim (bind_err (earlier_at format due bytes) (commits_behind count format due commits) fault e) [
      | inl wrong ↦
          let p = earlier_fails format due bytes fault h wrong in
          record { field_fault = p.field_fault; named = p.named; wrong = record { commits = []; rest = bytes; parts = refl; are = tt; earlier = tt; fewer = omega arith; wrong = p.wrong } }
      | inr there ↦
          let p = earlier_takes format due bytes there.0 h there.1 in
          let after = commits_fail count format due (commits ++ Commit there.0.0 ∷ []) there.0.1 fault p.0.rest_bytes there.2 in
          let rest = after.wrong in
          let number = to_be_bytes (number_width format) there.0.0 in
          record {
            field_fault = after.field_fault;
            named = after.named;
            wrong = record {
              commits = Commit there.0.0 ∷ rest.commits;
              rest = rest.rest;
              parts = p.0.parts ∙ ap (λ (t : List ℕ). number ++ t) rest.parts ∙ sym (append_assoc number (flat_map (named_bytes format) rest.commits) rest.rest);
              are = rest.are;
              earlier = (p.1, rest.earlier);
              fewer = omega (arith, rest.fewer);
              wrong = rest.wrong;
            };
          }
    ]

-- the tests of a count that is out of range, as they went
out_by_test : (format : Format) (due count : ℕ) → (ltb count 2 || ltb 16 count || ltb (last_number format + 1) (due + count)) ≡ true → IsCountOut format due count
out_by_test format due count out =
    elim (either (ltb count 2)) [
      | inl few ↦ inl (ltb-true count 2 few)
      | inr some ↦ elim (either (ltb 16 count)) [
        | inl many ↦ inr (inl (ltb-true 16 count many))
        | inr not_many ↦ inr (inr (ltb-true (last_number format + 1) (due + count) (rw (some, not_many) at out)))
      ]
    ]

group_fails : (format : Format) (due kind : ℕ) (bytes : List ℕ) (fault : RecordError) → AreBytes bytes → kind ≡ 6 → group_at format due bytes ≡ Err fault → IsNamed (IsEntriesFault format due kind bytes) fault
unfolding group_at count_at
group_fails format due kind bytes fault h is e =
    elim (bind_err (count_at format due bytes) (commits_counted format due) fault e) [
      | inl wrong ↦ elim (bind_err (byte_at Short bytes) (count_in_range format due) fault wrong) [
        | inl short ↦
            let ended = byte_fails Short bytes fault short in
            record { field_fault = encoding_error.Short; named = ended.1; wrong = no_count is ended.0 refl }
        | inr there ↦
            let count = byte_takes Short bytes there.0 h there.1 in
            elim (chosen (ltb there.0.0 2 || ltb 16 there.0.0 || ltb (last_number format + 1) (due + there.0.0)) (Err BadWord) (Ok there.0) (Err fault) there.2) [
              | inl out ↦ record { field_fault = encoding_error.Word; named = err_is {A = ℕ × List ℕ} BadWord fault out.1; wrong = count_out there.0.0 there.0.1 is count.parts (out_by_test format due there.0.0 out.0) refl }
              | inr within ↦ absurd (ok_or_err there.0 fault within.1)
            ]
      ]
      | inr there ↦
          let count = count_takes format due bytes there.0 h there.1 in
          let after = commits_fail there.0.0 format due [] there.0.1 fault count.0.rest_bytes there.2 in
          record { field_fault = after.field_fault; named = after.named; wrong = group_number there.0.0 there.0.1 is count.0.parts count.1 after.wrong }
    ]

-- no kind, as the tests of it went
unknown_kind : (kind : ℕ) → eqb kind 1 ≡ false → eqb kind 2 ≡ false → eqb kind 3 ≡ false → eqb kind 4 ≡ false → eqb kind 6 ≡ false → IsNoKind kind
unknown_kind zero a b c d e = inl refl
unknown_kind (suc zero) a b c d e = absurd cc
unknown_kind (suc (suc zero)) a b c d e = absurd cc
unknown_kind (suc (suc (suc zero))) a b c d e = absurd cc
unknown_kind (suc (suc (suc (suc zero)))) a b c d e = absurd cc
unknown_kind (suc (suc (suc (suc (suc zero))))) a b c d e = inr (inl refl)
unknown_kind (suc (suc (suc (suc (suc (suc zero)))))) a b c d e = absurd cc
unknown_kind (suc (suc (suc (suc (suc (suc (suc n))))))) a b c d e = inr (inr (omega arith))

-- The kind is none, or the fault is that of a field after it.
data FailsAtKind (format : Format) (due kind : ℕ) (bytes : List ℕ) (fault : RecordError) : Type 0 where
  no_kind : IsNoKind kind → fault ≡ BadKind kind → FailsAtKind format due kind bytes fault
  in_fields : IsNamed (IsEntriesFault format due kind bytes) fault → FailsAtKind format due kind bytes fault

entries_fail : (format : Format) (due kind : ℕ) (bytes : List ℕ) (fault : RecordError) → AreBytes bytes → entries_at format due kind bytes ≡ Err fault → FailsAtKind format due kind bytes fault
unfolding entries_at
entries_fail format due kind bytes fault h e =
    let group : Entries = cond (eqb kind 6) (group_at format due bytes) (Err (BadKind kind)) in
    let rollback : Entries = cond (eqb kind 4) (rollback_at format due bytes) group in
    let commit : Entries = cond (eqb kind 3) (commit_at format due bytes) rollback in
    let prepare : Entries = cond (eqb kind 2) (prepare_at bytes) commit in
    elim (kind_by_test (eqb kind 1) kind 1 (write_at bytes) prepare (Err fault) refl e) [
      | this_kind is read ↦ in_fields (write_fails format due kind bytes fault h is read)
      | another not_write e ↦ elim (kind_by_test (eqb kind 2) kind 2 (prepare_at bytes) commit (Err fault) refl e) [
        | this_kind is read ↦ in_fields (prepare_fails format due kind bytes fault h is read)
        | another not_prepare e ↦ elim (kind_by_test (eqb kind 3) kind 3 (commit_at format due bytes) rollback (Err fault) refl e) [
          | this_kind is read ↦ in_fields (commit_fails format due kind bytes fault h is read)
          | another not_commit e ↦ elim (kind_by_test (eqb kind 4) kind 4 (rollback_at format due bytes) group (Err fault) refl e) [
            | this_kind is read ↦ in_fields (rollback_fails format due kind bytes fault h is read)
            | another not_rollback e ↦ elim (kind_by_test (eqb kind 6) kind 6 (group_at format due bytes) (Err (BadKind kind)) (Err fault) refl e) [
              | this_kind is read ↦ in_fields (group_fails format due kind bytes fault h is read)
              | another not_group e ↦ no_kind (unknown_kind kind not_write not_prepare not_commit not_rollback not_group) (sym (err_is {A = List Entry × List ℕ} (BadKind kind) fault e))
            ]
          ]
        ]
      ]
    ]

no_memory_in_entries : (format : Format) (due kind : ℕ) (bytes : List ℕ) → IsEntriesFault format due kind bytes encoding_error.Memory → ⊥
no_memory_in_entries format due kind bytes (write_batch is wrong) = no_memory_in_batch bytes wrong
no_memory_in_entries format due kind bytes (prepare_name is wrong) = no_memory_in_word MOST_NAME_BYTES bytes wrong
no_memory_in_entries format due kind bytes (prepare_batch name rest is has wrong) = no_memory_in_batch rest wrong
no_memory_in_entries format due kind bytes (commit_number is wrong) = wrong
no_memory_in_entries format due kind bytes (no_number_for_close is none same) = cc
no_memory_in_entries format due kind bytes (undo_number is room wrong) = wrong
no_memory_in_entries format due kind bytes (undo_batch p rest is room has earlier wrong) = no_memory_in_batch rest wrong
no_memory_in_entries format due kind bytes (no_count is ended same) = cc
no_memory_in_entries format due kind bytes (count_out count rest is there out same) = cc
no_memory_in_entries format due kind bytes (group_number count rest is there counted wrong) = wrong.wrong

after_kind_fault : (format : Format) (due kind : ℕ) (bytes rest : List ℕ) (fault : EncodingError) → HasDue format bytes due (kind ∷ rest) → IsEntriesFault format due kind rest fault → IsRecordFault format due bytes (record_error fault)
after_kind_fault format due kind bytes rest encoding_error.Memory front wrong = absurd (no_memory_in_entries format due kind rest wrong)
after_kind_fault format due kind bytes rest encoding_error.Short front wrong = inr (inr (record { kind = kind; rest = rest; front = front; wrong = wrong }))
after_kind_fault format due kind bytes rest (encoding_error.Kind byte) front wrong = inr (record { kind = kind; rest = rest; front = front; wrong = wrong })
after_kind_fault format due kind bytes rest encoding_error.Word front wrong = inr (record { kind = kind; rest = rest; front = front; wrong = wrong })

renamed : (format : Format) (due : ℕ) (bytes : List ℕ) (one other : RecordError) → one ≡ other → IsRecordFault format due bytes one → IsRecordFault format due bytes other
renamed format due bytes one other same is = subst (λ (fault : RecordError). IsRecordFault format due bytes fault) same is

due_number_fails : (format : Format) (due : ℕ) (bytes : List ℕ) (fault : RecordError) → AreBytes bytes → after_number format due bytes ≡ Err fault → IsRecordFault format due bytes fault
unfolding after_number
due_number_fails format due bytes fault h e =
    let in_range : List ℕ → Result (List ℕ) RecordError = λ after. cond (ltb (last_number format) due) (Err BadWord) (Ok after) in
    elim (bind_err (number_at Short (number_width format) bytes) (λ number. cond (eqb number.0 due) (in_range number.1) (Err (BadNumber number.0 due))) fault e) [
      | inl short ↦
          let number = number_fails Short (number_width format) bytes fault short in
          renamed format due bytes Short fault number.1 (inl number.0)
      | inr there ↦
          let found = there.0.0 in
          let number = number_takes Short (number_width format) (number_end format) (fields_of format) bytes there.0 h there.1 in
          let has : HasNumberField format bytes found there.0.1 = record { parts = number.0.parts; small = number.1 } in
          elim (chosen (eqb found due) (in_range there.0.1) (Err (BadNumber found due)) (Err fault) there.2) [
            | inl is ↦
                let here : HasNumberField format bytes due there.0.1 = subst (λ (n : ℕ). HasNumberField format bytes n there.0.1) (eqb-true found due is.0) has in
                elim (chosen (ltb (last_number format) due) (Err BadWord) (Ok there.0.1) (Err fault) is.1) [
                  | inl past ↦ renamed format due bytes BadWord fault (err_is {A = List ℕ} BadWord fault past.1) (inl (ltb-true _ _ past.0, (there.0.1, here)))
                  | inr within ↦ absurd (ok_or_err there.0.1 fault within.1)
                ]
            | inr another_number ↦ renamed format due bytes (BadNumber found due) fault (err_is {A = List ℕ} (BadNumber found due) fault another_number.1) (refl, eqb-false found due another_number.0, (there.0.1, has))
          ]
    ]

more_than_none : (bytes : List ℕ) → eqb (length bytes) 0 ≡ false → 1 ≤ length bytes
more_than_none [] e = absurd cc
more_than_none (byte ∷ bytes) e = omega arith

pub record_fails : (format : Format) (due : ℕ) (bytes : List ℕ) (fault : RecordError) → AreBytes bytes → record_at format due bytes ≡ Err fault → IsRecordFault format due bytes fault
unfolding record_at
record_fails format due bytes fault h e =
    elim (bind_err (after_number format due bytes) (kind_and_entries format due) fault e) [
      | inl wrong ↦ due_number_fails format due bytes fault h wrong
      | inr after ↦
          let number = number_takes_due format due bytes after.0 h after.1 in
          elim (bind_err (byte_at Short after.0) (entries_to_end format due) fault after.2) [
            | inl short ↦
                let kind = byte_fails Short after.0 fault short in
                let ended : HasDue format bytes due [] = rw (← kind.0) (record { parts = number.0.parts; small = number.1 }) in
                renamed format due bytes Short fault kind.1 (inr (inl ended))
            | inr there ↦
                let kind = byte_takes Short after.0 there.0 number.0.rest_bytes there.1 in
                let front : HasDue format bytes due (there.0.0 ∷ there.0.1) = record { parts = number.0.parts ∙ ap (λ (t : List ℕ). to_be_bytes (number_width format) due ++ t) kind.parts; small = number.1 } in
                elim (bind_err (entries_at format due there.0.0 there.0.1) at_end fault there.2) [
                  | inl wrong ↦ elim (entries_fail format due there.0.0 there.0.1 fault kind.rest_bytes wrong) [
                    | no_kind out is ↦ renamed format due bytes (BadKind there.0.0) fault (sym is) (inl (there.0.1, front, out))
                    | in_fields field ↦ renamed format due bytes (record_error field.field_fault) fault field.named (after_kind_fault format due there.0.0 bytes there.0.1 field.field_fault front field.wrong)
                  ]
                  | inr found ↦
                      let is = entries_take format due there.0.0 there.0.1 found.0 number.1 kind.rest_bytes found.1 in
                      let more = length found.0.1 in
                      elim (chosen (eqb more 0) (Ok found.0.0) (Err (Extra more)) (Err fault) found.2) [
                        | inl whole ↦ absurd (ok_or_err found.0.0 fault whole.1)
                        | inr extra ↦
                            let parts : bytes ≡ record_bytes format due found.0.0 ++ found.0.1 = front.parts ∙ ap (λ (t : List ℕ). to_be_bytes (number_width format) due ++ t) is.parts.parts ∙ sym (append_assoc (to_be_bytes (number_width format) due) (entries_bytes format found.0.0) found.0.1) in
                            renamed format due bytes (Extra more) fault (err_is {A = List Entry} (Extra more) fault extra.1) (record { entries = found.0.0; rest = found.0.1; is = is.is; parts = parts; some = more_than_none found.0.1 extra.0; counted = refl })
                      ]
                ]
          ]
    ]

-- ---- what has a fault is refused for it

earlier_refused : (format : Format) (due : ℕ) (bytes : List ℕ) (fault : EncodingError) → IsEarlierFault format due bytes fault → earlier_at format due bytes ≡ Err (record_error fault)
unfolding earlier_at
earlier_refused format due bytes encoding_error.Short short = rw (number_short Short (number_width format) bytes short) refl
earlier_refused format due bytes encoding_error.Word (p, (rest, has, out)) =
    let test : (eqb p 0 || leb due p) ≡ true = elim out [
      | inl none ↦ or_left (eqb p 0) (leb due p) (eq-eqb p 0 none)
      | inr later ↦ or_right (eqb p 0) (leb due p) (le-leb due p later)
    ] in
    ap (earlier_at format due) has.parts ∙ rw (number_again Short (number_width format) (number_end format) (fields_of format) p rest has.small, test) refl
earlier_refused format due bytes encoding_error.Memory wrong = absurd wrong
earlier_refused format due bytes (encoding_error.Kind byte) wrong = absurd wrong

count_refused : (format : Format) (due count : ℕ) (rest : List ℕ) → IsCountOut format due count → count_at format due (count ∷ rest) ≡ Err BadWord
unfolding count_at
count_refused format due count rest out =
    let few = ltb count 2 in
    let many = ltb 16 count in
    let past = ltb (last_number format + 1) (due + count) in
    let test : (few || many || past) ≡ true = elim out [
      | inl under ↦ or_left (few || many) past (or_left few many (lt-ltb count 2 under))
      | inr (inl over) ↦ or_left (few || many) past (or_right few many (lt-ltb 16 count over))
      | inr (inr last) ↦ or_right (few || many) past (lt-ltb (last_number format + 1) (due + count) last)
    ] in
    rw test refl

commits_refused : (more : List Entry) (count : ℕ) (format : Format) (due : ℕ) (commits : List Entry) (rest : List ℕ) (fault : EncodingError) → due ≤ last_number format → AreCommits more → AllByRecursion (NamesEarlier due) more → length more < count → IsEarlierFault format due rest fault → commits_after count format due commits (flat_map (named_bytes format) more ++ rest) ≡ Err (record_error fault)
unfolding commits_after
commits_refused more zero format due commits rest fault small are earlier fewer wrong = absurd (omega (arith, fewer))
commits_refused [] (suc count) format due commits rest fault small are earlier fewer wrong = rw (earlier_refused format due rest fault wrong) refl
commits_refused (Commit p ∷ more) (suc count) format due commits rest fault small are earlier fewer wrong =
    let number = to_be_bytes (number_width format) p in
    let regrouped : (number ++ flat_map (named_bytes format) more) ++ rest ≡ number ++ (flat_map (named_bytes format) more ++ rest) = append_assoc number (flat_map (named_bytes format) more) rest in
    let others = commits_refused more count format due (commits ++ Commit p ∷ []) rest fault small are earlier.1 (omega (arith, fewer)) wrong in
    ap (commits_after (suc count) format due commits) regrouped ∙ rw (earlier_again format due p (flat_map (named_bytes format) more ++ rest) small earlier.0) others
commits_refused others (suc count) format due commits rest fault small are earlier fewer wrong = absurd are

entries_refused : (format : Format) (due kind : ℕ) (bytes : List ℕ) (fault : EncodingError) → IsEntriesFault format due kind bytes fault → entries_at format due kind bytes ≡ Err (record_error fault)
unfolding entries_at write_at prepare_at commit_at rollback_at group_at count_at
entries_refused format due kind bytes fault (write_batch is wrong) = rw (is, batch_refused bytes fault wrong) refl
entries_refused format due kind bytes fault (prepare_name is wrong) = rw (is, word_refused MOST_NAME_BYTES bytes fault wrong) refl
entries_refused format due kind bytes fault (prepare_batch name rest is has wrong) =
    ap (entries_at format due kind) has.parts ∙ rw (is, word_again MOST_NAME_BYTES name rest has.in_range, batch_refused rest fault wrong) refl
entries_refused format due kind bytes fault (commit_number is wrong) = rw (is, earlier_refused format due bytes fault wrong) refl
entries_refused format due kind bytes fault (no_number_for_close is none same) =
    let last : leb (last_number format) due ≡ true = le-leb _ _ none in
    rw (is, same, last) refl
entries_refused format due kind bytes fault (undo_number is room wrong) =
    let few : leb (last_number format) due ≡ false = lt-leb _ _ room in
    rw (is, few, earlier_refused format due bytes fault wrong) refl
entries_refused format due kind bytes fault (undo_batch p rest is room has earlier wrong) =
    let few : leb (last_number format) due ≡ false = lt-leb _ _ room in
    ap (entries_at format due kind) has.parts ∙ rw (is, few, earlier_again format due p rest (omega (arith, room)) earlier, batch_refused rest fault wrong) refl
entries_refused format due kind bytes fault (no_count is ended same) = rw (is, ended, same) refl
entries_refused format due kind bytes fault (count_out count rest is there out same) = rw (is, there, same, count_refused format due count rest out) refl
entries_refused format due kind bytes fault (group_number count rest is there counted wrong) =
    let refused : commits_after count format due [] rest ≡ Err (record_error fault) = ap (commits_after count format due []) wrong.parts ∙ commits_refused wrong.commits count format due [] wrong.rest fault (omega (arith, counted.from, counted.numbered)) wrong.are wrong.earlier wrong.fewer wrong.wrong in
    rw (is, there, count_again format due count rest counted, refused) refl

kind_refused : (format : Format) (due kind : ℕ) (bytes : List ℕ) → IsNoKind kind → entries_at format due kind bytes ≡ Err (BadKind kind)
unfolding entries_at
kind_refused format due kind bytes (inl none) = rw none refl
kind_refused format due kind bytes (inr (inl five)) = rw five refl
kind_refused format due kind bytes (inr (inr large)) =
    rw (ne_eqb kind 1 (λ is. omega (arith, large, is)), ne_eqb kind 2 (λ is. omega (arith, large, is)), ne_eqb kind 3 (λ is. omega (arith, large, is)), ne_eqb kind 4 (λ is. omega (arith, large, is)), ne_eqb kind 6 (λ is. omega (arith, large, is))) refl

after_kind_refused : (format : Format) (due : ℕ) (bytes : List ℕ) (fault : EncodingError) → IsFaultAfterKind format due bytes fault → record_at format due bytes ≡ Err (record_error fault)
after_kind_refused format due bytes fault is =
    let read : kind_and_entries format due (is.kind ∷ is.rest) ≡ Err (record_error fault) = rw (entries_refused format due is.kind is.rest fault is.wrong) refl in
    ap (record_at format due) is.front.parts ∙ record_after_number format due (is.kind ∷ is.rest) is.front.small ∙ read

number_refused : (format : Format) (due : ℕ) (bytes : List ℕ) (fault : RecordError) → after_number format due bytes ≡ Err fault → record_at format due bytes ≡ Err fault
unfolding record_at
number_refused format due bytes fault e = rw e refl

short_number : (format : Format) (due : ℕ) (bytes : List ℕ) → length bytes < byte_len (number_width format) → after_number format due bytes ≡ Err Short
unfolding after_number
short_number format due bytes short = rw (number_short Short (number_width format) bytes short) refl

other_number : (format : Format) (due found : ℕ) (bytes rest : List ℕ) → (found ≡ due → ⊥) → HasNumberField format bytes found rest → after_number format due bytes ≡ Err (BadNumber found due)
unfolding after_number
other_number format due found bytes rest differ has =
    ap (after_number format due) has.parts ∙ rw (number_again Short (number_width format) (number_end format) (fields_of format) found rest has.small, ne_eqb found due differ) refl

past_number : (format : Format) (due : ℕ) (bytes rest : List ℕ) → last_number format < due → HasNumberField format bytes due rest → after_number format due bytes ≡ Err BadWord
unfolding after_number
past_number format due bytes rest past has =
    ap (after_number format due) has.parts ∙ rw (number_again Short (number_width format) (number_end format) (fields_of format) due rest has.small, eq-eqb due due refl, lt-ltb _ _ past) refl

more_refused : (format : Format) (due : ℕ) (bytes : List ℕ) (extra : ℕ) → HasMore format due bytes extra → record_at format due bytes ≡ Err (Extra extra)
more_refused format due bytes extra has =
    let found = entries_again format due has.entries has.rest has.is in
    let some = has.some in
    let more : eqb (length has.rest) 0 ≡ false = ne_eqb (length has.rest) 0 (λ none. omega arith) in
    let read : kind_and_entries format due (found.kind ∷ (found.fields ++ has.rest)) ≡ Err (Extra extra) = rw (found.read, more, has.counted) refl in
    let parts : bytes ≡ to_be_bytes (number_width format) due ++ (found.kind ∷ (found.fields ++ has.rest)) = has.parts ∙ append_assoc (to_be_bytes (number_width format) due) (entries_bytes format has.entries) has.rest ∙ ap (λ (t : List ℕ). to_be_bytes (number_width format) due ++ (t ++ has.rest)) found.spelled in
    ap (record_at format due) parts ∙ record_after_number format due (found.kind ∷ (found.fields ++ has.rest)) found.small ∙ read

pub record_refused : (format : Format) (due : ℕ) (bytes : List ℕ) (fault : RecordError) → IsRecordFault format due bytes fault → record_at format due bytes ≡ Err fault
record_refused format due bytes Memory is = absurd is
record_refused format due bytes Short (inl short) = number_refused format due bytes Short (short_number format due bytes short)
record_refused format due bytes Short (inr (inl has)) = ap (record_at format due) has.parts ∙ record_after_number format due [] has.small
record_refused format due bytes Short (inr (inr is)) = after_kind_refused format due bytes encoding_error.Short is
record_refused format due bytes (BadNumber found wanted) (same, differ, (rest, has)) =
    rw same (number_refused format due bytes (BadNumber found due) (other_number format due found bytes rest differ has))
record_refused format due bytes (BadKind byte) (inl (rest, has, out)) =
    let read : kind_and_entries format due (byte ∷ rest) ≡ Err (BadKind byte) = rw (kind_refused format due byte rest out) refl in
    ap (record_at format due) has.parts ∙ record_after_number format due (byte ∷ rest) has.small ∙ read
record_refused format due bytes (BadKind byte) (inr is) = after_kind_refused format due bytes (encoding_error.Kind byte) is
record_refused format due bytes BadWord (inl (past, (rest, has))) = number_refused format due bytes BadWord (past_number format due bytes rest past has)
record_refused format due bytes BadWord (inr is) = after_kind_refused format due bytes encoding_error.Word is
record_refused format due bytes (Extra extra) is = more_refused format due bytes extra is

-- ---- what a call gave

pub refused_has_fault : (format : Format) (first : ℕ) (bytes : List ℕ) (result : Result (Vec Entry) RecordError) → AreBytes bytes → Gives record_fault (λ entries. entries.items) result (record_at format first bytes) → IfErr result (λ error. IfSome (record_fault error) (λ fault. IsRecordFault format first bytes fault))
refused_has_fault format first bytes (Ok entries) h read = tt
refused_has_fault format first bytes (Err Memory) h read = tt
refused_has_fault format first bytes (Err Short) h read = record_fails format first bytes Short h read
refused_has_fault format first bytes (Err (BadNumber found due)) h read = record_fails format first bytes (BadNumber found due) h read
refused_has_fault format first bytes (Err (BadKind byte)) h read = record_fails format first bytes (BadKind byte) h read
refused_has_fault format first bytes (Err BadWord) h read = record_fails format first bytes BadWord h read
refused_has_fault format first bytes (Err (Extra extra)) h read = record_fails format first bytes (Extra extra) h read
