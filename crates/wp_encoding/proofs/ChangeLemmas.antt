-- Changes and batches: what is read is spelled so, what is spelled so is read, and what is refused has the fault.
use Rattle.std.proofs.Common.{◌≡◌, ℕ, zero, suc, ◌<◌, true, false, cond, ltb, leb, List, [], ◌∷◌, ◌++◌, length, Result, Ok, Err, refl, sym, ap, subst, ◌∙◌, append_assoc, arith, inl, inr}
use Rattle.std.specs.List.{flat_map, list_all}
use Rattle.std.proofs.lemmas.Bool.{ltb-true, ltb-false, lt-ltb, le-ltb, leb-true, le-leb, and_parts, and_from}
use Rattle.std.proofs.lemmas.List.{append-nil}
use Rattle.wp_model.specs.declared.word.TheConstants.{MOST_KEY_BYTES}
use Rattle.wp_model.specs.declared.batch.TheConstants.{MOST_KEYS}
use Rattle.wp_model.specs.declared.change.Change.{Change}
use Rattle.wp_model.specs.declared.change.Change.TheVariants.{Put, Del}
use Rattle.wp_model.specs.Word.{is_key, is_value}
use Rattle.wp_model.specs.Batch.{key_of, are_ascending, is_batch}
use Rattle.wp_fields.specs.Reading.{◌>>=◌, byte_at}
use Rattle.wp_fields.proofs.Results.{bind_ok, bind_err, chosen, ok_is, err_is, ok_or_err}
use Rattle.wp_fields.proofs.FieldLemmas.{AreBytes, Begins, Begins-then, Begins-byte, refusal_missed, test_met, byte_takes}
use Rattle.wp_encoding.specs.declared.error.EncodingError.{EncodingError}
use Rattle.wp_encoding.specs.declared.error.EncodingError.TheVariants.{Memory, Short, Kind, Word}
use Rattle.wp_encoding.specs.Encoding.{word_bytes, value_bytes, change_bytes, batch_bytes, is_change, are_changes}
use Rattle.wp_encoding.specs.Reading.{word_field_at, value_field_at, is_above_last, next_key_at, next_change_at, changes_after, batch_field_at}
use Rattle.wp_encoding.specs.Faults.{IsWordFault, IsValueFault, IsKeyFault, IsChangeFault, IsBatchFault}
use Rattle.wp_encoding.proofs.Order.{ascending_push, above_from_ascending}
use Rattle.wp_encoding.proofs.WordLemmas.{word_takes, word_again, word_fails, word_refused, value_takes, value_again, value_fails, value_refused}

-- ---- keys

abbrev in_order : List Change → List ℕ × List ℕ → Result (List ℕ × List ℕ) EncodingError
in_order batch key = cond (is_above_last batch key.0) (Ok key) (Err Word)

key_takes : (batch : List Change) (bytes : List ℕ) (x : List ℕ × List ℕ) → AreBytes bytes → next_key_at batch bytes ≡ Ok x → Begins bytes (word_bytes x.0) x.1 × (is_key x.0 ≡ true) × (is_above_last batch x.0 ≡ true)
unfolding next_key_at
key_takes batch bytes x h e =
    let s = bind_ok (word_field_at MOST_KEY_BYTES bytes) (in_order batch) x e in
    let word = word_takes MOST_KEY_BYTES bytes s.0 h s.1 in
    let above = test_met (is_above_last batch s.0.0) Word (Ok s.0) x s.2 in
    let found : Begins bytes (word_bytes s.0.0) s.0.1 × (is_key s.0.0 ≡ true) × (is_above_last batch s.0.0 ≡ true) = (word.0, word.1, above.0) in
    rw (← ok_is {E = EncodingError} s.0 x above.1) found

key_again : (batch : List Change) (key rest : List ℕ) → is_key key ≡ true → is_above_last batch key ≡ true → next_key_at batch (word_bytes key ++ rest) ≡ Ok (key, rest)
unfolding next_key_at
key_again batch key rest is above = rw (word_again MOST_KEY_BYTES key rest is, above) refl

key_fails : (batch : List Change) (bytes : List ℕ) (fault : EncodingError) → AreBytes bytes → next_key_at batch bytes ≡ Err fault → IsKeyFault batch bytes fault
unfolding next_key_at
key_fails batch bytes fault h e =
    elim (bind_err (word_field_at MOST_KEY_BYTES bytes) (in_order batch) fault e) [
      | inl wrong ↦ inl (word_fails MOST_KEY_BYTES bytes fault wrong)
      | inr there ↦
          let word = word_takes MOST_KEY_BYTES bytes there.0 h there.1 in
          elim (chosen (is_above_last batch there.0.0) (Ok there.0) (Err Word) (Err fault) there.2) [
            | inl above ↦ absurd (ok_or_err there.0 fault above.1)
            | inr below ↦ inr (there.0.0, there.0.1, record { parts = word.0.parts; in_range = word.1 }, below.0, sym (err_is {A = List ℕ × List ℕ} Word fault below.1))
          ]
    ]

key_refused : (batch : List Change) (bytes : List ℕ) (fault : EncodingError) → IsKeyFault batch bytes fault → next_key_at batch bytes ≡ Err fault
unfolding next_key_at
key_refused batch bytes fault (inl wrong) = rw (word_refused MOST_KEY_BYTES bytes fault wrong) refl
key_refused batch bytes fault (inr (key, rest, has, below, is)) =
    ap (next_key_at batch) has.parts ∙ rw (word_again MOST_KEY_BYTES key rest has.in_range, below, is) refl

-- ---- changes

abbrev put_with : List ℕ × List ℕ → Result (Change × List ℕ) EncodingError
put_with key = value_field_at key.1 >>= λ value. Ok (Put key.0 value.0, value.1)

abbrev deleted : List ℕ × List ℕ → Result (Change × List ℕ) EncodingError
deleted key = Ok (Del key.0, key.1)

change_takes : (batch : List Change) (bytes : List ℕ) (x : Change × List ℕ) → AreBytes bytes → next_change_at batch bytes ≡ Ok x → Begins bytes (change_bytes x.0) x.1 × (is_change x.0 ≡ true) × (is_above_last batch (key_of x.0) ≡ true)
unfolding next_change_at
change_takes batch [] x h e = absurd cc
change_takes batch (zero ∷ bytes) x h e =
    let s = bind_ok (next_key_at batch bytes) deleted x e in
    let flag = Begins-byte 0 bytes h in
    let key = key_takes batch bytes s.0 flag.rest_bytes s.1 in
    let found : Begins (0 ∷ bytes) (0 ∷ word_bytes s.0.0) s.0.1 × (is_change (Del s.0.0) ≡ true) × (is_above_last batch s.0.0 ≡ true) = (Begins-then (0 ∷ bytes) (0 ∷ []) bytes (word_bytes s.0.0) s.0.1 flag key.0, key.1, key.2) in
    rw (← ok_is {E = EncodingError} (Del s.0.0, s.0.1) x s.2) found
change_takes batch (suc zero ∷ bytes) x h e =
    let s = bind_ok (next_key_at batch bytes) put_with x e in
    let t = bind_ok (value_field_at s.0.1) (λ value. Ok (Put s.0.0 value.0, value.1)) x s.2 in
    let flag = Begins-byte 1 bytes h in
    let key = key_takes batch bytes s.0 flag.rest_bytes s.1 in
    let value = value_takes s.0.1 t.0 key.0.rest_bytes t.1 in
    let both = Begins-then bytes (word_bytes s.0.0) s.0.1 (value_bytes t.0.0) t.0.1 key.0 value.0 in
    let found : Begins (1 ∷ bytes) (1 ∷ (word_bytes s.0.0 ++ value_bytes t.0.0)) t.0.1 × (is_change (Put s.0.0 t.0.0) ≡ true) × (is_above_last batch s.0.0 ≡ true) = (Begins-then (1 ∷ bytes) (1 ∷ []) bytes (word_bytes s.0.0 ++ value_bytes t.0.0) t.0.1 flag both, and_from _ _ key.1 value.1, key.2) in
    rw (← ok_is {E = EncodingError} (Put s.0.0 t.0.0, t.0.1) x t.2) found
change_takes batch (suc (suc n) ∷ bytes) x h e = absurd cc

change_again : (batch : List Change) (change : Change) (rest : List ℕ) → is_change change ≡ true → is_above_last batch (key_of change) ≡ true → next_change_at batch (change_bytes change ++ rest) ≡ Ok (change, rest)
unfolding next_change_at
change_again batch (Del key) rest is above = rw (key_again batch key rest is above) refl
change_again batch (Put key value) rest is above =
    let parts = and_parts (is_key key) (is_value value) is in
    let regrouped : (word_bytes key ++ value_bytes value) ++ rest ≡ word_bytes key ++ (value_bytes value ++ rest) = append_assoc (word_bytes key) (value_bytes value) rest in
    ap (λ (t : List ℕ). next_change_at batch (1 ∷ t)) regrouped ∙ rw (key_again batch key (value_bytes value ++ rest) parts.0 above, value_again value rest parts.1) refl

change_fails : (batch : List Change) (bytes : List ℕ) (fault : EncodingError) → AreBytes bytes → next_change_at batch bytes ≡ Err fault → IsChangeFault batch bytes fault
unfolding next_change_at
change_fails batch [] fault h e = sym (err_is {A = Change × List ℕ} Short fault e)
change_fails batch (zero ∷ bytes) fault h e =
    elim (bind_err (next_key_at batch bytes) deleted fault e) [
      | inl wrong ↦ key_fails batch bytes fault (Begins-byte 0 bytes h).rest_bytes wrong
      | inr there ↦ absurd (ok_or_err (Del there.0.0, there.0.1) fault there.2)
    ]
change_fails batch (suc zero ∷ bytes) fault h e =
    let rest_bytes = (Begins-byte 1 bytes h).rest_bytes in
    elim (bind_err (next_key_at batch bytes) put_with fault e) [
      | inl wrong ↦ inl (key_fails batch bytes fault rest_bytes wrong)
      | inr there ↦
          let key = key_takes batch bytes there.0 rest_bytes there.1 in
          elim (bind_err (value_field_at there.0.1) (λ value. Ok (Put there.0.0 value.0, value.1)) fault there.2) [
            | inl wrong ↦ inr (there.0.0, there.0.1, record { parts = key.0.parts; in_range = key.1 }, key.2, value_fails there.0.1 fault key.0.rest_bytes wrong)
            | inr read ↦ absurd (ok_or_err (Put there.0.0 read.0.0, read.0.1) fault read.2)
          ]
    ]
change_fails batch (suc (suc n) ∷ bytes) fault h e = sym (err_is {A = Change × List ℕ} (Kind (suc (suc n))) fault e)

change_refused : (batch : List Change) (bytes : List ℕ) (fault : EncodingError) → IsChangeFault batch bytes fault → next_change_at batch bytes ≡ Err fault
unfolding next_change_at
change_refused batch [] fault is = rw is refl
change_refused batch (zero ∷ bytes) fault wrong = rw (key_refused batch bytes fault wrong) refl
change_refused batch (suc zero ∷ bytes) fault (inl wrong) = rw (key_refused batch bytes fault wrong) refl
change_refused batch (suc zero ∷ bytes) fault (inr (key, rest, has, above, wrong)) =
    ap (λ (t : List ℕ). next_change_at batch (1 ∷ t)) has.parts ∙ rw (key_again batch key rest has.in_range above, value_refused rest fault wrong) refl
change_refused batch (suc (suc n) ∷ bytes) fault is = rw is refl

-- ---- several changes

-- so many changes more were read, in range, whose keys go on ascending
record TakesChanges (count : ℕ) (batch : List Change) (bytes : List ℕ) (x : List Change × List ℕ) : Type 0 where
  more : List Change
  appended : x.0 ≡ batch ++ more
  counted : length more ≡ count
  parts : Begins bytes (flat_map change_bytes more) x.1
  in_range : list_all is_change more ≡ true
  ascending : are_ascending batch ≡ true → are_ascending x.0 ≡ true

-- the rest of the changes, after one more
abbrev others_after : ℕ → List Change → Change × List ℕ → Result (List Change × List ℕ) EncodingError
others_after count batch change = changes_after count (batch ++ change.0 ∷ []) change.1

changes_take : (count : ℕ) (batch : List Change) (bytes : List ℕ) (x : List Change × List ℕ) → AreBytes bytes → changes_after count batch bytes ≡ Ok x → TakesChanges count batch bytes x
unfolding changes_after
changes_take zero batch bytes x h e =
    let all : TakesChanges 0 batch bytes (batch, bytes) = record { more = []; appended = sym (append-nil batch); counted = refl; parts = record { parts = refl; rest_bytes = h }; in_range = refl; ascending = λ order. order } in
    rw (← ok_is {E = EncodingError} (batch, bytes) x e) all
changes_take (suc count) batch bytes x h e =
    let s = bind_ok (next_change_at batch bytes) (others_after count batch) x e in
    let change = change_takes batch bytes s.0 h s.1 in
    let rest = changes_take count (batch ++ s.0.0 ∷ []) s.0.1 x change.0.rest_bytes s.2 in
    record {
      more = s.0.0 ∷ rest.more;
      appended = rest.appended ∙ append_assoc batch (s.0.0 ∷ []) rest.more;
      counted = ap suc rest.counted;
      parts = Begins-then bytes (change_bytes s.0.0) s.0.1 (flat_map change_bytes rest.more) x.1 change.0 rest.parts;
      in_range = and_from _ _ change.1 rest.in_range;
      ascending = λ order. rest.ascending (ascending_push batch s.0.0 order change.2);
    }

changes_again : (more batch : List Change) (rest : List ℕ) → are_ascending (batch ++ more) ≡ true → list_all is_change more ≡ true → changes_after (length more) batch (flat_map change_bytes more ++ rest) ≡ Ok (batch ++ more, rest)
unfolding changes_after
changes_again [] batch rest order range = ap (λ (all : List Change). Ok (all, rest)) (sym (append-nil batch))
changes_again (change ∷ more) batch rest order range =
    let parts = and_parts (is_change change) (list_all is_change more) range in
    let above = above_from_ascending batch change more order in
    let regrouped : (change_bytes change ++ flat_map change_bytes more) ++ rest ≡ change_bytes change ++ (flat_map change_bytes more ++ rest) = append_assoc (change_bytes change) (flat_map change_bytes more) rest in
    let all : (batch ++ change ∷ []) ++ more ≡ batch ++ change ∷ more = append_assoc batch (change ∷ []) more in
    let others = changes_again more (batch ++ change ∷ []) rest (ap are_ascending all ∙ order) parts.1 in
    ap (changes_after (suc (length more)) batch) regrouped ∙ rw (change_again batch change (flat_map change_bytes more ++ rest) parts.0 above) (others ∙ ap (λ (changes : List Change). Ok (changes, rest)) all)

-- fewer changes more are right, and the one after them has the fault
record FailsAfter (count : ℕ) (batch : List Change) (bytes : List ℕ) (fault : EncodingError) : Type 0 where
  more : List Change
  rest : List ℕ
  parts : bytes ≡ flat_map change_bytes more ++ rest
  in_range : list_all is_change more ≡ true
  ascending : are_ascending batch ≡ true → are_ascending (batch ++ more) ≡ true
  fewer : length more < count
  wrong : IsChangeFault (batch ++ more) rest fault

changes_fail : (count : ℕ) (batch : List Change) (bytes : List ℕ) (fault : EncodingError) → AreBytes bytes → changes_after count batch bytes ≡ Err fault → FailsAfter count batch bytes fault
unfolding changes_after
changes_fail zero batch bytes fault h e = absurd (ok_or_err (batch, bytes) fault e)
changes_fail (suc count) batch bytes fault h e =
    elim (bind_err (next_change_at batch bytes) (others_after count batch) fault e) [
      | inl wrong ↦
          let same : batch ≡ batch ++ [] = sym (append-nil batch) in
          record {
            more = [];
            rest = bytes;
            parts = refl;
            in_range = refl;
            ascending = λ order. subst (λ (all : List Change). are_ascending all ≡ true) same order;
            fewer = omega arith;
            wrong = subst (λ (all : List Change). IsChangeFault all bytes fault) same (change_fails batch bytes fault h wrong);
          }
      | inr there ↦
          let change = change_takes batch bytes there.0 h there.1 in
          let after = changes_fail count (batch ++ there.0.0 ∷ []) there.0.1 fault change.0.rest_bytes there.2 in
          let all : (batch ++ there.0.0 ∷ []) ++ after.more ≡ batch ++ there.0.0 ∷ after.more = append_assoc batch (there.0.0 ∷ []) after.more in
          record {
            more = there.0.0 ∷ after.more;
            rest = after.rest;
            parts = change.0.parts ∙ ap (λ (t : List ℕ). change_bytes there.0.0 ++ t) after.parts ∙ sym (append_assoc (change_bytes there.0.0) (flat_map change_bytes after.more) after.rest);
            in_range = and_from _ _ change.1 after.in_range;
            ascending = λ order. subst (λ (changes : List Change). are_ascending changes ≡ true) all (after.ascending (ascending_push batch there.0.0 order change.2));
            fewer = omega (arith, after.fewer);
            wrong = subst (λ (changes : List Change). IsChangeFault changes after.rest fault) all after.wrong;
          }
    ]

changes_refused : (more batch : List Change) (count : ℕ) (rest : List ℕ) (fault : EncodingError) → are_ascending (batch ++ more) ≡ true → list_all is_change more ≡ true → length more < count → IsChangeFault (batch ++ more) rest fault → changes_after count batch (flat_map change_bytes more ++ rest) ≡ Err fault
unfolding changes_after
changes_refused more batch zero rest fault order range fewer wrong = absurd (omega (arith, fewer))
changes_refused [] batch (suc count) rest fault order range fewer wrong =
    rw (change_refused batch rest fault (subst (λ (all : List Change). IsChangeFault all rest fault) (append-nil batch) wrong)) refl
changes_refused (change ∷ more) batch (suc count) rest fault order range fewer wrong =
    let parts = and_parts (is_change change) (list_all is_change more) range in
    let above = above_from_ascending batch change more order in
    let regrouped : (change_bytes change ++ flat_map change_bytes more) ++ rest ≡ change_bytes change ++ (flat_map change_bytes more ++ rest) = append_assoc (change_bytes change) (flat_map change_bytes more) rest in
    let all : (batch ++ change ∷ []) ++ more ≡ batch ++ change ∷ more = append_assoc batch (change ∷ []) more in
    let others = changes_refused more (batch ++ change ∷ []) count rest fault (ap are_ascending all ∙ order) parts.1 (omega (arith, fewer)) (subst (λ (changes : List Change). IsChangeFault changes rest fault) (sym all) wrong) in
    ap (changes_after (suc count) batch) regrouped ∙ rw (change_again batch change (flat_map change_bytes more ++ rest) parts.0 above) others

-- ---- batches

-- a count, and so many changes after it, are their batch
batch_spelled : (bytes rest : List ℕ) (count : ℕ) (batch more : List Change) → batch ≡ more → length more ≡ count → Begins bytes (count ∷ flat_map change_bytes more) rest → Begins bytes (batch_bytes batch) rest
batch_spelled bytes rest count batch more same counted begins = rw (same, counted) begins

abbrev counted_changes : ℕ × List ℕ → Result (List Change × List ℕ) EncodingError
counted_changes count = cond (ltb MOST_KEYS count.0) (Err Word) (changes_after count.0 [] count.1)

pub batch_takes : (bytes : List ℕ) (x : List Change × List ℕ) → AreBytes bytes → batch_field_at bytes ≡ Ok x → Begins bytes (batch_bytes x.0) x.1 × (are_changes x.0 ≡ true)
unfolding batch_field_at
batch_takes bytes x h e =
    let s = bind_ok (byte_at Short bytes) counted_changes x e in
    let count = byte_takes Short bytes s.0 h s.1 in
    let t = refusal_missed (ltb MOST_KEYS s.0.0) Word (changes_after s.0.0 [] s.0.1) x s.2 in
    let changes = changes_take s.0.0 [] s.0.1 x count.rest_bytes t.1 in
    let long : length x.0 ≡ s.0.0 = ap length changes.appended ∙ changes.counted in
    let few : leb (length x.0) MOST_KEYS ≡ true = le-leb _ _ (omega (arith, ltb-false _ _ t.0)) in
    let whole = batch_spelled bytes x.1 s.0.0 x.0 changes.more changes.appended changes.counted (Begins-then bytes (s.0.0 ∷ []) s.0.1 (flat_map change_bytes changes.more) x.1 count changes.parts) in
    (whole, and_from _ _ (and_from _ _ few (changes.ascending refl)) (rw changes.appended changes.in_range))

pub batch_again : (batch : List Change) (rest : List ℕ) → are_changes batch ≡ true → batch_field_at (batch_bytes batch ++ rest) ≡ Ok (batch, rest)
unfolding batch_field_at
batch_again batch rest is =
    let parts = and_parts (is_batch batch) (list_all is_change batch) is in
    let shape = and_parts (leb (length batch) MOST_KEYS) (are_ascending batch) parts.0 in
    let few : ltb MOST_KEYS (length batch) ≡ false = le-ltb _ _ (leb-true _ _ shape.0) in
    rw few (changes_again batch [] rest shape.1 parts.1)

pub batch_fails : (bytes : List ℕ) (fault : EncodingError) → AreBytes bytes → batch_field_at bytes ≡ Err fault → IsBatchFault bytes fault
unfolding batch_field_at
batch_fails [] fault h e = sym (err_is {A = List Change × List ℕ} Short fault e)
batch_fails (count ∷ bytes) fault h e =
    elim (chosen (ltb MOST_KEYS count) (Err Word) (changes_after count [] bytes) (Err fault) e) [
      | inl many ↦ inl (ltb-true _ _ many.0, sym (err_is {A = List Change × List ℕ} Word fault many.1))
      | inr few ↦
          let within = ltb-false MOST_KEYS count few.0 in
          let after = changes_fail count [] bytes fault (Begins-byte count bytes h).rest_bytes few.1 in
          let small : leb (length after.more) MOST_KEYS ≡ true = le-leb _ _ (omega (arith, within, after.fewer)) in
          inr (within, record { changes = after.more; rest = after.rest; parts = after.parts; right = and_from _ _ (and_from _ _ small (after.ascending refl)) after.in_range; fewer = after.fewer; wrong = after.wrong })
    ]

pub batch_refused : (bytes : List ℕ) (fault : EncodingError) → IsBatchFault bytes fault → batch_field_at bytes ≡ Err fault
unfolding batch_field_at
batch_refused [] fault is = rw is refl
batch_refused (count ∷ bytes) fault (inl (many, is)) = rw (lt-ltb _ _ many, is) refl
batch_refused (count ∷ bytes) fault (inr (few, next)) =
    let parts = and_parts (is_batch next.changes) (list_all is_change next.changes) next.right in
    let shape = and_parts (leb (length next.changes) MOST_KEYS) (are_ascending next.changes) parts.0 in
    rw (le-ltb _ _ few) (ap (changes_after count []) next.parts ∙ changes_refused next.changes [] count next.rest fault shape.1 parts.1 next.fewer next.wrong)

-- ---- want of memory is no fault of the bytes

pub no_memory_in_word : (most : ℕ) (bytes : List ℕ) → IsWordFault most bytes Memory → ⊥
no_memory_in_word most [] is = cc
no_memory_in_word most (len ∷ bytes) is = is

no_memory_in_value : (bytes : List ℕ) → IsValueFault bytes Memory → ⊥
no_memory_in_value bytes (inl short) = cc
no_memory_in_value bytes (inr is) = is.wrong

no_memory_in_key : (batch : List Change) (bytes : List ℕ) → IsKeyFault batch bytes Memory → ⊥
no_memory_in_key batch bytes (inl wrong) = no_memory_in_word MOST_KEY_BYTES bytes wrong
no_memory_in_key batch bytes (inr (key, rest, has, below, is)) = cc

no_memory_in_change : (batch : List Change) (bytes : List ℕ) → IsChangeFault batch bytes Memory → ⊥
no_memory_in_change batch [] is = cc
no_memory_in_change batch (zero ∷ bytes) wrong = no_memory_in_key batch bytes wrong
no_memory_in_change batch (suc zero ∷ bytes) (inl wrong) = no_memory_in_key batch bytes wrong
no_memory_in_change batch (suc zero ∷ bytes) (inr (key, rest, has, above, wrong)) = no_memory_in_value rest wrong
no_memory_in_change batch (suc (suc n) ∷ bytes) is = cc

pub no_memory_in_batch : (bytes : List ℕ) → IsBatchFault bytes Memory → ⊥
no_memory_in_batch [] is = cc
no_memory_in_batch (count ∷ bytes) (inl (many, is)) = cc
no_memory_in_batch (count ∷ bytes) (inr (few, next)) = no_memory_in_change next.changes next.rest next.wrong
