-- What is read as a record is one, and the bytes are its spelling.
use Rattle.std.proofs.Common.{◌≡◌, ℕ, zero, suc, ◌+◌, ◌<◌, ◌≤◌, Bool, true, false, cond, leb, ltb, eqb, ◌||◌, List, [], ◌∷◌, ◌++◌, length, Result, Ok, Err, refl, sym, ap, subst, ◌∙◌, append_assoc, arith}
use Rattle.std.specs.Prelude.{IfOk}
use Rattle.std.specs.Global.{Vec}
use Rattle.std.specs.Int.{to_be_bytes}
use Rattle.std.specs.List.{flat_map, list_all, AllByRecursion}
use Rattle.std.proofs.lemmas.Bool.{eqb-true, eqb-false, leb-false, ltb-false, and_from, or_parts}
use Rattle.std.proofs.lemmas.List.{append-nil, nil_from_length}
use Rattle.wp_model.specs.declared.word.TheConstants.{MOST_NAME_BYTES}
use Rattle.wp_model.specs.declared.change.Change.{Change}
use Rattle.wp_model.specs.declared.entry.Entry.{Entry}
use Rattle.wp_model.specs.declared.entry.Entry.TheVariants.{Write, Prepare, Commit, Undo, Close}
use Rattle.wp_model.specs.Record.{AreCommits}
use Rattle.wp_model.specs.Word.{is_name}
use Rattle.wp_fields.specs.Reading.{◌>>=◌, byte_at, number_at, Gives}
use Rattle.wp_fields.proofs.Results.{bind_ok, ok_is, map_ok}
use Rattle.wp_fields.proofs.FieldLemmas.{AreBytes, Begins, Begins-then, refusal_missed, test_met, byte_takes, number_takes, fields_of}
use Rattle.wp_fields.specs.declared.format.Format.{Format}
use Rattle.wp_fields.specs.declared.format.Format.TheVariants.{One, Two}
use Rattle.wp_fields.specs.Format.{number_width, number_end}
use Rattle.wp_encoding.specs.Encoding.{word_bytes, batch_bytes, are_changes}
use Rattle.wp_encoding.specs.Reading as encoding
use Rattle.wp_encoding.proofs.WordLemmas.{word_takes}
use Rattle.wp_encoding.proofs.ChangeLemmas as encoded
use Rattle.wp_entry.specs.declared.error.RecordError.{RecordError}
use Rattle.wp_entry.specs.declared.error.RecordError.TheVariants.{Short, BadNumber, BadKind, BadWord, Extra}
use Rattle.wp_entry.specs.Errors.{record_error, record_fault}
use Rattle.wp_entry.specs.Record.{last_number, named_bytes, entries_bytes, record_bytes, is_entry, IsEarlier, NamesEarlier, FormRecord, IsRecord}
use Rattle.wp_entry.specs.Faults.{IsCount}
use Rattle.wp_entry.specs.Reading.{name_in_record, batch_in_record, after_number, write_at, prepare_at, earlier_at, commit_at, rollback_at, commits_after, count_at, group_at, entries_at, record_at}

-- ---- names and batches

pub name_takes : (bytes : List ℕ) (x : List ℕ × List ℕ) → AreBytes bytes → name_in_record bytes ≡ Ok x → Begins bytes (word_bytes x.0) x.1 × (is_name x.0 ≡ true)
name_takes bytes x h e = word_takes MOST_NAME_BYTES bytes x h (map_ok record_error (encoding.word_field_at MOST_NAME_BYTES bytes) x e)

pub batch_takes : (bytes : List ℕ) (x : List Change × List ℕ) → AreBytes bytes → batch_in_record bytes ≡ Ok x → Begins bytes (batch_bytes x.0) x.1 × (are_changes x.0 ≡ true)
batch_takes bytes x h e = encoded.batch_takes bytes x h (map_ok record_error (encoding.batch_field_at bytes) x e)

-- ---- numbers of earlier entries

pub last_fits : (format : Format) → last_number format < number_end format
last_fits One = omega arith
last_fits Two = omega arith

-- a record has a first entry, with a number of this version
pub first_numbered : (format : Format) (first : ℕ) (entries : List Entry) → FormRecord format first entries → first ≤ last_number format
first_numbered format first [] form = absurd form.one
first_numbered format first (entry ∷ others) form = let k = form.numbered in omega arith

from_nonzero : (n : ℕ) → (n ≡ 0 → ⊥) → 1 ≤ n
from_nonzero zero not_zero = absurd (not_zero refl)
from_nonzero (suc n) not_zero = omega arith

pub earlier_takes : (format : Format) (due : ℕ) (bytes : List ℕ) (x : ℕ × List ℕ) → AreBytes bytes → earlier_at format due bytes ≡ Ok x → Begins bytes (to_be_bytes (number_width format) x.0) x.1 × IsEarlier due x.0
unfolding earlier_at
earlier_takes format due bytes x h e =
    let s = bind_ok (number_at Short (number_width format) bytes) (λ number. cond (eqb number.0 0 || leb due number.0) (Err BadWord) (Ok number)) x e in
    let number = number_takes Short (number_width format) (number_end format) (fields_of format) bytes s.0 h s.1 in
    let t = refusal_missed (eqb s.0.0 0 || leb due s.0.0) BadWord (Ok s.0) x s.2 in
    let range = or_parts _ _ t.0 in
    let found : Begins bytes (to_be_bytes (number_width format) s.0.0) s.0.1 × IsEarlier due s.0.0 = (number.0, record { from = from_nonzero s.0.0 (eqb-false _ _ range.0); below = leb-false _ _ range.1 }) in
    rw (← ok_is {E = RecordError} s.0 x t.1) found

-- ---- records

abbrev pub Entries : Type 0
Entries = Result (List Entry × List ℕ) RecordError

-- The bytes begin with these entries, which are a record.
pub record BeginsRecord (format : Format) (first : ℕ) (bytes : List ℕ) (x : List Entry × List ℕ) : Type 0 where
  pub parts : Begins bytes (entries_bytes format x.0) x.1
  pub is : IsRecord format first x.0

kind_begins : (kind : ℕ) (bytes : List ℕ) → AreBytes bytes → Begins (kind ∷ bytes) (kind ∷ []) bytes
kind_begins kind bytes h = record { parts = refl; rest_bytes = h }

write_takes : (format : Format) (first : ℕ) (bytes : List ℕ) (x : List Entry × List ℕ) → first ≤ last_number format → AreBytes bytes → write_at bytes ≡ Ok x → BeginsRecord format first (1 ∷ bytes) x
unfolding write_at
write_takes format first bytes x small h e =
    let s = bind_ok (batch_in_record bytes) (λ batch. Ok (Write batch.0 ∷ [], batch.1)) x e in
    let batch = batch_takes bytes s.0 h s.1 in
    let found : BeginsRecord format first (1 ∷ bytes) (Write s.0.0 ∷ [], s.0.1) = record { parts = Begins-then (1 ∷ bytes) (1 ∷ []) bytes (batch_bytes s.0.0) s.0.1 (kind_begins 1 bytes h) batch.0; is = record { form = record { one = tt; earlier = (tt, tt); numbered = omega (arith, small) }; in_range = and_from _ _ batch.1 refl } } in
    rw (← ok_is {E = RecordError} (Write s.0.0 ∷ [], s.0.1) x s.2) found

prepare_takes : (format : Format) (first : ℕ) (bytes : List ℕ) (x : List Entry × List ℕ) → first ≤ last_number format → AreBytes bytes → prepare_at bytes ≡ Ok x → BeginsRecord format first (2 ∷ bytes) x
unfolding prepare_at
prepare_takes format first bytes x small h e =
    let s = bind_ok (name_in_record bytes) (λ name. batch_in_record name.1 >>= λ batch. Ok (Prepare name.0 batch.0 ∷ [], batch.1)) x e in
    let name = name_takes bytes s.0 h s.1 in
    let t = bind_ok (batch_in_record s.0.1) (λ batch. Ok (Prepare s.0.0 batch.0 ∷ [], batch.1)) x s.2 in
    let batch = batch_takes s.0.1 t.0 name.0.rest_bytes t.1 in
    let both = Begins-then bytes (word_bytes s.0.0) s.0.1 (batch_bytes t.0.0) t.0.1 name.0 batch.0 in
    let found : BeginsRecord format first (2 ∷ bytes) (Prepare s.0.0 t.0.0 ∷ [], t.0.1) = record { parts = Begins-then (2 ∷ bytes) (2 ∷ []) bytes (word_bytes s.0.0 ++ batch_bytes t.0.0) t.0.1 (kind_begins 2 bytes h) both; is = record { form = record { one = tt; earlier = (tt, tt); numbered = omega (arith, small) }; in_range = and_from _ _ (and_from _ _ name.1 batch.1) refl } } in
    rw (← ok_is {E = RecordError} (Prepare s.0.0 t.0.0 ∷ [], t.0.1) x t.2) found

commit_takes : (format : Format) (first : ℕ) (bytes : List ℕ) (x : List Entry × List ℕ) → first ≤ last_number format → AreBytes bytes → commit_at format first bytes ≡ Ok x → BeginsRecord format first (3 ∷ bytes) x
unfolding commit_at
commit_takes format first bytes x small h e =
    let s = bind_ok (earlier_at format first bytes) (λ p. Ok (Commit p.0 ∷ [], p.1)) x e in
    let p = earlier_takes format first bytes s.0 h s.1 in
    let found : BeginsRecord format first (3 ∷ bytes) (Commit s.0.0 ∷ [], s.0.1) = record { parts = Begins-then (3 ∷ bytes) (3 ∷ []) bytes (to_be_bytes (number_width format) s.0.0) s.0.1 (kind_begins 3 bytes h) p.0; is = record { form = record { one = (tt, omega arith); earlier = (p.1, tt); numbered = omega (arith, small) }; in_range = refl } } in
    rw (← ok_is {E = RecordError} (Commit s.0.0 ∷ [], s.0.1) x s.2) found

rollback_takes : (format : Format) (first : ℕ) (bytes : List ℕ) (x : List Entry × List ℕ) → AreBytes bytes → rollback_at format first bytes ≡ Ok x → BeginsRecord format first (4 ∷ bytes) x
unfolding rollback_at
rollback_takes format first bytes x h e =
    let r = refusal_missed (leb (last_number format) first) BadWord (earlier_at format first bytes >>= λ p. batch_in_record p.1 >>= λ batch. Ok (Undo p.0 batch.0 ∷ Close p.0 ∷ [], batch.1)) x e in
    let s = bind_ok (earlier_at format first bytes) (λ p. batch_in_record p.1 >>= λ batch. Ok (Undo p.0 batch.0 ∷ Close p.0 ∷ [], batch.1)) x r.1 in
    let p = earlier_takes format first bytes s.0 h s.1 in
    let t = bind_ok (batch_in_record s.0.1) (λ batch. Ok (Undo s.0.0 batch.0 ∷ Close s.0.0 ∷ [], batch.1)) x s.2 in
    let batch = batch_takes s.0.1 t.0 p.0.rest_bytes t.1 in
    let both = Begins-then bytes (to_be_bytes (number_width format) s.0.0) s.0.1 (batch_bytes t.0.0) t.0.1 p.0 batch.0 in
    let small : first < last_number format = leb-false _ _ r.0 in
    let found : BeginsRecord format first (4 ∷ bytes) (Undo s.0.0 t.0.0 ∷ Close s.0.0 ∷ [], t.0.1) = record { parts = Begins-then (4 ∷ bytes) (4 ∷ []) bytes (to_be_bytes (number_width format) s.0.0 ++ batch_bytes t.0.0) t.0.1 (kind_begins 4 bytes h) both; is = record { form = record { one = refl; earlier = (p.1, (p.1, tt)); numbered = omega (arith, small) }; in_range = and_from _ _ batch.1 refl } } in
    rw (← ok_is {E = RecordError} (Undo s.0.0 t.0.0 ∷ Close s.0.0 ∷ [], t.0.1) x t.2) found

-- so many Commits more were read
pub record TakesCommits (format : Format) (due count : ℕ) (commits : List Entry) (bytes : List ℕ) (x : List Entry × List ℕ) : Type 0 where
  pub more : List Entry
  pub appended : x.0 ≡ commits ++ more
  pub counted : length more ≡ count
  pub parts : Begins bytes (flat_map (named_bytes format) more) x.1
  pub are : AreCommits more
  pub earlier : AllByRecursion (NamesEarlier due) more

abbrev pub commits_behind : ℕ → Format → ℕ → List Entry → ℕ × List ℕ → Entries
commits_behind count format due commits p = commits_after count format due (commits ++ Commit p.0 ∷ []) p.1

pub commits_take : (count : ℕ) (format : Format) (due : ℕ) (commits : List Entry) (bytes : List ℕ) (x : List Entry × List ℕ) → AreBytes bytes → commits_after count format due commits bytes ≡ Ok x → TakesCommits format due count commits bytes x
unfolding commits_after
commits_take zero format due commits bytes x h e =
    let all : TakesCommits format due 0 commits bytes (commits, bytes) = record { more = []; appended = sym (append-nil commits); counted = refl; parts = record { parts = refl; rest_bytes = h }; are = tt; earlier = tt } in
    rw (← ok_is {E = RecordError} (commits, bytes) x e) all
commits_take (suc count) format due commits bytes x h e =
    let s = bind_ok (earlier_at format due bytes) (commits_behind count format due commits) x e in
    let p = earlier_takes format due bytes s.0 h s.1 in
    let rest = commits_take count format due (commits ++ Commit s.0.0 ∷ []) s.0.1 x p.0.rest_bytes s.2 in
    record {
      more = Commit s.0.0 ∷ rest.more;
      appended = rest.appended ∙ append_assoc commits (Commit s.0.0 ∷ []) rest.more;
      counted = ap suc rest.counted;
      parts = Begins-then bytes (to_be_bytes (number_width format) s.0.0) s.0.1 (flat_map (named_bytes format) rest.more) x.1 p.0 rest.parts;
      are = rest.are;
      earlier = (p.1, rest.earlier);
    }

pub commits_in_range : (commits : List Entry) → AreCommits commits → list_all is_entry commits ≡ true
commits_in_range [] are = refl
commits_in_range (Commit p ∷ others) are = commits_in_range others are
commits_in_range others are = absurd are

-- They are a record, with a count before the numbers that they name.
pub record IsGroup (format : Format) (first count : ℕ) (commits : List Entry) : Type 0 where
  pub spelled : entries_bytes format commits ≡ 6 ∷ count ∷ flat_map (named_bytes format) commits
  pub is : IsRecord format first commits

pub commits_group : (format : Format) (first count : ℕ) (commits : List Entry) → IsCount format first count → length commits ≡ count → AreCommits commits → AllByRecursion (NamesEarlier first) commits → IsGroup format first count commits
commits_group format first count (Commit p ∷ Commit q ∷ others) is counted are earlier =
    let most = is.most in
    let numbered = is.numbered in
    record {
      spelled = ap (λ (n : ℕ). 6 ∷ n ∷ flat_map (named_bytes format) (Commit p ∷ Commit q ∷ others)) counted;
      is = record { form = record { one = (are, omega (arith, most, counted)); earlier = earlier; numbered = omega (arith, numbered, counted) }; in_range = commits_in_range others are };
    }
commits_group format first count (Commit p ∷ []) is counted are earlier = let from = is.from in absurd (omega (arith, from, counted))
commits_group format first count [] is counted are earlier = let from = is.from in absurd (omega (arith, from, counted))
commits_group format first count others is counted are earlier = absurd are

abbrev pub count_in_range : Format → ℕ → ℕ × List ℕ → Result (ℕ × List ℕ) RecordError
count_in_range format due count = cond (ltb count.0 2 || ltb 16 count.0 || ltb (last_number format + 1) (due + count.0)) (Err BadWord) (Ok count)

pub count_takes : (format : Format) (due : ℕ) (bytes : List ℕ) (x : ℕ × List ℕ) → AreBytes bytes → count_at format due bytes ≡ Ok x → Begins bytes (x.0 ∷ []) x.1 × IsCount format due x.0
unfolding count_at
count_takes format due bytes x h e =
    let s = bind_ok (byte_at Short bytes) (count_in_range format due) x e in
    let count = byte_takes Short bytes s.0 h s.1 in
    let t = refusal_missed (ltb s.0.0 2 || ltb 16 s.0.0 || ltb (last_number format + 1) (due + s.0.0)) BadWord (Ok s.0) x s.2 in
    let range = or_parts _ _ t.0 in
    let several = or_parts _ _ range.0 in
    let found : Begins bytes (s.0.0 ∷ []) s.0.1 × IsCount format due s.0.0 = (count, record { from = ltb-false _ _ several.0; most = ltb-false _ _ several.1; numbered = ltb-false _ _ range.1 }) in
    rw (← ok_is {E = RecordError} s.0 x t.1) found

abbrev pub commits_counted : Format → ℕ → ℕ × List ℕ → Entries
commits_counted format due count = commits_after count.0 format due [] count.1

group_takes : (format : Format) (first : ℕ) (bytes : List ℕ) (x : List Entry × List ℕ) → AreBytes bytes → group_at format first bytes ≡ Ok x → BeginsRecord format first (6 ∷ bytes) x
unfolding group_at
group_takes format first bytes x h e =
    let s = bind_ok (count_at format first bytes) (commits_counted format first) x e in
    let count = count_takes format first bytes s.0 h s.1 in
    let several = commits_take s.0.0 format first [] s.0.1 x count.0.rest_bytes s.2 in
    let group = commits_group format first s.0.0 several.more count.1 several.counted several.are several.earlier in
    let both = Begins-then bytes (s.0.0 ∷ []) s.0.1 (flat_map (named_bytes format) several.more) x.1 count.0 several.parts in
    let whole = Begins-then (6 ∷ bytes) (6 ∷ []) bytes (s.0.0 ∷ flat_map (named_bytes format) several.more) x.1 (kind_begins 6 bytes h) both in
    let found : BeginsRecord format first (6 ∷ bytes) (several.more, x.1) = record { parts = subst (λ (text : List ℕ). Begins (6 ∷ bytes) text x.1) (sym group.spelled) whole; is = group.is } in
    subst (λ (entries : List Entry). BeginsRecord format first (6 ∷ bytes) (entries, x.1)) (sym several.appended) found

-- The kind is this one, and the answer is its own, or it is another.
pub data IsOfKind (kind this : ℕ) (read other answer : Entries) : Type 0 where
  this_kind : kind ≡ this → read ≡ answer → IsOfKind kind this read other answer
  another : eqb kind this ≡ false → other ≡ answer → IsOfKind kind this read other answer

pub kind_by_test : (b : Bool) (kind this : ℕ) (read other answer : Entries) → eqb kind this ≡ b → cond b read other ≡ answer → IsOfKind kind this read other answer
kind_by_test true kind this read other answer is e = this_kind (eqb-true kind this is) e
kind_by_test false kind this read other answer is e = another is e

pub entries_take : (format : Format) (first kind : ℕ) (bytes : List ℕ) (x : List Entry × List ℕ) → first ≤ last_number format → AreBytes bytes → entries_at format first kind bytes ≡ Ok x → BeginsRecord format first (kind ∷ bytes) x
unfolding entries_at
entries_take format first kind bytes x small h e =
    let group : Entries = cond (eqb kind 6) (group_at format first bytes) (Err (BadKind kind)) in
    let rollback : Entries = cond (eqb kind 4) (rollback_at format first bytes) group in
    let commit : Entries = cond (eqb kind 3) (commit_at format first bytes) rollback in
    let prepare : Entries = cond (eqb kind 2) (prepare_at bytes) commit in
    elim (kind_by_test (eqb kind 1) kind 1 (write_at bytes) prepare (Ok x) refl e) [
      | this_kind is read ↦ rw is (write_takes format first bytes x small h read)
      | another not_this e ↦ elim (kind_by_test (eqb kind 2) kind 2 (prepare_at bytes) commit (Ok x) refl e) [
        | this_kind is read ↦ rw is (prepare_takes format first bytes x small h read)
        | another not_this e ↦ elim (kind_by_test (eqb kind 3) kind 3 (commit_at format first bytes) rollback (Ok x) refl e) [
          | this_kind is read ↦ rw is (commit_takes format first bytes x small h read)
          | another not_this e ↦ elim (kind_by_test (eqb kind 4) kind 4 (rollback_at format first bytes) group (Ok x) refl e) [
            | this_kind is read ↦ rw is (rollback_takes format first bytes x h read)
            | another not_this e ↦
                let last = test_met (eqb kind 6) (BadKind kind) (group_at format first bytes) x e in
                rw (eqb-true kind 6 last.0) (group_takes format first bytes x h last.1)
          ]
        ]
      ]
    ]

pub number_takes_due : (format : Format) (first : ℕ) (bytes rest : List ℕ) → AreBytes bytes → after_number format first bytes ≡ Ok rest → Begins bytes (to_be_bytes (number_width format) first) rest × (first ≤ last_number format)
unfolding after_number
number_takes_due format first bytes rest h e =
    let in_range : List ℕ → Result (List ℕ) RecordError = λ after. cond (ltb (last_number format) first) (Err BadWord) (Ok after) in
    let n = bind_ok (number_at Short (number_width format) bytes) (λ number. cond (eqb number.0 first) (in_range number.1) (Err (BadNumber number.0 first))) rest e in
    let due = test_met (eqb n.0.0 first) (BadNumber n.0.0 first) (in_range n.0.1) rest n.2 in
    let last = refusal_missed (ltb (last_number format) first) BadWord (Ok n.0.1) rest due.1 in
    let number = number_takes Short (number_width format) (number_end format) (fields_of format) bytes n.0 h n.1 in
    let found = subst (λ (m : ℕ). Begins bytes (to_be_bytes (number_width format) m) n.0.1) (eqb-true n.0.0 first due.0) number.0 in
    (subst (λ (r : List ℕ). Begins bytes (to_be_bytes (number_width format) first) r) (ok_is {E = RecordError} n.0.1 rest last.1) found, ltb-false _ _ last.0)

-- the number, the kind with what the entries hold, and nothing after them
ends_whole : (bytes number after kind entries rest : List ℕ) → bytes ≡ number ++ after → after ≡ kind → kind ≡ entries ++ rest → length rest ≡ 0 → bytes ≡ number ++ entries
ends_whole bytes number after kind entries rest front same back none = rw (front, same, back, nil_from_length rest none, append-nil entries) refl

-- the steps of reading after the number
abbrev pub at_end : List Entry × List ℕ → Result (List Entry) RecordError
at_end found = cond (eqb (length found.1) 0) (Ok found.0) (Err (Extra (length found.1)))

abbrev pub entries_to_end : Format → ℕ → ℕ × List ℕ → Result (List Entry) RecordError
entries_to_end format first kind = entries_at format first kind.0 kind.1 >>= at_end

abbrev pub kind_and_entries : Format → ℕ → List ℕ → Result (List Entry) RecordError
kind_and_entries format first rest = byte_at Short rest >>= entries_to_end format first

-- what is read is a record, and the bytes are its spelling
pub record_takes : (format : Format) (first : ℕ) (bytes : List ℕ) (entries : List Entry) → AreBytes bytes → record_at format first bytes ≡ Ok entries → IsRecord format first entries × (bytes ≡ record_bytes format first entries)
unfolding record_at
record_takes format first bytes entries h e =
    let s = bind_ok (after_number format first bytes) (kind_and_entries format first) entries e in
    let k = bind_ok (byte_at Short s.0) (entries_to_end format first) entries s.2 in
    let f = bind_ok (entries_at format first k.0.0 k.0.1) at_end entries k.2 in
    let last = test_met (eqb (length f.0.1) 0) (Extra (length f.0.1)) (Ok f.0.0) entries f.2 in
    let number = number_takes_due format first bytes s.0 h s.1 in
    let kind = byte_takes Short s.0 k.0 number.0.rest_bytes k.1 in
    let found = entries_take format first k.0.0 k.0.1 f.0 number.1 kind.rest_bytes f.1 in
    let whole = ends_whole bytes (to_be_bytes (number_width format) first) s.0 (k.0.0 ∷ k.0.1) (entries_bytes format f.0.0) f.0.1 number.0.parts kind.parts found.parts.parts (eqb-true (length f.0.1) 0 last.0) in
    let both : IsRecord format first f.0.0 × (bytes ≡ record_bytes format first f.0.0) = (found.is, whole) in
    rw (← ok_is {E = RecordError} f.0.0 entries last.1) both

pub found_is_record : (format : Format) (first : ℕ) (bytes : List ℕ) (result : Result (Vec Entry) RecordError) → AreBytes bytes → Gives record_fault (λ entries. entries.items) result (record_at format first bytes) → IfOk result (λ entries. IsRecord format first entries.items × (bytes ≡ record_bytes format first entries.items))
found_is_record format first bytes (Ok entries) h read = record_takes format first bytes entries.items h read
found_is_record format first bytes (Err fault) h read = tt
