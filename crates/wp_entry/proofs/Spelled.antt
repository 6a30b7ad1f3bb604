-- What is spelled as a record is read as it.
use Rattle.std.proofs.Common.{◌≡◌, ℕ, ◌+◌, ◌≤◌, true, false, leb, ltb, eqb, ◌||◌, ◌&&◌, List, [], ◌∷◌, ◌++◌, length, Ok, refl, sym, ap, ◌∙◌, append_assoc, arith}
use Rattle.std.specs.Int.{to_be_bytes}
use Rattle.std.specs.List.{flat_map, AllByRecursion}
use Rattle.std.proofs.lemmas.Bool.{ne_eqb, eq-eqb, le-ltb, lt-leb, and_parts, or_from}
use Rattle.std.proofs.lemmas.List.{append-nil}
use Rattle.wp_model.specs.declared.word.TheConstants.{MOST_NAME_BYTES}
use Rattle.wp_model.specs.declared.entry.Entry.{Entry}
use Rattle.wp_model.specs.declared.entry.Entry.TheVariants.{Write, Prepare, Commit, Undo, Close}
use Rattle.wp_model.specs.Record.{AreCommits}
use Rattle.wp_model.specs.Word.{is_name}
use Rattle.wp_fields.proofs.FieldLemmas.{number_again, fields_of}
use Rattle.wp_fields.specs.declared.format.Format.{Format}
use Rattle.wp_fields.specs.Format.{number_width, number_end}
use Rattle.wp_encoding.specs.Encoding.{word_bytes, batch_bytes, are_changes}
use Rattle.wp_encoding.proofs.WordLemmas.{word_again}
use Rattle.wp_encoding.proofs.ChangeLemmas.{batch_again}
use Rattle.wp_entry.specs.declared.error.RecordError.TheVariants.{Short}
use Rattle.wp_entry.specs.Record.{last_number, named_bytes, entries_bytes, record_bytes, IsEarlier, NamesEarlier, IsRecord}
use Rattle.wp_entry.specs.Faults.{IsCount}
use Rattle.wp_entry.specs.Reading.{after_number, write_at, prepare_at, earlier_at, commit_at, rollback_at, commits_after, count_at, group_at, entries_at, record_at}
use Rattle.wp_entry.proofs.Grammar.{first_numbered, last_fits, kind_and_entries}

pub number_again_due : (format : Format) (due : ℕ) (rest : List ℕ) → due ≤ last_number format → after_number format due (to_be_bytes (number_width format) due ++ rest) ≡ Ok rest
unfolding after_number
number_again_due format due rest small =
    rw (number_again Short (number_width format) (number_end format) (fields_of format) due rest (omega (arith, small, last_fits format)), eq-eqb due due refl, le-ltb _ _ small) refl

-- reading goes on after the number
pub record_after_number : (format : Format) (due : ℕ) (rest : List ℕ) → due ≤ last_number format → record_at format due (to_be_bytes (number_width format) due ++ rest) ≡ kind_and_entries format due rest
unfolding record_at
record_after_number format due rest small = rw (number_again_due format due rest small) refl

pub earlier_again : (format : Format) (due p : ℕ) (rest : List ℕ) → due ≤ last_number format → IsEarlier due p → earlier_at format due (to_be_bytes (number_width format) p ++ rest) ≡ Ok (p, rest)
unfolding earlier_at
earlier_again format due p rest small is =
    let from = is.from in
    let below = is.below in
    let in_range : (eqb p 0 || leb due p) ≡ false = or_from _ _ (ne_eqb _ _ (λ zero. omega arith)) (lt-leb _ _ below) in
    rw (number_again Short (number_width format) (number_end format) (fields_of format) p rest (omega (arith, small, last_fits format)), in_range) refl

pub count_again : (format : Format) (due count : ℕ) (rest : List ℕ) → IsCount format due count → count_at format due (count ∷ rest) ≡ Ok (count, rest)
unfolding count_at
count_again format due count rest is =
    let in_range : (ltb count 2 || ltb 16 count || ltb (last_number format + 1) (due + count)) ≡ false = or_from _ _ (or_from _ _ (le-ltb _ _ is.from) (le-ltb _ _ is.most)) (le-ltb _ _ is.numbered) in
    rw in_range refl

pub commits_again : (more : List Entry) (format : Format) (due : ℕ) (commits : List Entry) (rest : List ℕ) → due ≤ last_number format → AreCommits more → AllByRecursion (NamesEarlier due) more → commits_after (length more) format due commits (flat_map (named_bytes format) more ++ rest) ≡ Ok (commits ++ more, rest)
unfolding commits_after
commits_again [] format due commits rest small are earlier = ap (λ (all : List Entry). Ok (all, rest)) (sym (append-nil commits))
commits_again (Commit p ∷ more) format due commits rest small are earlier =
    let number = to_be_bytes (number_width format) p in
    let regrouped : (number ++ flat_map (named_bytes format) more) ++ rest ≡ number ++ (flat_map (named_bytes format) more ++ rest) = append_assoc number (flat_map (named_bytes format) more) rest in
    let all : (commits ++ Commit p ∷ []) ++ more ≡ commits ++ Commit p ∷ more = append_assoc commits (Commit p ∷ []) more in
    let others = commits_again more format due (commits ++ Commit p ∷ []) rest small are earlier.1 in
    ap (commits_after (length (Commit p ∷ more)) format due commits) regrouped ∙ rw (earlier_again format due p (flat_map (named_bytes format) more ++ rest) small earlier.0) (others ∙ ap (λ (found : List Entry). Ok (found, rest)) all)
commits_again others format due commits rest small are earlier = absurd are

-- The entries' bytes begin with a kind, and they are read after it, whatever follows.
pub record EntriesRead (format : Format) (first : ℕ) (entries : List Entry) (rest : List ℕ) : Type 0 where
  pub kind : ℕ
  pub fields : List ℕ
  pub spelled : entries_bytes format entries ≡ kind ∷ fields
  pub read : entries_at format first kind (fields ++ rest) ≡ Ok (entries, rest)
  pub small : first ≤ last_number format

pub entries_again : (format : Format) (first : ℕ) (entries : List Entry) (rest : List ℕ) → IsRecord format first entries → EntriesRead format first entries rest
unfolding entries_at write_at prepare_at commit_at rollback_at group_at
entries_again format first (Write batch ∷ []) rest is =
    let entry = (and_parts (are_changes batch) true is.in_range).0 in
    record { kind = 1; fields = batch_bytes batch; spelled = refl; read = rw (batch_again batch rest entry) refl; small = first_numbered format first _ is.form }
entries_again format first (Prepare name batch ∷ []) rest is =
    let entry = and_parts (is_name name) (are_changes batch) (and_parts (is_name name && are_changes batch) true is.in_range).0 in
    let regrouped : (word_bytes name ++ batch_bytes batch) ++ rest ≡ word_bytes name ++ (batch_bytes batch ++ rest) = append_assoc (word_bytes name) (batch_bytes batch) rest in
    let read : prepare_at (word_bytes name ++ (batch_bytes batch ++ rest)) ≡ Ok (Prepare name batch ∷ [], rest) = rw (word_again MOST_NAME_BYTES name (batch_bytes batch ++ rest) entry.0, batch_again batch rest entry.1) refl in
    record { kind = 2; fields = word_bytes name ++ batch_bytes batch; spelled = refl; read = ap prepare_at regrouped ∙ read; small = first_numbered format first _ is.form }
entries_again format first (Commit p ∷ Commit q ∷ others) rest is =
    let small = first_numbered format first _ is.form in
    let one = is.form.one in
    let numbered = is.form.numbered in
    let commits : List Entry = Commit p ∷ Commit q ∷ others in
    let count : IsCount format first (length commits) = record { from = omega arith; most = omega (arith, one.1); numbered = numbered } in
    let numbers = flat_map (named_bytes format) commits in
    record { kind = 6; fields = length commits ∷ numbers; spelled = refl; read = rw (count_again format first (length commits) (numbers ++ rest) count) (commits_again commits format first [] rest small one.0 is.form.earlier); small = small }
entries_again format first (Commit p ∷ []) rest is =
    let small = first_numbered format first _ is.form in
    record { kind = 3; fields = to_be_bytes (number_width format) p; spelled = refl; read = rw (earlier_again format first p rest small is.form.earlier.0) refl; small = small }
entries_again format first (Commit p ∷ others) rest is = absurd is.form.one.0
entries_again format first (Undo p batch ∷ Close q ∷ []) rest is =
    let entry = (and_parts (are_changes batch) true is.in_range).0 in
    let small = first_numbered format first _ is.form in
    let few : leb (last_number format) first ≡ false = lt-leb _ _ (let k = is.form.numbered in omega arith) in
    let regrouped : (to_be_bytes (number_width format) p ++ batch_bytes batch) ++ rest ≡ to_be_bytes (number_width format) p ++ (batch_bytes batch ++ rest) = append_assoc (to_be_bytes (number_width format) p) (batch_bytes batch) rest in
    let read : rollback_at format first (to_be_bytes (number_width format) p ++ (batch_bytes batch ++ rest)) ≡ Ok (Undo p batch ∷ Close p ∷ [], rest) = rw (few, earlier_again format first p (batch_bytes batch ++ rest) small is.form.earlier.0, batch_again batch rest entry) refl in
    rw (← is.form.one) (record { kind = 4; fields = to_be_bytes (number_width format) p ++ batch_bytes batch; spelled = refl; read = ap (rollback_at format first) regrouped ∙ read; small = small })
entries_again format first others rest is = absurd is.form.one

-- what is spelled so is read
pub record_again : (format : Format) (first : ℕ) (entries : List Entry) → IsRecord format first entries → record_at format first (record_bytes format first entries) ≡ Ok entries
record_again format first entries is =
    let found = entries_again format first entries [] is in
    let whole : entries_at format first found.kind found.fields ≡ Ok (entries, []) = ap (entries_at format first found.kind) (sym (append-nil found.fields)) ∙ found.read in
    let read : kind_and_entries format first (found.kind ∷ found.fields) ≡ Ok entries = rw whole refl in
    ap (λ (after : List ℕ). record_at format first (to_be_bytes (number_width format) first ++ after)) found.spelled ∙ record_after_number format first (found.kind ∷ found.fields) found.small ∙ read
