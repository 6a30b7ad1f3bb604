-- Versions: what is read is spelled so, and what is spelled so is read.
use Rattle.std.proofs.Common.{◌≡◌, ℕ, zero, suc, true, leb, ltb, ◌&&◌, List, [], ◌∷◌, ◌++◌, length, Option, Some, None, Result, Ok, refl, sym, ap, subst, ◌∙◌, append_assoc}
use Rattle.std.specs.Int.{to_be_bytes}
use Rattle.std.specs.List.{flat_map, list_all}
use Rattle.std.proofs.lemmas.Bool.{and_parts, and_from, lt-ltb, ltb-true}
use Rattle.std.proofs.lemmas.List.{append-nil}
use Rattle.wp_model.specs.declared.version.Version.{Version}
use Rattle.wp_model.specs.Word.{is_word}
use Rattle.wp_model.specs.Versions.{AreInOrder}
use Rattle.wp_fields.specs.Reading.{◌>>=◌, map_err, number_at}
use Rattle.wp_fields.proofs.Results.{bind_ok, ok_is, map_ok}
use Rattle.wp_fields.proofs.FieldLemmas.{AreBytes, Begins, Begins-then, Begins-byte, number_takes, number_again, fields_of}
use Rattle.wp_encoding.specs.Encoding.{word_bytes, value_bytes}
use Rattle.wp_encoding.specs.Reading.{word_field_at, value_field_at}
use Rattle.wp_encoding.proofs.WordLemmas.{word_takes, word_again, value_takes, value_again}
use Rattle.wp_fields.specs.declared.format.Format.{Format}
use Rattle.wp_fields.specs.Format.{number_width, number_end}
use Rattle.wp_table.specs.declared.error.TableError.{TableError}
use Rattle.wp_table.specs.declared.error.TableError.TheVariants.{Short, Number, Order}
use Rattle.wp_table.specs.Errors.{table_error}
use Rattle.wp_table.specs.Table.{stored_bytes, version_bytes, has_number, is_flushed, is_stored, has_words, is_version}
use Rattle.wp_table.specs.Reading.{if_right, flushed_number_at, stored_at, last_of, is_after, next_place_at, next_version_at, versions_after}
use Rattle.wp_table.proofs.Order.{in_order_push, after_from_order, after-any_value}
use Rattle.wp_table.proofs.Parts.{was_right}

-- ---- numbers

abbrev number_in : ℕ → ℕ × List ℕ → Result (ℕ × List ℕ) TableError
number_in flushed number = if_right (leb 1 number.0 && leb number.0 flushed) Number number

pub record TakesNumber (format : Format) (flushed : ℕ) (bytes : List ℕ) (x : ℕ × List ℕ) : Type 0 where
  pub parts : Begins bytes (to_be_bytes (number_width format) x.0) x.1
  pub numbered : (leb 1 x.0 && ltb x.0 (number_end format)) ≡ true
  pub is_in : leb x.0 flushed ≡ true

pub flushed_number_takes : (format : Format) (flushed : ℕ) (bytes : List ℕ) (x : ℕ × List ℕ) → AreBytes bytes → flushed_number_at format flushed bytes ≡ Ok x → TakesNumber format flushed bytes x
unfolding flushed_number_at
flushed_number_takes format flushed bytes x h e =
    let s = bind_ok (number_at Short (number_width format) bytes) (number_in flushed) x e in
    let right = was_right (leb 1 s.0.0 && leb s.0.0 flushed) Number s.0 x s.2 in
    let tests = and_parts (leb 1 s.0.0) (leb s.0.0 flushed) right.0 in
    let number = number_takes Short (number_width format) (number_end format) (fields_of format) bytes s.0 h s.1 in
    let found : TakesNumber format flushed bytes s.0 = record { parts = number.0; numbered = and_from _ _ tests.0 (lt-ltb _ _ number.1); is_in = tests.1 } in
    rw (← right.1) found

pub flushed_number_again : (format : Format) (flushed n : ℕ) (rest : List ℕ) → (leb 1 n && ltb n (number_end format)) ≡ true → leb n flushed ≡ true → flushed_number_at format flushed (to_be_bytes (number_width format) n ++ rest) ≡ Ok (n, rest)
unfolding flushed_number_at
flushed_number_again format flushed n rest numbered is_in =
    let tests = and_parts (leb 1 n) (ltb n (number_end format)) numbered in
    rw (number_again Short (number_width format) (number_end format) (fields_of format) n rest (ltb-true _ _ tests.1), tests.0, is_in) refl

-- ---- values

abbrev pub Stored : Type 0
Stored = Option (List ℕ) × List ℕ

abbrev pub put_value : List ℕ × List ℕ → Result Stored TableError
put_value value = Ok (Some value.0, value.1)

pub stored_takes : (bytes : List ℕ) (x : Stored) → AreBytes bytes → stored_at bytes ≡ Ok x → Begins bytes (stored_bytes x.0) x.1 × (is_stored x.0 ≡ true)
unfolding stored_at
stored_takes [] x h e = absurd cc
stored_takes (zero ∷ bytes) x h e =
    let none : Stored = (None, bytes) in
    let found : Begins (0 ∷ bytes) (stored_bytes none.0) none.1 × (is_stored none.0 ≡ true) = (Begins-byte 0 bytes h, refl) in
    rw (← ok_is {E = TableError} none x e) found
stored_takes (suc zero ∷ bytes) x h e =
    let s = bind_ok (map_err table_error (value_field_at bytes)) put_value x e in
    let flag = Begins-byte 1 bytes h in
    let value = value_takes bytes s.0 flag.rest_bytes (map_ok table_error (value_field_at bytes) s.0 s.1) in
    let some : Stored = (Some s.0.0, s.0.1) in
    let found : Begins (1 ∷ bytes) (stored_bytes some.0) some.1 × (is_stored some.0 ≡ true) = (Begins-then (1 ∷ bytes) (1 ∷ []) bytes (value_bytes s.0.0) s.0.1 flag value.0, value.1) in
    rw (← ok_is {E = TableError} some x s.2) found
stored_takes (suc (suc n) ∷ bytes) x h e = absurd cc

stored_again : (value : Option (List ℕ)) (rest : List ℕ) → is_stored value ≡ true → stored_at (stored_bytes value ++ rest) ≡ Ok (value, rest)
unfolding stored_at
stored_again None rest is = refl
stored_again (Some value) rest is = rw (value_again value rest is) refl

-- ---- versions

-- the version is in range, and may come after the last one
pub record IsNext (format : Format) (flushed : ℕ) (last : Option Version) (v : Version) : Type 0 where
  pub in_range : is_version format flushed v ≡ true
  pub after : is_after last v ≡ true

abbrev pub place_after : Option Version → List ℕ → ℕ × List ℕ → Result (Version × List ℕ) TableError
place_after last key number =
    let version : Version = record { key = key; number = number.0; value = None } in if_right (is_after last version) Order (version, number.1)

pub record TakesPlace (format : Format) (flushed : ℕ) (last : Option Version) (bytes : List ℕ) (x : Version × List ℕ) : Type 0 where
  pub parts : Begins bytes (word_bytes x.0.key ++ to_be_bytes (number_width format) x.0.number) x.1
  pub word : is_word 64 x.0.key ≡ true
  pub numbered : has_number format x.0 ≡ true
  pub is_in : is_flushed flushed x.0 ≡ true
  pub after : is_after last (record { key = x.0.key; number = x.0.number; value = None }) ≡ true

pub place_takes : (format : Format) (flushed : ℕ) (last : Option Version) (bytes : List ℕ) (x : Version × List ℕ) → AreBytes bytes → next_place_at format flushed last bytes ≡ Ok x → TakesPlace format flushed last bytes x
unfolding next_place_at
place_takes format flushed last bytes x h e =
    let s = bind_ok (map_err table_error (word_field_at 64 bytes)) (λ key. flushed_number_at format flushed key.1 >>= place_after last key.0) x e in
    let key = word_takes 64 bytes s.0 h (map_ok table_error (word_field_at 64 bytes) s.0 s.1) in
    let t = bind_ok (flushed_number_at format flushed s.0.1) (place_after last s.0.0) x s.2 in
    let number = flushed_number_takes format flushed s.0.1 t.0 key.0.rest_bytes t.1 in
    let version : Version = record { key = s.0.0; number = t.0.0; value = None } in
    let right = was_right (is_after last version) Order (version, t.0.1) x t.2 in
    let found : TakesPlace format flushed last bytes (version, t.0.1) = record {
      parts = Begins-then bytes (word_bytes s.0.0) s.0.1 (to_be_bytes (number_width format) t.0.0) t.0.1 key.0 number.parts;
      word = key.1;
      numbered = number.numbered;
      is_in = number.is_in;
      after = right.0;
    } in
    rw (← right.1) found

abbrev pub with_value : Version → Stored → Result (Version × List ℕ) TableError
with_value place value = Ok (record { key = place.key; number = place.number; value = value.0 }, value.1)

pub version_takes : (format : Format) (flushed : ℕ) (last : Option Version) (bytes : List ℕ) (x : Version × List ℕ) → AreBytes bytes → next_version_at format flushed last bytes ≡ Ok x → Begins bytes (version_bytes format x.0) x.1 × IsNext format flushed last x.0
unfolding next_version_at
version_takes format flushed last bytes x h e =
    let s = bind_ok (next_place_at format flushed last bytes) (λ place. stored_at place.1 >>= with_value place.0) x e in
    let place = place_takes format flushed last bytes s.0 h s.1 in
    let t = bind_ok (stored_at s.0.1) (with_value s.0.0) x s.2 in
    let value = stored_takes s.0.1 t.0 place.parts.rest_bytes t.1 in
    let version : Version = record { key = s.0.0.key; number = s.0.0.number; value = t.0.0 } in
    let whole = Begins-then bytes (word_bytes s.0.0.key ++ to_be_bytes (number_width format) s.0.0.number) s.0.1 (stored_bytes t.0.0) t.0.1 place.parts value.0 in
    let parts : Begins bytes (version_bytes format version) t.0.1 = rw (append_assoc (word_bytes s.0.0.key) (to_be_bytes (number_width format) s.0.0.number) (stored_bytes t.0.0)) at whole in
    let next : IsNext format flushed last version = record {
      in_range = and_from _ _ (and_from _ _ place.word value.1) (and_from _ _ place.numbered place.is_in);
      after = after-any_value last s.0.0.key s.0.0.number t.0.0 None ∙ place.after;
    } in
    let found : Begins bytes (version_bytes format version) t.0.1 × IsNext format flushed last version = (parts, next) in
    rw (← ok_is {E = TableError} (version, t.0.1) x t.2) found

pub version_again : (format : Format) (flushed : ℕ) (last : Option Version) (v : Version) (rest : List ℕ) → IsNext format flushed last v → next_version_at format flushed last (version_bytes format v ++ rest) ≡ Ok (v, rest)
unfolding next_version_at next_place_at
version_again format flushed last v rest next =
    let outer = and_parts (has_words v) (has_number format v && is_flushed flushed v) next.in_range in
    let words = and_parts (is_word 64 v.key) (is_stored v.value) outer.0 in
    let numbers = and_parts (has_number format v) (is_flushed flushed v) outer.1 in
    let after : is_after last (record { key = v.key; number = v.number; value = None }) ≡ true = after-any_value last v.key v.number None v.value ∙ next.after in
    let number = to_be_bytes (number_width format) v.number in
    let regrouped : version_bytes format v ++ rest ≡ word_bytes v.key ++ (number ++ (stored_bytes v.value ++ rest)) =
    append_assoc (word_bytes v.key) (number ++ stored_bytes v.value) rest ∙ ap (λ (t : List ℕ). word_bytes v.key ++ t) (append_assoc number (stored_bytes v.value) rest) in
    ap (next_version_at format flushed last) regrouped ∙ rw (word_again 64 v.key (number ++ (stored_bytes v.value ++ rest)) words.0, flushed_number_again format flushed v.number (stored_bytes v.value ++ rest) numbers.0 numbers.1, after, stored_again v.value rest words.1) refl

-- ---- several versions

-- so many versions more were read
pub record TakesVersions (format : Format) (count flushed : ℕ) (before : List Version) (bytes : List ℕ) (x : List Version × List ℕ) : Type 0 where
  pub more : List Version
  pub appended : x.0 ≡ before ++ more
  pub counted : length more ≡ count
  pub parts : Begins bytes (flat_map (version_bytes format) more) x.1
  pub in_range : list_all (is_version format flushed) more ≡ true
  pub in_order : AreInOrder before → AreInOrder x.0

abbrev others_after : Format → ℕ → ℕ → List Version → Version × List ℕ → Result (List Version × List ℕ) TableError
others_after format count flushed before version = versions_after format count flushed (before ++ version.0 ∷ []) version.1

pub versions_take : (format : Format) (count flushed : ℕ) (before : List Version) (bytes : List ℕ) (x : List Version × List ℕ) → AreBytes bytes → versions_after format count flushed before bytes ≡ Ok x → TakesVersions format count flushed before bytes x
unfolding versions_after
versions_take format zero flushed before bytes x h e =
    let all : TakesVersions format 0 flushed before bytes (before, bytes) = record { more = []; appended = sym (append-nil before); counted = refl; parts = record { parts = refl; rest_bytes = h }; in_range = refl; in_order = λ order. order } in
    rw (← ok_is {E = TableError} (before, bytes) x e) all
versions_take format (suc count) flushed before bytes x h e =
    let s = bind_ok (next_version_at format flushed (last_of before) bytes) (others_after format count flushed before) x e in
    let version = version_takes format flushed (last_of before) bytes s.0 h s.1 in
    let rest = versions_take format count flushed (before ++ s.0.0 ∷ []) s.0.1 x version.0.rest_bytes s.2 in
    record {
      more = s.0.0 ∷ rest.more;
      appended = rest.appended ∙ append_assoc before (s.0.0 ∷ []) rest.more;
      counted = ap suc rest.counted;
      parts = Begins-then bytes (version_bytes format s.0.0) s.0.1 (flat_map (version_bytes format) rest.more) x.1 version.0 rest.parts;
      in_range = and_from _ _ version.1.in_range rest.in_range;
      in_order = λ order. rest.in_order (in_order_push before s.0.0 order version.1.after);
    }

pub versions_again : (format : Format) (more : List Version) (flushed : ℕ) (before : List Version) (rest : List ℕ) → AreInOrder (before ++ more) → list_all (is_version format flushed) more ≡ true → versions_after format (length more) flushed before (flat_map (version_bytes format) more ++ rest) ≡ Ok (before ++ more, rest)
unfolding versions_after
versions_again format [] flushed before rest order range = ap (λ (all : List Version). Ok (all, rest)) (sym (append-nil before))
versions_again format (v ∷ more) flushed before rest order range =
    let parts = and_parts (is_version format flushed v) (list_all (is_version format flushed) more) range in
    let next : IsNext format flushed (last_of before) v = record { in_range = parts.0; after = after_from_order before v more order } in
    let regrouped : (version_bytes format v ++ flat_map (version_bytes format) more) ++ rest ≡ version_bytes format v ++ (flat_map (version_bytes format) more ++ rest) = append_assoc (version_bytes format v) (flat_map (version_bytes format) more) rest in
    let all : (before ++ v ∷ []) ++ more ≡ before ++ v ∷ more = append_assoc before (v ∷ []) more in
    let others = versions_again format more flushed (before ++ v ∷ []) rest (subst AreInOrder (sym all) order) parts.1 in
    ap (versions_after format (suc (length more)) flushed before) regrouped ∙ rw (version_again format flushed (last_of before) v (flat_map (version_bytes format) more ++ rest) next) (others ∙ ap (λ (versions : List Version). Ok (versions, rest)) all)
