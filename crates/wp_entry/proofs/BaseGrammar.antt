-- What is read as a base record is one, and what is spelled as one is read.
use Rattle.std.proofs.Common.{◌≡◌, ℕ, zero, suc, ◌+◌, ◌<◌, ◌≤◌, true, false, cond, leb, ltb, eqb, ◌||◌, List, [], ◌∷◌, ◌++◌, length, Result, Ok, Err, refl, sym, ap, ◌∙◌, append_assoc, arith}
use Rattle.std.specs.Prelude.{IfOk}
use Rattle.std.specs.Int.{w64, to_be_bytes}
use Rattle.std.specs.List.{flat_map, list_all}
use Rattle.std.proofs.lemmas.Bool.{eqb-true, leb-false, ltb-false, lt-leb, le-ltb, and_parts, and_from, or_parts, or_from}
use Rattle.std.proofs.lemmas.List.{append-nil, nil_from_length}
use Rattle.wp_model.specs.declared.word.TheConstants.{MOST_NAME_BYTES}
use Rattle.wp_model.specs.declared.carried.Carried.{Carried}
use Rattle.wp_model.specs.Word.{is_name}
use Rattle.wp_fields.specs.declared.format.Format.TheVariants.{Two}
use Rattle.wp_fields.specs.Format.{number_end}
use Rattle.wp_fields.specs.Reading.{◌>>=◌, number_at, Gives}
use Rattle.wp_fields.proofs.Results.{bind_ok, ok_is, map_ok}
use Rattle.wp_fields.proofs.FieldLemmas.{AreBytes, Begins, Begins-then, refusal_missed, test_met, number_takes, number_again, fields_of}
use Rattle.wp_encoding.specs.Encoding.{word_bytes, batch_bytes, are_changes}
use Rattle.wp_encoding.specs.Reading.{batch_field_at}
use Rattle.wp_encoding.proofs.WordLemmas.{word_again}
use Rattle.wp_encoding.proofs.ChangeLemmas.{batch_takes, batch_again}
use Rattle.wp_entry.specs.declared.error.RecordError.{RecordError}
use Rattle.wp_entry.specs.declared.error.RecordError.TheVariants.{Short, BadWord, Extra}
use Rattle.wp_entry.specs.Errors.{record_fault}
use Rattle.wp_entry.specs.Record.{last_number}
use Rattle.wp_entry.specs.Reading.{name_in_record}
use Rattle.wp_entry.specs.Base.{Base, carried_bytes, base_bytes, AscendUpTo, is_carried, IsBase}
use Rattle.wp_entry.specs.BaseReading.{base_error, batch_in_base, carried_number_at, carried_with, carried_at, carried_after, base_number_at, base_at}
use Rattle.wp_entry.proofs.Grammar.{last_fits, name_takes}

-- ---- the number of a prepare

abbrev pub number_in : ℕ → ℕ → ℕ × List ℕ → Result (ℕ × List ℕ) RecordError
number_in base last number = cond (leb number.0 last || ltb base number.0) (Err BadWord) (Ok number)

-- the bytes begin with the number of a prepare
pub record BeginsNumber (base last : ℕ) (bytes : List ℕ) (x : ℕ × List ℕ) : Type 0 where
  pub parts : Begins bytes (to_be_bytes w64 x.0) x.1
  pub small : x.0 < number_end Two
  pub above : last < x.0
  pub within : x.0 ≤ base

pub carried_number_takes : (base last : ℕ) (bytes : List ℕ) (x : ℕ × List ℕ) → AreBytes bytes → carried_number_at base last bytes ≡ Ok x → BeginsNumber base last bytes x
unfolding carried_number_at
carried_number_takes base last bytes x h e =
    let s = bind_ok (number_at Short w64 bytes) (number_in base last) x e in
    let number = number_takes Short w64 (number_end Two) (fields_of Two) bytes s.0 h s.1 in
    let t = refusal_missed (leb s.0.0 last || ltb base s.0.0) BadWord (Ok s.0) x s.2 in
    let range = or_parts _ _ t.0 in
    let found : BeginsNumber base last bytes s.0 = record { parts = number.0; small = number.1; above = leb-false _ _ range.0; within = ltb-false _ _ range.1 } in
    rw (← ok_is {E = RecordError} s.0 x t.1) found

pub carried_number_again : (base last number : ℕ) (rest : List ℕ) → last < number → number ≤ base → base ≤ last_number Two → carried_number_at base last (to_be_bytes w64 number ++ rest) ≡ Ok (number, rest)
unfolding carried_number_at
carried_number_again base last number rest above within small =
    let in_range : (leb number last || ltb base number) ≡ false = or_from _ _ (lt-leb _ _ above) (le-ltb _ _ within) in
    rw (number_again Short w64 (number_end Two) (fields_of Two) number rest (omega (arith, within, small, last_fits Two)), in_range) refl

-- ---- a prepare

parts_apart : (number count carried rest : List ℕ) → (number ++ (count ++ carried)) ++ rest ≡ number ++ (count ++ (carried ++ rest))
parts_apart number count carried rest = append_assoc number (count ++ carried) rest ∙ ap (λ (t : List ℕ). number ++ t) (append_assoc count carried rest)

abbrev pub batch_for : ℕ → List ℕ × List ℕ → Result (Carried × List ℕ) RecordError
batch_for number name = batch_in_base name.1 >>= λ batch. Ok (carried_with number name.0 batch.0, batch.1)

abbrev pub name_for : ℕ × List ℕ → Result (Carried × List ℕ) RecordError
name_for number = name_in_record number.1 >>= batch_for number.0

-- the bytes begin with a prepare
pub record BeginsCarried (base last : ℕ) (bytes : List ℕ) (x : Carried × List ℕ) : Type 0 where
  pub parts : Begins bytes (carried_bytes x.0) x.1
  pub above : last < x.0.number
  pub within : x.0.number ≤ base
  pub in_range : is_carried x.0 ≡ true

pub carried_takes : (base last : ℕ) (bytes : List ℕ) (x : Carried × List ℕ) → AreBytes bytes → carried_at base last bytes ≡ Ok x → BeginsCarried base last bytes x
unfolding carried_at
carried_takes base last bytes x h e =
    let s = bind_ok (carried_number_at base last bytes) name_for x e in
    let number = carried_number_takes base last bytes s.0 h s.1 in
    let t = bind_ok (name_in_record s.0.1) (batch_for s.0.0) x s.2 in
    let name = name_takes s.0.1 t.0 number.parts.rest_bytes t.1 in
    let u = bind_ok (batch_in_base t.0.1) (λ batch. Ok (carried_with s.0.0 t.0.0 batch.0, batch.1)) x t.2 in
    let batch = batch_takes t.0.1 u.0 name.0.rest_bytes (map_ok base_error (batch_field_at t.0.1) u.0 u.1) in
    let words = Begins-then s.0.1 (word_bytes t.0.0) t.0.1 (batch_bytes u.0.0) u.0.1 name.0 batch.0 in
    let found : BeginsCarried base last bytes (carried_with s.0.0 t.0.0 u.0.0, u.0.1) = record {
      parts = Begins-then bytes (to_be_bytes w64 s.0.0) s.0.1 (word_bytes t.0.0 ++ batch_bytes u.0.0) u.0.1 number.parts words;
      above = number.above;
      within = number.within;
      in_range = and_from _ _ name.1 batch.1;
    } in
    rw (← ok_is {E = RecordError} (carried_with s.0.0 t.0.0 u.0.0, u.0.1) x u.2) found

pub carried_again : (base last : ℕ) (x : Carried) (rest : List ℕ) → last < x.number → x.number ≤ base → base ≤ last_number Two → is_carried x ≡ true → carried_at base last (carried_bytes x ++ rest) ≡ Ok (x, rest)
unfolding carried_at
carried_again base last x rest above within small is =
    let parts = and_parts (is_name x.name) (are_changes x.batch) is in
    let behind = word_bytes x.name ++ (batch_bytes x.batch ++ rest) in
    let whole = parts_apart (to_be_bytes w64 x.number) (word_bytes x.name) (batch_bytes x.batch) rest in
    ap (carried_at base last) whole ∙ rw (carried_number_again base last x.number behind above within small, word_again MOST_NAME_BYTES x.name (batch_bytes x.batch ++ rest) parts.0, batch_again x.batch rest parts.1) refl

-- ---- several

abbrev pub others_after : ℕ → ℕ → List Carried → Carried × List ℕ → Result (List Carried × List ℕ) RecordError
others_after count base carried next = carried_after count base next.0.number (carried ++ next.0 ∷ []) next.1

-- so many prepares more were read
pub record TakesSeveral (count base last : ℕ) (carried : List Carried) (bytes : List ℕ) (x : List Carried × List ℕ) : Type 0 where
  pub more : List Carried
  pub appended : x.0 ≡ carried ++ more
  pub counted : length more ≡ count
  pub parts : Begins bytes (flat_map carried_bytes more) x.1
  pub ascend : AscendUpTo base last more
  pub in_range : list_all is_carried more ≡ true

pub several_take : (count base last : ℕ) (carried : List Carried) (bytes : List ℕ) (x : List Carried × List ℕ) → AreBytes bytes → carried_after count base last carried bytes ≡ Ok x → TakesSeveral count base last carried bytes x
unfolding carried_after
several_take zero base last carried bytes x h e =
    let all : TakesSeveral 0 base last carried bytes (carried, bytes) = record { more = []; appended = sym (append-nil carried); counted = refl; parts = record { parts = refl; rest_bytes = h }; ascend = tt; in_range = refl } in
    rw (← ok_is {E = RecordError} (carried, bytes) x e) all
several_take (suc count) base last carried bytes x h e =
    let s = bind_ok (carried_at base last bytes) (others_after count base carried) x e in
    let one = carried_takes base last bytes s.0 h s.1 in
    let rest = several_take count base s.0.0.number (carried ++ s.0.0 ∷ []) s.0.1 x one.parts.rest_bytes s.2 in
    record {
      more = s.0.0 ∷ rest.more;
      appended = rest.appended ∙ append_assoc carried (s.0.0 ∷ []) rest.more;
      counted = ap suc rest.counted;
      parts = Begins-then bytes (carried_bytes s.0.0) s.0.1 (flat_map carried_bytes rest.more) x.1 one.parts rest.parts;
      ascend = (one.above, one.within, rest.ascend);
      in_range = and_from _ _ one.in_range rest.in_range;
    }

pub several_again : (more : List Carried) (base last : ℕ) (carried : List Carried) (rest : List ℕ) → base ≤ last_number Two → AscendUpTo base last more → list_all is_carried more ≡ true → carried_after (length more) base last carried (flat_map carried_bytes more ++ rest) ≡ Ok (carried ++ more, rest)
unfolding carried_after
several_again [] base last carried rest small ascend range = ap (λ (all : List Carried). Ok (all, rest)) (sym (append-nil carried))
several_again (x ∷ more) base last carried rest small ascend range =
    let parts = and_parts (is_carried x) (list_all is_carried more) range in
    let regrouped : (carried_bytes x ++ flat_map carried_bytes more) ++ rest ≡ carried_bytes x ++ (flat_map carried_bytes more ++ rest) = append_assoc (carried_bytes x) (flat_map carried_bytes more) rest in
    let all : (carried ++ x ∷ []) ++ more ≡ carried ++ x ∷ more = append_assoc carried (x ∷ []) more in
    let others = several_again more base x.number (carried ++ x ∷ []) rest small ascend.2 parts.1 in
    ap (carried_after (suc (length more)) base last carried) regrouped ∙ rw (carried_again base last x (flat_map carried_bytes more ++ rest) ascend.0 ascend.1 small parts.0) (others ∙ ap (λ (found : List Carried). Ok (found, rest)) all)

-- ---- the base

abbrev pub base_in_range : ℕ × List ℕ → Result (ℕ × List ℕ) RecordError
base_in_range number = cond (ltb (last_number Two) number.0) (Err BadWord) (Ok number)

pub base_number_takes : (bytes : List ℕ) (x : ℕ × List ℕ) → AreBytes bytes → base_number_at bytes ≡ Ok x → Begins bytes (to_be_bytes w64 x.0) x.1 × (x.0 ≤ last_number Two)
unfolding base_number_at
base_number_takes bytes x h e =
    let s = bind_ok (number_at Short w64 bytes) base_in_range x e in
    let number = number_takes Short w64 (number_end Two) (fields_of Two) bytes s.0 h s.1 in
    let t = refusal_missed (ltb (last_number Two) s.0.0) BadWord (Ok s.0) x s.2 in
    let found : Begins bytes (to_be_bytes w64 s.0.0) s.0.1 × (s.0.0 ≤ last_number Two) = (number.0, ltb-false _ _ t.0) in
    rw (← ok_is {E = RecordError} s.0 x t.1) found

pub base_number_again : (number : ℕ) (rest : List ℕ) → number ≤ last_number Two → base_number_at (to_be_bytes w64 number ++ rest) ≡ Ok (number, rest)
unfolding base_number_at
base_number_again number rest small = rw (number_again Short w64 (number_end Two) (fields_of Two) number rest (omega (arith, small, last_fits Two)), le-ltb _ _ small) refl

-- ---- all of the bytes

abbrev pub base_with : ℕ → List Carried → Base
base_with number carried = record { number = number; carried = carried }

abbrev pub at_end : ℕ → List Carried × List ℕ → Result Base RecordError
at_end number found = cond (eqb (length found.1) 0) (Ok (base_with number found.0)) (Err (Extra (length found.1)))

abbrev pub carried_to_end : ℕ → ℕ × List ℕ → Result Base RecordError
carried_to_end number count = carried_after count.0 number 0 [] count.1 >>= at_end number

abbrev pub after_base : ℕ × List ℕ → Result Base RecordError
after_base number = number_at Short w64 number.1 >>= carried_to_end number.0

-- the parts of a base record, one behind the other
base_parts : (bytes number after count more carried rest : List ℕ) → bytes ≡ number ++ after → after ≡ count ++ more → more ≡ carried ++ rest → bytes ≡ (number ++ (count ++ carried)) ++ rest
base_parts bytes number after count more carried rest one two three =
    one ∙ ap (λ (t : List ℕ). number ++ t) (two ∙ ap (λ (t : List ℕ). count ++ t) three ∙ sym (append_assoc count carried rest)) ∙ sym (append_assoc number (count ++ carried) rest)

nothing_behind : (bytes text rest : List ℕ) → bytes ≡ text ++ rest → rest ≡ [] → bytes ≡ text
nothing_behind bytes text rest parts none = parts ∙ ap (λ (t : List ℕ). text ++ t) none ∙ append-nil text

-- what was read, and what follows it
pub record BeginsBase (bytes : List ℕ) (base : Base) (rest : List ℕ) : Type 0 where
  pub is : IsBase base
  pub parts : bytes ≡ base_bytes base ++ rest

pub base_found : (bytes : List ℕ) (number count : ℕ × List ℕ) (found : List Carried × List ℕ) → AreBytes bytes → base_number_at bytes ≡ Ok number → number_at Short w64 number.1 ≡ Ok count → carried_after count.0 number.0 0 [] count.1 ≡ Ok found → BeginsBase bytes (base_with number.0 found.0) found.1
base_found bytes number count found h read counted all =
    let base = base_number_takes bytes number h read in
    let field = number_takes Short w64 (number_end Two) (fields_of Two) number.1 count base.0.rest_bytes counted in
    let several = several_take count.0 number.0 0 [] count.1 found field.0.rest_bytes all in
    let parts = base_parts bytes (to_be_bytes w64 number.0) number.1 (to_be_bytes w64 count.0) count.1 (flat_map carried_bytes several.more) found.1 base.0.parts field.0.parts several.parts.parts in
    let here : BeginsBase bytes (base_with number.0 several.more) found.1 = record {
      is = record { small = base.1; ascend = several.ascend; in_range = several.in_range };
      parts = parts ∙ ap (λ (n : ℕ). (to_be_bytes w64 number.0 ++ (to_be_bytes w64 n ++ flat_map carried_bytes several.more)) ++ found.1) (sym several.counted);
    } in
    rw several.appended here

pub base_takes : (bytes : List ℕ) (base : Base) → AreBytes bytes → base_at bytes ≡ Ok base → IsBase base × (bytes ≡ base_bytes base)
unfolding base_at
base_takes bytes base h e =
    let s = bind_ok (base_number_at bytes) after_base base e in
    let t = bind_ok (number_at Short w64 s.0.1) (carried_to_end s.0.0) base s.2 in
    let u = bind_ok (carried_after t.0.0 s.0.0 0 [] t.0.1) (at_end s.0.0) base t.2 in
    let last = test_met (eqb (length u.0.1) 0) (Extra (length u.0.1)) (Ok (base_with s.0.0 u.0.0)) base u.2 in
    let begins = base_found bytes s.0 t.0 u.0 h s.1 t.1 u.1 in
    let none : u.0.1 ≡ [] = nil_from_length u.0.1 (eqb-true (length u.0.1) 0 last.0) in
    let whole : bytes ≡ base_bytes (base_with s.0.0 u.0.0) = nothing_behind bytes (base_bytes (base_with s.0.0 u.0.0)) u.0.1 begins.parts none in
    let found : IsBase (base_with s.0.0 u.0.0) × (bytes ≡ base_bytes (base_with s.0.0 u.0.0)) = (begins.is, whole) in
    rw (← ok_is {E = RecordError} (base_with s.0.0 u.0.0) base last.1) found

-- a base carries no more prepares than there are numbers up to it
few_carried : (base last : ℕ) (carried : List Carried) → last ≤ base → AscendUpTo base last carried → last + length carried ≤ base
few_carried base last [] le ascend = omega (arith, le)
few_carried base last (x ∷ others) le ascend =
    let above = ascend.0 in
    let rest = few_carried base x.number others ascend.1 ascend.2 in
    omega (arith, above, rest)

pub base_again : (base : Base) (rest : List ℕ) → IsBase base → base_at (base_bytes base ++ rest) ≡ at_end base.number (base.carried, rest)
unfolding base_at
base_again base rest is =
    let small = is.small in
    let few = few_carried base.number 0 base.carried (omega arith) is.ascend in
    let behind = to_be_bytes w64 (length base.carried) ++ (flat_map carried_bytes base.carried ++ rest) in
    let whole = parts_apart (to_be_bytes w64 base.number) (to_be_bytes w64 (length base.carried)) (flat_map carried_bytes base.carried) rest in
    ap base_at whole ∙ rw (base_number_again base.number behind small, number_again Short w64 (number_end Two) (fields_of Two) (length base.carried) (flat_map carried_bytes base.carried ++ rest) (omega (arith, few, small, last_fits Two)), several_again base.carried base.number 0 [] rest small is.ascend is.in_range) refl

-- what is written, one piece behind the other
pub base_pushed : (start a b c : List ℕ) (base : Base) → a ≡ start ++ to_be_bytes w64 base.number → b ≡ a ++ to_be_bytes w64 (length base.carried) → c ≡ b ++ flat_map carried_bytes base.carried → c ≡ start ++ base_bytes base
base_pushed start a b c base number count carried =
    carried ∙ ap (λ (t : List ℕ). t ++ flat_map carried_bytes base.carried) count ∙ append_assoc a (to_be_bytes w64 (length base.carried)) (flat_map carried_bytes base.carried)
    ∙ ap (λ (t : List ℕ). t ++ (to_be_bytes w64 (length base.carried) ++ flat_map carried_bytes base.carried)) number ∙ append_assoc start (to_be_bytes w64 base.number) (to_be_bytes w64 (length base.carried) ++ flat_map carried_bytes base.carried)

pub base_again_whole : (base : Base) → IsBase base → base_at (base_bytes base) ≡ Ok base
base_again_whole base is = ap base_at (sym (append-nil (base_bytes base))) ∙ base_again base [] is

pub found_is_base : (bytes : List ℕ) (result : Result Base RecordError) → AreBytes bytes → Gives record_fault (λ base. base) result (base_at bytes) → IfOk result (λ base. IsBase base × (bytes ≡ base_bytes base))
found_is_base bytes (Ok base) h read = base_takes bytes base h read
found_is_base bytes (Err fault) h read = tt
