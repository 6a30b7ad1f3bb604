-- What reading gives, as a call returned it.
use Rattle.std.proofs.Common.{◌≡◌, ℕ, List, Result, Ok, Err, sym, ◌∙◌, inl, inr, ◌⊎◌, refl}
use Rattle.std.specs.Prelude.{IfOk, IfErr}
use Rattle.wp_text.specs.declared.fault.Fault.{Fault}
use Rattle.wp_text.specs.declared.fault.ScriptError.{ScriptError}
use Rattle.wp_text.specs.declared.fault.ScriptError.TheVariants as errors
use Rattle.wp_text.specs.declared.script.Part.{Part}
use Rattle.wp_text.specs.Grammar.{IsScript}
use Rattle.wp_text.specs.Faults.{IsFault, IsErrorOf, HasOneReading}
use Rattle.wp_fields.specs.Reading.{Gives}
use Rattle.wp_text.specs.Reading.{script_of, script_fault}
use Rattle.wp_fields.proofs.Results.{ok_is, err_is, ok_or_err}
use Rattle.wp_text.proofs.ScriptLaws.{is_script, has_fault, is_script_again, is_fault_again}

pub script_given : (bytes : List ℕ) (result : Result (List Part) ScriptError) (P : List Part → Type 0) → Gives script_fault (λ parts. parts) result (script_of bytes) → ((parts : List Part) → IsScript bytes parts → P parts) → IfOk result P
script_given bytes (Ok parts) P given so = so parts (is_script bytes parts given)
script_given bytes (Err e) P given so = tt

pub error_given : (bytes : List ℕ) (result : Result (List Part) ScriptError) → Gives script_fault (λ parts. parts) result (script_of bytes) → IfErr result (λ e. IsErrorOf bytes e)
error_given bytes (Ok parts) given = tt
error_given bytes (Err errors.Memory) given = tt
error_given bytes (Err (errors.Fault fault)) given = has_fault bytes fault given

read_as : (bytes : List ℕ) (read : Result (List Part) Fault) → script_of bytes ≡ read → ((parts : List Part) × IsScript bytes parts) ⊎ ((fault : Fault) × IsFault bytes fault.line fault.why)
read_as bytes (Ok parts) e = inl (parts, is_script bytes parts e)
read_as bytes (Err fault) e = inr (fault, has_fault bytes fault e)

pub one_reading : (bytes : List ℕ) → HasOneReading bytes
one_reading bytes = record {
  one_script = λ first second a b. ok_is {E = Fault} first second (sym (is_script_again bytes first a) ∙ is_script_again bytes second b);
  one_fault = λ first second a b. err_is {A = List Part} first second (sym (is_fault_again bytes first.line first.why a) ∙ is_fault_again bytes second.line second.why b);
  not_both = λ parts fault a b. ok_or_err parts fault (sym (is_script_again bytes parts a) ∙ is_fault_again bytes fault.line fault.why b);
  either = read_as bytes (script_of bytes) refl;
}
