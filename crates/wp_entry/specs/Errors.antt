-- Errors of reading a record, as faults of its bytes.
use Rattle.std.specs.Prelude.{Option, Some, None}
use Rattle.wp_encoding.specs.declared.error.EncodingError.{EncodingError}
use Rattle.wp_encoding.specs.declared.error.EncodingError.TheVariants as encoding
use Rattle.wp_entry.specs.declared.error.RecordError.{RecordError}
use Rattle.wp_entry.specs.declared.error.RecordError.TheVariants.{Memory, Short, BadKind, BadWord}

-- each but want of memory is a fault of the bytes
abbrev pub record_fault : RecordError → Option RecordError
record_fault Memory = None
record_fault fault = Some fault

-- the error of a record, one of whose fields could not be read
abbrev pub record_error : EncodingError → RecordError
record_error encoding.Memory = Memory
record_error encoding.Short = Short
record_error (encoding.Kind byte) = BadKind byte
record_error encoding.Word = BadWord
