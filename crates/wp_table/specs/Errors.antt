-- Errors of reading a table, as faults of its bytes.
use Rattle.std.specs.Prelude.{Option, Some, None}
use Rattle.wp_encoding.specs.declared.error.EncodingError.{EncodingError}
use Rattle.wp_encoding.specs.declared.error.EncodingError.TheVariants as encoding
use Rattle.wp_table.specs.declared.error.TableError.{TableError}
use Rattle.wp_table.specs.declared.error.TableError.TheVariants.{Memory, Short, Word}

-- each but want of memory is a fault of the bytes
abbrev pub table_fault : TableError → Option TableError
table_fault Memory = None
table_fault fault = Some fault

-- the error of a table, one of whose keys or values could not be read
abbrev pub table_error : EncodingError → TableError
table_error encoding.Memory = Memory
table_error encoding.Short = Short
table_error (encoding.Kind byte) = Word
table_error encoding.Word = Word
