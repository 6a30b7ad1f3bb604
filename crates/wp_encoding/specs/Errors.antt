-- Errors of reading, as faults of the bytes.
use Rattle.std.specs.Prelude.{Option, Some, None}
use Rattle.wp_model.specs.declared.word.WordError.{WordError}
use Rattle.wp_model.specs.declared.word.WordError.TheVariants as word
use Rattle.wp_encoding.specs.declared.error.EncodingError.{EncodingError}
use Rattle.wp_encoding.specs.declared.error.EncodingError.TheVariants.{Memory, Word}

-- each but want of memory is a fault of the bytes
abbrev pub encoding_fault : EncodingError → Option EncodingError
encoding_fault Memory = None
encoding_fault fault = Some fault

-- the error of bytes whose word could not be read
abbrev pub encoding_error : WordError → EncodingError
encoding_error word.Memory = Memory
encoding_error word.BadWord = Word
