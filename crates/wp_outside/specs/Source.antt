-- What a read does to the bytes that a source has left, where it shows them.
use Rattle.std.specs.Prelude.{ℕ, ◌≤◌, List, length, take, Option, Result, Ok, Err}
use Rattle.std.specs.Io.KnownBytes.{Consumes, IsAtEnd, Keeps}
use Rattle.wp_outside.specs.declared.failed.Failed.{Failed}
use Rattle.wp_outside.specs.declared.source.Got.{Got}
use Rattle.wp_outside.specs.declared.source.Got.TheVariants.{Some, End}

-- the next bytes, at least one and no more than there is room for; End only with nothing left; a failure loses nothing
abbrev pub Reads : Option (List ℕ) → Option (List ℕ) → List ℕ → Result Got Failed → Type 0
Reads old new buf (Ok (Some n)) = (1 ≤ n) × (n ≤ length buf) × Consumes old new (take n buf)
Reads old new buf (Ok End) = IsAtEnd old × Keeps old new
Reads old new buf (Err e) = Keeps old new
