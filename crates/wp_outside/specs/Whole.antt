-- What is taken from a source.
use Rattle.std.specs.Prelude.{◌≡◌, ℕ, List, take, Option, IfSome}
use Rattle.std.specs.Io.KnownBytes.{Consumes}

-- These bytes were read: all that the source held, or as many as may be taken of more. It has lost just those.
pub record AreBytesRead (most : ℕ) (old new : Option (List ℕ)) (bytes : List ℕ) : Type 0 where
  pub whole : IfSome old (λ all. bytes ≡ take most all)
  pub consumed : Consumes old new bytes
