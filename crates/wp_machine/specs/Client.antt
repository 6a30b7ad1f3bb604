-- The client of an actor: an actor that was joined has none, which the machine shows as the empty name.
use Rattle.std.specs.Prelude.{ℕ, List, [], Option, Some, None}

abbrev pub client_of : Option (List ℕ) → List ℕ
client_of (Some name) = name
client_of None = []
