-- Lists of pairs whose newest comes first: of two pairs of one key the first counts.
use Rattle.std.specs.Prelude.{ℕ, ◌==◌, List, [], ◌∷◌, Option, Some, None, if◌then◌else◌}
use Rattle.std.specs.Str.{bytes_eq}

abbrev pub newest_of : {X : Type 0} → List (ℕ × X) → ℕ → Option X
newest_of [] q = None
newest_of (pair ∷ pairs) q = if pair.0 == q then Some pair.1 else newest_of pairs q

abbrev pub newest_under : {X : Type 0} → List (List ℕ × X) → List ℕ → Option X
newest_under [] q = None
newest_under (pair ∷ pairs) q = if bytes_eq pair.0 q then Some pair.1 else newest_under pairs q
