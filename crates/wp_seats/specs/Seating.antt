-- What is made for a script before its store is opened.
use Rattle.std.specs.Prelude.{◌≡◌, ℕ, List, [], ◌∷◌}
use Rattle.wp_text.specs.declared.script.Part.{Part}
use Rattle.wp_seats.specs.New.{others_of}

-- the first part's client; where there is no part, anybody
abbrev pub IsFirstClient : List Part → List ℕ → Type 0
IsFirstClient [] client = Unit {0}
IsFirstClient (part ∷ parts) client = client ≡ part.client

-- the first client, and room for the others
abbrev pub IsSeating : List Part → (client : List ℕ) → (room : List (List ℕ)) → Type 0
IsSeating parts client room = IsFirstClient parts client × (room ≡ others_of parts)
