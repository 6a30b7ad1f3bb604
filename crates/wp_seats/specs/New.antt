-- Seats at which no command was given yet.
use Rattle.std.specs.Prelude.{◌≡◌, ℕ, true, List, [], ◌∷◌, map}
use Rattle.wp_text.specs.declared.script.Part.{Part}
use Rattle.wp_core.specs.World.{new_actor}
use Rattle.wp_shared.specs.Seats.{SharedState, SeatState}

-- it is of this client, has seen what was opened, and may have made others
pub record IsNew {D : Type 0} (z : SharedState D) (client : List ℕ) (s : SeatState) : Type 0 where
  pub table : s.table ≡ z.table
  pub turns : s.turns ≡ []
  pub made : ℕ
  pub knows : s.knows ≡ record (new_actor true client z.opened) { made = made }

-- each of these clients'
abbrev pub AreNew : {D : Type 0} → SharedState D → List (List ℕ) → List SeatState → Type 0
AreNew z [] [] = Unit {0}
AreNew z (client ∷ clients) (s ∷ seats) = IsNew z client s × AreNew z clients seats
AreNew z clients seats = ⊥

-- ---- a script's

abbrev pub client_of : Part → List ℕ
client_of part = part.client

abbrev pub clients_of : List Part → List (List ℕ)
clients_of parts = map client_of parts

-- the clients behind the first
abbrev pub others_of : List Part → List (List ℕ)
others_of [] = []
others_of (part ∷ parts) = clients_of parts

-- the seat that came with the opened store, of this client, once it made so many others
abbrev pub having_made : {D : Type 0} → SharedState D → List ℕ → ℕ → SeatState
having_made z client made = record { table = z.table; by = 0; knows = record (new_actor true client z.opened) { made = made }; turns = [] }

abbrev pub first_seat : {D : Type 0} → SharedState D → List ℕ → SeatState
first_seat z client = having_made z client 0

-- it is the first client's; where there is no part, anybody's
abbrev pub IsFirst : {D : Type 0} → SharedState D → List Part → SeatState → Type 0
IsFirst z [] s = (client : List ℕ) × (s ≡ first_seat z client)
IsFirst z (part ∷ parts) s = s ≡ first_seat z part.client
