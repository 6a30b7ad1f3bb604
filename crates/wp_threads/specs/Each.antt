-- The session of one of the clients, by its place in the script.
use Rattle.std.specs.Prelude.{◌≡◌, ℕ, ◌<◌, List, [], ◌∷◌, length, slice_index_or}
use Rattle.wp_text.specs.declared.script.Part.{Part}
use Rattle.wp_shared.specs.Seats.{SharedState, SeatState, IsFree}
use Rattle.wp_replies.specs.Known.{StoredState}
use Rattle.wp_client.specs.Answers.{Stays}
use Rattle.wp_threads.specs.SoFar.{IsFound}
use Rattle.wp_seats.specs.New.{IsNew}
use Rattle.wp_threads.specs.Over.{Answered, IsOver}

-- it is the part at this place
abbrev pub IsPartAt : List Part → ℕ → Part → Type 0
IsPartAt parts i part = part ≡ slice_index_or parts i part

-- there is a part at this place, and the seat is new, of its client
abbrev pub IsNewAt : {D : Type 0} → SharedState D → List Part → ℕ → SeatState → Type 0
IsNewAt z parts i s = (i < length parts) × ((part : Part) → IsPartAt parts i part → IsNew z part.client s)

-- that client's session is over, and its seat is free, and stayed in its place
abbrev pub HasRunAt : {D : Type 0} → SharedState D → List Part → ℕ → Answered → SeatState → SeatState → Type 0
HasRunAt z parts i answered old new = ((found : StoredState) → IsFound z found → (part : Part) → IsPartAt parts i part → IsOver z found part answered new) × Stays old new × IsFree z.table new

-- each seat is free, and stayed in its place
abbrev pub AllStay : {D : Type 0} → SharedState D → List SeatState → List SeatState → Type 0
AllStay z [] [] = Unit {0}
AllStay z (old ∷ olds) (new ∷ news) = Stays old new × IsFree z.table new × AllStay z olds news
AllStay z olds news = ⊥
