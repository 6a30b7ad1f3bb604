-- The script that `make` runs, as a function of its three numbers.
use Rattle.std.specs.Prelude.{ℕ, zero, suc, ◌+◌, ◌*◌, ◌/◌, ◌%◌, ◌^◌, Bool, true, false, List, [], ◌∷◌, ◌++◌, map, nat_lt, codes, decimal, if◌then◌else◌}
use Rattle.std.specs.List.{range_with_len}
use Rattle.wp_text.specs.declared.script.Command.{Command}
use Rattle.wp_text.specs.declared.script.Command.TheVariants as command
use Rattle.wp_text.specs.declared.script.Part.{Part}
use Rattle.wp_make.specs.declared.maker.Maker.{Maker}
use Rattle.wp_make.specs.declared.turn.Turn.{Turn}
use Rattle.wp_make.specs.declared.turn.Turn.TheVariants as turn

-- ---- draws

-- the state that a draw leaves
unfoldable pub next_state : ℕ → ℕ
next_state state = (state * 6364136223846793005 + 1442695040888963407) % 2 ^ 64

-- the number below `most` that is drawn as this state is left
unfoldable pub drawn : (most state : ℕ) → ℕ
drawn most state = (state / 2 ^ 33) % most

-- ---- words

abbrev pub client_word : ℕ → List ℕ
client_word client = codes "c" ++ decimal client

abbrev pub key_word : (client key : ℕ) → List ℕ
key_word client key = codes "c" ++ decimal client ++ codes "k" ++ decimal key

abbrev pub txn_word : (client begins : ℕ) → List ℕ
txn_word client begins = codes "c" ++ decimal client ++ codes "t" ++ decimal begins

abbrev pub value_word : ℕ → List ℕ
value_word value = codes "v" ++ decimal value

-- ---- turns

-- what is done in a turn, by the number below 8 that it draws first
abbrev pub turn_of : (begun : Bool) → ℕ → Turn
turn_of false d = if nat_lt d 3 then turn.Put else (if nat_lt d 4 then turn.Del else (if nat_lt d 5 then turn.Begin else (if nat_lt d 7 then turn.Get else turn.Maintain)))
turn_of true d = if nat_lt d 4 then turn.Put else (if nat_lt d 5 then turn.Del else (if nat_lt d 6 then turn.Get else (if nat_lt d 7 then turn.Commit else turn.RollBack)))

-- what a turn adds to the client's commands, and what it leaves of the client's maker
pub record Made : Type 0 where
  pub commands : List Command
  pub left : Maker

-- Where a key is needed it is drawn, and where a value is needed it is drawn then.
abbrev pub made_by : Turn → Maker → Made
made_by turn.Put m =
    let key = next_state m.state in let value = next_state key in
    record { commands = command.Put (key_word m.client (drawn 8 key)) (value_word (drawn 1000 value)) ∷ []; left = record m { state = value } }
made_by turn.Del m = let key = next_state m.state in record { commands = command.Del (key_word m.client (drawn 8 key)) ∷ []; left = record m { state = key } }
made_by turn.Get m = let key = next_state m.state in record { commands = command.Get (key_word m.client (drawn 8 key)) ∷ []; left = record m { state = key } }
made_by turn.Begin m = let begins = m.begins + 1 in record { commands = command.Begin (txn_word m.client begins) ∷ []; left = record m { begun = true; begins = begins } }
made_by turn.Maintain m =
    let which = next_state m.state in
    record { commands = (if nat_lt (drawn 4 which) 3 then command.Flush else command.Compact) ∷ []; left = record m { state = which } }
made_by turn.Commit m = record { commands = command.Prepare ∷ command.Commit ∷ []; left = record m { begun = false } }
made_by turn.RollBack m = record { commands = command.Prepare ∷ command.Rollback ∷ []; left = record m { begun = false } }

abbrev pub made_next : Maker → Made
made_next m = let state = next_state m.state in made_by (turn_of m.begun (drawn 8 state)) (record m { state = state })

-- the commands of so many turns
abbrev pub made_in : ℕ → Maker → List Command
made_in zero m = []
made_in (suc turns) m = let next = made_next m in next.commands ++ made_in turns next.left

-- ---- the script

-- a client's maker as it begins
abbrev pub new_maker : (seed client : ℕ) → Maker
new_maker seed client = record { client = client; state = seed + client; begun = false; begins = 0 }

abbrev pub made_part : (seed lines client : ℕ) → Part
made_part seed lines client = record { client = client_word client; commands = made_in lines (new_maker seed client) }

-- the parts of the clients 1, 2 and so on
abbrev pub made_script : (seed clients lines : ℕ) → List Part
made_script seed clients lines = map (made_part seed lines) (range_with_len 1 clients)
