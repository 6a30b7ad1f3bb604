-- Reading fields from left to right: a step gives what it read and the bytes after it, or the first fault.
use Rattle.std.specs.Prelude.{◌≡◌, ℕ, List, [], ◌∷◌, length, take, drop, Option, IfSome, Result, Ok, Err, nat_lt, if◌then◌else◌}
use Rattle.std.specs.Int.{Width, byte_len, from_be_bytes}

-- What a step read is what the next step gets, and the first fault is the one that is named.
infixl 10 ◌>>=◌
abbrev pub ◌>>=◌ : {A B E : Type 0} → Result A E → (A → Result B E) → Result B E
(Ok x) >>= next = next x
(Err fault) >>= next = Err fault

-- a fault under the name that it has in what the field is a part of
abbrev pub map_err : {A E F : Type 0} → (E → F) → Result A E → Result A F
map_err name (Ok x) = Ok x
map_err name (Err fault) = Err (name fault)

-- ---- fields, with the fault `short` where the bytes end before the field does

abbrev pub byte_at : {E : Type 0} → E → List ℕ → Result (ℕ × List ℕ) E
byte_at short [] = Err short
byte_at short (byte ∷ rest) = Ok (byte, rest)

-- a number, the highest byte first
abbrev pub number_at : {E : Type 0} → E → Width → List ℕ → Result (ℕ × List ℕ) E
number_at short w bytes = if nat_lt (length bytes) (byte_len w) then Err short else Ok (from_be_bytes w (take (byte_len w) bytes), drop (byte_len w) bytes)

-- so many bytes
abbrev pub piece_at : {E : Type 0} → E → ℕ → List ℕ → Result (List ℕ × List ℕ) E
piece_at short len bytes = if nat_lt (length bytes) len then Err short else Ok (take len bytes, drop len bytes)

-- ---- what a call gave

-- Reading meets the fault that the call's error is. An error that is no fault, as want of memory, says nothing of the
-- bytes.
abbrev pub Fails : {Y E F : Type 0} → (E → Option F) → E → Result Y F → Type 0
Fails fault_of error read = IfSome (fault_of error) (λ fault. read ≡ Err fault)

-- The call gave what reading gives, as `view` sees it, or failed with the fault that reading meets.
abbrev pub Gives : {X Y E F : Type 0} → (E → Option F) → (X → Y) → Result X E → Result Y F → Type 0
Gives fault_of view (Ok x) read = read ≡ Ok (view x)
Gives fault_of view (Err error) read = Fails fault_of error read
