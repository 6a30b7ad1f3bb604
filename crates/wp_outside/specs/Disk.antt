-- The disk model: what a read gives, and what a crash may leave.
--
-- Between two syncs each written range, and everything past the shortest length since the last sync, may hold any
-- bytes, and the length may be any from the shortest to the longest since then; other bytes stay.
use Rattle.std.specs.Prelude.{◌≡◌, ◌⊎◌, ℕ, zero, suc, ◌+◌, ◌-◌, ◌≤◌, min, max, Bool, true, List, [], ◌∷◌, ◌++◌, map, length, take, drop, ⊤, Option, None, Some}

-- a disk at one moment
pub record Moment : Type 0 where
  pub reads : List ℕ  -- what a read gives
  pub sure : List (Option ℕ)  -- each byte below the shortest length since the last sync; None: any byte may be there
  pub longest : ℕ  -- the longest length since the last sync

-- the bytes begin with those that are sure
abbrev pub Matches : List (Option ℕ) → List ℕ → Type 0
Matches [] bytes = ⊤
Matches (known ∷ sure) [] = ⊥
Matches (None ∷ sure) (b ∷ bytes) = Matches sure bytes
Matches (Some known ∷ sure) (b ∷ bytes) = (b ≡ known) × Matches sure bytes

-- a crash at this moment may leave these bytes
abbrev pub IsImage : Moment → List ℕ → Type 0
IsImage m bytes = Matches m.sure bytes × (length bytes ≤ m.longest)

-- all of it on the disk: a crash leaves these bytes and nothing else
abbrev pub synced : List ℕ → Moment
synced bytes = record { reads = bytes; sure = map (λ b. Some b) bytes; longest = length bytes }

-- these bytes written at a place over the old ones, a gap before them filled with zeros
abbrev pub put : ℕ → List ℕ → List ℕ → List ℕ
put zero bytes old = bytes ++ drop (length bytes) old
put (suc at) bytes [] = 0 ∷ put at bytes []
put (suc at) bytes (b ∷ old) = b ∷ put at bytes old

-- the first n bytes may be any
abbrev pub hide : ℕ → List (Option ℕ) → List (Option ℕ)
hide zero sure = sure
hide (suc n) [] = []
hide (suc n) (known ∷ sure) = None ∷ hide n sure

-- n bytes from a place on may be any
abbrev pub hide_at : ℕ → ℕ → List (Option ℕ) → List (Option ℕ)
hide_at zero n sure = hide n sure
hide_at (suc at) n [] = []
hide_at (suc at) n (known ∷ sure) = known ∷ hide_at at n sure

-- where a write ends; a write of no bytes has no end
abbrev pub write_end : ℕ → List ℕ → ℕ
write_end at [] = 0
write_end at (b ∷ bytes) = at + length (b ∷ bytes)

-- a write of no bytes changes nothing
abbrev pub after_write : ℕ → List ℕ → Moment → Moment
after_write at [] m = m
after_write at (b ∷ bytes) m = record {
  reads = put at (b ∷ bytes) m.reads;
  sure = hide_at at (length (b ∷ bytes)) m.sure;
  longest = max m.longest (write_end at (b ∷ bytes));
}

-- a length that is no less changes nothing
abbrev pub after_cut : ℕ → Moment → Moment
after_cut len m = record { reads = take len m.reads; sure = take len m.sure; longest = m.longest }

abbrev pub after_sync : Moment → Moment
after_sync m = synced m.reads

-- of a disk that shows its moments, the newest first: P of the newest
abbrev pub IfKnown : List Moment → (Moment → Type 0) → Type 0
IfKnown [] P = ⊤
IfKnown (m ∷ past) P = P m

-- a disk as it reads is one of its images
abbrev pub ReadsItself : List Moment → Type 0
ReadsItself moments = IfKnown moments (λ m. IsImage m m.reads)

-- n bytes from a place on are at the front of buf, fewer than it has room for exactly at the end
pub record IsRead (reads : List ℕ) (at : ℕ) (buf : List ℕ) (n : ℕ) : Type 0 where
  pub count : n ≡ min (length buf) (length reads - at)
  pub bytes : take n buf ≡ take n (drop at reads)

-- one more moment, which the step makes of the newest; a disk that shows none still shows none
abbrev pub added : (Moment → Moment) → List Moment → List Moment
added step [] = []
added step (m ∷ past) = step m ∷ m ∷ past

-- the step broke off: as before, or one more moment with the images that the step makes, of which a read gives any
abbrev pub Tears : (Moment → Moment) → List Moment → List Moment → Type 0
Tears step old new = (new ≡ old) ⊎ ((bytes : List ℕ) × (new ≡ added (λ m. record (step m) { reads = bytes }) old))

-- each element has P
abbrev pub Each : {A : Type 0} → (A → Type 0) → List A → Type 0
Each P [] = ⊤
Each P (x ∷ xs) = P x × Each P xs

-- each moment that came since old has P
abbrev pub Passes : (Moment → Type 0) → List Moment → List Moment → Type 0
Passes P old new = (more : List Moment) × (new ≡ more ++ old) × Each P more

-- each moment that came has P; an unknown disk stays unknown
abbrev pub Goes : (Moment → Type 0) → List Moment → List Moment → Type 0
Goes P [] new = new ≡ []
Goes P (m ∷ past) new = Passes P (m ∷ past) new

-- What a call that changes nothing does to the moments: those that others make may come with it, none where nobody else
-- writes. Whether others write stays.
pub record Looks (old new : List Moment) (was_alone is_alone : Bool) : Type 0 where
  pub passes : Goes (λ m. ⊤) old new
  pub unchanged : was_alone ≡ true → new ≡ old
  pub alone : is_alone ≡ was_alone

-- what a crash now may leave
abbrev pub images : List Moment → List ℕ → Type 0
images [] bytes = ⊥
images (m ∷ past) bytes = IsImage m bytes
