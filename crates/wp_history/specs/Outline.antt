-- What is judged of a history before its values are known, and what is left to judge then.
use Rattle.std.specs.Prelude.{◌≡◌, ℕ, ◌-◌, ◌<◌, ◌≤◌, Bool, ◌||◌, List, [], ◌∷◌, ◌++◌, take, Option, Some, None, slice_get, if◌then◌else◌}
use Rattle.std.specs.List.{list_any}
use Rattle.std.specs.Str.{bytes_eq}
use Rattle.wp_model.specs.declared.carried.Carried.{Carried}
use Rattle.wp_model.specs.declared.entry.Entry.{Entry}
use Rattle.wp_model.specs.declared.version.Version.{Version}
use Rattle.wp_model.specs.Batch.{key_of}
use Rattle.wp_model.specs.History.{entry_at, is_changed}
use Rattle.wp_model.specs.Legal.{IsLegal, IsOrderlyNext, NamesUndecided, RestoresPrior, UndoIsClosed}
use Rattle.wp_cuts.specs.Cut.{Cut, cut_at, full_of}
use Rattle.wp_history.specs.History.{RoomyHistory}

-- ---- what a base carries

-- a prepare has the name or a key of another
abbrev pub collides : Carried → Carried → Bool
collides x y = bytes_eq x.name y.name || list_any (λ change. is_changed y.batch (key_of change)) x.batch

-- the number of the first prepare that collides with one before it, where those are before all
abbrev pub collision_behind : List Carried → List Carried → Option ℕ
collision_behind before [] = None
collision_behind before (x ∷ xs) = if list_any (collides x) before then Some x.number else collision_behind (before ++ x ∷ []) xs

abbrev pub collision_of : List Carried → Option ℕ
collision_of carried = collision_behind [] carried

-- ---- what it has

-- each entry behind the base may follow those before it, but for what an undo restores
abbrev pub AreOrderly : RoomyHistory → Type 0
AreOrderly h = (n : ℕ) (entry : Entry) → h.base ≤ n → slice_get h.entries n ≡ Some entry → IsOrderlyNext (take n h.entries) entry

-- what the entry decides or undoes is undecided, and each undo is closed at once
pub record MayDecide (before : List Entry) (entry : Entry) : Type 0 where
  pub names_undecided : NamesUndecided before entry
  pub undo_is_closed : UndoIsClosed before entry

-- ---- with the versions of a store

abbrev pub cut_in : RoomyHistory → Cut
cut_in h = cut_at h.entries h.base

-- the list that its cut stands for with the versions
abbrev pub full_with : RoomyHistory → List Version → List Entry
full_with h versions = full_of (cut_in h) versions

-- each undo from the base on and up to that number restores what its keys had
abbrev pub RestoreUpTo : RoomyHistory → ℕ → Type 0
RestoreUpTo h m = (n : ℕ) (entry : Entry) → h.base ≤ n → n < m → slice_get h.entries n ≡ Some entry → RestoresPrior (take n h.entries) entry

-- with that number stands the first undo that does not restore what its keys had
pub record IsFirstWrong (h : RoomyHistory) (number : ℕ) : Type 0 where
  pub behind : h.base < number
  pub before : RestoreUpTo h (number - 1)
  pub entry : Entry
  pub there : entry_at h.entries number ≡ Some entry
  pub wrong : RestoresPrior (take (number - 1) h.entries) entry → ⊥

-- so the list is legal up to the entry before it, and not with it
pub record IsIllegalFrom (full : List Entry) (number : ℕ) : Type 0 where
  pub before : IsLegal (take (number - 1) full)
  pub entry : Entry
  pub there : entry_at full number ≡ Some entry
  pub wrong : RestoresPrior (take (number - 1) full) entry → ⊥
