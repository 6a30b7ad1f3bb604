-- Prepared numbers that do not wait to be taken out.
use Rattle.std.specs.Prelude.{◌≡◌, ℕ, ◌≤◌, List, Some}
use Rattle.wp_model.specs.declared.entry.Entry.{Entry}
use Rattle.wp_model.specs.Decision.{decision_of}
use Rattle.wp_core.specs.Cache.{cached}

-- the pair of the number, if that is decided at the bound or before, is in its word
abbrev pub IsInWord : List Entry → List ℕ → ℕ → ℕ → Type 0
IsInWord history cache max p = (c : ℕ) → decision_of history p ≡ Some c → c ≤ max → cached cache p ≡ Some c
