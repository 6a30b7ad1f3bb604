-- What is so of the history and its log.
use Rattle.std.specs.Prelude.{◌≡◌, ℕ, ◌≤◌, ◌⊎◌, Bool, true, false, List, [], ◌∷◌, ◌++◌, length, Option, Some, None}
use Rattle.wp_model.specs.declared.entry.Entry.{Entry}
use Rattle.wp_model.specs.declared.entry.Entry.TheVariants.{Close}
use Rattle.wp_model.specs.Legal.{IsLegal, undone_last}
use Rattle.wp_core.specs.States.{WriteState}
use Rattle.wp_model.specs.Record.{IsOneRecord}
use Rattle.wp_core.specs.Sound.Actors.{StartsWith}

abbrev pub logged_part : Bool → List Entry → List Entry
logged_part true pending = pending
logged_part false pending = []

-- a record, as what is left of a group is too; what is left of one after an Undo; or nothing
abbrev pub IsRest : List Entry → Type 0
IsRest entries = (entries ≡ []) ⊎ (IsOneRecord entries ⊎ ((p : ℕ) × (entries ≡ Close p ∷ [])))

pub record IsHistory (opened : List Entry) (t : WriteState) (max : ℕ) : Type 0 where
  pub legal : IsLegal t.history
  pub grown : StartsWith t.history opened
  pub bounded : max ≤ length t.history
  -- the log spells the history, and then the pending record once it is logged
  pub log : t.log ≡ t.history ++ logged_part t.logged t.pending
  pub rest : IsRest t.pending
  pub legal_next : IsLegal (t.history ++ t.pending)
  -- the log may have the record whose append failed
  pub legal_failed : IsLegal (t.history ++ t.failed)
  pub none_failed : t.closed ≡ false → t.failed ≡ []
  pub not_stopped : t.closed ≡ false → t.stopped ≡ false
  pub undo_closes : (p : ℕ) → undone_last t.history ≡ Some p → (t.pending ≡ Close p ∷ []) × (t.logged ≡ true)

-- an entry is pending only while somebody holds the write turn
abbrev pub IsPendingHeld : Option ℕ → List Entry → Type 0
IsPendingHeld holder pending = holder ≡ None → pending ≡ []
