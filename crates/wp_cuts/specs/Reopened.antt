-- What a store's opening needs of a cut and the versions of its tables.
use Rattle.std.specs.Prelude.{◌≡◌, ℕ, ◌≤◌, true, List, length}
use Rattle.wp_model.specs.History.{value_at}
use Rattle.wp_model.specs.declared.entry.Entry.{Entry}
use Rattle.wp_model.specs.declared.version.Version.{Version}
use Rattle.wp_model.specs.Covered.{is_among, IsCovered}
use Rattle.wp_model.specs.Legal.{IsLegal}
use Rattle.wp_cuts.specs.Cut.{Cut, base_value, full_of}
use Rattle.wp_cuts.specs.LegalCut.{IsLegalCut, AreBelow}
use Rattle.wp_cuts.specs.Agree.{AgreeFrom}

-- the base is among the numbers, and each of them, and the one from which all are meant, is from the base to the last
pub record AreFromBase (history : List Entry) (base : ℕ) (numbers : List ℕ) (from : ℕ) : Type 0 where
  pub listed : is_among numbers base ≡ true
  pub above : (n : ℕ) → is_among numbers n ≡ true → base ≤ n
  pub within : (n : ℕ) → is_among numbers n ≡ true → n ≤ length history
  pub later : base ≤ from

-- The cut is legal over the versions, and its full list, which they cover too, agrees with the history from the base on.
pub record IsReopened (history : List Entry) (c : Cut) (versions : List Version) (numbers : List ℕ) (from : ℕ) : Type 0 where
  pub legal : IsLegalCut c (base_value c versions)
  pub below : AreBelow c versions
  pub full : IsLegal (full_of c versions)
  pub values : (key : List ℕ) → value_at history key c.base ≡ base_value c versions key
  pub agree : AgreeFrom history (full_of c versions) c.base
  pub covered : IsCovered versions (full_of c versions) numbers from
