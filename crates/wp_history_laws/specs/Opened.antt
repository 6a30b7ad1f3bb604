-- Names and keys, as an opened history leaves them.
use Rattle.std.specs.Prelude.{◌≡◌, ℕ, List, Option, Some, None}
use Rattle.std.specs.FinMap as finite
use Rattle.wp_model.specs.History.{name_at, named, holder_of}
use Rattle.wp_model.specs.LockState.{LockState}
use Rattle.wp_model.specs.declared.entry.Entry.{Entry}
use Rattle.wp_model.specs.declared.holder.Holder.{Holder}
use Rattle.wp_model.specs.declared.holder.Holder.TheVariants.{Txn}

-- the transaction that holds the key by an undecided prepare
abbrev pub prepare_holding : List Entry → Option ℕ → Option Holder
prepare_holding history None = None
prepare_holding history (Some p) = Some (Txn (name_at history p))

-- under the name of an undecided prepare, no client
abbrev pub named_by : Option ℕ → Option (Option (List ℕ))
named_by None = None
named_by (Some p) = Some None

-- just the names of undecided prepares are live, had by nobody, and just their keys are held
pub record AreOpened (history : List Entry) (t : LockState) : Type 0 where
  pub names : (name : List ℕ) → finite.get t.names name ≡ named_by (named history name)
  pub keys : (key : List ℕ) → finite.get t.keys key ≡ prepare_holding history (holder_of history key)
  pub labels : t.labels ≡ finite.empty
