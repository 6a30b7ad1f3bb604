-- What rows look at of a history: nothing from below the base of the log that the store was opened from.
use Rattle.std.specs.Prelude.{◌≡◌, ◌⊎◌, ℕ, ◌<◌, ◌≤◌, true, List, [], ◌∷◌, length, take, Some, IfSome}
use Rattle.std.specs.List.{AllByRecursion}
use Rattle.wp_model.specs.declared.entry.Entry.{Entry}
use Rattle.wp_model.specs.declared.version.Version.{Version}
use Rattle.wp_model.specs.Decision.{entry_version}
use Rattle.wp_model.specs.History.{is_undecided}
use Rattle.wp_cuts.specs.Agree.{TellAlike}
use Rattle.wp_replies.specs.declared.client.LabelledSnapshot.{LabelledSnapshot}
use Rattle.wp_replies.specs.Txn.{Txn, Open, Prepared}
use Rattle.wp_replies.specs.Client.{Client}
use Rattle.wp_replies.specs.Progress.{Progress}
use Rattle.wp_replies.specs.Replies.{WasFlushed, Evidence, IsKnown}

-- each of these versions is the history's
abbrev pub HasEach : List Entry → List Version → Type 0
HasEach history [] = Unit {0}
HasEach history (v ∷ versions) = (entry_version history v.number v.key ≡ Some v.value) × HasEach history versions

-- The other list tells alike of all from the base on. That is no later than the opening, than each number that was the flushed one, and
-- than the base of the last edit, whose tables have versions of both.
pub record IsLike (evidence : Evidence) (other : List Entry) : Type 0 where
  pub alike : TellAlike evidence.history other evidence.base
  pub opened : evidence.base ≤ evidence.opened
  pub within : evidence.opened ≤ length evidence.history
  pub flushed : (n : ℕ) → IsKnown evidence (WasFlushed n) → evidence.base ≤ n
  pub installed : evidence.base ≤ evidence.installed.flushed
  pub based : evidence.base ≤ evidence.installed.segment.base
  pub versions : HasEach evidence.history evidence.installed.versions
  pub also : HasEach other evidence.installed.versions

-- the open transaction's pin is from the base on; the prepared one is behind it, or was undecided at a number from there on
abbrev pub TxnIsFrom : ℕ → List Entry → Txn → Type 0
TxnIsFrom base history (Open own) = IfSome own.pin (λ pin. base ≤ pin)
TxnIsFrom base history (Prepared p) = (base < p) ⊎ ((n : ℕ) × (base ≤ n) × (n ≤ length history) × (is_undecided (take n history) p ≡ true))
TxnIsFrom base history other = Unit {0}

-- each snapshot is of a number from the base on
abbrev pub AreFrom : ℕ → List LabelledSnapshot → Type 0
AreFrom base [] = Unit {0}
AreFrom base (first ∷ others) = (base ≤ first.number) × AreFrom base others

-- all that the client has and knows is from the base on
pub record IsFrom (base : ℕ) (history : List Entry) (progress : Progress) (client : Client) : Type 0 where
  pub last : base ≤ progress.last
  pub txn : TxnIsFrom base history client.txn
  pub snapshots : AreFrom base client.snapshots
  pub keys : AllByRecursion (λ k. base ≤ k.told) progress.keys
