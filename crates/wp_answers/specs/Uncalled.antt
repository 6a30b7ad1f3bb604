-- What a command that memory was wanting for did with the devices.
use Rattle.std.specs.Prelude.{◌≡◌, ◌⊎◌, Err}
use Rattle.wp_text.specs.declared.script.Command.{Command}
use Rattle.wp_text.specs.declared.script.Command.TheVariants as command
use Rattle.wp_shared.specs.Devices.{CalledNoDevice}
use Rattle.wp_shared.specs.Seats.{SharedState, SeatState}
use Rattle.wp_open_txns.specs.declared.error.TxnError.TheVariants.{Memory}
use Rattle.wp_txn.specs.Writes.{RefusesBeforeLog, RefusesBehindRead, writing_direct}
use Rattle.wp_maint.specs.declared.error.MaintError.TheVariants as maint
use Rattle.wp_maint.specs.declared.renewed.RenewError.TheVariants as renewal
use Rattle.wp_maint.specs.Calls.{KeepsOnce, KeepsEach, RefusesBeforeDevices}
use Rattle.wp_maint.specs.Renewal.{Renews}
use Rattle.wp_client.specs.declared.holdings.HeldTxn.{HeldTxn}
use Rattle.wp_client.specs.declared.holdings.HeldTxn.TheVariants as held

-- A settle takes transactions before its call, and leaves them behind it.
pub record SettlesUncalled {D : Type 0} (z : SharedState D) (old new : SeatState) : Type 0 where
  pub mid : SeatState
  pub behind : SeatState
  pub taken : CalledNoDevice old.knows.participant mid.knows.participant
  pub refused : RefusesBeforeLog z mid.knows.participant mid Memory behind
  pub left : CalledNoDevice behind.knows.participant new.knows.participant

-- The call that the command comes to says so itself, where memory was wanting: the seat has no mark more of those that calls of a device
-- leave, and gave back the log, or the tables, or a renewal both, with their devices as they were. Other commands come to no call that
-- calls a device.
abbrev pub CallsNoDevice : {D : Type 0} → SharedState D → SeatState → SeatState → Command → HeldTxn → Type 0
CallsNoDevice z old new (command.Put key value) held.Idle = RefusesBeforeLog z (writing_direct key old.knows.participant) old Memory new
CallsNoDevice z old new (command.Del key) held.Idle = RefusesBeforeLog z (writing_direct key old.knows.participant) old Memory new
CallsNoDevice z old new command.Prepare (held.Open t) = RefusesBeforeLog z old.knows.participant old Memory new
CallsNoDevice z old new command.Commit (held.Open t) = RefusesBeforeLog z old.knows.participant old Memory new
CallsNoDevice z old new command.Commit (held.Prepared t) = RefusesBeforeLog z old.knows.participant old Memory new
CallsNoDevice z old new command.Rollback (held.Prepared t) = RefusesBehindRead z old Memory new
CallsNoDevice z old new (command.Settle names) held.Idle = SettlesUncalled z old new
CallsNoDevice z old new command.Flush was = RefusesBeforeDevices (KeepsOnce z old new) old maint.Memory new
CallsNoDevice z old new command.Compact was = RefusesBeforeDevices (KeepsEach z old new) old maint.Memory new
CallsNoDevice z old new command.Renew was = Renews z old (Err renewal.Memory) new
CallsNoDevice z old new other was = Unit {0}

-- ... or memory was wanting before that call, and the seat is as it was
abbrev pub LeavesDevices : {D : Type 0} → SharedState D → SeatState → SeatState → Command → HeldTxn → Type 0
LeavesDevices z old new command was = (new ≡ old) ⊎ CallsNoDevice z old new command was
