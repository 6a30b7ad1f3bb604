-- What the sessions of a script leave: replies, a history and devices, and that the one history explains the replies.
use Rattle.std.specs.Prelude.{◌≡◌, ℕ, ◌+◌, ◌<◌, ◌≤◌, Bool, true, false, List, [], ◌∷◌, length}
use Rattle.wp_model.specs.declared.entry.Entry.{Entry}
use Rattle.wp_text.specs.declared.script.Part.{Part}
use Rattle.wp_core.specs.Lists.{IsIn, one_if}
use Rattle.wp_core.specs.Sound.Pasts.{is_log_fault, times_past, past_of}
use Rattle.wp_core.specs.Views.{Event, log_stopped}
use Rattle.wp_parts.specs.Devices.{DevicesLeft}
use Rattle.wp_shared.specs.Ended.{IsEnded, of_seats}
use Rattle.wp_shared.specs.Seats.{SharedState, SeatState}
use Rattle.wp_replies.specs.Exact.{IsExact}
use Rattle.wp_replies.specs.Explains.{Faults, AreFirstParts, Explains}
use Rattle.wp_replies.specs.Known.{StoredState}
use Rattle.wp_replies.specs.Replies.{Untaken}
use Rattle.wp_client.specs.Alone.{limits_of}
use Rattle.wp_client.specs.Holdings.{no_holdings, Holds}
use Rattle.wp_threads.specs.Over.{Answered, replies_of}

-- the log was stopped by it, in a renewal
abbrev pub is_log_stop : Event → Bool
is_log_stop log_stopped = true
is_log_stop other = false

module _ {D : Type 0} {z : SharedState D} {seats : List SeatState} {history : List Entry} {left : DevicesLeft} (ended : IsEnded z seats history left) where
  -- what the store was opened to, and what is left of it
  abbrev pub found_in : StoredState
  found_in = record { history = z.opened; edit = ended.first_edit }

  abbrev pub left_in : StoredState
  left_in = record { history = history; edit = ended.edits.last }

  -- What its devices failed to take, and how often they failed. A renewal stops the log behind a fault of the tables.
  abbrev pub failed_in : Untaken
  failed_in = record { entries = ended.writes.failed; edit = ended.edits.failed }

  abbrev pub faults_in : Faults
  faults_in = record { log = times_past is_log_fault (of_seats past_of seats); tables = one_if ended.edits.halted; renewals = times_past is_log_stop (of_seats past_of seats) }

-- where a client's answers are whole, all commands of its part have run
abbrev pub AreWholeParts : List Part → List Part → List Answered → Type 0
AreWholeParts [] [] [] = Unit {0}
AreWholeParts (part ∷ parts) (first ∷ firsts) (a ∷ answered) = (a.whole ≡ true → first ≡ part) × AreWholeParts parts firsts answered
AreWholeParts parts firsts answered = ⊥

-- The store ended, with all its seats handed in, which hold nothing: no transaction and no snapshot. The clients were answered so, each to
-- the first of its commands, which are all where its answers are whole; and the history and the devices that are left explain the
-- replies. With one client they are just what is due. No entry since the opening has a number above the limit.
pub record HaveRun {D : Type 0} (z : SharedState D) (script : List Part) (answered : List Answered) (history : List Entry) (left : DevicesLeft) : Type 0 where
  pub seats : List SeatState
  pub ended : IsEnded z seats history left
  pub empty : (s : SeatState) → IsIn s seats → Holds z s no_holdings
  pub run : List Part
  pub first : AreFirstParts script run
  pub whole : AreWholeParts script run answered
  pub explained : Explains (limits_of z) (faults_in ended) script run (found_in ended) (left_in ended) (failed_in ended) (replies_of answered)
  pub within : (n : ℕ) → length z.opened < n → n ≤ length history → n ≤ z.limit
  -- the log was closed where its device failed, or where a renewal stopped it, which it does behind a fault of the tables alone
  pub closed : (faults_in ended).log + (faults_in ended).renewals ≡ one_if ended.writes.closed
  pub by_device : 1 ≤ (faults_in ended).log → (ended.writes.closed ≡ true) × (ended.writes.stopped ≡ false)
  pub behind : 1 ≤ (faults_in ended).renewals → (ended.edits.halted ≡ true) × (ended.writes.stopped ≡ true) × (ended.writes.failed ≡ [])
  pub exact : IsExact (limits_of z) (found_in ended) (left_in ended) (failed_in ended) run (replies_of answered)
