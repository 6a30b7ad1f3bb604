-- A call that leaves the seat's transactions as they were.
use Rattle.std.proofs.Common.{◌≡◌, ℕ, ◌≤◌, List, length, refl, sym, subst, ap, ◌∙◌, Option, Some, None, arith}
use Rattle.std.specs.FinMap as finite
use Rattle.wp_model.specs.History.{entry_at}
use Rattle.wp_model.specs.declared.entry.Entry.{Entry}
use Rattle.wp_model.specs.declared.holder.Holder.TheVariants.{Txn}
use Rattle.wp_model.proofs.Entries.{entry_at_old}
use Rattle.wp_core.specs.Lists.{IsIn}
use Rattle.wp_core.specs.Reading.{Registration}
use Rattle.wp_core.specs.Views.{Event, Fact, locked, unchanged, undecided_at, unprepared}
use Rattle.wp_core.specs.World.{Participant, Transactions}
use Rattle.wp_core.specs.Sound.Actors.{StartsWith}
use Rattle.wp_core.specs.Sound.Views.{guarded_by}
use Rattle.wp_core.proofs.KeepsSeen.{shorter}
use Rattle.wp_shared.specs.Calls.{Continues}
use Rattle.wp_shared.specs.Seats.{SharedState, SeatState}
use Rattle.wp_open_txns.specs.Txn.{OpenState, PreparedState, HasLocked, IsSince, HasOpen, HasPrepared}

-- its keys are those that it locked
pub open_locked : (s : SeatState) (t : OpenState) → HasOpen s t → HasLocked s t.name t.batch t.locked
open_locked s t h = record { transaction = h.transaction; has = h.has; keys = h.keys }

pub prepared_locked : (s : SeatState) (t : PreparedState) → HasPrepared s t → HasLocked s t.name t.batch t.locked
prepared_locked s t h = record { transaction = h.transaction; has = h.has; keys = h.keys }

-- the seat has the transactions that it had, and knows of them what it knew
pub record HasStill (old new : SeatState) : Type 0 where
  pub transactions : new.knows.participant.transactions ≡ old.knows.participant.transactions
  pub direct : new.knows.participant.direct ≡ old.knows.participant.direct
  pub seen : StartsWith new.knows.participant.seen old.knows.participant.seen
  pub notes : (fact : Fact) → guarded_by fact ≡ None → IsIn fact old.knows.notes → IsIn fact new.knows.notes
  pub past : (event : Event) → IsIn event old.knows.participant.past → IsIn event new.knows.participant.past

pub still : {D : Type 0} (z : SharedState D) (old new : SeatState) (p : Participant) → p.transactions ≡ old.knows.participant.transactions → p.direct ≡ old.knows.participant.direct
    → ((event : Event) → IsIn event old.knows.participant.past → IsIn event p.past) → Continues z old new p → HasStill old new
still z old new p same direct past goes = record {
  transactions = ap (λ (x : Participant). x.transactions) goes.participant ∙ same;
  direct = ap (λ (x : Participant). x.direct) goes.participant ∙ direct;
  seen = goes.seen;
  notes = goes.notes;
  past = λ event there. subst (λ (x : Participant). IsIn event x.past) (sym goes.participant) (past event there);
}

-- it has the registrations that it had, and so its pin
pub pinned_still : {D : Type 0} (z : SharedState D) (old new : SeatState) (p : Participant) (t : OpenState) → p.registered ≡ old.knows.participant.registered → Continues z old new p → HasOpen old t
    → (r : Registration) → t.pin ≡ Some r → IsIn r new.knows.participant.registered
pinned_still z old new p t same goes h r is = subst (IsIn r) (sym (ap (λ (x : Participant). x.registered) goes.participant ∙ same)) (h.pinned r is).0

module _ (old new : SeatState) (k : HasStill old new) where
  pub longer : length old.knows.participant.seen ≤ length new.knows.participant.seen
  longer = shorter new.knows.participant.seen old.knows.participant.seen k.seen

  pub since_still : (name key : List ℕ) (pin : Option Registration) → IsSince old name key pin → IsSince new name key pin
  since_still name key pin h = let low = longer in record { number = h.number; noted = k.notes (unchanged name key h.number) refl h.noted; seen = (let s = h.seen in omega (arith, low, s)); pinned = h.pinned }

  -- its pin is registered still
  pub open_still : (t : OpenState) → HasOpen old t → ((r : Registration) → t.pin ≡ Some r → IsIn r new.knows.participant.registered) → HasOpen new t
  open_still t h pinned = record {
    transaction = h.transaction;
    has = ap (λ (ts : Transactions). finite.get ts t.name) k.transactions ∙ h.has;
    batch_is = h.batch_is;
    keys = h.keys;
    noted = k.notes (unprepared t.name) refl h.noted;
    few = h.few;
    came = λ key has. k.past (locked key (Txn t.name)) (h.came key has);
    since = λ key has. since_still t.name key t.pin (h.since key has);
    pinned = λ r is. let low = longer in (pinned r is, (let s = (h.pinned r is).1 in omega (arith, low, s)));
  }

  pub prepared_still : (t : PreparedState) → HasPrepared old t → HasPrepared new t
  prepared_still t h = let low = longer in record {
    transaction = h.transaction;
    has = ap (λ (ts : Transactions). finite.get ts t.name) k.transactions ∙ h.has;
    batch_is = h.batch_is;
    keys = h.keys;
    noted = k.notes (undecided_at t.name t.number) refl h.noted;
    seen = (let s = h.seen in omega (arith, low, s));
    stands = ap (λ (es : List Entry). entry_at es t.number) k.seen.1 ∙ entry_at_old old.knows.participant.seen k.seen.0 t.number h.seen ∙ h.stands;
  }
