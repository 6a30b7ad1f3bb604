-- What a call leaves of a seat, and of what the client has there.
use Rattle.std.proofs.Common.{◌≡◌, inl, inr, ℕ, false, true≢false, List, [], ◌++◌, length, map, refl, sym, subst, ap, ◌∙◌, arith, Some, None}
use Rattle.std.specs.Prelude.{◌+◌}
use Rattle.std.specs.Str.{bytes_eq}
use Rattle.std.proofs.lemmas.Bool.{cases_Bool}
use Rattle.std.proofs.lemmas.Slice.Eq.{bytes_eq-Decides}
use Rattle.std.specs.FinMap as finite
use mathlib.Core.List.{append-nil}
use Rattle.wp_core.specs.Lists.{IsIn}
use Rattle.wp_core.specs.Reading.{Registration}
use Rattle.wp_core.specs.World.{Transaction, Participant, Transactions}
use Rattle.wp_model.proofs.Keyed.{else_inserted, at_removed, else_removed}
use Rattle.wp_core.proofs.KeepsSeen.{shorter}
use Rattle.wp_core.proofs.PastsGrow.{in_front}
use Rattle.wp_shared.specs.Calls.{ContinuesWith, Continues}
use Rattle.wp_shared.specs.Seats.{SharedState, SeatState, IsFree}
use Rattle.wp_core.specs.Views.{Event, Fact}
use Rattle.wp_open_txns.specs.Calls.{Keeps}
use Rattle.wp_open_txns.proofs.Still.{HasStill, still, open_still, prepared_still}
use Rattle.wp_text.specs.declared.script.Command.{Command}
use Rattle.wp_replies.specs.Client.{Client}
use Rattle.wp_replies.proofs.Within.{within_more}
use Rattle.wp_client.specs.declared.holdings.HeldTxn.{HeldTxn}
use Rattle.wp_client.specs.declared.holdings.HeldTxn.TheVariants as held
use Rattle.wp_client.specs.Alone.{log_faults, tables_faults}
use Rattle.wp_client.proofs.Alone.Published.{no_device_fault}
use Rattle.wp_client.specs.Answers.{IsExplained, findings, Stays, BreaksOff}
use Rattle.wp_client.specs.Holdings.{HoldingsState, labelled, HasTxn, is_named, times_registered, registration_if, pin_in, HoldsTxn, Holds, HoldsFrom}

-- it stays in its place, of its client
pub in_place : {D : Type 0} (Kept : Fact → Type 0) (z : SharedState D) (old new : SeatState) (after : Participant) → ContinuesWith Kept z old new after → after.client ≡ old.knows.participant.client → Stays old new
in_place Kept z old new after goes same = record {
  same_by = goes.same_by;
  made = goes.made;
  joined = goes.joined;
  client = ap (λ (p : Participant). p.client) goes.participant ∙ same;
  seen = goes.seen;
}

-- the pin of the transaction, if it has one, is registered
abbrev pub PinIsIn : HeldTxn → List Registration → Type 0
PinIsIn t registered = (r : Registration) → pin_in t ≡ Some r → IsIn r registered

pub pin_there : (s : SeatState) (t : HeldTxn) → HasTxn s t → PinIsIn t s.knows.participant.registered
pin_there s held.Idle h r is = absurd cc
pin_there s (held.Open t) h r is = (h.pinned r is).0
pin_there s (held.Prepared t) h r is = absurd cc

-- what is in the first past is in the second
abbrev pub KeepsPast : List Event → List Event → Type 0
KeepsPast before after = (event : Event) → IsIn event before → IsIn event after

pub past_same : (past : List Event) → KeepsPast past past
past_same past event there = there

pub past_more : (past events : List Event) → KeepsPast past (past ++ events)
past_more past events event there = in_front event past events there

txn_still : (old new : SeatState) → HasStill old new → (t : HeldTxn) → PinIsIn t new.knows.participant.registered → HasTxn old t → HasTxn new t
txn_still old new k held.Idle pinned h = tt
txn_still old new k (held.Open t) pinned h = open_still old new k t h pinned
txn_still old new k (held.Prepared t) pinned h = prepared_still old new k t h

-- The seat goes on with the transactions that it had.
pub holds_txn_still : {D : Type 0} (z : SharedState D) (old new : SeatState) → IsFree z.table new → HasStill old new → (t : HeldTxn) → PinIsIn t new.knows.participant.registered → HoldsTxn z old t → HoldsTxn z new t
holds_txn_still z old new free k t pinned has = record {
  free = free;
  direct = k.direct ∙ has.direct;
  has = txn_still old new k t pinned has.has;
  only = λ name other. ap (λ (ts : Transactions). finite.get ts name) k.transactions ∙ has.only name other;
}

-- ... and with its registrations: the client has what it had
pub holds_still : {D : Type 0} (z : SharedState D) (old new : SeatState) (after : Participant) → after.transactions ≡ old.knows.participant.transactions → after.direct ≡ old.knows.participant.direct → after.registered ≡ old.knows.participant.registered
    → Continues z old new after → KeepsPast old.knows.participant.past after.past → (h : HoldingsState) → Holds z old h → Holds z new h
holds_still z old new after transactions direct registered goes past h has = record {
  txn = holds_txn_still z old new goes.free (still z old new after transactions direct past goes) h.txn
      (λ r is. subst (IsIn r) (sym (ap (λ (p : Participant). p.registered) goes.participant ∙ registered)) (pin_there old h.txn has.txn.has r is)) has.txn;
  registered = λ r. ap (times_registered r) (ap (λ (p : Participant). p.registered) goes.participant ∙ registered) ∙ has.registered r;
  within = within_more (length old.knows.participant.seen) (length new.knows.participant.seen) (map labelled h.snapshots) (shorter new.knows.participant.seen old.knows.participant.seen goes.seen) has.within;
  distinct = has.distinct;
}

pub keeps_holds : {D : Type 0} (z : SharedState D) (old new : SeatState) → Keeps z old new → (h : HoldingsState) → Holds z old h → Holds z new h
keeps_holds z old new goes h has = holds_still z old new old.knows.participant refl refl refl goes (past_same old.knows.participant.past) h has

-- ---- the client has another transaction

-- the second registrations are the first ones, with the pin of the second transaction in place of that of the first
abbrev pub Repins : (before after : List Registration) → HeldTxn → HeldTxn → Type 0
Repins before after t u = (r : Registration) → times_registered r after + times_registered r (registration_if (pin_in t)) ≡ times_registered r before + times_registered r (registration_if (pin_in u))

-- no other word
named_not : (name other : List ℕ) → bytes_eq name other ≡ false → (other ≡ name → ⊥)
named_not name other ne same = true≢false (sym ((bytes_eq-Decides name other).1 (sym same)) ∙ ne)

module _ (ts : Transactions) (name : List ℕ) (others : (other : List ℕ) → bytes_eq name other ≡ false → finite.get ts other ≡ None) where
  -- the transaction of this name is the only one
  pub only_this : (x : Transaction) (other : List ℕ) → bytes_eq name other ≡ false → finite.get (finite.insert ts name x) other ≡ None
  only_this x other ne = else_inserted ts name x other (named_not name other ne) ∙ others other ne

  -- ... or there is none any more
  pub none_left : (other : List ℕ) → finite.get (finite.remove ts name) other ≡ None
  none_left other = elim (cases_Bool (bytes_eq name other)) [
    | inl same ↦ at_removed ts name other (sym ((bytes_eq-Decides name other).0 same))
    | inr ne ↦ else_removed ts name other (named_not name other ne) ∙ others other ne
  ]

module _ {D : Type 0} (Kept : Fact → Type 0) (z : SharedState D) (old new : SeatState) (after : Participant) (goes : ContinuesWith Kept z old new after) where
  -- the seat has this transaction, and no other
  pub has_now : (t u : HeldTxn) → after.direct ≡ old.knows.participant.direct → HoldsTxn z old t → HasTxn new u → ((name : List ℕ) → is_named u name ≡ false → finite.get after.transactions name ≡ None) → HoldsTxn z new u
  has_now t u direct was has only = record {
    free = goes.free;
    direct = ap (λ (p : Participant). p.direct) goes.participant ∙ (direct ∙ was.direct);
    has = has;
    only = λ name other. ap (λ (p : Participant). finite.get p.transactions name) goes.participant ∙ only name other;
  }

  -- the client has it in place of the one that it had, and its snapshots are as they were
  pub holds_now : (t u : HeldTxn) → Repins old.knows.participant.registered after.registered t u → HoldsTxn z new u → HoldsFrom z old new t u
  holds_now t u registered now h is has = record {
    txn = now;
    registered = λ r.
        let here = ap (times_registered r) (ap (λ (p : Participant). p.registered) goes.participant) in
        let pins = registered r in
        let was = has.registered r in
        let same = ap (λ (x : HeldTxn). times_registered r (registration_if (pin_in x))) is in
        omega (arith, here, pins, was, same);
    within = within_more (length old.knows.participant.seen) (length new.knows.participant.seen) (map labelled h.snapshots) (shorter new.knows.participant.seen old.knows.participant.seen goes.seen) has.within;
    distinct = has.distinct;
  }

  -- memory was wanting, once the seat had done this
  pub broke_off_after : (events : List Event) (was : Client) (c : Command) → after.client ≡ old.knows.participant.client → after.own ≡ old.knows.participant.own → after.past ≡ old.knows.participant.past ++ events
      → ((event : Event) → IsIn event events → IsExplained old.knows.participant.client was.txn c None event) → log_faults events ≡ 0 → tables_faults events ≡ 0 → findings events ≡ 0 → BreaksOff old new was c
  broke_off_after events was c client own past explained log tables none = record {
    stays = in_place Kept z old new after goes client;
    own = ap (λ (p : Participant). p.own) goes.participant ∙ own;
    events = events;
    past = ap (λ (p : Participant). p.past) goes.participant ∙ past;
    explained = explained;
    log_failed = no_device_fault events log;
    log_stopped = log;
    tables_failed = tables;
    none_found = none;
  }

-- ---- where memory was wanting

-- the seat did nothing that it remembers
pub broke_off : {D : Type 0} (z : SharedState D) (old new : SeatState) (was : Client) (c : Command) → Keeps z old new → BreaksOff old new was c
broke_off z old new was c goes = broke_off_after _ z old new old.knows.participant goes [] was c refl refl (sym (append-nil old.knows.participant.past)) (λ event there. absurd there) refl refl refl
