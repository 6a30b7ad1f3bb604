-- A seat that goes on twice goes on.
use Rattle.std.proofs.Common.{◌≡◌, ⊎_elim, inl, inr, ℕ, ◌+◌, ◌≤◌, Bool, true, false, List, [], ◌∷◌, ◌++◌, length, refl, sym, subst, ap, ◌∙◌}
use Rattle.wp_model.specs.Legal.{IsLegal}
use Rattle.wp_model.specs.declared.entry.Entry.{Entry}
use Rattle.wp_core.specs.Views.{Event, Fact, stopped, based_at, log_failed}
use Rattle.wp_core.specs.World.{Participant}
use Rattle.wp_core.proofs.PastsGrow.{in_front}
use Rattle.wp_rule.specs.Words.{IsAt}
use Rattle.wp_records.specs.Writing.{FoundLog}
use Rattle.wp_records.specs.Records.{numbers_behind, IsAboutNone, IsUncalled}
use Rattle.wp_shared.specs.Calls.{ContinuesWith, Continues, with_events}
use Rattle.wp_shared.specs.Limits.{limit_at}
use Rattle.wp_shared.specs.Seats.{SharedState, SeatState, IsFree, place_at}
use Rattle.wp_shared.proofs.Onward.{starts_on}
use Rattle.wp_open_txns.specs.declared.error.TxnError.{TxnError}
use Rattle.wp_open_txns.specs.declared.error.TxnError.TheVariants.{Memory, NumbersFull, LogFault, Stopped}
use Rattle.wp_open_txns.proofs.Still.{HasStill, still}
use Rattle.wp_txn.specs.Writes.{HasPut, RefusesWith, Refuses, SawNoMore, HadLog, LeavesDevice}

-- the participant that it is in the end, whatever it had seen on the way
pub chain : {D : Type 0} (Stays First Second : Fact → Type 0) (z : SharedState D) (a b c : SeatState) (P Q R : Participant) → ((fact : Fact) → Stays fact → First fact) → ((fact : Fact) → Stays fact → Second fact)
    → ContinuesWith First z a b P → ContinuesWith Second z b c Q → (record Q { seen = c.knows.participant.seen } ≡ record R { seen = c.knows.participant.seen }) → ContinuesWith Stays z a c R
chain Stays First Second z a b c P Q R one two first second same = record {
  free = second.free;
  same_by = second.same_by ∙ first.same_by;
  seen = starts_on a.knows.participant.seen b.knows.participant.seen c.knows.participant.seen first.seen second.seen;
  participant = second.participant ∙ same;
  notes = λ fact stays there. second.notes fact (two fact stays) (first.notes fact (one fact stays) there);
  made = second.made ∙ first.made;
  joined = second.joined ∙ first.joined;
}

-- the log was found by whoever the participant was then but for what it had seen
abbrev found_from : {D : Type 0} (z : SharedState D) (old mid : SeatState) (p : Participant) (history now : List Entry) (b : Bool) → Continues z old mid p → now ≡ history → FoundLog z mid mid.knows.participant history b
    → FoundLog z old p now b
found_from z old mid p history now b to is_now found = record {
  world = found.world;
  actor = found.actor;
  there = subst (λ (n : ℕ). IsAt (place_at z n) found.actor found.world) to.same_by found.there;
  held = found.held;
  participant = found.participant ∙ ap (λ (x : Participant). record x { seen = history }) to.participant ∙ ap (λ (h : List Entry). record p { seen = h }) (sym is_now);
  notes = λ fact loose there. found.notes fact loose (to.notes fact loose there);
  made = found.made ∙ to.made;
  joined = found.joined ∙ to.joined;
  history_is = found.history_is ∙ sym is_now;
  closed_is = found.closed_is;
}

-- what was put by a part of a call, which goes on from this participant, was put by the call
pub put_within : {D : Type 0} {middle : Participant} (Part Stays : Fact → Type 0) (z : SharedState D) (old mid left new : SeatState) (found after : Participant) (history entries : List Entry) → Continues z old mid found
    → HasPut Part z mid left mid.knows.participant middle history entries → new.knows.participant.seen ≡ left.knows.participant.seen
    → ContinuesWith (λ fact. Stays fact × IsAboutNone history entries fact) z old new (record after { own = after.own ++ numbers_behind (length history) entries }) → HasPut Stays z old new found after history entries
put_within Part Stays z old mid left new found after history entries to put same goes = record {
  grown = starts_on old.knows.participant.seen mid.knows.participant.seen history to.seen put.grown;
  found_log = found_from z old mid found history history false to refl put.found_log;
  seen = same ∙ put.seen;
  within = put.within;
  appended = put.appended;
  goes_on = goes;
}

-- the log's device was left alone by a part of a call, before which the seat saw no more, and so by the call
pub left_within : {D : Type 0} (z : SharedState D) (old mid left new : SeatState) (found : Participant) → Continues z old mid found → new.knows.participant.seen ≡ left.knows.participant.seen → SawNoMore old mid
    → LeavesDevice z mid.knows.participant mid left → LeavesDevice z found old new
left_within z old mid left new found to same saw d = ⊎_elim
    (λ (e : SawNoMore mid left). inl (same ∙ e ∙ saw))
    (λ (k : (closed : Bool) × (found_log : FoundLog z mid mid.knows.participant left.knows.participant.seen closed) × HadLog z found_log.world.writes IsUncalled).
    inr (k.0, found_from z old mid found left.knows.participant.seen new.knows.participant.seen k.0 to same k.1, k.2))
    d

-- ... and what it was refused for, the call was
module _ {D : Type 0} {Kept : Fact → Type 0} (z : SharedState D) (old mid left new : SeatState) (needed : ℕ) (found after : Participant) (to : Continues z old mid found)
    (same : new.knows.participant.seen ≡ left.knows.participant.seen) (plain : Continues z mid left mid.knows.participant → ContinuesWith Kept z old new after)
    (more : (events : List Event) → Continues z mid left (with_events events mid.knows.participant) → ContinuesWith Kept z old new (with_events events after)) where
  abbrev found_in : (b : Bool) → FoundLog z mid mid.knows.participant left.knows.participant.seen b → FoundLog z old found new.knows.participant.seen b
  found_in b k = found_from z old mid found left.knows.participant.seen new.knows.participant.seen b to same k

  same_length : length left.knows.participant.seen ≡ length new.knows.participant.seen
  same_length = ap (λ (h : List Entry). length h) (sym same)

  pub refused_within : (Asks More : List Entry → Type 0) → ((entries : List Entry) → Asks entries → IsLegal (new.knows.participant.seen ++ entries) → More entries) → (why : TxnError) → Refuses z mid left needed Asks mid.knows.participant mid.knows.participant why → RefusesWith Kept z old new needed More found after why
  refused_within Asks More wider Memory c = plain c
  refused_within Asks More wider (Stopped n) c = (c.0 ∙ same_length, found_in true c.1, more (stopped n ∷ []) c.2)
  refused_within Asks More wider (NumbersFull published limit) c = (c.0 ∙ same_length, c.1, found_in false c.2, c.3, more (based_at published c.2.world.installed.last.segment.base ∷ []) c.4)
  refused_within Asks More wider LogFault c =
      let legal = subst (λ (h : List Entry). IsLegal (h ++ c.2.0)) (sym same) c.2.3 in (
        found_in false c.0,
        subst (λ (n : ℕ). n + needed ≤ limit_at z c.0.world.installed.last.segment.base) same_length c.1,
        (c.2.0, wider c.2.0 c.2.1 legal, more (log_failed c.2.0 ∷ []) c.2.2, legal, c.2.4),
      )
  refused_within Asks More wider other c = c

-- what is refused whatever is asked for
pub refused_for : {D : Type 0} (z : SharedState D) (old new : SeatState) (needed : ℕ) (Asks : List Entry → Type 0) (found after : Participant) (why : TxnError) → Refuses z old new needed (λ asked. ⊥) found after why → Refuses z old new needed Asks found after why
refused_for z old new needed Asks found after LogFault c = absurd c.2.1
refused_for z old new needed Asks found after other c = c

-- ---- a refusal leaves transactions as they were

-- the participant is what it was, but for what it remembers
remembers_still : {D : Type 0} (z : SharedState D) (old new : SeatState) (events : List Event) → Continues z old new (with_events events old.knows.participant) → HasStill old new
remembers_still z old new events goes = still z old new (with_events events old.knows.participant) refl refl (λ event there. in_front event old.knows.participant.past events there) goes

pub refused_still : {D : Type 0} (z : SharedState D) (old new : SeatState) (needed : ℕ) (Asks : List Entry → Type 0) (why : TxnError) → Refuses z old new needed Asks old.knows.participant old.knows.participant why → HasStill old new
refused_still z old new needed Asks Memory c = still z old new old.knows.participant refl refl (λ event there. there) c
refused_still z old new needed Asks (Stopped n) c = remembers_still z old new (stopped n ∷ []) c.2
refused_still z old new needed Asks (NumbersFull published limit) c = remembers_still z old new (based_at published c.2.world.installed.last.segment.base ∷ []) c.4
refused_still z old new needed Asks LogFault c = remembers_still z old new (log_failed c.2.0 ∷ []) c.2.2
refused_still z old new needed Asks other c = absurd c

-- ... and its snapshots too
pub refused_registered : {D : Type 0} (z : SharedState D) (old new : SeatState) (needed : ℕ) (Asks : List Entry → Type 0) (why : TxnError) → Refuses z old new needed Asks old.knows.participant old.knows.participant why
    → new.knows.participant.registered ≡ old.knows.participant.registered
refused_registered z old new needed Asks Memory c = ap (λ (p : Participant). p.registered) c.participant
refused_registered z old new needed Asks (Stopped n) c = ap (λ (p : Participant). p.registered) c.2.participant
refused_registered z old new needed Asks (NumbersFull published limit) c = ap (λ (p : Participant). p.registered) c.4.participant
refused_registered z old new needed Asks LogFault c = ap (λ (p : Participant). p.registered) c.2.2.participant
refused_registered z old new needed Asks other c = absurd c

pub refused_free : {D : Type 0} (z : SharedState D) (old new : SeatState) (needed : ℕ) (Asks : List Entry → Type 0) (why : TxnError) → Refuses z old new needed Asks old.knows.participant old.knows.participant why → IsFree z.table new
refused_free z old new needed Asks Memory c = c.free
refused_free z old new needed Asks (Stopped n) c = c.2.free
refused_free z old new needed Asks (NumbersFull published limit) c = c.4.free
refused_free z old new needed Asks LogFault c = c.2.2.free
refused_free z old new needed Asks other c = absurd c
