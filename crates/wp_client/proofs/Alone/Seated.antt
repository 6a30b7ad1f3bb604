-- What a call leaves of a seat that is alone, where the seat then stands in a world: the history is as the store has it, but for
-- what the call put there.
use Rattle.std.proofs.Common.{◌≡◌, ⊎_elim, ℕ, ◌+◌, ◌≤◌, Bool, true, List, [], ◌∷◌, ◌++◌, length, refl, sym, subst, ap, ◌∙◌, append-nil, is_some, arith}
use Rattle.std.specs.Prelude.{◌↔◌}
use Rattle.std.specs.FinMap as finite
use mathlib.Core.Option.{some}
use lib.ListN.{get_elem?}
use Rattle.wp_model.specs.declared.entry.Entry.{Entry}
use Rattle.wp_model.specs.Flushed.{InstalledEdit}
use Rattle.wp_model.specs.LockState.{Labels}
use Rattle.wp_core.specs.Alone.{IsAlone}
use Rattle.wp_core.specs.Lists.{IsIn, one_if}
use Rattle.wp_core.specs.World.{Participant, Actor, World}
use Rattle.wp_core.specs.Sound.Actors.{StartsWith}
use Rattle.wp_core.specs.Sound.Pasts.{closes_log, is_tables_fault, last_after, last_installed}
use Rattle.wp_core.specs.Views.{Event, Fact, told}
use Rattle.wp_core.proofs.KeepsSeen.{shorter}
use Rattle.wp_core.proofs.PastsGrow.{in_front}
use Rattle.wp_rule.specs.Words.{IsAt}
use Rattle.wp_shared.specs.Calls.{ContinuesWith}
use Rattle.wp_shared.specs.Seats.{SharedState, SeatState, Stands, place_at}
use Rattle.wp_shared.proofs.Onward.{starts_on}
use Rattle.wp_open_txns.specs.Calls.{StoodWithLocks}
use Rattle.wp_replies.specs.Due.{Store}
use Rattle.wp_client.specs.Alone.{log_faults, tables_faults, IsOnly, IsStoreOf}
use Rattle.wp_client.proofs.Alone.Published.{total_both, in_both, whole_seen}
use Rattle.wp_client.proofs.Alone.Worlds.{has_seen, only_of, seen_whole}

-- ---- events

pub last_over : (first : InstalledEdit) (past events : List Event) → last_installed first (past ++ events) ≡ last_installed (last_installed first past) events
last_over first [] events = refl
last_over first (e ∷ past) events = last_over (last_after first e) past events

-- by these the devices of the tables did not fail, no edit was installed and nothing was told
pub record LeaveTables (events : List Event) : Type 0 where
  pub tables : tables_faults events ≡ 0
  pub edits : (edit : InstalledEdit) → last_installed edit events ≡ edit
  pub told : (label : List ℕ) (n : ℕ) → IsIn (told label n) events → ⊥

-- nor did the log fail
pub record AreQuiet (events : List Event) : Type 0 where
  pub log : log_faults events ≡ 0
  pub leave : LeaveTables events

pub none_quiet : AreQuiet []
none_quiet = record { log = refl; leave = record { tables = refl; edits = λ edit. refl; told = λ label n there. there } }

pub one_leaves : (e : Event) → tables_faults (e ∷ []) ≡ 0 → ((edit : InstalledEdit) → last_after edit e ≡ edit) → ((label : List ℕ) (n : ℕ) → e ≡ told label n → ⊥) → LeaveTables (e ∷ [])
one_leaves e tables edits untold = record { tables = tables; edits = edits; told = λ label n there. ⊎_elim (untold label n) (λ (k : ⊥). k) there }

pub one_quiet : (e : Event) → log_faults (e ∷ []) ≡ 0 → tables_faults (e ∷ []) ≡ 0 → ((edit : InstalledEdit) → last_after edit e ≡ edit) → ((label : List ℕ) (n : ℕ) → e ≡ told label n → ⊥) → AreQuiet (e ∷ [])
one_quiet e log tables edits untold = record { log = log; leave = one_leaves e tables edits untold }

pub both_leave : (xs ys : List Event) → LeaveTables xs → LeaveTables ys → LeaveTables (xs ++ ys)
both_leave xs ys p q = record {
  tables = let k = total_both (λ (e : Event). one_if (is_tables_fault e)) xs ys in let a = p.tables in let b = q.tables in omega (arith, k, a, b);
  edits = λ edit. last_over edit xs ys ∙ (ap (λ (x : InstalledEdit). last_installed x ys) (p.edits edit) ∙ q.edits edit);
  told = λ label n there. ⊎_elim (p.told label n) (q.told label n) (in_both (told label n) xs ys there);
}

pub both_quiet : (xs ys : List Event) → AreQuiet xs → AreQuiet ys → AreQuiet (xs ++ ys)
both_quiet xs ys p q = record {
  log = let k = total_both (λ (e : Event). one_if (closes_log e)) xs ys in let a = p.log in let b = q.log in omega (arith, k, a, b);
  leave = both_leave xs ys p.leave q.leave;
}

-- ---- what a call leaves

-- the seat in its place, which published these numbers more and remembers these events more
pub record Follows (old new : SeatState) (numbers : List ℕ) (events : List Event) : Type 0 where
  pub same_by : new.by ≡ old.by
  pub made : new.knows.made ≡ old.knows.made
  pub joined : new.knows.joined ≡ old.knows.joined
  pub seen : StartsWith new.knows.participant.seen old.knows.participant.seen
  pub own : new.knows.participant.own ≡ old.knows.participant.own ++ numbers
  pub past : new.knows.participant.past ≡ old.knows.participant.past ++ events

pub follows : {D : Type 0} (Stays : Fact → Type 0) (z : SharedState D) (old new : SeatState) (after : Participant) → ContinuesWith Stays z old new after → (numbers : List ℕ) (events : List Event)
    → after.own ≡ old.knows.participant.own ++ numbers → after.past ≡ old.knows.participant.past ++ events → Follows old new numbers events
follows Stays z old new after goes numbers events own past = record {
  same_by = goes.same_by;
  made = goes.made;
  joined = goes.joined;
  seen = goes.seen;
  own = ap (λ (q : Participant). q.own) goes.participant ∙ own;
  past = ap (λ (q : Participant). q.past) goes.participant ∙ past;
}

-- it published nothing
pub follows_on : {D : Type 0} (Stays : Fact → Type 0) (z : SharedState D) (old new : SeatState) (after : Participant) → ContinuesWith Stays z old new after → (events : List Event)
    → after.own ≡ old.knows.participant.own → after.past ≡ old.knows.participant.past ++ events → Follows old new [] events
follows_on Stays z old new after goes events own past = follows Stays z old new after goes [] events (own ∙ sym (append-nil old.knows.participant.own)) past

-- what a participant's past tells of the tables' devices, of the last edit and of the board
pub record TellsTables (first : InstalledEdit) (p : Participant) (store : Store) : Type 0 where
  pub installed : store.installed ≡ last_installed first p.past
  pub halted : one_if store.halted ≡ tables_faults p.past
  pub board : (label : List ℕ) → (is_some (finite.get store.board label) ≡ true) ↔ ((n : ℕ) × IsIn (told label n) p.past)

-- ---- the world behind it

-- an actor of the seat's place in such a world is alone, where it made and took in no other
pub alone_at : {D : Type 0} (z : SharedState D) (by : ℕ) (a : Actor) (w : World) → IsAt (place_at z by) a w → by ≡ 0 → a.made ≡ 0 → a.joined ≡ [] → IsAlone w a
alone_at z by a w at first made joined = record { there = subst (λ (n : ℕ). get_elem? w.actors n ≡ some a) first at.there; made = made; joined = joined }

-- before the call it had seen the whole history of a world in which it stood
module _ {D : Type 0} (z : SharedState D) (first : InstalledEdit) (old : SeatState) (only : IsOnly old) (store : Store) (is : IsStoreOf z first old.knows.participant store) (w : World) where
  pub seen_then : (a : Actor) (at : IsAt (place_at z old.by) a w) → a.participant ≡ old.knows.participant → IsAlone w a → w.writes.history ≡ store.history
  seen_then a at same alone =
      seen_whole w at.reached a alone
      (subst (λ (p : Participant). StartsWith p.seen w.opened) (sym same) (subst (StartsWith old.knows.participant.seen) (sym at.opened) is.opened))
      (subst (λ (p : Participant). (n : ℕ) → IsIn n p.own → n ≤ length p.seen) (sym same) is.own)
      ∙ (ap (λ (p : Participant). p.seen) same ∙ sym is.history)

  pub alone_then : Stands z old w → IsAlone w old.knows
  alone_then at = alone_at z old.by old.knows w at only.by only.made only.joined

  pub history_then : Stands z old w → w.writes.history ≡ store.history
  history_then at = seen_then old.knows at refl (alone_then at)

  -- the same of a world in which it held the locks turn
  pub alone_with_locks : (s : StoodWithLocks z old w) → IsAlone w s.actor
  alone_with_locks s = alone_at z old.by s.actor w s.there only.by (s.made ∙ only.made) (s.joined ∙ only.joined)

  pub history_with_locks : StoodWithLocks z old w → w.writes.history ≡ store.history
  history_with_locks s = seen_then s.actor s.there s.participant (alone_with_locks s)

module _ {D : Type 0} (z : SharedState D) (first : InstalledEdit) (old new : SeatState) (only : IsOnly old) (store : Store) (is : IsStoreOf z first old.knows.participant store) (stood : (w : World) × Stands z new w) where
  abbrev w : World
  w = stood.0

  pub is_alone : (numbers : List ℕ) (events : List Event) → Follows old new numbers events → IsAlone w new.knows
  is_alone numbers events f = alone_at z new.by new.knows w stood.1 (f.same_by ∙ only.by) (f.made ∙ only.made) (f.joined ∙ only.joined)

  pub opened_is : (seen : List Entry) → StartsWith seen z.opened → StartsWith seen w.opened
  opened_is seen begins = subst (StartsWith seen) (sym stood.1.opened) begins

  pub begins_opened : (numbers : List ℕ) (events : List Event) → Follows old new numbers events → StartsWith new.knows.participant.seen z.opened
  begins_opened numbers events f = starts_on z.opened old.knows.participant.seen new.knows.participant.seen is.opened f.seen

  -- the history begins with what the seat had seen before the call
  seen_before : (numbers : List ℕ) (events : List Event) → Follows old new numbers events → StartsWith w.writes.history old.knows.participant.seen
  seen_before numbers events f = starts_on old.knows.participant.seen new.knows.participant.seen w.writes.history f.seen (has_seen w stood.1.reached new.by new.knows stood.1.there)

  -- how often the log has failed by now
  pub log_now : (numbers : List ℕ) (events : List Event) → Follows old new numbers events → log_faults new.knows.participant.past ≡ one_if store.stopped + log_faults events
  log_now numbers events f =
      let k = total_both (λ (e : Event). one_if (closes_log e)) old.knows.participant.past events in let a = is.stopped in
      let c : log_faults new.knows.participant.past ≡ log_faults (old.knows.participant.past ++ events) = ap log_faults f.past in omega (arith, k, a, c)

  pub log_still : (numbers : List ℕ) (events : List Event) → Follows old new numbers events → log_faults events ≡ 0 → one_if store.stopped ≡ log_faults new.knows.participant.past
  log_still numbers events f none = let now = log_now numbers events f in omega (arith, now, none)

  -- the last edit is as it was
  pub edit_still : (numbers : List ℕ) (events : List Event) → Follows old new numbers events → ((edit : InstalledEdit) → last_installed edit events ≡ edit) → store.installed ≡ last_installed first new.knows.participant.past
  edit_still numbers events f none = is.installed ∙ sym (ap (last_installed first) f.past ∙ (last_over first old.knows.participant.past events ∙ none (last_installed first old.knows.participant.past)))

  -- how often the devices of the tables have failed by now
  pub tables_now : (numbers : List ℕ) (events : List Event) → Follows old new numbers events → tables_faults new.knows.participant.past ≡ one_if store.halted + tables_faults events
  tables_now numbers events f =
      let k = total_both (λ (e : Event). one_if (is_tables_fault e)) old.knows.participant.past events in let a = is.halted in
      let c : tables_faults new.knows.participant.past ≡ tables_faults (old.knows.participant.past ++ events) = ap tables_faults f.past in omega (arith, k, a, c)

  -- the board is as it was
  pub board_still : (numbers : List ℕ) (events : List Event) → Follows old new numbers events → ((label : List ℕ) (n : ℕ) → IsIn (told label n) events → ⊥)
      → (label : List ℕ) → (is_some (finite.get store.board label) ≡ true) ↔ ((n : ℕ) × IsIn (told label n) new.knows.participant.past)
  board_still numbers events f untold label = (
    (λ known. let k = (is.board label).0 known in (k.0, subst (IsIn (told label k.0)) (sym f.past) (in_front (told label k.0) old.knows.participant.past events k.1))),
    (λ there. ⊎_elim
        (λ (k : IsIn (told label there.0) old.knows.participant.past). (is.board label).1 (there.0, k))
        (λ (k : IsIn (told label there.0) events). absurd (untold label there.0 k))
        (in_both (told label there.0) old.knows.participant.past events (subst (IsIn (told label there.0)) f.past there.1))),
  )

  -- the past tells of the tables and the board what it told
  pub past_still : (numbers : List ℕ) (events : List Event) → Follows old new numbers events → LeaveTables events → TellsTables first new.knows.participant store
  past_still numbers events f quiet = record {
    installed = edit_still numbers events f quiet.edits;
    halted = let now = tables_now numbers events f in let none = quiet.tables in omega (arith, now, none);
    board = board_still numbers events f quiet.told;
  }

  -- ---- nothing was published

  module _ (events : List Event) (f : Follows old new [] events) where
    own_still : new.knows.participant.own ≡ old.knows.participant.own
    own_still = f.own ∙ append-nil old.knows.participant.own

    few_still : (n : ℕ) → IsIn n new.knows.participant.own → n ≤ length old.knows.participant.seen
    few_still n there = is.own n (subst (IsIn n) own_still there)

    history_before : w.writes.history ≡ old.knows.participant.seen
    history_before = whole_seen w.opened w.writes.history old.knows.participant.seen new.knows.participant.own (seen_before [] events f) (opened_is old.knows.participant.seen is.opened) few_still
        (only_of w stood.1.reached new.knows (is_alone [] events f)).owned

    pub few_now : (n : ℕ) → IsIn n new.knows.participant.own → n ≤ length new.knows.participant.seen
    few_now n there = let k = few_still n there in let more = shorter new.knows.participant.seen old.knows.participant.seen f.seen in omega (arith, k, more)

    -- the history is the store's
    pub history_still : w.writes.history ≡ store.history
    history_still = history_before ∙ sym is.history

    -- and so is what the seat has seen
    pub seen_still : new.knows.participant.seen ≡ store.history
    seen_still = sym (seen_whole w stood.1.reached new.knows (is_alone [] events f) (opened_is new.knows.participant.seen (begins_opened [] events f)) few_now) ∙ history_still

    -- The store is as it was, with the same last edit, but that its log may be closed now, and its tables halted, and something told.
    pub such_store : ((edit : InstalledEdit) → last_installed edit events ≡ edit) → (closed failed : Bool) (labels : Labels) → one_if closed ≡ log_faults new.knows.participant.past → one_if failed ≡ tables_faults new.knows.participant.past
        → ((label : List ℕ) → (is_some (finite.get labels label) ≡ true) ↔ ((n : ℕ) × IsIn (told label n) new.knows.participant.past)) → IsStoreOf z first new.knows.participant (record store { stopped = closed; halted = failed; board = labels })
    such_store none closed failed labels closes halts board = record {
      first_is = is.first_is;
      at = is.at;
      base = is.base;
      risen = is.risen;
      history = sym seen_still;
      opened = begins_opened [] events f;
      own = few_now;
      stopped = closes;
      limit = is.limit;
      renewed_limit = is.renewed_limit;
      cells = is.cells;
      installed = edit_still [] events f none;
      halted = halts;
      board = board;
    }

    pub same_store : AreQuiet events → IsStoreOf z first new.knows.participant store
    same_store quiet =
        let tells = past_still [] events f quiet.leave in such_store quiet.leave.edits store.stopped store.halted store.board (log_still [] events f quiet.log) tells.halted tells.board
