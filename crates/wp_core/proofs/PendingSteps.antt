-- Changes of what is pending and logged, and of the log's segments; making an entry pending and logging it keep a world sound.
use Rattle.std.proofs.Common.{◌≡◌, inl, inr, ℕ, suc, Bool, true, false, true≢false, not, List, [], ◌∷◌, ◌++◌, length, refl, sym, ap, ◌∙◌, append-nil, arith, ⊎_elim, Option, Some}
use mathlib.Core.Option.{some}
use lib.ListN.{get_elem?}
use Rattle.wp_model.specs.declared.entry.Entry.{Entry}
use Rattle.wp_model.specs.declared.entry.Entry.TheVariants.{Close}
use Rattle.wp_model.specs.declared.segment.Segment.{Segment}
use Rattle.wp_model.specs.Decision.{version_in, decision_of}
use Rattle.wp_model.specs.History.{entry_at, is_prepare}
use Rattle.wp_model.specs.Legal.{IsLegal}
use Rattle.wp_model.specs.Record.{IsOneRecord}
use Rattle.wp_core.specs.Entries.{next_of, extended}
use Rattle.wp_core.specs.States.{WriteState, writes}
use Rattle.wp_core.specs.Turns.{Holds, write_turn}
use Rattle.wp_core.specs.Views.{Fact, versions_in_memory, pair_delayed, pair_not_delayed}
use Rattle.wp_core.specs.World.{Participant, Actor, World, with_content}
use Rattle.wp_core.specs.Steps.{Step, make_pending, log_pending}
use Rattle.wp_core.specs.Changes.{held_with, change}
use Rattle.wp_core.specs.Effects.{done}
use Rattle.wp_core.specs.Needs.{Needs}
use Rattle.wp_core.specs.Notes.{forgets, ends}
use Rattle.wp_core.specs.Sound.History.{IsHistory, logged_part}
use Rattle.wp_core.specs.Sound.Pasts.{past_of, AreFaults}
use Rattle.wp_core.specs.Sound.Prepared.{IsCache, AreUndecided, AreDelayed}
use Rattle.wp_core.specs.Sound.Segments.{AreCoupled}
use Rattle.wp_core.specs.Sound.Store.{IsStored}
use Rattle.wp_core.specs.Sound.Views.{IsSo}
use Rattle.wp_core.specs.IsSound.{IsSound, participants}
use Rattle.wp_model.proofs.Entries.{entry_at_old, prepared_within}
use Rattle.wp_core.proofs.Quiet.{idle_after, NotesStay, Stays, stays_not, notes_by, notes_all, noted_after}
use Rattle.wp_core.proofs.ReaderFacts.{extended_stays}
use Rattle.wp_core.proofs.AllParts.{SoIn, views_of, readers_still, turns_changed, quiet_step}
use Rattle.wp_model.proofs.Tests.{none_some}
use Rattle.wp_core.proofs.Gives.{not_free}
use Rattle.wp_core.proofs.HoldersChange.{none_next}

-- the write state with what is pending, whether that is logged, and the log
abbrev pub with_pending : WriteState → List Entry → Bool → List Entry → WriteState
with_pending t pending logged log = record t { pending = pending; logged = logged; log = log }

-- and in which segments it is
abbrev pub with_segments : WriteState → Segment → Option Segment → WriteState
with_segments t segment next = record t { segment = segment; next = next }

abbrev pub SoPending : World → WriteState → Participant → Fact → Type 0
SoPending w d = IsSo w.delayed_flag w.old_flag w.max_evicted w.cache d w.prepared w.snapshots w.store w.locks w.installed

pub log_changes : (w : World) (by : ℕ) (a : Actor) (step : Step) (pending : List Entry) (logged : Bool) (log : List Entry) (segment : Segment) (next : Option Segment) → get_elem? w.actors by ≡ some a → Holds w.holders write_turn by
    → IsHistory w.opened (with_segments (with_pending w.writes pending logged log) segment next) w.max_evicted → IsCache w.writes.history pending w.cache → AreUndecided w.writes.history pending w.prepared w.max_evicted → AreDelayed w.writes.history pending w.prepared w.cache
    → IsStored w.writes.history pending w.first_edit.segment.base w.snapshots w.store w.installed → AreFaults (with_segments (with_pending w.writes pending logged log) segment next) w.installed.halted (participants past_of w)
    → AreCoupled (with_segments (with_pending w.writes pending logged log) segment next) w.installed w.holders.write
    → NotesStay w by step (SoPending w (with_segments (with_pending w.writes pending logged log) segment next)) → IsSound w
    → IsSound (change w by (forgets w.writes.history (length w.cache) step a) (writes (with_segments (with_pending w.writes pending logged log) segment next)))
log_changes w by a step pending logged log segment next at holds history cache undecided delayed stored faults coupled notes s =
    let d : WriteState = with_segments (with_pending w.writes pending logged log) segment next in
    let c : Actor = forgets w.writes.history (length w.cache) step a in
    let b : Actor = record c { held = held_with c.held (writes d) } in
    quiet_step w (with_content w (writes d)) by a b at refl
    (record { history = history; cache = cache; decided = s.decided; undecided = undecided; delayed = delayed; flags = s.flags; versions = stored; in_step = s.in_step; coupled = coupled; pending = λ free. absurd (not_free w.holders write_turn by holds free) })
    (views_of w s) s.locks (record { holders = s.holders; board = s.board; faults = faults; edits = s.edits })
    (turns_changed w by a b at (writes d) holds refl s) (readers_still w by a b at refl s)
    (noted_after w by a b step (SoPending w d) at refl refl notes s) (idle_after w by a b write_turn at holds s refl) s

-- the segments stay; where another one waits, nothing comes to be pending
pub pending_changes : (w : World) (by : ℕ) (a : Actor) (step : Step) (pending : List Entry) (logged : Bool) (log : List Entry) → get_elem? w.actors by ≡ some a → Holds w.holders write_turn by
    → IsHistory w.opened (with_pending w.writes pending logged log) w.max_evicted → IsCache w.writes.history pending w.cache → AreUndecided w.writes.history pending w.prepared w.max_evicted → AreDelayed w.writes.history pending w.prepared w.cache
    → IsStored w.writes.history pending w.first_edit.segment.base w.snapshots w.store w.installed → AreFaults (with_pending w.writes pending logged log) w.installed.halted (participants past_of w)
    → ((segment : Segment) → w.writes.next ≡ Some segment → w.writes.closed ≡ false → pending ≡ [])
    → NotesStay w by step (SoPending w (with_pending w.writes pending logged log)) → IsSound w
    → IsSound (change w by (forgets w.writes.history (length w.cache) step a) (writes (with_pending w.writes pending logged log)))
pending_changes w by a step pending logged log at holds history cache undecided delayed stored faults none notes s =
    log_changes w by a step pending logged log w.writes.segment w.writes.next at holds history cache undecided delayed stored faults (record {
      last = s.coupled.last;
      failed = s.coupled.failed;
      next = λ segment is. let k = s.coupled.next segment is in (k.0, λ running. (none segment is running, (k.1 running).1));
    }) notes s

-- ---- a record is made pending

pub none_logged : (logged : Bool) → logged_part logged [] ≡ []
none_logged true = refl
none_logged false = refl

-- with nothing pending the log is the history
log_is : (w : World) → w.writes.pending ≡ [] → IsSound w → w.writes.log ≡ w.writes.history ++ []
log_is w none s = s.history.log ∙ ap (λ (z : List Entry). w.writes.history ++ z) (ap (logged_part w.writes.logged) none ∙ none_logged w.writes.logged)

not_empty : (entry : Entry) (others : List Entry) → [] ≡ entry ∷ others → ⊥
not_empty entry others e = let k : ◌≡◌ {A = ℕ} 0 (suc (length others)) = ap length e in absurd (omega arith)

history_made : (w : World) (entries : List Entry) → w.writes.pending ≡ [] → IsOneRecord entries → IsLegal (w.writes.history ++ entries) → IsSound w → IsHistory w.opened (with_pending w.writes entries false w.writes.log) w.max_evicted
history_made w entries none is legal s = record {
  legal = s.history.legal;
  grown = s.history.grown;
  bounded = s.history.bounded;
  log = log_is w none s;
  rest = inr (inl is);
  legal_next = legal;
  legal_failed = s.history.legal_failed;
  none_failed = s.history.none_failed;
  not_stopped = s.history.not_stopped;
  undo_closes = λ p undone. let k = s.history.undo_closes p undone in absurd (not_empty (Close p) [] (sym none ∙ k.0));
}

cache_made : (w : World) (entries : List Entry) → w.writes.pending ≡ [] → IsSound w → IsCache w.writes.history entries w.cache
cache_made w entries none s = record {
  some = s.cache.some;
  empty = s.cache.empty;
  pairs = λ i pair lt there. let k = s.cache.pairs i pair lt there in
      record { placed = k.placed; decided = extended_stays w.writes.history entries pair.number pair.decision (ap (λ (z : List Entry). decision_of (extended w.writes.history z) pair.number) (sym none) ∙ k.decided) };
}

pub prepare_stays : (history entries : List Entry) (p : ℕ) → is_prepare (entry_at history p) ≡ true → is_prepare (entry_at (extended history entries) p) ≡ true
prepare_stays history [] p is = is
prepare_stays history (entry ∷ others) p is = ap is_prepare (entry_at_old history (entry ∷ []) p (prepared_within history p is).1) ∙ is

undecided_made : (w : World) (entries : List Entry) → w.writes.pending ≡ [] → IsSound w → AreUndecided w.writes.history entries w.prepared w.max_evicted
undecided_made w entries none s = record {
  found = s.undecided.found;
  heap_above = s.undecided.heap_above;
  delayed_passed = s.undecided.delayed_passed;
  known = λ p there. prepare_stays w.writes.history entries p (ap (λ (z : List Entry). is_prepare (entry_at (extended w.writes.history z) p)) (sym none) ∙ s.undecided.known p there);
}

-- the delayed commits are of the history alone, so they stay
delayed_made : (w : World) (entries : List Entry) → w.writes.pending ≡ [] → IsSound w → AreDelayed w.writes.history entries w.prepared w.cache
delayed_made w entries none s = record {
  found = s.delayed.found;
  commits = λ p c e. extended_stays w.writes.history entries p c (ap (λ (z : List Entry). decision_of (extended w.writes.history z) p) (sym none) ∙ s.delayed.commits p c e);
}

stored_made : (w : World) (entries : List Entry) → w.writes.pending ≡ [] → IsSound w → IsStored w.writes.history entries w.first_edit.segment.base w.snapshots w.store w.installed
stored_made w entries none s =
    let o = s.versions in record {
      covered = o.covered;
      based = o.based;
      floor = o.floor;
      next = λ key p value lt there. let k = o.next key p value lt there in
          absurd (none_some (version_in (next_of w.writes.pending) key) value (ap (λ (z : List Entry). version_in (next_of z) key) none) k.1);
      tables = o.tables;
      last = o.last;
      failed = o.failed;
      in_memory = o.in_memory;
    }

-- what stays where another record is pending: only that the pending one is in memory, or its pair a delayed commit, does not
pub so_pending : (w : World) (step : Step) (pending log : List Entry) (logged : Bool) → ends w.writes.history (length w.cache) step versions_in_memory ≡ true → ends w.writes.history (length w.cache) step pair_delayed ≡ true → ends w.writes.history (length w.cache) step pair_not_delayed ≡ true → (p : Participant) (fact : Fact) → Stays w step write_turn fact → SoIn w p fact
    → SoPending w (with_pending w.writes pending logged log) p fact
so_pending w step pending log logged memory delayed undelayed p versions_in_memory stays k = absurd (stays_not write_turn (⊎_elim (λ (left : not (ends w.writes.history (length w.cache) step versions_in_memory) ≡ true). inl (sym (ap not memory) ∙ left)) (λ (free : Some write_turn ≡ Some write_turn → ⊥). inr free) stays))
so_pending w step pending log logged memory delayed undelayed p pair_delayed stays k = absurd (stays_not write_turn (⊎_elim (λ (left : not (ends w.writes.history (length w.cache) step pair_delayed) ≡ true). inl (sym (ap not delayed) ∙ left)) (λ (free : Some write_turn ≡ Some write_turn → ⊥). inr free) stays))
so_pending w step pending log logged memory delayed undelayed p pair_not_delayed stays k = absurd (stays_not write_turn (⊎_elim (λ (left : not (ends w.writes.history (length w.cache) step pair_not_delayed) ≡ true). inl (sym (ap not undelayed) ∙ left)) (λ (free : Some write_turn ≡ Some write_turn → ⊥). inr free) stays))
so_pending w step pending log logged memory delayed undelayed p fact stays k = k

pub makes_pending : (w : World) (by : ℕ) (a : Actor) (entries : List Entry) → get_elem? w.actors by ≡ some a → Needs w by a (make_pending entries) → IsSound w → IsSound (done w by (forgets w.writes.history (length w.cache) (make_pending entries) a) (make_pending entries))
makes_pending w by a entries at n s =
    pending_changes w by a (make_pending entries) entries false w.writes.log at n.0 (history_made w entries n.1 n.2 n.3 s) (cache_made w entries n.1 s) (undecided_made w entries n.1 s) (delayed_made w entries n.1 s) (stored_made w entries n.1 s)
    (record { log = s.faults.log; tables = s.faults.tables; not_logged = λ closed. inr refl; stopped = s.faults.stopped; based = s.faults.based; failed = s.faults.failed; renewing = s.faults.renewing; of_log = s.faults.of_log; behind = s.faults.behind; unfailed = s.faults.unfailed }) (λ segment is running. absurd (none_next w.writes n.4 segment is running))
    (notes_by w by (make_pending entries) write_turn _ n.0 (so_pending w (make_pending entries) entries w.writes.log false refl refl refl)) s

-- ---- it is logged

history_logged : (w : World) → w.writes.logged ≡ false → IsSound w → IsHistory w.opened (with_pending w.writes w.writes.pending true (w.writes.log ++ w.writes.pending)) w.max_evicted
history_logged w not_yet s = record {
  legal = s.history.legal;
  grown = s.history.grown;
  bounded = s.history.bounded;
  log = ap (λ (z : List Entry). z ++ w.writes.pending) (s.history.log ∙ (ap (λ (b : Bool). w.writes.history ++ logged_part b w.writes.pending) not_yet ∙ append-nil w.writes.history));
  rest = s.history.rest;
  legal_next = s.history.legal_next;
  legal_failed = s.history.legal_failed;
  none_failed = s.history.none_failed;
  not_stopped = s.history.not_stopped;
  undo_closes = λ p undone. let k = s.history.undo_closes p undone in absurd (true≢false (sym k.1 ∙ not_yet));
}

so_logged : (w : World) (p : Participant) (fact : Fact) → SoIn w p fact → SoPending w (with_pending w.writes w.writes.pending true (w.writes.log ++ w.writes.pending)) p fact
so_logged w p fact k = k

pub logs_pending : (w : World) (by : ℕ) (a : Actor) → get_elem? w.actors by ≡ some a → Needs w by a log_pending → IsSound w → IsSound (done w by (forgets w.writes.history (length w.cache) log_pending a) log_pending)
logs_pending w by a at n s =
    pending_changes w by a log_pending w.writes.pending true (w.writes.log ++ w.writes.pending) at n.0 (history_logged w n.2 s) s.cache s.undecided s.delayed s.versions
    (record { log = s.faults.log; tables = s.faults.tables; not_logged = λ closed. absurd (true≢false (sym closed ∙ n.3)); stopped = s.faults.stopped; based = s.faults.based; failed = s.faults.failed; renewing = s.faults.renewing; of_log = s.faults.of_log; behind = s.faults.behind; unfailed = s.faults.unfailed }) (λ segment is running. ((s.coupled.next segment is).1 running).0)
    (notes_all w by log_pending _ (so_logged w)) s
