-- A seat that took the write turn, put a record into the history or could not, and gave the turn.
use Rattle.std.proofs.Common.{◌≡◌, ◌⊎◌, ⊎_elim, inl, inr, ℕ, suc, ◌+◌, ◌-◌, ◌^◌, ◌≤◌, ◌<◌, Bool, cond, true, false, List, [], ◌∷◌, ◌++◌, length, min, refl, sym, subst, ap, ◌∙◌, Option, Some, is_some, map, length-append, append-nil, append_assoc, arith}
use Rattle.std.specs.Prelude.{Result, Ok, Err}
use Rattle.std.specs.FinMap as finite
use Rattle.std.specs.List.{AllByRecursion}
use Rattle.std.proofs.lemmas.Slice.Eq.{bytes_eq-Decides}
use Rattle.wp_model.specs.CachePlace.{cache_place, HasOwnPlace, NoneShare}
use Rattle.wp_model.specs.History.{prepared_name, name_at, named}
use Rattle.wp_model.specs.Legal.{IsLegal}
use Rattle.wp_model.specs.declared.change.Change.{Change}
use Rattle.wp_model.specs.declared.entry.Entry.{Entry}
use Rattle.wp_model.specs.declared.segment.Segment.{Segment}
use Rattle.wp_model.specs.declared.entry.Entry.TheVariants.{Prepare, Commit, Undo, Close}
use Rattle.wp_model.proofs.Entries.{entry_at_old, undecided_within}
use Rattle.wp_model.proofs.Found.{found_named}
use Rattle.wp_fields.specs.declared.format.Format.{Format}
use Rattle.wp_fields.specs.declared.format.Format.TheVariants.{One, Two}
use Rattle.wp_entry.specs.Record.{last_number}
use Rattle.wp_commits.specs.Ways.{way_of, ways_of, IsElsewhere, AreElsewhere, MayPrecede, AreApart}
use Rattle.wp_commits.specs.declared.way.Way.{Way}
use Rattle.wp_commits.specs.declared.way.Way.TheVariants.{Undecided, InWord, Delayed}
use Rattle.wp_judge.specs.Words.{fits}
use Rattle.wp_core.specs.Changes.{remembers}
use Rattle.wp_core.specs.Conditions.{NoneNext}
use Rattle.wp_core.specs.Entries.{transaction_of, pair_by}
use Rattle.wp_core.specs.Lists.{IsIn}
use Rattle.wp_core.specs.Steps.{find_log_closed, find_base}
use Rattle.wp_core.specs.States.{Content, WriteState, writes}
use Rattle.wp_core.specs.Turns.{write_turn}
use Rattle.wp_core.specs.Views.{Event, Fact, words_stay, stopped, based_at, undecided_at, unprepared}
use Rattle.wp_core.specs.World.{Participant, Actor, World}
use Rattle.wp_core.specs.Sound.Actors.{StartsWith}
use Rattle.wp_core.specs.Sound.Views.{guarded_by}
use Rattle.wp_history_laws.proofs.Growth.{entry_at_next, length_next}
use Rattle.wp_history_laws.proofs.Undecided.{undecided_at_next}
use Rattle.wp_core.proofs.HistoryGrows.{before}
use Rattle.wp_rule.specs.Moves.{MayMake, Moved}
use Rattle.wp_rule.specs.Words.{Place, IsAt}
use Rattle.wp_rule.proofs.Forgets.{EndsNothing}
use Rattle.wp_rule.proofs.MayBeMade.{known_made}
use Rattle.wp_rule.proofs.Knows.{at_sound}
use Rattle.wp_shared.proofs.Tables.{held_state, in_place}
use Rattle.wp_shared.specs.Limits.{limit_at}
use Rattle.wp_shared.proofs.Limits.{limit_is}
use Rattle.wp_parts.specs.Log.{LogState, IsLog, format_at}
use Rattle.wp_parts.specs.Parts.{log_first}
use Rattle.wp_records.specs.declared.error.WriteError.{WriteError}
use Rattle.wp_records.specs.declared.error.WriteError.TheVariants as write_error
use Rattle.wp_records.specs.Records.{numbers_behind, putting, failing, OwnsEntries, MayPut, IsPut, IsNotPut, AppendsOnce, FailsAppend, IsUncalled}
use Rattle.wp_records.specs.Writing.{HoldsWrite, FoundLog}
use Rattle.wp_shared.specs.Calls.{IsLoose, ContinuesWith, Continues, with_events}
use Rattle.wp_shared.specs.Seats.{SharedState, SeatState, IsFree, place_at}
use Rattle.wp_shared.specs.Turns.{HoldsTurn, TookLog, Given}
use Rattle.wp_shared.proofs.Onward.{starts_on, loose_under}
use Rattle.wp_open_txns.specs.Actors.{with_stopped, with_base}
use Rattle.wp_shared.specs.Notes.{with_note, with_notes, noting_only, seat_of}
use Rattle.wp_open_txns.specs.Txn.{PreparedState}
use Rattle.wp_txn.specs.Groups.{their_commits}
use Rattle.wp_txn.specs.Recording.{OpensLog, notes_of_each, notes_of, IsRollback, IsEndOf, IsDecided, NotesMore, PutsNoting, Records, answer_of}
use Rattle.wp_txn.specs.declared.recording.Noting.{Noting}
use Rattle.wp_txn.specs.declared.recording.Noting.TheVariants as note
use Rattle.wp_txn.specs.Writes.{HasPut, HadLog, Refuses, LeavesDevice}
use Rattle.wp_open_txns.specs.declared.error.TxnError.TheVariants.{NumbersFull, Stopped}
use Rattle.wp_open_txns.proofs.Made.{all_made}
use Rattle.wp_txn.proofs.Committed.{commits_free}
use Rattle.wp_txn.proofs.Each.{all_in, all_of}
use Rattle.wp_txn.proofs.OneName.{named_is}
use Rattle.wp_txn.proofs.RollsBack.{rollback_frees}

-- ---- steps under the write turn

closed_ends : EndsNothing find_log_closed
closed_ends = record { guard = λ turn. refl; place = λ words place. refl; words = refl; delayed_flag = refl; old_flag = refl; pending = refl; adds = refl; takes = refl; prepared = refl; unprepared = refl; delays = refl; transaction = λ history name. refl; changes = λ history key. refl; direct = refl; moves = refl; replaces = refl; installing = refl }

pub may_find_closed : (p : Place) (a : Actor) (d : WriteState) → IsIn (writes d) a.held → d.closed ≡ true → MayMake p a (λ w. find_log_closed ∷ [])
may_find_closed p a d held closed = known_made p a find_log_closed tt (record { state = d; held = held; so_is = closed })

base_ends : EndsNothing find_base
base_ends = record { guard = λ turn. refl; place = λ words place. refl; words = refl; delayed_flag = refl; old_flag = refl; pending = refl; adds = refl; takes = refl; prepared = refl; unprepared = refl; delays = refl; transaction = λ history name. refl; changes = λ history key. refl; direct = refl; moves = refl; replaces = refl; installing = refl }

pub may_find_base : (p : Place) (a : Actor) (d : WriteState) → IsIn (writes d) a.held → NoneNext d → MayMake p a (λ w. find_base ∷ [])
may_find_base p a d held waits = known_made p a find_base tt (record { state = d; held = held; so_is = waits })

pub base_found : (p : Place) (so : World → Type 0) (a b : Actor) (d : WriteState) → Moved p (λ w. find_base ∷ []) so a b → IsIn (writes d) a.held → b ≡ with_base (length d.history) d.segment.base a
base_found p so a b d m held =
    all_made p (λ w. find_base ∷ []) so a b m (base_ends, tt) ∙ ap (λ (t : WriteState). with_base (length t.history) t.segment.base a) (held_state p a m.world (writes d) m.before held)

pub closed_found : (p : Place) (so : World → Type 0) (a b : Actor) (d : WriteState) → Moved p (λ w. find_log_closed ∷ []) so a b → IsIn (writes d) a.held → b ≡ with_stopped (length d.history) a
closed_found p so a b d m held =
    all_made p (λ w. find_log_closed ∷ []) so a b m (closed_ends, tt) ∙ ap (λ (t : WriteState). with_stopped (length t.history) a) (held_state p a m.world (writes d) m.before held)

-- ---- the turn is given

-- the seat with the log was this participant but for what it had seen
given_back : {D : Type 0} (Stays : Fact → Type 0) (z : SharedState D) (old s new : SeatState) (after : Participant) → Given z write_turn s new [] [] → s.by ≡ old.by → StartsWith s.knows.participant.seen old.knows.participant.seen
    → s.knows.participant ≡ record after { seen = s.knows.participant.seen } → ((fact : Fact) → Stays fact → IsLoose fact) → ((fact : Fact) → Stays fact → IsIn fact old.knows.notes → IsIn fact s.knows.notes)
    → s.knows.made ≡ old.knows.made → s.knows.joined ≡ old.knows.joined → ContinuesWith Stays z old new after
given_back Stays z old s new after gives by starts is loose notes made joined =
    let gone = gives.goes.same in let p : new.knows.participant ≡ s.knows.participant = ap (λ (x : SeatState). x.knows.participant) gone in record {
      free = gives.free refl refl;
      same_by = ap (λ (x : SeatState). x.by) gone ∙ by;
      seen = (starts.0, ap (λ (x : Participant). x.seen) p ∙ starts.1);
      participant = p ∙ is ∙ ap (λ (es : List Entry). record after { seen = es }) (sym (ap (λ (x : Participant). x.seen) p));
      notes = λ fact stays there. gives.goes.noted fact (loose_under write_turn fact (loose fact stays)) (notes fact stays there);
      made = ap (λ (x : SeatState). x.knows.made) gone ∙ made;
      joined = ap (λ (x : SeatState). x.knows.joined) gone ∙ joined;
    }

-- ---- the turn is taken

module _ {D : Type 0} (z : SharedState D) (old s : SeatState) (log : LogState) (took : TookLog z old s log) where
  abbrev history : List Entry
  history = log.state.history

  abbrev was : Participant
  was = old.knows.participant

  same_by : s.by ≡ old.by
  same_by = ap (λ (x : SeatState). x.by) took.seat

  participant_then : s.knows.participant ≡ record was { seen = history }
  participant_then = ap (λ (x : SeatState). x.knows.participant) took.seat

  starts_then : StartsWith s.knows.participant.seen was.seen
  starts_then = (took.grown.0, took.seen ∙ took.grown.1)

  is_then : s.knows.participant ≡ record was { seen = s.knows.participant.seen }
  is_then = participant_then ∙ ap (λ (es : List Entry). record was { seen = es }) (sym took.seen)

  noted_then : (fact : Fact) → IsIn fact old.knows.notes → IsIn fact s.knows.notes
  noted_then fact there = took.goes.noted fact refl there

  made_then : s.knows.made ≡ old.knows.made
  made_then = ap (λ (x : SeatState). x.knows.made) took.seat

  joined_then : s.knows.joined ≡ old.knows.joined
  joined_then = ap (λ (x : SeatState). x.knows.joined) took.seat

  abbrev found_then : (seen : List Entry) (b : Bool) → seen ≡ history → log.state.closed ≡ b → FoundLog z old was seen b
  found_then seen b is closed = record {
    world = took.world;
    actor = s.knows;
    there = subst (λ (n : ℕ). IsAt (place_at z n) s.knows took.world) same_by took.stands;
    held = subst (λ (d : WriteState). IsIn (writes d) s.knows.held) (sym took.is) (subst (IsIn (writes log.state)) (sym took.holds.held) (inl refl));
    participant = participant_then ∙ ap (λ (h : List Entry). record was { seen = h }) (sym is);
    notes = λ fact loose there. noted_then fact there;
    made = made_then;
    joined = joined_then;
    history_is = ap (λ (d : WriteState). d.history) took.is ∙ sym is;
    closed_is = ap (λ (d : WriteState). d.closed) took.is ∙ closed;
  }

  -- what came about of the log that was found
  pub had_log : (CameAbout : LogState → LogState → Type 0) (left : LogState) → IsLog log → log_first z.first ≡ Some left.first → IsLog left → CameAbout log left → HadLog z took.world.writes CameAbout
  had_log CameAbout left is_log of_store still_log came_about = record { before = log; left = left; of_store = took.of_store; still_of_store = of_store; before_is = sym took.is; log = is_log; still_log = still_log; came_about = came_about }

  -- it was given back with its device uncalled
  left_alone : (left : LogState) (new : SeatState) (b : Bool) → new.knows.participant.seen ≡ history → log.state.closed ≡ b → IsLog log → log_first z.first ≡ Some left.first → IsLog left → IsUncalled log left → LeavesDevice z was old new
  left_alone left new b is closed is_log of_store still_log uncalled = inr (b, found_then new.knows.participant.seen b is closed, had_log IsUncalled left is_log of_store still_log uncalled)

  -- it holds this turn alone
  pub alone : IsFree z.table old → HoldsTurn z s (writes log.state) [] []
  alone free = subst (λ (x : List Content × List ℕ). HoldsTurn z s (writes log.state) x.0 x.1) (λ i. (free.held i, free.turns i)) took.holds

  -- the last edit names the segment that the log is in
  in_state_then : IsLog log → took.world.installed.last.segment ≡ log.state.segment
  in_state_then k =
      in_place took.world.writes took.world.installed.last.segment (at_sound (place_at z s.by) s.knows took.world took.stands).coupled.last (subst NoneNext (sym took.is) k.none_waits)
      ∙ ap (λ (d : WriteState). d.segment) took.is

  in_place_then : IsLog log → took.world.installed.last.segment ≡ log.wal.segment
  in_place_then k = in_state_then k ∙ k.segment

  -- so the limit is that of its version
  limit_then : IsLog log → min z.limit (last_number log.wal.format) ≡ limit_at z took.world.installed.last.segment.base
  limit_then k =
      ap (λ (f : Format). min z.limit (last_number f)) (k.form ∙ ap (λ (g : Segment). format_at log.first g.base) (sym (in_place_then k)))
      ∙ sym (limit_is z log.first took.world.installed.last.segment.base took.of_store)

  pub opened : IsFree z.table old → (needed published limit : ℕ) → log.state.closed ≡ false → published ≡ length history → limit ≡ min z.limit (last_number log.wal.format) → published + needed ≤ limit → IsLog log → OpensLog z old s log needed
  opened free needed published limit running number is within is_log = record {
    took = took;
    holds = record { turn = alone free; pending = took.knows.0; seen = took.seen; of_store = took.of_store; words = took.knows.1 };
    running = running;
    within = subst (λ (x : ℕ × ℕ). x.0 + needed ≤ x.1) (λ i. (number i, (is ∙ limit_then is_log) i)) within;
    numbers = omega (arith, is, within, number);
    is_log = is_log;
  }

  -- ---- the log was found closed, or full

  -- the seat remembers one event more, and gave the turn
  module _ (t new : SeatState) (event : Event) (found : t ≡ seat_of s (remembers s.knows event)) where
    pub alone_still : IsFree z.table old → HoldsTurn z t (writes log.state) [] []
    alone_still free = let h = alone free in subst (λ (x : SeatState). HoldsTurn z x (writes log.state) [] []) (sym found) (record { same_table = h.same_table; live = h.live; held = h.held; turns = h.turns })

    remembered_back : Given z write_turn t new [] [] → (new.knows.participant.seen ≡ history) × Continues z old new (with_events (event ∷ []) was)
    remembered_back gives =
        let seen_there : t.knows.participant.seen ≡ history = ap (λ (x : SeatState). x.knows.participant.seen) found ∙ took.seen in (
          ap (λ (x : SeatState). x.knows.participant.seen) gives.goes.same ∙ seen_there,
          given_back IsLoose z old t new (with_events (event ∷ []) was) gives (ap (λ (x : SeatState). x.by) found ∙ same_by)
              (took.grown.0, seen_there ∙ took.grown.1)
              (ap (λ (x : SeatState). x.knows.participant) found ∙ ap (with_events (event ∷ [])) is_then
              ∙ ap (λ (es : List Entry). record (with_events (event ∷ []) was) { seen = es }) (took.seen ∙ sym seen_there))
              (λ fact loose. loose)
              (λ fact loose there. subst (λ (x : SeatState). IsIn fact x.knows.notes) (sym found) (noted_then fact there))
              (ap (λ (x : SeatState). x.knows.made) found ∙ made_then)
              (ap (λ (x : SeatState). x.knows.joined) found ∙ joined_then),
        )

  pub stopped_back : (t new : SeatState) (n needed : ℕ) (Asks : List Entry → Type 0) → t ≡ seat_of s (with_stopped (length history) s.knows) → n ≡ length history → log.state.closed ≡ true → IsLog log → Given z write_turn t new [] []
      → Refuses z old new needed Asks was was (Stopped n) × LeavesDevice z was old new
  stopped_back t new n needed Asks found number closed is_log gives =
      let back = remembered_back t new (stopped (length history)) found gives in let seen = back.0 in (
        (
          number ∙ ap (λ (es : List Entry). length es) (sym seen),
          found_then new.knows.participant.seen true seen closed,
          subst (λ (m : ℕ). Continues z old new (with_events (stopped m ∷ []) was)) (sym number) back.1,
        ),
        left_alone log new true seen closed is_log took.of_store is_log refl,
      )

  pub full_back : (t new : SeatState) (needed published limit : ℕ) (Asks : List Entry → Type 0) → t ≡ seat_of s (with_base (length history) log.state.segment.base s.knows) → log.state.closed ≡ false → IsLog log → published ≡ length history → limit ≡ min z.limit (last_number log.wal.format) → limit < published + needed
      → Given z write_turn t new [] [] → Refuses z old new needed Asks was was (NumbersFull published limit) × LeavesDevice z was old new
  full_back t new needed published limit Asks found running is_log number is over gives =
      let back = remembered_back t new (based_at (length history) log.state.segment.base) found gives in let seen = back.0 in
      let base = ap (λ (g : Segment). g.base) (in_state_then is_log) in (
        (
          number ∙ ap (λ (es : List Entry). length es) (sym seen),
          over,
          found_then new.knows.participant.seen false seen running,
          is ∙ limit_then is_log,
          subst (λ (x : ℕ × ℕ). Continues z old new (with_events (based_at x.0 x.1 ∷ []) was)) (λ i. (sym number i, sym base i)) back.1,
        ),
        left_alone log new false seen running is_log took.of_store is_log refl,
      )

-- a sum that is no number of its type is above each limit
pub unsaturated : (sum found limit most : ℕ) (format : Format) → found ≡ min sum (2 ^ 64 - 1) → limit ≡ min most (last_number format) → found ≤ limit → sum ≤ limit
unsaturated sum found limit most One is at low = omega (arith, is, at, low)
unsaturated sum found limit most Two is at low = omega (arith, is, at, low)

-- ---- a record

module _ {D : Type 0} (z : SharedState D) (old s t new : SeatState) (log left : LogState) (entries : List Entry) (facts : ℕ → List Fact) (o : OpensLog z old s log (length entries)) (legal : IsLegal (log.state.history ++ entries))
    (loose : (n : ℕ) (fact : Fact) → IsIn fact (facts n) → IsLoose fact) (gives : Given z write_turn t new [] []) (still_log : IsLog left) where
  abbrev before_it : List Entry
  before_it = log.state.history

  abbrev it : Participant
  it = old.knows.participant

  put_back : IsPut z s log entries t left → AppendsOnce log entries left → HasPut IsLoose z old new it it before_it entries
  put_back put once =
      let seen_there : t.knows.participant.seen ≡ before_it ++ entries = ap (λ (a : Actor). a.participant.seen) put.knows in record {
        grown = o.took.grown;
        found_log = found_then z old s log o.took before_it false refl o.running;
        seen = ap (λ (x : SeatState). x.knows.participant.seen) gives.goes.same ∙ seen_there;
        within = subst (λ (n : ℕ). n ≤ limit_at z o.took.world.installed.last.segment.base) (sym (length-append before_it entries)) o.within;
        appended = had_log z old s log o.took (λ before after. AppendsOnce before entries after) left o.is_log put.holds.of_store still_log once;
        goes_on = given_back _ z old t new (record it { own = it.own ++ numbers_behind (length before_it) entries }) gives (put.same_by ∙ same_by z old s log o.took)
            (starts_on it.seen before_it t.knows.participant.seen o.took.grown (entries, seen_there))
            (ap (λ (a : Actor). a.participant) put.knows ∙ ap (putting before_it entries) (participant_then z old s log o.took)
            ∙ ap (λ (es : List Entry). record it { seen = es; own = it.own ++ numbers_behind (length before_it) entries }) (sym seen_there))
            (λ fact stays. stays.0) (λ fact stays there. put.notes fact stays.0 stays.1 (noted_then z old s log o.took fact there))
            (ap (λ (a : Actor). a.made) put.knows ∙ made_then z old s log o.took)
            (ap (λ (a : Actor). a.joined) put.knows ∙ joined_then z old s log o.took);
      }

  not_put_back : (cleared : List Way) (closed : Bool) (change : Participant → Participant) → ((es : List Entry) (p : Participant) → change (record p { seen = es }) ≡ record (change p) { seen = es }) → IsNotPut z s log cleared closed (change s.knows.participant) t left
      → (new.knows.participant.seen ≡ before_it) × Continues z old new (change it)
  not_put_back cleared closed change keeps put =
      let is : t.knows.participant ≡ record (change it) { seen = before_it } = ap (λ (a : Actor). a.participant) put.knows ∙ ap change (participant_then z old s log o.took) ∙ keeps before_it it in
      let seen_there : t.knows.participant.seen ≡ before_it = ap (λ (p : Participant). p.seen) is in (
        ap (λ (x : SeatState). x.knows.participant.seen) gives.goes.same ∙ seen_there,
        given_back IsLoose z old t new (change it) gives (put.same_by ∙ same_by z old s log o.took) (o.took.grown.0, seen_there ∙ o.took.grown.1)
            (is ∙ ap (λ (es : List Entry). record (change it) { seen = es }) (sym seen_there)) (λ fact none. none) (λ fact none there. put.notes fact none (noted_then z old s log o.took fact there))
            (ap (λ (a : Actor). a.made) put.knows ∙ made_then z old s log o.took)
            (ap (λ (a : Actor). a.joined) put.knows ∙ joined_then z old s log o.took),
      )

  pub recorded : (outcome : Result (Unit {0}) WriteError) → PutsNoting z s log entries (facts (length left.state.history)) outcome t left → Records z old entries facts (answer_of outcome (length left.state.history)) new
  recorded (Ok done) p =
      let put = put_back p.0 p.1 in (
        ap (λ (es : List Entry). length es) (p.0.history ∙ sym put.seen),
        (before_it, record { put = put; legal = legal }),
        λ fact there. gives.goes.noted fact (loose_under write_turn fact (loose (length left.state.history) fact there)) (p.2 fact there),
      )
  recorded (Err write_error.Memory) p =
      let back = not_put_back p.0 false (λ (x : Participant). x) (λ es x. refl) p.3 in
      (back.1, left_alone z old s log o.took left new false back.0 o.running o.is_log p.3.holds.of_store still_log p.4)
  recorded (Err write_error.LogFault) p =
      let back = not_put_back _ true (failing entries) (λ es x. refl) p.0 in (
        (
          found_then z old s log o.took new.knows.participant.seen false back.0 o.running,
          subst (λ (es : List Entry). length es + length entries ≤ limit_at z o.took.world.installed.last.segment.base) (sym back.0) o.within,
          (
            entries,
            refl,
            back.1,
            subst (λ (h : List Entry). IsLegal (h ++ entries)) (sym back.0) legal,
            had_log z old s log o.took (λ before after. FailsAppend before entries after) left o.is_log p.0.holds.of_store still_log p.1,
          ),
        ),
        tt,
      )

-- the seat holds the write turn still, whatever the outcome
pub holds_then : {D : Type 0} (z : SharedState D) (s t : SeatState) (log left : LogState) (entries : List Entry) (facts : List Fact) (outcome : Result (Unit {0}) WriteError) → PutsNoting z s log entries facts outcome t left → HoldsWrite z t left
holds_then z s t log left entries facts (Ok done) p = p.0.holds
holds_then z s t log left entries facts (Err write_error.Memory) p = p.3.holds
holds_then z s t log left entries facts (Err write_error.LogFault) p = p.0.holds

-- ---- how the pairs of a record are kept

alone_apart : (cells : ℕ) (way : Way) → AreApart cells (way ∷ [])
alone_apart cells Undecided = (tt, tt)
alone_apart cells (InWord p c) = (inr tt, tt)
alone_apart cells (Delayed p c) = (tt, tt)

pub one_apart : (cells n : ℕ) (entry : Entry) → AreApart cells (ways_of cells n (entry ∷ []))
one_apart cells n entry = alone_apart cells (way_of cells (pair_by n entry))

-- the Undo's pair decides itself
pub both_apart : (cells n p : ℕ) (batch : List Change) → AreApart cells (ways_of cells n (Undo p batch ∷ Close p ∷ []))
both_apart cells n p batch = (by_fit (fits cells (record { number = n; decision = n })), one_apart cells (suc n) (Close p))
  where
    by_fit : (b : Bool) → MayPrecede cells (cond b (InWord n n) (Delayed n n)) (ways_of cells (suc n) (Close p ∷ []))
    by_fit true = inl refl
    by_fit false = tt

-- pairs of prepares of which no two have one place
elsewhere : (cells p n : ℕ) (numbers : List ℕ) → HasOwnPlace cells p numbers → AreElsewhere cells (cache_place cells p) (ways_of cells n (map (λ q. Commit q) numbers))
elsewhere cells p n [] own = tt
elsewhere cells p n (q ∷ others) own = (by_fit (fits cells (record { number = q; decision = n })), elsewhere cells p (suc n) others own.1)
  where
    by_fit : (b : Bool) → IsElsewhere cells (cache_place cells p) (cond b (InWord q n) (Delayed q n))
    by_fit true = own.0
    by_fit false = tt

pub none_share_apart : (cells n : ℕ) (numbers : List ℕ) → NoneShare cells numbers → AreApart cells (ways_of cells n (map (λ q. Commit q) numbers))
none_share_apart cells n [] share = tt
none_share_apart cells n (p ∷ others) share = (by_fit (fits cells (record { number = p; decision = n })), none_share_apart cells (suc n) others share.1)
  where
    by_fit : (b : Bool) → MayPrecede cells (cond b (InWord p n) (Delayed p n)) (ways_of cells (suc n) (map (λ q. Commit q) others))
    by_fit true = inr (elsewhere cells p (suc n) others share.0)
    by_fit false = tt

-- ---- what is noted of a record

-- what is so of a fact is so of each that is it
about_one : (fact : Fact) → IsLoose fact → (other : Fact) → IsIn other (fact ∷ []) → IsLoose other
about_one fact none other there = ⊎_elim (λ (e : fact ≡ other). ap guarded_by (sym e) ∙ none) (λ (no : ⊥). absurd no) there

each_loose : (xs : List PreparedState) (fact : Fact) → IsIn fact (notes_of_each xs) → IsLoose fact
each_loose [] fact there = absurd there
each_loose (x ∷ others) fact there = ⊎_elim (λ (e : unprepared x.name ≡ fact). ap guarded_by (sym e)) (λ (k : IsIn fact (notes_of_each others)). each_loose others fact k) there

-- that needs no turn
pub noting_loose : (noting : Noting) (n : ℕ) (fact : Fact) → IsIn fact (notes_of noting n) → IsLoose fact
noting_loose note.Nothing n fact there = absurd there
noting_loose (note.Undecided name) n fact there = about_one (undecided_at name.now n) refl fact there
noting_loose (note.Unprepared txns) n fact there = each_loose txns.now fact there

pub one_noted : (s t : SeatState) (fact : Fact) → t ≡ seat_of s (with_note fact s.knows) → NotesMore s (fact ∷ []) t
one_noted s t fact is = subst (NotesMore s (fact ∷ [])) (sym is) (record {
  same = refl;
  kept = λ other there. inr there;
  noted = λ other there. ⊎_elim (λ (e : fact ≡ other). inl e) (λ (no : ⊥). absurd no) there;
})

in_either : {X : Type 0} (front back : List X) (x : X) → IsIn x (front ++ back) → IsIn x front ⊎ IsIn x back
in_either [] back x there = inr there
in_either (y ∷ front) back x there = ⊎_elim (λ (e : y ≡ x). inl (inl e))
    (λ (k : IsIn x (front ++ back)). ⊎_elim (λ (a : IsIn x front). inl (inr a)) (λ (b : IsIn x back). inr b) (in_either front back x k)) there

-- these, and then those
pub then_noted : (s t u : SeatState) (facts more : List Fact) → NotesMore s facts t → NotesMore t more u → NotesMore s (facts ++ more) u
then_noted s t u facts more first second = record {
  same = second.same ∙ ap (noting_only u.knows.notes) first.same;
  kept = λ fact there. second.kept fact (first.kept fact there);
  noted = λ fact there. ⊎_elim (λ (k : IsIn fact facts). second.kept fact (first.noted fact k)) (second.noted fact) (in_either facts more fact there);
}

-- the facts are noted behind the record
pub put_noting : {D : Type 0} (z : SharedState D) (s t u : SeatState) (log left : LogState) (entries : List Entry) (facts : List Fact) → IsPut z s log entries t left → AppendsOnce log entries left → NotesMore t facts u → PutsNoting z s log entries facts (Ok tt) u left
put_noting z s t u log left entries facts put once more =
    let h = put.holds in
    subst (λ (x : SeatState). PutsNoting z s log entries facts (Ok tt) x left) (sym more.same) (
      record {
        holds = record {
          turn = record { same_table = h.turn.same_table; live = h.turn.live; held = h.turn.held; turns = h.turn.turns };
          pending = h.pending;
          seen = h.seen;
          of_store = h.of_store;
          words = record { bound = h.words.bound; words = h.words.words; noted = more.kept (words_stay h.words.bound h.words.words) h.words.noted; are_published = h.words.are_published };
        };
        same_by = put.same_by;
        history = put.history;
        running = put.running;
        waited = put.waited;
        knows = ap (with_notes u.knows.notes) put.knows;
        notes = λ other turnless apart there. more.kept other (put.notes other turnless apart there);
        words = λ bound words there. more.kept _ (put.words bound words there);
      },
      once,
      more.noted,
    )

-- ---- what is noted behind a record

-- the Prepare that was put is found by its name
prepare_named : (history : List Entry) (name : List ℕ) (batch : List Change) → IsLegal (history ++ Prepare name batch ∷ []) → named (history ++ Prepare name batch ∷ []) name ≡ Some (length (history ++ Prepare name batch ∷ []))
prepare_named history name batch legal =
    let last = length_next history (Prepare name batch) in
    named_is (history ++ Prepare name batch ∷ []) legal (length history + 1) name (undecided_at_next history (Prepare name batch) (before history (Prepare name batch) legal) refl) (ap prepared_name (entry_at_next history (Prepare name batch)))
    ∙ ap (λ (n : ℕ). Some n) (sym last)

name_of : (history : List Entry) (name : List ℕ) (p : ℕ) → named history name ≡ Some p → Some (name_at history p) ≡ Some name
name_of history name p is = ap (λ (n : List ℕ). Some n) ((bytes_eq-Decides (name_at history p) name).0 (found_named history name p is).1)

-- who puts Commits has the transactions of them
has_each : (a : Actor) (xs : List PreparedState) (earlier more : List Entry) → OwnsEntries a (earlier ++ more) (their_commits xs) → AllByRecursion (λ x. named earlier x.name ≡ Some x.number) xs
    → AllByRecursion (λ x. is_some (finite.get a.participant.transactions x.name) ≡ true) xs
has_each a [] earlier more owned are = tt
has_each a (x ∷ others) earlier more owned are =
    let within = (undecided_within earlier x.number (found_named earlier x.name x.number are.0).0).1 in
    let is : transaction_of (earlier ++ more) (Commit x.number) ≡ Some x.name = ap (λ (e : Option Entry). Some (prepared_name e)) (entry_at_old earlier more x.number within) ∙ name_of earlier x.name x.number are.0 in (
      ap is_some (owned.0.transaction x.name is).1,
      has_each a others earlier (more ++ Commit x.number ∷ []) (subst (λ (es : List Entry). OwnsEntries a es (their_commits others)) (append_assoc earlier more (Commit x.number ∷ [])) owned.1) are.1,
    )

module _ {D : Type 0} (z : SharedState D) (s t : SeatState) (log left : LogState) (entries : List Entry) (put : IsPut z s log entries t left) (may : MayPut s.knows log.state.history entries) (name : List ℕ) where
  abbrev behind : List Entry
  behind = log.state.history

  legal_with : (others : List Entry) → entries ≡ others → IsLegal (behind ++ others)
  legal_with others are = subst (λ (es : List Entry). IsLegal (behind ++ es)) are may.legal

  -- the seat has the transaction of the record still
  has_still : (entry : Entry) (others : List Entry) → entries ≡ entry ∷ others → transaction_of behind entry ≡ Some name → is_some (finite.get t.knows.participant.transactions name) ≡ true
  has_still entry others are is =
      let owned = (subst (λ (es : List Entry). MayPut s.knows behind es) are may).owned.0.transaction name is in
      ap (λ (a : Actor). is_some (finite.get a.participant.transactions name)) put.knows ∙ ap is_some owned.1

  pub held_still : IsIn (writes left.state) t.knows.held
  held_still = subst (IsIn (writes left.state)) (sym put.holds.turn.held) (inl refl)

  module _ (batch : List Change) (are : entries ≡ Prepare name batch ∷ []) where
    pub prepare_has : is_some (finite.get t.knows.participant.transactions name) ≡ true
    prepare_has = has_still (Prepare name batch) [] are refl

    pub prepare_is : named left.state.history name ≡ Some (length left.state.history)
    prepare_is = subst (λ (h : List Entry). named h name ≡ Some (length h)) (sym (put.history ∙ ap (λ (es : List Entry). behind ++ es) are)) (prepare_named behind name batch (legal_with (Prepare name batch ∷ []) are))

-- ---- and of those that it decides

module _ {D : Type 0} (z : SharedState D) (s t : SeatState) (log left : LogState) (entries : List Entry) (put : IsPut z s log entries t left) (may : MayPut s.knows log.state.history entries) where
  commits_decided : (xs : List PreparedState) → entries ≡ their_commits xs → AllByRecursion (λ x. named log.state.history x.name ≡ Some x.number) xs → AllByRecursion (IsDecided t left.state.history) xs
  commits_decided xs is are =
      let history = log.state.history in
      let may_these = subst (λ (es : List Entry). MayPut s.knows history es) is may in
      let has = has_each s.knows xs history [] (subst (λ (es : List Entry). OwnsEntries s.knows es (their_commits xs)) (sym (append-nil history)) may_these.owned) are in
      all_of (IsDecided t left.state.history) xs (λ x there. (
        ap (λ (a : Actor). is_some (finite.get a.participant.transactions x.name)) put.knows ∙ all_in (λ y. is_some (finite.get s.knows.participant.transactions y.name) ≡ true) xs x has there,
        ap (λ (h : List Entry). named h x.name) (put.history ∙ ap (λ (es : List Entry). history ++ es) is) ∙ commits_free xs history x may_these.legal (all_in (λ y. named history y.name ≡ Some y.number) xs x are there) there,
      ))

  rollback_decided : (xs : List PreparedState) → IsRollback xs entries → AllByRecursion (λ x. named log.state.history x.name ≡ Some x.number) xs → AllByRecursion (IsDecided t left.state.history) xs
  rollback_decided [] is are = tt
  rollback_decided (x ∷ []) is are =
      let history = log.state.history in let batch = is.0 in (
        (
          has_still z s t log left entries put may x.name (Undo x.number batch) (Close x.number ∷ []) is.1 (name_of history x.name x.number are.0),
          ap (λ (h : List Entry). named h x.name) (put.history ∙ ap (λ (es : List Entry). history ++ es) is.1)
              ∙ rollback_frees history x.number batch (legal_with z s t log left entries put may x.name (Undo x.number batch ∷ Close x.number ∷ []) is.1) x.name are.0,
        ),
        tt,
      )
  rollback_decided (x ∷ y ∷ others) is are = absurd is

  pub all_decided : (xs : List PreparedState) → IsEndOf xs log.state.history entries → AllByRecursion (IsDecided t left.state.history) xs
  all_decided xs ends = ⊎_elim (λ (is : entries ≡ their_commits xs). commits_decided xs is ends.0) (λ (is : IsRollback xs entries). rollback_decided xs is ends.0) ends.1
