-- What a call leaves, put together from what its stages leave.
use Rattle.std.proofs.Common.{◌≡◌, ℕ, suc, ◌+◌, Bool, true, false, ◌||◌, List, [], ◌∷◌, ◌++◌, length, length-append, append_assoc, append-nil, refl, sym, subst, ap, ◌∙◌, None, arith}
use Rattle.std.specs.Prelude.{Result, Ok, Err}
use Rattle.wp_model.specs.declared.entry.Entry.{Entry}
use Rattle.wp_outside.specs.Faults.{Rose}
use Rattle.wp_wal.specs.Wal.{WalState, LosesNothingAt}
use Rattle.wp_core.specs.Entries.{pair_by}
use Rattle.wp_core.specs.Lists.{IsIn}
use Rattle.wp_core.specs.Sound.Views.{guarded_by}
use Rattle.wp_core.specs.States.{WriteState, Content, writes}
use Rattle.wp_core.specs.Views.{Fact, words_stay, versions_in_memory, none_waits}
use Rattle.wp_core.specs.World.{Participant, World}
use Rattle.wp_rule.specs.Knows.{Noted}
use Rattle.wp_parts.specs.Log.{LogState}
use Rattle.wp_shared.specs.Seats.{SharedState, SeatState, Stands}
use Rattle.wp_shared.specs.Notes.{is_ended_by, with_participant, noting, GoesOn}
use Rattle.wp_shared.proofs.Goes.{holds, notes}
use Rattle.wp_commits.specs.declared.way.Way.{Way}
use Rattle.wp_commits.specs.Bound.{bound_with, bound_for}
use Rattle.wp_commits.specs.Ways.{way_of, ways_of, AnyClears, RisesFor, with_way, entered}
use Rattle.wp_commits.proofs.Clears.{still_noted}
use Rattle.wp_commits.proofs.Ways.{bound_for_more}
use Rattle.wp_records.specs.declared.error.WriteError.{WriteError}
use Rattle.wp_records.specs.declared.error.WriteError.TheVariants.{Memory, LogFault}
use Rattle.wp_records.specs.Writing.{HoldsWrite}
use Rattle.wp_records.specs.Records.{numbers_behind, putting, IsAboutNone, HasCleared, IsPutWith, IsPut, IsNotPut, IsUncalled, LeavesAll, failing, FailsAppend, AppendsOnce, Puts}
use Rattle.wp_records.specs.Stages.{is_of_stage, is_guarded, may_end, holding, as_failed, HoldsPending, IsLogged, Logs, HasJoined}
use Rattle.wp_records.proofs.Facts.{not_stage, unguarded}
use Rattle.wp_records.proofs.Holding.{as_write}

-- ---- nothing was put

module _ {D : Type 0} (z : SharedState D) (s new : SeatState) (log left : LogState) (holds : HoldsWrite z new left) where
  -- what was done was taken back
  pub not_put : (closed : Bool) (after : Participant) → GoesOn is_of_stage (writes left.state ∷ []) s.turns (with_participant after s) new → left.state.history ≡ log.state.history → left.state.closed ≡ closed → IsNotPut z s log [] closed after new left
  not_put closed after k history is = record {
    holds = holds;
    same_by = ap (λ (x : SeatState). x.by) k.same;
    history = history;
    closed_is = is;
    knows = ap (λ (x : SeatState). x.knows) k.same;
    notes = λ fact guard there. k.noted fact (not_stage fact (unguarded fact guard)) there;
    words = λ bound words there. k.noted (words_stay bound words) refl there;
  }

  -- where the log call failed
  pub failed_put : (t : SeatState) (d : WriteState) (entries : List Entry) → t ≡ holding d (as_failed entries s) → GoesOn is_of_stage (writes left.state ∷ []) t.turns t new → left.state.history ≡ log.state.history → left.state.closed ≡ true → IsNotPut z s log [] true (failing entries s.knows.participant) new left
  failed_put t d entries is k history closed =
      not_put true (failing entries s.knows.participant)
      (record {
        same = k.same ∙ ap (λ (x : SeatState). record x { knows = record x.knows { held = writes left.state ∷ []; notes = new.knows.notes }; turns = x.turns }) is;
        noted = λ fact other there. k.noted fact other (subst (λ (x : SeatState). IsIn fact x.knows.notes) (sym is) there);
      })
      history closed

-- the log call failed, and the record was taken back
pub fails : (log mid left : LogState) → log.state.logged ≡ false → mid.state ≡ record log.state { closed = true; failed = log.state.pending } → left ≡ record mid { state = record mid.state { pending = [] } }
    → Rose log.wal.faults mid.wal.faults → LeavesAll log.wal log.state log.state.pending mid.wal.moments → LosesNothingAt log.state.segment.place log.wal.moments mid.wal.moments → FailsAppend log log.state.pending left
fails log mid left unlogged closed back rose passed durable =
    let wal : left.wal ≡ mid.wal = ap (λ (x : LogState). x.wal) back in record {
      state = ap (λ (x : LogState). x.state) back ∙ ap (λ (t : WriteState). record t { pending = [] }) closed ∙ ap (λ (b : Bool). record log.state { pending = []; logged = b; closed = true; failed = log.state.pending }) unlogged;
      rose = subst (λ (w : WalState). Rose log.wal.faults w.faults) (sym wal) rose;
      passed = subst (λ (w : WalState). LeavesAll log.wal log.state log.state.pending w.moments) (sym wal) passed;
      durable = subst (λ (w : WalState). LosesNothingAt log.state.segment.place log.wal.moments w.moments) (sym wal) durable;
    }

-- behind the append the device was not called
pub appended : (log mid left : LogState) (entries : List Entry) → AppendsOnce log entries mid → (left.wal ≡ mid.wal) × (left.state.log ≡ mid.state.log) → AppendsOnce log entries left
appended log mid left entries once same = record {
  spelled = same.1 ∙ once.spelled;
  counted = ap (λ (w : WalState). w.count) same.0 ∙ once.counted;
  passed = subst (λ (w : WalState). LeavesAll log.wal log.state entries w.moments) (sym same.0) once.passed;
  durable = subst (λ (w : WalState). LosesNothingAt log.state.segment.place log.wal.moments w.moments) (sym same.0) once.durable;
}

-- ---- a stage before

-- the state with nothing pending
abbrev pub in_step : WriteState → WriteState
in_step t = record t { pending = []; logged = false }

-- the log with no record ready
abbrev pub unreserved : WalState → WalState
unreserved w = record w { reserved = None }

module _ {D : Type 0} (z : SharedState D) (s t new : SeatState) (log mid left : LogState) (h : List Content) (m : List ℕ) (k : GoesOn is_guarded h m s t) (same_history : mid.state.history ≡ log.state.history) where
  abbrev n : ℕ
  n = length log.state.history

  -- in which the bound rose for these ways, and then for others
  module _ (cleared : List Way) (rises : RisesFor z.cells n s.knows t.knows cleared) where
    rose : (others : List Way) (bound : ℕ) (words : List ℕ)
        → bound_for z.cells (length mid.state.history) (bound_for z.cells n bound words cleared) words others ≡ bound_for z.cells n bound words (cleared ++ others)
    rose others bound words =
        ap (λ (e : List Entry). bound_for z.cells (length e) (bound_for z.cells n bound words cleared) words others) same_history ∙ sym (bound_for_more z.cells n bound words cleared others)

    not_put_before : (f : Participant → Participant) (others : List Way) (closed : Bool) → IsNotPut z t mid others closed (f t.knows.participant) new left → IsNotPut z s log (cleared ++ others) closed (f s.knows.participant) new left
    not_put_before f others closed p = record {
      holds = p.holds;
      same_by = p.same_by ∙ ap (λ (x : SeatState). x.by) k.same;
      history = p.history ∙ same_history;
      closed_is = p.closed_is;
      knows = p.knows ∙ ap (λ (x : SeatState). record x.knows { participant = f x.knows.participant; held = writes left.state ∷ []; notes = new.knows.notes }) k.same;
      notes = λ fact guard there. p.notes fact guard (k.noted fact (unguarded fact guard) there);
      words = λ bound words there. subst (λ (b : ℕ). Noted new.knows (words_stay b words)) (rose others bound words) (p.words (bound_for z.cells n bound words cleared) words (rises bound words there));
    }

    put_before : (others : List Way) (entries : List Entry) → (AnyClears (cleared ++ others) → HasCleared z s log.state.history entries) → IsPutWith z t mid others entries new left → IsPutWith z s log (cleared ++ others) entries new left
    put_before others entries waited p = record {
      holds = p.holds;
      same_by = p.same_by ∙ ap (λ (x : SeatState). x.by) k.same;
      history = p.history ∙ ap (λ (e : List Entry). e ++ entries) same_history;
      running = p.running;
      knows = p.knows
          ∙ (λ i. record (k.same i).knows { participant = putting (same_history i) entries (k.same i).knows.participant; learned = []; held = writes left.state ∷ []; notes = new.knows.notes });
      notes = λ fact guard about there. p.notes fact guard (subst (λ (e : List Entry). IsAboutNone e entries fact) (sym same_history) about) (k.noted fact (unguarded fact guard) there);
      waited = waited;
      words = λ bound words there.
          subst (λ (x : List Entry × ℕ). Noted new.knows (entered z.cells (length x.0) x.1 words (ways_of z.cells (suc (length x.0)) entries))) (λ i. (same_history i, rose others bound words i))
          (p.words (bound_for z.cells n bound words cleared) words (rises bound words there));
    }

  -- in which it did not rise
  module _ (rises : RisesFor z.cells n s.knows t.knows []) (table : in_step mid.state ≡ in_step log.state) (wal : unreserved mid.wal ≡ unreserved log.wal) where
    fails_before : (entries : List Entry) → FailsAppend mid entries left → FailsAppend log entries left
    fails_before entries f = record {
      state = f.state ∙ ap (λ (x : WriteState). record x { closed = true; failed = entries }) table;
      rose = subst (λ (w : WalState). Rose w.faults left.wal.faults) wal f.rose;
      passed = subst (λ (x : WalState × WriteState). LeavesAll x.0 x.1 entries left.wal.moments) (λ i. (wal i, table i)) f.passed;
      durable = subst (λ (x : WalState × WriteState). LosesNothingAt x.1.segment.place x.0.moments left.wal.moments) (λ i. (wal i, table i)) f.durable;
    }

    appends_before : (entries : List Entry) → AppendsOnce mid entries left → AppendsOnce log entries left
    appends_before entries once = record {
      spelled = once.spelled ∙ ap (λ (x : WriteState). x.log ++ entries) table;
      counted = once.counted ∙ ap (λ (w : WalState). w.count + 1) wal;
      passed = subst (λ (x : WalState × WriteState). LeavesAll x.0 x.1 entries left.wal.moments) (λ i. (wal i, table i)) once.passed;
      durable = subst (λ (x : WalState × WriteState). LosesNothingAt x.1.segment.place x.0.moments left.wal.moments) (λ i. (wal i, table i)) once.durable;
    }

    ways_are : (entries : List Entry) → ways_of z.cells (suc (length mid.state.history)) entries ≡ ways_of z.cells (suc n) entries
    ways_are entries = ap (λ (e : List Entry). ways_of z.cells (suc (length e)) entries) same_history

    cleared_before : (entries : List Entry) → HasCleared z t mid.state.history entries → HasCleared z s log.state.history entries
    cleared_before entries h = record {
      seat = h.seat;
      world = h.world;
      stands = h.stands;
      same_by = h.same_by ∙ ap (λ (x : SeatState). x.by) k.same;
      participant = h.participant ∙ ap (λ (x : SeatState). x.knows.participant) k.same;
      state = h.state;
      held = h.held;
      history_is = h.history_is ∙ same_history;
      pending_is = h.pending_is;
      rises = subst (λ (e : List Entry). RisesFor z.cells (length e) s.knows h.seat.knows (ways_of z.cells (suc (length e)) entries)) same_history (λ bound words there. h.rises bound words (rises bound words there));
      waits = h.waits;
    }

    pub puts_before : (entries : List Entry) (answer : Result (Unit {0}) WriteError) → Puts z t mid entries answer new left → Puts z s log entries answer new left
    puts_before entries (Ok done) p = (subst (λ (w : List Way). IsPutWith z s log w entries new left) (ways_are entries) (put_before [] rises (ways_of z.cells (suc (length mid.state.history)) entries) entries (λ any. cleared_before entries (p.0.waited any)) p.0), appends_before entries p.1)
    puts_before entries (Err Memory) p = (
      p.0,
      p.1,
      sym (ways_are entries) ∙ p.2,
      not_put_before [] rises (λ x. x) p.0 false p.3,
      p.4 ∙ ap (λ (w : WalState). record w { reserved = left.wal.reserved }) wal,
    )
    puts_before entries (Err LogFault) p = (
      subst (λ (w : List Way). IsNotPut z s log w true (failing entries s.knows.participant) new left) (ways_are entries) (not_put_before [] rises (failing entries) (ways_of z.cells (suc (length mid.state.history)) entries) true p.0),
      fails_before entries p.1,
    )

-- the record was made ready before, or it was tried
module _ {D : Type 0} (z : SharedState D) (s t new : SeatState) (log left : LogState) (k : GoesOn is_guarded s.knows.held s.turns s t) (cleared : List Way) (rises : RisesFor z.cells (length log.state.history) s.knows t.knows cleared) where
  pub not_ready : (others : List Way) → ways_of z.cells (suc (length log.state.history)) log.state.pending ≡ cleared ++ others → (why : WriteError) → why ≡ Memory → IsNotPut z t log [] false t.knows.participant new left → IsUncalled log left → Puts z s log log.state.pending (Err why) new left
  not_ready others are why is p uncalled =
      subst (λ (e : WriteError). Puts z s log log.state.pending (Err e) new left) (sym is)
      (cleared, others, are, subst (λ (w : List Way). IsNotPut z s log w false s.knows.participant new left) (append-nil cleared) (not_put_before z s t new log log left _ _ k refl cleared rises (λ x. x) [] false p), uncalled)

  pub not_logged : cleared ≡ ways_of z.cells (suc (length log.state.history)) log.state.pending → (why : WriteError) → Logs z t log (Err why) new left → Puts z s log log.state.pending (Err why) new left
  not_logged all Memory none = absurd none
  not_logged all LogFault p = (
    subst (λ (w : List Way). IsNotPut z s log w true (failing log.state.pending s.knows.participant) new left) (append-nil cleared ∙ all) (not_put_before z s t new log log left _ _ k refl cleared rises (failing log.state.pending) [] true p.0),
    p.1,
  )

-- ---- entries were put

may_end_not : (history : List Entry) (entry : Entry) (fact : Fact) → guarded_by fact ≡ None → is_ended_by history entry fact ≡ false → may_end history entry fact ≡ false
may_end_not history entry fact guard about = λ i. unguarded fact guard i || about i

-- no entry is left to put
pub put_none : {D : Type 0} (z : SharedState D) (s : SeatState) (log : LogState) → HoldsPending z s log → log.state.pending ≡ [] → log.state.closed ≡ false → s.knows.learned ≡ [] → IsPutWith z s log [] [] s log
put_none z s log h none running learned = record {
  holds = as_write z s log h none;
  same_by = refl;
  history = sym (append-nil log.state.history);
  running = running;
  knows = let seen = h.seen ∙ sym (append-nil log.state.history) in λ i. record s.knows { participant = record s.knows.participant { seen = seen i; own = sym (append-nil s.knows.participant.own) i }; learned = learned i; held = h.turn.held i };
  notes = λ fact guard about there. there;
  waited = λ none. absurd none;
  words = λ bound words there. there;
}

-- the first was put, and then the others
module _ {D : Type 0} (z : SharedState D) (s t new : SeatState) (log mid left : LogState) (entry : Entry) (others : List Entry) (joined : HasJoined z s log entry others t mid) (k : IsPutWith z t mid [] others new left) where
  history_is : mid.state.history ≡ log.state.history ++ entry ∷ []
  history_is = ap (λ (x : LogState). x.state.history) joined.log_is

  one_longer : (h : List Entry) → length (h ++ entry ∷ []) ≡ suc (length h)
  one_longer h = let l = length-append h (entry ∷ []) in omega (arith, l)

  one_more : (h : List Entry) (p : Participant) → putting (h ++ entry ∷ []) others (putting h (entry ∷ []) p) ≡ putting h (entry ∷ others) p
  one_more h p =
      let seen : (h ++ entry ∷ []) ++ others ≡ h ++ entry ∷ others = append_assoc h (entry ∷ []) others in
      let own : (p.own ++ suc (length h) ∷ []) ++ numbers_behind (length (h ++ entry ∷ [])) others ≡ p.own ++ suc (length h) ∷ numbers_behind (suc (length h)) others =
      append_assoc p.own (suc (length h) ∷ []) (numbers_behind (length (h ++ entry ∷ [])) others) ∙ ap (λ (m : ℕ). p.own ++ suc (length h) ∷ numbers_behind m others) (one_longer h) in
      λ i. record p { seen = seen i; own = own i }

  pub put_next : IsPutWith z s log [] (entry ∷ others) new left
  put_next = record {
    holds = k.holds;
    same_by = k.same_by ∙ ap (λ (x : SeatState). x.by) joined.seat.same;
    history = k.history ∙ (ap (λ (e : List Entry). e ++ others) history_is ∙ append_assoc log.state.history (entry ∷ []) others);
    running = k.running;
    knows = k.knows
        ∙ ((λ i. record (joined.seat.same i).knows { participant = putting (history_is i) others (joined.seat.same i).knows.participant; learned = []; held = writes left.state ∷ []; notes = new.knows.notes })
        ∙ ap (λ (p : Participant). record s.knows { participant = p; learned = []; held = writes left.state ∷ []; notes = new.knows.notes }) (one_more log.state.history s.knows.participant));
    notes = λ fact guard about there. k.notes fact guard (subst (λ (e : List Entry). IsAboutNone e others fact) (sym history_is) about.1) (joined.seat.noted fact (may_end_not log.state.history entry fact guard about.0) there);
    waited = λ none. absurd none;
    words = λ bound words there.
        let way = way_of z.cells (pair_by (suc (length log.state.history)) entry) in
        let next : ℕ = bound_with z.cells (length log.state.history) bound words way in
        subst (λ (m : ℕ). Noted new.knows (entered z.cells m next (with_way words way) (ways_of z.cells (suc m) others))) (ap (λ (e : List Entry). length e) history_is ∙ one_longer log.state.history)
        (k.words next (with_way words way) (joined.words bound words there));
  }

module _ {D : Type 0} (z : SharedState D) (s t : SeatState) (log mid : LogState) (entry : Entry) (others : List Entry) (joined : HasJoined z s log entry others t mid) (pending : log.state.pending ≡ entry ∷ others) where
  pub others_pending : mid.state.pending ≡ others
  others_pending = ap (λ (x : LogState). x.state.pending) joined.log_is

  pub put_first : (new : SeatState) (left : LogState) → IsPutWith z t mid [] mid.state.pending new left → IsPutWith z s log [] log.state.pending new left
  put_first new left p =
      subst (λ (e : List Entry). IsPutWith z s log [] e new left) (sym pending) (put_next z s t new log mid left entry others joined (subst (λ (e : List Entry). IsPutWith z t mid [] e new left) others_pending p))

  -- behind a fact that was noted
  pub put_noted : (r : SeatState) → s ≡ noting versions_in_memory r → (new : SeatState) (left : LogState) → IsPutWith z t mid [] mid.state.pending new left → IsPutWith z r log [] log.state.pending new left
  put_noted r noted new left p =
      put_before z r s new log log left _ _ (notes is_guarded r s s versions_in_memory noted) refl [] (λ bound words there. still_noted r s versions_in_memory (words_stay bound words) noted there) [] log.state.pending (λ none. absurd none) (put_first new left p)

-- the record was made ready, in a world of the store
pub ready_cleared : {D : Type 0} (z : SharedState D) (s t v : SeatState) (log : LogState) → GoesOn is_guarded s.knows.held s.turns s t → HoldsPending z t log → v ≡ t → ((w : World) × Stands z v w)
    → RisesFor z.cells (length log.state.history) s.knows t.knows (ways_of z.cells (suc (length log.state.history)) log.state.pending) → Noted t.knows none_waits → HasCleared z s log.state.history log.state.pending
ready_cleared z s t v log k h same stands rises waits = record {
  seat = t;
  world = stands.0;
  stands = subst (λ (x : SeatState). Stands z x stands.0) same stands.1;
  same_by = ap (λ (x : SeatState). x.by) k.same;
  participant = ap (λ (x : SeatState). x.knows.participant) k.same;
  state = log.state;
  held = h.turn.held;
  history_is = refl;
  pending_is = refl;
  rises = rises;
  waits = waits;
}

-- the record was made ready and logged before
pub put_logged : {D : Type 0} (z : SharedState D) (s t u new : SeatState) (log mid left : LogState) → GoesOn is_guarded s.knows.held s.turns s t → RisesFor z.cells (length log.state.history) s.knows t.knows (ways_of z.cells (suc (length log.state.history)) log.state.pending)
    → (AnyClears (ways_of z.cells (suc (length log.state.history)) log.state.pending) → HasCleared z s log.state.history log.state.pending) → IsLogged z t log u mid → IsPutWith z u mid [] mid.state.pending new left
    → IsPut z s log log.state.pending new left
put_logged z s t u new log mid left k rises waited logged p =
    let history : mid.state.history ≡ log.state.history = ap (λ (x : WriteState). x.history) logged.state in
    let pending : mid.state.pending ≡ log.state.pending = ap (λ (x : WriteState). x.pending) logged.state in
    let ways = ways_of z.cells (suc (length log.state.history)) log.state.pending in
    let behind = put_before z t u new log mid left _ _ (holds is_guarded t u u (writes mid.state ∷ []) logged.seat) history [] (λ bound words there. subst (λ (x : SeatState). Noted x.knows (words_stay bound words)) (sym logged.seat) there)
    [] log.state.pending (λ none. absurd none) (subst (λ (e : List Entry). IsPutWith z u mid [] e new left) pending p) in
    subst (λ (w : List Way). IsPutWith z s log w log.state.pending new left) (append-nil ways)
    (put_before z s t new log log left _ _ k refl ways rises [] log.state.pending (λ any. waited (subst AnyClears (append-nil ways) any)) behind)
