-- Entries that join the history: what is known before, and after.
use Rattle.std.proofs.Common.{◌≡◌, ◌≢◌, ⊎_elim, inl, inr, ℕ, suc, ◌≤◌, ◌||◌, Bool, cond, true, false, true≢false, List, [], ◌∷◌, ◌++◌, length, length-append, append_assoc, refl, sym, subst, ap, ◌∙◌, Option, Some, arith}
use Rattle.std.specs.FinMap as finite
use Rattle.wp_model.specs.declared.change.Change.{Change}
use Rattle.wp_model.specs.declared.entry.Entry.{Entry}
use Rattle.wp_model.specs.declared.entry.Entry.TheVariants.{Prepare, Commit, Undo, Close}
use Rattle.wp_model.specs.declared.holder.Holder.TheVariants.{Txn}
use Rattle.wp_model.specs.History.{is_changed, is_prepare}
use Rattle.wp_model.specs.Legal.{IsLegal}
use Rattle.wp_judge.specs.Words.{CommitPair, commit_pair}
use Rattle.wp_core.specs.Cache.{cache_place}
use Rattle.wp_core.specs.Conditions.{HasTransaction, IsPrepare}
use Rattle.wp_model.specs.Record.{AreCommits, IsOneRecord}
use Rattle.wp_core.specs.Entries.{next_of, pair_by, pending_pair, written}
use Rattle.wp_core.specs.States.{WriteState, writes}
use Rattle.wp_core.specs.Lists.{IsIn}
use Rattle.wp_core.specs.Views as view
use Rattle.wp_core.specs.Views.{Fact, passed, in_old_commits, words_stay, versions_in_memory, versions_nowhere, number_in_heap, number_not_in_heap, unprepared, locked}
use Rattle.wp_core.specs.World.{Transaction, Participant, Actor}
use Rattle.wp_core.proofs.HistoryLaws.{first_legal}
use Rattle.wp_rule.specs.Knows.{KnowsHeld, Noted}
use Rattle.wp_parts.specs.Log.{LogState}
use Rattle.wp_shared.specs.Seats.{SharedState, SeatState}
use Rattle.wp_commits.specs.declared.way.Way.{Way}
use Rattle.wp_commits.specs.declared.way.Way.TheVariants.{Undecided, InWord, Delayed}
use Rattle.wp_commits.specs.Bound.{bound_with}
use Rattle.wp_commits.specs.Cleared.{IsReadyAt}
use Rattle.wp_shared.specs.Notes.{noting, GoesOn, ArePublished}
use Rattle.wp_commits.specs.Ways.{way_of, ways_of, is_of_way, with_way, IsReached, IsReadyFor, AreReady, IsElsewhere, MayPrecede, AreApart, IsEntered}
use Rattle.wp_commits.proofs.Ways.{KeepsReady, keeps_ready, ready_still, reached_still, are_ready_still, ready_behind, delayed_reached, pair_of_way}
use Rattle.wp_records.specs.Records.{OwnsEntry, OwnsEntries, MayPut}
use Rattle.wp_records.specs.Stages.{is_of_versions, is_of_heap, is_over, may_end, as_published, rest_of, HoldsPending, IsNext, IsInPlace, IsReadied, IsLogged, IsPublished, HasJoined, AreBehind, MayJoin}
use Rattle.wp_records.proofs.Facts.{still_over, still_kept}
use Rattle.wp_records.proofs.Words.{pending_decides, pending_order, way_published}

-- ---- what is owned

module _ (a b : Actor) (direct : b.participant.direct ≡ a.participant.direct) (transactions : b.participant.transactions ≡ a.participant.transactions) (past : b.participant.past ≡ a.participant.past) where
  has_still : (name : List ℕ) (x : Transaction) → HasTransaction a name x → HasTransaction b name x
  has_still name x has = ap (λ m. finite.get m name) transactions ∙ has

  -- how a transaction came to its keys is remembered still
  came_still : (name : List ℕ) (x : Transaction) (key : List ℕ) → (HasTransaction a name x → IsIn (locked key (Txn name)) a.participant.past) → HasTransaction b name x → IsIn (locked key (Txn name)) b.participant.past
  came_still name x key came has = subst (IsIn (locked key (Txn name))) (sym past) (came (ap (λ m. finite.get m name) (sym transactions) ∙ has))

  -- an entry that is no Write needs no keys
  needs_none : (history : List Entry) (entry : Entry) → written entry ≡ [] → OwnsEntry a history entry → OwnsEntry b history entry
  needs_none history entry none o = record {
    keys = λ key is. absurd (true≢false (sym is ∙ ap (λ (changes : List Change). is_changed changes key) none));
    transaction = λ name is. let t = o.transaction name is in (t.0, has_still name t.0 t.1, t.2);
    came = λ name batch x key is has locks. came_still name x key (λ had. o.came name batch x key is had locks) has;
  }

  -- those behind the first are none
  pub behind_still : (history entries : List Entry) → AreBehind entries → OwnsEntries a history entries → OwnsEntries b history entries
  behind_still history [] behind o = tt
  behind_still history (Commit p ∷ others) behind o = (needs_none history (Commit p) refl o.0, behind_still (history ++ Commit p ∷ []) others behind o.1)
  behind_still history (Close p ∷ others) behind o = (needs_none history (Close p) refl o.0, behind_still (history ++ Close p ∷ []) others behind o.1)
  behind_still history other behind o = absurd behind

  -- what was noted of names is noted still
  module _ (noted : (name : List ℕ) → Noted a (unprepared name) → Noted b (unprepared name)) where
    held_still : (key : List ℕ) → KnowsHeld a key → KnowsHeld b key
    held_still key k = ⊎_elim (λ (e : a.participant.direct ≡ Some key). inl (direct ∙ e)) (λ e. inr (e.0, e.1, has_still e.0 e.1 e.2, e.3, noted e.0 e.4)) k

    pub owns_still : (history : List Entry) (entry : Entry) → OwnsEntry a history entry → OwnsEntry b history entry
    owns_still history entry o = record {
      keys = λ key is. held_still key (o.keys key is);
      transaction = λ name is. let t = o.transaction name is in (t.0, has_still name t.0 t.1, t.2);
      came = λ name batch x key is has locks. came_still name x key (λ had. o.came name batch x key is had locks) has;
    }

    pub own_still : (history entries : List Entry) → OwnsEntries a history entries → OwnsEntries b history entries
    own_still history [] o = tt
    own_still history (entry ∷ others) o = (owns_still history entry o.0, own_still (history ++ entry ∷ []) others o.1)

-- ---- the pending entries

pub split : (pending : List Entry) → pending ≢ [] → (entry : Entry) × (others : List Entry) × (pending ≡ entry ∷ others)
split [] some = absurd (some refl)
split (entry ∷ others) some = (entry, others, refl)

commits_behind : (entries : List Entry) → AreCommits entries → AreBehind entries
commits_behind [] are = tt
commits_behind (Commit p ∷ others) are = commits_behind others are
commits_behind others are = absurd are

-- of one record those behind the first have no versions
pub one_behind : (entries : List Entry) → IsOneRecord entries → AreBehind (rest_of entries)
one_behind [] one = tt
one_behind (Commit p ∷ others) one = commits_behind others one.0
one_behind (entry ∷ []) one = tt
one_behind (Undo p batch ∷ Close q ∷ []) one = tt
one_behind others one = absurd one

behind_decides : (entries : List Entry) → AreBehind entries → is_prepare (next_of entries) ≡ true → ⊥
behind_decides [] behind is = true≢false (sym is)
behind_decides (Commit p ∷ entries) behind is = true≢false (sym is)
behind_decides (Close p ∷ entries) behind is = true≢false (sym is)
behind_decides other behind is = behind

behind_rest : (entries : List Entry) → AreBehind entries → AreBehind (rest_of entries)
behind_rest [] behind = tt
behind_rest (Commit p ∷ entries) behind = behind
behind_rest (Close p ∷ entries) behind = behind
behind_rest other behind = absurd behind

is_a_prepare : (entry : Entry) → IsPrepare entry → is_prepare (Some entry) ≡ true
is_a_prepare (Prepare name batch) is = refl
is_a_prepare other is = absurd is

pub first_ready : (a : Actor) (cells : ℕ) (history pending : List Entry) → AreReady a cells (length history) (ways_of cells (suc (length history)) pending) → IsReadyFor a cells (length history) (way_of cells (pending_pair history pending))
first_ready a cells history [] r = tt
first_ready a cells history (entry ∷ others) r = r.0

-- ---- the first of them joins

module _ {D : Type 0} (z : SharedState D) (s t u : SeatState) (log left : LogState) (entry : Entry) (others : List Entry) (h : HoldsPending z s log) (pending : log.state.pending ≡ entry ∷ others) (may : MayJoin s.knows z.cells log.state) where
  abbrev way : Way
  way = way_of z.cells (pending_pair log.state.history log.state.pending)

  pair_is : pending_pair log.state.history log.state.pending ≡ pair_by (suc (length log.state.history)) entry
  pair_is = ap (pending_pair log.state.history) pending

  -- its pair was entered
  module _ (first : GoesOn (is_of_way z.cells way) s.knows.held s.turns s t) where
    of_name : (w : Way) (name : List ℕ) → is_of_way z.cells w (unprepared name) ≡ false
    of_name Undecided name = refl
    of_name (InWord p c) name = refl
    of_name (Delayed p c) name = refl

    lets : (w : Way) (fact : Fact) → (is_of_versions fact || is_of_heap fact) ≡ true → is_of_way z.cells w fact ≡ false
    lets Undecided versions_in_memory e = refl
    lets Undecided versions_nowhere e = refl
    lets Undecided number_in_heap e = refl
    lets Undecided number_not_in_heap e = refl
    lets Undecided other e = absurd (true≢false (sym e))
    lets (InWord p c) versions_in_memory e = refl
    lets (InWord p c) versions_nowhere e = refl
    lets (InWord p c) number_in_heap e = refl
    lets (InWord p c) number_not_in_heap e = refl
    lets (InWord p c) other e = absurd (true≢false (sym e))
    lets (Delayed p c) versions_in_memory e = refl
    lets (Delayed p c) versions_nowhere e = refl
    lets (Delayed p c) number_in_heap e = refl
    lets (Delayed p c) number_not_in_heap e = refl
    lets (Delayed p c) other e = absurd (true≢false (sym e))

    pub next_still : Noted s.knows versions_in_memory → IsNext t.knows log.state entry others
    next_still versions =
        let same : t.knows.participant ≡ s.knows.participant = ap (λ (x : SeatState). x.knows.participant) first.same in
        let owned : OwnsEntries s.knows log.state.history (entry ∷ others) = subst (OwnsEntries s.knows log.state.history) pending may.may.owned in
        record {
          pending = pending;
          logged = may.logged;
          legal = first_legal log.state.history entry others (subst (λ (e : List Entry). IsLegal (log.state.history ++ e)) pending may.may.legal);
          versions = first.noted versions_in_memory (lets way versions_in_memory refl) versions;
          owned = owns_still s.knows t.knows (ap (λ (x : Participant). x.direct) same) (ap (λ (x : Participant). x.transactions) same) (ap (λ (x : Participant). x.past) same) (λ name there. first.noted (unprepared name) (of_name way name) there) log.state.history entry owned.0;
        }

    pub entered_in_place : (bound : ℕ) (words : List ℕ) → Noted t.knows (words_stay (bound_with z.cells (length log.state.history) bound words way) (with_way words way)) → IsEntered t.knows z.cells (with_way words way) way → IsInPlace t.knows z.cells log.state entry
    entered_in_place bound words noted there = record {
      number = λ prepare. first.noted number_in_heap (lets way number_in_heap refl) (may.number (ap (λ (e : List Entry). is_prepare (next_of e)) pending ∙ is_a_prepare entry prepare));
      pair = λ pair e. (
        bound_with z.cells (length log.state.history) bound words way,
        with_way words way,
        noted,
        subst (λ (o : Option CommitPair). IsEntered t.knows z.cells (with_way words way) (way_of z.cells o)) (pair_is ∙ e) there,
        λ wide. subst (λ (w : Way). pair.number ≤ bound_with z.cells (length log.state.history) bound words w) (sym (ap (way_of z.cells) (pair_is ∙ e) ∙ ap (λ (b : Bool). cond b (InWord pair.number pair.decision) (Delayed pair.number pair.decision)) wide)) (delayed_reached pair.number bound),
      );
    }

    -- and it joined the history
    module _ (k : IsPublished t log entry others u left) where
      pub joined_goes : GoesOn (may_end log.state.history entry) (writes left.state ∷ []) s.turns (as_published log.state.history entry s) u
      joined_goes =
          let same : u ≡ record (as_published log.state.history entry t) { knows = record (as_published log.state.history entry t).knows { held = writes left.state ∷ []; notes = u.knows.notes }; turns = t.turns } = k.seat.same in
          record {
            same = same ∙ ap (λ (x : SeatState). record (as_published log.state.history entry x) { knows = record (as_published log.state.history entry x).knows { held = writes left.state ∷ []; notes = u.knows.notes }; turns = x.turns }) first.same;
            noted = λ fact other there. k.seat.noted fact (still_over log.state.history entry fact other) (first.noted fact (still_kept log.state.history entry fact other z.cells way) there);
          }

      history_is : left.state.history ≡ log.state.history ++ entry ∷ []
      history_is = ap (λ (x : LogState). x.state.history) k.log_is

      pending_is : left.state.pending ≡ others
      pending_is = ap (λ (x : LogState). x.state.pending) k.log_is

      longer : length left.state.history ≡ suc (length log.state.history)
      longer = let l = length-append log.state.history (entry ∷ []) in ap length history_is ∙ omega (arith, l)

      pub joined : ((bound : ℕ) (words : List ℕ) → Noted s.knows (words_stay bound words) → Noted t.knows (words_stay (bound_with z.cells (length log.state.history) bound words way) (with_way words way))) → HasJoined z s log entry others u left
      joined entering = let w = h.words in record {
        holds = record {
          turn = record {
            same_table = ap (λ (x : SeatState). x.table) joined_goes.same ∙ h.turn.same_table;
            live = ap (λ (x : SeatState). x.knows.live) joined_goes.same ∙ h.turn.live;
            held = ap (λ (x : SeatState). x.knows.held) joined_goes.same;
            turns = ap (λ (x : SeatState). x.turns) joined_goes.same ∙ h.turn.turns;
          };
          seen = ap (λ (x : SeatState). x.knows.participant.seen) joined_goes.same ∙ sym history_is;
          of_store = h.of_store ∙ ap Some (sym (ap (λ (x : LogState). x.first) k.log_is));
          words = record {
            bound = bound_with z.cells (length log.state.history) w.bound w.words way;
            words = with_way w.words way;
            noted = k.seat.noted (words_stay (bound_with z.cells (length log.state.history) w.bound w.words way) (with_way w.words way)) refl (entering w.bound w.words w.noted);
            are_published = subst (λ (n : ℕ). ArePublished n (with_way w.words way)) (sym longer)
                (way_published z.cells (length log.state.history) w.words (pending_pair log.state.history log.state.pending) (λ pair e. pending_order log.state.history log.state.pending pair may.may.legal e) w.are_published);
          };
        };
        seat = joined_goes;
        words = λ bound words there.
            subst (λ (o : Option CommitPair). Noted u.knows (words_stay (bound_with z.cells (length log.state.history) bound words (way_of z.cells o)) (with_way words (way_of z.cells o)))) pair_is
            (k.seat.noted (words_stay (bound_with z.cells (length log.state.history) bound words way) (with_way words way)) refl (entering bound words there));
        log_is = k.log_is;
      }

      -- the others may join behind it
      pub others_join : ((place : ℕ) → IsElsewhere z.cells place way → IsReadyAt s.knows (length log.state.history) place → IsReadyAt t.knows (length log.state.history) place)
          → ((p : ℕ) → IsReached s.knows p → IsReached t.knows p) → (bound : ℕ) (words : List ℕ) → Noted t.knows (words_stay bound words) → IsEntered t.knows z.cells words way → MayJoin u.knows z.cells left.state × AreBehind left.state.pending
      others_join elsewhere reached bound words noted there =
          let behind : AreBehind others = subst (λ (e : List Entry). AreBehind (rest_of e)) pending may.behind in
          let same : u.knows.participant ≡ (as_published log.state.history entry s).knows.participant = ap (λ (x : SeatState). x.knows.participant) joined_goes.same in
          let legal : IsLegal (log.state.history ++ entry ∷ others) = subst (λ (e : List Entry). IsLegal (log.state.history ++ e)) pending may.may.legal in
          let owned : OwnsEntries s.knows log.state.history (entry ∷ others) = subst (OwnsEntries s.knows log.state.history) pending may.may.owned in
          let pairs : AreReady s.knows z.cells (length log.state.history) (way_of z.cells (pair_by (suc (length log.state.history)) entry) ∷ ways_of z.cells (suc (suc (length log.state.history))) others) =
          subst (λ (e : List Entry). AreReady s.knows z.cells (length log.state.history) (ways_of z.cells (suc (length log.state.history)) e)) pending may.pairs in
          let apart : AreApart z.cells (way_of z.cells (pair_by (suc (length log.state.history)) entry) ∷ ways_of z.cells (suc (suc (length log.state.history))) others) =
          subst (λ (e : List Entry). AreApart z.cells (ways_of z.cells (suc (length log.state.history)) e)) pending may.apart in
          let keeps = keeps_ready (is_over log.state.history entry) (as_published log.state.history entry t) u (writes left.state ∷ []) t.turns (λ place pair. (refl, refl, refl)) k.seat (λ b list n. (b, k.seat.noted (words_stay b list) refl n, omega arith)) in
          let later : length log.state.history ≤ length left.state.history = let l = longer in omega (arith, l) in
          let own : (p c : ℕ) → way ≡ InWord p c → p ≡ c → IsReadyAt u.knows (length left.state.history) (cache_place z.cells p) = λ p c is itself.
          let last : c ≡ suc (length log.state.history) = pending_decides log.state.history log.state.pending (commit_pair p c) (pair_of_way z.cells (pending_pair log.state.history log.state.pending) p c is).0 in
          let l = longer in
          inr (
            bound,
            words,
            c,
            k.seat.noted (words_stay bound words) refl noted,
            omega (arith, l, last),
            subst (λ (w : Way). IsEntered t.knows z.cells words w) is there ∙ ap (λ (q : ℕ). Some (commit_pair q c)) itself,
          ) in
          let ready : AreReady u.knows z.cells (length left.state.history) (ways_of z.cells (suc (suc (length log.state.history))) others) =
          ready_behind s.knows u.knows z.cells (length log.state.history) (length left.state.history) (λ p r. reached_still (as_published log.state.history entry t).knows u.knows keeps p (reached p r)) way (ways_of z.cells (suc (suc (length log.state.history))) others)
          (λ place away r. ready_still (as_published log.state.history entry t).knows u.knows z.cells (length log.state.history) (length left.state.history) keeps later place (elsewhere place away r))
          own
          (subst (λ (o : Option CommitPair). MayPrecede z.cells (way_of z.cells o) (ways_of z.cells (suc (suc (length log.state.history))) others)) (sym pair_is) apart.0)
          pairs.1 in (
            record {
              logged = ap (λ (x : LogState). x.state.logged) k.log_is ∙ may.logged;
              may = record {
                legal = subst (λ (x : List Entry × List Entry). IsLegal (x.0 ++ x.1)) (λ i. (sym history_is i, sym pending_is i)) (subst IsLegal (sym (append_assoc log.state.history (entry ∷ []) others)) legal);
                owned = subst (λ (x : List Entry × List Entry). OwnsEntries u.knows x.0 x.1) (λ i. (sym history_is i, sym pending_is i))
                    (behind_still s.knows u.knows (ap (λ (x : Participant). x.direct) same) (ap (λ (x : Participant). x.transactions) same) (ap (λ (x : Participant). x.past) same) (log.state.history ++ entry ∷ []) others behind owned.1);
              };
              number = λ is. absurd (behind_decides others behind (sym (ap (λ (e : List Entry). is_prepare (next_of e)) pending_is) ∙ is));
              pairs = subst (λ (x : ℕ × List Entry). AreReady u.knows z.cells (length left.state.history) (ways_of z.cells (suc x.0) x.1)) (λ i. (sym longer i, sym pending_is i)) ready;
              apart = subst (λ (x : ℕ × List Entry). AreApart z.cells (ways_of z.cells (suc x.0) x.1)) (λ i. (sym longer i, sym pending_is i)) apart.1;
              behind = subst (λ (e : List Entry). AreBehind (rest_of e)) (sym pending_is) (behind_rest others behind);
            },
            subst AreBehind (sym pending_is) behind,
          )

-- they may do so still where the participant is the same, and no note is gone
pub joins_still : (a b : Actor) (cells : ℕ) (d : WriteState) → b.participant ≡ a.participant → ((fact : Fact) → Noted a fact → Noted b fact) → MayJoin a cells d → MayJoin b cells d
joins_still a b cells d same noted k =
    let keeps : KeepsReady a b = record {
      words = λ bound words there. (bound, noted (words_stay bound words) there, omega arith);
      gone = λ place pair go. (noted (passed place pair) go.0, noted (in_old_commits place pair) go.1, noted (view.apart place pair) go.2);
    } in
    record {
      logged = k.logged;
      may = record { legal = k.may.legal; owned = own_still a b (ap (λ (x : Participant). x.direct) same) (ap (λ (x : Participant). x.transactions) same) (ap (λ (x : Participant). x.past) same) (λ name there. noted (unprepared name) there) d.history d.pending k.may.owned };
      number = λ is. noted number_in_heap (k.number is);
      pairs = are_ready_still a b cells (length d.history) (length d.history) keeps (omega arith) (ways_of cells (suc (length d.history)) d.pending) k.pairs;
      apart = k.apart;
      behind = k.behind;
    }

pub noted_join : (s t : SeatState) (fact : Fact) (cells : ℕ) (d : WriteState) → t ≡ noting fact s → MayJoin s.knows cells d → MayJoin t.knows cells d
noted_join s t fact cells d is k = joins_still s.knows t.knows cells d (ap (λ (x : SeatState). x.knows.participant) is) (λ other there. subst (λ (x : SeatState). Noted x.knows other) (sym is) (inr there)) k

-- ---- the record is ready, and was logged

pub logged_join : {D : Type 0} (z : SharedState D) (s t : SeatState) (log mid : LogState) (cells : ℕ) → IsOneRecord log.state.pending → MayPut s.knows log.state.history log.state.pending → AreApart cells (ways_of cells (suc (length log.state.history)) log.state.pending) → IsReadied s.knows cells log.state
    → IsLogged z s log t mid → MayJoin t.knows cells mid.state × Noted t.knows versions_in_memory
logged_join z s t log mid cells one may apart ready k =
    let noted : (fact : Fact) → Noted s.knows fact → Noted t.knows fact = λ fact there. subst (λ (x : SeatState). Noted x.knows fact) (sym k.seat) there in
    let history : mid.state.history ≡ log.state.history = ap (λ (x : WriteState). x.history) k.state in
    let pending : mid.state.pending ≡ log.state.pending = ap (λ (x : WriteState). x.pending) k.state in (
      joins_still s.knows t.knows cells mid.state (ap (λ (x : SeatState). x.knows.participant) k.seat) noted (record {
        logged = ap (λ (x : WriteState). x.logged) k.state;
        may = subst (λ (x : List Entry × List Entry). MayPut s.knows x.0 x.1) (λ i. (sym history i, sym pending i)) may;
        number = λ is. ready.number (ap (λ (e : List Entry). is_prepare (next_of e)) (sym pending) ∙ is);
        pairs = subst (λ (x : List Entry × List Entry). AreReady s.knows cells (length x.0) (ways_of cells (suc (length x.0)) x.1)) (λ i. (sym history i, sym pending i)) ready.pairs;
        apart = subst (λ (x : List Entry × List Entry). AreApart cells (ways_of cells (suc (length x.0)) x.1)) (λ i. (sym history i, sym pending i)) apart;
        behind = subst (λ (e : List Entry). AreBehind (rest_of e)) (sym pending) (one_behind log.state.pending one);
      }),
      noted versions_in_memory ready.versions,
    )
