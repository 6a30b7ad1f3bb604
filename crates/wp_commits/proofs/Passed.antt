-- Prepared numbers to which the bound has come, and delayed commits that it has passed.
use Rattle.std.proofs.Common.{◌≡◌, ◌≢◌, inl, inr, ℕ, ◌-◌, ◌<◌, ◌≤◌, ◌==◌, ◌||◌, Bool, true, false, true≢false, cond, List, [], ◌∷◌, ◌++◌, length, refl, sym, subst, ap, ◌∙◌, Option, Some, None, MatchOption, arith}
use Rattle.std.proofs.lemmas.Bool.{false_from_ne_true, ltb-false}
use Rattle.std.proofs.lemmas.Bool.Decides.{nat_tests}
use Rattle.std.specs.Ordering.{nat_cmp}
use Rattle.std.specs.Prelude.{is_some, MatchBool}
use Rattle.std.specs.Cmp.{nat_cmp_total}
use Rattle.std.specs.FinSet as set
use Rattle.std.specs.FinMap as finite
use Rattle.wp_model.specs.declared.entry.Entry.{Entry}
use Rattle.wp_model.specs.declared.entry.Entry.TheVariants.{Write, Prepare, Commit, Undo, Close}
use Rattle.wp_model.specs.Decision.{decision_of}
use Rattle.wp_model.specs.History.{is_undecided}
use Rattle.wp_model.specs.Legal.{IsLegal}
use Rattle.wp_model.specs.PreparedSets.{PreparedSets, is_prepared, NoneDelayed}
use Rattle.wp_model.specs.Snapshots.{Snapshots}
use Rattle.wp_model.proofs.Numbers.{get_inserted}
use Rattle.wp_history_laws.proofs.Growth.{after_front}
use Rattle.wp_judge.specs.Words.{CommitPair, commit_pair, delta_of, delta_bound, fits}
use Rattle.wp_prepared.specs.Passed.{NonePassed, IsFirstPassed}
use Rattle.wp_core.specs.Changes.{held_with}
use Rattle.wp_core.specs.Entries.{extended, pending_pair}
use Rattle.wp_core.specs.Lists.{IsIn}
use Rattle.wp_core.specs.Notes.{ends}
use Rattle.wp_core.specs.Steps.{Step, take_out, delay_pending, note}
use Rattle.wp_core.specs.States.{WriteState, Content, writes, prepared, snapshots, without_prepared}
use Rattle.wp_core.specs.Turns.{write_turn}
use Rattle.wp_core.specs.Views.{Fact, words_stay, none_waits, pair_delayed, pair_not_delayed, delayed_flag_stays, old_flag_stays}
use Rattle.wp_core.specs.World.{Actor, World}
use Rattle.wp_core.specs.IsSound.{IsSound}
use Rattle.wp_core.specs.Sound.Prepared.{IsInOldCommits}
use Rattle.wp_core.specs.Sound.Views.{NoneWaits}
use Rattle.wp_core.proofs.HistoryLaws.{decided_late, first_legal}
use Rattle.wp_core.proofs.ReaderFacts.{extended_was}
use Rattle.wp_model.proofs.Tests.{same_some, none_some}
use Rattle.wp_rule.specs.Knows.{Noted, KnowsFact}
use Rattle.wp_rule.specs.Moves.{AreQuiet, AreMet, MayMake, Moved, actor_after}
use Rattle.wp_rule.specs.Words.{Place, IsAt}
use Rattle.wp_rule.proofs.Forgets.{forgets_nothing, note_ends}
use Rattle.wp_rule.proofs.Knows.{at_sound, held_is, noted_is}
use Rattle.wp_rule.proofs.Needed.{guarded}
use Rattle.wp_rule.proofs.Outlasting.{outlasts}
use Rattle.wp_shared.specs.Clients.{KeepClient}
use Rattle.wp_shared.specs.Notes.{is_flag, noting, GoesOn, DelayedFlagTells}
use Rattle.wp_shared.specs.Seats.{SharedState, SeatState, Stands, place_at}
use Rattle.wp_shared.proofs.Goes.{goes_with}
use Rattle.wp_shared.proofs.OneStep.{becomes}
use Rattle.wp_shared.proofs.Tables.{held_state}
use Rattle.wp_commits.specs.Making.{noting_none_waits}
use Rattle.wp_commits.specs.Notes.{is_of_delayed}
use Rattle.wp_commits.specs.Passing.{NoneReached, IsReachedCommit}
use Rattle.wp_commits.specs.Ways.{IsReached}
use Rattle.wp_commits.proofs.TakenOut.{take_ends}

-- ---- where a number is to which the bound has come

-- the numbers of a pair that fits no word are apart
pub wide_apart : (cells p c : ℕ) → 1 ≤ cells → fits cells (commit_pair p c) ≡ false → p < c
wide_apart cells p c some wide = let far : delta_bound cells ≤ delta_of (commit_pair p c) = ltb-false (delta_of (commit_pair p c)) (delta_bound cells) wide in omega (arith, some, far)

-- the pending entry decides a prepare, where it does not decide itself
pending_undecided : (history pending : List Entry) (p c : ℕ) → IsLegal (history ++ pending) → pending_pair history pending ≡ Some (commit_pair p c) → p < c → is_undecided history p ≡ true
pending_undecided history [] p c legal e apart = absurd (none_some None (commit_pair p c) refl e)
pending_undecided history (Write batch ∷ others) p c legal e apart = let same = same_some _ _ e in let one = ap (λ (x : CommitPair). x.number) same in let two = ap (λ (x : CommitPair). x.decision) same in absurd (omega (arith, one, two, apart))
pending_undecided history (Undo q batch ∷ others) p c legal e apart = let same = same_some _ _ e in let one = ap (λ (x : CommitPair). x.number) same in let two = ap (λ (x : CommitPair). x.decision) same in absurd (omega (arith, one, two, apart))
pending_undecided history (Prepare name batch ∷ others) p c legal e apart = absurd (none_some None (commit_pair p c) refl e)
pending_undecided history (Commit q ∷ others) p c legal e apart =
    let same = same_some _ _ e in
    subst (λ (n : ℕ). is_undecided history n ≡ true) (ap (λ (x : CommitPair). x.number) same) (after_front history (Commit q) [] (first_legal history (Commit q) others legal)).orderly.names_undecided
pending_undecided history (Close q ∷ others) p c legal e apart =
    let same = same_some _ _ e in
    subst (λ (n : ℕ). is_undecided history n ≡ true) (ap (λ (x : CommitPair). x.number) same) (after_front history (Close q) [] (first_legal history (Close q) others legal)).orderly.names_undecided

right_true : (a b : Bool) → a ≡ false → (a || b) ≡ true → b ≡ true
right_true true b e f = absurd (true≢false e)
right_true false b e f = f

left_true : (a b : Bool) → b ≡ false → (a || b) ≡ true → a ≡ true
left_true true b e f = refl
left_true false b e f = absurd (true≢false (sym f ∙ e))

pub extended_legal : (history pending : List Entry) → IsLegal history → IsLegal (history ++ pending) → IsLegal (extended history pending)
extended_legal history [] legal next = legal
extended_legal history (entry ∷ others) legal next = first_legal history entry others next

module _ {D : Type 0} (z : SharedState D) (s t : SeatState) (tables : PreparedSets) (same : t ≡ s) (at : (w : World) × Stands z t w) (held : IsIn (prepared tables) s.knows.held) where
  stands : IsAt (place_at z s.by) s.knows at.0
  stands = subst (λ (x : SeatState). IsAt (place_at z x.by) x.knows at.0) same at.1

  sound : IsSound at.0
  sound = at_sound (place_at z s.by) s.knows at.0 stands

  table_is : at.0.prepared ≡ tables
  table_is = held_state (place_at z s.by) s.knows at.0 (prepared tables) stands held

  writes_are : (d : WriteState) → IsIn (writes d) s.knows.held → at.0.writes ≡ d
  writes_are d has = held_state (place_at z s.by) s.knows at.0 (writes d) stands has

  max_reached : (p : ℕ) → IsReached s.knows p → p ≤ at.0.max_evicted
  max_reached p r = let bound = (noted_is (place_at z s.by) s.knows at.0 (words_stay r.0 r.1) stands r.2).is_so.0 in let low = r.3 in omega (arith, bound, low)

  pub bound_reached : (p : ℕ) → IsReached s.knows p → (bound : ℕ) (words : List ℕ) → Noted s.knows (words_stay bound words) → p ≤ bound
  bound_reached p r bound words there = let is = (noted_is (place_at z s.by) s.knows at.0 (words_stay bound words) stands there).is_so.0 in let low = max_reached p r in omega (arith, is, low)

  -- the heap has it no more
  pub left_heap : (p : ℕ) → IsReached s.knows p → set.contains tables.heap p ≡ false
  left_heap p r =
      ap (λ (x : PreparedSets). set.contains x.heap p) (sym table_is)
      ∙ false_from_ne_true (set.contains at.0.prepared.heap p) (λ there. let above = sound.undecided.heap_above p there in let low = max_reached p r in absurd (omega (arith, above, low)))

  -- so what the pending entry decides by a wide pair is delayed
  pub is_delayed : (d : WriteState) → IsIn (writes d) s.knows.held → (p c : ℕ) → pending_pair d.history d.pending ≡ Some (commit_pair p c) → fits z.cells (commit_pair p c) ≡ false → IsReached s.knows p → set.contains tables.delayed p ≡ true
  is_delayed d has p c pending wide r =
      let some : 1 ≤ z.cells = subst (λ (n : ℕ). 1 ≤ n) stands.cells sound.cache.some in
      let legal : IsLegal (d.history ++ d.pending) = subst (λ (x : WriteState). IsLegal (x.history ++ x.pending)) (writes_are d has) sound.history.legal_next in
      let undecided : is_undecided at.0.writes.history p ≡ true = subst (λ (x : WriteState). is_undecided x.history p ≡ true) (sym (writes_are d has)) (pending_undecided d.history d.pending p c legal pending (wide_apart z.cells p c some wide)) in
      let there : is_prepared tables p ≡ true = ap (λ (x : PreparedSets). is_prepared x p) (sym table_is) ∙ sound.undecided.found p undecided in
      right_true (set.contains tables.heap p) (set.contains tables.delayed p) (left_heap p r) there

  -- a delayed commit to which the bound has come is the history's
  pub decided_to : (d : WriteState) → IsIn (writes d) s.knows.held → (found : ℕ) → found ≡ at.0.max_evicted → (q e : ℕ) → finite.get tables.delayed_commits q ≡ Some e → e ≤ found → (decision_of d.history q ≡ Some e) × (q ≤ e)
  decided_to d has found is q e there low =
      let h = at.0.writes.history in
      let next : decision_of (extended h at.0.writes.pending) q ≡ Some e = sound.delayed.commits q e (ap (λ (x : PreparedSets). finite.get x.delayed_commits q) table_is ∙ there) in
      let late = decided_late (extended h at.0.writes.pending) q e (extended_legal h at.0.writes.pending sound.history.legal sound.history.legal_next) next in
      let most = sound.history.bounded in
      (subst (λ (x : WriteState). decision_of x.history q ≡ Some e) (writes_are d has) (extended_was h at.0.writes.pending q e (omega (arith, late, most, is, low)) (omega (arith, most, is, low)) next), late)

-- ---- what is passed

pub passed_is : (o : Option (ℕ × ℕ)) (a : Actor) (history : List Entry) (commits : finite.FinMap nat_cmp ℕ) (found bound : ℕ) (words : List ℕ) → Noted a (words_stay bound words) → found ≡ bound
    → ((q e : ℕ) → finite.get commits q ≡ Some e → e ≤ found → (decision_of history q ≡ Some e) × (q ≤ e)) → MatchOption o (NonePassed commits found) (IsFirstPassed commits found) → MatchOption o (NoneReached a commits) (IsReachedCommit a history commits)
passed_is None a history commits found bound words noted is decided k = record { bound = bound; words = words; noted = noted; above = λ q e there. let high = k q e there in omega (arith, high, is) }
passed_is (Some r) a history commits found bound words noted is decided k =
    let low = k.passed in let d = decided r.0 r.1 k.there k.passed in
    record { bound = bound; words = words; noted = noted; there = k.there; passed = omega (arith, low, is); decided = d.0; ordered = d.1 }

-- the sets that the seat has, where the bound has come to no delayed commit
pub knows_none_waits : (a : Actor) (d : WriteState) (t : PreparedSets) → IsIn (writes d) a.held → IsIn (prepared t) a.held → NoneReached a t.delayed_commits → KnowsFact a none_waits
knows_none_waits a d t has there k = record { state = d; held = has; so_is = record { state = t; held = there; so_is = (k.bound, k.words, k.noted, k.above) } }

pub knows_pair_delayed : (a : Actor) (d : WriteState) (t : PreparedSets) (p c : ℕ) → IsIn (writes d) a.held → IsIn (prepared t) a.held → pending_pair d.history d.pending ≡ Some (commit_pair p c) → finite.get t.delayed_commits p ≡ Some c → KnowsFact a pair_delayed
knows_pair_delayed a d t p c has there pending commit = record {
  state = d;
  held = has;
  so_is = record {
    state = t;
    held = there;
    so_is = λ pair is. let same : commit_pair p c ≡ pair = same_some (commit_pair p c) pair (sym pending ∙ is) in
        subst (λ (x : CommitPair). finite.get t.delayed_commits x.number ≡ Some x.decision) same commit;
  };
}

-- one that is taken out is there no more
pub fewer : (old tables : PreparedSets) (p c : ℕ) → finite.get old.delayed_commits p ≡ Some c → tables ≡ without_prepared old p → finite.len tables.delayed_commits < finite.len old.delayed_commits
fewer old tables p c there is =
    let m = old.delayed_commits in
    let some : finite.len m ≢ 0 = λ none. none_some (finite.get m p) c (ap (λ (x : finite.FinMap nat_cmp ℕ). finite.get x p) (finite.empty_of_len m none) ∙ finite.get-empty nat_cmp p) there in
    let less : finite.len (finite.remove m p) ≡ finite.len m - 1 = finite.len-remove nat_cmp_total m p ∙ ap (λ (b : Bool). cond b (finite.len m - 1) (finite.len m)) (ap is_some there) in
    let left : finite.len tables.delayed_commits ≡ finite.len (finite.remove m p) = ap (λ (x : PreparedSets). finite.len x.delayed_commits) is in
    omega (arith, some, less, left)

-- ---- the delayed flag alone

zero_is : (n : ℕ) → (n == 0) ≡ true → n ≡ 0
zero_is n e = grind (arith, nat_tests)

is_zero : (n : ℕ) → n ≡ 0 → (n == 0) ≡ true
is_zero n e = grind (arith, nat_tests)

not_zero : (n : ℕ) → n ≢ 0 → (n == 0) ≡ false
not_zero n ne = false_from_ne_true (n == 0) (λ e. ne (zero_is n e))

pub zero_match : (n : ℕ) (P Q : Type 0) → (n ≡ 0 → P) → (n ≢ 0 → Q) → MatchBool (n == 0) P Q
zero_match n P Q down up = by_test (n == 0) refl
  where
    by_test : (b : Bool) → (n == 0) ≡ b → MatchBool b P Q
    by_test true e = down (zero_is n e)
    by_test false e = up (λ zero. true≢false (sym (is_zero n zero) ∙ e))

abbrev noting_if : Bool → List Step
noting_if b = cond b (note none_waits ∷ []) []

pub may_look : (p : Place) (a : Actor) (d : WriteState) → a.live ≡ true → IsIn (writes d) a.held → MayMake p a noting_none_waits
may_look p a d live has w k = by_flag (w.delayed_flag == 0) refl
  where
    waits : w.delayed_flag ≡ 0 → NoneWaits w.writes.history w.prepared w.cache w.max_evicted
    waits down q c there decided low =
        let sound = at_sound p a w k in
        let above = sound.undecided.heap_above q (left_true (set.contains w.prepared.heap q) (set.contains w.prepared.delayed q) ((sound.flags.none_delayed down).0 q) there) in
        let late = decided_late w.writes.history q c sound.history.legal decided in absurd (omega (arith, above, late, low))

    by_flag : (b : Bool) → (w.delayed_flag == 0) ≡ b → AreQuiet (noting_if b) × AreMet (noting_if b) w p.by a
    by_flag true e = ((tt, tt), ((live, guarded p a w k write_turn (held_is p a w (writes d) k has).0, waits (zero_is w.delayed_flag e)), tt))
    by_flag false e = (tt, tt)

pub look_keeps : (w : World) → KeepClient (noting_none_waits w)
look_keeps w = by_flag (w.delayed_flag == 0)
  where
    by_flag : (b : Bool) → KeepClient (noting_if b)
    by_flag true = (tt, tt)
    by_flag false = tt

module _ (p : Place) (s t : SeatState) (found : ℕ) (same : (t.table ≡ s.table) × (t.by ≡ s.by) × (t.turns ≡ s.turns)) (m : Moved p noting_none_waits (λ w. found ≡ w.delayed_flag) s.knows t.knows) where
  pub looked_down : found ≡ 0 → t ≡ noting none_waits s
  looked_down e =
      let w = m.world in
      let down : (w.delayed_flag == 0) ≡ true = is_zero w.delayed_flag (sym m.so_is ∙ e) in
      becomes s t (record s.knows { notes = none_waits ∷ s.knows.notes }) same
      (m.actor ∙ (ap (λ (b : Bool). actor_after (noting_if b) w p.by s.knows) down
      ∙ ap (λ (x : Actor). record x { notes = none_waits ∷ x.notes }) (forgets_nothing w.writes.history (length w.cache) (note none_waits) s.knows (note_ends none_waits))))

  pub looked_up : found ≢ 0 → t ≡ s
  looked_up ne =
      let w = m.world in
      let up : (w.delayed_flag == 0) ≡ false = not_zero w.delayed_flag (λ e. ne (m.so_is ∙ e)) in
      becomes s t s.knows same (m.actor ∙ ap (λ (b : Bool). actor_after (noting_if b) w p.by s.knows) up)

-- ---- a delayed number goes, under the two turns

module _ (place : Place) (s t : SeatState) (d : WriteState) (old tables : PreparedSets) (m : Snapshots) (p c : ℕ) (held : s.knows.held ≡ snapshots m ∷ prepared old ∷ writes d ∷ []) (is : tables ≡ without_prepared old p) where
  prepared_in : IsIn (prepared old) s.knows.held
  prepared_in = subst (IsIn (prepared old)) (sym held) (inr (inl refl))

  pub may_let_go : decision_of d.history p ≡ Some c → IsReached s.knows c → IsInOldCommits m p c → MayMake place s.knows (λ w. take_out p ∷ [])
  may_let_go decided r kept w k =
      let history_is : w.writes ≡ d = held_state place s.knows w (writes d) k (subst (IsIn (writes d)) (sym held) (inr (inr (inl refl)))) in
      let snaps_are : w.snapshots ≡ m = held_state place s.knows w (snapshots m) k (subst (IsIn (snapshots m)) (sym held) (inl refl)) in
      let holds = (held_is place s.knows w (prepared old) k prepared_in).0 in
      let bound = (noted_is place s.knows w (words_stay r.0 r.1) k r.2).is_so.0 in let low = r.3 in
      ((tt, tt), ((holds, (c, subst (λ (x : WriteState). decision_of x.history p ≡ Some c) (sym history_is) decided, inr (omega (arith, low, bound), subst (λ (x : Snapshots). IsInOldCommits x p c) (sym snaps_are) kept))), tt))

  pub let_go_now : (so : World → Type 0) → (t.table ≡ s.table) × (t.by ≡ s.by) × (t.turns ≡ s.turns) → Moved place (λ w. take_out p ∷ []) so s.knows t.knows → t ≡ record s { knows = record s.knows { held = snapshots m ∷ prepared tables ∷ writes d ∷ [] } }
  let_go_now so same moved =
      let w = moved.world in
      let table : w.prepared ≡ old = held_state place s.knows w (prepared old) moved.before prepared_in in
      becomes s t (record s.knows { held = snapshots m ∷ prepared tables ∷ writes d ∷ [] }) same
      (moved.actor
      ∙ (ap (λ (x : Actor). record x { held = held_with x.held (prepared (without_prepared w.prepared p)) }) (forgets_nothing w.writes.history (length w.cache) (take_out p) s.knows (take_ends p))
      ∙ (ap (λ (h : List Content). record s.knows { held = held_with h (prepared (without_prepared w.prepared p)) }) held
      ∙ ap (λ (x : PreparedSets). record s.knows { held = snapshots m ∷ prepared x ∷ writes d ∷ [] }) (ap (λ (x : PreparedSets). without_prepared x p) table ∙ sym is))))

-- ---- the pending entry's pair

delay_ends : (history : List Entry) (words : ℕ) (pair : CommitPair) (fact : Fact) → is_of_delayed fact ≡ false → ends history words (delay_pending pair) fact ≡ false
delay_ends history words pair pair_not_delayed e = absurd (true≢false e)
delay_ends history words pair (delayed_flag_stays value) e = absurd (true≢false e)
delay_ends history words pair (old_flag_stays value) e = absurd (true≢false e)
delay_ends history words pair other e = refl

pub flags_in_delayed : (fact : Fact) → is_of_delayed fact ≡ false → is_flag fact ≡ false
flags_in_delayed pair_not_delayed e = absurd (true≢false e)
flags_in_delayed other e = e

pub none_before_pending : (t : PreparedSets) (p c : ℕ) → NoneDelayed (record t { delayed_commits = finite.insert t.delayed_commits p c }) → NoneDelayed t
none_before_pending t p c none = absurd (none_some (finite.get (finite.insert t.delayed_commits p c) p) c (none.1 p) (get_inserted t.delayed_commits p c))

pub commit_there : (old tables : PreparedSets) (p c : ℕ) → tables ≡ record old { delayed_commits = finite.insert old.delayed_commits p c } → finite.get tables.delayed_commits p ≡ Some c
commit_there old tables p c is = ap (λ (x : PreparedSets). finite.get x.delayed_commits p) is ∙ get_inserted old.delayed_commits p c

module _ (place : Place) (s t : SeatState) (d : WriteState) (old tables : PreparedSets) (p c : ℕ) (held : s.knows.held ≡ prepared old ∷ writes d ∷ []) (is : tables ≡ record old { delayed_commits = finite.insert old.delayed_commits p c }) where
  pub may_delay_pending : pending_pair d.history d.pending ≡ Some (commit_pair p c) → DelayedFlagTells s.knows tables → MayMake place s.knows (λ w. delay_pending (commit_pair p c) ∷ [])
  may_delay_pending pending flag w k =
      let history_is : w.writes ≡ d = held_state place s.knows w (writes d) k (subst (IsIn (writes d)) (sym held) (inr (inl refl))) in
      let value_is : w.delayed_flag ≡ flag.value = (noted_is place s.knows w (delayed_flag_stays flag.value) k flag.noted).is_so in
      let up : w.delayed_flag ≢ 0 = λ zero_flag. none_some (finite.get tables.delayed_commits p) c ((flag.empty (sym value_is ∙ zero_flag)).1 p) (commit_there old tables p c is) in
      let one = (held_is place s.knows w (writes d) k (subst (IsIn (writes d)) (sym held) (inr (inl refl)))).0 in
      let two = (held_is place s.knows w (prepared old) k (subst (IsIn (prepared old)) (sym held) (inl refl))).0 in
      ((tt, tt), ((one, two, up, subst (λ (x : WriteState). pending_pair x.history x.pending ≡ Some (commit_pair p c)) (sym history_is) pending), tt))

  module _ (so : World → Type 0) (same : (t.table ≡ s.table) × (t.by ≡ s.by) × (t.turns ≡ s.turns)) (moved : Moved place (λ w. delay_pending (commit_pair p c) ∷ []) so s.knows t.knows) where
    keeps : (fact : Fact) → is_of_delayed fact ≡ false → Noted s.knows fact → Noted t.knows fact
    keeps fact other there =
        let w = moved.world in
        subst (λ (x : Actor). Noted x fact) (sym moved.actor)
        (outlasts fact (delay_pending (commit_pair p c) ∷ []) w place.by s.knows there ((λ x. x), delay_ends w.writes.history (length w.cache) (commit_pair p c) fact other, tt))

    held_now : held_with s.knows.held (prepared (record moved.world.prepared { delayed_commits = finite.insert moved.world.prepared.delayed_commits p c })) ≡ prepared tables ∷ writes d ∷ []
    held_now =
        let w = moved.world in
        let table : w.prepared ≡ old = held_state place s.knows w (prepared old) moved.before (subst (IsIn (prepared old)) (sym held) (inl refl)) in
        ap (λ (h : List Content). held_with h (prepared (record w.prepared { delayed_commits = finite.insert w.prepared.delayed_commits p c }))) held
        ∙ ap (λ (x : PreparedSets). prepared x ∷ writes d ∷ []) (ap (λ (x : PreparedSets). record x { delayed_commits = finite.insert x.delayed_commits p c }) table ∙ sym is)

    pub pending_delayed : GoesOn is_of_delayed (prepared tables ∷ writes d ∷ []) s.turns s t
    pending_delayed = record {
      same = goes_with s t (prepared tables ∷ writes d ∷ []) s.turns _ same.0 same.1 same.2
          (moved.actor ∙ ap (λ (h : List Content). record s.knows { held = h; notes = (actor_after (delay_pending (commit_pair p c) ∷ []) moved.world place.by s.knows).notes }) held_now);
      noted = keeps;
    }

    pub flag_still : DelayedFlagTells s.knows tables → DelayedFlagTells t.knows tables
    flag_still f =
        let w = moved.world in record {
          value = f.value;
          noted = subst (λ (x : Actor). Noted x (delayed_flag_stays f.value)) (sym moved.actor) (outlasts (delayed_flag_stays f.value) (delay_pending (commit_pair p c) ∷ []) w place.by s.knows f.noted ((λ x. x), refl, tt));
          empty = f.empty;
          down = f.down;
        }
