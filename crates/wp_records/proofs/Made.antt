-- The steps of a record: that they may be made, and what they leave of the seat.
use Rattle.std.proofs.Common.{◌≡◌, ◌⊎◌, inl, inr, ℕ, ◌≤◌, suc, ◌||◌, Bool, true, false, true≢false, cond, List, [], ◌∷◌, ◌++◌, length, refl, sym, subst, ap, ◌∙◌, eq-eqb, Option, Some, None}
use Rattle.std.specs.FinSet as set
use Rattle.wp_model.specs.declared.entry.Entry.{Entry}
use Rattle.wp_model.specs.Decision.{version_in}
use Rattle.wp_model.specs.History.{changes_of, is_changed}
use Rattle.wp_model.specs.Legal.{IsLegal}
use Rattle.wp_model.specs.PreparedSets.{PreparedSets}
use Rattle.wp_model.specs.Versions.{version_at}
use Rattle.wp_model.specs.declared.version.Version.{Version}
use Rattle.wp_judge.specs.Words.{CommitPair, decision_if, fits}
use Rattle.wp_core.specs.Conditions.{NoneNext}
use Rattle.wp_core.specs.Cache.{cache_place, cached, pair_at}
use Rattle.wp_core.specs.Changes.{held_with}
use Rattle.wp_core.specs.Effects.{publishes, with_entry}
use Rattle.wp_model.specs.Record.{IsOneRecord}
use Rattle.wp_core.specs.Entries.{next_of, transaction_of, HasVersionsAt}
use Rattle.wp_core.specs.Lists.{IsIn}
use Rattle.wp_core.specs.Notes.{ends, is_name}
use Rattle.wp_core.specs.Steps.{Step, make_pending, log_pending, close_log, drop_pending, add_prepared, take_pending_prepared, add_versions, take_versions, store_published, note}
use Rattle.wp_core.specs.States.{Content, WriteState, StoreState, writes, prepared, store}
use Rattle.wp_core.specs.Turns.{write_turn}
use Rattle.wp_core.specs.Views.{Fact, words_stay, versions_in_memory, versions_nowhere, number_in_heap, number_not_in_heap, pair_delayed, pair_not_delayed, none_waits, undecided_at, prior_values, unprepared, unchanged}
use Rattle.wp_core.specs.World.{Actor, World}
use Rattle.wp_model.proofs.Numbers.{in_inserted, in_removed}
use Rattle.wp_rule.specs.Knows.{Noted}
use Rattle.wp_rule.specs.Moves.{MayMake, MayStep, Moved, Outlasts, actor_after}
use Rattle.wp_rule.specs.Words.{Place, IsAt}
use Rattle.wp_rule.proofs.Forgets.{EndsNothing}
use Rattle.wp_rule.proofs.Knows.{held_is, noted_is}
use Rattle.wp_rule.proofs.MayBeMade.{known_made, begins_entries}
use Rattle.wp_rule.proofs.Needed.{guarded, needed}
use Rattle.wp_rule.proofs.Outlasting.{outlasts}
use Rattle.wp_rule.proofs.Stores.{holder_is_live}
use Rattle.wp_shared.specs.Seats.{SeatState}
use Rattle.wp_shared.proofs.OneStep.{made, becomes}
use Rattle.wp_shared.specs.Notes.{GoesOn, KnowsWords}
use Rattle.wp_shared.proofs.Goes.{goes_with}
use Rattle.wp_shared.proofs.Tables.{held_state}
use Rattle.wp_commits.specs.declared.way.Way.TheVariants.{InWord, Delayed}
use Rattle.wp_commits.specs.Ways.{way_of, IsEntered}
use Rattle.wp_commits.proofs.Flags.{note_ends_none}
use Rattle.wp_records.proofs.Facts.{neither}
use Rattle.wp_records.specs.Stages.{is_of_versions, is_of_heap, is_of_pending, is_over, holding, as_failed, as_published, HasPrepare, IsUnlogged, IsNext, IsInPlace}
use Rattle.wp_records.proofs.Words.{uncached}

-- ---- what is left of the seat

module _ (p : Place) (so : World → Type 0) (s u : SeatState) (same : (u.table ≡ s.table) × (u.by ≡ s.by) × (u.turns ≡ s.turns)) (steps : World → List Step) (m : Moved p steps so s.knows u.knows) where
  abbrev after : Actor
  after = actor_after (steps m.world) m.world p.by s.knows

  -- it goes on from this actor, of which it has other states and notes
  pub goes_from : (from : Actor) (test : Fact → Bool) (held : List Content) → from.notes ≡ s.knows.notes → after ≡ record from { held = after.held; notes = after.notes } → after.held ≡ held → ((fact : Fact) → test fact ≡ false → Outlasts fact (steps m.world) m.world p.by s.knows)
      → GoesOn test held s.turns (record s { knows = from }) u
  goes_from from test held notes form left stays = record {
    same = goes_with (record s { knows = from }) u held s.turns after.notes same.0 same.1 same.2 (m.actor ∙ form ∙ ap (λ (c : List Content). record from { held = c; notes = after.notes }) left);
    noted = λ fact other there. subst (λ (x : Actor). Noted x fact) (sym m.actor) (outlasts fact (steps m.world) m.world p.by s.knows (subst (IsIn fact) notes there) (stays fact other));
  }

  pub goes_by : (test : Fact → Bool) (held : List Content) → after ≡ record s.knows { held = after.held; notes = after.notes } → after.held ≡ held → ((fact : Fact) → test fact ≡ false → Outlasts fact (steps m.world) m.world p.by s.knows) → GoesOn test held s.turns s u
  goes_by test held form left stays = goes_from s.knows test held refl form left stays

  pub noted_by : (fact : Fact) → Noted after fact → Noted u.knows fact
  noted_by fact there = subst (λ (x : Actor). Noted x fact) (sym m.actor) there

first_held : (a : Actor) (c : Content) (others : List Content) → a.held ≡ c ∷ others → IsIn c a.held
first_held a c others held = subst (IsIn c) (sym held) (inl refl)

second_held : (a : Actor) (b c : Content) → a.held ≡ b ∷ c ∷ [] → IsIn c a.held
second_held a b c held = subst (IsIn c) (sym held) (inr (inl refl))

-- ---- the pending record

begin_ends : (history : List Entry) (words : ℕ) (entries : List Entry) (fact : Fact) → is_of_pending fact ≡ false → ends history words (make_pending entries) fact ≡ false
begin_ends history words entries versions_in_memory e = absurd (true≢false e)
begin_ends history words entries versions_nowhere e = absurd (true≢false e)
begin_ends history words entries number_in_heap e = absurd (true≢false e)
begin_ends history words entries number_not_in_heap e = absurd (true≢false e)
begin_ends history words entries pair_delayed e = absurd (true≢false e)
begin_ends history words entries pair_not_delayed e = absurd (true≢false e)
begin_ends history words entries none_waits e = absurd (true≢false e)
begin_ends history words entries other e = refl

-- no segment waits, as before
none_still : (t d : WriteState) → d ≡ record t { pending = d.pending; logged = false } → NoneNext d → NoneNext t
none_still t d is (inl none) = inl (sym (ap (λ (x : WriteState). x.next) is) ∙ none)
none_still t d is (inr closed) = inr (sym (ap (λ (x : WriteState). x.closed) is) ∙ closed)

pub may_begin : (p : Place) (a : Actor) (t d : WriteState) → a.held ≡ writes t ∷ [] → t.pending ≡ [] → d ≡ record t { pending = d.pending; logged = false } → IsOneRecord d.pending → IsLegal (d.history ++ d.pending) → NoneNext d
    → MayMake p a (λ w. make_pending d.pending ∷ note versions_nowhere ∷ note number_not_in_heap ∷ note pair_not_delayed ∷ [])
may_begin p a t d held none is one legal alone =
    begins_entries p a d.pending (record { state = t; held = first_held a (writes t) [] held; so_is = (none, one, subst (λ (h : List Entry). IsLegal (h ++ d.pending)) (ap (λ (x : WriteState). x.history) is) legal, none_still t d is alone) })

pub began : (p : Place) (so : World → Type 0) (s u : SeatState) → (u.table ≡ s.table) × (u.by ≡ s.by) × (u.turns ≡ s.turns) → (t d : WriteState) → s.knows.held ≡ writes t ∷ [] → d ≡ record t { pending = d.pending; logged = false }
    → Moved p (λ w. make_pending d.pending ∷ note versions_nowhere ∷ note number_not_in_heap ∷ note pair_not_delayed ∷ []) so s.knows u.knows
    → GoesOn is_of_pending (writes d ∷ []) s.turns s u × Noted u.knows versions_nowhere × Noted u.knows number_not_in_heap × Noted u.knows pair_not_delayed
began p so s u same t d held is m =
    let w = m.world in
    let steps : World → List Step = λ v. make_pending d.pending ∷ note versions_nowhere ∷ note number_not_in_heap ∷ note pair_not_delayed ∷ [] in
    let table : w.writes ≡ t = held_state p s.knows w (writes t) m.before (first_held s.knows (writes t) [] held) in
    let left : held_with s.knows.held (writes (record w.writes { pending = d.pending; logged = false })) ≡ writes d ∷ [] =
    (λ i. held_with (held i) (writes (record (table i) { pending = d.pending; logged = false }))) ∙ ap (λ (x : WriteState). writes x ∷ []) (sym is) in (
      goes_by p so s u same steps m is_of_pending (writes d ∷ []) refl left (λ fact other.
          ((λ x. x), begin_ends w.writes.history (length w.cache) d.pending fact other, ((λ x. x), note_ends_none w.writes.history (length w.cache) versions_nowhere fact, ((λ x. x), note_ends_none w.writes.history (length w.cache) number_not_in_heap fact, ((λ x. x), note_ends_none w.writes.history (length w.cache) pair_not_delayed fact, tt))))),
      noted_by p so s u same steps m versions_nowhere (inr (inr (inl refl))),
      noted_by p so s u same steps m number_not_in_heap (inr (inl refl)),
      noted_by p so s u same steps m pair_not_delayed (inl refl),
    )

drop_ends : (history : List Entry) (words : ℕ) (fact : Fact) → is_of_pending fact ≡ false → ends history words drop_pending fact ≡ false
drop_ends history words versions_in_memory e = absurd (true≢false e)
drop_ends history words versions_nowhere e = absurd (true≢false e)
drop_ends history words number_in_heap e = absurd (true≢false e)
drop_ends history words number_not_in_heap e = absurd (true≢false e)
drop_ends history words pair_delayed e = absurd (true≢false e)
drop_ends history words pair_not_delayed e = absurd (true≢false e)
drop_ends history words none_waits e = absurd (true≢false e)
drop_ends history words other e = refl

pub may_drop : (p : Place) (a : Actor) (t d : WriteState) → a.held ≡ writes t ∷ [] → t.logged ≡ false → d ≡ record t { pending = [] } → KnowsWords a (length d.history) → Noted a versions_nowhere → Noted a number_not_in_heap → Noted a pair_not_delayed → MayMake p a (λ w. drop_pending ∷ [])
may_drop p a t d held unlogged is words nowhere below undelayed =
    let known : KnowsWords a (length t.history) = subst (λ (h : List Entry). KnowsWords a (length h)) (ap (λ (x : WriteState). x.history) is) words in
    known_made p a drop_pending tt (record { state = t; held = first_held a (writes t) [] held; so_is = (unlogged, (known.bound, known.words, known.noted, uncached a t known), undelayed, nowhere, below) })

pub dropped : (p : Place) (so : World → Type 0) (s u : SeatState) → (u.table ≡ s.table) × (u.by ≡ s.by) × (u.turns ≡ s.turns) → (t d : WriteState) → s.knows.held ≡ writes t ∷ [] → d ≡ record t { pending = [] } → Moved p (λ w. drop_pending ∷ []) so s.knows u.knows
    → GoesOn is_of_pending (writes d ∷ []) s.turns s u
dropped p so s u same t d held is m =
    let w = m.world in
    let table : w.writes ≡ t = held_state p s.knows w (writes t) m.before (first_held s.knows (writes t) [] held) in
    let left : held_with s.knows.held (writes (record w.writes { pending = [] })) ≡ writes d ∷ [] = (λ i. held_with (held i) (writes (record (table i) { pending = [] }))) ∙ ap (λ (x : WriteState). writes x ∷ []) (sym is) in
    goes_by p so s u same (λ v. drop_pending ∷ []) m is_of_pending (writes d ∷ []) refl left (λ fact other. ((λ x. x), drop_ends w.writes.history (length w.cache) fact other, tt))

-- ---- the log call

log_ends : EndsNothing log_pending
log_ends = record { guard = λ turn. refl; place = λ words place. refl; words = refl; delayed_flag = refl; old_flag = refl; pending = refl; adds = refl; takes = refl; prepared = refl; unprepared = refl; delays = refl; transaction = λ history name. refl; changes = λ history key. refl; direct = refl; moves = refl; replaces = refl; installing = refl }

close_ends : EndsNothing close_log
close_ends = record { guard = λ turn. refl; place = λ words place. refl; words = refl; delayed_flag = refl; old_flag = refl; pending = refl; adds = refl; takes = refl; prepared = refl; unprepared = refl; delays = refl; transaction = λ history name. refl; changes = λ history key. refl; direct = refl; moves = refl; replaces = refl; installing = refl }

pub may_log : (p : Place) (a : Actor) (t : WriteState) → a.held ≡ writes t ∷ [] → IsUnlogged t → MayMake p a (λ w. log_pending ∷ [])
may_log p a t held k = known_made p a log_pending tt (record { state = t; held = first_held a (writes t) [] held; so_is = (k.some, k.unlogged, k.running) })

pub may_close : (p : Place) (a : Actor) (t : WriteState) → a.held ≡ writes t ∷ [] → IsUnlogged t → MayMake p a (λ w. close_log ∷ [])
may_close p a t held k = known_made p a close_log tt (record { state = t; held = first_held a (writes t) [] held; so_is = (k.running, inl (k.some, k.unlogged)) })

pub logged : (p : Place) (so : World → Type 0) (s u : SeatState) → (u.table ≡ s.table) × (u.by ≡ s.by) × (u.turns ≡ s.turns) → (t d : WriteState) → s.knows.held ≡ writes t ∷ [] → d ≡ record t { logged = true; log = t.log ++ t.pending } → Moved p (λ w. log_pending ∷ []) so s.knows u.knows
    → u ≡ holding d s
logged p so s u same t d held is m =
    let step = made p log_pending so s.knows u.knows log_ends m in
    let table : step.world.writes ≡ t = held_state p s.knows step.world (writes t) step.before (first_held s.knows (writes t) [] held) in
    becomes s u (record s.knows { held = writes d ∷ [] }) same
    (step.actor ∙ ((λ i. record s.knows { held = held_with (held i) (writes (record (table i) { logged = true; log = (table i).log ++ (table i).pending })) }) ∙ ap (λ (x : WriteState). record s.knows { held = writes x ∷ [] }) (sym is)))

pub closed : (p : Place) (so : World → Type 0) (s u : SeatState) → (u.table ≡ s.table) × (u.by ≡ s.by) × (u.turns ≡ s.turns) → (t d : WriteState) → s.knows.held ≡ writes t ∷ [] → d ≡ record t { closed = true; failed = t.pending } → Moved p (λ w. close_log ∷ []) so s.knows u.knows
    → u ≡ holding d (as_failed d.failed s)
closed p so s u same t d held is m =
    let step = made p close_log so s.knows u.knows close_ends m in
    let table : step.world.writes ≡ t = held_state p s.knows step.world (writes t) step.before (first_held s.knows (writes t) [] held) in
    let Failed : WriteState → Actor = λ x. record (as_failed x.failed s).knows { held = writes x ∷ [] } in
    becomes s u (Failed d) same
    (step.actor ∙ ((λ i. record (as_failed (table i).pending s).knows { held = held_with (held i) (writes (record (table i) { closed = true; failed = (table i).pending })) }) ∙ ap Failed (sym is)))

-- ---- versions

abbrev store_in : StoreState → Content → StoreState
store_in t (store d) = d
store_in t other = t

pub store_is : (t d : StoreState) → store t ≡ store d → t ≡ d
store_is t d e = ap (store_in d) e

stores_are : (p : Place) (a : Actor) (w : World) (t : StoreState) → IsAt p a w → IsIn (store t) a.held → w.store ≡ t
stores_are p a w t k held = store_is w.store t (held_is p a w (store t) k held).1

add_ends : (history : List Entry) (words : ℕ) (memory : List Version) (fact : Fact) → is_of_versions fact ≡ false → ends history words (add_versions memory) fact ≡ false
add_ends history words memory versions_in_memory e = absurd (true≢false e)
add_ends history words memory versions_nowhere e = absurd (true≢false e)
add_ends history words memory other e = refl

take_ends : (history : List Entry) (words : ℕ) (memory : List Version) (fact : Fact) → is_of_versions fact ≡ false → ends history words (take_versions memory) fact ≡ false
take_ends history words memory versions_in_memory e = absurd (true≢false e)
take_ends history words memory versions_nowhere e = absurd (true≢false e)
take_ends history words memory other e = refl

at_number : (entry : Option Entry) (n : ℕ) (before now : List Version) (key : List ℕ) → HasVersionsAt entry n before now → version_at now key n ≡ version_in entry key
at_number entry n before now key has = has key n ∙ ap (λ (b : Bool). cond b (version_in entry key) (version_at before key n)) (eq-eqb n n refl)

module _ (p : Place) (a : Actor) (d : WriteState) (t : StoreState) (memory : List Version) (held : a.held ≡ store t ∷ writes d ∷ []) where
  both_are : (w : World) → IsAt p a w → (w.writes ≡ d) × (w.store ≡ t)
  both_are w k = (held_state p a w (writes d) k (second_held a (store t) (writes d) held), stores_are p a w t k (first_held a (store t) (writes d ∷ []) held))

  pub may_add : HasVersionsAt (next_of d.pending) (suc (length d.history)) t.memory memory → MayMake p a (λ w. add_versions memory ∷ note versions_in_memory ∷ [])
  may_add has w k =
      let n = needed p a w k (add_versions memory) (record { state = d; held = second_held a (store t) (writes d) held; so_is = record { state = t; held = first_held a (store t) (writes d ∷ []) held; so_is = has } }) in
      let there : (key : List ℕ) (value : Option (List ℕ)) → version_in (next_of w.writes.pending) key ≡ Some value → version_at memory key (suc (length w.writes.history)) ≡ Some value =
      λ key value e. at_number (next_of w.writes.pending) (suc (length w.writes.history)) w.store.memory memory key n.2 ∙ e in
      ((tt, (tt, tt)), (n, ((holder_is_live p a w write_turn k n.0, guarded p a w k write_turn n.0, there), tt)))

  pub may_take : HasVersionsAt None (suc (length d.history)) t.memory memory → MayMake p a (λ w. take_versions memory ∷ note versions_nowhere ∷ [])
  may_take has w k =
      let n = needed p a w k (take_versions memory) (record { state = d; held = second_held a (store t) (writes d) held; so_is = record { state = t; held = first_held a (store t) (writes d ∷ []) held; so_is = has } }) in
      let none : (key : List ℕ) → version_at memory key (suc (length w.writes.history)) ≡ None = λ key. at_number None (suc (length w.writes.history)) w.store.memory memory key n.2 in
      ((tt, (tt, tt)), (n, ((holder_is_live p a w write_turn k n.0, guarded p a w k write_turn n.0, none), tt)))

module _ (p : Place) (so : World → Type 0) (s u : SeatState) (same : (u.table ≡ s.table) × (u.by ≡ s.by) × (u.turns ≡ s.turns)) (d : WriteState) (t now : StoreState) (held : s.knows.held ≡ store t ∷ writes d ∷ []) (is : now ≡ record t { memory = now.memory }) where
  left_held : (w : World) → IsAt p s.knows w → held_with s.knows.held (store (record w.store { memory = now.memory })) ≡ store now ∷ writes d ∷ []
  left_held w k =
      let table : w.store ≡ t = (both_are p s.knows d t now.memory held w k).1 in
      (λ i. held_with (held i) (store (record (table i) { memory = now.memory }))) ∙ ap (λ (x : StoreState). store x ∷ writes d ∷ []) (sym is)

  pub added : Moved p (λ w. add_versions now.memory ∷ note versions_in_memory ∷ []) so s.knows u.knows → GoesOn is_of_versions (store now ∷ writes d ∷ []) s.turns s u × Noted u.knows versions_in_memory
  added m =
      let w = m.world in let steps : World → List Step = λ v. add_versions now.memory ∷ note versions_in_memory ∷ [] in (
        goes_by p so s u same steps m is_of_versions (store now ∷ writes d ∷ []) refl (left_held w m.before) (λ fact other.
            ((λ x. x), add_ends w.writes.history (length w.cache) now.memory fact other, ((λ x. x), note_ends_none w.writes.history (length w.cache) versions_in_memory fact, tt))),
        noted_by p so s u same steps m versions_in_memory (inl refl),
      )

  pub taken : Moved p (λ w. take_versions now.memory ∷ note versions_nowhere ∷ []) so s.knows u.knows → GoesOn is_of_versions (store now ∷ writes d ∷ []) s.turns s u × Noted u.knows versions_nowhere
  taken m =
      let w = m.world in let steps : World → List Step = λ v. take_versions now.memory ∷ note versions_nowhere ∷ [] in (
        goes_by p so s u same steps m is_of_versions (store now ∷ writes d ∷ []) refl (left_held w m.before) (λ fact other.
            ((λ x. x), take_ends w.writes.history (length w.cache) now.memory fact other, ((λ x. x), note_ends_none w.writes.history (length w.cache) versions_nowhere fact, tt))),
        noted_by p so s u same steps m versions_nowhere (inl refl),
      )

-- ---- the number of a Prepare

put_ends : (history : List Entry) (words : ℕ) (fact : Fact) → is_of_heap fact ≡ false → ends history words add_prepared fact ≡ false
put_ends history words number_in_heap e = absurd (true≢false e)
put_ends history words number_not_in_heap e = absurd (true≢false e)
put_ends history words other e = refl

out_ends : (history : List Entry) (words : ℕ) (fact : Fact) → is_of_heap fact ≡ false → ends history words take_pending_prepared fact ≡ false
out_ends history words number_in_heap e = absurd (true≢false e)
out_ends history words number_not_in_heap e = absurd (true≢false e)
out_ends history words other e = refl

module _ (p : Place) (a : Actor) (d : WriteState) (t : PreparedSets) (held : a.held ≡ prepared t ∷ writes d ∷ []) (prepare : HasPrepare d) where
  pub may_put_number : MayMake p a (λ w. add_prepared ∷ note number_in_heap ∷ [])
  may_put_number w k =
      let n = needed p a w k add_prepared (record { state = d; held = second_held a (prepared t) (writes d) held; so_is = record { state = t; held = first_held a (prepared t) (writes d ∷ []) held; so_is = prepare } }) in
      ((tt, (tt, tt)), (n, ((holder_is_live p a w write_turn k n.0, guarded p a w k write_turn n.0, in_inserted w.prepared.heap (suc (length w.writes.history))), tt)))

  pub may_take_number : MayMake p a (λ w. take_pending_prepared ∷ note number_not_in_heap ∷ [])
  may_take_number w k =
      let n = needed p a w k take_pending_prepared (record { state = d; held = second_held a (prepared t) (writes d) held; so_is = record { state = t; held = first_held a (prepared t) (writes d ∷ []) held; so_is = prepare } }) in
      ((tt, (tt, tt)), (n, ((holder_is_live p a w write_turn k n.0, guarded p a w k write_turn n.0, in_removed w.prepared.heap (suc (length w.writes.history))), tt)))

module _ (p : Place) (so : World → Type 0) (s u : SeatState) (same : (u.table ≡ s.table) × (u.by ≡ s.by) × (u.turns ≡ s.turns)) (d : WriteState) (t tables : PreparedSets) (held : s.knows.held ≡ prepared t ∷ writes d ∷ []) where
  heap_held : (f : PreparedSets → ℕ → PreparedSets) → tables ≡ f t (suc (length d.history)) → (w : World) → IsAt p s.knows w → held_with s.knows.held (prepared (f w.prepared (suc (length w.writes.history)))) ≡ prepared tables ∷ writes d ∷ []
  heap_held f is w k =
      let one : w.prepared ≡ t = held_state p s.knows w (prepared t) k (first_held s.knows (prepared t) (writes d ∷ []) held) in
      let two : w.writes ≡ d = held_state p s.knows w (writes d) k (second_held s.knows (prepared t) (writes d) held) in
      (λ i. held_with (held i) (prepared (f (one i) (suc (length (two i).history))))) ∙ ap (λ (x : PreparedSets). prepared x ∷ writes d ∷ []) (sym is)

  pub number_put : tables ≡ record t { heap = set.insert t.heap (suc (length d.history)) } → Moved p (λ w. add_prepared ∷ note number_in_heap ∷ []) so s.knows u.knows
      → GoesOn is_of_heap (prepared tables ∷ writes d ∷ []) s.turns s u × Noted u.knows number_in_heap
  number_put is m =
      let w = m.world in let steps : World → List Step = λ v. add_prepared ∷ note number_in_heap ∷ [] in (
        goes_by p so s u same steps m is_of_heap (prepared tables ∷ writes d ∷ []) refl (heap_held (λ x n. record x { heap = set.insert x.heap n }) is w m.before) (λ fact other.
            ((λ x. x), put_ends w.writes.history (length w.cache) fact other, ((λ x. x), note_ends_none w.writes.history (length w.cache) number_in_heap fact, tt))),
        noted_by p so s u same steps m number_in_heap (inl refl),
      )

  pub number_taken : tables ≡ record t { heap = set.remove t.heap (suc (length d.history)) } → Moved p (λ w. take_pending_prepared ∷ note number_not_in_heap ∷ []) so s.knows u.knows
      → GoesOn is_of_heap (prepared tables ∷ writes d ∷ []) s.turns s u × Noted u.knows number_not_in_heap
  number_taken is m =
      let w = m.world in let steps : World → List Step = λ v. take_pending_prepared ∷ note number_not_in_heap ∷ [] in (
        goes_by p so s u same steps m is_of_heap (prepared tables ∷ writes d ∷ []) refl (heap_held (λ x n. record x { heap = set.remove x.heap n }) is w m.before) (λ fact other.
            ((λ x. x), out_ends w.writes.history (length w.cache) fact other, ((λ x. x), note_ends_none w.writes.history (length w.cache) number_not_in_heap fact, tt))),
        noted_by p so s u same steps m number_not_in_heap (inl refl),
      )

-- ---- into the history

publish_ends : (history : List Entry) (words : ℕ) (entry : Entry) (others : List Entry) (fact : Fact) → is_over history entry fact ≡ false → ends history words (store_published entry others) fact ≡ false
publish_ends history words entry others versions_in_memory e = absurd (true≢false e)
publish_ends history words entry others versions_nowhere e = absurd (true≢false e)
publish_ends history words entry others number_in_heap e = absurd (true≢false e)
publish_ends history words entry others number_not_in_heap e = absurd (true≢false e)
publish_ends history words entry others pair_delayed e = absurd (true≢false e)
publish_ends history words entry others pair_not_delayed e = absurd (true≢false e)
publish_ends history words entry others none_waits e = absurd (true≢false e)
publish_ends history words entry others (undecided_at name p) e = e
publish_ends history words entry others (prior_values name p batch) e = e
publish_ends history words entry others (unprepared name) e = e
publish_ends history words entry others (unchanged name key n) e =
    let parts = neither (is_changed (changes_of history entry) key) (is_name (transaction_of history entry) name) e in
    λ i. parts.1 i || parts.0 i
publish_ends history words entry others other e = refl

-- the pair that its word has is the version's decision
decided_there : (words : List ℕ) (cells : ℕ) (pair : CommitPair) → length words ≡ cells → pair_at words (cache_place cells pair.number) ≡ Some pair → cached words pair.number ≡ Some pair.decision
decided_there words cells pair many there =
    ap (λ (n : ℕ). decision_if pair.number (pair_at words (cache_place n pair.number))) many
    ∙ (ap (decision_if pair.number) there ∙ ap (λ (b : Bool). cond b (Some pair.decision) None) (eq-eqb pair.number pair.number refl))

-- the pair is where it is kept
entered_known : (a : Actor) (bound : ℕ) (words : List ℕ) (cells : ℕ) (pair : CommitPair) → length words ≡ cells → IsEntered a cells words (way_of cells (Some pair)) → ((fits cells pair ≡ false) → pair.number ≤ bound)
    → (cached words pair.number ≡ Some pair.decision) ⊎ ((fits cells pair ≡ false) × Noted a pair_delayed × (pair.number ≤ bound))
entered_known a bound words cells pair many there low = by_fit (fits cells pair) refl there
  where
    by_fit : (b : Bool) → fits cells pair ≡ b → IsEntered a cells words (cond b (InWord pair.number pair.decision) (Delayed pair.number pair.decision)) → (cached words pair.number ≡ Some pair.decision) ⊎ ((fits cells pair ≡ false) × Noted a pair_delayed × (pair.number ≤ bound))
    by_fit true e k = inl (decided_there words cells pair many k)
    by_fit false e k = inr (e, k, low e)

pub may_publish : (p : Place) (a : Actor) (d : WriteState) (entry : Entry) (others : List Entry) → a.held ≡ writes d ∷ [] → IsNext a d entry others → IsInPlace a p.cells d entry → MayStep p a (store_published entry others)
may_publish p a d entry others held next place w k =
    needed p a w k (store_published entry others)
    (record {
      state = d;
      held = first_held a (writes d) [] held;
      so_is = record {
        pending = next.pending;
        logged = next.logged;
        legal = next.legal;
        versions = next.versions;
        keys = next.owned.keys;
        transaction = next.owned.transaction;
        came = next.owned.came;
        number = place.number;
        pair = λ pair is. let l = place.pair pair is in let cache = (noted_is p a w (words_stay l.0 l.1) k l.2).is_so.1 in (l.0, l.1, l.2, entered_known a l.0 l.1 p.cells pair (sym (ap length cache) ∙ k.cells) l.3 l.4);
      };
    })

pub published : (p : Place) (so : World → Type 0) (s u : SeatState) → (u.table ≡ s.table) × (u.by ≡ s.by) × (u.turns ≡ s.turns) → (d e : WriteState) (entry : Entry) (others : List Entry) → s.knows.held ≡ writes d ∷ [] → e ≡ with_entry d entry others
    → Moved p (λ w. store_published entry others ∷ []) so s.knows u.knows → GoesOn (is_over d.history entry) (writes e ∷ []) s.turns (as_published d.history entry s) u
published p so s u same d e entry others held is m =
    let w = m.world in
    let steps : World → List Step = λ v. store_published entry others ∷ [] in
    let table : w.writes ≡ d = held_state p s.knows w (writes d) m.before (first_held s.knows (writes d) [] held) in
    let b : Actor = actor_after (store_published entry others ∷ []) w p.by s.knows in
    let form : b ≡ record (publishes d.history entry s.knows) { held = b.held; notes = b.notes } = ap (λ (x : WriteState). record (publishes x.history entry s.knows) { held = b.held; notes = b.notes }) table in
    let left : held_with s.knows.held (writes (with_entry w.writes entry others)) ≡ writes e ∷ [] = (λ i. held_with (held i) (writes (with_entry (table i) entry others))) ∙ ap (λ (x : WriteState). writes x ∷ []) (sym is) in
    goes_from p so s u same steps m (publishes d.history entry s.knows) (is_over d.history entry) (writes e ∷ []) refl form left (λ fact other.
    ((λ x. x), publish_ends w.writes.history (length w.cache) entry others fact (ap (λ (x : WriteState). is_over x.history entry fact) table ∙ other), tt))
