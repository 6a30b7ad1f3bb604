-- The steps of maintenance: that they may be made, and what they leave of the seat.
use Rattle.std.proofs.Common.{◌≡◌, inl, inr, ℕ, Bool, true, false, true≢false, List, [], ◌∷◌, length, refl, sym, subst, ap, ◌∙◌, Option, Some, None}
use Rattle.std.specs.Prelude.{IfSome}
use Rattle.wp_model.specs.declared.entry.Entry.{Entry}
use Rattle.wp_model.specs.declared.version.Version.{Version}
use Rattle.wp_model.specs.Flushed.{InstalledEdit, IsEditCovered}
use Rattle.wp_core.specs.Changes.{held_with}
use Rattle.wp_core.specs.Effects.{with_failed}
use Rattle.wp_core.specs.Lists.{IsIn}
use Rattle.wp_core.specs.Notes.{ends}
use Rattle.wp_core.specs.Sound.Store.{NoneFlushed}
use Rattle.wp_core.specs.Steps.{Step, install, halt, find_edit, move_versions, note}
use Rattle.wp_core.specs.States.{Content, StoreState, Installed, store, installed}
use Rattle.wp_core.specs.Turns.{tables_turn}
use Rattle.wp_core.specs.Sound.Pasts.{tables_due}
use Rattle.wp_core.specs.Views.{Event, Fact, tables_failed, found_edit, tables_stay, nothing_flushed, frozen_stay}
use Rattle.wp_core.specs.Views as event
use Rattle.wp_core.specs.World.{Participant, Actor, World}
use Rattle.wp_rule.specs.Knows.{Noted, KnowsMoved, KnowsInstalled}
use Rattle.wp_rule.specs.Moves.{MayMake, Moved, Outlasts, actor_after, world_after}
use Rattle.wp_rule.specs.Words.{Place, IsAt}
use Rattle.wp_rule.proofs.Forgets.{EndsNothing}
use Rattle.wp_rule.proofs.Knows.{noted_is}
use Rattle.wp_rule.proofs.MayBeMade.{known_made}
use Rattle.wp_rule.proofs.Needed.{guarded, needed}
use Rattle.wp_rule.proofs.Outlasting.{outlasts}
use Rattle.wp_rule.proofs.Stores.{holder_is_live}
use Rattle.wp_shared.specs.Calls.{with_events}
use Rattle.wp_shared.specs.Notes.{no_fact, with_participant, GoesOn}
use Rattle.wp_shared.specs.Seats.{SharedState, SeatState, Stands, place_at}
use Rattle.wp_shared.proofs.OneStep.{made, becomes}
use Rattle.wp_shared.proofs.Goes.{goes_with}
use Rattle.wp_shared.proofs.Noting.{note_ends_none}
use Rattle.wp_shared.proofs.Onward.{starts_same, starts_equal}
use Rattle.wp_shared.proofs.Tables.{held_state}
use Rattle.wp_maint.specs.Finding.{Remembers}
use Rattle.wp_maint.specs.Holding.{is_of_flushed, is_of_tables}
use Rattle.wp_maint.proofs.Found.{failed_last}

-- ---- what is left of the seat

module _ (p : Place) (so : World → Type 0) (s u : SeatState) (same : (u.table ≡ s.table) × (u.by ≡ s.by) × (u.turns ≡ s.turns)) (steps : World → List Step) (m : Moved p steps so s.knows u.knows) where
  abbrev after : Actor
  after = actor_after (steps m.world) m.world p.by s.knows

  -- it goes on from this actor, of which it has other states and notes
  pub goes_from : (from : Actor) (test : Fact → Bool) (held : List Content) → from.notes ≡ s.knows.notes → after ≡ record from { held = after.held; notes = after.notes } → after.held ≡ held → ((fact : Fact) → test fact ≡ false → Outlasts fact (steps m.world) m.world p.by s.knows)
      → GoesOn test held s.turns (record s { knows = from }) u
  goes_from from test held notes form left stays = record {
    same = goes_with (record s { knows = from }) u held s.turns after.notes same.0 same.1 same.2 (m.actor ∙ form ∙ ap (λ (c : List Content). record from { held = c; notes = after.notes }) left);
    noted = λ fact other there. subst (λ (x : Actor). Noted x fact) (sym m.actor) (outlasts fact (steps m.world) m.world p.by s.knows (subst (IsIn fact) notes there) (stays fact other));
  }

  pub noted_by : (fact : Fact) → Noted after fact → Noted u.knows fact
  noted_by fact there = subst (λ (x : Actor). Noted x fact) (sym m.actor) there

-- it stands in a world of the store then
pub stands_after : {D : Type 0} (z : SharedState D) (steps : World → List Step) (so : World → Type 0) (s u : SeatState) → u.by ≡ s.by → Moved (place_at z s.by) steps so s.knows u.knows → (w : World) × Stands z u w
stands_after z steps so s u by m =
    let after : World = world_after (steps m.world) m.world s.by s.knows in (after, subst (λ (b : ℕ). IsAt (place_at z b) u.knows after) (sym by) m.after)

-- ---- what was found

find_ends : EndsNothing find_edit
find_ends = record { guard = λ turn. refl; place = λ words place. refl; words = refl; delayed_flag = refl; old_flag = refl; pending = refl; adds = refl; takes = refl; prepared = refl; unprepared = refl; delays = refl; transaction = λ history name. refl; changes = λ history key. refl; direct = refl; moves = refl; replaces = refl; installing = refl }

pub may_find : (p : Place) (a : Actor) (t : Installed) → IsIn (installed t) a.held → MayMake p a (λ w. find_edit ∷ [])
may_find p a t held = known_made p a find_edit tt (record { state = t; held = held; so_is = tt })

pub found : {D : Type 0} (z : SharedState D) (so : World → Type 0) (s u : SeatState) → (u.table ≡ s.table) × (u.by ≡ s.by) × (u.turns ≡ s.turns) → (t : Installed) → IsIn (installed t) s.knows.held → Moved (place_at z s.by) (λ w. find_edit ∷ []) so s.knows u.knows
    → Remembers z s t u
found z so s u same t held m =
    let step = made (place_at z s.by) find_edit so s.knows u.knows find_ends m in
    let p : Participant = s.knows.participant in
    let table : step.world.installed ≡ t = held_state (place_at z s.by) s.knows step.world (installed t) step.before held in
    let is : u ≡ with_participant (with_events (find_of step.world.first_edit t p ∷ []) p) s = becomes s u (record s.knows { participant = with_events (find_of step.world.first_edit t p ∷ []) p }) same (step.actor ∙ ap (λ (x : Installed). record s.knows { participant = with_events (find_of step.world.first_edit x p ∷ []) p }) table) in
    record {
      found = record {
        world = step.world;
        actor = s.knows;
        there = step.before;
        held = held;
        past_is = refl;
        seen_is = starts_same p.seen;
        within = starts_equal p.seen u.knows.participant.seen (ap (λ (x : SeatState). x.knows.participant.seen) is);
        made = refl;
        joined = refl;
      };
      is = is;
    }
  where
    find_of : InstalledEdit → Installed → Participant → Event
    find_of first x p = found_edit x.last.flushed x.last.segment.base x.last.tables (tables_due first p.past) x.halted

-- ---- an edit

pub install_ends : (history : List Entry) (words : ℕ) (edit : InstalledEdit) (compacts : Bool) (fact : Fact) → is_of_flushed fact ≡ false → ends history words (install edit compacts) fact ≡ false
install_ends history words edit compacts nothing_flushed e = absurd (true≢false e)
install_ends history words edit compacts other e = refl

pub first_held : (a : Actor) (c : Content) (others : List Content) → a.held ≡ c ∷ others → IsIn c a.held
first_held a c others held = subst (IsIn c) (sym held) (inl refl)

pub second_held : (a : Actor) (b c : Content) → a.held ≡ b ∷ c ∷ [] → IsIn c a.held
second_held a b c held = subst (IsIn c) (sym held) (inr (inl refl))

pub may_install : (p : Place) (a : Actor) (t : Installed) (edit : InstalledEdit) (compacts : Bool) → a.held ≡ installed t ∷ [] → KnowsInstalled a t edit compacts → MayMake p a (λ w. install edit compacts ∷ [])
may_install p a t edit compacts held known = known_made p a (install edit compacts) tt (record { state = t; held = first_held a (installed t) [] held; so_is = known })

module _ (p : Place) (so : World → Type 0) (s u : SeatState) (same : (u.table ≡ s.table) × (u.by ≡ s.by) × (u.turns ≡ s.turns)) (t e : Installed) (held : s.knows.held ≡ installed t ∷ []) where
  pub table_is : (w : World) → IsAt p s.knows w → w.installed ≡ t
  table_is w k = held_state p s.knows w (installed t) k (first_held s.knows (installed t) [] held)

  pub was_installed : (compacts : Bool) → e ≡ record t { last = e.last } → Moved p (λ w. install e.last compacts ∷ []) so s.knows u.knows
      → GoesOn is_of_flushed (installed e ∷ []) s.turns (with_participant (with_events (event.installed e.last compacts ∷ []) s.knows.participant) s) u
  was_installed compacts is m =
      let w = m.world in
      let left : held_with s.knows.held (installed (record w.installed { last = e.last })) ≡ installed e ∷ [] =
      (λ i. held_with (held i) (installed (record (table_is w m.before i) { last = e.last }))) ∙ ap (λ (x : Installed). installed x ∷ []) (sym is) in
      goes_from p so s u same (λ v. install e.last compacts ∷ []) m (record s.knows { participant = with_events (event.installed e.last compacts ∷ []) s.knows.participant }) is_of_flushed (installed e ∷ []) refl refl left
      (λ fact other. ((λ x. x), install_ends w.writes.history (length w.cache) e.last compacts fact other, tt))

  pub was_halted : e ≡ with_failed t e.failed → Moved p (λ w. halt e.failed ∷ []) so s.knows u.knows
      → GoesOn no_fact (installed e ∷ []) s.turns (with_participant (with_events (tables_failed e.last e.failed ∷ []) s.knows.participant) s) u
  was_halted is m =
      let w = m.world in
      let left : held_with s.knows.held (installed (with_failed w.installed e.failed)) ≡ installed e ∷ [] =
      (λ i. held_with (held i) (installed (with_failed (table_is w m.before i) e.failed))) ∙ ap (λ (x : Installed). installed x ∷ []) (sym is) in
      let last : w.installed.last ≡ e.last = ap (λ (x : Installed). x.last) (table_is w m.before) ∙ (sym (failed_last t e.failed) ∙ ap (λ (x : Installed). x.last) (sym is)) in
      goes_from p so s u same (λ v. halt e.failed ∷ []) m (record s.knows { participant = with_events (tables_failed e.last e.failed ∷ []) s.knows.participant }) no_fact (installed e ∷ []) refl
      (ap (λ (l : InstalledEdit). let b = actor_after (halt e.failed ∷ []) w p.by s.knows in record b { participant = with_events (tables_failed l e.failed ∷ []) s.knows.participant }) last) left
      (λ fact other. ((λ x. x), halt_ends w.writes.history (length w.cache) e.failed fact, tt))
    where
      halt_ends : (history : List Entry) (words : ℕ) (edit : Option InstalledEdit) (fact : Fact) → ends history words (halt edit) fact ≡ false
      halt_ends history words edit nothing_flushed = refl
      halt_ends history words edit other = refl

pub may_halt : (p : Place) (a : Actor) (t : Installed) (edit : Option InstalledEdit) → a.held ≡ installed t ∷ [] → t.halted ≡ false → IfSome edit (IsEditCovered a.participant.seen) → IfSome edit (λ e. e.segment ≡ t.last.segment) → MayMake p a (λ w. halt edit ∷ [])
may_halt p a t None held running covered same = known_made p a (halt None) tt (record { state = t; held = first_held a (installed t) [] held; so_is = running })
may_halt p a t (Some edit) held running covered same = known_made p a (halt (Some edit)) tt (record { state = t; held = first_held a (installed t) [] held; so_is = (running, covered, inl same) })

-- the edit of a compaction, after which no flushed version is in memory either
abbrev pub compacting : InstalledEdit → World → List Step
compacting edit w = install edit true ∷ note nothing_flushed ∷ []

pub may_compact : (p : Place) (a : Actor) (t : Installed) (edit : InstalledEdit) → a.held ≡ installed t ∷ [] → KnowsInstalled a t edit true → Noted a nothing_flushed → MayMake p a (compacting edit)
may_compact p a t edit held known gone w k =
    let there = first_held a (installed t) [] held in
    let n = needed p a w k (install edit true) (record { state = t; held = there; so_is = known }) in
    let same : edit.flushed ≡ w.installed.last.flushed = known.keeps refl ∙ ap (λ (x : Installed). x.last.flushed) (sym (held_state p a w (installed t) k there)) in
    ((tt, (tt, tt)), (n, ((holder_is_live p a w tables_turn k n.0, guarded p a w k tables_turn n.0, subst (NoneFlushed w.store.memory) (sym same) (noted_is p a w nothing_flushed k gone).is_so), tt)))

module _ (p : Place) (so : World → Type 0) (s u : SeatState) (same : (u.table ≡ s.table) × (u.by ≡ s.by) × (u.turns ≡ s.turns)) (t e : Installed) (held : s.knows.held ≡ installed t ∷ []) (m : Moved p (compacting e.last) so s.knows u.knows) where
  pub was_compacted : e ≡ record t { last = e.last } → GoesOn is_of_flushed (installed e ∷ []) s.turns (with_participant (with_events (event.installed e.last true ∷ []) s.knows.participant) s) u
  was_compacted is =
      let w = m.world in
      let left : held_with s.knows.held (installed (record w.installed { last = e.last })) ≡ installed e ∷ [] =
      (λ i. held_with (held i) (installed (record (table_is p so s u same t e held w m.before i) { last = e.last }))) ∙ ap (λ (x : Installed). installed x ∷ []) (sym is) in
      goes_from p so s u same (compacting e.last) m (record s.knows { participant = with_events (event.installed e.last true ∷ []) s.knows.participant }) is_of_flushed (installed e ∷ []) refl refl left
      (λ fact other. ((λ x. x), install_ends w.writes.history (length w.cache) e.last true fact other, ((λ x. x), note_ends_none w.writes.history (length w.cache) nothing_flushed fact, tt)))

  pub still_gone : Noted u.knows nothing_flushed
  still_gone = noted_by p so s u same (compacting e.last) m nothing_flushed (inl refl)

-- ---- versions move

move_ends : (history : List Entry) (words : ℕ) (memory tables : List Version) (fact : Fact) → is_of_tables fact ≡ false → ends history words (move_versions memory tables) fact ≡ false
move_ends history words memory tables (tables_stay versions floor) e = absurd (true≢false e)
move_ends history words memory tables (frozen_stay n versions) e = absurd (true≢false e)
move_ends history words memory tables nothing_flushed e = absurd (true≢false e)
move_ends history words memory tables other e = refl

abbrev pub moving : StoreState → World → List Step
moving t w = move_versions t.memory t.tables ∷ note nothing_flushed ∷ note (tables_stay t.tables t.floor) ∷ []

module _ (p : Place) (a : Actor) (t now : StoreState) (e : Installed) (others : List Content) (at : IsIn (installed e) others) (held : a.held ≡ store t ∷ others) (floor : now.floor ≡ t.floor) where
  store_there : IsIn (store t) a.held
  store_there = first_held a (store t) others held

  tables_there : IsIn (installed e) a.held
  tables_there = subst (IsIn (installed e)) (sym held) (inr at)

  both_are : (w : World) → IsAt p a w → (w.installed ≡ e) × (w.store ≡ t)
  both_are w k = (held_state p a w (installed e) k tables_there, held_state p a w (store t) k store_there)

  pub may_move : KnowsMoved t e.last.flushed now.memory now.tables → NoneFlushed now.memory e.last.flushed → MayMake p a (moving now)
  may_move known gone w k =
      let n = needed p a w k (move_versions now.memory now.tables) (record { state = t; held = store_there; so_is = record { state = e; held = tables_there; so_is = known } }) in
      let are = both_are w k in
      let holds = n.1 in
      let live = holder_is_live p a w tables_turn k holds in
      let guard = guarded p a w k tables_turn holds in
      ((tt, (tt, (tt, tt))), (n, ((live, guard, subst (λ (x : Installed). NoneFlushed now.memory x.last.flushed) (sym are.0) gone), ((live, guard, (refl, ap (λ (x : StoreState). x.floor) are.1 ∙ sym floor)), tt))))

module _ (p : Place) (so : World → Type 0) (s u : SeatState) (same : (u.table ≡ s.table) × (u.by ≡ s.by) × (u.turns ≡ s.turns)) (t now : StoreState) (others : List Content) (held : s.knows.held ≡ store t ∷ others) (floor : now.floor ≡ t.floor)
    (m : Moved p (moving now) so s.knows u.knows) where
  abbrev v : World
  v = m.world

  left_held : held_with s.knows.held (store (record v.store { memory = now.memory; tables = now.tables })) ≡ store now ∷ others
  left_held =
      let table : v.store ≡ t = held_state p s.knows v (store t) m.before (first_held s.knows (store t) others held) in
      (λ i. held_with (held i) (store (record (table i) { memory = now.memory; tables = now.tables }))) ∙ ap (λ (f : ℕ). store (record { memory = now.memory; tables = now.tables; floor = f }) ∷ others) (sym floor)

  pub was_moved : GoesOn is_of_tables (store now ∷ others) s.turns s u
  was_moved = goes_from p so s u same (moving now) m s.knows is_of_tables (store now ∷ others) refl refl left_held (λ fact other.
      ((λ x. x), move_ends v.writes.history (length v.cache) now.memory now.tables fact other, ((λ x. x), note_ends_none v.writes.history (length v.cache) nothing_flushed fact, ((λ x. x), note_ends_none v.writes.history (length v.cache) (tables_stay now.tables now.floor) fact, tt))))

  pub noted_moved : Noted u.knows nothing_flushed × Noted u.knows (tables_stay now.tables now.floor)
  noted_moved = (noted_by p so s u same (moving now) m nothing_flushed (inr (inl refl)), noted_by p so s u same (moving now) m (tables_stay now.tables now.floor) (inl refl))

-- what is held beneath is one list
pub same_others : (a : Actor) (one other : StoreState) (ones others : List Content) → a.held ≡ store one ∷ ones → a.held ≡ store other ∷ others → ones ≡ others
same_others a one other ones others is also = ap rest (sym is ∙ also)
  where
    rest : List Content → List Content
    rest [] = []
    rest (c ∷ cs) = cs
