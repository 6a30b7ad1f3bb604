-- The tables are still those that were decided, so what is kept of them may be installed.
use Rattle.std.proofs.Common.{◌≡◌, ◌≢◌, ◌⊎◌, ⊎_elim, inl, inr, ℕ, ◌≤◌, Bool, true, false, true≢false, List, [], ◌∷◌, append-nil, length, length-append, take, refl, sym, subst, ap, ◌∙◌, Option, Some, None, IfSome, arith}
use Rattle.std.specs.Prelude.{MatchOption}
use Rattle.std.specs.List.{list_all}
use Rattle.std.proofs.lemmas.List.{take-take}
use Rattle.wp_model.specs.declared.entry.Entry.{Entry}
use Rattle.wp_model.specs.declared.version.Version.{Version}
use Rattle.wp_model.specs.Covered.{is_among}
use Rattle.wp_model.specs.Flushed.{IsEditCovered}
use Rattle.wp_model.specs.Legal.{IsLegal, undone_last}
use Rattle.wp_model.specs.Versions.{AreInOrder}
use Rattle.wp_merge.specs.Merge.{joined}
use Rattle.wp_merge.proofs.Sorted.{in_order_sorted}
use Rattle.wp_replies.specs.Replies.{IsCompactionCount}
use Rattle.wp_replies.specs.Tables.{listed, retained, after_compaction}
use Rattle.wp_table.specs.Table.{is_flushed}
use Rattle.wp_core.specs.IsSound.{IsSound}
use Rattle.wp_core.specs.Lists.{IsIn}
use Rattle.wp_core.specs.Reading.{Registration}
use Rattle.wp_core.specs.Sound.Actors.{StartsWith}
use Rattle.wp_core.specs.Sound.Store.{NoneFlushed}
use Rattle.wp_core.specs.Sound.Views.{guarded_by}
use Rattle.wp_core.specs.States.{Content, StoreState, Installed, store, installed}
use Rattle.wp_core.specs.Turns.{store_turn}
use Rattle.wp_core.specs.Views.{Event, Fact, tables_stay, live_listed, nothing_flushed}
use Rattle.wp_core.specs.World.{Participant, Actor, World}
use Rattle.wp_rule.specs.Knows.{Noted, KnowsTables}
use Rattle.wp_rule.proofs.Knows.{at_sound, noted_is}
use Rattle.wp_parts.specs.VersionSet.{VersionSetState}
use Rattle.wp_parts.specs.Stock.{StockState, store_state}
use Rattle.wp_shared.specs.Notes.{no_fact, is_under, noting_only, seeing, GoesOn, SawHistory}
use Rattle.wp_shared.specs.Seats.{SharedState, SeatState, place_at}
use Rattle.wp_shared.specs.Turns.{HoldsTurn, Taken, Given}
use Rattle.wp_shared.proofs.Goes.{then, wider, none_under_store}
use Rattle.wp_shared.proofs.Onward.{starts_equal, starts_on}
use Rattle.wp_shared.proofs.Tables.{held_state}
use Rattle.wp_read.specs.Registers.{numbers_of}
use Rattle.wp_keep.specs.declared.pair.Pair.{Pair}
use Rattle.wp_maint.specs.Calls.{HeldContent, HeldTables, Finds}
use Rattle.wp_compact.specs.declared.decided.Bases.{Bases}
use Rattle.wp_compact.specs.Compaction.{AreLow, HasDecided, IsOpenedBase, IsPassedOr, KnowsLive, MayMerge, MayReplace}
use Rattle.wp_maint.specs.Holding.{HoldsEdits}
use Rattle.wp_compact.proofs.Covering.{kept_is_covered, kept_few, versions_numbered}
use Rattle.wp_maint.proofs.Onward.{held_then}
use Rattle.wp_compact.proofs.Onward.{passed_between}
use Rattle.wp_compact.proofs.Pinning.{take_grown}
use Rattle.wp_maint.proofs.Puts.{holds_taken}
use Rattle.wp_compact.proofs.Replaces.{length_front, front_starts, each_listed, listed_low, opened_among, base_among, opened_is}

-- what is known of the bases is known when more was seen
pub low_later : (seen later : List Entry) (floor : ℕ) (live : List Registration) (bases : Bases) → floor ≤ length seen → StartsWith later seen → AreLow seen floor live bases → AreLow later floor live bases
low_later seen later floor live bases within grown k = record {
  opened = k.opened;
  installed = k.installed;
  live_from = k.live_from;
  whole = ap undone_last (take_grown bases.opened seen later (let o = k.opened in let i = k.installed in omega (arith, o, i, within)) grown) ∙ k.whole;
}

-- the seat has seen this history, and is as it was but for that
pub saw_more : {D : Type 0} {z : SharedState D} {s u : SeatState} → SawHistory z s u → GoesOn no_fact s.knows.held s.turns (seeing u.knows.participant.seen s) u
saw_more {s = s} {u = u} k =
    let seen : u.knows.participant.seen ≡ k.history = ap (λ (x : SeatState). x.knows.participant.seen) k.seat in
    subst (λ (h : List Entry). GoesOn no_fact s.knows.held s.turns (seeing h s) u) (sym seen)
    (record { same = k.seat ∙ ap (λ (notes : List Fact). noting_only notes (seeing k.history s)) (sym (ap (λ (x : SeatState). x.knows.notes) k.seat)); noted = λ fact other there. subst (λ (x : SeatState). Noted x.knows fact) (sym k.seat) there })

pub saw_grown : {D : Type 0} {z : SharedState D} {s u : SeatState} → SawHistory z s u → StartsWith u.knows.participant.seen s.knows.participant.seen
saw_grown {s = s} k = subst (λ (x : SeatState). StartsWith x.knows.participant.seen s.knows.participant.seen) (sym k.seat) k.grown

-- it held the turn that it took last in the world that it saw
pub saw_holding : {D : Type 0} {z : SharedState D} {s u : SeatState} {table : Content} {others : List Content} {beneath : List ℕ} → SawHistory z s u → HoldsTurn z s table others beneath → HeldContent z s u s.knows.participant.past table
saw_holding {z = z} {s = s} {u = u} {table = table} k holds =
    subst (λ (past : List Event). HeldContent z s u past table) (ap (λ (x : SeatState). x.knows.participant.past) k.seat)
    (held_then z s u u table (k.world, k.stands) (ap (λ (x : SeatState). x.by) k.seat, ap (λ (x : SeatState). x.knows.made) k.seat, ap (λ (x : SeatState). x.knows.joined) k.seat) (saw_grown k) refl
    (subst (IsIn table) (sym (ap (λ (x : SeatState). x.knows.held) k.seat ∙ holds.held)) (inl refl)))

-- what is live is known still, when more was seen
pub live_later : (s u : Actor) (floor : ℕ) (live : List Registration) → KnowsLive s floor live → u.participant ≡ record s.participant { seen = u.participant.seen } → StartsWith u.participant.seen s.participant.seen → Noted u (live_listed floor (numbers_of live)) → KnowsLive u floor live
live_later s u floor live k same grown listed = record {
  within = let l = length-append s.participant.seen grown.0 in let q = ap (λ (h : List Entry). length h) grown.1 in let w = k.within in omega (arith, l, q, w);
  registered = λ r there. (subst (λ (p : Participant). IsIn r p.registered) (sym same) (k.registered r there).0, (k.registered r there).1);
  listed = listed;
}

-- the base and the floor as they were read
pub based_here : {base installed floor here there : ℕ} → (base ≡ installed) ⊎ (base ≡ floor) → base ≡ here → floor ≡ there → (here ≡ installed) ⊎ (here ≡ there)
based_here (inl same) is floor = inl (sym is ∙ same)
based_here (inr same) is floor = inr (sym is ∙ same ∙ floor)

pub not_based : {base installed floor here there : ℕ} {b : Bool} → ((base ≡ installed) ⊎ (base ≡ floor) → b ≡ true) → b ≡ false → base ≡ here → floor ≡ there → (here ≢ installed) × (here ≢ there)
not_based says not is same = ((λ one. true≢false (sym (says (inl (is ∙ one))) ∙ not)), (λ one. true≢false (sym (says (inr (is ∙ one ∙ sym same))) ∙ not)))

module _ {D : Type 0} {z : SharedState D} {s u : SeatState} {e : Installed} {beneath : List ℕ} (stock : StockState) (floor : ℕ) (live : List Registration) (bases : Bases) (saw : SawHistory z s u) (holds : HoldsTurn z s (store (store_state stock)) (installed e ∷ []) beneath) (in_step_then : KnowsTables s.knows e.last) (known : KnowsLive s.knows floor live)
    (known_low : AreLow s.knows.participant.seen floor live bases) (opened : IsOpenedBase z bases.opened) (low_tables : list_all (is_flushed e.last.flushed) e.last.versions ≡ true) (based : (e.last.segment.base ≡ bases.installed) ⊎ (e.last.segment.base ≡ floor)) (flushed_low : e.last.flushed ≤ floor) (given_up : stock.floor ≤ floor) where
  abbrev w : World
  w = saw.world

  holds_both : u.knows.held ≡ store (store_state stock) ∷ installed e ∷ []
  holds_both = ap (λ (x : SeatState). x.knows.held) saw.seat ∙ holds.held

  in_step : KnowsTables u.knows e.last
  in_step = subst (λ (x : SeatState). KnowsTables x.knows e.last) (sym saw.seat) in_step_then

  seen : u.knows.participant.seen ≡ saw.history
  seen = ap (λ (x : SeatState). x.knows.participant.seen) saw.seat

  all_seen : w.writes.history ≡ u.knows.participant.seen
  all_seen = saw.is ∙ sym seen

  k : KnowsLive u.knows floor live
  k =
      live_later s.knows u.knows floor live known (ap (λ (x : SeatState). x.knows.participant) saw.seat ∙ ap (λ (h : List Entry). record s.knows.participant { seen = h }) (sym seen)) (saw_grown saw)
      (subst (λ (x : SeatState). Noted x.knows (live_listed floor (numbers_of live))) (sym saw.seat) known.listed)

  sound : IsSound w
  sound = at_sound (place_at z u.by) u.knows w saw.stands

  edit_here : w.installed ≡ e
  edit_here = held_state (place_at z u.by) u.knows w (installed e) saw.stands (subst (IsIn (installed e)) (sym holds_both) (inr (inl refl)))

  store_here : w.store ≡ store_state stock
  store_here = held_state (place_at z u.by) u.knows w (store (store_state stock)) saw.stands (subst (IsIn (store (store_state stock))) (sym holds_both) (inl refl))

  named : (w.store.tables ≡ e.last.versions) × (w.store.floor ≡ in_step.1.0)
  named = (noted_is (place_at z u.by) u.knows w (tables_stay e.last.versions in_step.1.0) saw.stands in_step.1.1).is_so

  gone : NoneFlushed w.store.memory w.installed.last.flushed
  gone = (noted_is (place_at z u.by) u.knows w nothing_flushed saw.stands in_step.0).is_so

  -- they are in order, as the store has them
  pub tables_here : (store_state stock).tables ≡ e.last.versions
  tables_here = ap (λ (t : StoreState). t.tables) (sym store_here) ∙ named.0

  in_order : AreInOrder e.last.versions
  in_order = subst AreInOrder tables_here (in_order_sorted (joined stock.parts.tables))

  floor_here : w.store.floor ≤ floor
  floor_here = let q = ap (λ (t : StoreState). t.floor) store_here in omega (arith, q, given_up)

  replace_here : MayReplace u.knows e floor live e.last.versions
  replace_here = record {
    live_is = k;
    gone = in_step.0;
    store_floor = in_step.1.0;
    named = in_step.1.1;
    given_up = let q = named.1 in let f = floor_here in omega (arith, q, f);
    in_order = in_order;
    low = low_tables;
  }

  abbrev front : List Entry
  front = take floor u.knows.participant.seen

  front_is : length front ≡ floor
  front_is = length_front floor u.knows.participant.seen k.within

  starts : StartsWith w.writes.history front
  starts = front_starts floor u.knows.participant.seen w.writes.history (subst (λ (h : List Entry). StartsWith h u.knows.participant.seen) (sym all_seen) ([], sym (append-nil u.knows.participant.seen)))

  low_now : AreLow u.knows.participant.seen floor live bases
  low_now = low_later s.knows.participant.seen u.knows.participant.seen floor live bases known.within (saw_grown saw) known_low

  opened_low : bases.opened ≤ floor
  opened_low = let o = low_now.opened in let i = low_now.installed in omega (arith, o, i)

  base_between : (bases.opened ≤ e.last.segment.base) × (e.last.segment.base ≤ floor)
  base_between = ⊎_elim
      (λ (same : e.last.segment.base ≡ bases.installed). let o = low_now.opened in let i = low_now.installed in (omega (arith, same, o), omega (arith, same, i)))
      (λ (same : e.last.segment.base ≡ floor). let o = opened_low in (omega (arith, same, o), omega (arith, same)))
      based

  abbrev numbers : List ℕ
  numbers = listed (numbers_of live) bases.opened e.last

  low : (m : ℕ) → is_among numbers m ≡ true → m ≤ length front
  low m among = let l = listed_low live bases.opened floor e.last (λ r there. (k.registered r there).1) (opened_low, base_between.1) m among in let f = front_is in omega (arith, l, f)

  low_here : list_all (is_flushed w.installed.last.flushed) e.last.versions ≡ true
  low_here = subst (λ (x : Installed). list_all (is_flushed x.last.flushed) e.last.versions ≡ true) (sym edit_here) low_tables

  given_up_here : w.store.floor ≤ length front
  given_up_here = let f = floor_here in let g = front_is in omega (arith, f, g)

  -- ---- the bases

  opened_here : bases.opened ≡ w.first_edit.segment.base
  opened_here = opened_is z u.by u.knows w saw.stands bases.opened opened

  opened_listed : is_among numbers w.first_edit.segment.base ≡ true
  opened_listed = opened_among live bases.opened e.last w.first_edit.segment.base opened_here

  base_listed : is_among numbers w.installed.last.segment.base ≡ true
  base_listed = base_among live bases.opened e.last w.installed.last.segment.base (ap (λ (x : Installed). x.last.segment.base) (sym edit_here))

  from_opened : (n : ℕ) → is_among numbers n ≡ true → w.first_edit.segment.base ≤ n
  from_opened = subst (λ (b : ℕ). (n : ℕ) → is_among numbers n ≡ true → b ≤ n) opened_here (each_listed (λ n. bases.opened ≤ n) live bases.opened e.last low_now.live_from (omega arith) base_between.0)

  whole_front : undone_last (take w.first_edit.segment.base front) ≡ None
  whole_front = subst (λ (b : ℕ). undone_last (take b front) ≡ None) opened_here (ap undone_last (take-take bases.opened floor u.knows.participant.seen opened_low) ∙ low_now.whole)

  pub may_merge : MayMerge u.knows e floor live bases
  may_merge = record {
    replace = replace_here;
    numbered = versions_numbered w sound front starts numbers low e.last.versions named.0 in_order low_here gone given_up_here;
    based = based;
    low = (opened_low, base_between.1);
    live_from = low_now.live_from;
    legal = subst IsLegal all_seen sound.history.legal;
    covered = subst (λ (x : Installed × List Entry). IsEditCovered x.1 (after_compaction front numbers x.0.last)) (λ i. (edit_here i, all_seen i))
        (kept_is_covered w sound front starts numbers low e.last.versions named.0 in_order low_here gone given_up_here base_listed (ap (λ (x : Installed). x.last.versions) (sym edit_here)));
    few = subst (λ (x : ℕ × ℕ). IsCompactionCount front x.0 x.1 (length (retained front numbers e.last))) (λ i. (sym opened_here i, front_is i))
        (kept_few w sound front starts numbers low e.last.versions named.0 in_order low_here gone given_up_here (let f = front_is in let q = ap (λ (x : Installed). x.last.flushed) edit_here in omega (arith, f, q, flushed_low)) opened_listed from_opened whole_front);
  }

-- ---- the seat goes on

pub some_weaker : {X : Type 0} (o : Option X) (P Q : X → Type 0) → ((x : X) → P x → Q x) → IfSome o P → IfSome o Q
some_weaker None P Q gives k = tt
some_weaker (Some x) P Q gives k = gives x k

pub matched_some : {X : Type 0} (o : Option X) (x : X) (P : Type 0) (Q : X → Type 0) → o ≡ Some x → MatchOption o P Q → Q x
matched_some o x P Q is k = subst (λ y. MatchOption y P Q) is k

pub matched_none : {X : Type 0} (o : Option X) (P : Type 0) (Q : X → Type 0) → o ≡ None → MatchOption o P Q → P
matched_none o P Q is k = subst (λ y. MatchOption y P Q) is k

pub some_of : {X : Type 0} (o : Option X) (x : X) (Q : X → Type 0) → o ≡ Some x → IfSome o Q → Q x
some_of o x Q is k = subst (λ y. IfSome y Q) is k

-- where it is passed, or has another base, it is overtaken
pub or_other : {A B C : Type 0} → A ⊎ C → A ⊎ (B ⊎ C)
or_other (inl passed) = inl passed
or_other (inr other) = inr (inr other)

pub match_weaker : {X : Type 0} (o : Option X) (A B : Type 0) (P : X → Type 0) → (A → B) → MatchOption o A P → MatchOption o B P
match_weaker None A B P gives k = gives k
match_weaker (Some x) A B P gives k = k

-- what is live is known still
pub live_still : (s t : Actor) (floor : ℕ) (live : List Registration) → t.participant ≡ s.participant → ((fact : Fact) → guarded_by fact ≡ None → Noted s fact → Noted t fact) → KnowsLive s floor live → KnowsLive t floor live
live_still s t floor live same notes k = record {
  within = subst (λ (p : Participant). floor ≤ length p.seen) (sym same) k.within;
  registered = λ r there. (subst (λ (p : Participant). IsIn r p.registered) (sym same) (k.registered r there).0, (k.registered r there).1);
  listed = notes (live_listed floor (numbers_of live)) refl k.listed;
}

-- what was decided is known still
pub decided_still : (s t : Actor) (floor : Registration) (live : List Registration) (bases : Bases) (versions : List Version) (pairs : List Pair) → t.participant ≡ s.participant → ((fact : Fact) → guarded_by fact ≡ None → Noted s fact → Noted t fact)
    → HasDecided s floor live bases versions pairs → HasDecided t floor live bases versions pairs
decided_still s t floor live bases versions pairs same notes k = record {
  live_is = live_still s t floor.number live same notes k.live_is;
  low = subst (λ (p : Participant). AreLow p.seen floor.number live bases) (sym same) k.low;
  history = k.history;
  grown = subst (λ (p : Participant). StartsWith p.seen k.history) (sym same) k.grown;
  within = k.within;
  decided = k.decided;
}

-- the edit may be installed still
pub may_merge_still : (s t : Actor) (e : Installed) (floor : ℕ) (live : List Registration) (bases : Bases) → t.participant ≡ s.participant → ((fact : Fact) → Noted s fact → Noted t fact) → MayMerge s e floor live bases → MayMerge t e floor live bases
may_merge_still s t e floor live bases same notes k = let r = k.replace in record {
  replace = record {
    live_is = record {
      within = subst (λ (p : Participant). floor ≤ length p.seen) (sym same) r.live_is.within;
      registered = λ x there. (subst (λ (p : Participant). IsIn x p.registered) (sym same) (r.live_is.registered x there).0, (r.live_is.registered x there).1);
      listed = notes (live_listed floor (numbers_of live)) r.live_is.listed;
    };
    gone = notes nothing_flushed r.gone;
    store_floor = r.store_floor;
    named = notes (tables_stay e.last.versions r.store_floor) r.named;
    given_up = r.given_up;
    in_order = r.in_order;
    low = r.low;
  };
  numbered = k.numbered;
  based = k.based;
  low = k.low;
  live_from = k.live_from;
  legal = subst (λ (p : Participant). IsLegal p.seen) (sym same) k.legal;
  covered = subst (λ (p : Participant). IsEditCovered p.seen (after_compaction (take floor p.seen) (listed (numbers_of live) bases.opened e.last) e.last)) (sym same) k.covered;
  few = subst (λ (p : Participant). IsCompactionCount (take floor p.seen) bases.opened floor (length (retained (take floor p.seen) (listed (numbers_of live) bases.opened e.last) e.last))) (sym same) k.few;
}

-- ---- a look at the store

module _ {D : Type 0} {z : SharedState D} {s t u : SeatState} {e : VersionSetState} {before : StoreState} (holds : HoldsEdits z s e) (first : Taken z s t (store before)) (second : GoesOn no_fact t.knows.held t.turns (seeing u.knows.participant.seen t) u) where
  pub holds_seen : HoldsTurn z u (store before) (installed e.state ∷ []) (5 ∷ [])
  holds_seen = let h = holds_taken holds first in record {
    same_table = ap (λ (x : SeatState). x.table) second.same ∙ h.same_table;
    live = ap (λ (x : SeatState). x.knows.live) second.same ∙ h.live;
    held = ap (λ (x : SeatState). x.knows.held) second.same ∙ h.held;
    turns = ap (λ (x : SeatState). x.turns) second.same ∙ h.turns;
  }

  module _ {v : SeatState} (third : Given z store_turn u v (installed e.state ∷ []) (5 ∷ [])) where
    pub same_looked : v.knows.participant ≡ u.knows.participant
    same_looked = ap (λ (x : SeatState). x.knows.participant) third.goes.same

    pub looked : GoesOn no_fact (installed e.state ∷ []) (5 ∷ []) (seeing v.knows.participant.seen s) v
    looked =
        let h = u.knows.participant.seen in
        let one : GoesOn no_fact (store before ∷ s.knows.held) (3 ∷ s.turns) (seeing h s) (seeing h t) = record { same = ap (seeing h) first.goes.same; noted = λ fact other there. first.goes.noted fact other there } in
        let two = then no_fact (seeing h s) (seeing h t) u (store before ∷ s.knows.held) t.knows.held (3 ∷ s.turns) t.turns one second in
        let back : GoesOn no_fact (installed e.state ∷ []) (5 ∷ []) u v = wider (is_under store_turn) u v v no_fact (installed e.state ∷ []) (5 ∷ []) (λ fact other. none_under_store fact) third.goes in
        let three = then no_fact (seeing h s) u v t.knows.held (installed e.state ∷ []) t.turns (5 ∷ []) two back in
        subst (λ (p : Participant). GoesOn no_fact (installed e.state ∷ []) (5 ∷ []) (seeing p.seen s) v) (sym same_looked) three

    pub grown_looked : StartsWith u.knows.participant.seen t.knows.participant.seen → StartsWith v.knows.participant.seen s.knows.participant.seen
    grown_looked grown = subst (λ (x : Participant × Participant). StartsWith x.0.seen x.1.seen) (λ i. (sym same_looked i, ap (λ (x : SeatState). x.knows.participant) first.goes.same i)) grown

    pub found_looked : StartsWith u.knows.participant.seen t.knows.participant.seen → Finds z s v e.state
    found_looked grown =
        let same = looked.same in
        subst (λ (past : List Event). HeldTables z s v past e.state) (ap (λ (x : SeatState). x.knows.participant.past) same)
        (held_then z s v v (installed e.state) third.stands (ap (λ (x : SeatState). x.by) same, ap (λ (x : SeatState). x.knows.made) same, ap (λ (x : SeatState). x.knows.joined) same) (grown_looked grown) refl
        (subst (IsIn (installed e.state)) (sym (ap (λ (x : SeatState). x.knows.held) same)) (inl refl)))

    pub passed_looked : (floor base : ℕ) → IsPassedOr z t u floor base e.state → IsPassedOr z s v floor base e.state
    passed_looked floor base (inl k) =
        let same = first.goes.same in
        inl (passed_between z s t u v (ap (λ (x : SeatState). x.by) same, ap (λ (x : SeatState). x.knows.made) same, ap (λ (x : SeatState). x.knows.joined) same) (ap (λ (x : SeatState). x.knows.participant.past) same)
        (starts_equal s.knows.participant.seen t.knows.participant.seen (ap (λ (x : SeatState). x.knows.participant.seen) same)) (starts_equal u.knows.participant.seen v.knows.participant.seen (ap (λ (p : Participant). p.seen) same_looked)) floor e.state k)
    passed_looked floor base (inr other) = inr other

-- what was decided is known still by a seat that has seen more
pub decided_looked : (s u : SeatState) (held : List Content) (turns : List ℕ) → GoesOn no_fact held turns (seeing u.knows.participant.seen s) u → StartsWith u.knows.participant.seen s.knows.participant.seen
    → (floor : Registration) (live : List Registration) (bases : Bases) (versions : List Version) (pairs : List Pair) → HasDecided s.knows floor live bases versions pairs → HasDecided u.knows floor live bases versions pairs
decided_looked s u held turns goes grown floor live bases versions pairs k = record {
  live_is = live_later s.knows u.knows floor.number live k.live_is (ap (λ (x : SeatState). x.knows.participant) goes.same) grown (goes.noted (live_listed floor.number (numbers_of live)) refl k.live_is.listed);
  low = low_later s.knows.participant.seen u.knows.participant.seen floor.number live bases k.live_is.within grown k.low;
  history = k.history;
  grown = starts_on k.history s.knows.participant.seen u.knows.participant.seen k.grown grown;
  within = k.within;
  decided = k.decided;
}
