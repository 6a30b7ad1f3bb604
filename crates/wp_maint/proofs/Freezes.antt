-- What is frozen, and what the seat then knows of it.
use Rattle.std.proofs.Common.{◌≡◌, ◌<◌, inl, inr, ℕ, ◌≤◌, Bool, List, [], ◌∷◌, length, Option, Some, None, refl, sym, subst, ap, ◌∙◌, arith}
use Rattle.std.specs.Prelude.{Result, Ok, Err, IfOk}
use Rattle.wp_model.specs.declared.entry.Entry.{Entry}
use Rattle.wp_model.specs.declared.version.Version.{Version}
use Rattle.wp_model.specs.Flushed.{IsEditCovered, later_versions}
use Rattle.wp_model.specs.Legal.{IsLegal}
use Rattle.wp_merge.specs.Merge.{joined, sorted_of}
use Rattle.wp_merge.proofs.Sorted.{in_order_sorted}
use Rattle.wp_replies.specs.Tables.{unflushed, after_flush, after_renewal}
use Rattle.wp_core.specs.IsSound.{IsSound}
use Rattle.wp_core.specs.Lists.{IsIn}
use Rattle.wp_core.specs.Sound.Actors.{StartsWith}
use Rattle.wp_core.specs.States.{Content, WriteState, StoreState, Installed, writes, store, installed}
use Rattle.wp_core.specs.Turns.{write_turn, store_turn}
use Rattle.wp_core.specs.Views.{Fact, tables_stay, nothing_flushed, frozen_stay}
use Rattle.wp_core.specs.World.{Actor, World}
use Rattle.wp_rule.specs.Knows.{KnowsTables, Noted}
use Rattle.wp_rule.proofs.Knows.{at_sound, noted_is}
use Rattle.wp_rule.specs.Words.{IsAt}
use Rattle.wp_parts.specs.VersionSet.{VersionSetState}
use Rattle.wp_parts.specs.Log.{LogState}
use Rattle.wp_parts.specs.Stock.{StockState, store_state}
use Rattle.wp_shared.specs.Notes.{no_fact, is_under, noting, seeing, GoesOn}
use Rattle.wp_shared.specs.Seats.{SharedState, SeatState, Stands, place_at}
use Rattle.wp_shared.specs.Turns.{HoldsTurn, Taken, TookLog, Given}
use Rattle.wp_shared.proofs.Goes.{then, wider, none_too, none_under_store}
use Rattle.wp_shared.proofs.Onward.{holds_on, holds_next, holds_two}
use Rattle.wp_shared.proofs.Tables.{held_state}
use Rattle.wp_maint.specs.declared.frozen.Frozen.{Frozen}
use Rattle.wp_maint.specs.Flush.{versions_of, HasCopied, HasFrozen, Freezes}
use Rattle.wp_maint.specs.Calls.{NoneInMemory, SawWhole}
use Rattle.wp_maint.specs.Holding.{HoldsEdits}
use Rattle.wp_maint.proofs.Memory.{memory_is, all_numbered, all_flushed, count_is, rises, flush_covered, renewal_covered, none_in_memory, sorted_none}
use Rattle.wp_maint.proofs.Onward.{in_step_on}

module _ {D : Type 0} (z : SharedState D) (s : SeatState) (d : WriteState) (stock : StockState) (e : Installed) (held : s.knows.held ≡ store (store_state stock) ∷ writes d ∷ installed e ∷ [])
    (none : d.pending ≡ []) (seen : s.knows.participant.seen ≡ d.history) (in_step : KnowsTables s.knows e.last) (w : World) (stands : Stands z s w) where
  abbrev t : StoreState
  t = store_state stock

  sound : IsSound w
  sound = at_sound (place_at z s.by) s.knows w stands

  store_here : w.store ≡ t
  store_here = held_state (place_at z s.by) s.knows w (store t) stands (subst (IsIn (store t)) (sym held) (inl refl))

  writes_here : w.writes ≡ d
  writes_here = held_state (place_at z s.by) s.knows w (writes d) stands (subst (IsIn (writes d)) (sym held) (inr (inl refl)))

  installed_here : w.installed ≡ e
  installed_here = held_state (place_at z s.by) s.knows w (installed e) stands (subst (IsIn (installed e)) (sym held) (inr (inr (inl refl))))

  history_is : w.writes.history ≡ s.knows.participant.seen
  history_is = ap (λ (x : WriteState). x.history) writes_here ∙ sym seen

  pub seen_legal : IsLegal s.knows.participant.seen
  seen_legal = subst IsLegal history_is sound.history.legal

  pub seen_covered : IsEditCovered s.knows.participant.seen e.last
  seen_covered = subst (λ (x : List Entry × Installed). IsEditCovered x.0 x.1.last) (λ i. (history_is i, installed_here i)) sound.versions.last

  -- all in memory is what the history has above the flushed number
  pub frozen_is : t.memory ≡ sorted_of (unflushed s.knows.participant.seen e.last)
  frozen_is =
      memory_is w sound (ap (λ (x : WriteState). x.pending) writes_here ∙ none) (noted_is (place_at z s.by) s.knows w nothing_flushed stands in_step.0).is_so t.memory (in_order_sorted (joined (stock.parts.memory ∷ stock.parts.frozen))) (ap (λ (x : StoreState). x.memory) store_here)
      ∙ (λ i. sorted_of (later_versions (history_is i) (installed_here i).last.flushed))

  -- and the versions in tables are the last edit's
  pub tables_are : t.tables ≡ e.last.versions
  tables_are = ap (λ (x : StoreState). x.tables) (sym store_here) ∙ (noted_is (place_at z s.by) s.knows w (tables_stay e.last.versions in_step.1.0) stands in_step.1.1).is_so.0

  pub none_frozen : t.memory ≡ [] → Freezes s.knows e None
  none_frozen empty = none_in_memory s.knows.participant.seen seen_legal e.last seen_covered (sorted_none (unflushed s.knows.participant.seen e.last) (sym frozen_is ∙ empty))

  module _ (at : ℕ) (at_is : at ≡ length d.history) (f : Frozen) (k : HasCopied t at f) where
    at_seen : f.at ≡ length s.knows.participant.seen
    at_seen = k.at_is ∙ at_is ∙ ap (λ (h : List Entry). length h) (sym seen)

    versions_are : (versions_of f) ≡ sorted_of (unflushed s.knows.participant.seen e.last)
    versions_are = k.versions ∙ frozen_is

    later_some : 1 ≤ length (versions_of f) → e.last.flushed < f.at
    later_some some =
        let q = ap (λ (l : List Version). length l) versions_are in
        let r = rises s.knows.participant.seen seen_legal e.last seen_covered (omega (arith, some, q)) in omega (arith, r, at_seen)

    pub has_frozen : (u : SeatState) → u ≡ noting (frozen_stay f.at (versions_of f)) s → HasFrozen u.knows e f
    has_frozen u is = subst (λ (a : Actor). HasFrozen a e f) (sym (ap (λ (x : SeatState). x.knows) is)) (record {
      at = at_seen;
      versions = versions_are;
      count = ap (λ (l : List Version). length l) versions_are ∙ count_is s.knows.participant.seen seen_legal e.last seen_covered;
      numbered = rw versions_are (all_numbered s.knows.participant.seen seen_legal e.last seen_covered);
      flushed = rw (versions_are, at_seen) (all_flushed s.knows.participant.seen seen_legal e.last seen_covered);
      later = ((let fits = seen_covered.flushed in omega (arith, fits, at_seen)), later_some);
      tables = k.tables ∙ tables_are;
      room = k.room;
      covered = flush_covered s.knows.participant.seen seen_legal e.last seen_covered;
      covered_at = renewal_covered s.knows.participant.seen seen_legal e.last seen_covered;
      noted = inl refl;
    })

-- what is frozen is so still where the notes are there still
pub frozen_still : (a b : Actor) (e : Installed) (f : Frozen) → b.participant.seen ≡ a.participant.seen → (Noted a (frozen_stay f.at (versions_of f)) → Noted b (frozen_stay f.at (versions_of f))) → HasFrozen a e f → HasFrozen b e f
frozen_still a b e f same still k = record {
  at = k.at ∙ ap (λ (h : List Entry). length h) (sym same);
  versions = k.versions ∙ ap (λ (h : List Entry). sorted_of (unflushed h e.last)) (sym same);
  count = k.count ∙ ap (λ (h : List Entry). length (unflushed h e.last)) (sym same);
  numbered = k.numbered;
  flushed = k.flushed;
  later = k.later;
  tables = k.tables;
  room = k.room;
  covered = subst (λ (h : List Entry). IsEditCovered h (after_flush h e.last)) (sym same) k.covered;
  covered_at = λ place. subst (λ (h : List Entry). IsEditCovered h (after_renewal h place e.last)) (sym same) (k.covered_at place);
  noted = still k.noted;
}

-- ---- the turns are taken and given

module _ {D : Type 0} {z : SharedState D} {s0 s1 s2 : SeatState} {e : VersionSetState} {log : LogState} {t : StoreState} (holds : HoldsEdits z s0 e) (first : TookLog z s0 s1 log) (second : Taken z s1 s2 (store t)) where
  holds_log : HoldsTurn z s1 (writes log.state) (installed e.state ∷ []) (5 ∷ [])
  holds_log = record { same_table = first.holds.same_table; live = first.holds.live; held = first.holds.held ∙ ap (λ (l : List Content). writes log.state ∷ l) holds.turn.held; turns = first.holds.turns ∙ ap (λ (l : List ℕ). 0 ∷ l) holds.turn.turns }

  holds_stock : HoldsTurn z s2 (store t) (writes log.state ∷ installed e.state ∷ []) (0 ∷ 5 ∷ [])
  holds_stock = holds_two holds_log second

  seen_two : s2.knows.participant.seen ≡ log.state.history
  seen_two = ap (λ (x : SeatState). x.knows.participant.seen) second.goes.same ∙ first.seen

  pub in_step_two : KnowsTables s0.knows e.state.last → KnowsTables s2.knows e.state.last
  in_step_two k =
      in_step_on s1 s2 no_fact (store t ∷ s1.knows.held) (3 ∷ s1.turns) refl (λ versions floor. refl) second.goes e.state.last
      (in_step_on (seeing log.state.history s0) s1 no_fact (writes log.state ∷ s0.knows.held) (0 ∷ s0.turns) refl (λ versions floor. refl) first.goes e.state.last k)

  pub saw_whole : SawWhole z s0 log.state.history
  saw_whole = record {
    world = first.world;
    actor = s1.knows;
    there = subst (λ (b : ℕ). IsAt (place_at z b) s1.knows first.world) (ap (λ (x : SeatState). x.by) first.seat) first.stands;
    held = subst (λ (d : WriteState). IsIn (writes d) s1.knows.held) (sym first.is) (subst (IsIn (writes log.state)) (sym first.holds.held) (inl refl));
    history_is = ap (λ (d : WriteState). d.history) first.is;
    seen_is = first.seen;
    past_is = ap (λ (x : SeatState). x.knows.participant.past) first.seat;
    made = ap (λ (x : SeatState). x.knows.made) first.seat;
    joined = ap (λ (x : SeatState). x.knows.joined) first.seat;
  }

  -- the log is shown, and the versions are lent
  module _ {log1 : LogState} (shown : log1 ≡ log) where
    pub holds_lent : {t1 : StoreState} → t1 ≡ t → HoldsTurn z s2 (store t1) (writes log1.state ∷ installed e.state ∷ []) (0 ∷ 5 ∷ [])
    holds_lent lent = subst (λ (x : LogState × StoreState). HoldsTurn z s2 (store x.1) (writes x.0.state ∷ installed e.state ∷ []) (0 ∷ 5 ∷ [])) (λ i. ((sym shown) i, (sym lent) i)) holds_stock

    pub none_shown : log1.state.pending ≡ []
    none_shown = ap (λ (x : LogState). x.state.pending) shown ∙ first.knows.0

    pub seen_shown : s2.knows.participant.seen ≡ log1.state.history
    seen_shown = seen_two ∙ ap (λ (x : LogState). x.state.history) (sym shown)

  -- the versions that are given are those that were taken
  pub holds_given : {s3 : SeatState} → GoesOn no_fact s2.knows.held s2.turns s2 s3 → (left : StoreState) → left ≡ t → HoldsTurn z s3 (store left) (writes log.state ∷ installed e.state ∷ []) (0 ∷ 5 ∷ [])
  holds_given {s3 = s3} third left same = subst (λ (x : StoreState). HoldsTurn z s3 (store x) (writes log.state ∷ installed e.state ∷ []) (0 ∷ 5 ∷ [])) (sym same) (holds_on holds_stock third)

  module _ {s3 s4 : SeatState} (third : GoesOn no_fact s2.knows.held s2.turns s2 s3) (gave : Given z store_turn s3 s4 (writes log.state ∷ installed e.state ∷ []) (0 ∷ 5 ∷ [])) where
    pub holds_left : HoldsTurn z s4 (writes log.state) (installed e.state ∷ []) (5 ∷ [])
    holds_left = holds_next (holds_on holds_stock third) gave.goes

    module _ {s5 : SeatState} (last : Given z write_turn s4 s5 (installed e.state ∷ []) (5 ∷ [])) where
      abbrev test : Fact → Bool
      test = is_under write_turn

      whole : GoesOn test (installed e.state ∷ []) (5 ∷ []) (seeing log.state.history s0) s5
      whole =
          let base = seeing log.state.history s0 in let two = writes log.state ∷ installed e.state ∷ [] in
          let ab = then no_fact base s1 s2 (writes log.state ∷ s0.knows.held) (store t ∷ s1.knows.held) (0 ∷ s0.turns) (3 ∷ s1.turns) first.goes second.goes in
          let abc = then no_fact base s2 s3 (store t ∷ s1.knows.held) s2.knows.held (3 ∷ s1.turns) s2.turns ab third in
          let four : GoesOn test two (0 ∷ 5 ∷ []) s3 s4 = wider (is_under store_turn) s3 s4 s4 test two (0 ∷ 5 ∷ []) (λ fact other. none_under_store fact) gave.goes in
          let abcd = then test base s3 s4 s2.knows.held two s2.turns (0 ∷ 5 ∷ []) (wider no_fact base s3 s3 test s2.knows.held s2.turns (none_too test) abc) four in
          then test base s4 s5 two (installed e.state ∷ []) (0 ∷ 5 ∷ []) (5 ∷ []) abcd last.goes

      seen_five : s5.knows.participant.seen ≡ log.state.history
      seen_five = ap (λ (x : SeatState). x.knows.participant.seen) whole.same

      pub goes_five : GoesOn test (installed e.state ∷ []) (5 ∷ []) (seeing s5.knows.participant.seen s0) s5
      goes_five = subst (λ (h : List Entry). GoesOn test (installed e.state ∷ []) (5 ∷ []) (seeing h s0) s5) (sym seen_five) whole

      pub grown_five : StartsWith s5.knows.participant.seen s0.knows.participant.seen
      grown_five = subst (λ (h : List Entry). StartsWith h s0.knows.participant.seen) (sym seen_five) first.grown

      pub whole_five : SawWhole z s0 s5.knows.participant.seen
      whole_five = subst (SawWhole z s0) (sym seen_five) saw_whole

      seen_same : s3.knows.participant.seen ≡ s5.knows.participant.seen
      seen_same = sym (ap (λ (x : SeatState). x.knows.participant.seen) last.goes.same ∙ ap (λ (x : SeatState). x.knows.participant.seen) gave.goes.same)

      freezes_still : (frozen : Option Frozen) → Freezes s3.knows e.state frozen → Freezes s5.knows e.state frozen
      freezes_still (Some x) k = (frozen_still s3.knows s5.knows e.state x (sym seen_same) (λ noted. last.goes.noted (frozen_stay x.at (versions_of x)) refl (gave.goes.noted (frozen_stay x.at (versions_of x)) refl noted)) k.0, k.1)
      freezes_still None k = subst (λ (h : List Entry). NoneInMemory h e.state.last) seen_same k

      pub frozen_five : {E : Type 0} (result : Result (Option Frozen) E) → IfOk result (λ frozen. Freezes s3.knows e.state frozen) → IfOk result (λ frozen. Freezes s5.knows e.state frozen)
      frozen_five (Ok frozen) k = freezes_still frozen k
      frozen_five (Err why) k = tt
