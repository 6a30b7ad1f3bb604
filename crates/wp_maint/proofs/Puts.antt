-- The store turn is taken while the tables turn is held, the versions change, and it is given.
use Rattle.std.proofs.Common.{◌≡◌, inl, inr, ℕ, Bool, false, List, [], ◌∷◌, refl, sym, subst, ap}
use Rattle.wp_model.specs.declared.version.Version.{Version}
use Rattle.wp_core.specs.Lists.{IsIn}
use Rattle.wp_core.specs.States.{Content, WriteState, StoreState, Installed, writes, store, installed}
use Rattle.wp_core.specs.Turns.{store_turn}
use Rattle.wp_core.specs.Views.{Fact, tables_stay, nothing_flushed}
use Rattle.wp_rule.specs.Knows.{Noted, KnowsTables}
use Rattle.wp_parts.specs.VersionSet.{VersionSetState}
use Rattle.wp_shared.specs.Notes.{no_fact, is_under, GoesOn}
use Rattle.wp_shared.specs.Seats.{SharedState, SeatState}
use Rattle.wp_shared.specs.Turns.{comes_last, HoldsTurn, Taken, Given}
use Rattle.wp_shared.proofs.Goes.{then, wider, none_too, none_under_store}
use Rattle.wp_shared.proofs.Onward.{holds_on, holds_two, holds_as}
use Rattle.wp_shared.proofs.TakenTurns.{last_without}
use Rattle.wp_maint.specs.Holding.{is_of_tables, HoldsEdits, HoldsTables}

under_too : (fact : Fact) → is_of_tables fact ≡ false → is_under store_turn fact ≡ false
under_too fact other = none_under_store fact

module _ {D : Type 0} {z : SharedState D} {s t : SeatState} {e : Installed} {before : StoreState} (holds : HoldsTables z s e) (first : Taken z s t (store before)) where
  -- the versions that are lent are those that were taken
  pub holds_lent : {lent : StoreState} → lent ≡ before → HoldsTurn z t (store lent) s.knows.held s.turns
  holds_lent same = subst (λ (x : StoreState). HoldsTurn z t (store x) s.knows.held s.turns) (sym same) first.holds

  -- those that were shown are those that are given
  module _ {u : SeatState} {shown now : StoreState} (same : shown ≡ now) (second : GoesOn is_of_tables (store shown ∷ s.knows.held) t.turns t u) where
    pub holds_changed : HoldsTurn z u (store now) s.knows.held s.turns
    holds_changed = subst (λ (x : StoreState). HoldsTurn z u (store x) s.knows.held s.turns) same (holds_as first.holds second refl)

    module _ {v : SeatState} (third : Given z store_turn u v s.knows.held s.turns) where
      gave : GoesOn (is_under store_turn) s.knows.held s.turns u v
      gave = subst (λ (l : List Content). GoesOn (is_under store_turn) l s.turns u v) (last_without store_turn s.knows.held holds.order) third.goes

      pub put : GoesOn is_of_tables s.knows.held s.turns s v
      put =
          let one = wider no_fact s t t is_of_tables (store before ∷ s.knows.held) (3 ∷ s.turns) (none_too is_of_tables) first.goes in
          let two = then is_of_tables s t u (store before ∷ s.knows.held) (store shown ∷ s.knows.held) (3 ∷ s.turns) t.turns one second in
          then is_of_tables s u v (store shown ∷ s.knows.held) s.knows.held t.turns s.turns two (wider (is_under store_turn) u v v is_of_tables s.knows.held s.turns under_too gave)

      pub put_in_step : Noted u.knows nothing_flushed → Noted u.knows (tables_stay shown.tables shown.floor) → shown.tables ≡ e.last.versions → KnowsTables v.knows e.last
      put_in_step gone named is =
          (gave.noted nothing_flushed refl gone, (shown.floor, subst (λ (l : List Version). Noted v.knows (tables_stay l shown.floor)) is (gave.noted (tables_stay shown.tables shown.floor) refl named)))

-- what is held beside it is said otherwise
pub beside_held : {t u : SeatState} {test : Fact → Bool} {first : Content} {held others : List Content} {turns : List ℕ} → held ≡ others → GoesOn test (first ∷ others) turns t u → GoesOn test (first ∷ held) turns t u
beside_held {t = t} {u = u} {test = test} {first = first} {turns = turns} is goes = subst (λ (l : List Content). GoesOn test (first ∷ l) turns t u) (sym is) goes

pub holds_taken : {D : Type 0} {z : SharedState D} {s t : SeatState} {e : VersionSetState} {before : StoreState} → HoldsEdits z s e → Taken z s t (store before) → HoldsTurn z t (store before) (installed e.state ∷ []) (5 ∷ [])
holds_taken holds first = holds_two holds.turn first

-- the tables turn is held alone, or beneath the write turn
pub tables_alone : {D : Type 0} {z : SharedState D} {s : SeatState} {e : VersionSetState} → HoldsEdits z s e → HoldsTables z s e.state
tables_alone {e = e} h = record {
  same_table = h.turn.same_table;
  live = h.turn.live;
  tables = subst (IsIn (installed e.state)) (sym h.turn.held) (inl refl);
  order = ap (comes_last store_turn) h.turn.held;
}

pub tables_beneath : {D : Type 0} {z : SharedState D} {s : SeatState} {d : WriteState} {e : Installed} → HoldsTurn z s (writes d) (installed e ∷ []) (5 ∷ []) → HoldsTables z s e
tables_beneath {d = d} {e = e} h = record {
  same_table = h.same_table;
  live = h.live;
  tables = subst (IsIn (installed e)) (sym h.held) (inr (inl refl));
  order = ap (comes_last store_turn) h.held;
}

-- ---- the write turn is held too

module _ {D : Type 0} {z : SharedState D} {s t : SeatState} {d : WriteState} {e : Installed} {before : StoreState} (holds : HoldsTurn z s (writes d) (installed e ∷ []) (5 ∷ [])) (first : Taken z s t (store before)) where
  pub both_lent : {lent : StoreState} → lent ≡ before → HoldsTurn z t (store lent) (writes d ∷ installed e ∷ []) (0 ∷ 5 ∷ [])
  both_lent same = subst (λ (x : StoreState). HoldsTurn z t (store x) (writes d ∷ installed e ∷ []) (0 ∷ 5 ∷ [])) (sym same) (holds_two holds first)

  -- the versions that are given are those that were taken
  pub both_left : {u : SeatState} {left : StoreState} → GoesOn no_fact t.knows.held t.turns t u → left ≡ before → HoldsTurn z u (store left) (writes d ∷ installed e ∷ []) (0 ∷ 5 ∷ [])
  both_left {u = u} second same = subst (λ (x : StoreState). HoldsTurn z u (store x) (writes d ∷ installed e ∷ []) (0 ∷ 5 ∷ [])) (sym same) (holds_on (holds_two holds first) second)

  -- what was frozen in between is known behind
  module _ {u v : SeatState} (second : GoesOn no_fact t.knows.held t.turns t u) (third : Given z store_turn u v (writes d ∷ installed e ∷ []) (0 ∷ 5 ∷ [])) where
    pub both_given : GoesOn no_fact s.knows.held s.turns s v
    both_given =
        let two = then no_fact s t u (store before ∷ s.knows.held) t.knows.held (3 ∷ s.turns) t.turns first.goes second in
        let all = then no_fact s u v t.knows.held (writes d ∷ installed e ∷ []) t.turns (0 ∷ 5 ∷ []) two (wider (is_under store_turn) u v v no_fact (writes d ∷ installed e ∷ []) (0 ∷ 5 ∷ []) (λ fact other. none_under_store fact) third.goes) in
        subst (λ (x : List Content × List ℕ). GoesOn no_fact x.0 x.1 s v) (λ i. (sym holds.held i, sym holds.turns i)) all
