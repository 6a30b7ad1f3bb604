-- A turn that is taken or given, with what lies in its slot, as clauses see the store and the seat.
use Rattle.std.proofs.Common.{◌≡◌, inr, ℕ, false, List, [], ◌∷◌, length, refl, sym, ap, subst, ◌∙◌}
use Rattle.atomic_table.specs.Table.{Me, rest}
use Rattle.wp_model.specs.declared.entry.Entry.{Entry}
use Rattle.wp_core.specs.Lists.{IsIn}
use Rattle.wp_core.specs.Turns.{Turn}
use Rattle.wp_core.specs.Views.{Fact, passed, in_old_commits, apart, words_stay, has_left, versions_in_memory, versions_nowhere, number_in_heap, number_not_in_heap, pair_delayed, pair_not_delayed, none_waits, undecided_at, prior_values, unprepared, direct_free, unchanged, locks_stay, tables_stay, live_listed, nothing_flushed, frozen_stay, delayed_flag_stays, old_flag_stays}
use Rattle.wp_core.specs.World.{Actor, content_of}
use Rattle.wp_core.specs.Changes.{turn_index, held_without}
use Rattle.wp_core.specs.Notes.{ends}
use Rattle.wp_core.specs.Steps.{give_turn}
use Rattle.wp_rule.specs.Words.{Place, IsAt}
use Rattle.wp_rule.specs.Moves.{MayStep, Moved, world_after}
use Rattle.wp_rule.specs.Shows.{IsPart}
use Rattle.wp_rule.specs.Plays.{taking, with_turn, Claimed, MayLie, MayUnclaim, IsLeft}
use Rattle.wp_rule.specs.Knows.{Noted}
use Rattle.wp_rule.proofs.Outlasting.{outlasts}
use Rattle.wp_parts.specs.declared.turn_value.TurnValue.{TurnValue}
use Rattle.wp_parts.specs.declared.turn_value.TurnValue.TheVariants as part
use Rattle.wp_parts.specs.Parts.{content, tells}
use Rattle.wp_shared.specs.Notes.{is_under}
use Rattle.wp_shared.specs.Seats.{SharedState, SeatState, AllAway, turns_of, place_at}
use Rattle.wp_shared.specs.Turns.{TookPart, MayGivePart, GavePart}

-- ---- the slots of the turns that are held

abbrev last_or : {D : Type 0} → TurnValue D → List (ℕ × TurnValue D) → TurnValue D
last_or x [] = x
last_or x (c ∷ cs) = c.1

pub away_carried : {D : Type 0} (cs : List (ℕ × TurnValue D)) (k : ℕ) (others : List ℕ) → AllAway cs → turns_of cs ≡ k ∷ others → cs ≡ (k, part.Away) ∷ rest cs
away_carried [] k others away e = absurd cc
away_carried (c ∷ cs) k others away e = let here : c.0 ≡ k = cc in λ i. (here i, away.0 i) ∷ cs

-- the one given was taken last
pub turns_left : {D : Type 0} (cs ds ms : List (ℕ × TurnValue D)) (k : ℕ) (x y : TurnValue D) → cs ≡ (k, x) ∷ rest cs → ms ≡ (k, y) ∷ rest cs → ds ≡ rest ms → turns_of cs ≡ k ∷ turns_of ds
turns_left cs ds ms k x y last home left = ap turns_of last ∙ ap (λ t. k ∷ turns_of t) (sym (left ∙ ap rest home))

-- ---- a turn is taken

module _ {D : Type 0} (turn : Turn) (m m' : Me (TurnValue D) Actor) where
  -- the seat has the turn's slot too, in which another value stands in
  pub still_sits : (first : List (TurnValue D)) (p : Place) (n : Me (TurnValue D) Actor) (client : List ℕ) → Claimed content (tells first) p turn m m' → n ≡ (m'.0, (turn_index turn, part.Away) ∷ rest m'.1)
      → AllAway m.1 × (client ≡ m.0.participant.client) → AllAway n.1 × (client ≡ n.0.participant.client)
  still_sits first p n client c home sat =
      let others : rest m'.1 ≡ m.1 = ap (λ (x : Me (TurnValue D) Actor). rest x.1) c.after in (
        subst AllAway (sym (ap (λ (x : Me (TurnValue D) Actor). x.1) home)) (refl, subst AllAway (sym others) sat.0),
        sat.1 ∙ sym (ap (λ (x : Me (TurnValue D) Actor). x.0.participant.client) home ∙ ap (λ (x : Me (TurnValue D) Actor). x.0.participant.client) c.after),
      )

  took_at : (z : SharedState D) (old new : SeatState) (value : TurnValue D) → Claimed content (tells z.first) (place_at z old.by) turn m m' → m.0 ≡ old.knows → m'.0 ≡ new.knows → old.by ≡ new.by
      → m'.1 ≡ (turn_index turn, value) ∷ rest m'.1 → TookPart z turn old new value
  took_at z old new value c was is by lies =
      let w = c.moved.world in
      let same : c.value ≡ value = ap (last_or c.value) (sym (ap (λ (x : Me (TurnValue D) Actor). x.1) c.after) ∙ lies) in
      let here : IsPart content (tells z.first) value (content_of w turn) = subst (λ (x : TurnValue D). IsPart content (tells z.first) x (content_of w turn)) same c.moved.so_is.1 in
      record {
        world = w;
        before = subst (λ (a : Actor). IsAt (place_at z old.by) a w) was c.moved.before;
        free = c.moved.so_is.0;
        is = here.0;
        told = here.1;
        ready = c.moved.so_is.2;
        knows = sym is ∙ (ap (λ (x : Me (TurnValue D) Actor). x.0) c.after ∙ ap (with_turn turn w) was);
        stands = (
          world_after (taking turn w) w old.by m.0,
          subst (λ (x : ℕ × Actor). IsAt (place_at z x.0) x.1 (world_after (taking turn w) w old.by m.0)) (λ i. (by i, is i)) c.moved.after,
        );
      }

  pub took : (y z : SharedState D) (k : ℕ) (old new : SeatState) (value : TurnValue D) → y ≡ z → k ≡ old.by → Claimed content (tells y.first) (place_at y k) turn m m' → m.0 ≡ old.knows → m'.0 ≡ new.knows
      → new.by ≡ old.by → m'.1 ≡ (turn_index turn, value) ∷ rest m'.1 → TookPart z turn old new value
  took y z k old new value store same c was is by lies =
      took_at z old new value (subst (λ (x : SharedState D × ℕ). Claimed content (tells x.0.first) (place_at x.0 x.1) turn m m') (λ i. (store i, same i)) c) was is (sym by) lies

-- ---- a turn is given

-- giving a turn ends what the turn guards alone
give_ends : (history : List Entry) (words : ℕ) (turn : Turn) (fact : Fact) → is_under turn fact ≡ false → ends history words (give_turn turn) fact ≡ false
give_ends history words turn (passed place pair) e = rw e refl
give_ends history words turn (in_old_commits place pair) e = rw e refl
give_ends history words turn (apart place pair) e = rw e refl
give_ends history words turn (words_stay max cache) e = rw e refl
give_ends history words turn (has_left p) e = refl
give_ends history words turn versions_in_memory e = rw e refl
give_ends history words turn versions_nowhere e = rw e refl
give_ends history words turn number_in_heap e = rw e refl
give_ends history words turn number_not_in_heap e = rw e refl
give_ends history words turn pair_delayed e = rw e refl
give_ends history words turn pair_not_delayed e = rw e refl
give_ends history words turn none_waits e = rw e refl
give_ends history words turn (undecided_at name p) e = refl
give_ends history words turn (prior_values name p batch) e = refl
give_ends history words turn (unprepared name) e = refl
give_ends history words turn (direct_free key) e = refl
give_ends history words turn (unchanged name key n) e = refl
give_ends history words turn (locks_stay name p keys) e = refl
give_ends history words turn (tables_stay versions floor) e = rw e refl
give_ends history words turn (live_listed floor listed) e = refl
give_ends history words turn nothing_flushed e = rw e refl
give_ends history words turn (frozen_stay n versions) e = rw e refl
give_ends history words turn (delayed_flag_stays value) e = rw e refl
give_ends history words turn (old_flag_stays value) e = rw e refl

module _ {D : Type 0} (z : SharedState D) (s : SeatState) (value : TurnValue D) (turn : Turn) (h : MayGivePart z turn s value) where
  pub carried : (cs : List (ℕ × TurnValue D)) → AllAway cs → turns_of cs ≡ s.turns → cs ≡ (turn_index turn, part.Away) ∷ rest cs
  carried cs away t = away_carried cs (turn_index turn) h.others away (t ∙ h.last_taken)

  -- the value is the turn's state as the seat left it
  is_left : (a : Actor) → a ≡ s.knows → IsLeft content (tells z.first) turn a value
  is_left a same = record { state = h.state; held = subst (λ (x : Actor). IsIn h.state x.held) (sym same) h.held; of_turn = sym h.of_turn; is_part = (h.is, h.told) }

  pub may_lie : (y : SharedState D) (a : Actor) → y ≡ z → a ≡ s.knows → MayLie content (tells y.first) turn a value
  may_lie y a store same = subst (λ (x : SharedState D). MayLie content (tells x.first) turn a value) (sym store) (inr (is_left a same))

  may_unclaim_at : (by : ℕ) (m : Me (TurnValue D) Actor) (a : Actor) (cs : List (ℕ × TurnValue D)) → by ≡ s.by → a ≡ s.knows → m ≡ (a, (turn_index turn, value) ∷ cs) → MayUnclaim content (tells z.first) (place_at z by) turn m
  may_unclaim_at by m a cs same knows e =
      let out : m.1 ≡ (turn_index turn, value) ∷ cs = ap (λ (x : Me (TurnValue D) Actor). x.1) e in let knew : m.0 ≡ s.knows = ap (λ (x : Me (TurnValue D) Actor). x.0) e ∙ knows in
      record {
        value = value;
        last_taken = out ∙ ap (λ (x : List (ℕ × TurnValue D)). (turn_index turn, value) ∷ x) (sym (ap rest out));
        left = is_left m.0 knew;
        may = subst (λ (x : ℕ × Actor). MayStep (place_at z x.0) x.1 (give_turn turn)) (λ i. (sym same i, sym knew i)) h.may;
      }

  pub may_unclaim : (y : SharedState D) (by : ℕ) (m : Me (TurnValue D) Actor) (a : Actor) (cs : List (ℕ × TurnValue D)) → y ≡ z → by ≡ s.by → a ≡ s.knows → m ≡ (a, (turn_index turn, value) ∷ cs)
      → MayUnclaim content (tells y.first) (place_at y by) turn m
  may_unclaim y by m a cs store same knows e = subst (λ (x : SharedState D). MayUnclaim content (tells x.first) (place_at x by) turn m) (sym store) (may_unclaim_at by m a cs same knows e)

  pub gave : (y : SharedState D) (by : ℕ) (a : Actor) (new : SeatState) → y ≡ z → by ≡ s.by → a ≡ s.knows → new.table ≡ s.table → new.by ≡ s.by → s.turns ≡ turn_index turn ∷ new.turns
      → Moved (place_at y by) (λ w. give_turn turn ∷ []) (λ w. Unit {0}) a new.knows → GavePart z turn s new
  gave y by a new store same knows table_same by_same turns m =
      let n : Moved (place_at z s.by) (λ w. give_turn turn ∷ []) (λ w. Unit {0}) s.knows new.knows =
      subst (λ (x : SharedState D × ℕ × Actor). Moved (place_at x.0 x.1) (λ w. give_turn turn ∷ []) (λ w. Unit {0}) x.2 new.knows) (λ i. (store i, same i, knows i)) m in
      record {
        same_table = table_same;
        same_by = by_same;
        turns = turns;
        knows = n.actor ∙ ap (λ (notes : List Fact). record s.knows { held = held_without s.knows.held turn; notes = notes }) (sym (ap (λ (x : Actor). x.notes) n.actor));
        notes = λ fact stays there.
            subst (λ (x : Actor). Noted x fact) (sym n.actor) (outlasts fact (give_turn turn ∷ []) n.world s.by s.knows there ((λ x. x), give_ends n.world.writes.history (length n.world.cache) turn fact stays, tt));
        stands = (
          world_after (give_turn turn ∷ []) n.world s.by s.knows,
          subst (λ (k : ℕ). IsAt (place_at z k) new.knows (world_after (give_turn turn ∷ []) n.world s.by s.knows)) (sym by_same) n.after,
        );
      }
