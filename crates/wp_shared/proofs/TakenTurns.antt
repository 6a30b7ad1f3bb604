-- A turn that is taken or given, as the state of its value.
use Rattle.std.proofs.Common.{◌≡◌, inl, inr, ℕ, suc, ◌<◌, ◌==◌, nat_lt, not, cond, true, false, List, [], ◌∷◌, ◌++◌, drop, eq-eqb, ne_eqb, ltb-true, refl, sym, ap, subst, ◌∙◌, Some, arith}
use Rattle.wp_model.specs.declared.entry.Entry.{Entry}
use Rattle.wp_core.specs.Changes.{turn_index, held_without, sees}
use Rattle.wp_core.specs.Conditions.{MayGive}
use Rattle.wp_core.specs.Lists.{IsIn}
use Rattle.wp_core.specs.Steps.{give_turn}
use Rattle.wp_core.specs.States.{Content, WriteState, writes, turn_of}
use Rattle.wp_core.specs.Turns.{Turn, write_turn, prepared_turn, snapshots_turn, store_turn, locks_turn, tables_turn, turn_holder}
use Rattle.wp_core.specs.Views.{Fact, words_stay}
use Rattle.wp_core.specs.World.{Actor, World, content_of}
use Rattle.wp_model.proofs.Tests.{both, same_some}
use Rattle.wp_rule.specs.Knows.{Noted, IsStateOf}
use Rattle.wp_rule.specs.Moves.{MayStep}
use Rattle.wp_rule.specs.Plays.{facts_at}
use Rattle.wp_rule.proofs.Knows.{at_sound, is_state}
use Rattle.wp_rule.proofs.Takes.{table_of}
use Rattle.wp_parts.specs.declared.turn_value.TurnValue.{TurnValue}
use Rattle.wp_parts.specs.Log.{LogState}
use Rattle.wp_parts.specs.Parts.{content, tells, log_first, IsGuardedBy}
use Rattle.wp_shared.specs.Notes.{is_under, seeing, SawHistory, GoesOn}
use Rattle.wp_shared.specs.Seats.{SharedState, SeatState, place_at}
use Rattle.wp_shared.specs.Turns.{turn_rank, comes_last, TookPart, MayGivePart, GavePart, HoldsTurn, KnowsToGive, Taken, TookLog, Given}
use Rattle.wp_shared.proofs.Goes.{goes_with, is_free}
use Rattle.wp_shared.proofs.Tables.{held_state, none_in, knows_taken, may_give}

in_front : {X : Type 0} (x : X) (xs ys : List X) → IsIn x xs → IsIn x (xs ++ ys)
in_front x [] ys there = absurd there
in_front x (y ∷ xs) ys (inl same) = inl same
in_front x (y ∷ xs) ys (inr there) = inr (in_front x xs ys there)

in_back : {X : Type 0} (x : X) (xs ys : List X) → IsIn x ys → IsIn x (xs ++ ys)
in_back x [] ys there = there
in_back x (y ∷ xs) ys there = inr (in_back x xs ys there)

-- ---- the order of turns

abbrev rank_at : ℕ → ℕ
rank_at n = cond (n == 5) 0 (suc n)

rank_is : (turn : Turn) → turn_rank turn ≡ rank_at (turn_index turn)
rank_is write_turn = refl
rank_is prepared_turn = refl
rank_is snapshots_turn = refl
rank_is store_turn = refl
rank_is locks_turn = refl
rank_is tables_turn = refl

-- a turn that comes before another one is not that one
before_other : (first second : Turn) → nat_lt (turn_rank first) (turn_rank second) ≡ true → (turn_index first == turn_index second) ≡ false
before_other first second before = ne_eqb (turn_index first) (turn_index second) (λ same.
    let ranks : turn_rank first ≡ turn_rank second = rank_is first ∙ ap rank_at same ∙ sym (rank_is second) in
    let below : turn_rank first < turn_rank second = ltb-true (turn_rank first) (turn_rank second) before in
    omega (arith, ranks, below))

-- a turn that comes behind all that are held is none of them
pub last_without : (turn : Turn) (held : List Content) → comes_last turn held ≡ true → held_without held turn ≡ held
last_without turn [] last = refl
last_without turn (first ∷ others) last =
    let parts = both (nat_lt (turn_rank (turn_of first)) (turn_rank turn)) (comes_last turn others) last in
    ap (λ b. cond (not b) (first ∷ held_without others turn) (held_without others turn)) (before_other (turn_of first) turn parts.0) ∙ ap (λ rest. first ∷ rest) (last_without turn others parts.1)

-- ---- a turn is taken

module _ {D : Type 0} (z : SharedState D) (turn : Turn) (old new : SeatState) (value : TurnValue D) (k : TookPart z turn old new value) where
  pub guarded : IsGuardedBy turn value
  guarded = (content_of k.world turn, k.is, table_of k.world turn)

  module _ (table : Content) (is : content value ≡ Some table) (same : (new.table ≡ old.table) × (new.by ≡ old.by) × (new.turns ≡ turn_index turn ∷ old.turns)) (can : (old.table ≡ z.table) × (old.knows.live ≡ true)) where
    abbrev w : World
    w = k.world

    here : content_of w turn ≡ table
    here = same_some (content_of w turn) table (sym k.is ∙ is)

    of_turn : turn ≡ turn_of table
    of_turn = sym (table_of w turn) ∙ ap turn_of here

    table_is : IsStateOf w table
    table_is = is_state w table (ap (content_of w) (sym of_turn) ∙ here)

    knows_is : new.knows ≡ record old.knows { held = table ∷ old.knows.held; notes = facts_at (turn_of table) w ++ old.knows.notes }
    knows_is = k.knows ∙ (λ i. record old.knows { held = here i ∷ old.knows.held; notes = facts_at (of_turn i) w ++ old.knows.notes })

    turns_are : new.turns ≡ turn_index (turn_of table) ∷ old.turns
    turns_are = same.2 ∙ ap (λ (u : Turn). turn_index u ∷ old.turns) of_turn

    pub taken : Taken z old new table
    taken = record {
      world = w;
      before = k.before;
      free = ap (turn_holder w.holders) (sym of_turn) ∙ k.free;
      is = table_is;
      seat = λ i. record { table = same.0 i; by = same.1 i; knows = knows_is i; turns = turns_are i };
      goes = record {
        same = goes_with old new (table ∷ old.knows.held) (turn_index (turn_of table) ∷ old.turns) (facts_at (turn_of table) w ++ old.knows.notes) same.0 same.1 turns_are knows_is;
        noted = λ fact other there. subst (λ (a : Actor). Noted a fact) (sym knows_is) (in_back fact (facts_at (turn_of table) w) old.knows.notes there);
      };
      holds = record { same_table = same.0 ∙ can.0; live = ap (λ (a : Actor). a.live) knows_is ∙ can.1; held = ap (λ (a : Actor). a.held) knows_is; turns = turns_are };
      knows = knows_taken w new.knows table (at_sound (place_at z old.by) old.knows w k.before) (subst (MayGive w) of_turn k.ready) table_is
          (λ fact there. subst (λ (a : Actor). Noted a fact) (sym knows_is) (in_front fact (facts_at (turn_of table) w) old.knows.notes there));
      stands = k.stands;
    }

-- the write turn is taken, and then the published number is loaded
module _ {D : Type 0} (z : SharedState D) (old s new : SeatState) (log : LogState) (k : Taken z old s (writes log.state)) (of_store : log_first z.first ≡ Some log.first) (saw : SawHistory z s new) where
  abbrev notes_then : List Fact
  notes_then = words_stay k.world.max_evicted k.world.cache ∷ old.knows.notes

  abbrev saw_as : List Entry → SeatState
  saw_as h = record old { knows = record (sees h old.knows) { held = writes log.state ∷ old.knows.held; notes = notes_then }; turns = 0 ∷ old.turns }

  now_is : new ≡ saw_as saw.history
  now_is = saw.seat ∙ ap (seeing saw.history) k.seat

  log_there : saw.world.writes ≡ log.state
  log_there = held_state (place_at z new.by) new.knows saw.world (writes log.state) saw.stands (subst (λ (x : SeatState). IsIn (writes log.state) x.knows.held) (sym now_is) (inl refl))

  all_seen : saw.history ≡ log.state.history
  all_seen = sym saw.is ∙ ap (λ (t : WriteState). t.history) log_there

  now_is_all : new ≡ saw_as log.state.history
  now_is_all = now_is ∙ ap saw_as all_seen

  -- the load changed what it has seen alone
  knew_before : s.knows.notes ≡ new.knows.notes
  knew_before = ap (λ (x : SeatState). x.knows.notes) k.seat ∙ sym (ap (λ (x : SeatState). x.knows.notes) now_is_all)

  pub took_log : TookLog z old new log
  took_log = record {
    found = k.world;
    before = k.before;
    free = k.free;
    found_is = k.is;
    seat = now_is_all;
    goes = record {
      same = now_is_all ∙ ap (λ (notes : List Fact). record (saw_as log.state.history) { knows = record (saw_as log.state.history).knows { notes = notes } }) (sym (ap (λ (x : SeatState). x.knows.notes) now_is_all));
      noted = λ fact other there. subst (λ (x : SeatState). Noted x.knows fact) (sym now_is_all) (inr there);
    };
    holds = record {
      same_table = ap (λ (x : SeatState). x.table) saw.seat ∙ k.holds.same_table;
      live = ap (λ (x : SeatState). x.knows.live) saw.seat ∙ k.holds.live;
      held = ap (λ (x : SeatState). x.knows.held) now_is_all;
      turns = ap (λ (x : SeatState). x.turns) now_is_all;
    };
    knows = (k.knows.0, record { bound = k.knows.1.bound; words = k.knows.1.words; noted = subst (IsIn (words_stay k.knows.1.bound k.knows.1.words)) knew_before k.knows.1.noted; are_published = k.knows.1.are_published });
    seen = ap (λ (x : SeatState). x.knows.participant.seen) now_is_all;
    grown = (saw.grown.0, sym all_seen ∙ saw.grown.1 ∙ ap (λ (x : SeatState). x.knows.participant.seen ++ saw.grown.0) k.seat);
    of_store = of_store;
    world = saw.world;
    stands = saw.stands;
    is = log_there;
  }

-- ---- a turn is given

-- without the first one a seat has the others that are of other turns
without_first : (table : Content) (others : List Content) (turn : Turn) → turn ≡ turn_of table → held_without (table ∷ others) turn ≡ held_without others turn
without_first table others turn of_turn = ap (λ b. cond (not b) (table ∷ held_without others turn) (held_without others turn)) (eq-eqb (turn_index (turn_of table)) (turn_index turn) (ap turn_index (sym of_turn)))

module _ {D : Type 0} (z : SharedState D) (turn : Turn) (old : SeatState) (table : Content) (of_turn : turn ≡ turn_of table) (others : List Content) (beneath : List ℕ) (h : HoldsTurn z old table others beneath) where
  taken_last : old.turns ≡ turn_index turn ∷ beneath
  taken_last = h.turns ∙ ap (λ (u : Turn). turn_index u ∷ beneath) (sym of_turn)

  pub may_give_part : (value : TurnValue D) → content value ≡ Some table → tells z.first value → KnowsToGive old.knows table → MayGivePart z turn old value
  may_give_part value is told known =
      let held : IsIn table old.knows.held = subst (IsIn table) (sym h.held) (inl refl) in record {
        state = table;
        is = is;
        of_turn = of_turn;
        told = told;
        held = held;
        others = beneath;
        last_taken = taken_last;
        may = subst (λ (u : Turn). MayStep (place_at z old.by) old.knows (give_turn u)) (sym of_turn) (may_give (place_at z old.by) old.knows table held (none_in value table is told.0) known);
      }

  module _ (new : SeatState) (k : GavePart z turn old new) where
    left : held_without old.knows.held turn ≡ held_without others turn
    left = ap (λ (held : List Content). held_without held turn) h.held ∙ without_first table others turn of_turn

    goes : GoesOn (is_under turn) (held_without others turn) beneath old new
    goes = record {
      same = goes_with old new (held_without others turn) beneath new.knows.notes k.same_table k.same_by (ap (drop 1) (sym k.turns ∙ taken_last))
          (k.knows ∙ ap (λ (held : List Content). record old.knows { held = held; notes = new.knows.notes }) left);
      noted = k.notes;
    }

    pub given : Given z turn old new others beneath
    given = record {
      goes = goes;
      free = λ none alone. is_free z (is_under turn) old new h.same_table h.live (subst (λ (x : List Content × List ℕ). GoesOn (is_under turn) x.0 x.1 old new) (λ i. (none i, alone i)) goes);
      stands = k.stands;
    }
