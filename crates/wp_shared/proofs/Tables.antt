-- The state of a turn in a world, and what a seat knows of it.
use Rattle.std.proofs.Common.{◌≡◌, ◌⊎◌, inl, inr, ℕ, ◌≤◌, List, [], length, slice_index, refl, sym, subst, ap, ◌∙◌, Some, None, Bool, true, false, true≢false, ◌/◌, ◌%◌, ◌*◌, ◌+◌, arith}
use Rattle.std.proofs.lemmas.Bool.{cases_lt}
use Rattle.std.proofs.Math.Nat.{mod-le}
use Rattle.std.proofs.lemmas.List.{get_or_past}
use Rattle.wp_judge.specs.Words.{pair_of, CommitPair, is_pair, delta_bound}
use Rattle.wp_model.specs.Decision.{decision_of}
use Rattle.wp_model.specs.PreparedSets.{NoneDelayed}
use Rattle.wp_model.specs.Snapshots.{NoOldCommits}
use Rattle.wp_model.specs.declared.entry.Entry.{Entry}
use Rattle.wp_model.specs.declared.segment.Segment.{Segment}
use Rattle.wp_model.specs.declared.version.Version.{Version}
use Rattle.wp_core.specs.Conditions.{MayGive, NoneNext}
use Rattle.wp_core.specs.Entries.{extended}
use Rattle.wp_core.specs.IsSound.{IsSound}
use Rattle.wp_core.specs.Lists.{IsIn}
use Rattle.wp_core.specs.Steps.{give_turn}
use Rattle.wp_core.specs.States.{Content, WriteState, Installed, writes, prepared, snapshots, store, locks, installed, turn_of}
use Rattle.wp_core.specs.Views.{Fact, words_stay, tables_stay, nothing_flushed, delayed_flag_stays, old_flag_stays}
use Rattle.wp_core.specs.World.{Actor, World}
use Rattle.wp_core.proofs.HistoryLaws.{decision_within}
use Rattle.wp_model.proofs.Tests.{none_some, some_none, same_some}
use Rattle.wp_rule.specs.Knows.{Noted, IsStateOf}
use Rattle.wp_rule.specs.Moves.{MayStep}
use Rattle.wp_rule.specs.Plays.{facts_at}
use Rattle.wp_rule.specs.Words.{Place, IsAt}
use Rattle.wp_rule.proofs.Knows.{is_state, held_is}
use Rattle.wp_rule.proofs.Needed.{needed}
use Rattle.wp_parts.specs.Parts.{content, Tells}
use Rattle.wp_parts.specs.Stock.{store_state}
use Rattle.wp_parts.specs.declared.turn_value.TurnValue.{TurnValue}
use Rattle.wp_parts.specs.declared.turn_value.TurnValue.TheVariants as part
use Rattle.wp_shared.specs.Notes.{ArePublished}
use Rattle.wp_shared.specs.Turns.{KnowsTaken, KnowsToGive}
use Rattle.wp_judge.proofs.Packing.{pair_parts, with_test}

-- ---- where the log is

-- it is in the segment that the last edit names, where none waits beside it
pub in_place : (t : WriteState) (last : Segment) → (last ≡ t.segment) ⊎ ((t.next ≡ Some last) × (t.closed ≡ false)) → NoneNext t → last ≡ t.segment
in_place t last (inl same) free = same
in_place t last (inr waits) (inl none) = absurd (none_some t.next last none waits.0)
in_place t last (inr waits) (inr closed) = absurd (true≢false (sym closed ∙ waits.1))

-- ---- which state it is

-- a state that the seat holds is the world's
pub held_state : (p : Place) (a : Actor) (w : World) (table : Content) → IsAt p a w → IsIn table a.held → IsStateOf w table
held_state p a w table k held = is_state w table (held_is p a w table k held).1

-- ---- words of a world in which nothing is pending

-- the empty word is no pair
empty_is_none : (words place : ℕ) (found : CommitPair) → pair_of words place 0 ≡ Some found → ⊥
empty_is_none words place found at = by_test (is_pair (0 / delta_bound words * words + place) (0 % delta_bound words)) refl
  where
    by_test : (b : Bool) → is_pair (0 / delta_bound words * words + place) (0 % delta_bound words) ≡ b → ⊥
    by_test true is = let some = (pair_parts (0 / delta_bound words * words + place) (0 % delta_bound words) is).1 in let low = mod-le 0 (delta_bound words) in absurd (omega (arith, some, low))
    by_test false is = some_none found (sym at ∙ with_test (0 / delta_bound words * words + place) (0 % delta_bound words) false is)

pub world_published : (w : World) → IsSound w → w.writes.pending ≡ [] → ArePublished (length w.writes.history) w.cache
world_published w s none place found at =
    elim (cases_lt place (length w.cache)) [
      | inl within ↦
          let known = s.cache.pairs place found within at in
          decision_within w.writes.history found.number found.decision (subst (λ (e : List Entry). decision_of (extended w.writes.history e) found.number ≡ Some found.decision) none known.decided)
      | inr past ↦ let empty : slice_index w.cache place ≡ 0 = get_or_past w.cache place _ past in absurd (empty_is_none (length w.cache) place found (ap (pair_of (length w.cache) place) (sym empty) ∙ at))
    ]

-- ---- what the values say

-- no segment waits beside the log in use
abbrev pub NoneWaits : Content → Type 0
NoneWaits (writes t) = NoneNext t
NoneWaits other = Unit {0}

pub none_in : {D : Type 0} (x : TurnValue D) (c : Content) → content x ≡ Some c → Tells x → NoneWaits c
none_in part.Away c is told = let q : None ≡ Some c = is in absurd (cc)
none_in (part.Write log) c is told = subst NoneWaits (same_some (writes log.value.state) c is) told.1
none_in (part.Prepared t) c is told = subst NoneWaits (same_some (prepared t.value) c is) tt
none_in (part.Snapshots m) c is told = subst NoneWaits (same_some (snapshots m.value) c is) tt
none_in (part.Store t) c is told = subst NoneWaits (same_some (store (store_state t.value)) c is) tt
none_in (part.Locks t) c is told = subst NoneWaits (same_some (locks t.value) c is) tt
none_in (part.Tables e) c is told = subst NoneWaits (same_some (installed e.value.state) c is) tt

-- ---- what is known of it

-- once it is taken
pub knows_taken : (w : World) (a : Actor) (table : Content) → IsSound w → MayGive w (turn_of table) → IsStateOf w table → ((fact : Fact) → IsIn fact (facts_at (turn_of table) w) → Noted a fact) → KnowsTaken a table
knows_taken w a (writes t) s may is noted = (
  ap (λ (d : WriteState). d.pending) (sym is) ∙ may.0,
  record {
    bound = w.max_evicted;
    words = w.cache;
    noted = noted (words_stay w.max_evicted w.cache) (inl refl);
    are_published = λ place pair there. subst (λ (d : WriteState). pair.decision ≤ length d.history) is (world_published w s may.0 place pair there);
  },
)
knows_taken w a (prepared t) s may is noted = record {
  value = w.delayed_flag;
  noted = noted (delayed_flag_stays w.delayed_flag) (inl refl);
  empty = λ e. subst NoneDelayed is (s.flags.none_delayed e);
  down = λ none. may (subst NoneDelayed (sym is) none);
}
knows_taken w a (snapshots m) s may is noted = record {
  value = w.old_flag;
  noted = noted (old_flag_stays w.old_flag) (inl refl);
  empty = λ e. subst NoOldCommits is (s.flags.none_kept e);
  down = λ none. may (subst NoOldCommits (sym is) none);
}
knows_taken w a (store t) s may is noted = tt
knows_taken w a (locks t) s may is noted = tt
knows_taken w a (installed d) s may is noted = (
  noted nothing_flushed (inl refl),
  (w.store.floor, subst (λ (versions : List Version). Noted a (tables_stay versions w.store.floor)) (may.1 ∙ ap (λ (e : Installed). e.last.versions) is) (noted (tables_stay w.store.tables w.store.floor) (inr (inl refl)))),
)

-- that is enough to give it again
pub knows_to_give : (a : Actor) (table : Content) → KnowsTaken a table → KnowsToGive a table
knows_to_give a (writes t) k = k.0
knows_to_give a (prepared t) k = λ none. subst (λ (n : ℕ). Noted a (delayed_flag_stays n)) (k.down none) k.noted
knows_to_give a (snapshots m) k = λ none. subst (λ (n : ℕ). Noted a (old_flag_stays n)) (k.down none) k.noted
knows_to_give a (store t) k = tt
knows_to_give a (locks t) k = tt
knows_to_give a (installed d) k = k

-- the turn may be given then, where no segment of the log waits
pub may_give : (p : Place) (a : Actor) (table : Content) → IsIn table a.held → NoneWaits table → KnowsToGive a table → MayStep p a (give_turn (turn_of table))
may_give p a (writes t) held none known w k = needed p a w k (give_turn (turn_of (writes t))) (record { state = t; held = held; so_is = (known, none) })
may_give p a (prepared t) held none known w k = needed p a w k (give_turn (turn_of (prepared t))) (record { state = t; held = held; so_is = known })
may_give p a (snapshots m) held none known w k = needed p a w k (give_turn (turn_of (snapshots m))) (record { state = m; held = held; so_is = known })
may_give p a (store t) held none known w k = needed p a w k (give_turn (turn_of (store t))) (record { state = t; held = held; so_is = tt })
may_give p a (locks t) held none known w k = needed p a w k (give_turn (turn_of (locks t))) (record { state = t; held = held; so_is = tt })
may_give p a (installed d) held none known w k = needed p a w k (give_turn (turn_of (installed d))) (record { state = d; held = held; so_is = known })
