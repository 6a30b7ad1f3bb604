-- Which facts outlast a stage, and stages one after another.
use Rattle.std.proofs.Common.{◌≡◌, ℕ, Bool, true, false, true≢false, ◌||◌, List, refl, ap, subst, ◌∙◌, None, is_some}
use Rattle.wp_model.specs.declared.entry.Entry.{Entry}
use Rattle.wp_core.specs.Cache.{cache_place}
use Rattle.wp_core.specs.Sound.Views.{guarded_by}
use Rattle.wp_core.specs.States.{Content}
use Rattle.wp_core.specs.Views.{Fact, passed, in_old_commits, apart, words_stay, versions_in_memory, versions_nowhere, number_in_heap, number_not_in_heap, pair_delayed, pair_not_delayed, none_waits, delayed_flag_stays, old_flag_stays}
use Rattle.wp_shared.specs.Seats.{SeatState}
use Rattle.wp_commits.specs.declared.way.Way.{Way}
use Rattle.wp_commits.specs.declared.way.Way.TheVariants.{Undecided, InWord, Delayed}
use Rattle.wp_shared.specs.Notes.{is_ended_by, is_flag, GoesOn, is_under}
use Rattle.wp_shared.proofs.Goes.{none_under_store}
use Rattle.wp_commits.proofs.Clears.{flag_under_prepared}
use Rattle.wp_core.specs.Turns.{prepared_turn, store_turn}
use Rattle.wp_commits.specs.Notes.{is_of_words, is_of_delayed, is_of_place}
use Rattle.wp_commits.specs.Ways.{is_of_way}
use Rattle.wp_records.specs.Stages.{is_of_versions, is_of_heap, is_of_number, is_of_pair, is_of_pending, is_of_stage, is_guarded, is_over, may_end}

-- ---- what no turn guards is in none of the tests

pub not_words : (fact : Fact) → is_guarded fact ≡ false → is_of_words fact ≡ false
not_words (words_stay bound words) e = absurd (true≢false e)
not_words (delayed_flag_stays value) e = absurd (true≢false e)
not_words (old_flag_stays value) e = absurd (true≢false e)
not_words none_waits e = absurd (true≢false e)
not_words other e = refl

pub not_versions : (fact : Fact) → is_guarded fact ≡ false → is_of_versions fact ≡ false
not_versions versions_in_memory e = absurd (true≢false e)
not_versions versions_nowhere e = absurd (true≢false e)
not_versions other e = refl

pub not_number : (fact : Fact) → is_guarded fact ≡ false → is_of_number fact ≡ false
not_number number_in_heap e = absurd (true≢false e)
not_number number_not_in_heap e = absurd (true≢false e)
not_number (delayed_flag_stays value) e = absurd (true≢false e)
not_number (old_flag_stays value) e = absurd (true≢false e)
not_number other e = refl

pub not_pending : (fact : Fact) → is_guarded fact ≡ false → is_of_pending fact ≡ false
not_pending versions_in_memory e = absurd (true≢false e)
not_pending versions_nowhere e = absurd (true≢false e)
not_pending number_in_heap e = absurd (true≢false e)
not_pending number_not_in_heap e = absurd (true≢false e)
not_pending pair_delayed e = absurd (true≢false e)
not_pending pair_not_delayed e = absurd (true≢false e)
not_pending none_waits e = absurd (true≢false e)
not_pending other e = refl

not_place : (place : ℕ) (fact : Fact) → is_guarded fact ≡ false → is_of_place place fact ≡ false
not_place place (passed i pair) e = absurd (true≢false e)
not_place place (in_old_commits i pair) e = absurd (true≢false e)
not_place place (apart i pair) e = absurd (true≢false e)
not_place place (words_stay bound words) e = absurd (true≢false e)
not_place place (delayed_flag_stays value) e = absurd (true≢false e)
not_place place (old_flag_stays value) e = absurd (true≢false e)
not_place place none_waits e = absurd (true≢false e)
not_place place other e = refl

not_delayed : (fact : Fact) → is_guarded fact ≡ false → is_of_delayed fact ≡ false
not_delayed pair_not_delayed e = absurd (true≢false e)
not_delayed (delayed_flag_stays value) e = absurd (true≢false e)
not_delayed (old_flag_stays value) e = absurd (true≢false e)
not_delayed other e = refl

-- ---- nor is what outlasts the entry

pub neither : (a b : Bool) → (a || b) ≡ false → (a ≡ false) × (b ≡ false)
neither false b e = (refl, e)
neither true b e = absurd (true≢false e)

module _ (fact : Fact) (e : is_of_stage fact ≡ false) where
  parts : (is_of_pending fact ≡ false) × (is_flag fact ≡ false)
  parts = neither (is_of_pending fact) (is_flag fact) e

  pub stage_pending : is_of_pending fact ≡ false
  stage_pending = parts.0

  places : (is_of_versions fact ≡ false) × (is_of_heap fact ≡ false)
  places = neither (is_of_versions fact) (is_of_heap fact) (neither (is_of_versions fact || is_of_heap fact) (is_of_pair fact) parts.0).0

  pub stage_versions : is_of_versions fact ≡ false
  stage_versions = places.0

  pub stage_number : is_of_number fact ≡ false
  stage_number = λ i. places.1 i || parts.1 i

pub not_stage : (fact : Fact) → is_guarded fact ≡ false → is_of_stage fact ≡ false
not_stage fact e = λ i. not_pending fact e i || (neither (is_of_heap fact) (is_flag fact) (not_number fact e)).1 i

module _ (history : List Entry) (entry : Entry) (fact : Fact) (e : may_end history entry fact ≡ false) where
  stays : (is_guarded fact ≡ false) × (is_ended_by history entry fact ≡ false)
  stays = neither (is_guarded fact) (is_ended_by history entry fact) e

  pub still_over : is_over history entry fact ≡ false
  still_over = λ i. not_pending fact stays.0 i || stays.1 i

  pub still_kept : (cells : ℕ) (way : Way) → is_of_way cells way fact ≡ false
  still_kept cells Undecided = not_words fact stays.0
  still_kept cells (InWord p c) = not_place (cache_place cells p) fact stays.0
  still_kept cells (Delayed p c) = not_delayed fact stays.0

pub heap_alone : (fact : Fact) → is_of_number fact ≡ false → is_of_heap fact ≡ false
heap_alone fact e = (neither (is_of_heap fact) (is_flag fact) e).0

pub flag_alone : (fact : Fact) → is_of_number fact ≡ false → is_flag fact ≡ false
flag_alone fact e = (neither (is_of_heap fact) (is_flag fact) e).1

pub number_under_prepared : (fact : Fact) → is_of_number fact ≡ false → is_under prepared_turn fact ≡ false
number_under_prepared fact e = flag_under_prepared fact (flag_alone fact e)

pub versions_under_store : (fact : Fact) → is_of_versions fact ≡ false → is_under store_turn fact ≡ false
versions_under_store fact e = none_under_store fact

pub unguarded : (fact : Fact) → guarded_by fact ≡ None → is_guarded fact ≡ false
unguarded fact e = ap is_some e

-- ---- one after another

module _ (test one two : Fact → Bool) (less : (fact : Fact) → test fact ≡ false → one fact ≡ false) (more : (fact : Fact) → test fact ≡ false → two fact ≡ false) (s t u : SeatState) where
  pub and_then : (h k : List Content) (m n : List ℕ) → GoesOn one h m s t → GoesOn two k n t u → GoesOn test k n s u
  and_then h k m n first second = record {
    same = second.same ∙ ap (λ (x : SeatState). record x { knows = record x.knows { held = k; notes = u.knows.notes }; turns = n }) first.same;
    noted = λ fact other there. second.noted fact (more fact other) (first.noted fact (less fact other) there);
  }

  -- where the second leaves the states and the turns as they are
  pub and_still : (h : List Content) (m : List ℕ) → GoesOn one h m s t → GoesOn two t.knows.held t.turns t u → GoesOn test h m s u
  and_still h m first second =
      subst (λ (x : List Content × List ℕ). GoesOn test x.0 x.1 s u) (λ i. (ap (λ (x : SeatState). x.knows.held) first.same i, ap (λ (x : SeatState). x.turns) first.same i))
      (and_then h t.knows.held m t.turns first second)

  -- where the second leaves the turns as they are
  pub and_with : (h k : List Content) (m : List ℕ) → GoesOn one h m s t → GoesOn two k t.turns t u → GoesOn test k m s u
  and_with h k m first second = subst (λ (x : List ℕ). GoesOn test k x s u) (ap (λ (x : SeatState). x.turns) first.same) (and_then h k m t.turns first second)
