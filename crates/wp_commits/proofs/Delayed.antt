-- The prepared sets while the bound rises, and while a pair becomes a delayed commit.
use Rattle.std.proofs.Common.{◌≡◌, ◌≢◌, inl, inr, ◌⊎◌, ℕ, ◌<◌, nat_le, nat_lt, Bool, true, false, true≢false, not, cond, ◌||◌, ◌&&◌, List, [], ◌∷◌, length, refl, sym, subst, ap, ◌∙◌, Some, None, arith}
use Rattle.std.proofs.lemmas.Bool.Decides.{nat_tests}
use native.Mathlib.Decide.{ℕ_discrete}
use mathlib.Core.Logic.{dite}
use Rattle.std.specs.Ordering.{nat_cmp}
use Rattle.std.specs.declared.cmp.Ordering.TheVariants.{Equal}
use Rattle.std.specs.Cmp.{nat_cmp_total}
use Rattle.std.specs.FinSet as set
use Rattle.std.specs.FinSet.{nat_cmp-IsAntisymmetric}
use Rattle.std.specs.FinMap as finite
use Rattle.wp_model.specs.declared.entry.Entry.{Entry}
use Rattle.wp_model.specs.Decision.{decision_of}
use Rattle.wp_model.specs.PreparedSets.{PreparedSets, is_prepared, commits_with, NoneDelayed}
use Rattle.wp_judge.specs.Words.{CommitPair, commit_pair}
use Rattle.wp_core.specs.Changes.{held_with}
use Rattle.wp_core.specs.Lists.{IsIn}
use Rattle.wp_core.specs.Notes.{ends}
use Rattle.wp_core.specs.Steps.{Step, store_max_evicted, add_delayed_commit}
use Rattle.wp_core.specs.States.{WriteState, Content, writes, prepared, with_moved}
use Rattle.wp_core.specs.Views.{Fact, words_stay, none_waits, delayed_flag_stays, old_flag_stays}
use Rattle.wp_core.specs.World.{Actor, World}
use Rattle.wp_core.specs.Sound.Views.{IsApart}
use Rattle.wp_model.proofs.Numbers.{get_inserted, get_inserted_else}
use Rattle.wp_model.proofs.Tests.{none_some}
use Rattle.wp_rule.specs.Knows.{Noted, IsUp, IsRise, Knows}
use Rattle.wp_rule.specs.Moves.{AreQuiet, AreMet, MayMake, Moved, actor_after, storing_max}
use Rattle.wp_rule.specs.Words.{Place, IsAt}
use Rattle.wp_rule.proofs.Forgets.{EndsNothing, forgets_nothing}
use Rattle.wp_rule.proofs.Knows.{held_is, noted_is}
use Rattle.wp_rule.proofs.Outlasting.{outlasts}
use Rattle.wp_shared.specs.Clients.{KeepClient}
use Rattle.wp_shared.specs.Seats.{SeatState}
use Rattle.wp_shared.proofs.OneStep.{becomes}
use Rattle.wp_commits.specs.Making.{delaying}
use Rattle.wp_shared.specs.Notes.{GoesOn, FlagTells, DelayedFlagTells}
use Rattle.wp_commits.specs.Notes.{is_of_words}
use Rattle.wp_shared.proofs.Goes.{goes_with}
use Rattle.wp_shared.proofs.Tables.{held_state}
use Rattle.wp_commits.proofs.Flags.{note_ends_none}

-- ---- the numbers that the bound reaches

same_test : (p : ℕ → Bool) (q x : ℕ) → nat_cmp q x ≡ Equal → p x ≡ p q
same_test p q x e = ap p (sym (nat_cmp-IsAntisymmetric q x e))

in_heap : (t : PreparedSets) (m p : ℕ) → set.contains (with_moved t m).heap p ≡ (set.contains t.heap p && not (nat_le p m))
in_heap t m p = set.contains-retain t.heap (λ q. not (nat_le q m)) p (same_test (λ q. not (nat_le q m)) p)

in_delayed : (t : PreparedSets) (m p : ℕ) → set.contains (with_moved t m).delayed p ≡ (set.contains t.delayed p || (set.contains t.heap p && nat_le p m))
in_delayed t m p = set.contains-union nat_cmp_total t.delayed (set.retain t.heap (λ q. nat_le q m)) p ∙ ap (λ (b : Bool). set.contains t.delayed p || b) (set.contains-retain t.heap (λ q. nat_le q m) p (same_test (λ q. nat_le q m) p))

above_is : (m p : ℕ) → nat_lt m p ≡ not (nat_le p m)
above_is m p = grind (arith, nat_tests)

-- sets that advanced are those of the machine
pub advanced : (old new : PreparedSets) (m : ℕ) → ((p : ℕ) → set.contains new.heap p ≡ (set.contains old.heap p && nat_lt m p))
    → ((p : ℕ) → set.contains new.delayed p ≡ (set.contains old.delayed p || (set.contains old.heap p && nat_le p m))) → new.delayed_commits ≡ old.delayed_commits → new ≡ with_moved old m
advanced old new m heap delayed commits =
    let one = set.same_set nat_cmp_total nat_cmp-IsAntisymmetric new.heap (with_moved old m).heap (λ p. heap p ∙ (ap (λ (b : Bool). set.contains old.heap p && b) (above_is m p) ∙ sym (in_heap old m p))) in
    let two = set.same_set nat_cmp_total nat_cmp-IsAntisymmetric new.delayed (with_moved old m).delayed (λ p. delayed p ∙ sym (in_delayed old m p)) in
    λ i. record { heap = one i; delayed = two i; delayed_commits = commits i }

left_none : (a b : Bool) → (a || b) ≡ false → a ≡ false
left_none true b e = absurd (true≢false e)
left_none false b e = refl

pub right_none : (a b : Bool) → (a || b) ≡ false → b ≡ false
right_none true b e = absurd (true≢false e)
right_none false b e = e

pub none_before_moved : (t : PreparedSets) (m : ℕ) → NoneDelayed (with_moved t m) → NoneDelayed t
none_before_moved t m none = (λ p. left_none (set.contains t.delayed p) _ (sym (in_delayed t m p) ∙ none.0 p), none.1)

not_reached : (h l : Bool) → h ≡ true → (h && l) ≡ false → l ≡ false
not_reached true l there e = e
not_reached false l there e = absurd (true≢false (sym there))

past_it : (m p : ℕ) → nat_le p m ≡ false → m < p
past_it m p e = grind (arith, nat_tests)

none_reached : (t : PreparedSets) (m : ℕ) → NoneDelayed (with_moved t m) → (p : ℕ) → set.contains t.heap p ≡ true → m < p
none_reached t m none p there = past_it m p (not_reached (set.contains t.heap p) (nat_le p m) there (right_none (set.contains t.delayed p) (set.contains t.heap p && nat_le p m) (sym (in_delayed t m p) ∙ none.0 p)))

-- a flag that tells is up, or there is nothing
pub up_or_none : (a : Actor) (flag : ℕ → Fact) (none : Type 0) → FlagTells a flag none → IsUp a flag ⊎ none
up_or_none a flag none f = dite (ℕ_discrete f.value 0) (λ (e : f.value ≡ 0). inr (f.empty e)) (λ (ne : f.value ≢ 0). inl (f.value, f.noted, ne))

-- ---- the bound rises

pub rise_still : (a b : Actor) (cells : ℕ) (d : WriteState) (m : ℕ) → ((bound : ℕ) (words : List ℕ) → Noted a (words_stay bound words) → Noted b (words_stay bound words)) → IsRise a cells d m → IsRise b cells d m
rise_still a b cells d m keeps (inl k) = let t = k.there in inl (record { pair = k.pair; pending = k.pending; narrow = k.narrow; gone = k.gone; there = (t.0, t.1, keeps t.0 t.1 t.2, t.3, t.4, t.5, t.6); past = k.past })
rise_still a b cells d m keeps (inr k) = let t = k.above in inr (record { pair = k.pair; pending = k.pending; wide = k.wide; above = (t.0, t.1, keeps t.0 t.1 t.2, t.3); is = k.is })

max_ends : (history : List Entry) (words m : ℕ) (fact : Fact) → is_of_words fact ≡ false → ends history words (store_max_evicted m) fact ≡ false
max_ends history words m (words_stay bound cache) e = absurd (true≢false e)
max_ends history words m none_waits e = absurd (true≢false e)
max_ends history words m (delayed_flag_stays value) e = absurd (true≢false e)
max_ends history words m (old_flag_stays value) e = absurd (true≢false e)
max_ends history words m other e = refl

module _ (p : Place) (s t : SeatState) (d : WriteState) (old tables : PreparedSets) (m : ℕ) (held : s.knows.held ≡ prepared old ∷ writes d ∷ []) (is : tables ≡ with_moved old m) where
  pub may_raise : IsRise s.knows p.cells d m → DelayedFlagTells s.knows tables → Knows p s.knows (store_max_evicted m)
  may_raise rises flag = record {
    state = d;
    held = subst (IsIn (writes d)) (sym held) (inr (inl refl));
    so_is = record {
      state = old;
      held = subst (IsIn (prepared old)) (sym held) (inl refl);
      so_is = (rises, reached (up_or_none s.knows delayed_flag_stays (NoneDelayed tables) flag));
    };
  }
    where
      reached : IsUp s.knows delayed_flag_stays ⊎ NoneDelayed tables → IsUp s.knows delayed_flag_stays ⊎ ((q : ℕ) → set.contains old.heap q ≡ true → m < q)
      reached (inl up) = inl up
      reached (inr none) = inr (none_reached old m (subst NoneDelayed is none))

  module _ (so : World → Type 0) (same : (t.table ≡ s.table) × (t.by ≡ s.by) × (t.turns ≡ s.turns)) (moved : Moved p (storing_max m) so s.knows t.knows) where
    held_now : (w : World) → IsAt p s.knows w → held_with s.knows.held (prepared (with_moved w.prepared m)) ≡ prepared tables ∷ writes d ∷ []
    held_now w k =
        let table = held_state p s.knows w (prepared old) k (subst (IsIn (prepared old)) (sym held) (inl refl)) in
        ap (λ (h : List Content). held_with h (prepared (with_moved w.prepared m))) held ∙ ap (λ (x : PreparedSets). prepared x ∷ writes d ∷ []) (ap (λ (x : PreparedSets). with_moved x m) table ∙ sym is)

    keeps : (fact : Fact) → is_of_words fact ≡ false → Noted s.knows fact → Noted t.knows fact
    keeps fact other there =
        let w = moved.world in
        subst (λ (x : Actor). Noted x fact) (sym moved.actor)
        (outlasts fact (storing_max m w) w p.by s.knows there ((λ x. x), max_ends w.writes.history (length w.cache) m fact other, ((λ x. x), note_ends_none w.writes.history (length w.cache) (words_stay m w.cache) fact, tt)))

    pub raised : GoesOn is_of_words (prepared tables ∷ writes d ∷ []) s.turns s t
    raised = record {
      same = goes_with s t (prepared tables ∷ writes d ∷ []) s.turns _ same.0 same.1 same.2 (moved.actor ∙ ap (λ (h : List Content). record s.knows { held = h; notes = (actor_after (storing_max m moved.world) moved.world p.by s.knows).notes }) (held_now moved.world moved.before));
      noted = keeps;
    }

    pub flag_raised : DelayedFlagTells s.knows tables → DelayedFlagTells t.knows tables
    flag_raised f =
        let w = moved.world in record {
          value = f.value;
          noted = subst (λ (x : Actor). Noted x (delayed_flag_stays f.value)) (sym moved.actor) (outlasts (delayed_flag_stays f.value) (storing_max m w) w p.by s.knows f.noted ((λ x. x), refl, ((λ x. x), refl, tt)));
          empty = f.empty;
          down = f.down;
        }

    pub bound_raised : (bound : ℕ) (words : List ℕ) → Noted s.knows (words_stay bound words) → Noted t.knows (words_stay m words)
    bound_raised bound words there =
        let w = moved.world in
        let cache : w.cache ≡ words = (noted_is p s.knows w (words_stay bound words) moved.before there).is_so.1 in
        subst (λ (x : Actor). Noted x (words_stay m words)) (sym moved.actor) (inl (ap (words_stay m) cache))

-- ---- a delayed commit

abbrev with_commit : PreparedSets → ℕ → ℕ → PreparedSets
with_commit t p c = record t { delayed_commits = commits_with t p c }

pub none_before_commit : (t : PreparedSets) (p c : ℕ) → NoneDelayed (with_commit t p c) → NoneDelayed t
none_before_commit t p c none = (none.0, λ q. at (is_prepared t p) q (none.1 q))
  where
    at : (b : Bool) (q : ℕ) → finite.get (cond b (finite.insert t.delayed_commits p c) t.delayed_commits) q ≡ None → finite.get t.delayed_commits q ≡ None
    at false q e = e
    at true q e = dite (ℕ_discrete q p)
        (λ (same : q ≡ p). absurd (none_some (finite.get (finite.insert t.delayed_commits p c) p) c (ap (finite.get (finite.insert t.delayed_commits p c)) (sym same) ∙ e) (get_inserted t.delayed_commits p c)))
        (λ (ne : q ≢ p). sym (get_inserted_else t.delayed_commits p c q ne) ∙ e)

pub apart_now : (t : PreparedSets) (p c : ℕ) → IsApart (with_commit t p c) (commit_pair p c)
apart_now t p c = at (is_prepared t p) refl
  where
    at : (b : Bool) → is_prepared t p ≡ b → (is_prepared t p ≡ false) ⊎ (finite.get (commits_with t p c) p ≡ Some c)
    at false e = inl e
    at true e = inr (ap (λ (x : Bool). finite.get (cond x (finite.insert t.delayed_commits p c) t.delayed_commits) p) e ∙ get_inserted t.delayed_commits p c)

commit_ends : (pair : CommitPair) → EndsNothing (add_delayed_commit pair)
commit_ends pair = record { guard = λ turn. refl; place = λ words place. refl; words = refl; delayed_flag = refl; old_flag = refl; pending = refl; adds = refl; takes = refl; prepared = refl; unprepared = refl; delays = refl; transaction = λ history name. refl; changes = λ history key. refl; direct = refl; moves = refl; replaces = refl; installing = refl }

module _ (place : Place) (s t : SeatState) (d : WriteState) (old tables : PreparedSets) (p c : ℕ) (held : s.knows.held ≡ prepared old ∷ writes d ∷ []) (is : tables ≡ with_commit old p c) where
  abbrev steps_if : Bool → List Step
  steps_if b = cond b (add_delayed_commit (commit_pair p c) ∷ []) []

  table_is : (w : World) → IsAt place s.knows w → w.prepared ≡ old
  table_is w k = held_state place s.knows w (prepared old) k (subst (IsIn (prepared old)) (sym held) (inl refl))

  pub may_delay : decision_of d.history p ≡ Some c → DelayedFlagTells s.knows tables → MayMake place s.knows (delaying (commit_pair p c))
  may_delay decided flag w k = by_test (is_prepared w.prepared p) refl
    where
      history_is : w.writes ≡ d
      history_is = held_state place s.knows w (writes d) k (subst (IsIn (writes d)) (sym held) (inr (inl refl)))

      up : is_prepared w.prepared p ≡ true → w.delayed_flag ≡ 0 → ⊥
      up there zero_flag =
          let value_is : w.delayed_flag ≡ flag.value = (noted_is place s.knows w (delayed_flag_stays flag.value) k flag.noted).is_so in
          let none : NoneDelayed (with_commit old p c) = subst NoneDelayed is (flag.empty (sym value_is ∙ zero_flag)) in
          let there_old : is_prepared old p ≡ true = ap (λ (x : PreparedSets). is_prepared x p) (sym (table_is w k)) ∙ there in
          let got : finite.get (commits_with old p c) p ≡ Some c = ap (λ (x : Bool). finite.get (cond x (finite.insert old.delayed_commits p c) old.delayed_commits) p) there_old ∙ get_inserted old.delayed_commits p c in
          none_some (finite.get (commits_with old p c) p) c (none.1 p) got

      by_test : (b : Bool) → is_prepared w.prepared p ≡ b → AreQuiet (steps_if b) × AreMet (steps_if b) w place.by s.knows
      by_test false e = (tt, tt)
      by_test true e = (
        (tt, tt),
        (((held_is place s.knows w (prepared old) k (subst (IsIn (prepared old)) (sym held) (inl refl))).0, up e, subst (λ (x : WriteState). decision_of x.history p ≡ Some c) (sym history_is) decided), tt),
      )

  pub delayed_now : (so : World → Type 0) → (t.table ≡ s.table) × (t.by ≡ s.by) × (t.turns ≡ s.turns) → Moved place (delaying (commit_pair p c)) so s.knows t.knows
      → t ≡ record s { knows = record s.knows { held = prepared tables ∷ writes d ∷ [] } }
  delayed_now so same m = becomes s t (record s.knows { held = prepared tables ∷ writes d ∷ [] }) same (m.actor ∙ (by_test (is_prepared m.world.prepared p) refl ∙ ap (λ (x : PreparedSets). record s.knows { held = prepared x ∷ writes d ∷ [] }) (sym is)))
    where
      by_test : (b : Bool) → is_prepared m.world.prepared p ≡ b → actor_after (steps_if b) m.world place.by s.knows ≡ record s.knows { held = prepared (with_commit old p c) ∷ writes d ∷ [] }
      by_test false e =
          let gone : is_prepared old p ≡ false = ap (λ (x : PreparedSets). is_prepared x p) (sym (table_is m.world m.before)) ∙ e in
          let same_table : old ≡ with_commit old p c = ap (λ (x : Bool). record old { delayed_commits = cond x (finite.insert old.delayed_commits p c) old.delayed_commits }) (sym gone) in
          ap (λ (h : List Content). record s.knows { held = h }) (held ∙ ap (λ (x : PreparedSets). prepared x ∷ writes d ∷ []) same_table)
      by_test true e =
          let w = m.world in
          let there : is_prepared old p ≡ true = ap (λ (x : PreparedSets). is_prepared x p) (sym (table_is w m.before)) ∙ e in
          let next : PreparedSets = record w.prepared { delayed_commits = finite.insert w.prepared.delayed_commits p c } in
          let next_is : next ≡ with_commit old p c =
          ap (λ (x : PreparedSets). record x { delayed_commits = finite.insert x.delayed_commits p c }) (table_is w m.before)
          ∙ ap (λ (x : Bool). record old { delayed_commits = cond x (finite.insert old.delayed_commits p c) old.delayed_commits }) (sym there) in
          ap (λ (x : Actor). record x { held = held_with x.held (prepared next) }) (forgets_nothing w.writes.history (length w.cache) (add_delayed_commit (commit_pair p c)) s.knows (commit_ends (commit_pair p c)))
          ∙ (ap (λ (h : List Content). record s.knows { held = held_with h (prepared next) }) held ∙ ap (λ (x : PreparedSets). record s.knows { held = prepared x ∷ writes d ∷ [] }) next_is)

pub delaying_keeps : (pair : CommitPair) (w : World) → KeepClient (delaying pair w)
delaying_keeps pair w = by_test (is_prepared w.prepared pair.number)
  where
    by_test : (b : Bool) → KeepClient (cond b (add_delayed_commit pair ∷ []) [])
    by_test true = (tt, tt)
    by_test false = tt
