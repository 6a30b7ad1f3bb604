-- The old commit map while a pair comes under each live number that overlaps it.
use Rattle.std.proofs.Common.{◌≡◌, ◌≢◌, inl, inr, ◌⊎◌, ⊎_elim, ℕ, zero, suc, ◌+◌, ◌-◌, ◌<◌, ◌≤◌, nat_le, nat_lt, Bool, true, false, true≢false, cond, List, ◌∷◌, length, refl, sym, subst, ap, ◌∙◌, Option, Some, None, is_some, arith}
use Rattle.std.specs.Option.{option_map_or}
use Rattle.std.proofs.lemmas.Bool.Decides.{nat_tests}
use native.Mathlib.Decide.{ℕ_discrete}
use mathlib.Core.Logic.{dite}
use Rattle.std.specs.Ordering.{nat_cmp, eq_by_cmp}
use Rattle.std.specs.Cmp.{nat_cmp_total}
use Rattle.std.specs.FinSet as set
use Rattle.std.specs.FinMap as finite
use Rattle.wp_model.specs.Decision.{decision_of}
use Rattle.wp_model.specs.Snapshots.{LiveSnapshot, Snapshots, is_old_commit, after_keep, overlaps, ChangesWhere, NoOldCommits}
use Rattle.wp_core.specs.Changes.{held_with, placed, with_old_commit}
use Rattle.wp_core.specs.Lists.{IsIn}
use Rattle.wp_core.specs.Steps.{add_old_commit}
use Rattle.wp_core.specs.States.{WriteState, Content, writes, snapshots}
use Rattle.wp_core.specs.Turns.{Holds, snapshots_turn}
use Rattle.wp_core.specs.Views.{old_flag_stays}
use Rattle.wp_core.specs.World.{Actor, World}
use Rattle.wp_core.specs.Sound.Prepared.{IsInOldCommits}
use Rattle.wp_model.proofs.Numbers.{in_inserted, get_inserted, get_inserted_else, get_removed, get_removed_else}
use Rattle.wp_rule.specs.Moves.{AreQuiet, AreMet, MayMake, Moved, actor_after, actor_after_step, world_after_step}
use Rattle.wp_rule.specs.Words.{Place, IsAt}
use Rattle.wp_rule.proofs.Forgets.{EndsNothing, forgets_nothing}
use Rattle.wp_rule.proofs.Knows.{held_is, noted_is}
use Rattle.wp_shared.specs.Clients.{KeepClient}
use Rattle.wp_shared.specs.Seats.{SeatState}
use Rattle.wp_shared.proofs.OneStep.{becomes}
use Rattle.wp_commits.proofs.Delayed.{right_none}
use Rattle.wp_shared.proofs.Tables.{held_state}
use Rattle.wp_commits.specs.Making.{keeping_from, keeping}
use Rattle.wp_shared.specs.Notes.{OldFlagTells}

-- ---- one number

placed_here : (m : Snapshots) (s : ℕ) (o : Option LiveSnapshot) → finite.get (placed m s o) s ≡ o
placed_here m s None = get_removed m s
placed_here m s (Some x) = get_inserted m s x

placed_else : (m : Snapshots) (s q : ℕ) (o : Option LiveSnapshot) → q ≢ s → finite.get (placed m s o) q ≡ finite.get m q
placed_else m s q None ne = get_removed_else m s q ne
placed_else m s q (Some x) ne = get_inserted_else m s x q ne

-- p comes under this number, where it is live by the test
abbrev kept_if : Bool → Snapshots → ℕ → ℕ → Snapshots
kept_if b m s p = cond b (with_old_commit m s p) m

kept_here : (b : Bool) (m : Snapshots) (s p : ℕ) → is_some (finite.get m s) ≡ b → finite.get (kept_if b m s p) s ≡ after_keep p (finite.get m s)
kept_here true m s p e = placed_here m s (after_keep p (finite.get m s))
kept_here false m s p e = none_kept (finite.get m s) e
  where
    none_kept : (o : Option LiveSnapshot) → is_some o ≡ false → o ≡ after_keep p o
    none_kept None e = refl
    none_kept (Some x) e = absurd (true≢false e)

kept_else : (b : Bool) (m : Snapshots) (s p q : ℕ) → q ≢ s → finite.get (kept_if b m s p) q ≡ finite.get m q
kept_else true m s p q ne = placed_else m s q (after_keep p (finite.get m s)) ne
kept_else false m s p q ne = refl

-- ---- a range of numbers

-- the map once p came under each number of the range that is live in the first map
abbrev kept_over : Snapshots → Snapshots → ℕ → ℕ → ℕ → Snapshots
kept_over m now p zero s = now
kept_over m now p (suc more) s = kept_over m (kept_if (is_some (finite.get m s)) now s p) p more (suc s)

kept_outside : (m now : Snapshots) (p more s q : ℕ) → (q < s) ⊎ (s + more ≤ q) → finite.get (kept_over m now p more s) q ≡ finite.get now q
kept_outside m now p zero s q out = refl
kept_outside m now p (suc more) s q out =
    kept_outside m (kept_if (is_some (finite.get m s)) now s p) p more (suc s) q (⊎_elim (λ (lt : q < s). inl (omega (arith, lt))) (λ (ge : s + suc more ≤ q). inr (omega (arith, ge))) out)
    ∙ kept_else (is_some (finite.get m s)) now s p q (⊎_elim (λ (lt : q < s) e. omega (arith, lt, e)) (λ (ge : s + suc more ≤ q) e. omega (arith, ge, e)) out)

kept_inside : (m now : Snapshots) (p more s q : ℕ) → ((r : ℕ) → s ≤ r → finite.get now r ≡ finite.get m r) → s ≤ q → q < s + more → finite.get (kept_over m now p more s) q ≡ after_keep p (finite.get m q)
kept_inside m now p zero s q same from below = absurd (omega (arith, from, below))
kept_inside m now p (suc more) s q same from below = dite (ℕ_discrete q s) here (λ (ne : q ≢ s).
    kept_inside m (kept_if (is_some (finite.get m s)) now s p) p more (suc s) q
    (λ r above. kept_else (is_some (finite.get m s)) now s p r (λ e. omega (arith, above, e)) ∙ same r (omega (arith, above)))
    (omega (arith, from, ne)) (omega (arith, below)))
  where
    here : q ≡ s → finite.get (kept_over m (kept_if (is_some (finite.get m s)) now s p) p more (suc s)) q ≡ after_keep p (finite.get m q)
    here e =
        let at_s : finite.get now s ≡ finite.get m s = same s (omega arith) in
        kept_outside m (kept_if (is_some (finite.get m s)) now s p) p more (suc s) q (inl (omega (arith, e)))
        ∙ (ap (finite.get (kept_if (is_some (finite.get m s)) now s p)) e
        ∙ (kept_here (is_some (finite.get m s)) now s p (ap is_some at_s)
        ∙ (ap (after_keep p) at_s ∙ ap (λ (r : ℕ). after_keep p (finite.get m r)) (sym e))))

test_true : (p c q : ℕ) → p ≤ q → q < c → overlaps p c q ≡ true
test_true p c q from below = let one : nat_le p q ≡ true = grind (arith, nat_tests) in let two : nat_lt q c ≡ true = grind (arith, nat_tests) in rw (one, two) refl

test_where : (p c q : ℕ) (b : Bool) → overlaps p c q ≡ b → ((b ≡ true) × (p ≤ q) × (q < c)) ⊎ ((b ≡ false) × ((q < p) ⊎ (p + (c - p) ≤ q)))
test_where p c q true e = let one : p ≤ q = grind (arith, nat_tests) in let two : q < c = grind (arith, nat_tests) in inl (refl, one, two)
test_where p c q false e = inr (refl, dite_below)
  where
    not_both : (p ≤ q) → (q < c) → ⊥
    not_both from below = true≢false (sym (test_true p c q from below) ∙ e)

    dite_below : (q < p) ⊎ (p + (c - p) ≤ q)
    dite_below = by_from (nat_le p q) refl (nat_lt q c) refl
      where
        by_from : (a : Bool) → nat_le p q ≡ a → (b : Bool) → nat_lt q c ≡ b → (q < p) ⊎ (p + (c - p) ≤ q)
        by_from false x b y = inl (grind (arith, nat_tests))
        by_from true x false y = let from : p ≤ q = grind (arith, nat_tests) in let past : c ≤ q = grind (arith, nat_tests) in inr (omega (arith, from, past))
        by_from true x true y = let from : p ≤ q = grind (arith, nat_tests) in let below : q < c = grind (arith, nat_tests) in absurd (not_both from below)

-- the range of the numbers that overlap the pair is that of the state
kept_is : (m new : Snapshots) (p c : ℕ) → ChangesWhere (overlaps p c) (after_keep p) m new → kept_over m m p (c - p) p ≡ new
kept_is m new p c changes = finite.same_map nat_cmp_total finite.nat_cmp-IsAntisymmetric (kept_over m m p (c - p) p) new (λ q. at q (overlaps p c q) refl)
  where
    at : (q : ℕ) (b : Bool) → overlaps p c q ≡ b → finite.get (kept_over m m p (c - p) p) q ≡ finite.get new q
    at q b e = ⊎_elim
        (λ (i : (b ≡ true) × (p ≤ q) × (q < c)). kept_inside m m p (c - p) p q (λ r from. refl) i.1 (omega (arith, i.1, i.2)) ∙ sym (changes q ∙ ap (λ (x : Bool). cond x (after_keep p (finite.get m q)) (finite.get m q)) (e ∙ i.0)))
        (λ (o : (b ≡ false) × ((q < p) ⊎ (p + (c - p) ≤ q))). kept_outside m m p (c - p) p q o.1 ∙ sym (changes q ∙ ap (λ (x : Bool). cond x (after_keep p (finite.get m q)) (finite.get m q)) (e ∙ o.0)))
        (test_where p c q b e)

-- ---- what the state tells

module _ (m new : Snapshots) (p c : ℕ) (changes : ChangesWhere (overlaps p c) (after_keep p) m new) where
  at_overlap : (s : ℕ) → p ≤ s → s < c → finite.get new s ≡ after_keep p (finite.get m s)
  at_overlap s from below = changes s ∙ ap (λ (x : Bool). cond x (after_keep p (finite.get m s)) (finite.get m s)) (test_true p c s from below)

  kept_at : (s : ℕ) → p ≤ s → s < c → is_some (finite.get m s) ≡ true → is_old_commit new s p ≡ true
  kept_at s from below live = ap (λ (o : Option LiveSnapshot). option_map_or (λ x. set.contains x.old_commits p) o false) (at_overlap s from below) ∙ by_live (finite.get m s) live
    where
      by_live : (o : Option LiveSnapshot) → is_some o ≡ true → option_map_or (λ x. set.contains x.old_commits p) (after_keep p o) false ≡ true
      by_live None e = absurd (true≢false (sym e))
      by_live (Some x) e = in_inserted x.old_commits p

  -- the pair is under each live number that overlaps it
  pub in_old_commits_now : IsInOldCommits new p c
  in_old_commits_now s live from below = kept_at s from below (by_live (finite.get m s) (sym (ap is_some (at_overlap s from below)) ∙ live))
    where
      by_live : (o : Option LiveSnapshot) → is_some (after_keep p o) ≡ true → is_some o ≡ true
      by_live None e = e
      by_live (Some x) e = refl

  pub none_before_kept : NoOldCommits new → NoOldCommits m
  none_before_kept none s q = by_test (overlaps p c s) refl
    where
      less : (o : Option LiveSnapshot) → option_map_or (λ x. set.contains x.old_commits q) (after_keep p o) false ≡ false → option_map_or (λ x. set.contains x.old_commits q) o false ≡ false
      less None e = e
      less (Some x) e = right_none (eq_by_cmp nat_cmp q p) (set.contains x.old_commits q) (sym (set.contains-insert nat_cmp_total x.old_commits p q) ∙ e)

      gone : (o : Option LiveSnapshot) → finite.get new s ≡ o → option_map_or (λ x. set.contains x.old_commits q) o false ≡ false
      gone o e = ap (λ (x : Option LiveSnapshot). option_map_or (λ y. set.contains y.old_commits q) x false) (sym e) ∙ none s q

      by_test : (b : Bool) → overlaps p c s ≡ b → is_old_commit m s q ≡ false
      by_test true e = less (finite.get m s) (gone (after_keep p (finite.get m s)) (changes s ∙ ap (λ (x : Bool). cond x (after_keep p (finite.get m s)) (finite.get m s)) e))
      by_test false e = gone (finite.get m s) (changes s ∙ ap (λ (x : Bool). cond x (after_keep p (finite.get m s)) (finite.get m s)) e)

-- ---- the steps

keep_ends : (s p : ℕ) → EndsNothing (add_old_commit s p)
keep_ends s p = record { guard = λ turn. refl; place = λ words place. refl; words = refl; delayed_flag = refl; old_flag = refl; pending = refl; adds = refl; takes = refl; prepared = refl; unprepared = refl; delays = refl; transaction = λ history name. refl; changes = λ history key. refl; direct = refl; moves = refl; replaces = refl; installing = refl }

pub keeping_keeps : (m : Snapshots) (p more s : ℕ) → KeepClient (keeping_from m p more s)
keeping_keeps m p zero s = tt
keeping_keeps m p (suc more) s = by_live (is_some (finite.get m s)) (keeping_keeps m p more (suc s))
  where
    by_live : (b : Bool) → KeepClient (keeping_from m p more (suc s)) → KeepClient (cond b (add_old_commit s p ∷ keeping_from m p more (suc s)) (keeping_from m p more (suc s)))
    by_live true others = (tt, others)
    by_live false others = others

keeping_quiet : (m : Snapshots) (p more s : ℕ) → AreQuiet (keeping_from m p more s)
keeping_quiet m p zero s = tt
keeping_quiet m p (suc more) s = by_live (is_some (finite.get m s)) (keeping_quiet m p more (suc s))
  where
    by_live : (b : Bool) → AreQuiet (keeping_from m p more (suc s)) → AreQuiet (cond b (add_old_commit s p ∷ keeping_from m p more (suc s)) (keeping_from m p more (suc s)))
    by_live true others = (tt, others)
    by_live false others = others

module _ (m : Snapshots) (p c by : ℕ) where
  keeping_met : (more s : ℕ) (w : World) (a : Actor) → Holds w.holders snapshots_turn by → decision_of w.writes.history p ≡ Some c → p ≤ s → s + more ≤ c → ((r : ℕ) → s ≤ r → finite.get w.snapshots r ≡ finite.get m r)
      → ((r : ℕ) → is_some (finite.get m r) ≡ true → p ≤ r → r < c → w.old_flag ≢ 0) → AreMet (keeping_from m p more s) w by a
  keeping_met zero s w a holds decided from below same up = tt
  keeping_met (suc more) s w a holds decided from below same up =
      by_live (is_some (finite.get m s)) refl
      (keeping_met more (suc s) w a holds decided (omega (arith, from)) (omega (arith, below)) (λ r above. same r (omega (arith, above))) up)
      (keeping_met more (suc s) (world_after_step w by a (add_old_commit s p)) (actor_after_step w a (add_old_commit s p)) holds decided (omega (arith, from)) (omega (arith, below))
      (λ r above. placed_else w.snapshots s r (after_keep p (finite.get w.snapshots s)) (λ same_number. omega (arith, above, same_number)) ∙ same r (omega (arith, above)))
      up)
    where
      by_live : (b : Bool) → is_some (finite.get m s) ≡ b → AreMet (keeping_from m p more (suc s)) w by a → AreMet (keeping_from m p more (suc s)) (world_after_step w by a (add_old_commit s p)) by (actor_after_step w a (add_old_commit s p))
          → AreMet (cond b (add_old_commit s p ∷ keeping_from m p more (suc s)) (keeping_from m p more (suc s))) w by a
      by_live false e others after = others
      by_live true e others after = ((holds, ap is_some (same s (omega arith)) ∙ e, up s e from (omega (arith, below)), (c, decided, from, omega (arith, below))), after)

  kept_after : (others : List Content) (more s : ℕ) (w : World) (a : Actor) → a.held ≡ snapshots w.snapshots ∷ others → actor_after (keeping_from m p more s) w by a ≡ record a { held = snapshots (kept_over m w.snapshots p more s) ∷ others }
  kept_after others zero s w a held = ap (λ (h : List Content). record a { held = h }) held
  kept_after others (suc more) s w a held =
      let left = forgets_nothing w.writes.history (length w.cache) (add_old_commit s p) a (keep_ends s p) in
      let next : Snapshots = with_old_commit w.snapshots s p in
      by_live (is_some (finite.get m s))
      (kept_after others more (suc s) w a held)
      (kept_after others more (suc s) (world_after_step w by a (add_old_commit s p)) (actor_after_step w a (add_old_commit s p))
      (ap (λ (x : Actor). held_with x.held (snapshots next)) left ∙ ap (λ (h : List Content). held_with h (snapshots next)) held)
      ∙ ap (λ (x : Actor). record x { held = snapshots (kept_over m next p more (suc s)) ∷ others }) left)
    where
      by_live : (b : Bool) → actor_after (keeping_from m p more (suc s)) w by a ≡ record a { held = snapshots (kept_over m w.snapshots p more (suc s)) ∷ others }
          → actor_after (keeping_from m p more (suc s)) (world_after_step w by a (add_old_commit s p)) by (actor_after_step w a (add_old_commit s p)) ≡ record a { held = snapshots (kept_over m (with_old_commit w.snapshots s p) p more (suc s)) ∷ others }
          → actor_after (cond b (add_old_commit s p ∷ keeping_from m p more (suc s)) (keeping_from m p more (suc s))) w by a ≡ record a { held = snapshots (kept_over m (kept_if b w.snapshots s p) p more (suc s)) ∷ others }
      by_live false here after = here
      by_live true here after = after

module _ (place : Place) (s t : SeatState) (old new : Snapshots) (p c : ℕ) (others : List Content) (held : s.knows.held ≡ snapshots old ∷ others) (changes : ChangesWhere (overlaps p c) (after_keep p) old new) where
  table_is : (w : World) → IsAt place s.knows w → w.snapshots ≡ old
  table_is w k = held_state place s.knows w (snapshots old) k (subst (IsIn (snapshots old)) (sym held) (inl refl))

  pub may_keep : (d : WriteState) → IsIn (writes d) others → p ≤ c → decision_of d.history p ≡ Some c → OldFlagTells s.knows new → MayMake place s.knows (keeping p c)
  may_keep d has ordered decided flag w k =
      let history_is : w.writes ≡ d = held_state place s.knows w (writes d) k (subst (IsIn (writes d)) (sym held) (inr has)) in
      let holds = (held_is place s.knows w (snapshots old) k (subst (IsIn (snapshots old)) (sym held) (inl refl))).0 in
      let value_is : w.old_flag ≡ flag.value = (noted_is place s.knows w (old_flag_stays flag.value) k flag.noted).is_so in (
        keeping_quiet w.snapshots p (c - p) p,
        keeping_met w.snapshots p c place.by (c - p) p w s.knows holds (subst (λ (x : WriteState). decision_of x.history p ≡ Some c) (sym history_is) decided) (omega arith) (omega (arith, ordered)) (λ r from. refl)
            (λ r live from below zero_flag.
            let live_old : is_some (finite.get old r) ≡ true = ap (λ (x : Snapshots). is_some (finite.get x r)) (sym (table_is w k)) ∙ live in
            true≢false (sym (kept_at old new p c changes r from below live_old) ∙ flag.empty (sym value_is ∙ zero_flag) r p)),
      )

  pub kept_now : (so : World → Type 0) → (t.table ≡ s.table) × (t.by ≡ s.by) × (t.turns ≡ s.turns) → Moved place (keeping p c) so s.knows t.knows → t ≡ record s { knows = record s.knows { held = snapshots new ∷ others } }
  kept_now so same m =
      let w = m.world in
      let is = table_is w m.before in
      let held_there : s.knows.held ≡ snapshots w.snapshots ∷ others = held ∙ ap (λ (x : Snapshots). snapshots x ∷ others) (sym is) in
      let over : kept_over w.snapshots w.snapshots p (c - p) p ≡ new = ap (λ (x : Snapshots). kept_over x x p (c - p) p) is ∙ kept_is old new p c changes in
      becomes s t (record s.knows { held = snapshots new ∷ others }) same
      (m.actor ∙ (kept_after w.snapshots p c place.by others (c - p) p w s.knows held_there ∙ ap (λ (x : Snapshots). record s.knows { held = snapshots x ∷ others }) over))
