-- Releasing a snapshot, and noting a version in the old commit map, keep a world sound.
use Rattle.std.proofs.Common.{◌≡◌, ◌≢◌, inl, inr, ℕ, ◌+◌, ◌-◌, ◌<◌, ◌≤◌, nat_le, ◌==◌, ◌||◌, ◌&&◌, eq-eqb, ne_eqb, Bool, true, false, true≢false, cond, List, [], ◌∷◌, ◌++◌, length, map, set, refl, sym, subst, ap, ◌∙◌, Option, Some, None, IsSome, arith}
use Rattle.std.proofs.lemmas.Bool.Decides.{nat_tests}
use mathlib.Core.Option.{some}
use mathlib.Core.Logic.{dite}
use native.Mathlib.Decide.{ℕ_discrete}
use lib.ListN.{get_elem?}
use Rattle.std.specs.List.{list_any}
use Rattle.std.specs.FinSet as finset
use Rattle.std.specs.FinMap as finite
use Rattle.wp_model.specs.Decision.{decision_of}
use Rattle.wp_model.specs.Snapshots.{LiveSnapshot, after_release, after_keep}
use Rattle.wp_judge.specs.declared.observed.Observed.{Observed}
use Rattle.wp_core.proofs.AllParticipants.{mine}
use Rattle.wp_core.specs.Lists.{IsIn, one_if}
use Rattle.wp_core.specs.Reading.{Registration, snapshot_of}
use Rattle.wp_core.specs.World.{Actor, World}
use Rattle.wp_core.specs.Steps.{release, add_old_commit}
use Rattle.wp_core.specs.Changes.{with_released, with_old_commit, is_same_registration, reading_left}
use Rattle.wp_core.specs.Effects.{done}
use Rattle.wp_core.specs.Needs.{Needs}
use Rattle.wp_core.specs.Notes.{forgets}
use Rattle.wp_core.specs.Sound.Actors.{seen_of, participants_of, learned_of}
use Rattle.wp_core.specs.Sound.Snapshots.{registered_of, AreRegistered, count_of, view_of}
use Rattle.wp_core.specs.Sound.Reader.{reader_of}
use Rattle.wp_core.specs.IsSound.{IsSound}
use Rattle.wp_core.proofs.Frames.{at_map}
use Rattle.wp_model.proofs.Numbers.{in_inserted, in_inserted_else}
use Rattle.wp_core.proofs.Registered.{registered_there}
use Rattle.wp_core.proofs.KeepsSnapshots.{has_old, live_there, at_number, sum_append, in_with, in_middle, below_all, grows_at, none_at, registered_at}
use Rattle.wp_core.proofs.SnapshotsStep.{SnapshotsGrow, with_view, snapshots_step}
use Rattle.wp_core.proofs.Readings.{below_smallest}
use Rattle.wp_model.proofs.Tests.{same_some}

-- ---- a version is noted

module _ (w : World) (n p c : ℕ) (x : LiveSnapshot) (there : finite.get w.snapshots n ≡ Some x) (decided : decision_of w.writes.history p ≡ Some c) (from : p ≤ n) (below : n < c) where
  kept_there : (q : ℕ) → q ≡ p → (o : Option LiveSnapshot) → IsSome (after_keep p o) → has_old q (after_keep p o) ≡ true
  kept_there q e None live = absurd (true≢false (sym live))
  kept_there q e (Some y) live = ap (finset.contains (finset.insert y.old_commits p)) e ∙ in_inserted y.old_commits p

  kept_else : (q : ℕ) → q ≢ p → (o : Option LiveSnapshot) → has_old q (after_keep p o) ≡ has_old q o
  kept_else q ne None = refl
  kept_else q ne (Some y) = in_inserted_else y.old_commits p q ne

  grows_noted : SnapshotsGrow w.writes.history w.snapshots (with_old_commit w.snapshots n p)
  grows_noted = grows_at w.writes.history w.snapshots n (after_keep p (finite.get w.snapshots n)) (inl (subst IsSome (sym there) refl))
      (λ q live old. dite (ℕ_discrete q p) (λ (e : q ≡ p). kept_there q e (finite.get w.snapshots n) live) (λ (ne : q ≢ p). kept_else q ne (finite.get w.snapshots n) ∙ old))
      (λ q old. dite (ℕ_discrete q p)
      (λ (e : q ≡ p). inr (c, ap (decision_of w.writes.history) e ∙ decided, subst (λ (z : ℕ). z ≤ n) (sym e) from, below))
      (λ (ne : q ≢ p). inl (sym (kept_else q ne (finite.get w.snapshots n)) ∙ old)))

  same_count : (o : Option LiveSnapshot) → count_of (after_keep p o) ≡ count_of o
  same_count None = refl
  same_count (Some y) = refl

  still_registered : (o : Option LiveSnapshot) (y : LiveSnapshot) → after_keep p o ≡ Some y → (z : LiveSnapshot) × (o ≡ Some z) × (z.registrations ≡ y.registrations)
  still_registered None y e = let no : None ≡ Some y = e in absurd (cc)
  still_registered (Some z) y e = (z, refl, ap (λ (v : LiveSnapshot). v.registrations) (same_some (record z { old_commits = finset.insert z.old_commits p }) y e))

  registered_noted : (by : ℕ) (a : Actor) → get_elem? w.actors by ≡ some a → IsSound w → AreRegistered w.writes.history (with_old_commit w.snapshots n p) (map (participants_of registered_of) (set w.actors by (with_view a a.participant.seen a.learned a.participant.registered a.reading)))
  registered_noted by a at s = registered_at w.writes.history w.snapshots n (after_keep p (finite.get w.snapshots n)) w.actors by a (with_view a a.participant.seen a.learned a.participant.registered a.reading) at refl
      (ap (λ (z : ℕ). z + at_number n a.participant.registered) (same_count (finite.get w.snapshots n))) (λ t ne. refl)
      (λ y is. let o = still_registered (finite.get w.snapshots n) y is in let k = s.registrations.live n o.0 o.1 in (subst (λ (z : ℕ). 1 ≤ z) o.2 k.0, k.1))
      (s.registrations.smallest by 0 a.participant.registered (mine registered_of w.actors by a a at refl)) s.registrations

pub notes_old_commit : (w : World) (by : ℕ) (a : Actor) (n p : ℕ) → get_elem? w.actors by ≡ some a → Needs w by a (add_old_commit n p) → IsSound w → IsSound (done w by (forgets w.writes.history (length w.cache) (add_old_commit n p) a) (add_old_commit n p))
notes_old_commit w by a n p at k s =
    let x = live_there (finite.get w.snapshots n) k.1 in
    let c = k.3.0 in let decided = k.3.1 in let from = k.3.2 in let below = k.3.3 in
    snapshots_step w by a (add_old_commit n p) (with_old_commit w.snapshots n p) a.participant.seen a.learned a.participant.registered a.reading at k.0 (grows_noted w n p c x.0 x.1 decided from below)
    (record {
      seen_part = s.seen by 0 a.participant.seen (participants_of seen_of a, at_map (participants_of seen_of) w.actors by a at, refl);
      learned_part = s.learned by a.learned (at_map learned_of w.actors by a at);
      view_part = s.viewed by 0 (view_of a.participant) (mine view_of w.actors by a a at refl);
      reads = λ r is. (is, (s.readers by (reader_of a) (at_map reader_of w.actors by a at) r is).registered_at);
      none_kept = λ zero_flag. absurd (k.2 zero_flag);
    })
    (registered_noted w n p c x.0 x.1 decided from below by a at s) s

-- ---- a registration is released

same_registration : (r q : Registration) (a b : Bool) → (r.number == q.number) ≡ a → (r.smallest == q.smallest) ≡ b → (a && b) ≡ true → r ≡ q
same_registration r q true true is also e = λ i. record { number = number_is i; smallest = smallest_is i }
  where
    equal : (n m : ℕ) → (n == m) ≡ true → n ≡ m
    equal n m f = grind (arith, nat_tests)

    number_is : r.number ≡ q.number
    number_is = equal r.number q.number is

    smallest_is : r.smallest ≡ q.smallest
    smallest_is = equal r.smallest q.smallest also
same_registration r q true false is also e = absurd (true≢false (sym e))
same_registration r q false b is also e = absurd (true≢false (sym e))

any_same_by : (r q : Registration) (qs : List Registration) (b : Bool) → is_same_registration r q ≡ b → (list_any (is_same_registration r) qs ≡ true → IsIn r qs) → (b || list_any (is_same_registration r) qs) ≡ true → IsIn r (q ∷ qs)
any_same_by r q qs true is rest f = inl (sym (same_registration r q _ _ refl refl is))
any_same_by r q qs false is rest f = inr (rest f)

any_same : (r : Registration) (left : List Registration) → list_any (is_same_registration r) left ≡ true → IsIn r left
any_same r [] e = absurd (true≢false (sym e))
any_same r (q ∷ qs) e = any_same_by r q qs (is_same_registration r q) refl (any_same r qs) e

still_reads : (o : Option Observed) (left : List Registration) (r : Observed) → reading_left o left ≡ Some r → (o ≡ Some r) × IsIn (snapshot_of r) left
still_reads None left r e = let no : None ≡ Some r = e in absurd (cc)
still_reads (Some q) left r e = by_test (list_any (is_same_registration (snapshot_of q)) left) refl e
  where
    by_test : (b : Bool) → list_any (is_same_registration (snapshot_of q)) left ≡ b → cond b (Some q) None ≡ Some r → (Some q ≡ Some r) × IsIn (snapshot_of r) left
    by_test true is f = (f, subst (λ (z : Observed). IsIn (snapshot_of z) left) (same_some q r f) (any_same (snapshot_of q) left is))
    by_test false is f = let no : None ≡ Some r = f in absurd (cc)

module _ (w : World) (by : ℕ) (a : Actor) (front back : List Registration) (r : Registration) (x : LiveSnapshot) (at : get_elem? w.actors by ≡ some a) (s : IsSound w) (mine : a.participant.registered ≡ front ++ r ∷ back) (there : finite.get w.snapshots r.number ≡ Some x) where
  old_released : (q : ℕ) (b : Bool) → has_old q (cond b None (Some (record x { registrations = x.registrations - 1 }))) ≡ true → finset.contains x.old_commits q ≡ true
  old_released q true e = absurd (true≢false (sym e))
  old_released q false e = e

  old_stays : (q : ℕ) (b : Bool) → IsSome (cond b None (Some (record x { registrations = x.registrations - 1 }))) → finset.contains x.old_commits q ≡ true → has_old q (cond b None (Some (record x { registrations = x.registrations - 1 }))) ≡ true
  old_stays q true live e = absurd (true≢false (sym live))
  old_stays q false live e = e

  -- what is under the number it was under, and it stays while the number is live
  was_old : (q : ℕ) → has_old q (after_release (finite.get w.snapshots r.number)) ≡ true → has_old q (finite.get w.snapshots r.number) ≡ true
  was_old q old = ap (has_old q) there ∙ old_released q (nat_le x.registrations 1) (sym (ap (λ (z : Option LiveSnapshot). has_old q (after_release z)) there) ∙ old)

  still_old : (q : ℕ) → IsSome (after_release (finite.get w.snapshots r.number)) → has_old q (finite.get w.snapshots r.number) ≡ true → has_old q (after_release (finite.get w.snapshots r.number)) ≡ true
  still_old q live old =
      ap (λ (z : Option LiveSnapshot). has_old q (after_release z)) there ∙ old_stays q (nat_le x.registrations 1) (subst (λ (z : Option LiveSnapshot). IsSome (after_release z)) there live) (sym (ap (has_old q) there) ∙ old)

  none_old : (q : ℕ) (b : Bool) → has_old q (after_release (finite.get w.snapshots r.number)) ≡ b → has_old q (finite.get w.snapshots r.number) ≡ false → b ≡ false
  none_old q true is none = absurd (true≢false (sym (was_old q is) ∙ none))
  none_old q false is none = refl

  grows_released : SnapshotsGrow w.writes.history w.snapshots (with_released w.snapshots r.number)
  grows_released = grows_at w.writes.history w.snapshots r.number (after_release (finite.get w.snapshots r.number)) (inl (subst IsSome (sym there) refl)) still_old (λ q old. inl (was_old q old))

  count_less : (b : Bool) → nat_le x.registrations 1 ≡ b → 1 ≤ x.registrations → count_of (cond b None (Some (record x { registrations = x.registrations - 1 }))) + 1 ≡ x.registrations
  count_less true le some_left = let n : ℕ = x.registrations in let low : n ≤ 1 = grind (arith, nat_tests) in omega arith
  count_less false le some_left = omega arith

  still_some : (b : Bool) (y : LiveSnapshot) → nat_le x.registrations 1 ≡ b → cond b None (Some (record x { registrations = x.registrations - 1 })) ≡ Some y → 1 ≤ y.registrations
  still_some true y le e = let no : None ≡ Some y = e in absurd (cc)
  still_some false y le e =
      let n : ℕ = x.registrations in let high : 1 < n = grind (arith, nat_tests) in
      subst (λ (z : LiveSnapshot). 1 ≤ z.registrations) (same_some (record x { registrations = x.registrations - 1 }) y e) (omega arith)

  registered_released : AreRegistered w.writes.history (with_released w.snapshots r.number) (map (participants_of registered_of) (set w.actors by (with_view a a.participant.seen a.learned (front ++ back) (reading_left a.reading (front ++ back)))))
  registered_released =
      let full : (t : ℕ) → at_number t a.participant.registered ≡ at_number t front + (one_if (r.number == t) + at_number t back) = λ t. ap (at_number t) mine ∙ sum_append t front (r ∷ back) in
      registered_at w.writes.history w.snapshots r.number (after_release (finite.get w.snapshots r.number)) w.actors by a (with_view a a.participant.seen a.learned (front ++ back) (reading_left a.reading (front ++ back))) at refl
      (let left = sum_append r.number front back in
      let all = full r.number in
      let now : count_of (after_release (finite.get w.snapshots r.number)) ≡ count_of (after_release (Some x)) = ap (λ (z : Option LiveSnapshot). count_of (after_release z)) there in
      let before : count_of (finite.get w.snapshots r.number) ≡ x.registrations = ap count_of there in
      let less : count_of (after_release (Some x)) + 1 ≡ x.registrations = count_less (nat_le x.registrations 1) refl (s.registrations.live r.number x there).0 in
      let one : one_if (r.number == r.number) ≡ 1 = ap one_if (eq-eqb r.number r.number refl) in omega (arith, left, all, now, before, less, one))
      (λ t ne. let left = sum_append t front back in let all = full t in let none : one_if (r.number == t) ≡ 0 = ap one_if (ne_eqb r.number t (λ (e : r.number ≡ t). ne (sym e))) in omega (arith, left, all, none))
      (λ y is. (still_some (nat_le x.registrations 1) y refl (sym (ap after_release there) ∙ is), (s.registrations.live r.number x there).1))
      (below_all w.writes.history (front ++ back) (λ q k. below_smallest w by a q at (subst (IsIn q) (sym mine) (in_with q r front back k)) s)) s.registrations

pub releases_one : (w : World) (by : ℕ) (a : Actor) (front back : List Registration) (r : Registration) → get_elem? w.actors by ≡ some a → Needs w by a (release front r back) → IsSound w → IsSound (done w by (forgets w.writes.history (length w.cache) (release front r back) a) (release front r back))
releases_one w by a front back r at n s =
    let x = registered_there w.writes.history w.snapshots w.actors by a r at (subst (IsIn r) (sym n.1) (in_middle r front back)) s.registrations in
    snapshots_step w by a (release front r back) (with_released w.snapshots r.number) a.participant.seen a.learned (front ++ back) (reading_left a.reading (front ++ back)) at n.0 (grows_released w by a front back r x.0 at s n.1 x.1)
    (record {
      seen_part = s.seen by 0 a.participant.seen (participants_of seen_of a, at_map (participants_of seen_of) w.actors by a at, refl);
      learned_part = s.learned by a.learned (at_map learned_of w.actors by a at);
      view_part = λ q there. s.viewed by 0 (view_of a.participant) (mine view_of w.actors by a a at refl) q (subst (IsIn q) (sym n.1) (in_with q r front back there));
      reads = λ q is. still_reads a.reading (front ++ back) q is;
      none_kept = λ zero_flag. none_at w.writes.history w.snapshots r.number (after_release (finite.get w.snapshots r.number)) (λ q none. none_old w by a front back r x.0 at s n.1 x.1 q _ refl none) (s.flags.none_kept zero_flag);
    })
    (registered_released w by a front back r x.0 at s n.1 x.1) s
