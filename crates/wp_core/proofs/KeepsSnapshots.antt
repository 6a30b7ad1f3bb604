-- Registering, releasing and noting in the old commit map keep a world sound.
use Rattle.std.proofs.Common.{◌≡◌, ◌≢◌, ◌⊎◌, inl, inr, ⊎_elim, ℕ, zero, suc, ◌+◌, ◌≤◌, ◌==◌, eq-eqb, ne_eqb, Bool, true, false, true≢false, List, [], ◌∷◌, ◌++◌, length, map, set, refl, sym, subst, ap, ◌∙◌, Option, Some, None, IsSome, append-nil, arith, ◌<◌}
use mathlib.Core.Option.{some, some-injective, some-ne-none}
use mathlib.Core.Logic.{dite}
use native.Mathlib.Decide.{ℕ_discrete}
use lib.ListN.{get_elem?}
use Rattle.std.specs.Option.{option_map_or}
use Rattle.std.specs.Ordering.{nat_cmp}
use Rattle.std.specs.FinSet as finset
use Rattle.std.specs.FinMap as finite
use Rattle.wp_model.specs.declared.entry.Entry.{Entry}
use Rattle.wp_model.specs.Decision.{decision_of}
use Rattle.wp_model.specs.History.{is_undecided}
use Rattle.wp_model.specs.Snapshots.{LiveSnapshot, Snapshots, IsLive, after_register, NoOldCommits}
use Rattle.wp_core.proofs.PastsGrow.{in_front, in_either}
use Rattle.wp_core.proofs.AllParticipants.{mine}
use Rattle.wp_core.proofs.KeepsSeen.{shorter}
use Rattle.wp_core.specs.Lists.{IsIn, one_if, total}
use Rattle.wp_core.specs.Reading.{Registration, snapshot_of}
use Rattle.wp_core.specs.World.{Actor, World}
use Rattle.wp_core.specs.Steps.{register, register_again}
use Rattle.wp_core.specs.Changes.{placed, with_registered}
use Rattle.wp_core.specs.Conditions.{MayBeSmallest}
use Rattle.wp_core.specs.Effects.{done}
use Rattle.wp_core.specs.Needs.{Needs}
use Rattle.wp_core.specs.Notes.{forgets}
use Rattle.wp_core.specs.Sound.Actors.{StartsWith, seen_of, participants_of, learned_of}
use Rattle.wp_core.specs.Sound.Snapshots.{registered_of, AreRegistered, AreBelowCommitted, IsBelowCommitted, count_of, has_versions_at, view_of}
use Rattle.wp_core.specs.Sound.Reader.{reader_of}
use Rattle.wp_core.specs.IsSound.{IsSound}
use Rattle.wp_core.proofs.Frames.{at_map}
use Rattle.wp_core.proofs.Participants.{each_person_set, total_person_set}
use Rattle.wp_core.proofs.HistoryLaws.{decided_or_undecided, decision_within}
use Rattle.wp_model.proofs.Numbers.{get_inserted, get_inserted_else, get_removed, get_removed_else}
use Rattle.wp_core.proofs.Readings.{below_smallest}
use Rattle.wp_core.proofs.SnapshotsStep.{SnapshotsGrow, ViewsGrow, with_view, snapshots_step}
use Rattle.wp_model.proofs.Tests.{same_some}

-- ---- one number's snapshot

placed_there : (m : Snapshots) (n : ℕ) (o : Option LiveSnapshot) → finite.get (placed m n o) n ≡ o
placed_there m n None = get_removed m n
placed_there m n (Some x) = get_inserted m n x

placed_else : (m : Snapshots) (n : ℕ) (o : Option LiveSnapshot) (t : ℕ) → t ≢ n → finite.get (placed m n o) t ≡ finite.get m t
placed_else m n None t ne = get_removed_else m n t ne
placed_else m n (Some x) t ne = get_inserted_else m n x t ne

abbrev pub has_old : ℕ → Option LiveSnapshot → Bool
has_old p o = option_map_or (λ x. finset.contains x.old_commits p) o false

pub live_there : (o : Option LiveSnapshot) → IsSome o → (x : LiveSnapshot) × (o ≡ Some x)
live_there None live = absurd (true≢false (sym live))
live_there (Some x) live = (x, refl)

-- ---- sums over registrations

abbrev pub at_number : ℕ → List Registration → ℕ
at_number t = total (λ r. one_if (r.number == t))

pub sum_append : (t : ℕ) (front back : List Registration) → at_number t (front ++ back) ≡ at_number t front + at_number t back
sum_append t [] back = omega arith
sum_append t (r ∷ rs) back = let k = sum_append t rs back in omega arith

pub in_with : {X : Type 0} (x y : X) (front back : List X) → IsIn x (front ++ back) → IsIn x (front ++ y ∷ back)
in_with x y [] back there = inr there
in_with x y (z ∷ zs) back there = ⊎_elim (λ (e : z ≡ x). inl e) (λ (k : IsIn x (zs ++ back)). inr (in_with x y zs back k)) there

pub in_middle : {X : Type 0} (x : X) (front back : List X) → IsIn x (front ++ x ∷ back)
in_middle x [] back = inl refl
in_middle x (z ∷ zs) back = inr (in_middle x zs back)

at_in : {X : Type 0} (xs : List X) (i : ℕ) (x : X) → get_elem? xs i ≡ some x → IsIn x xs
at_in [] i x e = absurd (some-ne-none x (sym e))
at_in (y ∷ ys) zero x e = inl (some-injective y x e)
at_in (y ∷ ys) (suc i) x e = inr (at_in ys i x e)

-- ---- what is below a smallest

pub below_all : (history : List Entry) (rs : List Registration) → ((r : Registration) → IsIn r rs → IsBelowCommitted history r) → AreBelowCommitted history rs
below_all history rs k i r at = k r (at_in rs i r at)

-- ---- one number's snapshot changes

module _ (history : List Entry) (m : Snapshots) (n : ℕ) (o : Option LiveSnapshot) where
  -- what is so of each number's snapshot, from what is so of this one's and of those that stay
  at_each : (P : Option LiveSnapshot → Option LiveSnapshot → ℕ → Type 0) → P (finite.get m n) o n → ((t : ℕ) → t ≢ n → P (finite.get m t) (finite.get m t) t) → (t : ℕ) → P (finite.get m t) (finite.get (placed m n o) t) t
  at_each P changed others t =
      dite (ℕ_discrete t n)
      (λ (e : t ≡ n). subst (λ (z : ℕ). P (finite.get m z) (finite.get (placed m n o) z) z) (sym e) (subst (λ (z : Option LiveSnapshot). P (finite.get m n) z n) (sym (placed_there m n o)) changed))
      (λ (ne : t ≢ n). subst (λ (z : Option LiveSnapshot). P (finite.get m t) z t) (sym (placed_else m n o t ne)) (others t ne))

  pub grows_at : IsLive m n ⊎ (n ≡ length history) → ((p : ℕ) → IsSome o → has_old p (finite.get m n) ≡ true → has_old p o ≡ true)
      → ((p : ℕ) → has_old p o ≡ true → (has_old p (finite.get m n) ≡ true) ⊎ ((c : ℕ) × (decision_of history p ≡ Some c) × (p ≤ n) × (n < c))) → SnapshotsGrow history m (placed m n o)
  grows_at known stays came = record {
    live = at_each (λ old new t. IsSome new → IsSome old ⊎ (t ≡ length history)) (λ live. known) (λ t ne live. inl live);
    stays = λ t p. at_each (λ old new u. IsSome new → has_old p old ≡ true → has_old p new ≡ true) (stays p) (λ u ne live there. there) t;
    came = λ t p. at_each (λ old new u. has_old p new ≡ true → (has_old p old ≡ true) ⊎ ((c : ℕ) × (decision_of history p ≡ Some c) × (p ≤ u) × (u < c))) (came p) (λ u ne there. inl there) t;
  }

  pub none_at : ((p : ℕ) → has_old p (finite.get m n) ≡ false → has_old p o ≡ false) → NoOldCommits m → NoOldCommits (placed m n o)
  none_at still none t p = at_each (λ old new u. has_old p old ≡ false → has_old p new ≡ false) (still p) (λ u ne k. k) t (none t p)

  pub registered_at : (xs : List Actor) (by : ℕ) (a b : Actor) → get_elem? xs by ≡ some a → b.joined ≡ a.joined → count_of o + at_number n a.participant.registered ≡ count_of (finite.get m n) + at_number n b.participant.registered
      → ((t : ℕ) → t ≢ n → at_number t b.participant.registered ≡ at_number t a.participant.registered) → ((x : LiveSnapshot) → o ≡ Some x → (1 ≤ x.registrations) × (n ≤ length history)) → AreBelowCommitted history b.participant.registered
      → AreRegistered history m (map (participants_of registered_of) xs) → AreRegistered history (placed m n o) (map (participants_of registered_of) (set xs by b))
  registered_at xs by a b at same count apart live below k = record {
    counted = λ t.
        let sum = total_person_set registered_of (at_number t) xs by a b at same in
        let was = k.counted t in
        let now = at_each (λ old new u. count_of new + at_number u a.participant.registered ≡ count_of old + at_number u b.participant.registered) count (λ u ne. ap (λ (z : ℕ). count_of (finite.get m u) + z) (sym (apart u ne))) t in
        omega (arith, sum, was, now);
    live = at_each (λ old new u. (x : LiveSnapshot) → new ≡ Some x → (1 ≤ x.registrations) × (u ≤ length history)) live (λ u ne. k.live u);
    smallest = each_person_set registered_of (AreBelowCommitted history) xs by a b at below same k.smallest;
  }

-- ---- one registration more

module _ (w : World) (by : ℕ) (a : Actor) (n least : ℕ) (at : get_elem? w.actors by ≡ some a) (s : IsSound w) (known : IsLive w.snapshots n ⊎ (n ≡ length w.writes.history)) (low : n ≤ length w.writes.history) (below : IsBelowCommitted w.writes.history (record { number = n; smallest = least })) where
  abbrev r : Registration
  r = record { number = n; smallest = least }

  same_old : (p : ℕ) (o : Option LiveSnapshot) → has_old p (after_register o) ≡ has_old p o
  same_old p None = finset.contains-empty nat_cmp p
  same_old p (Some x) = refl

  grows_now : SnapshotsGrow w.writes.history w.snapshots (with_registered w.snapshots n)
  grows_now = grows_at w.writes.history w.snapshots n (after_register (finite.get w.snapshots n)) known (λ p live there. same_old p (finite.get w.snapshots n) ∙ there) (λ p there. inl (sym (same_old p (finite.get w.snapshots n)) ∙ there))

  one_more : (o : Option LiveSnapshot) → count_of (after_register o) ≡ count_of o + 1
  one_more None = refl
  one_more (Some x) = refl

  found_more : (o : Option LiveSnapshot) (x : LiveSnapshot) → after_register o ≡ Some x → 1 ≤ x.registrations
  found_more None x e = let q = same_some (record { registrations = 1; old_commits = finset.empty }) x e in subst (λ (z : LiveSnapshot). 1 ≤ z.registrations) q (omega arith)
  found_more (Some y) x e = let q = same_some (record y { registrations = y.registrations + 1 }) x e in subst (λ (z : LiveSnapshot). 1 ≤ z.registrations) q (omega arith)

  registered_now : (seen learned : List Entry) → AreRegistered w.writes.history (with_registered w.snapshots n) (map (participants_of registered_of) (set w.actors by (with_view a seen learned (a.participant.registered ++ r ∷ []) a.reading)))
  registered_now seen learned = registered_at w.writes.history w.snapshots n (after_register (finite.get w.snapshots n)) w.actors by a (with_view a seen learned (a.participant.registered ++ r ∷ []) a.reading) at refl
      (let count = one_more (finite.get w.snapshots n) in let more = sum_append n a.participant.registered (r ∷ []) in let one : one_if (n == n) ≡ 1 = ap one_if (eq-eqb n n refl) in omega (arith, count, more, one))
      (λ t ne. let more = sum_append t a.participant.registered (r ∷ []) in let none : one_if (n == t) ≡ 0 = ap one_if (ne_eqb n t (λ (e : n ≡ t). ne (sym e))) in omega (arith, more, none))
      (λ x is. (found_more (finite.get w.snapshots n) x is, low))
      (below_all w.writes.history (a.participant.registered ++ r ∷ []) (λ q there. ⊎_elim (λ (k : IsIn q a.participant.registered). below_smallest w by a q at k s) (λ (e : r ≡ q). subst (IsBelowCommitted w.writes.history) e below) (in_either q r a.participant.registered there))) s.registrations

  reads_now : (seen learned : List Entry) → StartsWith w.writes.history seen → StartsWith w.writes.history learned → length a.participant.seen ≤ length seen → n ≤ length seen → ViewsGrow w a (with_registered w.snapshots n) seen learned (a.participant.registered ++ record { number = n; smallest = least } ∷ []) a.reading
  reads_now seen learned x y more now = record {
    seen_part = x;
    learned_part = y;
    view_part = λ r there. ⊎_elim
        (λ (k : IsIn r a.participant.registered). let l = s.viewed by 0 (view_of a.participant) (mine view_of w.actors by a a at refl) r k in omega (arith, l, more))
        (λ (k : record { number = n; smallest = least } ≡ r). subst (λ (z : Registration). z.number ≤ length seen) k now) (in_either r (record { number = n; smallest = least }) a.participant.registered there);
    reads = λ r is. (is, in_front (snapshot_of r) a.participant.registered (record { number = n; smallest = least } ∷ []) (s.readers by (reader_of a) (at_map reader_of w.actors by a at) r is).registered_at);
    none_kept = λ zero_flag. none_at w.writes.history w.snapshots n (after_register (finite.get w.snapshots n)) (λ p none. same_old p (finite.get w.snapshots n) ∙ none) (s.flags.none_kept zero_flag);
  }

none_at_zero : (history : List Entry) → has_versions_at history 0 ≡ true → ⊥
none_at_zero history e = true≢false (sym e)

-- a smallest of 1 says nothing
below_one : (history : List Entry) (n : ℕ) → IsBelowCommitted history (record { number = n; smallest = 1 })
below_one history n p lt le has = let q : p ≡ 0 = omega arith in absurd (none_at_zero history (subst (λ (z : ℕ). has_versions_at history z ≡ true) q has))

below_least : (w : World) (by least : ℕ) → MayBeSmallest w by least → IsSound w → IsBelowCommitted w.writes.history (record { number = length w.writes.history; smallest = least })
below_least w by least (inl one) s p lt le has = below_one w.writes.history (length w.writes.history) p (omega (arith, one)) le has
below_least w by least (inr k) s p lt le has =
    ⊎_elim (λ (d : (c : ℕ) × (decision_of w.writes.history p ≡ Some c)). record { by = d.0; decided = d.1; within = decision_within w.writes.history p d.0 d.1 })
    (λ (u : is_undecided w.writes.history p ≡ true). let low = k.2 p (s.undecided.found p u) in absurd (omega arith))
    (decided_or_undecided w.writes.history p has)

pub registers_now : (w : World) (by : ℕ) (a : Actor) (least : ℕ) → get_elem? w.actors by ≡ some a → Needs w by a (register least) → IsSound w → IsSound (done w by (forgets w.writes.history (length w.cache) (register least) a) (register least))
registers_now w by a least at n s =
    let p : ℕ = length w.writes.history in
    let low : length w.writes.history ≤ length w.writes.history = omega arith in
    let below = below_least w by least n.1 s in
    snapshots_step w by a (register least) (with_registered w.snapshots p) w.writes.history [] (a.participant.registered ++ record { number = p; smallest = least } ∷ []) a.reading at n.0 (grows_now w by a p least at s (inr refl) low below)
    (reads_now w by a p least at s (inr refl) low below w.writes.history [] ([], sym (append-nil w.writes.history)) (w.writes.history, refl) (shorter w.writes.history a.participant.seen (s.seen by 0 a.participant.seen (mine seen_of w.actors by a a at refl))) low) (registered_now w by a p least at s (inr refl) low below w.writes.history []) s

pub registers_again : (w : World) (by : ℕ) (a : Actor) (n : ℕ) → get_elem? w.actors by ≡ some a → Needs w by a (register_again n) → IsSound w → IsSound (done w by (forgets w.writes.history (length w.cache) (register_again n) a) (register_again n))
registers_again w by a n at k s =
    let x = live_there (finite.get w.snapshots n) k.1 in
    let low = (s.registrations.live n x.0 x.1).1 in
    let below = below_one w.writes.history n in
    snapshots_step w by a (register_again n) (with_registered w.snapshots n) a.participant.seen a.learned (a.participant.registered ++ record { number = n; smallest = 1 } ∷ []) a.reading at k.0 (grows_now w by a n 1 at s (inl k.1) low below)
    (reads_now w by a n 1 at s (inl k.1) low below a.participant.seen a.learned (s.seen by 0 a.participant.seen (participants_of seen_of a, at_map (participants_of seen_of) w.actors by a at, refl)) (s.learned by a.learned (at_map learned_of w.actors by a at)) (omega arith) k.2)
    (registered_now w by a n 1 at s (inl k.1) low below a.participant.seen a.learned) s
