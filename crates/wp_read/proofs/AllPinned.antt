-- All that is live is registered once more in one step of the snapshots.
use Rattle.std.proofs.Common.{◌≡◌, ◌⊎◌, ⊎_elim, inl, inr, ℕ, suc, ◌≤◌, ◌==◌, eq-eqb, true, List, [], ◌∷◌, ◌++◌, length, map, refl, sym, subst, ap, ◌∙◌, ◌+◌, Option, Some, None, is_some, append-nil, append_assoc, length-append, arith}
use Rattle.std.specs.Prelude.{slice_index_or}
use Rattle.std.specs.FinMap as finite
use Rattle.std.specs.List.{Contains}
use Rattle.std.proofs.lemmas.List.Folds.{list_any_at}
use Rattle.wp_model.specs.declared.entry.Entry.{Entry}
use Rattle.wp_model.specs.Covered.{is_among}
use Rattle.wp_model.specs.Snapshots as snaps
use Rattle.wp_model.specs.Snapshots.{Snapshots, IsLive}
use Rattle.wp_core.specs.Changes.{registers, held_with, with_registered, with_released}
use Rattle.wp_core.specs.Lists.{IsIn}
use Rattle.wp_core.specs.Reading.{Registration}
use Rattle.wp_core.specs.Sound.Views.{IsGuarded}
use Rattle.wp_core.specs.Steps.{Step, register_again, note}
use Rattle.wp_core.specs.States.{Content, snapshots}
use Rattle.wp_core.specs.Turns.{Holders, Holds, snapshots_turn}
use Rattle.wp_core.specs.Views.{Fact, live_listed}
use Rattle.wp_core.specs.World.{Participant, Actor, World}
use Rattle.wp_rule.specs.Moves.{AreQuiet, AreMet, MayMake, Moved, world_after_step, actor_after_step, actor_after}
use Rattle.wp_rule.specs.Words.{Place, IsAt}
use Rattle.wp_rule.proofs.Forgets.{EndsNothing, forgets_nothing, note_ends}
use Rattle.wp_rule.proofs.Knows.{at_sound, held_is, seen_is}
use Rattle.wp_shared.specs.Clients.{KeepClient}
use Rattle.wp_shared.specs.Seats.{SharedState, SeatState, place_at}
use Rattle.wp_shared.proofs.OneStep.{becomes}
use Rattle.wp_shared.proofs.Tables.{held_state}
use Rattle.wp_read.specs.Registers.{ChangesSnapshots, HasLeast, IsTakenAt, IsPinned, AreCounted, AreLive, MayPin, again, numbers_of, with_each, pinning, pinned}
use Rattle.wp_read.proofs.Counts.{live_still, live_before}
use Rattle.wp_read.proofs.Registers.{registered_and_released}
use Rattle.wp_read.proofs.Seated.{changes_then, pinned_more}

again_ends : (number : ℕ) → EndsNothing (register_again number)
again_ends number = record { guard = λ turn. refl; place = λ words place. refl; words = refl; delayed_flag = refl; old_flag = refl; pending = refl; adds = refl; takes = refl; prepared = refl; unprepared = refl; delays = refl; transaction = λ history name. refl; changes = λ history key. refl; direct = refl; moves = refl; replaces = refl; installing = refl }

-- ---- the steps, over what is left of the numbers

module _ (floor : ℕ) (listed : List ℕ) where
  abbrev fact : Fact
  fact = live_listed floor listed

  abbrev steps_for : List ℕ → List Step
  steps_for numbers = map register_again numbers ++ note fact ∷ []

  quiet : (numbers : List ℕ) → AreQuiet (steps_for numbers)
  quiet [] = (tt, tt)
  quiet (n ∷ numbers) = (tt, quiet numbers)

  keep : (numbers : List ℕ) → KeepClient (steps_for numbers)
  keep [] = (tt, tt)
  keep (n ∷ numbers) = (tt, keep numbers)

  unguarded : (holders : Holders) (by : ℕ) → IsGuarded holders fact by
  unguarded holders by turn e = let no : None ≡ Some turn = e in absurd (cc)

  met : (numbers : List ℕ) (w : World) (by : ℕ) (a : Actor) → Holds w.holders snapshots_turn by → a.live ≡ true → floor ≤ length w.writes.history
      → ((n : ℕ) → IsIn n numbers → IsLive w.snapshots n × (n ≤ length a.participant.seen)) → ((n : ℕ) → IsLive w.snapshots n → (is_among listed n ≡ true) ⊎ (floor ≤ n)) → AreMet (steps_for numbers) w by a
  met [] w by a holds live low there all = ((live, unguarded w.holders by, (low, all)), tt)
  met (x ∷ numbers) w by a holds live low there all = let here = there x (inl refl) in (
    (holds, here.0, here.1),
    met numbers (world_after_step w by a (register_again x)) by (actor_after_step w a (register_again x)) holds live low
        (λ n k. let t = there n (inr k) in (live_still w.snapshots x n t.0, t.1))
        (λ n k. ⊎_elim (λ (e : n ≡ x). all n (subst (IsLive w.snapshots) (sym e) (there x (inl refl)).0)) (λ (was : IsLive w.snapshots n). all n was) (live_before w.snapshots x n k)),
  )

  after : (numbers : List ℕ) (w : World) (by : ℕ) (a : Actor) (m : Snapshots) (others : List Content) → w.snapshots ≡ m → a.held ≡ snapshots m ∷ others
      → actor_after (steps_for numbers) w by a
      ≡ record a { participant = record a.participant { registered = a.participant.registered ++ map again numbers }; held = snapshots (with_each m numbers) ∷ others; notes = fact ∷ a.notes }
  after [] w by a m others is held =
      ap (λ (x : Actor). record x { notes = fact ∷ x.notes }) (forgets_nothing w.writes.history (length w.cache) (note fact) a (note_ends fact))
      ∙ (λ i. record a { participant = record a.participant { registered = (sym (append-nil a.participant.registered)) i }; held = held i; notes = fact ∷ a.notes })
  after (x ∷ numbers) w by a m others is held =
      let next : Actor = record (registers a (again x)) { held = held_with a.held (snapshots (with_registered w.snapshots x)) } in
      let now : actor_after_step w a (register_again x) ≡ next = ap (λ (b : Actor). record (registers b (again x)) { held = held_with b.held (snapshots (with_registered w.snapshots x)) }) (forgets_nothing w.writes.history (length w.cache) (register_again x) a (again_ends x)) in
      ap (actor_after (steps_for numbers) (world_after_step w by a (register_again x)) by) now
      ∙ (after numbers (world_after_step w by a (register_again x)) by next (with_registered m x) others (ap (λ (y : Snapshots). with_registered y x) is) (λ i. held_with (held i) (snapshots (with_registered (is i) x)))
      ∙ (λ i. record a { participant = record a.participant { registered = (append_assoc a.participant.registered (again x ∷ []) (map again numbers)) i }; held = snapshots (with_each (with_registered m x) numbers) ∷ others; notes = fact ∷ a.notes }))

-- ---- the seat

module _ {D : Type 0} (z : SharedState D) (p : Place) (steps : World → List Step) (s t : SeatState) (floor : ℕ) (numbers : List ℕ) (m : Snapshots) (others : List Content) (is : steps ≡ (λ w. pinning floor numbers)) (held : s.knows.held ≡ snapshots m ∷ others) where
  there : IsIn (snapshots m) s.knows.held
  there = subst (IsIn (snapshots m)) (sym held) (inl refl)

  abbrev Known : Snapshots → Type 0
  Known x = ((n : ℕ) → IsIn n numbers → IsLive x n × (n ≤ length s.knows.participant.seen)) × ((n : ℕ) → IsLive x n → (is_among numbers n ≡ true) ⊎ (floor ≤ n))

  pub may_pin : s.knows.live ≡ true → MayPin s.knows.participant.seen m floor numbers → MayMake p s.knows steps
  may_pin live may = subst (MayMake p s.knows) (sym is) (λ (w : World) (k : IsAt p s.knows w).
      let known : Known w.snapshots = subst Known (sym (held_state p s.knows w (snapshots m) k there)) (may.live, may.all) in
      let begins = seen_is p s.knows w k in
      let long : length w.writes.history ≡ length s.knows.participant.seen + length begins.0 = ap length begins.1 ∙ length-append s.knows.participant.seen begins.0 in
      let low : floor ≤ length w.writes.history = (let f = may.floor_seen in omega arith) in
      (quiet floor numbers numbers, met floor numbers numbers w p.by s.knows (held_is p s.knows w (snapshots m) k there).0 live low known.0 known.1))

  pub pin_keeps : (w : World) → KeepClient (steps w)
  pin_keeps w = subst (λ (x : World → List Step). KeepClient (x w)) (sym is) (keep floor numbers numbers)

  pub pinned_so : (so : World → Type 0) → p ≡ place_at z s.by → (t.table ≡ s.table) × (t.by ≡ s.by) × (t.turns ≡ s.turns) → Moved p steps so s.knows t.knows → t ≡ pinned s floor numbers m others
  pinned_so so place same moved =
      let n : Moved (place_at z s.by) (λ w. pinning floor numbers) so s.knows t.knows = subst (λ (x : Place × (World → List Step)). Moved x.0 x.1 so s.knows t.knows) (λ i. (place i, is i)) moved in
      becomes s t (pinned s floor numbers m others).knows same
      (n.actor ∙ after floor numbers numbers n.world s.by s.knows m others (held_state (place_at z s.by) s.knows n.world (snapshots m) n.before there) held)

-- ---- what is known of the numbers

contains_in : (x : ℕ) (xs : List ℕ) → IsIn x xs → Contains xs x
contains_in x [] there = absurd there
contains_in x (y ∷ ys) (inl e) = (0, omega arith, e)
contains_in x (y ∷ ys) (inr there) = let k = contains_in x ys there in (suc k.0, (let lt = k.1 in omega arith), k.2)

among_contains : (xs : List ℕ) (n : ℕ) → Contains xs n → is_among xs n ≡ true
among_contains xs n k = list_any_at (λ m. m == n) xs k.0 n k.1 (eq-eqb (slice_index_or xs k.0 n) n k.2)

pub numbers_again : (numbers : List ℕ) → numbers_of (map again numbers) ≡ numbers
numbers_again [] = refl
numbers_again (n ∷ numbers) = ap (λ (ns : List ℕ). n ∷ ns) (numbers_again numbers)

module _ {D : Type 0} (z : SharedState D) (old : SeatState) (history : List Entry) (floor : Registration) (m : Snapshots) (taken : IsTakenAt z old history floor m) where
  counted_here : (q : ℕ) (x : snaps.LiveSnapshot) → finite.get m q ≡ Some x → (1 ≤ x.registrations) × (q ≤ floor.number)
  counted_here q x e =
      let k = (at_sound (place_at z old.by) taken.actor taken.world taken.there).registrations.live q x (ap (λ (y : Snapshots). finite.get y q) taken.live ∙ e) in
      (k.0, subst (λ (n : ℕ). q ≤ n) (sym taken.number) k.1)

  pub taken_counted : AreCounted m
  taken_counted q x e = (counted_here q x e).0

  live_low : (q : ℕ) → IsLive m q → q ≤ floor.number
  live_low q live = let x = some_there (finite.get m q) live in (counted_here q x.0 x.1).1
    where
      some_there : (o : Option snaps.LiveSnapshot) → is_some o ≡ true → (x : snaps.LiveSnapshot) × (o ≡ Some x)
      some_there None e = absurd cc
      some_there (Some x) e = (x, refl)

  pub taken_may_pin : (seen : List Entry) (numbers : List ℕ) (m' : Snapshots) → floor.number ≡ length seen → AreLive m numbers → m' ≡ with_registered m floor.number → MayPin seen m' floor.number numbers
  taken_may_pin seen numbers m' all are same = record {
    floor_seen = (let a = all in omega arith);
    live = λ n there. (let was = (are.each n).0 (contains_in n numbers there) in (subst (λ (x : Snapshots). IsLive x n) (sym same) (live_still m floor.number n was), (let low = live_low n was in let a = all in omega arith)));
    all = λ n live. ⊎_elim
        (λ (e : n ≡ floor.number). inr (omega arith))
        (λ (was : IsLive m n). inl (among_contains numbers n ((are.each n).1 was)))
        (live_before m floor.number n (subst (λ (x : Snapshots). IsLive x n) same live));
  }

-- ---- the floor, and then the numbers

module _ {D : Type 0} {z : SharedState D} {s0 s1 s2 : SeatState} {m1 : Snapshots} {others : List Content} {beneath : List ℕ} {live : List Registration} {n : ℕ} (floor : Registration) (numbers : List ℕ) (changes : ChangesSnapshots z s0 s1 (record s0.knows.participant { registered = s0.knows.participant.registered ++ floor ∷ [] }) m1 others beneath)
    (made : live ≡ map again numbers) (number : n ≡ floor.number) (is : s2 ≡ pinned s1 n numbers m1 others) where
  pub pin_changes : (m' : Snapshots) → m' ≡ with_each m1 numbers → ChangesSnapshots z s0 s2 (record s0.knows.participant { registered = s0.knows.participant.registered ++ floor ∷ live }) m' others beneath
  pin_changes m' same =
      let before = s0.knows.participant.registered in
      let all : s1.knows.participant.registered ++ map again numbers ≡ before ++ floor ∷ live =
      ap (λ (q : Participant). q.registered ++ map again numbers) changes.goes.participant ∙ (append_assoc before (floor ∷ []) (map again numbers) ∙ ap (λ (rs : List Registration). before ++ floor ∷ rs) (sym made)) in
      changes_then s0 s1 s2 (record s0.knows.participant { registered = before ++ floor ∷ [] }) (before ++ floor ∷ live) m1 m' changes
      (subst (λ (x : Snapshots × List Registration). ChangesSnapshots z s1 s2 (record s1.knows.participant { registered = x.1 }) x.0 others beneath) (λ i. ((sym same) i, all i)) (pinned_more s1 s2 n numbers m1 changes.holds is))

  pub pin_seen : s1.knows.participant.seen ≡ s2.knows.participant.seen
  pin_seen = sym (ap (λ (x : SeatState). x.knows.participant.seen) is)

  pub pin_listed : IsIn (live_listed floor.number (numbers_of live)) s2.knows.notes
  pin_listed =
      subst (λ (x : ℕ × List ℕ). IsIn (live_listed x.0 x.1) s2.knows.notes) (λ i. (number i, (sym (ap numbers_of made ∙ numbers_again numbers)) i))
      (subst (λ (x : SeatState). IsIn (live_listed n numbers) x.knows.notes) (sym is) (inl refl))

pub is_pinned : {D : Type 0} (z : SharedState D) (old : SeatState) (history : List Entry) (floor : Registration) (m : Snapshots) (numbers : List ℕ) (live : List Registration) (taken : IsTakenAt z old history floor m) → HasLeast taken.world floor → live ≡ map again numbers → AreLive m numbers → IsPinned z old history floor live
is_pinned z old history floor m numbers live taken least made are =
    let same : numbers_of live ≡ numbers = ap numbers_of made ∙ numbers_again numbers in record {
      before = m;
      taken = taken;
      least = least;
      are_again = made ∙ ap (map again) (sym same);
      are_live = subst (AreLive m) (sym same) are;
    }

-- the floor is taken back
pub unpinned : {D : Type 0} (z : SharedState D) (old : SeatState) (history : List Entry) (floor : Registration) (m m1 m' : Snapshots) → IsTakenAt z old history floor m → m1 ≡ with_registered m floor.number → m' ≡ with_released m1 floor.number → m' ≡ m
unpinned z old history floor m m1 m' taken entered back = back ∙ (ap (λ (x : Snapshots). with_released x floor.number) entered ∙ registered_and_released m floor.number (taken_counted z old history floor m taken floor.number))
