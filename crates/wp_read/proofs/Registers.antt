-- Snapshots are registered and released, one step after another.
use Rattle.std.proofs.Common.{◌≡◌, ◌≢◌, ◌⊎◌, inl, inr, ⊎_elim, ℕ, suc, ◌+◌, ◌-◌, ◌≤◌, nat_le, ◌==◌, eq-eqb, Bool, true, false, cond, ◌||◌, true≢false, List, [], ◌∷◌, ◌++◌, length, refl, sym, subst, ap, ◌∙◌, Option, Some, None, arith}
use Rattle.std.specs.Prelude.{MatchOption, unwrap_or}
use Rattle.std.proofs.lemmas.Bool.Decides.{nat_tests}
use Rattle.std.specs.Cmp.{nat_cmp_total}
use Rattle.std.specs.List.{list_any}
use Rattle.std.specs.Option.{option_map_or}
use Rattle.std.specs.Ordering.{nat_cmp}
use Rattle.std.specs.FinSet as set
use Rattle.std.specs.FinMap as finite
use Rattle.wp_model.specs.PreparedSets.{PreparedSets, IsSmallest, NonePrepared}
use Rattle.wp_model.specs.Snapshots as snaps
use Rattle.wp_model.specs.Snapshots.{Snapshots, IsLive, is_old_commit, ChangesWhere, after_register, after_release, NoOldCommits}
use Rattle.wp_core.specs.Changes.{sees, registers, releases, held_with, is_same_registration, placed, with_registered, with_released}
use Rattle.wp_core.specs.Effects.{done}
use Rattle.wp_core.specs.Lists.{IsIn}
use Rattle.wp_core.specs.Reading.{Registration}
use Rattle.wp_core.specs.Steps.{Step, register, release}
use Rattle.wp_core.specs.States.{prepared, snapshots}
use Rattle.wp_core.specs.World.{Actor, World}
use Rattle.wp_core.proofs.HistoryLaws.{is_equal}
use Rattle.wp_model.proofs.Numbers.{get_inserted, get_inserted_else, get_removed, get_removed_else}
use Rattle.wp_model.proofs.Tests.{both}
use Rattle.wp_rule.specs.Words.{Place}
use Rattle.wp_rule.specs.Moves.{MayMake, Moved, first_of}
use Rattle.wp_rule.proofs.Forgets.{EndsNothing, forgets_nothing}
use Rattle.wp_rule.proofs.MayBeMade.{known_made, registers_at}
use Rattle.wp_shared.specs.Clients.{KeepClient}
use Rattle.wp_shared.specs.Seats.{SharedState, SeatState, place_at}
use Rattle.wp_shared.proofs.OneStep.{made, becomes}
use Rattle.wp_shared.proofs.Tables.{held_state}
use Rattle.wp_read.specs.Registers.{all_but_last_of, all_but_last, last_of, before_last, behind_last, registration_of, MayRegister, Registers, Unregisters}
use Rattle.wp_read.proofs.Readings.{held_live}

-- ---- places in lists of registrations

last_behind : (x r : Registration) (xs : List Registration) → (all_but_last_of x (xs ++ r ∷ []) ≡ x ∷ xs) × (last_of x (xs ++ r ∷ []) ≡ r)
last_behind x r [] = (refl, refl)
last_behind x r (y ∷ ys) = let k = last_behind y r ys in (ap (λ zs. x ∷ zs) k.0, k.1)

pub last_is : (d r : Registration) (xs : List Registration) → (all_but_last (xs ++ r ∷ []) ≡ xs) × (last_of d (xs ++ r ∷ []) ≡ r)
last_is d r [] = (refl, refl)
last_is d r (x ∷ xs) = last_behind x r xs

same_registration : (r s : Registration) → is_same_registration r s ≡ true → s ≡ r
same_registration r s e =
    let k = both (r.number == s.number) (r.smallest == s.smallest) e in
    let n : r.number ≡ s.number = is_equal r.number s.number k.0 in let l : r.smallest ≡ s.smallest = is_equal r.smallest s.smallest k.1 in
    λ i. record { number = (sym n) i; smallest = (sym l) i }

is_same_as_itself : (r : Registration) → is_same_registration r r ≡ true
is_same_as_itself r = let n = eq-eqb r.number r.number refl in let l = eq-eqb r.smallest r.smallest refl in rw (n, l) refl

is_found_by : (b c : Bool) → (b ≡ true) ⊎ (c ≡ true) → (b || c) ≡ true
is_found_by true c e = refl
is_found_by false c e = ⊎_elim (λ (k : false ≡ true). absurd (true≢false (sym k))) (λ (k : c ≡ true). k) e

-- a registration that is in the list is found there
is_found : (r : Registration) (rs : List Registration) → IsIn r rs → list_any (is_same_registration r) rs ≡ true
is_found r [] there = absurd there
is_found r (s ∷ others) there =
    is_found_by (is_same_registration r s) (list_any (is_same_registration r) others)
    (⊎_elim (λ (e : s ≡ r). inl (subst (λ (x : Registration). is_same_registration r x ≡ true) (sym e) (is_same_as_itself r))) (λ (k : IsIn r others). inr (is_found r others k)) there)

found_by : (r s : Registration) (others : List Registration) (b : Bool) → is_same_registration r s ≡ b → (list_any (is_same_registration r) others ≡ true → IsIn r others) → (b || list_any (is_same_registration r) others) ≡ true → IsIn r (s ∷ others)
found_by r s others true is rest e = inl (same_registration r s is)
found_by r s others false is rest e = inr (rest e)

-- a registration that is found in the list is there
found : (r : Registration) (rs : List Registration) → list_any (is_same_registration r) rs ≡ true → IsIn r rs
found r [] e = absurd (true≢false (sym e))
found r (s ∷ others) e = found_by r s others (is_same_registration r s) refl (found r others) e

not_found : (r : Registration) (rs : List Registration) → list_any (is_same_registration r) rs ≡ false → IsIn r rs → ⊥
not_found r rs e there = true≢false (sym (is_found r rs there) ∙ e)

split_by : (r s : Registration) (others : List Registration) (b : Bool) → list_any (is_same_registration r) others ≡ b → (IsIn r others → others ≡ before_last r others ++ r ∷ behind_last r others) → (s ≡ r) ⊎ IsIn r others
    → s ∷ others ≡ cond b (s ∷ before_last r others) [] ++ r ∷ cond b (behind_last r others) others
split_by r s others true more rest there = ap (λ x. s ∷ x) (rest (found r others more))
split_by r s others false none rest there = ⊎_elim (λ (e : s ≡ r). ap (λ x. x ∷ others) e) (λ (k : IsIn r others). absurd (not_found r others none k)) there

-- a list is what is before the last place of one of its registrations, with that one and what is behind it
pub split_last : (r : Registration) (rs : List Registration) → IsIn r rs → rs ≡ before_last r rs ++ r ∷ behind_last r rs
split_last r [] there = absurd there
split_last r (s ∷ others) there = split_by r s others (list_any (is_same_registration r) others) refl (split_last r others) there

none_behind_by : (r : Registration) (others : List Registration) (b : Bool) → list_any (is_same_registration r) others ≡ b → (IsIn r (behind_last r others) → ⊥) → IsIn r (cond b (behind_last r others) others) → ⊥
none_behind_by r others true more rest = rest
none_behind_by r others false none rest = not_found r others none

-- behind the last place of a registration there is no other that is equal to it
pub none_behind : (r : Registration) (rs : List Registration) → IsIn r (behind_last r rs) → ⊥
none_behind r [] = λ there. there
none_behind r (s ∷ others) = none_behind_by r others (list_any (is_same_registration r) others) refl (none_behind r others)

-- ---- one number's snapshot

pub placed_there : (m : Snapshots) (n : ℕ) (o : Option snaps.LiveSnapshot) → finite.get (placed m n o) n ≡ o
placed_there m n None = get_removed m n
placed_there m n (Some x) = get_inserted m n x

pub placed_else : (m : Snapshots) (n : ℕ) (o : Option snaps.LiveSnapshot) (t : ℕ) → t ≢ n → finite.get (placed m n o) t ≡ finite.get m t
placed_else m n None t ne = get_removed_else m n t ne
placed_else m n (Some x) t ne = get_inserted_else m n x t ne

same_snapshots : (m m' : Snapshots) → ((q : ℕ) → finite.get m q ≡ finite.get m' q) → m ≡ m'
same_snapshots m m' each = finite.same_map nat_cmp_total finite.nat_cmp-IsAntisymmetric m m' each

-- the number's snapshot changed, and no other
pub is_placed : (m m' : Snapshots) (n : ℕ) (o : Option snaps.LiveSnapshot) → finite.get m' n ≡ o → ((q : ℕ) → q ≢ n → finite.get m' q ≡ finite.get m q) → m' ≡ placed m n o
is_placed m m' n o here else = same_snapshots m' (placed m n o) (λ q. by q (q == n) refl)
  where
    by : (q : ℕ) (b : Bool) → (q == n) ≡ b → finite.get m' q ≡ finite.get (placed m n o) q
    by q true is = let e : q ≡ n = is_equal q n is in ap (finite.get m') e ∙ (here ∙ (sym (placed_there m n o) ∙ ap (finite.get (placed m n o)) (sym e)))
    by q false is = let ne : q ≢ n = λ (e : q ≡ n). true≢false (sym (eq-eqb q n e) ∙ is) in else q ne ∙ sym (placed_else m n o q ne)

pub changes_placed : (m m' : Snapshots) (n : ℕ) (change : Option snaps.LiveSnapshot → Option snaps.LiveSnapshot) → ChangesWhere (λ q. q == n) change m m' → m' ≡ placed m n (change (finite.get m n))
changes_placed m m' n change c =
    is_placed m m' n (change (finite.get m n)) (c n ∙ ap (λ b. cond b (change (finite.get m n)) (finite.get m n)) (eq-eqb n n refl))
    (λ q ne. c q ∙ ap (λ b. cond b (change (finite.get m q)) (finite.get m q)) (not_same q ne (q == n) refl))
  where
    not_same : (q : ℕ) → q ≢ n → (b : Bool) → (q == n) ≡ b → (q == n) ≡ false
    not_same q ne true is = absurd (ne (is_equal q n is))
    not_same q ne false is = is

counted_again : (o : Option snaps.LiveSnapshot) → ((x : snaps.LiveSnapshot) → o ≡ Some x → 1 ≤ x.registrations) → after_release (after_register o) ≡ o
counted_again None some = refl
counted_again (Some x) some =
    let n : ℕ = x.registrations in let k : 1 ≤ n = some x refl in
    by (nat_le (n + 1) 1) (grind (arith, nat_tests)) (let e : n + 1 - 1 ≡ n = omega arith in e)
  where
    by : (b : Bool) → b ≡ false → x.registrations + 1 - 1 ≡ x.registrations → cond b None (Some (record x { registrations = x.registrations + 1 - 1 })) ≡ Some x
    by b e same = rw e (ap (λ k. Some (record x { registrations = k })) same)

-- a registration that is taken back leaves no trace
pub registered_and_released : (m : Snapshots) (n : ℕ) → ((x : snaps.LiveSnapshot) → finite.get m n ≡ Some x → 1 ≤ x.registrations) → with_released (with_registered m n) n ≡ m
registered_and_released m n some =
    sym (is_placed (with_registered m n) m n (after_release (finite.get (with_registered m n) n)) (sym (ap after_release (placed_there m n (after_register (finite.get m n))) ∙ counted_again (finite.get m n) some))
    (λ q ne. sym (placed_else m n (after_register (finite.get m n)) q ne)))

-- ---- old commits

abbrev has_old : ℕ → Option snaps.LiveSnapshot → Bool
has_old p None = false
has_old p (Some x) = set.contains x.old_commits p

none_new : (o : Option snaps.LiveSnapshot) (p : ℕ) → has_old p (after_register o) ≡ has_old p o
none_new None p = set.contains-empty nat_cmp p
none_new (Some x) p = refl

is_has_old : (m : Snapshots) (s p : ℕ) → is_old_commit m s p ≡ has_old p (finite.get m s)
is_has_old m s p = by (finite.get m s)
  where
    by : (o : Option snaps.LiveSnapshot) → option_map_or (λ x. set.contains x.old_commits p) o false ≡ has_old p o
    by None = refl
    by (Some x) = refl

pub kept_by_register : (m : Snapshots) (n : ℕ) → NoOldCommits (with_registered m n) → NoOldCommits m
kept_by_register m n none s p = is_has_old m s p ∙ (by (s == n) refl ∙ (sym (is_has_old (with_registered m n) s p) ∙ none s p))
  where
    by : (b : Bool) → (s == n) ≡ b → has_old p (finite.get m s) ≡ has_old p (finite.get (with_registered m n) s)
    by true is =
        let e : s ≡ n = is_equal s n is in
        ap (λ t. has_old p (finite.get m t)) e ∙ (sym (none_new (finite.get m n) p) ∙ (ap (has_old p) (sym (placed_there m n (after_register (finite.get m n)))) ∙ ap (λ t. has_old p (finite.get (with_registered m n) t)) (sym e)))
    by false is = ap (has_old p) (sym (placed_else m n (after_register (finite.get m n)) s (λ (e : s ≡ n). true≢false (sym (eq-eqb s n e) ∙ is))))

-- ---- the step that registers

register_ends : (smallest : ℕ) → EndsNothing (register smallest)
register_ends smallest = record { guard = λ turn. refl; place = λ words place. refl; words = refl; delayed_flag = refl; old_flag = refl; pending = refl; adds = refl; takes = refl; prepared = refl; unprepared = refl; delays = refl; transaction = λ history name. refl; changes = λ history key. refl; direct = refl; moves = refl; replaces = refl; installing = refl }

release_ends : (front back : List Registration) (r : Registration) → EndsNothing (release front r back)
release_ends front back r = record { guard = λ turn. refl; place = λ words place. refl; words = refl; delayed_flag = refl; old_flag = refl; pending = refl; adds = refl; takes = refl; prepared = refl; unprepared = refl; delays = refl; transaction = λ history name. refl; changes = λ history key. refl; direct = refl; moves = refl; replaces = refl; installing = refl }

abbrev registering : Option ℕ → World → Step
registering smallest w = register (unwrap_or smallest (suc (length w.writes.history)))

registered_at : {D : Type 0} (z : SharedState D) (s t : SeatState) (smallest : Option ℕ) (number : ℕ) (m : Snapshots) → (t.table ≡ s.table) × (t.by ≡ s.by) × (t.turns ≡ s.turns) → IsIn (snapshots m) s.knows.held
    → Moved (place_at z s.by) (λ w. registering smallest w ∷ []) (λ w. number ≡ length w.writes.history) s.knows t.knows → Registers z s t number smallest m
registered_at z s t smallest number m same held n =
    let w = n.world in let step : Step = registering smallest w in let held_is : w.snapshots ≡ m = held_state (place_at z s.by) s.knows w (snapshots m) n.before held in
    let actor : ℕ → Snapshots → Actor = λ l x. record (registers (sees w.writes.history s.knows) (registration_of l smallest)) { held = held_with s.knows.held (snapshots (with_registered x l)) } in
    let knows : t.knows ≡ actor number m =
    n.actor ∙ (ap (λ (x : Actor). first_of (done (record w { actors = s.knows ∷ [] }) 0 x step).actors s.knows) (forgets_nothing w.writes.history (length w.cache) step s.knows (register_ends (unwrap_or smallest (suc (length w.writes.history))))) ∙
    (λ i. actor ((sym n.so_is) i) (held_is i))) in
    record { world = w; there = n.before; number_is = n.so_is; seat = becomes s t (actor number m) same knows }

module _ {D : Type 0} (z : SharedState D) (p : Place) (steps : World → List Step) (s t : SeatState) (smallest : Option ℕ) (is : steps ≡ (λ w. register (unwrap_or smallest (suc (length w.writes.history))) ∷ [])) where
  pub may_register : (m : Snapshots) → IsIn (snapshots m) s.knows.held → MayRegister s.knows.held smallest → MayMake p s.knows steps
  may_register m held may = subst (MayMake p s.knows) (sym is) (⊎_elim
      (λ (one : smallest ≡ Some 1). subst (λ (o : Option ℕ). MayMake p s.knows (λ w. registering o w ∷ [])) (sym one) (known_made p s.knows (register 1) tt (record { state = m; held = held; so_is = inl refl })))
      (λ (known : (t : PreparedSets) × IsIn (prepared t) s.knows.held × MatchOption smallest (NonePrepared t) (IsSmallest t)). registers_at p s.knows smallest (record { state = m; held = held; so_is = tt }) (record { state = known.0; held = known.1; so_is = known.2 }))
      may)

  pub register_keeps : (w : World) → KeepClient (steps w)
  register_keeps w = subst (λ (x : World → List Step). KeepClient (x w)) (sym is) (tt, tt)

  pub registered : (number : ℕ) (m : Snapshots) → p ≡ place_at z s.by → (t.table ≡ s.table) × (t.by ≡ s.by) × (t.turns ≡ s.turns) → IsIn (snapshots m) s.knows.held → Moved p steps (λ w. number ≡ length w.writes.history) s.knows t.knows → Registers z s t number smallest m
  registered number m place same held moved =
      registered_at z s t smallest number m same held (subst (λ (x : Place × (World → List Step)). Moved x.0 x.1 (λ w. number ≡ length w.writes.history) s.knows t.knows) (λ i. (place i, is i)) moved)

-- ---- the step that takes a registration back

module _ {D : Type 0} (z : SharedState D) (p : Place) (steps : World → List Step) (s t : SeatState) (front back : List Registration) (r : Registration) (m : Snapshots) (is : steps ≡ (λ w. release front r back ∷ [])) (mine : s.knows.participant.registered ≡ front ++ r ∷ back) (held : IsIn (snapshots m) s.knows.held) where
  pub may_release : MayMake p s.knows steps
  may_release = subst (MayMake p s.knows) (sym is) (known_made p s.knows (release front r back) tt (record { state = m; held = held; so_is = mine }))

  pub release_keeps : (w : World) → KeepClient (steps w)
  release_keeps w = subst (λ (x : World → List Step). KeepClient (x w)) (sym is) (tt, tt)

  pub released : (so : World → Type 0) → p ≡ place_at z s.by → (t.table ≡ s.table) × (t.by ≡ s.by) × (t.turns ≡ s.turns) → Moved p steps so s.knows t.knows → Unregisters s t front back r m
  released so place same moved =
      let at = place_at z s.by in
      let n : Moved at (λ w. release front r back ∷ []) so s.knows t.knows = subst (λ (x : Place × (World → List Step)). Moved x.0 x.1 so s.knows t.knows) (λ i. (place i, is i)) moved in
      let k = made at (release front r back) so s.knows t.knows (release_ends front back r) n in
      let held_is : k.world.snapshots ≡ m = held_state at s.knows k.world (snapshots m) k.before held in
      let actor : Snapshots → Actor = λ x. record (releases s.knows (front ++ back)) { held = held_with s.knows.held (snapshots (with_released x r.number)) } in
      record {
        live = held_live at s.knows k.world m r k.before held (subst (IsIn r) (sym mine) (in_middle front));
        seat = becomes s t (actor m) same (k.actor ∙ ap actor held_is);
      }
    where
      in_middle : (xs : List Registration) → IsIn r (xs ++ r ∷ back)
      in_middle [] = inl refl
      in_middle (x ∷ xs) = inr (in_middle xs)
