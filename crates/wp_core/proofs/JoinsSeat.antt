-- Joining a seat keeps a world sound.
use Rattle.std.proofs.Common.{◌≡◌, ◌≢◌, ◌⊎◌, ⊎_elim, inl, inr, ℕ, zero, suc, ◌+◌, ◌≤◌, true, not, List, [], ◌∷◌, length, map, set, refl, sym, subst, ap, ◌∙◌, arith}
use mathlib.Core.Option.{some, some-injective, some-ne-none}
use lib.ListN.{get_elem?}
use Rattle.wp_core.specs.Lists.{one_if, total}
use Rattle.wp_core.specs.Views.{Fact}
use Rattle.wp_core.specs.World.{Actor, Participant, World}
use Rattle.wp_core.specs.Steps.{join_seat}
use Rattle.wp_core.specs.Changes.{joins, joined_actor}
use Rattle.wp_core.specs.Effects.{done}
use Rattle.wp_core.specs.Needs.{Needs}
use Rattle.wp_core.specs.Notes.{forgets, ends}
use Rattle.wp_core.specs.Sound.Actors.{Role, AreLed, learned_of, role_of}
use Rattle.wp_core.specs.IsSound.{IsSound}
use Rattle.wp_core.proofs.Frames.{each_map_set, at_map}
use Rattle.wp_core.proofs.Persons.{IsPersonAt, sum_of, Came, Moves, total_map}
use Rattle.wp_core.proofs.ActorsMove.{actors_move, total_set, people}
use Rattle.wp_core.proofs.MakesActors.{StaysAs, stays_but}
use Rattle.wp_core.proofs.TakesOver.{left, other_there, first_there, else_there, who, idle_person, sums_left, parts_left}
use Rattle.wp_core.proofs.JoinedPlaces.{Goes, row, place, goes, goes_apart, goes_same}
use Rattle.wp_core.proofs.JoinedPlaces as going

module _ (w : World) (by other : ℕ) (a b o : Actor) (at : get_elem? w.actors by ≡ some a) (there : get_elem? w.actors other ≡ some o) (ne : other ≢ by) (same : StaysAs a b) (s : IsSound w) (joined : b.joined ≡ o.participant ∷ a.joined) (alone : o.joined ≡ []) where
  abbrev actors : List Actor
  actors = left w by other a b o at there ne same s

  people_now : people b ≡ a.participant ∷ o.participant ∷ a.joined
  people_now = λ i. same.participant i ∷ joined i

  at_people : (i : ℕ) (x y : Actor) (p : Participant) → x ≡ y → get_elem? (people x) i ≡ some p → get_elem? (people y) i ≡ some p
  at_people i x y p e k = ap (λ (z : Actor). get_elem? (people z) i) (sym e) ∙ k

  who_is : (j k : ℕ) (x y : Actor) → j ≡ k → get_elem? w.actors j ≡ some x → get_elem? w.actors k ≡ some y → x ≡ y
  who_is j k x y e first second = some-injective x y (sym first ∙ (ap (get_elem? w.actors) e ∙ second))

  no_more : (i : ℕ) (p : Participant) → 1 ≤ i → get_elem? (people o) i ≡ some p → ⊥
  no_more zero p le e = absurd (omega arith)
  no_more (suc i) p le e = some-ne-none p (sym (ap (λ (z : List Participant). get_elem? z i) (sym alone) ∙ e))

  one_later : (i : ℕ) (p : Participant) → 1 ≤ i → get_elem? (people a) i ≡ some p → get_elem? (people b) (suc i) ≡ some p
  one_later zero p le e = absurd (omega arith)
  one_later (suc i) p le e = ap (λ (z : List Participant). get_elem? z (suc (suc i))) people_now ∙ e

  still_there : (j i k l : ℕ) (p : Participant) → Goes by other j i k l → IsPersonAt w.actors j i p → IsPersonAt actors k l p
  still_there j i k l p (going.joins e f g h) x =
      let q = ap (get_elem? (people o)) (sym f) ∙ at_people i x.actor o p (who_is j other x.actor o e x.there there) x.person in
      record { actor = b; there = ap (get_elem? actors) g ∙ first_there w by other a b o at there ne same s; person = ap (get_elem? (people b)) h ∙ (ap (λ (z : List Participant). get_elem? z 1) people_now ∙ q) }
  still_there j i k l p (going.strays e f g h) x = absurd (no_more i p f (at_people i x.actor o p (who_is j other x.actor o e x.there there) x.person))
  still_there j i k l p (going.first e f g h) x =
      let q = ap (get_elem? (people a)) (sym f) ∙ at_people i x.actor a p (who_is j by x.actor a e x.there at) x.person in
      record { actor = b; there = ap (get_elem? actors) (g ∙ e) ∙ first_there w by other a b o at there ne same s; person = ap (get_elem? (people b)) (h ∙ f) ∙ (ap (λ (z : List Participant). get_elem? z 0) people_now ∙ q) }
  still_there j i k l p (going.later e f g h) x =
      let q = one_later i p f (at_people i x.actor a p (who_is j by x.actor a e x.there at) x.person) in
      record { actor = b; there = ap (get_elem? actors) (g ∙ e) ∙ first_there w by other a b o at there ne same s; person = ap (get_elem? (people b)) h ∙ q }
  still_there j i k l p (going.elsewhere e f g h) x =
      record { actor = x.actor; there = ap (get_elem? actors) g ∙ else_there w by other a b o at there ne same s j x.actor e f x.there; person = ap (get_elem? (people x.actor)) h ∙ x.person }

  came : (j i k l : ℕ) (p : Participant) → Goes by other j i k l → IsPersonAt w.actors j i p → Came (row by other) (place by other) w.actors k l p
  came j i k l p g x = let e = goes_same by other j i k l (row by other j i) (place by other j i) ne (goes by other j i) g in record { at = j; at_place = i; person = x; row_is = e.0; place_is = e.1 }

  -- those of the one that joins
  came_first : (i : ℕ) (p : Participant) → get_elem? (people b) i ≡ some p → Came (row by other) (place by other) w.actors by i p
  came_first zero p e = came by 0 by 0 p (going.first refl refl refl refl) (record { actor = a; there = at; person = ap (λ (z : List Participant). get_elem? z 0) (sym people_now) ∙ e })
  came_first (suc zero) p e = came other 0 by 1 p (going.joins refl refl refl refl) (record { actor = o; there = there; person = ap (λ (z : List Participant). get_elem? z 1) (sym people_now) ∙ e })
  came_first (suc (suc i)) p e = came by (suc i) by (suc (suc i)) p (going.later refl (omega arith) refl refl) (record { actor = a; there = at; person = ap (λ (z : List Participant). get_elem? z (suc (suc i))) (sym people_now) ∙ e })

  moves : Moves (row by other) (place by other) w.writes.history w.actors actors
  moves = record {
    apart = λ j i k l e f.
        let g = goes by other k l in
        goes_apart by other j i k l (row by other k l) (place by other k l) ne (subst (λ (n : ℕ). Goes by other j i n (place by other k l)) e (subst (λ (n : ℕ). Goes by other j i (row by other j i) n) f (goes by other j i))) g;
    still = λ j i p k. inl (still_there j i (row by other j i) (place by other j i) p (goes by other j i) k);
    was = λ j i p k. ⊎_elim
        (λ (t : (j ≡ other) × (joined_actor ≡ k.actor)). inr (idle_person w by other a b o at there ne same s i p (at_people i k.actor joined_actor p (sym t.1) k.person)))
        (λ (t : ((j ≡ by) × (b ≡ k.actor)) ⊎ ((j ≢ other) × (j ≢ by) × (get_elem? w.actors j ≡ some k.actor))). inl (⊎_elim
        (λ (u : (j ≡ by) × (b ≡ k.actor)). subst (λ (n : ℕ). Came (row by other) (place by other) w.actors n i p) (sym u.0) (came_first i p (at_people i k.actor b p (sym u.1) k.person)))
        (λ (u : (j ≢ other) × (j ≢ by) × (get_elem? w.actors j ≡ some k.actor)). came j i j i p (going.elsewhere u.0 u.1 refl refl) (record { actor = k.actor; there = u.2; person = k.person })) t))
        (who w by other a b o at there ne same s j k.actor k.there);
    sums = λ F zero_of.
        let none : F joined_actor.participant ≡ 0 = zero_of joined_actor.participant refl in
        let own : F b.participant ≡ F a.participant = ap F same.participant in
        let others : total F b.joined ≡ F o.participant + total F a.joined = ap (total F) joined in
        let rest : total F o.joined ≡ 0 = ap (total F) alone in
        sums_left w by other a b o at there ne same s (sum_of F) (omega arith) (omega arith);
  }

  -- the first actor has one more joined, and one less is live
  led_now : by ≡ 0 → b.made ≡ a.made → o.live ≡ true → AreLed (map role_of actors)
  led_now is_first made live =
      let k = s.led in
      let first : k.first ≡ role_of a = some-injective k.first (role_of a) (sym k.there ∙ (ap (get_elem? (map role_of w.actors)) (sym is_first) ∙ at_map role_of w.actors by a at)) in
      let m = total_map role_of (λ (r : Role). one_if r.live) actors in
      let l = total_map role_of (λ (r : Role). one_if r.live) w.actors in
      let u = total_set (λ (x : Actor). one_if x.live) w.actors by a b at in
      let v = total_set (λ (x : Actor). one_if x.live) (set w.actors by b) other o joined_actor (other_there w by other a b o at there ne same s) in
      let e : one_if b.live ≡ one_if a.live = ap one_if same.live in
      let f : one_if o.live ≡ 1 = ap one_if live in
      let c = k.counted in
      let p : length k.first.joined ≡ length a.joined = ap (λ (r : Role). length r.joined) first in
      let q : length b.joined ≡ suc (length a.joined) = ap length joined in
      let r : k.first.made ≡ a.made = ap (λ (z : Role). z.made) first in
      record {
        first = role_of b;
        there = ap (get_elem? (map role_of actors)) (sym is_first) ∙ at_map role_of actors by b (first_there w by other a b o at there ne same s);
        live = same.live ∙ (ap (λ (z : Role). z.live) (sym first) ∙ k.live);
        counted = omega arith;
        others = each_map_set role_of (λ j x. j ≢ 0 → (x.made ≡ 0) × (x.joined ≡ [])) (set w.actors by b) other joined_actor (λ apart. (refl, refl))
            (λ j x apart is. each_map_set role_of (λ i y. i ≢ 0 → (y.made ≡ 0) × (y.joined ≡ [])) w.actors by b (λ else_. absurd (else_ is_first)) (λ i y n t. k.others i y t) j x is);
      }

pub joins_seat : (w : World) (by : ℕ) (a : Actor) (other : ℕ) (o : Actor) → get_elem? w.actors by ≡ some a → Needs w by a (join_seat other o) → IsSound w
    → IsSound (done w by (forgets w.writes.history (length w.cache) (join_seat other o) a) (join_seat other o))
joins_seat w by a other o at needs s =
    let b : Actor = joins (forgets w.writes.history (length w.cache) (join_seat other o) a) o in
    let same : StaysAs a b = stays_but a (λ (f : Fact). not (ends w.writes.history (length w.cache) (join_seat other o) f)) b.learned b.made b.joined in
    let there = needs.2 in
    let alone = (s.led.others other (role_of o) (at_map role_of w.actors other o there) (λ e. needs.1 (e ∙ sym needs.0))).1 in
    actors_move (row by other) (place by other) w (left w by other a b o at there needs.1 same s) by a at (moves w by other a b o at there needs.1 same s refl alone)
    (parts_left w by other a b o at there needs.1 same s needs.4 (s.learned by a.learned (at_map learned_of w.actors by a at)) (led_now w by other a b o at there needs.1 same s refl alone needs.0 refl needs.3)) s
