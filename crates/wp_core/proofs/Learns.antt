-- Learning from a note keeps a world sound.
use Rattle.std.proofs.Common.{◌≡◌, ◌≢◌, ◌⊎◌, ⊎_elim, inl, inr, ℕ, zero, suc, ◌+◌, false, true≢false, not, List, [], ◌∷◌, length, map, set, refl, sym, subst, ap, ◌∙◌, arith}
use mathlib.Core.Option.{some, some-injective, some-ne-none}
use mathlib.Core.Logic.{dite}
use native.Mathlib.Decide.{ℕ_discrete}
use lib.ListN.{get_elem?}
use Rattle.wp_core.specs.Lists.{total}
use Rattle.wp_core.specs.Views.{Fact}
use Rattle.wp_core.specs.World.{Actor, Participant, World}
use Rattle.wp_core.specs.Steps.{learn}
use Rattle.wp_core.specs.Changes.{informed, joined_actor}
use Rattle.wp_core.specs.Effects.{done}
use Rattle.wp_core.specs.Needs.{Needs}
use Rattle.wp_core.specs.Notes.{forgets, ends}
use Rattle.wp_core.specs.Sound.Actors.{StartsWith, seen_of, AreLed, Role, role_of}
use Rattle.wp_core.specs.IsSound.{IsSound}
use Rattle.wp_core.proofs.Frames.{kept_map, at_map}
use Rattle.wp_core.proofs.AllParticipants.{mine}
use Rattle.wp_core.proofs.Persons.{IsNone, sum_of, Moves}
use Rattle.wp_core.proofs.ActorsMove.{actors_move, people}
use Rattle.wp_core.proofs.MakesActors.{StaysAs, stays_but}
use Rattle.wp_core.proofs.TakesOver.{left, other_there, first_there, else_there, who, idle_person, sums_left, parts_left}

-- an actor that is not live is not the first
pub not_first : (w : World) (other : ℕ) (o : Actor) → IsSound w → get_elem? w.actors other ≡ some o → o.live ≡ false → other ≢ 0
not_first w other o s there dead e =
    let is : s.led.first ≡ role_of o = some-injective s.led.first (role_of o) (sym s.led.there ∙ (ap (get_elem? (map role_of w.actors)) (sym e) ∙ at_map role_of w.actors other o there)) in
    true≢false (sym s.led.live ∙ (ap (λ (r : Role). r.live) is ∙ dead))

module _ (w : World) (by other : ℕ) (a b o : Actor) (at : get_elem? w.actors by ≡ some a) (there : get_elem? w.actors other ≡ some o) (ne : other ≢ by) (same : StaysAs a b) (s : IsSound w) (same_joined : b.joined ≡ a.joined) (none : IsNone o.participant) (alone : o.joined ≡ []) where
  abbrev actors : List Actor
  actors = left w by other a b o at there ne same s

  same_people : people b ≡ people a
  same_people = λ i. same.participant i ∷ same_joined i

  -- the other one has nothing
  other_none : (i : ℕ) (p : Participant) → get_elem? (people o) i ≡ some p → IsNone p
  other_none zero p e = subst IsNone (some-injective o.participant p e) none
  other_none (suc i) p e = absurd (some-ne-none p (sym (ap (λ (z : List Participant). get_elem? z i) (sym alone) ∙ e)))

  moves : Moves (λ j i. j) (λ j i. i) w.writes.history w.actors actors
  moves = record {
    apart = λ j i k l e f. (e, f);
    still = λ j i p k. dite (ℕ_discrete j other)
        (λ (e : j ≡ other).
        let is : k.actor ≡ o = some-injective k.actor o (sym k.there ∙ (ap (get_elem? w.actors) e ∙ there)) in
        inr (other_none i p (ap (λ (z : Actor). get_elem? (people z) i) (sym is) ∙ k.person)))
        (λ (not_other : j ≢ other). inl (dite (ℕ_discrete j by)
        (λ (e : j ≡ by).
        let is : k.actor ≡ a = some-injective k.actor a (sym k.there ∙ (ap (get_elem? w.actors) e ∙ at)) in
        record { actor = b; there = ap (get_elem? actors) e ∙ first_there w by other a b o at there ne same s; person = ap (λ (z : List Participant). get_elem? z i) (same_people ∙ ap people (sym is)) ∙ k.person })
        (λ (not_by : j ≢ by). record { actor = k.actor; there = else_there w by other a b o at there ne same s j k.actor not_other not_by k.there; person = k.person })));
    was = λ j i p k. ⊎_elim
        (λ (t : (j ≡ other) × (joined_actor ≡ k.actor)). inr (idle_person w by other a b o at there ne same s i p (ap (λ (z : Actor). get_elem? (people z) i) t.1 ∙ k.person)))
        (λ (t : ((j ≡ by) × (b ≡ k.actor)) ⊎ ((j ≢ other) × (j ≢ by) × (get_elem? w.actors j ≡ some k.actor))). inl (record {
          at = j;
          at_place = i;
          person = ⊎_elim
              (λ (u : (j ≡ by) × (b ≡ k.actor)). record { actor = a; there = ap (get_elem? w.actors) u.0 ∙ at; person = ap (λ (z : List Participant). get_elem? z i) (sym same_people ∙ ap people u.1) ∙ k.person })
              (λ (u : (j ≢ other) × (j ≢ by) × (get_elem? w.actors j ≡ some k.actor)). record { actor = k.actor; there = u.2; person = k.person }) t;
          row_is = refl;
          place_is = refl;
        }))
        (who w by other a b o at there ne same s j k.actor k.there);
    sums = λ F zero_of.
        let one : sum_of F b ≡ sum_of F a = λ i. F (same.participant i) + total F (same_joined i) in
        let first : F joined_actor.participant ≡ 0 = zero_of joined_actor.participant refl in
        let second : F o.participant ≡ 0 = zero_of o.participant none in
        let rest : total F o.joined ≡ 0 = ap (total F) alone in
        sums_left w by other a b o at there ne same s (sum_of F) (omega arith) (omega arith);
  }

  pub learned_from : o.held ≡ [] → StartsWith w.writes.history b.learned → AreLed (map role_of actors) → IsSound (record w { actors = actors })
  learned_from free learned led = actors_move (λ j i. j) (λ j i. i) w actors by a at moves (parts_left w by other a b o at there ne same s free learned led) s

pub learns : (w : World) (by : ℕ) (a : Actor) (other : ℕ) (o : Actor) → get_elem? w.actors by ≡ some a → Needs w by a (learn other o) → IsSound w
    → IsSound (done w by (forgets w.writes.history (length w.cache) (learn other o) a) (learn other o))
learns w by a other o at needs s =
    let b : Actor = informed (forgets w.writes.history (length w.cache) (learn other o) a) o in
    let same : StaysAs a b = stays_but a (λ (f : Fact). not (ends w.writes.history (length w.cache) (learn other o) f)) b.learned b.made b.joined in
    let idle = s.idle other o needs.1 needs.2 in
    let led = s.led.others other (role_of o) (at_map role_of w.actors other o needs.1) (not_first w other o s needs.1 needs.2) in
    let role : role_of joined_actor ≡ role_of o = λ i. record { live = sym needs.2 i; made = sym led.0 i; joined = sym led.1 i } in
    let roles : map role_of (set (set w.actors by b) other joined_actor) ≡ map role_of w.actors = kept_map role_of (set w.actors by b) other o joined_actor (other_there w by other a b o at needs.1 needs.0 same s) role ∙ kept_map role_of w.actors by a b at refl in
    learned_from w by other a b o at needs.1 needs.0 same s refl idle.participant led.1 idle.held (s.seen other 0 o.participant.seen (mine seen_of w.actors other o o needs.1 refl)) (subst AreLed (sym roles) s.led)
