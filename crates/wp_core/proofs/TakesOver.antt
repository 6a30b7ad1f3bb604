-- Where one actor learns from another or joins it, and the other is left idle: the parts that speak of actors.
use Rattle.std.proofs.Common.{◌≡◌, ◌≢◌, ◌⊎◌, ⊎_elim, inl, inr, ℕ, zero, suc, ◌+◌, false, List, [], map, set, refl, sym, subst, ap, ◌∙◌, arith}
use mathlib.Core.Option.{some, some-injective, some-ne-none}
use mathlib.Core.Logic.{dite}
use native.Mathlib.Decide.{ℕ_discrete}
use lib.ListN.{get_elem?}
use Rattle.wp_core.specs.Lists.{EachAt, IsIn, total}
use Rattle.wp_core.specs.States.{Content}
use Rattle.wp_core.specs.Views.{Fact}
use Rattle.wp_core.specs.World.{Actor, Participant, World, content_of}
use Rattle.wp_core.specs.Changes.{joined_actor}
use Rattle.wp_core.specs.Sound.Actors.{StartsWith, AreHeld, HoldersHave, AreLed, IsIdle, learned_of, held_of, role_of}
use Rattle.wp_core.specs.Sound.Reader.{IsReader, reader_of}
use Rattle.wp_core.specs.Sound.Views.{IsNoted, noter_of}
use Rattle.wp_core.specs.IsSound.{IsSound}
use Rattle.wp_core.proofs.Frames.{kept_map, map_set, each_map_set, each_set, at_map, at_set, set_else, here}
use Rattle.wp_core.proofs.Persons.{IsNone}
use Rattle.wp_core.proofs.ActorsMove.{ActorParts, total_set, people}
use Rattle.wp_core.proofs.MakesActors.{StaysAs, idle_still}
use Rattle.wp_core.proofs.AllParts.{SoIn}

-- each item, once two of them changed
each_two : {A X : Type 0} (f : A → X) (P : ℕ → X → Type 0) (xs : List A) (by other : ℕ) (b c : A) → P other (f c) → P by (f b) → EachAt P (map f xs) → EachAt P (map f (set (set xs by b) other c))
each_two f P xs by other b c second first k = each_map_set f P (set xs by b) other c second (λ j x ne there. each_map_set f P xs by b first (λ l y apart at. k l y at) j x there)

module _ (w : World) (by other : ℕ) (a b o : Actor) (at : get_elem? w.actors by ≡ some a) (there : get_elem? w.actors other ≡ some o) (ne : other ≢ by) (same : StaysAs a b) (s : IsSound w) where
  -- one actor changes, and the other is idle
  abbrev pub left : List Actor
  left = set (set w.actors by b) other joined_actor

  pub other_there : get_elem? (set w.actors by b) other ≡ some o
  other_there = set_else w.actors by other b ne ∙ there

  pub first_there : get_elem? left by ≡ some b
  first_there = set_else (set w.actors by b) other by joined_actor (λ e. ne (sym e)) ∙ here w.actors by a b at

  pub else_there : (j : ℕ) (x : Actor) → j ≢ other → j ≢ by → get_elem? w.actors j ≡ some x → get_elem? left j ≡ some x
  else_there j x not_other not_by is = set_else (set w.actors by b) other j joined_actor not_other ∙ (set_else w.actors by j b not_by ∙ is)

  -- who is there now
  pub who : (j : ℕ) (x : Actor) → get_elem? left j ≡ some x → ((j ≡ other) × (joined_actor ≡ x)) ⊎ (((j ≡ by) × (b ≡ x)) ⊎ ((j ≢ other) × (j ≢ by) × (get_elem? w.actors j ≡ some x)))
  who j x is = ⊎_elim
      (λ (t : (j ≡ other) × (joined_actor ≡ x)). inl t)
      (λ (t : (j ≢ other) × (get_elem? (set w.actors by b) j ≡ some x)). inr (⊎_elim
      (λ (u : (j ≡ by) × (b ≡ x)). inl u)
      (λ (u : (j ≢ by) × (get_elem? w.actors j ≡ some x)). inr (t.0, u.0, u.1))
      (at_set w.actors by j b x t.1)))
      (at_set (set w.actors by b) other j joined_actor x is)

  -- the idle one has nothing
  pub idle_person : (i : ℕ) (p : Participant) → get_elem? (people joined_actor) i ≡ some p → IsNone p × StartsWith w.writes.history p.seen
  idle_person zero p e = let q : joined_actor.participant ≡ p = some-injective joined_actor.participant p e in subst (λ (z : Participant). IsNone z × StartsWith w.writes.history z.seen) q (refl, (w.writes.history, refl))
  idle_person (suc i) p e = absurd (some-ne-none p (sym e))

  pub sums_left : (F : Actor → ℕ) → F joined_actor ≡ 0 → F b ≡ F a + F o → total F left ≡ total F w.actors
  sums_left F none more =
      let k = total_set F w.actors by a b at in
      let l = total_set F (set w.actors by b) other o joined_actor other_there in
      omega arith

  have_left : o.held ≡ [] → HoldersHave w.holders (map held_of left)
  have_left free turn j holds =
      let k = s.have turn j holds in
      dite (ℕ_discrete j other)
      (λ (e : j ≡ other).
      let is : k.0 ≡ o.held = some-injective k.0 o.held (sym k.1 ∙ (ap (get_elem? (map held_of w.actors)) e ∙ at_map held_of w.actors other o there)) in
      absurd (subst (IsIn k.2) (is ∙ free) k.3))
      (λ (apart : j ≢ other). (
        k.0,
        ap (λ (z : List (List Content)). get_elem? z j) (map_set held_of (set w.actors by b) other joined_actor)
            ∙ (set_else (map held_of (set w.actors by b)) other j [] apart ∙ (ap (λ (z : List (List Content)). get_elem? z j) (kept_map held_of w.actors by a b at same.held) ∙ k.1)),
        k.2,
        k.3,
        k.4,
      ))

  pub parts_left : o.held ≡ [] → StartsWith w.writes.history b.learned → AreLed (map role_of left) → ActorParts w left
  parts_left free learned led = record {
    learned = each_two learned_of (λ j x. StartsWith w.writes.history x) w.actors by other b joined_actor (w.writes.history, refl) learned s.learned;
    held = each_two held_of (AreHeld w.holders (content_of w)) w.actors by other b joined_actor tt (subst (AreHeld w.holders (content_of w) by) (sym same.held) (s.held by a.held (at_map held_of w.actors by a at))) s.held;
    have = have_left free;
    readers = each_two reader_of _ w.actors by other b joined_actor (λ r e. absurd cc)
        (λ r e. subst (λ (p : Participant). IsReader w.writes.history w.max_evicted w.cache w.prepared.delayed_commits w.snapshots p.registered r) (sym same.participant) (s.readers by (reader_of a) (at_map reader_of w.actors by a at) r (sym same.reading ∙ e))) s.readers;
    judged = each_two reader_of _ w.actors by other b joined_actor (λ r visible e q. absurd cc)
        (λ r visible e q. s.judged by (reader_of a) (at_map reader_of w.actors by a at) r visible (sym same.reading ∙ e) q) s.judged;
    noted = each_two noter_of (λ j x. (fact : Fact) → IsIn fact x.1 → IsNoted w.holders (SoIn w) j x fact) w.actors by other b joined_actor (λ fact h. absurd h)
        (λ fact h. let k = s.noted by (noter_of a) (at_map noter_of w.actors by a at) fact (same.notes fact h) in record { guarded = k.guarded; is_so = subst (λ (p : Participant). SoIn w p fact) (sym same.participant) k.is_so }) s.noted;
    led = led;
    idle = each_set (λ j x. x.live ≡ false → IsIdle x) (set w.actors by b) other joined_actor (λ dead. record { participant = refl; held = refl; reading = refl; notes = refl })
        (λ j x apart is. each_set (λ l y. y.live ≡ false → IsIdle y) w.actors by b (λ dead. idle_still a b same (s.idle by a at (sym same.live ∙ dead))) (λ l y n e. s.idle l y e) j x is);
  }
