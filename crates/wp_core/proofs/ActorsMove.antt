-- Where actors come and go, a world stays sound by what is so of the actors themselves.
use Rattle.std.proofs.Common.{◌≡◌, ◌⊎◌, ⊎_elim, inl, inr, ℕ, zero, suc, ◌+◌, List, [], ◌∷◌, ◌++◌, map, set, refl, sym, subst, ap, ◌∙◌, arith}
use mathlib.Core.Option.{some, some-injective, some-ne-none}
use lib.ListN.{get_elem?}
use Rattle.wp_core.specs.Lists.{EachAt, total}
use Rattle.wp_core.specs.Turns.{Holders}
use Rattle.wp_core.specs.World.{Actor, Participant, World, content_of}
use Rattle.wp_core.specs.World as world
use Rattle.wp_core.specs.Sound.Actors.{AreLearned, AreHeld, HoldersHave, AreLed, AreIdle, learned_of, held_of, role_of, IsParticipantAt}
use Rattle.wp_core.specs.Sound.Pasts.{past_of}
use Rattle.wp_core.specs.Sound.Reader.{AreReaders, AreJudged, reader_of}
use Rattle.wp_core.specs.Sound.Views.{AreNoted, noter_of}
use Rattle.wp_core.specs.IsSound.{IsSound}
use Rattle.wp_core.proofs.Frames.{kept_map, at_map}
use Rattle.wp_core.proofs.AllParticipants.{mine}
use Rattle.wp_core.proofs.KeepsRemembered.{from_map}
use Rattle.wp_core.proofs.Persons.{IsPersonAt, Moves}
use Rattle.wp_core.proofs.PersonsKeep.{seen_moved, owned_moved, registered_moved, viewed_moved, locked_moved, holders_moved, board_moved, faults_moved, edits_moved}
use Rattle.wp_core.proofs.AllParts.{SoIn, all_parts, tables_of}

-- ---- the parts that speak of actors

pub record ActorParts (w : World) (actors : List Actor) : Type 0 where
  pub learned : AreLearned w.writes.history (map learned_of actors)
  pub held : EachAt (AreHeld w.holders (content_of w)) (map held_of actors)
  pub have : HoldersHave w.holders (map held_of actors)
  pub readers : AreReaders w.writes.history w.max_evicted w.cache w.prepared.delayed_commits w.snapshots (map reader_of actors)
  pub judged : AreJudged w.writes.history (map reader_of actors)
  pub noted : AreNoted w.holders (SoIn w) (map noter_of actors)
  pub led : AreLed (map role_of actors)
  pub idle : AreIdle actors

pub actors_move : (row place : ℕ → ℕ → ℕ) (w : World) (actors : List Actor) (by : ℕ) (a : Actor) → get_elem? w.actors by ≡ some a → Moves row place w.writes.history w.actors actors → ActorParts w actors → IsSound w → IsSound (record w { actors = actors })
actors_move row place w actors by a at m k s =
    all_parts w actors (tables_of w s) (record {
      seen = seen_moved row place w.writes.history w.actors actors m s.seen;
      learned = k.learned;
      owned = owned_moved row place w.writes.history w.actors actors m w.opened s.owned;
      registrations = registered_moved row place w.writes.history w.actors actors m w.snapshots s.registrations;
      from_base = s.from_base;
      viewed = viewed_moved row place w.writes.history w.actors actors m s.viewed;
    })
    (locked_moved row place w.writes.history w.actors actors m w.opened w.locks s.locks) (record {
      holders = holders_moved row place w.writes.history w.actors actors m w.opened w.locks s.holders;
      board = board_moved row place w.writes.history w.actors actors m (world.published w) w.locks s.board;
      faults = faults_moved row place w.writes.history w.actors actors m w.writes w.installed.halted s.faults;
      edits = edits_moved row place w.writes.history w.actors actors m by a w.first_edit w.installed at (mine past_of w.actors by a a at refl) s.edits;
    })
    (record { held = k.held; have = k.have }) (record { readers = k.readers; judged = k.judged }) k.noted k.led k.idle

-- ---- one item more in a list

pub at_front : {X : Type 0} (xs ys : List X) (j : ℕ) (x : X) → get_elem? xs j ≡ some x → get_elem? (xs ++ ys) j ≡ some x
at_front [] ys j x e = absurd (some-ne-none x (sym e))
at_front (z ∷ zs) ys zero x e = e
at_front (z ∷ zs) ys (suc j) x e = at_front zs ys j x e

pub front_or_last : {X : Type 0} (xs : List X) (c : X) (j : ℕ) (x : X) → get_elem? (xs ++ c ∷ []) j ≡ some x → (get_elem? xs j ≡ some x) ⊎ (c ≡ x)
front_or_last [] c zero x e = inr (some-injective c x e)
front_or_last [] c (suc j) x e = absurd (some-ne-none x (sym e))
front_or_last (z ∷ zs) c zero x e = inl e
front_or_last (z ∷ zs) c (suc j) x e = front_or_last zs c j x e

map_more : {A X : Type 0} (f : A → X) (xs : List A) (c : A) → map f (xs ++ c ∷ []) ≡ map f xs ++ f c ∷ []
map_more f [] c = refl
map_more f (x ∷ xs) c = λ i. f x ∷ map_more f xs c i

pub each_more : {X : Type 0} (P : ℕ → X → Type 0) (xs : List X) (c : X) → ((j : ℕ) → P j c) → EachAt P xs → EachAt P (xs ++ c ∷ [])
each_more P xs c new k j x e = ⊎_elim (λ (t : get_elem? xs j ≡ some x). k j x t) (λ (t : c ≡ x). subst (P j) t (new j)) (front_or_last xs c j x e)

pub each_map_more : {A X : Type 0} (f : A → X) (P : ℕ → X → Type 0) (xs : List A) (c : A) → ((j : ℕ) → P j (f c)) → EachAt P (map f xs) → EachAt P (map f (xs ++ c ∷ []))
each_map_more f P xs c new k = subst (EachAt P) (sym (map_more f xs c)) (each_more P (map f xs) (f c) new k)

pub at_map_more : {A X : Type 0} (f : A → X) (xs : List A) (c : A) (j : ℕ) (x : X) → get_elem? (map f xs) j ≡ some x → get_elem? (map f (xs ++ c ∷ [])) j ≡ some x
at_map_more {A} {X} f xs c j x e = ap (λ (z : List X). get_elem? z j) (map_more f xs c) ∙ at_front (map f xs) (f c ∷ []) j x e

-- who holds a turn has its state, with one actor more
pub have_more : (h : Holders) (xs : List Actor) (c : Actor) → HoldersHave h (map held_of xs) → HoldersHave h (map held_of (xs ++ c ∷ []))
have_more h xs c k turn j holds = let o = k turn j holds in (o.0, at_map_more held_of xs c j o.0 o.1, o.2, o.3, o.4)

-- ---- one item in place of another

pub total_set : {X : Type 0} (F : X → ℕ) (xs : List X) (by : ℕ) (a b : X) → get_elem? xs by ≡ some a → total F (set xs by b) + F a ≡ total F xs + F b
total_set F [] by a b at = absurd (some-ne-none a (sym at))
total_set F (x ∷ xs) zero a b at = let e : F x ≡ F a = ap F (some-injective x a at) in omega arith
total_set F (x ∷ xs) (suc by) a b at = let k = total_set F xs by a b at in omega arith

pub set_same : {X : Type 0} (xs : List X) (by : ℕ) (a : X) → get_elem? xs by ≡ some a → set xs by a ≡ xs
set_same [] by a at = refl
set_same (x ∷ xs) zero a at = λ i. sym (some-injective x a at) i ∷ xs
set_same (x ∷ xs) (suc by) a at = λ i. x ∷ set_same xs by a at i

-- ---- the participants of one actor

abbrev pub people : Actor → List Participant
people a = a.participant ∷ a.joined

to_list : (xs : List Actor) (j i : ℕ) (p : Participant) → IsPersonAt xs j i p → IsParticipantAt (map people xs) j i p
to_list xs j i p k = (people k.actor, at_map people xs j k.actor k.there, k.person)

from_list : (xs : List Actor) (j i : ℕ) (p : Participant) → IsParticipantAt (map people xs) j i p → IsPersonAt xs j i p
from_list xs j i p k = let a = from_map people xs j k.0 k.1 in record { actor = a.0; there = a.1; person = ap (λ (z : List Participant). get_elem? z i) a.2 ∙ k.2 }

pub person_still : (xs : List Actor) (by : ℕ) (a b : Actor) → get_elem? xs by ≡ some a → people b ≡ people a → (j i : ℕ) (p : Participant) → IsPersonAt xs j i p → IsPersonAt (set xs by b) j i p
person_still xs by a b at same j i p k = from_list (set xs by b) j i p (subst (λ (z : List (List Participant)). IsParticipantAt z j i p) (sym (kept_map people xs by a b at same)) (to_list xs j i p k))

pub person_was : (xs : List Actor) (by : ℕ) (a b : Actor) → get_elem? xs by ≡ some a → people b ≡ people a → (j i : ℕ) (p : Participant) → IsPersonAt (set xs by b) j i p → IsPersonAt xs j i p
person_was xs by a b at same j i p k = from_list xs j i p (subst (λ (z : List (List Participant)). IsParticipantAt z j i p) (kept_map people xs by a b at same) (to_list (set xs by b) j i p k))
