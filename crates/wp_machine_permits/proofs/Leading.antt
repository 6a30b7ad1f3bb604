-- A run as what its steps make, one after another.
use Rattle.std.proofs.Common.{◌≡◌, ℕ, zero, suc, ◌<◌, List, [], ◌∷◌, ◌++◌, length, Some, None, refl, true, slice_index_or, arith}
use mathlib.Core.Option.{some}
use lib.ListN.{get_elem?}
use Rattle.std.specs.Prelude.{codes}
use Rattle.wp_model.specs.Legal.{IsLegal}
use Rattle.wp_model.specs.Snapshots.{Snapshots}
use Rattle.wp_core.specs.Reading.{Registration}
use Rattle.wp_core.specs.World.{World, Actor, new_actor}
use Rattle.wp_core.specs.Steps.{Step}
use Rattle.wp_core.specs.Effects.{done}
use Rattle.wp_core.specs.Needs.{Needs}
use Rattle.wp_core.specs.Notes.{forgets}
use Rattle.wp_core.specs.Runs.{IsOpening}
use Rattle.wp_core.proofs.Openings.{opened_world, world_opened}
use Rattle.wp_machine_permits.specs.Leads.{Leads, CanLead}

-- the first of these, if there is one
abbrev pub first_of : List Actor → Actor
first_of [] = new_actor true [] []
first_of (a ∷ actors) = a

-- the world once its first actor made the step, and once it made them all
abbrev pub next : World → Step → World
next w step = done w 0 (forgets w.writes.history (length w.cache) step (first_of w.actors)) step

abbrev pub after : List Step → World → World
after [] w = w
after (step ∷ steps) w = after steps (next w step)

abbrev pub MayMake : World → Step → Type 0
MayMake w step = (get_elem? w.actors 0 ≡ some (first_of w.actors)) × Needs w 0 (first_of w.actors) step

-- a need, and those that come after it
infixr 30 ◌▹◌
abbrev pub ◌▹◌ : {A B : Type 0} → A → B → A × B
◌▹◌ a b = (a, b)

-- each has what it needs, once those before it were made
abbrev pub AreMet : List Step → World → Type 0
AreMet [] w = Unit {0}
AreMet (step ∷ steps) w = MayMake w step × AreMet steps (next w step)

pub leads : (steps : List Step) (w : World) → AreMet steps w → Leads w steps (after steps w)
leads [] w met = refl
leads (step ∷ steps) w met = (next w step, (first_of w.actors, met.0.0, met.0.1, refl), leads steps (next w step) met.1)

pub met_on : (steps others : List Step) (w : World) → AreMet steps w → AreMet others (after steps w) → AreMet (steps ++ others) w
met_on [] others w met more = more
met_on (step ∷ steps) others w met more = (met.0, met_on steps others (next w step) met.1 more)

-- ---- the opening

abbrev pub two_words : List ℕ
two_words = 0 ∷ 0 ∷ []

abbrev pub opening : World
opening = opened_world [] two_words (codes "a")

pub none_legal : IsLegal []
none_legal = record { few = omega arith; each = λ n e at. let q : None ≡ Some e = at in absurd (cc) }

only_zeros : (i d : ℕ) → i < 2 → slice_index_or two_words i d ≡ 0
only_zeros zero d lt = refl
only_zeros (suc zero) d lt = refl
only_zeros (suc (suc i)) d lt = absurd (omega arith)

pub is_opening : IsOpening opening
is_opening = world_opened [] two_words (codes "a") none_legal refl (omega arith) (λ i d lt. only_zeros i d lt)

pub can_lead : (steps : List Step) (P : World → Type 0) → AreMet steps opening → P (after steps opening) → CanLead steps P
can_lead steps P met so = (opening, is_opening, refl, after steps opening, leads steps opening met, so)

-- the same world with other snapshots, of which the first actor registered these
abbrev pub with_snapshots : World → Snapshots → ℕ → List Registration → World
with_snapshots w m flag registered =
    let a = first_of w.actors in
    record w { snapshots = m; old_flag = flag; actors = record a { participant = record a.participant { registered = registered } } ∷ [] }
