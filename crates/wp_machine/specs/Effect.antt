-- What a step makes of a world and of the actor that makes it, while the actor is apart from the world.
use Rattle.std.specs.Prelude.{◌≡◌, ℕ, List, [], ◌∷◌, ◌++◌, length, Option, Some, None}
use Rattle.wp_model.specs.Snapshots.{Snapshots}
use Rattle.wp_core.specs.Reading.{Registration}
use Rattle.wp_model.specs.declared.entry.Entry.{Entry}
use Rattle.wp_core.specs.World.{Actor, World}
use Rattle.wp_core.specs.Changes.{with_actor, held_with, with_released, releases}
use Rattle.wp_core.specs.States.{writes, snapshots}
use Rattle.wp_core.specs.Effects.{done}
use Rattle.wp_machine.specs.Machine.{with_next}
use Rattle.wp_core.specs.Steps.{Step}

-- with the actor at its place, the new world is what the step makes of the old one
abbrev pub IsEffect : ℕ → World → Actor → Step → World → Actor → Type 0
IsEffect by w a s next b = with_actor next by b ≡ done w by a s

-- the actor published the last entry of the history, and sees it
abbrev pub has_published : List Entry → Actor → Actor
has_published history a = record a { participant = record a.participant { seen = history; own = a.participant.own ++ length history ∷ [] }; learned = [] }

-- the number of the first of the last registrations, and the actor once that one goes
abbrev pub released_number : List Registration → Option ℕ
released_number [] = None
released_number (r ∷ back) = Some r.number

abbrev pub has_released : Actor → List Registration → List Registration → Actor
has_released a front [] = a
has_released a front (r ∷ back) = releases a (front ++ back)

abbrev pub with_released_any : Snapshots → Option ℕ → Snapshots
with_released_any m None = m
with_released_any m (Some s) = with_released m s

-- once the first of these pending entries is published
abbrev pub published_world : World → Actor → ℕ → List Entry → World
published_world w a by pending = with_actor (record w { writes = with_next w.writes pending }) by (record (has_published (with_next w.writes pending).history a) { held = held_with a.held (writes (with_next w.writes pending)) })

-- once the first of the last registrations is released
abbrev pub released_world : World → Actor → ℕ → List Registration → List Registration → World
released_world w a by front last = with_actor (record w { snapshots = with_released_any w.snapshots (released_number last) }) by (record (has_released a front last) { held = held_with (has_released a front last).held (snapshots (with_released_any w.snapshots (released_number last))) })
