-- What was noted outlasts the steps that do not end it.
use Rattle.std.proofs.Common.{not, List, [], ◌∷◌, length, inr, ap, ℕ}
use Rattle.wp_core.specs.Views.{Fact}
use Rattle.wp_core.specs.World.{Actor, World}
use Rattle.wp_core.specs.Steps.{Step, note, make_note, learn, join_seat}
use Rattle.wp_core.specs.Notes.{ends, forgets}
use Rattle.wp_core.proofs.Frames.{filter_in}
use Rattle.wp_rule.specs.Moves.{actor_after_step, world_after_step, actor_after, TakesIn, Outlasts}
use Rattle.wp_rule.specs.Knows.{Noted}

-- of its notes a step takes from an actor only those that it ends
left_noted : (w : World) (a : Actor) (step : Step) (fact : Fact) → (TakesIn step → ⊥) → Noted a fact → Noted (forgets w.writes.history (length w.cache) step a) fact → Noted (actor_after_step w a step) fact
left_noted w a (note other) fact alone there left = inr left
left_noted w a make_note fact alone there left = there
left_noted w a (learn other b) fact alone there left = absurd (alone tt)
left_noted w a (join_seat other b) fact alone there left = absurd (alone tt)
left_noted w a other fact alone there left = left

pub outlasts : (fact : Fact) (steps : List Step) (w : World) (by : ℕ) (a : Actor) → Noted a fact → Outlasts fact steps w by a → Noted (actor_after steps w by a) fact
outlasts fact [] w by a there o = there
outlasts fact (step ∷ steps) w by a there o =
    let left : Noted (forgets w.writes.history (length w.cache) step a) fact = filter_in (λ other. not (ends w.writes.history (length w.cache) step other)) fact a.notes (ap not o.1) there in
    outlasts fact steps (world_after_step w by a step) by (actor_after_step w a step) (left_noted w a step fact o.0 there left) o.2
