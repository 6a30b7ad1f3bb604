-- Steps that leave a seat to its client, and the one that gives it to another.
use Rattle.std.proofs.Common.{◌≡◌, ℕ, true, List, [], ◌∷◌, refl, sym, ap, subst, ◌∙◌}
use Rattle.wp_model.specs.declared.entry.Entry.{Entry}
use Rattle.wp_core.specs.World.{Actor, World, new_actor}
use Rattle.wp_core.specs.Steps.{Step, set_client, learn, join_seat}
use Rattle.wp_rule.specs.Words.{Place}
use Rattle.wp_rule.specs.Moves.{MayMake, Moved, actor_after_step, world_after_step, actor_after}
use Rattle.wp_rule.proofs.MayBeMade.{known_made}
use Rattle.wp_shared.specs.Clients.{KeepsClient, KeepClient}

step_keeps : (w : World) (a : Actor) (step : Step) → KeepsClient step → (actor_after_step w a step).participant.client ≡ a.participant.client
step_keeps w a (set_client client) keeps = absurd keeps
step_keeps w a (learn other b) keeps = absurd keeps
step_keeps w a (join_seat other b) keeps = absurd keeps
step_keeps w a other keeps = refl

steps_keep : (steps : List Step) (w : World) (by : ℕ) (a : Actor) → KeepClient steps → (actor_after steps w by a).participant.client ≡ a.participant.client
steps_keep [] w by a keep = refl
steps_keep (step ∷ steps) w by a keep = steps_keep steps (world_after_step w by a step) by (actor_after_step w a step) keep.1 ∙ step_keeps w a step keep.0

pub moved_keeps : (p : Place) (steps : World → List Step) (so : World → Type 0) (a b : Actor) → ((w : World) → KeepClient (steps w)) → Moved p steps so a b → b.participant.client ≡ a.participant.client
moved_keeps p steps so a b keep m = ap (λ (x : Actor). x.participant.client) m.actor ∙ steps_keep (steps m.world) m.world p.by a (keep m.world)

-- ---- a seat that did nothing yet

module _ (p : Place) (steps : World → List Step) (a : Actor) (client old : List ℕ) (seen : List Entry) (is : steps ≡ (λ w. set_client client ∷ [])) (new : a ≡ new_actor true old seen) where
  pub may_be_named : MayMake p a steps
  may_be_named =
      subst (λ (x : Actor × (World → List Step)). MayMake p x.0 x.1) (λ i. (sym new i, sym is i)) (known_made p (new_actor true old seen) (set_client client) tt (refl, refl, refl))

  pub is_named : (so : World → Type 0) (b : Actor) → Moved p steps so a b → b ≡ new_actor true client seen
  is_named so b m = m.actor ∙ (λ i. actor_after (is i m.world) m.world p.by (new i))
