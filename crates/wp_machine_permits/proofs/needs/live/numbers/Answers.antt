use Rattle.std.proofs.Common.{ℕ, map, is_some, ap, ◌∙◌}
use Rattle.std.specs.FinMap as finite
use Rattle.wp_model.specs.Snapshots.{LiveSnapshot}
use Rattle.wp_machine_permits.proofs.LiveNumbers.{among_got}
use Rattle.wp_machine_permits.proofs.needs.live.numbers.Goals as goal

pub returns : goal.returns
returns c = λ n. among_got c.snapshots.inside.live.items c.in_ok-numbers.numbers.items (c.in_ok-numbers.ensures ∙ ap (map (λ (pair : ℕ × LiveSnapshot). pair.0)) c.deref.ensures.value) n ∙ ap (λ m. is_some (finite.get m n)) c.snapshots.view_is
