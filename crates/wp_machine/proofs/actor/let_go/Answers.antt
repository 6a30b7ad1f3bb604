use Rattle.std.proofs.Common.{rules, not, ◌==◌}
use Rattle.std.proofs.lemmas.Fn.{filter_same}
use Rattle.wp_core.specs.States as tables
use Rattle.wp_core.specs.Changes.{turn_index}
use Rattle.wp_core.specs.Turns.{turn_of}
use Rattle.wp_machine.proofs.actor.let_go.Goals as goal

pub returns : goal.returns
returns c = filter_same _ (λ x. not (turn_index (tables.turn_of x) == turn_index (turn_of c.args.turn))) _ (λ x b f called. search rules) _ _ c.retain.ensures.filtered
