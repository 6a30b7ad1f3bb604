use Rattle.std.proofs.Common.{ap, ◌∙◌}
use Rattle.wp_core.specs.Turns.{Turn, turn_of}
use Rattle.wp_shared.specs.Turns.{comes_last}
use Rattle.wp_shared.proofs.TakenTurns.{taken}
use Rattle.wp_shared.proofs.shared.Shared.take_turn.Goals as goal

pub take_part-requires-clause-order : goal.take_part-requires-clause-order
take_part-requires-clause-order g c = ap (λ (u : Turn). comes_last u c.args.seat.now.knows.held) c.turn.ensures ∙ c.requires.order

pub returns-clause-taken : goal.returns-clause-taken
returns-clause-taken g c =
    taken c.args.self.now (turn_of c.turn.result) c.args.seat.now c.take_part.new.seat c.take_part.result c.take_part.ensures.took (g.G.BehindTurn.state c.out_of.result.value) c.out_of.ensures.table c.take_part.ensures.same c.requires.seat
