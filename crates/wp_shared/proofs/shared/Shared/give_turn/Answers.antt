use Rattle.std.proofs.Common.{sym, subst, ◌∙◌}
use Rattle.wp_core.specs.Turns.{turn_of, Turn}
use Rattle.wp_shared.specs.Turns.{GavePart}
use Rattle.wp_shared.proofs.TakenTurns.{may_give_part, given}
use Rattle.wp_shared.proofs.shared.Shared.give_turn.Goals as goal

pub give_part-requires-clause-may : goal.give_part-requires-clause-may
give_part-requires-clause-may g c = let x = c.args.value.value in let h = c.requires.holds in
    may_give_part c.args.self.now (turn_of c.turn.result) c.args.seat.now (g.G.BehindTurn.state x) (c.turn.ensures ∙ sym (g.G.BehindTurn.of_turn x)) h.0 h.1 h.2 c.into_part.result c.into_part.ensures.table
    (c.into_part.ensures.tells c.args.self.now.first c.requires.of_store) c.requires.knows

pub returns : goal.returns
returns g c others beneath h = let x = c.args.value.value in
    given c.args.self.now g.G.BehindTurn.turn c.args.seat.now (g.G.BehindTurn.state x) (sym (g.G.BehindTurn.of_turn x)) others beneath h c.give_part.new.seat
    (subst (λ (turn : Turn). GavePart c.args.self.now turn c.args.seat.now c.give_part.new.seat) c.turn.ensures c.give_part.ensures)
