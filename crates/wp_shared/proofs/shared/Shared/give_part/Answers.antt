use Rattle.std.proofs.Common.{sym, ap, ◌∙◌}
use Rattle.atomic_table.specs.Table.{Me}
use Rattle.wp_core.specs.Turns.{turn_of}
use Rattle.wp_core.specs.World.{Actor}
use Rattle.wp_core.specs.Changes.{turn_index}
use Rattle.wp_parts.specs.declared.turn_value.TurnValue.{TurnValue}
use Rattle.wp_parts.specs.declared.turn_value.TurnValue.TheVariants as part
use Rattle.wp_shared.specs.Seats.{SeatState}
use Rattle.wp_shared.proofs.HeldTurns.{carried, turns_left, may_lie, may_unclaim, gave}
use Rattle.wp_shared.proofs.shared.Shared.give_part.Goals as goal

pub exchange-requires-clause-turn : goal.exchange-requires-clause-turn
exchange-requires-clause-turn g c =
    (part.Away, carried c.args.self.now c.args.seat.now c.args.part (turn_of c.args.turn) c.requires.may c.seat.inside.seat.me.1 c.seat.invariant.0 (ap (λ (s : SeatState). s.turns) c.seat.view_is))

pub exchange-requires-clause-value : goal.exchange-requires-clause-value
exchange-requires-clause-value g c = may_lie c.args.self.now c.args.seat.now c.args.part (turn_of c.args.turn) c.requires.may _ _ c.self.view_is (ap (λ (s : SeatState). s.knows) c.seat.view_is)

pub unclaim-requires-clause-turn : goal.unclaim-requires-clause-turn
unclaim-requires-clause-turn g c =
    may_unclaim c.args.self.now c.args.seat.now c.args.part (turn_of c.args.turn) c.requires.may _ _ _ _ _ c.self.view_is (c.exchange.ensures.same.1 ∙ ap (λ (s : SeatState). s.by) c.seat.view_is) (ap (λ (s : SeatState). s.knows) c.seat.view_is)
    c.exchange.ensures.home

pub returns : goal.returns
returns g c = let home = c.exchange.ensures.home in let same = c.unclaim.ensures.same in
    let by = c.exchange.ensures.same.1 ∙ ap (λ (s : SeatState). s.by) c.seat.view_is in
    gave c.args.self.now c.args.seat.now c.args.part (turn_of c.args.turn) c.requires.may _ _ _ _ c.self.view_is by
    (ap (λ (m : Me (TurnValue g.row.D.Denot) Actor). m.0) home ∙ ap (λ (s : SeatState). s.knows) c.seat.view_is)
    (same.0 ∙ (c.exchange.ensures.same.0 ∙ ap (λ (s : SeatState). s.table) c.seat.view_is))
    (same.1 ∙ by)
    (sym (ap (λ (s : SeatState). s.turns) c.seat.view_is) ∙ turns_left c.seat.inside.seat.me.1 _ c.exchange.new.seat.me.1 (turn_index (turn_of c.args.turn)) _ _ c.exchange.ensures.out (ap (λ (m : Me (TurnValue g.row.D.Denot) Actor). m.1) home) same.2)
    c.unclaim.ensures.moved
