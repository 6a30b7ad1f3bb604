use Rattle.wp_shared.proofs.TakenTurns.{took_log}
use Rattle.wp_shared.proofs.shared.Shared.take_log.Goals as goal

pub returns : goal.returns
returns g c =
    took_log c.args.self.now c.args.seat.now c.take_turn-log.new.seat c.shows_history.new.seat c.take_turn-log.result.value c.take_turn-log.ensures.taken c.take_turn-log.ensures.of_store c.shows_history.ensures
