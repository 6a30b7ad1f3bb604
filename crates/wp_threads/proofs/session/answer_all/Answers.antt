use Rattle.std.proofs.Common.{arith}
use Rattle.wp_client.proofs.Released.{stays_through}
use Rattle.wp_threads.proofs.Looping.{stays_next, goes_next, count_next, came_broken, came_whole}
use Rattle.wp_threads.proofs.session.answer_all.Goals as goal

pub returns-then-not-answered-clause-came : goal.returns-then-not-answered-clause-came
returns-then-not-answered-clause-came g c =
    came_broken c.args.store.now c.args.commands.now c.loop-command.command-index _ c.loop-command.replies.items c.answer_next-answered.new.replies.items c.args.seat.now c.args.held.now c.loop-command.seat c.answer_next-answered.new.seat c.loop-command.held c.answer_next-answered.new.held
    (omega arith) c.command-item.is c.loop-command.invariant.goes c.new.result c.new.ensures c.if-not-answered.ensures.next c.if-not-answered.ensures.holds

pub returns-then-not-answered-clause-stays : goal.returns-then-not-answered-clause-stays
returns-then-not-answered-clause-stays g c =
    stays_through c.args.seat.now c.loop-command.seat c.answer_next-answered.new.seat c.loop-command.invariant.stays
    (stays_next c.args.store.now c.args.commands.now c.loop-command.command-index _ c.loop-command.replies.items c.answer_next-answered.new.replies.items c.args.seat.now c.args.held.now c.loop-command.seat c.answer_next-answered.new.seat c.loop-command.held c.answer_next-answered.new.held
    (omega arith) c.command-item.is c.loop-command.invariant.goes _ c.answer_next-answered.ensures.next)

pub loop-command-preserved : goal.loop-command-preserved
loop-command-preserved g c = record {
  goes =
      goes_next c.args.store.now c.args.commands.now c.loop-command.command-index _ c.loop-command.replies.items c.answer_next-answered.new.replies.items c.args.seat.now c.args.held.now c.loop-command.seat c.answer_next-answered.new.seat c.loop-command.held c.answer_next-answered.new.held
      (omega arith) c.command-item.is c.loop-command.invariant.goes c.if-not-answered.ensures.next c.if-not-answered.ensures.holds;
  stays =
      stays_through c.args.seat.now c.loop-command.seat c.answer_next-answered.new.seat c.loop-command.invariant.stays
      (stays_next c.args.store.now c.args.commands.now c.loop-command.command-index _ c.loop-command.replies.items c.answer_next-answered.new.replies.items c.args.seat.now c.args.held.now c.loop-command.seat c.answer_next-answered.new.seat c.loop-command.held c.answer_next-answered.new.held
      (omega arith) c.command-item.is c.loop-command.invariant.goes _ c.answer_next-answered.ensures.next);
  holds = c.if-not-answered.ensures.holds;
  count =
      count_next c.args.store.now c.args.commands.now c.loop-command.command-index _ c.loop-command.replies.items c.answer_next-answered.new.replies.items c.args.seat.now c.args.held.now c.loop-command.seat c.answer_next-answered.new.seat c.loop-command.held c.answer_next-answered.new.held
      (omega arith) c.command-item.is c.loop-command.invariant.goes c.loop-command.invariant.count c.if-not-answered.ensures.next;
}

pub returns-clause-came : goal.returns-clause-came
returns-clause-came g c = came_whole c.args.store.now c.args.commands.now c.loop-command.command-index c.loop-command.replies.items c.args.seat.now c.args.held.now c.loop-command.seat c.loop-command.held c.new-2.result c.new-2.ensures (omega arith) c.loop-command.invariant.goes c.loop-command.invariant.holds
