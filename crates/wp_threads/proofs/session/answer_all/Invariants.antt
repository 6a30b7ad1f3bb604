use Rattle.std.proofs.Common.{◌≡◌, length, take}
use Rattle.wp_client.specs.Answers.{Stays}
use Rattle.wp_client.specs.Holdings.{Holds}
use Rattle.wp_threads.proofs.Looping.{GoesOn}
use Rattle.wp_threads.proofs.session.answer_all.Given as goal

abbrev pub invariant-loop-command : goal.invariant-loop-command
invariant-loop-command g l = record {
  goes : GoesOn l.store (take l.command-index l.commands) l.replies.items l.initial.seat l.initial.held l.seat l.held;
  stays : Stays l.initial.seat l.seat;
  holds : Holds l.store l.seat l.held;
  count : length l.replies.items ≡ l.command-index;
}
