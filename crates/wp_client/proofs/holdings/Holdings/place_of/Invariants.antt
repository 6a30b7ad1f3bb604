use Rattle.wp_client.proofs.Placing.{NoneAmong}
use Rattle.wp_client.proofs.holdings.Holdings.place_of.Given as goal

abbrev pub invariant-loop-i : goal.invariant-loop-i
invariant-loop-i l = NoneAmong l.self-inside.snapshots.items l.label l.i
