use Rattle.std.proofs.Common.{◌≡◌, drop}
use Rattle.wp_core.specs.Turns.{turn_of}
use Rattle.wp_machine.specs.HeldTables.{place_from}
use Rattle.wp_machine.proofs.actor.place_of.Given as goal

abbrev pub invariant-loop-i : goal.invariant-loop-i
invariant-loop-i l = place_from (turn_of l.turn) 0 l.held ≡ place_from (turn_of l.turn) l.i (drop l.i l.held)
