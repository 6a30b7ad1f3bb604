use Rattle.std.proofs.Common.{◌≡◌, map, take}
use Rattle.wp_model.specs.History.{undecided}
use Rattle.wp_cuts.specs.Cut.{carried_from}
use Rattle.wp_open_txns.proofs.undecided.carried_at.Given as goal

abbrev pub invariant-loop-p : goal.invariant-loop-p
invariant-loop-p l = l.prepares.items ≡ map (carried_from l.history.entries) (take l.p-index (undecided (take l.n l.history.entries)))
