use Rattle.std.proofs.Common.{◌≡◌, take}
use Rattle.wp_model.specs.Legal.{prior}
use Rattle.wp_history.proofs.history.History.prior.Given as goal

abbrev pub invariant-loop-change : goal.invariant-loop-change
invariant-loop-change l = l.batch ≡ prior l.self.entries (take l.change-index l.change-items)
