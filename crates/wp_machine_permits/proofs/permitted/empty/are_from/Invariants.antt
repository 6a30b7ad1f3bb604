use Rattle.std.proofs.Common.{◌≤◌, drop}
use Rattle.wp_machine_permits.specs.Each.{Each}
use Rattle.wp_machine_permits.proofs.permitted.empty.are_from.Given as goal

abbrev pub invariant-loop-number : goal.invariant-loop-number
invariant-loop-number l = Each (λ p. l.least ≤ p) (drop l.number-index l.numbers) → Each (λ p. l.least ≤ p) l.numbers
