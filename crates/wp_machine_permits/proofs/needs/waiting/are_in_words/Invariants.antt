use Rattle.std.proofs.Common.{drop}
use Rattle.wp_machine_permits.specs.Each.{Each}
use Rattle.wp_machine_permits.specs.Waiting.{IsInWord}
use Rattle.wp_machine_permits.proofs.needs.waiting.are_in_words.Given as goal

abbrev pub invariant-loop-p : goal.invariant-loop-p
invariant-loop-p l = Each (IsInWord l.history.entries l.world.cache l.world.max_evicted) (drop l.p-index l.numbers) → Each (IsInWord l.history.entries l.world.cache l.world.max_evicted) l.numbers
