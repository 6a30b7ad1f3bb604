use Rattle.std.proofs.Common.{◌≡◌, ◌+◌}
use Rattle.std.specs.List.{sum_by}
use Rattle.wp_make.specs.Totals.{size_of}
use Rattle.wp_make.proofs.sizes.bytes_of.Given as goal

abbrev pub invariant-loop-key : goal.invariant-loop-key
invariant-loop-key l = l.bytes + sum_by size_of l.key-iterator ≡ sum_by size_of l.store.entries
