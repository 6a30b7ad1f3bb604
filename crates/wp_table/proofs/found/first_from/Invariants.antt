use Rattle.std.proofs.Common.{◌≡◌, ◌+◌, length}
use Rattle.std.specs.Option.{option_map}
use Rattle.wp_table.specs.Borrowed.{seen, with_next, skip_short}
use Rattle.wp_table.proofs.found.first_from.Given as goal

abbrev pub invariant-loop-next : goal.invariant-loop-next
invariant-loop-next g l = record {
  found : skip_short l.above l.key (with_next (option_map seen l.next) l.rest) ≡ skip_short l.above l.key l.fn.rest;
  cost : l.steps + length (with_next (option_map seen l.next) l.rest) ≡ l.fn.steps + length l.fn.rest;
}

abbrev pub decreases-loop-next : goal.decreases-loop-next
decreases-loop-next g l = length (with_next (option_map seen l.next) l.rest)
