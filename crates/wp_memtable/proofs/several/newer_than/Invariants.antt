use Rattle.std.proofs.Common.{◌≡◌, ◌+◌, ◌-◌, ◌≤◌, drop, length, nat_lt}
use Rattle.std.specs.List.{prefix_len}
use Rattle.wp_memtable.proofs.several.newer_than.Given as goal

abbrev pub invariant-loop-number : goal.invariant-loop-number
invariant-loop-number l = record {
  within : l.i ≤ length l.versions.items;
  newer : l.i + prefix_len (λ e. nat_lt l.n e.0) (drop l.i l.versions.items) ≡ prefix_len (λ e. nat_lt l.n e.0) l.versions.items;
}

abbrev pub decreases-loop-number : goal.decreases-loop-number
decreases-loop-number l = length l.versions.items - l.i
