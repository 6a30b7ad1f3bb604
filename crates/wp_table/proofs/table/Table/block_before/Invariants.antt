use Rattle.std.proofs.Common.{◌+◌, ◌-◌, ◌*◌, ◌^◌, ◌≤◌, length}
use Rattle.wp_table.specs.Table.{block_count}
use Rattle.wp_table.specs.Walk.{StandsFrom}
use Rattle.wp_table.proofs.table.Table.block_before.Given as goal

abbrev pub invariant-loop-behind : goal.invariant-loop-behind
invariant-loop-behind g l = record {
  stands : StandsFrom l.self l.above l.key l.first l.behind;
  later : l.fn.steps ≤ l.steps;
  halved : 2 ^ (l.steps - l.fn.steps) * (l.behind - l.first - 1) ≤ block_count (length l.self);
  cost : 2 ^ (l.steps - l.fn.steps) ≤ 2 * block_count (length l.self) + 1;
}

abbrev pub decreases-loop-behind : goal.decreases-loop-behind
decreases-loop-behind g l = l.behind - l.first
