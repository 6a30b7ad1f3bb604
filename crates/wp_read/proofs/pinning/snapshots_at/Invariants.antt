use Rattle.std.proofs.Common.{◌≡◌, ◌≤◌, length, map, take}
use Rattle.std.specs.Vec.{vec_capacity}
use Rattle.wp_read.specs.Registers.{again}
use Rattle.wp_read.proofs.pinning.snapshots_at.Given as goal

abbrev pub invariant-loop-number : goal.invariant-loop-number
invariant-loop-number l = record {
  made : l.live.items ≡ map again (take l.number-index l.numbers);
  room : length l.numbers ≤ vec_capacity l.live;
}
