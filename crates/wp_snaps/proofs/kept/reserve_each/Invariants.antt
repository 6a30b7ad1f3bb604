use Rattle.std.proofs.Common.{◌≡◌, ◌-◌}
use Rattle.wp_snaps.specs.Room.{snapshots_of, HasRoom}
use Rattle.wp_snaps.proofs.kept.reserve_each.Given as goal

abbrev pub invariant-loop-s : goal.invariant-loop-s
invariant-loop-s l = record {
  same_snapshots : snapshots_of l.live ≡ snapshots_of l.fn.live;
  room : HasRoom l.live l.start l.from;
}

abbrev pub decreases-loop-s : goal.decreases-loop-s
decreases-loop-s l = l.end - l.from
