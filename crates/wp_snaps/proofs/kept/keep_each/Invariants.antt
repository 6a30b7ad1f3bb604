use Rattle.std.proofs.Common.{◌≡◌, ◌+◌, ◌-◌, ◌<◌, ◌≤◌}
use Rattle.wp_model.specs.Snapshots.{ChangesWhere, overlaps, after_keep}
use Rattle.std.specs.FinSet.{len}
use Rattle.wp_snaps.specs.KeptNumbers.{kept_numbers}
use Rattle.wp_snaps.specs.Room.{snapshots_of, HasRoom}
use Rattle.wp_snaps.proofs.kept.keep_each.Given as goal

-- p is under each live number passed so far, and the others have the room for it
abbrev pub invariant-loop-s : goal.invariant-loop-s
invariant-loop-s l = record {
  start : l.p ≤ l.from;
  within : l.p < l.from → l.from ≤ l.c;
  old_commits : ChangesWhere (overlaps l.p l.from) (after_keep l.p) (snapshots_of l.fn.live) (snapshots_of l.live);
  room : HasRoom l.live l.from l.c;
  more : len (kept_numbers (snapshots_of l.live)) ≡ len (kept_numbers (snapshots_of l.fn.live)) + l.more;
  few : l.p + l.more ≤ l.from;
}

abbrev pub decreases-loop-s : goal.decreases-loop-s
decreases-loop-s l = l.c - l.from
