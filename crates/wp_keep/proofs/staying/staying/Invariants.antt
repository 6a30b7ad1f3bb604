use Rattle.std.proofs.Common.{◌≡◌, map, take}
use Rattle.wp_keep.specs.Keep.{by_commits, stays}
use Rattle.wp_keep.proofs.Noted.{HasNoted}
use Rattle.wp_keep.proofs.staying.staying.Given as goal

abbrev pub invariant-loop-version : goal.invariant-loop-version
invariant-loop-version l = record {
  stay : l.stay.items ≡ map (stays (by_commits l.commits) l.versions l.snapshots l.floor) (take l.version-index l.versions);
  noted : HasNoted l.commits (take l.version-index l.versions) l.newer;
}
