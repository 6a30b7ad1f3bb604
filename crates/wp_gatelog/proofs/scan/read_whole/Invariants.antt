use Rattle.std.proofs.Common.{◌≡◌, ◌-◌, ◌^◌}
use Rattle.wp_outside.specs.Disk.{Looks}
use Rattle.wp_gatelog.proofs.scan.read_whole.Given as goal

abbrev pub invariant-sizes : goal.invariant-sizes
invariant-sizes g l = record {
  looks : Looks (g.P.Peek.moments l.initial.disk) (g.P.Peek.moments l.disk) (g.P.Peek.is_alone l.initial.disk) (g.P.Peek.is_alone l.disk);
  unfailed : g.P.Peek.faults l.disk ≡ g.P.Peek.faults l.initial.disk;
}

abbrev pub decreases-sizes : goal.decreases-sizes
decreases-sizes g l = 2 ^ 62 - l.size
