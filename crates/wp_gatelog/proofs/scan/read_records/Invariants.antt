use Rattle.std.proofs.Common.{◌≡◌, ◌-◌, ◌≤◌, ◌^◌, ◌∷◌, [], vec_len}
use Rattle.wp_outside.specs.Disk.{IfKnown, Looks}
use Rattle.wp_gatelog.specs.Patched.{Shows}
use Rattle.wp_gatelog.proofs.ScanLemmas.{HasScanned}
use Rattle.wp_gatelog.proofs.scan.read_records.Given as goal

abbrev pub invariant-gates : goal.invariant-gates
invariant-gates g l = record {
  looks : Looks (g.P.Peek.moments l.initial.disk) (g.P.Peek.moments l.disk) (g.P.Peek.is_alone l.initial.disk) (g.P.Peek.is_alone l.disk);
  unfailed : g.P.Peek.faults l.disk ≡ g.P.Peek.faults l.initial.disk;
  count : vec_len l.records ≤ l.end;
  scanned : IfKnown (g.P.Peek.moments l.initial.disk) (λ m. Shows l.start (l.first ∷ []) m → HasScanned l.start (g.P.Peek.moments l.initial.disk) (g.P.Peek.moments l.disk) l.piece l.records.items l.last l.end);
}

abbrev pub decreases-gates : goal.decreases-gates
decreases-gates g l = 2 ^ 62 - l.end
