use Rattle.std.proofs.Common.{drop, ◌≡◌, ◌≤◌, ◌<◌, true}
use Rattle.wp_model.specs.Snapshots.{is_old_commit}
use Rattle.wp_machine_permits.specs.Each.{Each}
use Rattle.wp_machine_permits.proofs.needs.clearing.is_kept_under_each.Given as goal

abbrev pub invariant-loop-s : goal.invariant-loop-s
invariant-loop-s l = record {
  onward : Each (λ s. l.p ≤ s → s < l.c → is_old_commit l.snapshots s l.p ≡ true) l.live → Each (λ s. l.p ≤ s → s < l.c → is_old_commit l.snapshots s l.p ≡ true) (drop l.s-index l.live);
  back : Each (λ s. l.p ≤ s → s < l.c → is_old_commit l.snapshots s l.p ≡ true) (drop l.s-index l.live) → Each (λ s. l.p ≤ s → s < l.c → is_old_commit l.snapshots s l.p ≡ true) l.live;
}
