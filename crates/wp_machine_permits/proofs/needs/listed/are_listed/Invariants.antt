use Rattle.std.proofs.Common.{drop}
use Rattle.wp_machine_permits.specs.VersionLists.{IsListed}
use Rattle.wp_machine_permits.specs.Each.{Each}
use Rattle.wp_machine_permits.proofs.needs.listed.are_listed.Given as goal

abbrev pub invariant-loop-s : goal.invariant-loop-s
invariant-loop-s l = record {
  onward : Each (λ s. IsListed l.floor l.listed s) l.live → Each (λ s. IsListed l.floor l.listed s) (drop l.s-index l.live);
  back : Each (λ s. IsListed l.floor l.listed s) (drop l.s-index l.live) → Each (λ s. IsListed l.floor l.listed s) l.live;
}
