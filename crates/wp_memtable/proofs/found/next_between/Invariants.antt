use Rattle.std.proofs.Common.{◌≡◌, ◌-◌, drop, filter, length}
use Rattle.wp_memtable.specs.Bounds.{is_between}
use Rattle.wp_memtable.proofs.found.next_between.Given as goal

abbrev pub invariant-loop-number : goal.invariant-loop-number
invariant-loop-number l = filter (λ p. is_between l.bounds p.0) (drop l.next l.versions.versions) ≡ filter (λ p. is_between l.bounds p.0) (drop l.fn.next l.versions.versions)

abbrev pub decreases-loop-number : goal.decreases-loop-number
decreases-loop-number l = length l.versions.versions - l.next
