use Rattle.std.proofs.Common.{◌≡◌}
use Rattle.std.specs.List.{list_any}
use Rattle.wp_memtable.specs.Bounds.{is_between}
use Rattle.wp_memtable.specs.Memtable.{versions_in}
use Rattle.wp_memtable.proofs.memtable.Memtable.has_between.Given as goal

abbrev pub invariant-loop-versions : goal.invariant-loop-versions
invariant-loop-versions l = list_any (λ v. is_between l.bounds v.number) (versions_in l.versions-iterator) ≡ list_any (λ v. is_between l.bounds v.number) l.self
