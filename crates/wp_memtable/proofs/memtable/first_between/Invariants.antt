use Rattle.std.proofs.Common.{◌≡◌}
use Rattle.wp_model.specs.Rows.{next_version}
use Rattle.wp_memtable.specs.Bounds.{between}
use Rattle.wp_memtable.specs.Memtable.{versions_in}
use Rattle.wp_memtable.proofs.NextVersion.{first_with}
use Rattle.wp_memtable.proofs.memtable.first_between.Given as goal

abbrev pub invariant-loop-other : goal.invariant-loop-other
invariant-loop-other l = first_with l.bounds l.other-iterator ≡ next_version l.above l.key (between l.bounds (versions_in l.places.entries))
