use Rattle.std.specs.Arc.{arc_value}
use Rattle.wp_memtable.specs.Bounds.{is_between}
use Rattle.wp_memtable.proofs.Between.{filter_all}
use Rattle.wp_memtable.proofs.frozen.FrozenPart.of.Goals as goal

pub returns : goal.returns
returns c = filter_all (is_between c.none.result) (arc_value c.args.part) c.none.ensures
