use Rattle.std.proofs.Common.{ap, ◌∙◌}
use Rattle.wp_model.specs.Rows.{next_version}
use Rattle.wp_memtable.specs.Bounds.{is_between}
use Rattle.wp_memtable.proofs.Between.{filter_all}
use Rattle.wp_memtable.proofs.memtable.Memtable.next_version.Goals as goal

pub returns-clause-found : goal.returns-clause-found
returns-clause-found c = c.next_between.ensures.found ∙ ap (next_version c.args.above c.args.key.now) (filter_all (is_between c.none.result) c.args.self.now c.none.ensures)
