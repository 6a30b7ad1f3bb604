use Rattle.std.proofs.Common.{ap, ◌∙◌}
use Rattle.wp_memtable.specs.Bounds.{is_between}
use Rattle.wp_memtable.specs.Memtable.{numbered_of}
use Rattle.wp_memtable.proofs.Between.{filter_all}
use Rattle.wp_memtable.proofs.memtable.Memtable.versions.Goals as goal

pub returns-clause-found : goal.returns-clause-found
returns-clause-found c = c.versions_between.ensures.found ∙ ap (numbered_of c.args.key.now) (filter_all (is_between c.none.result) c.args.self.now c.none.ensures)
