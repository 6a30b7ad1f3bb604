use Rattle.std.proofs.Common.{rules}
use Rattle.std.proofs.lemmas.List.Edits.{map_over_more}
use Rattle.wp_memtable.specs.Memtable.{below}
use Rattle.wp_store.proofs.store.remove_from_all.Goals as goal

pub loop-i-preserved : goal.loop-i-preserved
loop-i-preserved c =
    rw c.remove_from.ensures
    (map_over_more (below c.args.n) c.args.parts.now.items c.loop-i.parts.items c.loop-i.i c.index_mut.result.now (search rules) c.loop-i.invariant c.index_mut.ensures.value)
