use Rattle.std.proofs.Common.{◌≡◌, ◌++◌, take}
use Rattle.std.specs.Iterator.Adapters.{take_source, take_count}
use Rattle.wp_memtable.specs.Memtable.{under}
use Rattle.wp_store.proofs.newest.copied.Given as goal

abbrev pub invariant-loop-number : goal.invariant-loop-number
invariant-loop-number l = l.list.items ++ take (take_count l.number-iterator) (under l.key (take_source l.number-iterator)) ≡ take l.n (under l.key l.fn.found)
