use Rattle.std.proofs.Common.{◌≡◌, ◌-◌, [], None}
use Rattle.std.specs.Option.{option_map}
use Rattle.wp_table.specs.Borrowed.{seen}
use Rattle.wp_table.specs.Table.{block_count}
use Rattle.wp_table.specs.Judging.{places_after}
use Rattle.wp_table.proofs.reading.all_blocks.Given as goal

abbrev pub invariant-loop : goal.invariant-loop
invariant-loop l =
    places_after l.format (l.blocks - l.counter) l.size l.flushed l.left (option_map seen l.last) l.places.items l.fields ≡ places_after l.format (block_count l.count) l.size l.flushed l.count None [] l.fn.fields
