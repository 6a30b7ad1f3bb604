use Rattle.std.proofs.Common.{◌≡◌, ◌-◌}
use Rattle.std.specs.Option.{option_map}
use Rattle.wp_table.specs.Borrowed.{seen}
use Rattle.wp_table.specs.Judging.{last_after}
use Rattle.wp_table.proofs.reading.last_after.Given as goal

abbrev pub invariant-loop : goal.invariant-loop
invariant-loop l = last_after l.format (l.count - l.counter) l.flushed (option_map seen l.last) l.fields ≡ last_after l.format l.count l.flushed (option_map seen l.before) l.fn.fields
