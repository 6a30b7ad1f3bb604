use Rattle.std.proofs.Common.{◌≡◌, ◌≤◌, ◌++◌, length}
use Rattle.wp_wal.specs.Reading.{IsReading}
use Rattle.wp_wal.proofs.read.take_entries.Given as goal

abbrev pub invariant-loop-entry : goal.invariant-loop-entry
invariant-loop-entry l = record {
  told : IsReading l.reading.outline l.reading.holders;
  base : l.reading.outline.base ≡ l.fn.reading.outline.base;
  parts : l.fn.entries.items ≡ l.yielded ++ l.entry-iterator.rest.items;
  following : l.reading.outline.entries ≡ l.fn.reading.outline.entries ++ l.yielded;
  room : length l.entry-iterator.rest.items ≤ l.reading.outline.room;
}
