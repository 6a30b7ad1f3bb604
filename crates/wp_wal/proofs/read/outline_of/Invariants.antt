use Rattle.std.proofs.Common.{◌≡◌, ◌≢◌, [], take}
use Rattle.wp_history.specs.Outline.{cut_in}
use Rattle.wp_wal.specs.Reading.{IsReading}
use Rattle.wp_wal.specs.Spelling.{AreCut, IsBegun}
use Rattle.wp_wal.proofs.read.outline_of.Given as goal

abbrev pub invariant-loop-i : goal.invariant-loop-i
invariant-loop-i l = record {
  told : IsReading l.reading.outline l.reading.holders;
  spelled : AreCut l.fn.format 0 (take l.i l.records) (cut_in l.reading.outline);
  begun : l.records ≢ [] → IsBegun l.fn.format (take l.i l.records);
  there : l.records ≡ [] → l.fn.place ≡ 0;
}
