use Rattle.std.proofs.Common.{◌≡◌, length, map, take}
use Rattle.std.specs.Arc.{arc_value}
use Rattle.std.specs.List.{AllByRecursion}
use Rattle.wp_outside.specs.Disk.{Looks}
use Rattle.wp_table.specs.Table.{IsTable}
use Rattle.wp_refused.specs.Shown.{Sometime, WereShown}
use Rattle.wp_open.proofs.tables.read_tables.Given as goal

abbrev pub invariant-loop-placed : goal.invariant-loop-placed
invariant-loop-placed g l = record {
  looks : Looks (g.P.Peek.moments l.fn.tables) (g.P.Peek.moments l.tables) (g.P.Peek.is_alone l.fn.tables) (g.P.Peek.is_alone l.tables);
  unfailed : g.P.Peek.faults l.tables ≡ g.P.Peek.faults l.fn.tables;
  sized : Sometime (λ m. l.len ≡ length m.reads) (g.P.Peek.moments l.fn.tables) (g.P.Peek.moments l.tables);
  there : WereShown l.id l.edit.flushed (g.P.Peek.moments l.fn.tables) (g.P.Peek.moments l.tables) (take l.placed-index l.placed-items) (map arc_value l.parts.items);
  are : AllByRecursion (IsTable l.id l.edit.flushed) (map arc_value l.parts.items);
  as_many : length (map arc_value l.parts.items) ≡ l.placed-index;
}
