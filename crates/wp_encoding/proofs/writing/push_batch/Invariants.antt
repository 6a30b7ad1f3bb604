use Rattle.std.proofs.Common.{◌≡◌, true, take, ◌∷◌, ◌++◌, length}
use Rattle.std.specs.List.{flat_map, list_all}
use Rattle.wp_encoding.specs.Encoding.{change_bytes, is_change}
use Rattle.wp_encoding.proofs.writing.push_batch.Given as goal

abbrev pub invariant-loop-change : goal.invariant-loop-change
invariant-loop-change l = record {
  pushed : l.out.items ≡ l.fn.out.items ++ length l.changes ∷ flat_map change_bytes (take l.change-index l.changes);
  in_range : list_all is_change (take l.change-index l.changes) ≡ true;
}
