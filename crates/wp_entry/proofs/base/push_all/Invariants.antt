use Rattle.std.proofs.Common.{◌≡◌, true, take, ◌++◌}
use Rattle.std.specs.List.{flat_map, list_all}
use Rattle.wp_entry.specs.Base.{carried_bytes, is_carried}
use Rattle.wp_entry.proofs.base.push_all.Given as goal

abbrev pub invariant-loop-one : goal.invariant-loop-one
invariant-loop-one l = record {
  pushed : l.out.items ≡ l.fn.out.items ++ flat_map carried_bytes (take l.one-index l.carried);
  in_range : list_all is_carried (take l.one-index l.carried) ≡ true;
}
