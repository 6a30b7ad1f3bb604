use Rattle.std.proofs.Common.{◌≡◌, take, drop}
use Rattle.wp_model.specs.CachePlace.{crowded_behind, first_crowded}
use Rattle.wp_group.proofs.group.first_crowded.Given as goal

abbrev pub invariant-loop-i : goal.invariant-loop-i
invariant-loop-i l = crowded_behind l.cells (take l.i l.numbers) (drop l.i l.numbers) ≡ first_crowded l.cells l.numbers
