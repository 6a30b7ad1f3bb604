use Rattle.std.proofs.Common.{◌≡◌, take, map}
use Rattle.wp_model.specs.declared.carried.Carried.{Carried}
use Rattle.wp_history.proofs.outline.numbers_of.Given as goal

abbrev pub invariant-loop-x : goal.invariant-loop-x
invariant-loop-x l = l.numbers.items ≡ map (λ (x : Carried). x.number) (take l.x-index l.carried)
