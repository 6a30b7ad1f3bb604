use Rattle.std.proofs.Common.{◌≡◌, take, filter, map}
use Rattle.wp_core.specs.Changes.{is_held_by}
use Rattle.wp_machine.proofs.locks.held_keys.Given as goal

abbrev pub invariant-loop-pair : goal.invariant-loop-pair
invariant-loop-pair l = l.keys.items ≡ filter (is_held_by l.table l.holder) (map (λ e. e.0) (take l.pair-index l.pairs))
