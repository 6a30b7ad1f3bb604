use Rattle.std.proofs.Common.{◌≡◌, take, filter, not}
use Rattle.wp_core.specs.Changes.{is_held_by}
use Rattle.wp_machine.proofs.locks.other_keys.Given as goal

abbrev pub invariant-loop-pair : goal.invariant-loop-pair
invariant-loop-pair l = l.keys.items ≡ filter (λ e. not (is_held_by l.table l.holder e.0)) (take l.pair-index l.pairs)
