use Rattle.std.proofs.Common.{◌≡◌, true, drop}
use Rattle.wp_model.specs.LockState.{is_among_keys}
use Rattle.wp_machine_permits.specs.Each.{Each}
use Rattle.wp_machine_permits.proofs.needs.unchanged.are_among.Given as goal

abbrev pub invariant-loop-key : goal.invariant-loop-key
invariant-loop-key l = Each (λ key. is_among_keys l.keys key ≡ true) (drop l.key-index l.found) → Each (λ key. is_among_keys l.keys key ≡ true) l.found
