use Rattle.std.proofs.Common.{◌≡◌, true, drop}
use Rattle.wp_model.specs.LockState.{is_among_keys}
use Rattle.wp_machine_permits.proofs.needs.unchanged.is_among.Given as goal

abbrev pub invariant-loop-other : goal.invariant-loop-other
invariant-loop-other l = is_among_keys (drop l.other-index l.keys) l.key ≡ true → is_among_keys l.keys l.key ≡ true
