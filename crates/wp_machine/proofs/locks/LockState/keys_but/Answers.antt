use Rattle.std.proofs.Common.{ap, ◌∙◌}
use Rattle.wp_machine.proofs.NameMaps.{map_of, map_retained}
use Rattle.wp_machine.proofs.locks.LockState.keys_but.Goals as goal

pub returns : goal.returns
returns c = ap map_of c.in_ok-keys.ensures ∙ rw (c.deref.ensures.value, ← c.self.view_is) (map_retained _ _)
