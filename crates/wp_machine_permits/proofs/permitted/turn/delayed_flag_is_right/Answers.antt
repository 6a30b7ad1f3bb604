use Rattle.std.proofs.Common.{◌≡◌, true, false}
use Rattle.wp_machine_permits.proofs.permitted.turn.delayed_flag_is_right.Goals as goal

pub returns : goal.returns
returns c there nothing = let apart : false ≡ true = rw (c.none_delayed.ensures.1 (rw (← c.world.view_is) at nothing)) at there in absurd cc
