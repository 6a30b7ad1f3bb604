use Rattle.wp_read.proofs.HeldKeys.{keeps_values}
use Rattle.wp_read.proofs.laws.held_keys_keep_their_values.Goals as goal

pub returns : goal.returns
returns c history p n legal undecided low within = keeps_values history legal p n undecided low within
