use Rattle.std.proofs.Common.{[], refl}
use Rattle.wp_core.proofs.Openings.{opened_world, one_word, is_opened}
use Rattle.wp_core.proofs.laws.every_history_opens.Goals as goal

pub returns : goal.returns
returns c opened legal closed = (opened_world opened one_word [], is_opened opened legal closed, refl)
