use Rattle.wp_core.proofs.EachStep.{reached_is_sound}
use Rattle.wp_core.proofs.Later.{run_grows}
use Rattle.wp_core.proofs.laws.histories_grow.Goals as goal

pub returns : goal.returns
returns c w reached later run = let grown = run_grows run (reached_is_sound w reached).history.legal in ((grown.more, grown.is), grown.legal)
