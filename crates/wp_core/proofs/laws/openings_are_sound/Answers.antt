use Rattle.wp_core.proofs.Opened.{opening_is_sound}
use Rattle.wp_core.proofs.laws.openings_are_sound.Goals as goal

pub returns : goal.returns
returns c w o = opening_is_sound w o
