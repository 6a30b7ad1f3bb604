use Rattle.wp_text.proofs.AsRead.{one_reading}
use Rattle.wp_text.proofs.read.one_reading.Goals as goal

pub returns : goal.returns
returns c = one_reading
