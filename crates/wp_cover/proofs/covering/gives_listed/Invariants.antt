use Rattle.std.proofs.Common.{take}
use Rattle.wp_cover.specs.Sources.{all_of}
use Rattle.wp_cover.proofs.Together.{GivesListed}
use Rattle.wp_cover.proofs.covering.gives_listed.Given as goal

abbrev pub invariant-loop-n : goal.invariant-loop-n
invariant-loop-n l = GivesListed (all_of l.sources) l.decisions (take l.n-index l.numbers)
