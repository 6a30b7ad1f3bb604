use Rattle.std.proofs.Common.{arith}
use Rattle.wp_manifest.proofs.EditLemmas.{counted}
use Rattle.wp_manifest.proofs.read.counts_of.Goals as goal
use Rattle.wp_manifest.proofs.read.counts_of.Goals.{then-left-ne0-via-then-left-ne0, then-left-ne0-via-else-left-ne0+then-left-front}

pub returns-then-left-ne0 : goal.returns-then-left-ne0
returns-then-left-ne0 c = λ edit spelled.
    let one = counted c.args.fields.now c.front_of.new.fields edit c.in_ok-front.front spelled c.in_ok-front.ensures in
    elim c.then-left-ne0.branch [
      | then-left-ne0-via-then-left-ne0 w ↦ w.if-left-ne0.true (omega (arith, c.left-left.ensures, one.rest_is))
      | then-left-ne0-via-else-left-ne0+then-left-front w ↦ w.if-left-front.true (omega (arith, c.left-left.ensures, one.rest_is))
    ]
