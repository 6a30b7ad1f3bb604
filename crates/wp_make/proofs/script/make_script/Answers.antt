use Rattle.std.proofs.Common.{◌+◌, arith}
use Rattle.std.proofs.lemmas.List.FromFn.{map-range_with_len_more}
use Rattle.wp_make.specs.Generator.{made_part}
use Rattle.wp_make.proofs.script.make_script.Goals as goal

pub loop-i-preserved : goal.loop-i-preserved
loop-i-preserved c =
    let more = map-range_with_len_more (made_part c.args.seed c.args.lines) 1 c.loop-i.i (c.loop-i.i + 1) (omega arith) in
    cc (more, c.loop-i.invariant, c.in_ok-make_part.ensures, c.in_ok-push.ensures.items)
