use Rattle.std.proofs.Common.{◌+◌, ◌-◌, ap, arith}
use Rattle.wp_make.specs.Generator.{made_in, new_maker}
use Rattle.wp_make.specs.declared.maker.Maker.{Maker}
use Rattle.wp_make.proofs.GeneratorLemmas.{begins_few, made_more}
use Rattle.wp_make.proofs.script.make_part.Goals as goal

pub loop-turn-preserved : goal.loop-turn-preserved
loop-turn-preserved c =
    let left = c.in_ok-make_next.ensures.left in
    record {
      made = made_more (c.args.lines - c.loop-turn._turn) (c.args.lines - (c.loop-turn._turn + 1)) c.loop-turn.maker c.make_next.new.self c.loop-turn.commands c.make_next.new.commands (made_in c.args.lines (new_maker c.args.seed c.args.client)) (omega arith) c.loop-turn.invariant.made c.in_ok-make_next.ensures.commands left;
      few = omega (arith, begins_few c.loop-turn.maker, ap (λ (m : Maker). m.begins) left);
    }
