use Rattle.std.proofs.Common.{ap, sym, ◌∙◌}
use mathlib.Core.Option.{some}
use lib.ListN.{get_elem?}
use Rattle.wp_machine.proofs.Acting.{at_index}
use Rattle.wp_machine.proofs.applied.take_actor.Goals as goal

pub returns-clause-actor : goal.returns-clause-actor
returns-clause-actor c =
    let within = rw (← c.world.view_is) at c.requires in
    ap (λ w. get_elem? w.actors c.args.by) (sym c.world.view_is) ∙ at_index c.world.inside.actors.items c.args.by c.index_mut.result.now within
    ∙ ap some (sym c.index_mut.ensures.value ∙ sym c.replace.ensures.value)
