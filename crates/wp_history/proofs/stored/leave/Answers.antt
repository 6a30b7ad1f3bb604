use Rattle.std.proofs.Common.{Some, None, sym, subst}
use Rattle.wp_model.specs.declared.change.Change.{Change}
use Rattle.wp_model.specs.Batch.{key_of, value_of}
use Rattle.wp_history.specs.History.{Leaves}
use Rattle.wp_history.proofs.Holding.{leaves_by}
use Rattle.wp_history.proofs.stored.leave.Goals as goal

pub returns-in_ok-insert-in-Put : goal.returns-in_ok-insert-in-Put
returns-in_ok-insert-in-Put c =
    let updates = rw (c.in_ok-copy-in-Put.ensures, c.in_ok-copy-in-Put-2.ensures) at c.in_ok-insert-in-Put.ensures.updates in
    subst (λ (change : Change). Leaves (key_of change) (value_of change) c.args.store.now c.insert.new.self) (sym c.in-Put.is)
    (leaves_by c.in-Put.key (Some c.in-Put.value) c.args.store.now c.insert.new.self updates.0 c.in_ok-insert-in-Put.ensures.ordered)

pub returns-in-Del : goal.returns-in-Del
returns-in-Del c =
    subst (λ (change : Change). Leaves (key_of change) (value_of change) c.args.store.now c.remove.new.self) (sym c.in-Del.is)
    (leaves_by c.in-Del.key None c.args.store.now c.remove.new.self c.remove.ensures.updates.0 c.remove.ensures.ordered)
