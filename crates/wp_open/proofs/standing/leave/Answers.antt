use Rattle.std.proofs.Common.{sym, subst, Some, None}
use Rattle.wp_history.specs.History.{Leaves}
use Rattle.wp_history.proofs.Holding.{leaves_by}
use Rattle.wp_open.proofs.standing.leave.Goals as goal

pub returns-in_default : goal.returns-in_default
returns-in_default c =
    subst (λ value. Leaves c.args.version.key value c.args.store.now c.remove.new.self) (sym c.in_default.is)
    (leaves_by c.args.version.key None c.args.store.now c.remove.new.self c.remove.ensures.updates.0 c.remove.ensures.ordered)

pub returns : goal.returns
returns c =
    subst (λ value. Leaves c.args.version.key value c.args.store.now c.insert.new.self) (sym c.in-Some.is)
    (leaves_by c.args.version.key (Some c.in-Some.value) c.args.store.now c.insert.new.self c.in_ok-insert.ensures.updates.0 c.in_ok-insert.ensures.ordered)
