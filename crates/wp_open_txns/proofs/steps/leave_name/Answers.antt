use Rattle.std.proofs.Common.{sym, subst, ap, is_some, None}
use Rattle.wp_core.specs.Changes.{with_name}
use Rattle.wp_open_txns.specs.Turns.{IsWithout}
use Rattle.wp_open_txns.specs.Txn.{PreparedState, HasPrepared}
use Rattle.wp_open_txns.proofs.Made.{stands_after, may_leave, is_live, left_it}
use Rattle.wp_open_txns.proofs.steps.leave_name.Goals as goal

pub make_about-requires-clause-may : goal.make_about-requires-clause-may
make_about-requires-clause-may g c =
    may_leave _ _ c.args.tables.now _ (subst (HasPrepared c.args.seat.now) (sym c.txn.view_is) c.requires.prepared) c.requires.held

pub returns-clause-without : goal.returns-clause-without
returns-clause-without g c =
    subst (λ (t : PreparedState). IsWithout c.args.seat.now c.make_about.new.seat (with_name c.args.tables.now t.name None) t.name) c.txn.view_is
    (left_it _ _ _ _ c.make_about.ensures.same c.args.tables.now c.txn.inside.name c.requires.held c.make_about.ensures.moved)

pub returns-clause-live : goal.returns-clause-live
returns-clause-live g c = is_live _ _ _ c.args.tables.now c.args.txn.now.name c.make_about.ensures.moved.before (ap is_some c.requires.prepared.has) c.requires.held

pub returns-clause-stands : goal.returns-clause-stands
returns-clause-stands g c = stands_after c.args.store.now c.args.seat.now c.make_about.new.seat _ _ c.make_about.ensures.same.1 c.make_about.ensures.moved
