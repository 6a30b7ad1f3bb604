use Rattle.std.proofs.Common.{true, [], ◌∷◌, sym, subst, ◌∙◌}
use Rattle.wp_core.specs.States.{WriteState, installed, writes}
use Rattle.wp_core.specs.Views.{log_failed}
use Rattle.wp_shared.specs.Calls.{with_events}
use Rattle.wp_shared.specs.Notes.{GoesOn, with_participant}
use Rattle.wp_maint.proofs.Made.{stands_after}
use Rattle.wp_stages.proofs.Renews.{may_close, was_closed}
use Rattle.wp_stages.proofs.steps.remember_log_fault.Goals as goal

pub make_about-requires-clause-may : goal.make_about-requires-clause-may
make_about-requires-clause-may g c = let h = c.requires.held in may_close _ _ h.0 c.args.edits.now.state h.1 h.3 h.4 h.6 h.7

pub returns : goal.returns
returns g c =
    let s = c.args.seat.now in let u = c.make_about.new.seat in let h = c.requires.held in record {
      goes = subst (λ (x : WriteState). GoesOn _ (writes x ∷ installed c.args.edits.now.state ∷ []) s.turns (with_participant (with_events (log_failed [] ∷ []) s.knows.participant) s) u) ((λ i. record h.0 { closed = true; failed = sym h.5 i }) ∙ sym h.2)
          (was_closed _ _ s u c.make_about.ensures.same h.0 c.args.edits.now.state h.1 c.make_about.ensures.moved h.4);
      stands = stands_after c.args.store.now _ _ s u c.make_about.ensures.same.1 c.make_about.ensures.moved;
    }
