use Rattle.std.proofs.Common.{◌≡◌, ap, ◌∙◌, subst}
use Rattle.std.specs.Prelude.{IfSome}
use Rattle.wp_model.specs.Flushed.{InstalledEdit}
use Rattle.wp_core.specs.States.{Installed}
use Rattle.wp_maint.proofs.Found.{failed_last}
use Rattle.wp_maint.proofs.Made.{may_halt, was_halted, stands_after}
use Rattle.wp_maint.proofs.steps.remember_fault.Goals as goal

pub make_about-requires-clause-may : goal.make_about-requires-clause-may
make_about-requires-clause-may g c =
    let h = c.requires.held in let failed = c.args.edits.now.state.failed in
    may_halt _ _ h.0 failed h.1 h.3 c.requires.covered (subst (λ (l : InstalledEdit). IfSome failed (λ edit. edit.segment ≡ l.segment)) (ap (λ (x : Installed). x.last) h.2 ∙ failed_last h.0 failed) c.requires.segment)

pub returns : goal.returns
returns g c = let h = c.requires.held in let m = c.make_about.ensures.moved in record {
  goes = was_halted _ _ c.args.seat.now c.make_about.new.seat c.make_about.ensures.same h.0 c.args.edits.now.state h.1 h.2 m;
  stands = stands_after c.args.store.now _ _ c.args.seat.now c.make_about.new.seat c.make_about.ensures.same.1 m;
}
