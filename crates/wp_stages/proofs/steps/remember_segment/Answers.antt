use Rattle.wp_model.specs.declared.segment.Segment.{Segment}
use Rattle.wp_maint.proofs.Made.{stands_after}
use Rattle.wp_stages.proofs.Renews.{may_write, was_written}
use Rattle.wp_stages.proofs.steps.remember_segment.Goals as goal

pub make_about-requires-clause-may : goal.make_about-requires-clause-may
make_about-requires-clause-may g c =
    let m = c.requires.may in
    may_write _ _ c.args.log.now.state c.args.edits.now.state c.requires.held c.args.written.now.segment.place m.0 m.1 m.2 m.3

pub returns : goal.returns
returns g c =
    let s = c.args.seat.now in let u = c.make_about.new.seat in let segment : Segment = c.args.written.now.segment in record {
      goes = was_written _ _ s u c.make_about.ensures.same c.args.log.now.state c.args.edits.now.state c.requires.held segment.place segment (λ i. record { place = segment.place; base = c.requires.may.4 i }) c.make_about.ensures.moved;
      stands = stands_after c.args.store.now _ _ s u c.make_about.ensures.same.1 c.make_about.ensures.moved;
    }
