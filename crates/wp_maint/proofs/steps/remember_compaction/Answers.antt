use Rattle.wp_maint.proofs.Made.{may_compact, stands_after, was_compacted, still_gone}
use Rattle.wp_maint.proofs.steps.remember_compaction.Goals as goal

pub make_about-requires-clause-may : goal.make_about-requires-clause-may
make_about-requires-clause-may g c = let h = c.requires.held in may_compact _ _ h.0 c.args.edits.now.state.last h.1 h.3 c.requires.gone

pub returns : goal.returns
returns g c = let h = c.requires.held in let m = c.make_about.ensures.moved in record {
  goes = was_compacted _ _ c.args.seat.now c.make_about.new.seat c.make_about.ensures.same h.0 c.args.edits.now.state h.1 m h.2;
  gone = still_gone _ _ c.args.seat.now c.make_about.new.seat c.make_about.ensures.same h.0 c.args.edits.now.state h.1 m;
  stands = stands_after c.args.store.now _ _ c.args.seat.now c.make_about.new.seat c.make_about.ensures.same.1 m;
}
