use Rattle.wp_renew.proofs.renewing.make_renewal_ready.Goals as goal

pub make_ready-requires : goal.make_ready-requires
make_ready-requires g c = (c.freeze_held.new.seat.knows, c.in_ok-frozen.ensures.frozen)

pub segment-requires : goal.segment-requires
segment-requires g c = c.requires.whole

pub returns-clause-ready : goal.returns-clause-ready
returns-clause-ready g c = (c.in_ok-flush.ensures c.freeze_held.new.seat.knows c.in_ok-frozen.ensures.frozen, c.in_ok-segment.ensures)
