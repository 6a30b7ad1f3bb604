use Rattle.wp_read.proofs.registering.settle_old_flag.Goals as goal

pub lower_old_flag-requires-clause-none_kept : goal.lower_old_flag-requires-clause-none_kept
lower_old_flag-requires-clause-none_kept g c = (c.args.snaps.now, c.requires.held, c.none_kept.ensures.0 c.if-none_kept.true)
