use Rattle.wp_read.proofs.at_once.give_back.Goals as goal

pub unregister_last-requires-clause-last : goal.unregister_last-requires-clause-last
unregister_last-requires-clause-last g c = (c.requires.last.0, c.args.snapshot, c.requires.last.1)

pub returns : goal.returns
returns g c front m last held = c.unregister_last.ensures front c.args.snapshot m last held
