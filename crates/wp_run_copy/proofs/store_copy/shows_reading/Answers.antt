use Rattle.wp_run_copy.proofs.store_copy.shows_reading.Goals as goal

pub returns : goal.returns
returns g c = g.met.D.Peek.itself c.args.disks.now.tables
