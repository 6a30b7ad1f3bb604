use Rattle.wp_run.proofs.serve.shows_reading.Goals as goal

pub returns : goal.returns
returns g c = g.met.D.Peek.itself c.args.disks.now.tables
