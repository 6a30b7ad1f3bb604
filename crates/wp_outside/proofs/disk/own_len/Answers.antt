use Rattle.wp_outside.proofs.disk.own_len.Goals as goal

pub returns-clause-length : goal.returns-clause-length
returns-clause-length g c = rw (c.len.ensures.looks.unchanged (g.met.D.Disk.owned c.args.disk.now)) at c.len.ensures.length

pub returns-clause-unchanged : goal.returns-clause-unchanged
returns-clause-unchanged g c = c.len.ensures.looks.unchanged (g.met.D.Disk.owned c.args.disk.now)
