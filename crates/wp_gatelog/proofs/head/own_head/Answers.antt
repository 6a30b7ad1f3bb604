use Rattle.wp_gatelog.proofs.head.own_head.Goals as goal

pub returns-clause-found : goal.returns-clause-found
returns-clause-found g c =
    let same = c.read_head.ensures.looks.unchanged (g.met.D.Disk.owned c.args.disk.now) in
    rw same at c.read_head.ensures.found

pub returns-clause-unchanged : goal.returns-clause-unchanged
returns-clause-unchanged g c = c.read_head.ensures.looks.unchanged (g.met.D.Disk.owned c.args.disk.now)
