use Rattle.wp_parts.proofs.edits.VersionSet.ready.Goals as goal

pub ready-requires : goal.ready-requires
ready-requires g c =
    let later = rw (← c.self.view_is) at c.requires.later in
    record { numbered = c.requires.numbered; flushed_all = c.requires.flushed; later = later.0; more = later.1 }
