use Rattle.std.proofs.lemmas.Result.{err_from_is_err_and}
use Rattle.wp_outside.specs.Disk.{after_cut}
use Rattle.wp_gatelog.proofs.ChangeLemmas.{torn_steps, synced_steps}
use Rattle.wp_gatelog.proofs.FrontLemmas.{cut_shifts}
use Rattle.wp_gatelog.proofs.device.cut_synced.Goals as goal

pub returns-in_err-cut-clause-changes : goal.returns-in_err-cut-clause-changes
returns-in_err-cut-clause-changes g c = λ front before from place known.
    let p = err_from_is_err_and c.from_residual.result c.from_residual.ensures.1 in
    rw p.1 (torn_steps front before (after_cut c.args.len) (after_cut from) (cut_shifts front before c.args.len from place) p.0 _ _ known c.in_err-cut.ensures.torn)

pub returns-clause-changes : goal.returns-clause-changes
returns-clause-changes g c = λ front before from place known.
    synced_steps front before (after_cut c.args.len) (after_cut from) (cut_shifts front before c.args.len from place) _ _ _ c.sync.result known
    c.in_ok-cut.ensures.done c.sync.ensures.done c.sync.ensures.unchanged
