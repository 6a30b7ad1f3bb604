use Rattle.std.proofs.Common.{rules}
use Rattle.std.proofs.lemmas.Result.{err_from_is_err_and}
use Rattle.wp_wal.proofs.Told.{cut_longer, refused_there}
use Rattle.wp_wal.proofs.read.take_entries.Goals as goal

pub returns-in_err-take_entry-clause-err : goal.returns-in_err-take_entry-clause-err
returns-in_err-take_entry-clause-err c =
    let p = err_from_is_err_and c.from_residual.result c.from_residual.ensures.1 in
    let old = c.args.reading.now.outline in
    let here = c.loop-entry.reading.outline in
    let its = c.loop-entry.invariant in
    rw (p.1, p.2)
    (refused_there old here c.args.entries.items c.loop-entry.yielded c.next.new.self.rest.items c.in-Some.entry c.in_err-take_entry.field-0.0 (search rules) (cut_longer old here c.loop-entry.yielded c.requires.told.told its.base its.following) its.told.told c.in_err-take_entry.ensures.err)
