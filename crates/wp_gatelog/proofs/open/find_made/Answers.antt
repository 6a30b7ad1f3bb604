use Rattle.std.proofs.Common.{refl}
use Rattle.std.proofs.lemmas.Result.{err_from_is_err_and}
use Rattle.wp_gatelog.specs.Spelling.{stamped}
use Rattle.wp_gatelog.proofs.OpenLemmas.{made_found, made_refused}
use Rattle.wp_gatelog.proofs.open.find_made.Goals as goal

pub returns-in_err-found-clause-refused : goal.returns-in_err-found-clause-refused
returns-in_err-found-clause-refused g c =
    let p = err_from_is_err_and c.from_residual.result c.from_residual.ensures.1 in
    rw (p.1, p.2) (made_refused c.args.place c.args.first c.args.head (stamped c.args.format c.args.id) c.in_err-found.field-0.0 _ c.in_err-found.ensures.refused)

pub returns-clause-found : goal.returns-clause-found
returns-clause-found g c = made_found c.args.place c.args.first _ c.args.head refl _ c.in_ok-found.ensures.found (rw c.own_records.ensures.unchanged at c.in_ok-len.ensures.length)
