use Rattle.std.proofs.Common.{◌≡◌, ◌∷◌, [], arith}
use Rattle.std.proofs.lemmas.Result.{err_from_is_err_and}
use Rattle.wp_outside.specs.Disk.{Moment, synced}
use Rattle.wp_gatelog.specs.Heads.{BeginsOpen}
use Rattle.wp_gatelog.proofs.ChangeLemmas.{brings_on, brings_failed}
use Rattle.wp_gatelog.proofs.MakeLemmas.{brings_opened, brings_staged}
use Rattle.wp_gatelog.proofs.make.open_head.Goals as goal

pub returns-in_err-write_synced-clause-opened : goal.returns-in_err-write_synced-clause-opened
returns-in_err-write_synced-clause-opened g c = λ magic known.
    let p = err_from_is_err_and c.from_residual.result c.from_residual.ensures.1 in
    let rest = c.args.rest.now in
    let R = λ (m : Moment). m ≡ synced (1 ∷ rest) in
    rw p.1 (brings_failed p.0 0 magic (BeginsOpen rest) _ R _ _ _ (brings_staged magic rest _ _ _ (c.write_synced.ensures.changes [] (0 ∷ []) 1 (omega arith) known)))

pub returns-clause-opened : goal.returns-clause-opened
returns-clause-opened g c = λ magic known.
    let rest = c.args.rest.now in
    let staged = brings_staged magic rest _ _ _ (c.in_ok-write_synced.ensures.changes [] (0 ∷ []) 1 (omega arith) known) in
    brings_on 0 magic (BeginsOpen rest) _ _ _ _ _ _ _ staged (brings_opened magic rest _ _ _ (c.write_synced-2.ensures.changes [] (0 ∷ rest) 0 (omega arith) staged.done))
