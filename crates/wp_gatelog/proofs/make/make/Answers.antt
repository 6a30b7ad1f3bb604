use Rattle.std.proofs.Common.{◌≡◌, ◌∷◌, [], ◌++◌}
use Rattle.std.proofs.lemmas.Result.{err_from_is_err_and}
use Rattle.wp_outside.specs.Disk.{Moment, synced}
use Rattle.wp_gatelog.specs.Heads.{SpellsNone}
use Rattle.wp_gatelog.specs.Spelling.{stamped, log_of}
use Rattle.wp_gatelog.proofs.ChangeLemmas.{brings_on, brings_failed}
use Rattle.wp_gatelog.proofs.MakeLemmas.{brings_closed, brings_none}
use Rattle.wp_gatelog.proofs.make.make.Goals as goal

pub returns-in_err-close_head-clause-made : goal.returns-in_err-close_head-clause-made
returns-in_err-close_head-clause-made g c = λ before unmade len_is known.
    let p = err_from_is_err_and c.from_residual.result c.from_residual.ensures.1 in
    let stamp = stamped c.args.format c.args.id in
    let R = λ (m : Moment). m ≡ synced (log_of c.args.magic stamp 1 [] ++ 0 ∷ []) in
    rw p.1 (brings_failed p.0 0 c.args.magic (SpellsNone c.args.magic stamp) _ R _ _ _ (brings_closed c.args.magic stamp before unmade _ _ _ (c.close_head.ensures.changes before unmade len_is known)))

pub returns-clause-made : goal.returns-clause-made
returns-clause-made g c = λ before unmade len_is known.
    let stamp = stamped c.args.format c.args.id in
    let closed = brings_closed c.args.magic stamp before unmade _ _ _ (c.in_ok-close_head.ensures.changes before unmade len_is known) in
    brings_on 0 c.args.magic (SpellsNone c.args.magic stamp) _ _ _ _ _ _ _ closed (brings_none c.args.magic stamp _ c.head_bytes.ensures _ _ _ (c.open_head.ensures.opened c.args.magic closed.done))
