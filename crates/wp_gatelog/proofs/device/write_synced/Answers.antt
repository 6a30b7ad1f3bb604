use Rattle.std.proofs.Common.{ℕ, List, length}
use Rattle.std.proofs.lemmas.Result.{err_from_is_err_and}
use Rattle.wp_outside.specs.Disk.{after_write}
use Rattle.wp_gatelog.specs.Beside.{BothRest}
use Rattle.wp_gatelog.specs.Log.{IsAtRest}
use Rattle.wp_gatelog.specs.Spelling.{SpellsAt}
use Rattle.wp_gatelog.proofs.BesideLemmas.{brings_torn, dead_at, brings_written, stays_unknown, stays_unknown_torn}
use Rattle.wp_gatelog.proofs.ChangeLemmas.{torn_steps, synced_steps, brings_known}
use Rattle.wp_gatelog.proofs.FrameLemmas.{rest_synced}
use Rattle.wp_gatelog.proofs.FrontLemmas.{write_shifts}
use Rattle.wp_gatelog.proofs.device.write_synced.Goals as goal

pub returns-in_err-write_at-clause-changes : goal.returns-in_err-write_at-clause-changes
returns-in_err-write_at-clause-changes g c = λ front before from place known.
    let p = err_from_is_err_and c.from_residual.result c.from_residual.ensures.1 in
    let bytes = c.args.bytes.now in
    rw p.1 (torn_steps front before (after_write c.args.at bytes) (after_write from bytes) (write_shifts front before bytes c.args.at from place) p.0 _ _ known c.in_err-write_at.ensures.torn)

pub returns-clause-changes : goal.returns-clause-changes
returns-clause-changes g c = λ front before from place known.
    let bytes = c.args.bytes.now in
    synced_steps front before (after_write c.args.at bytes) (after_write from bytes) (write_shifts front before bytes c.args.at from place) _ _ _ c.sync.result known
    c.in_ok-write_at.ensures.done c.sync.ensures.done c.sync.ensures.unchanged

pub returns-in_err-write_at-clause-brings : goal.returns-in_err-write_at-clause-brings
returns-in_err-write_at-clause-brings g c = λ end magic stamp front dead records known are_dead.
    let p = err_from_is_err_and c.from_residual.result c.from_residual.ensures.1 in
    let P = λ (image : List ℕ). SpellsAt (length front) image magic stamp records in
    let R = BothRest c.args.at c.args.bytes.now (length front) magic stamp end records in
    rw p.1 (brings_known (length front) magic P (IsAtRest magic stamp end front dead records) R _ _ _ (stays_unknown_torn (after_write c.args.at c.args.bytes.now) _ _ c.in_err-write_at.ensures.torn) known (λ past m old rest.
    brings_torn c.args.at c.args.bytes.now magic stamp end front dead records m rest (dead_at c.args.at (length c.args.bytes.now) end front dead _ past m old are_dead) p.0 _ _ (rest_synced magic stamp end front dead records m past _ old rest) c.in_err-write_at.ensures.torn))

pub returns-clause-brings : goal.returns-clause-brings
returns-clause-brings g c = λ end magic stamp front dead records known are_dead.
    let P = λ (image : List ℕ). SpellsAt (length front) image magic stamp records in
    let R = BothRest c.args.at c.args.bytes.now (length front) magic stamp end records in
    brings_known (length front) magic P (IsAtRest magic stamp end front dead records) R _ _ _ (stays_unknown (after_write c.args.at c.args.bytes.now) _ _ _ c.sync.result c.in_ok-write_at.ensures.done c.sync.ensures.done c.sync.ensures.unchanged) known (λ past m old rest.
    brings_written c.args.at c.args.bytes.now magic stamp end front dead records m rest (dead_at c.args.at (length c.args.bytes.now) end front dead _ past m old are_dead) _ _ _ c.sync.result (rest_synced magic stamp end front dead records m past _ old rest)
    c.in_ok-write_at.ensures.done c.sync.ensures.done c.sync.ensures.unchanged)
