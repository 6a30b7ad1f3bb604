use Rattle.std.proofs.lemmas.Result.{err_from_is_err_and}
use Rattle.std.proofs.Common.{◌+◌, ◌<◌, ◌≤◌, ◌^◌, ◌∷◌, [], ◌++◌, List, ℕ, length, drop, arith}
use Rattle.wp_gatelog.specs.Log.{BeforeOrAfter, IsAtRest}
use Rattle.wp_gatelog.specs.Spelling.{frame_of, log_of}
use Rattle.wp_gatelog.proofs.AppendLemmas.{frame_end}
use Rattle.wp_gatelog.proofs.ChangeLemmas.{brings_known, brings_failed, brings_on, on_ok}
use Rattle.wp_gatelog.proofs.FrameLemmas.{brings_frame, brings_gate, rest_synced}
use Rattle.wp_gatelog.proofs.log.append_frame.Goals as goal

pub returns-in_err-write_synced-clause-appended : goal.returns-in_err-write_synced-clause-appended
returns-in_err-write_synced-clause-appended g c = λ magic stamp front dead records known.
    let p = err_from_is_err_and c.from_residual.result c.from_residual.ensures.1 in
    let bytes = c.args.frame.now in
    let place : ℕ = length front in
    let P = BeforeOrAfter place magic stamp records bytes in
    let R = IsAtRest magic stamp (c.args.end + (length bytes + 9)) front (drop (length bytes + 9) dead) (records ++ bytes ∷ []) in
    rw p.1 (brings_known place magic P (IsAtRest magic stamp c.args.end front dead records) R _ _ _ c.write_synced.ensures.unknown known (λ past m old rest.
    let log : List ℕ = log_of magic stamp 1 rest.gated in
    brings_failed p.0 place magic P _ R _ _ _ (brings_frame magic stamp c.args.end front dead records c.bytes.result.now bytes c.bytes.ensures m rest _ _ _
    (c.write_synced.ensures.changes front (log ++ 0 ∷ dead) (length log + 1) (omega (arith, rest.place)) (rest_synced magic stamp c.args.end front dead records m past _ old rest)))))

pub returns-clause-appended : goal.returns-clause-appended
returns-clause-appended g c = λ magic stamp front dead records known.
    let bytes = c.args.frame.now in
    let place : ℕ = length front in
    let P = BeforeOrAfter place magic stamp records bytes in
    let R = IsAtRest magic stamp (c.args.end + (length bytes + 9)) front (drop (length bytes + 9) dead) (records ++ bytes ∷ []) in
    let fits : length bytes < 2 ^ 64 = omega (arith, frame_end (c.args.end + 1) c.bytes.result.now bytes c.bytes.ensures c.in_ok-write_synced.ensures.bounded) in
    brings_known place magic P (IsAtRest magic stamp c.args.end front dead records) R _ _ _ (λ none. c.write_synced-2.ensures.unknown (c.write_synced.ensures.unknown none)) known (λ past m old rest.
    let log : List ℕ = log_of magic stamp 1 rest.gated in
    let framed = brings_frame magic stamp c.args.end front dead records c.bytes.result.now bytes c.bytes.ensures m rest _ _ _
    (c.in_ok-write_synced.ensures.changes front (log ++ 0 ∷ dead) (length log + 1) (omega (arith, rest.place)) (rest_synced magic stamp c.args.end front dead records m past _ old rest)) in
    brings_on place magic P _ R _ _ _ _ _ framed (brings_gate magic stamp c.args.end front dead records c.bytes.result.now bytes c.bytes.ensures m rest fits _ _ _
    (c.write_synced-2.ensures.changes front (log ++ 0 ∷ (frame_of bytes ++ drop (length bytes + 9) dead)) (length log) rest.place framed.done)))

pub returns-clause-bounded : goal.returns-clause-bounded
returns-clause-bounded g c =
    let fits : c.args.end + (length c.args.frame.now + 9) + 1 ≤ 2 ^ 62 = omega (arith, frame_end (c.args.end + 1) c.bytes.result.now c.args.frame.now c.bytes.ensures c.in_ok-write_synced.ensures.bounded) in
    on_ok _ _ fits
