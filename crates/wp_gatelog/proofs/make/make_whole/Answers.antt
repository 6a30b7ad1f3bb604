use Rattle.std.proofs.Common.{◌≡◌, ℕ, List, ◌∷◌, [], length, inl, ◌∙◌, ap, arith}
use Rattle.std.proofs.lemmas.Result.{on_ok_weaker}
use Rattle.wp_outside.specs.Disk.{Moment, synced}
use Rattle.wp_gatelog.specs.Beside.{IsNoneOrWhole}
use Rattle.wp_gatelog.specs.Heads.{BeginsOpen}
use Rattle.wp_gatelog.specs.Log.{IsAtRest}
use Rattle.wp_gatelog.specs.Spelling.{log_of}
use Rattle.wp_gatelog.proofs.ChangeLemmas.{brings_as, brings_on}
use Rattle.wp_gatelog.proofs.MakeLemmas.{begins_whole, brings_shut, shut_synced, whole_parts, whole_rests}
use Rattle.wp_gatelog.proofs.MomentLemmas.{known_map}
use Rattle.wp_gatelog.proofs.SurvivalLemmas.{rest_spells}
use Rattle.wp_gatelog.proofs.make.make_whole.Goals as goal

pub returns-in_err-write_synced-clause-passed : goal.returns-in_err-write_synced-clause-passed
returns-in_err-write_synced-clause-passed g c = λ magic stamp records whole known.
    (brings_shut magic (IsNoneOrWhole magic stamp records) (λ image unmade. inl unmade) _ _ _ (c.write_synced.ensures.changes [] [] 0 (omega arith) known)).passed

pub returns-clause-passed : goal.returns-clause-passed
returns-clause-passed g c = λ magic stamp records whole known.
    let P = IsNoneOrWhole magic stamp records in
    let rest : List ℕ = c.rest.result.now in
    let R = λ (m : Moment). m ≡ synced (1 ∷ rest) in
    let shut = brings_shut magic P (λ image unmade. inl unmade) _ _ _ (c.in_ok-write_synced.ensures.changes [] [] 0 (omega arith) known) in
    (brings_on 0 magic P _ R _ _ _ _ _ shut (brings_as 0 magic (BeginsOpen rest) P R R _ _ _ (λ image. begins_whole magic stamp records c.args.log.now rest image whole c.rest.ensures) (λ m on. on) (c.open_head.ensures.opened magic shut.done))).passed

pub returns-clause-spelled : goal.returns-clause-spelled
returns-clause-spelled g c = λ magic stamp records whole none.
    let log : List ℕ = c.args.log.now in
    let rest : List ℕ = c.rest.result.now in
    let parts : 1 ∷ rest ≡ log = whole_parts magic stamp records log rest whole c.rest.ensures in
    on_ok_weaker c.open_head.result (λ known. rest_spells magic stamp (length (log_of magic stamp 1 whole.gated)) [] [] records _ (known_map (λ m. m ≡ synced (1 ∷ rest)) (IsAtRest magic stamp (length (log_of magic stamp 1 whole.gated)) [] [] records) (λ m on. whole_rests magic stamp records log whole m (on ∙ ap synced parts)) _ known)) (c.open_head.ensures.opened magic (shut_synced _ _ none c.in_ok-write_synced.ensures.calls)).done
