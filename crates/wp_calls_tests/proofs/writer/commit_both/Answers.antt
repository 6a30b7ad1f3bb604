use Rattle.std.proofs.Common.{◌≡◌, sym, ap, ◌∙◌, subst}
use Rattle.wp_open_txns.specs.Txn.{PreparedState, HasPrepared}
use Rattle.wp_calls_tests.proofs.Ready.{both_prepared, left_beside, not_taken, taken}
use Rattle.wp_calls_tests.proofs.writer.commit_both.Goals as goal

pub returns-in-Err : goal.returns-in-Err
returns-in-Err g c = not_taken c.args.store.now c.args.seat.now c.take_prepared.new.seat c.requires.direct c.name.result c.in-Err.why c.args.txn c.requires.has_prepared c.in-Err.ensures

pub returns-in-Err-listed : goal.returns-in-Err-listed
returns-in-Err-listed g c =
    let both = taken c.args.store.now c.args.seat.now c.take_prepared.new.seat c.requires.direct c.name.result c.args.txn c.in-Ok.left c.requires.has_prepared c.in-Ok.ensures in
    let first : c.in-Err-listed.left ≡ c.in-Ok.left = ap (λ (two : PreparedState × PreparedState). two.0) c.in-Err-listed.ensures.refused in
    let second : c.in-Err-listed.txn ≡ c.args.txn = ap (λ (two : PreparedState × PreparedState). two.1) c.in-Err-listed.ensures.refused in
    left_beside c.args.store.now c.take_prepared.new.seat c.leave.new.seat both.0.direct c.in-Err-listed.txn c.in-Err-listed.left
    (λ same. both.3 (ap (λ (t : PreparedState). t.name) (sym second) ∙ same ∙ ap (λ (t : PreparedState). t.name) first))
    (subst (HasPrepared c.take_prepared.new.seat) (sym second) both.2) c.leave.ensures.gives_up

pub commit_all-requires-clause-prepared : goal.commit_all-requires-clause-prepared
commit_all-requires-clause-prepared g c =
    let both = taken c.args.store.now c.args.seat.now c.take_prepared.new.seat c.requires.direct c.name.result c.args.txn c.in-Ok.left c.requires.has_prepared c.in-Ok.ensures in
    both_prepared c.take_prepared.new.seat c.in-Ok-listed.both.items c.in-Ok.left c.args.txn c.in-Ok-listed.ensures.both both.1 both.2 both.3
