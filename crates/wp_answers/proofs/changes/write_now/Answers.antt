use Rattle.std.proofs.Common.{◌≡◌, inr, Ok, Err, Some, subst, sym}
use Rattle.std.proofs.lemmas.Result.{IfOk-weaker, on_err_weaker}
use Rattle.wp_client.specs.declared.holdings.HeldTxn.TheVariants as held
use Rattle.wp_client.specs.Answers.{AnswersFrom}
use Rattle.wp_client.specs.Replies.{refusal}
use Rattle.wp_answers.proofs.AtOnce.{at_once_holds, at_once_answers, at_once_refused, at_once_named, at_once_breaks}
use Rattle.wp_answers.proofs.Uncalled.{at_once}
use Rattle.wp_answers.proofs.changes.write_now.Goals as goal

pub returns-in-Ok-clause-holds : goal.returns-in-Ok-clause-holds
returns-in-Ok-clause-holds g c = at_once_holds c.args.store.now c.args.seat.now c.write.new.seat c.in_ok-change.change (Ok c.in-Ok.n) ((c.in-Ok.ensures {u = tt}).answers)

pub returns-in-Ok-clause-answered : goal.returns-in-Ok-clause-answered
returns-in-Ok-clause-answered g c =
    let z = c.args.store.now in let s = c.args.seat.now in let t = c.write.new.seat in let asked = c.args.command.now in let change = c.in_ok-change.change in
    subst (AnswersFrom z s t held.Idle held.Idle asked) (sym (c.acknowledging.ensures change (c.in_ok-change.ensures {u = tt})))
    (at_once_answers z s t change asked (c.in_ok-change.ensures {u = tt}) c.in-Ok.n ((c.in-Ok.ensures {u = tt}).answers))

pub returns-in-Err-clause-holds : goal.returns-in-Err-clause-holds
returns-in-Err-clause-holds g c = at_once_holds c.args.store.now c.args.seat.now c.write.new.seat c.in_ok-change.change (Err c.in-Err.why) ((c.in-Err.ensures {u = tt}).answers)

pub returns-in-Err-clause-answered : goal.returns-in-Err-clause-answered
returns-in-Err-clause-answered g c =
    let z = c.args.store.now in let s = c.args.seat.now in let t = c.write.new.seat in let why = c.in-Err.why in let asked = c.args.command.now in
    IfOk-weaker c.refusal.result (λ r. refusal why ≡ Some r) (AnswersFrom z s t held.Idle held.Idle asked)
    (λ r is. at_once_refused z s t c.in_ok-change.change asked (c.in_ok-change.ensures {u = tt}) c.requires.has why r is ((c.in-Err.ensures {u = tt}).answers)) c.refusal.ensures.answered

pub returns-in-Err-clause-err : goal.returns-in-Err-clause-err
returns-in-Err-clause-err g c =
    let why = c.in-Err.why in
    on_err_weaker c.refusal.result (λ none. at_once_breaks c.args.store.now c.args.seat.now c.write.new.seat c.in_ok-change.change c.args.command.now (c.in_ok-change.ensures {u = tt}) why none ((c.in-Err.ensures {u = tt}).answers)) c.refusal.ensures.err

pub refusal-requires : goal.refusal-requires
refusal-requires g c = at_once_named c.args.store.now c.args.seat.now c.write.new.seat c.in_ok-change.change c.in-Err.why ((c.in-Err.ensures {u = tt}).answers)

pub returns-in-Err-clause-uncalled : goal.returns-in-Err-clause-uncalled
returns-in-Err-clause-uncalled g c =
    on_err_weaker c.refusal.result (λ none. inr (at_once c.args.store.now c.args.seat.now c.write.new.seat c.in_ok-change.change c.args.command.now (c.in_ok-change.ensures {u = tt}) c.in-Err.why none ((c.in-Err.ensures {u = tt}).before_log))) c.refusal.ensures.err
