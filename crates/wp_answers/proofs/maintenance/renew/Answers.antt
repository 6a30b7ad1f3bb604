use Rattle.std.proofs.Common.{◌≡◌, inr, Ok, Err, Some}
use Rattle.std.proofs.lemmas.Result.{IfOk-weaker, on_err_weaker}
use Rattle.wp_text.specs.declared.script.Command.TheVariants as command
use Rattle.wp_replies.specs.Client.{Client}
use Rattle.wp_client.specs.Answers.{IsAnswered}
use Rattle.wp_answers.specs.Fresh.{NamesPublished}
use Rattle.wp_answers.specs.Replies.{renewal_refusal}
use Rattle.wp_answers.proofs.Refusals.{renewal_refused}
use Rattle.wp_answers.proofs.Renewing.{renewed_answers, not_renewed_answers, not_renewed_breaks, renewal_holds}
use Rattle.wp_answers.proofs.Uncalled.{of_renewal}
use Rattle.wp_answers.proofs.maintenance.renew.Goals as goal

pub returns-in-Ok-clause-holds : goal.returns-in-Ok-clause-holds
returns-in-Ok-clause-holds g c = renewal_holds c.args.store.now c.args.seat.now c.renew.new.seat (Ok c.in-Ok.done) ((c.in-Ok.ensures {u = tt}).answers)

pub returns-in-Ok-clause-answered : goal.returns-in-Ok-clause-answered
returns-in-Ok-clause-answered g c = λ client. renewed_answers c.args.store.now c.args.seat.now c.renew.new.seat client c.in-Ok.done ((c.in-Ok.ensures {u = tt}).answers)

pub returns-in-Ok-clause-published : goal.returns-in-Ok-clause-published
returns-in-Ok-clause-published g c = (c.in-Ok.ensures {u = tt}).answers

pub returns-in-Err-clause-holds : goal.returns-in-Err-clause-holds
returns-in-Err-clause-holds g c = renewal_holds c.args.store.now c.args.seat.now c.renew.new.seat (Err c.in-Err.why) ((c.in-Err.ensures {u = tt}).answers)

pub returns-in-Err-clause-answered : goal.returns-in-Err-clause-answered
returns-in-Err-clause-answered g c =
    let z = c.args.store.now in let s = c.args.seat.now in let t = c.renew.new.seat in let why = c.in-Err.why in
    IfOk-weaker c.renewal_refusal.result (λ r. renewal_refusal why ≡ Some r) (λ r. (client : Client) → IsAnswered z s t client client command.Renew r)
    (λ r is client. not_renewed_answers z s t client why r is ((c.in-Err.ensures {u = tt}).answers)) c.renewal_refusal.ensures.answered

pub returns-in-Err-clause-published : goal.returns-in-Err-clause-published
returns-in-Err-clause-published g c =
    let names = NamesPublished c.args.store.now c.args.seat.now c.renew.new.seat command.Renew in let why = c.in-Err.why in
    IfOk-weaker c.renewal_refusal.result (λ r. renewal_refusal why ≡ Some r) names (renewal_refused names tt tt tt (λ n. tt) (λ flushed. tt) why) c.renewal_refusal.ensures.answered

pub returns-in-Err-clause-err : goal.returns-in-Err-clause-err
returns-in-Err-clause-err g c =
    on_err_weaker c.renewal_refusal.result (λ none client. not_renewed_breaks c.args.store.now c.args.seat.now c.renew.new.seat client c.in-Err.why none ((c.in-Err.ensures {u = tt}).answers)) c.renewal_refusal.ensures.err

pub returns-in-Err-clause-uncalled : goal.returns-in-Err-clause-uncalled
returns-in-Err-clause-uncalled g c =
    on_err_weaker c.renewal_refusal.result (λ none txn. inr (of_renewal c.args.store.now c.args.seat.now c.renew.new.seat c.in-Err.why none ((c.in-Err.ensures {u = tt}).answers))) c.renewal_refusal.ensures.err
