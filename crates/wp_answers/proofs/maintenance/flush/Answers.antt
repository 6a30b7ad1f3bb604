use Rattle.std.proofs.Common.{◌≡◌, inr, Ok, Err, Some}
use Rattle.std.proofs.lemmas.Result.{IfOk-weaker, on_err_weaker}
use Rattle.wp_text.specs.declared.script.Command.TheVariants as command
use Rattle.wp_replies.specs.Client.{Client}
use Rattle.wp_maint.specs.Calls.{KeepsOnce}
use Rattle.wp_client.specs.Answers.{IsAnswered}
use Rattle.wp_answers.specs.Fresh.{NamesPublished}
use Rattle.wp_answers.specs.Replies.{tables_refusal}
use Rattle.wp_answers.proofs.Refusals.{tables_refused}
use Rattle.wp_answers.proofs.Maintaining.{flushed_answers, not_flushed_answers, not_flushed_breaks, flush_holds}
use Rattle.wp_answers.proofs.Uncalled.{of_flush_or_compaction}
use Rattle.wp_answers.proofs.maintenance.flush.Goals as goal

pub returns-in-Ok-clause-holds : goal.returns-in-Ok-clause-holds
returns-in-Ok-clause-holds g c = flush_holds c.args.store.now c.args.seat.now c.flush.new.seat (Ok c.in-Ok.done) ((c.in-Ok.ensures {u = tt}).answers)

pub returns-in-Ok-clause-answered : goal.returns-in-Ok-clause-answered
returns-in-Ok-clause-answered g c = λ client. flushed_answers c.args.store.now c.args.seat.now c.flush.new.seat client c.in-Ok.done ((c.in-Ok.ensures {u = tt}).answers)

pub returns-in-Ok-clause-published : goal.returns-in-Ok-clause-published
returns-in-Ok-clause-published g c = (c.in-Ok.ensures {u = tt}).answers

pub returns-in-Err-clause-holds : goal.returns-in-Err-clause-holds
returns-in-Err-clause-holds g c = flush_holds c.args.store.now c.args.seat.now c.flush.new.seat (Err c.in-Err.why) ((c.in-Err.ensures {u = tt}).answers)

pub returns-in-Err-clause-answered : goal.returns-in-Err-clause-answered
returns-in-Err-clause-answered g c =
    let z = c.args.store.now in let s = c.args.seat.now in let t = c.flush.new.seat in let why = c.in-Err.why in
    IfOk-weaker c.tables_refusal.result (λ r. tables_refusal why ≡ Some r) (λ r. (client : Client) → IsAnswered z s t client client command.Flush r)
    (λ r is client. not_flushed_answers z s t client why r is ((c.in-Err.ensures {u = tt}).answers)) c.tables_refusal.ensures.answered

pub returns-in-Err-clause-published : goal.returns-in-Err-clause-published
returns-in-Err-clause-published g c =
    let names = NamesPublished c.args.store.now c.args.seat.now c.flush.new.seat command.Flush in let why = c.in-Err.why in
    IfOk-weaker c.tables_refusal.result (λ r. tables_refusal why ≡ Some r) names (tables_refused names tt tt (λ flushed. tt) why) c.tables_refusal.ensures.answered

pub returns-in-Err-clause-err : goal.returns-in-Err-clause-err
returns-in-Err-clause-err g c =
    on_err_weaker c.tables_refusal.result (λ none client. not_flushed_breaks c.args.store.now c.args.seat.now c.flush.new.seat client c.in-Err.why none ((c.in-Err.ensures {u = tt}).answers)) c.tables_refusal.ensures.err

pub returns-in-Err-clause-uncalled : goal.returns-in-Err-clause-uncalled
returns-in-Err-clause-uncalled g c =
    let z = c.args.store.now in let s = c.args.seat.now in let t = c.flush.new.seat in
    on_err_weaker c.tables_refusal.result (λ none txn. inr (of_flush_or_compaction z s t (KeepsOnce z s t) c.in-Err.why none ((c.in-Err.ensures {u = tt}).before_devices))) c.tables_refusal.ensures.err
