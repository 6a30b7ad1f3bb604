use Rattle.std.proofs.Common.{◌≡◌, Ok, Err, Some}
use Rattle.std.proofs.lemmas.Result.{IfOk-weaker, on_err_weaker}
use Rattle.wp_text.specs.declared.script.Command.TheVariants.{Tell}
use Rattle.wp_replies.specs.Client.{Client, new_client}
use Rattle.wp_client.specs.Answers.{IsAnswered}
use Rattle.wp_client.specs.Fresh.{NamesSeen}
use Rattle.wp_client.specs.Replies.{refusal}
use Rattle.wp_client.proofs.Labels.{told_answers, not_told_named, not_told_answers, not_told_names, not_told_breaks, told_holds}
use Rattle.wp_client.proofs.board.tell.Goals as goal

pub returns-in-Ok-clause-holds : goal.returns-in-Ok-clause-holds
returns-in-Ok-clause-holds g c = λ h has. told_holds c.args.store.now c.args.seat.now c.tell.new.seat c.args.label.now h has (Ok c.in-Ok.published) (c.in-Ok.ensures {u = tt})

pub returns-in-Ok-clause-answered : goal.returns-in-Ok-clause-answered
returns-in-Ok-clause-answered g c = λ client. told_answers c.args.store.now c.args.seat.now c.tell.new.seat c.args.label.now client c.in-Ok.published (c.in-Ok.ensures {u = tt})

pub returns-in-Ok-clause-published : goal.returns-in-Ok-clause-published
returns-in-Ok-clause-published g c = let t = c.in-Ok.ensures {u = tt} in (t.0, t.3)

pub refusal-requires : goal.refusal-requires
refusal-requires g c = not_told_named c.args.store.now c.args.seat.now c.tell.new.seat c.args.label.now new_client c.in-Err.why (c.in-Err.ensures {u = tt})

pub returns-in-Err-clause-holds : goal.returns-in-Err-clause-holds
returns-in-Err-clause-holds g c = λ h has. told_holds c.args.store.now c.args.seat.now c.tell.new.seat c.args.label.now h has (Err c.in-Err.why) (c.in-Err.ensures {u = tt})

pub returns-in-Err-clause-answered : goal.returns-in-Err-clause-answered
returns-in-Err-clause-answered g c =
    let z = c.args.store.now in let s = c.args.seat.now in let t = c.tell.new.seat in let label = c.args.label.now in let why = c.in-Err.why in
    IfOk-weaker c.refusal.result (λ r. refusal why ≡ Some r) (λ r. (client : Client) → IsAnswered z s t client client (Tell label) r)
    (λ r is client. not_told_answers z s t label client why (c.in-Err.ensures {u = tt}) r is) c.refusal.ensures.answered

pub returns-in-Err-clause-published : goal.returns-in-Err-clause-published
returns-in-Err-clause-published g c =
    let z = c.args.store.now in let s = c.args.seat.now in let t = c.tell.new.seat in let label = c.args.label.now in let why = c.in-Err.why in
    IfOk-weaker c.refusal.result (λ r. refusal why ≡ Some r) (NamesSeen z s t (Tell label)) (λ r is. not_told_names z s t label new_client why (c.in-Err.ensures {u = tt}) r is) c.refusal.ensures.answered

pub returns-in-Err-clause-err : goal.returns-in-Err-clause-err
returns-in-Err-clause-err g c =
    on_err_weaker c.refusal.result (λ none client. not_told_breaks c.args.store.now c.args.seat.now c.tell.new.seat c.args.label.now client c.in-Err.why (c.in-Err.ensures {u = tt})) c.refusal.ensures.err
