use Rattle.std.proofs.Common.{◌≡◌, [], Some, refl}
use Rattle.std.proofs.lemmas.Result.{IfOk-weaker, on_err_weaker}
use Rattle.wp_text.specs.declared.reply.Reply.TheVariants as reply
use Rattle.wp_text.specs.declared.script.Command.TheVariants as command
use Rattle.wp_client.specs.declared.holdings.HeldTxn.TheVariants as held
use Rattle.wp_client.specs.Answers.{AnswersFrom}
use Rattle.wp_client.specs.Replies.{refusal}
use Rattle.wp_client.proofs.Claiming.{took_answers, not_taken_answers, not_taken_named, not_taken_breaks, took_holds, not_taken_holds}
use Rattle.wp_client.proofs.Clients.{answers_from, breaks_from}
use Rattle.wp_client.proofs.naming.take_now.Goals as goal

pub returns-in-Ok-clause-holds : goal.returns-in-Ok-clause-holds
returns-in-Ok-clause-holds g c = took_holds c.args.store.now c.args.seat.now c.take_prepared.new.seat c.args.name.now c.requires c.in-Ok.prepared (c.in-Ok.ensures {u = tt})

pub returns-in-Ok-clause-answered : goal.returns-in-Ok-clause-answered
returns-in-Ok-clause-answered g c =
    let z = c.args.store.now in let s = c.args.seat.now in let t = c.take_prepared.new.seat in let prepared = c.in-Ok.prepared in
    answers_from z s t held.Idle (held.Prepared prepared) (command.Take c.args.name.now) reply.Took (λ snapshots. took_answers z s t c.args.name.now snapshots prepared (c.in-Ok.ensures {u = tt}))

pub returns-in-Err-clause-holds : goal.returns-in-Err-clause-holds
returns-in-Err-clause-holds g c = not_taken_holds c.args.store.now c.args.seat.now c.take_prepared.new.seat c.args.name.now c.requires c.in-Err.why (c.in-Err.ensures {u = tt})

pub returns-in-Err-clause-answered : goal.returns-in-Err-clause-answered
returns-in-Err-clause-answered g c =
    let z = c.args.store.now in let s = c.args.seat.now in let t = c.take_prepared.new.seat in let name = c.args.name.now in let why = c.in-Err.why in
    IfOk-weaker c.refusal.result (λ r. refusal why ≡ Some r) (AnswersFrom z s t held.Idle held.Idle (command.Take name))
    (λ r is. answers_from z s t held.Idle held.Idle (command.Take name) r (λ snapshots. not_taken_answers z s t name snapshots c.requires why r is (c.in-Err.ensures {u = tt}))) c.refusal.ensures.answered

pub returns-in-Err-clause-err : goal.returns-in-Err-clause-err
returns-in-Err-clause-err g c =
    let z = c.args.store.now in let s = c.args.seat.now in let t = c.take_prepared.new.seat in let name = c.args.name.now in let why = c.in-Err.why in
    on_err_weaker c.refusal.result (λ none. breaks_from s t held.Idle held.Idle (command.Take name) refl (λ snapshots. not_taken_breaks z s t name snapshots why none (c.in-Err.ensures {u = tt}))) c.refusal.ensures.err

pub refusal-requires : goal.refusal-requires
refusal-requires g c = not_taken_named c.args.store.now c.args.seat.now c.take_prepared.new.seat c.args.name.now [] c.in-Err.why (c.in-Err.ensures {u = tt})
