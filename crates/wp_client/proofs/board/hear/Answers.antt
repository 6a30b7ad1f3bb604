use Rattle.std.proofs.Common.{Ok, Err, List, ℕ, subst, sym}
use Rattle.wp_text.specs.declared.script.Command.TheVariants.{Hear}
use Rattle.wp_text.specs.declared.reply.Reply.TheVariants as reply
use Rattle.wp_client.specs.Answers.{IsAnswered}
use Rattle.wp_client.proofs.Labels.{heard_answers, not_heard_answers, heard_holds}
use Rattle.wp_client.proofs.Reading.{keeps_at_once}
use Rattle.wp_client.proofs.Staying.{broke_off}
use Rattle.wp_client.proofs.WholeClients.{if_broken}
use Rattle.wp_client.proofs.board.hear.Goals as goal

pub returns-in-Ok-clause-holds : goal.returns-in-Ok-clause-holds
returns-in-Ok-clause-holds g c = λ h has. heard_holds c.args.store.now c.args.seat.now c.hear.new.seat c.args.label.now h has (Ok c.in-Ok.published) (c.in-Ok.ensures {u = tt})

pub returns-in-Ok-clause-answered : goal.returns-in-Ok-clause-answered
returns-in-Ok-clause-answered g c = λ client. heard_answers c.args.store.now c.args.seat.now c.hear.new.seat c.args.label.now client c.in-Ok.published (c.in-Ok.ensures {u = tt})

pub returns-in-Ok-clause-published : goal.returns-in-Ok-clause-published
returns-in-Ok-clause-published g c = let t = c.in-Ok.ensures {u = tt} in (t.0, t.1.4)

pub returns-in-Err-Silent-clause-holds : goal.returns-in-Err-Silent-clause-holds
returns-in-Err-Silent-clause-holds g c = λ h has. heard_holds c.args.store.now c.args.seat.now c.hear.new.seat c.args.label.now h has (Err c.in-Err-Silent.field-0) (c.in-Err-Silent.ensures {u = tt})

pub returns-in-Err-Silent-clause-answered : goal.returns-in-Err-Silent-clause-answered
returns-in-Err-Silent-clause-answered g c = λ client. subst (λ (l : List ℕ). IsAnswered c.args.store.now c.args.seat.now c.hear.new.seat client client (Hear c.args.label.now) (reply.Silent l)) (sym (c.in_ok-asked.ensures {u = tt}))
    (not_heard_answers c.args.store.now c.args.seat.now c.hear.new.seat c.args.label.now client c.in-Err-Silent.field-0 (c.in-Err-Silent.ensures {u = tt}))

pub returns-in_err-asked-clause-err : goal.returns-in_err-asked-clause-err
returns-in_err-asked-clause-err g c = let z = c.args.store.now in let s = c.args.seat.now in if_broken c.from_residual.result (λ client. broke_off z s s client (Hear c.args.label.now) (keeps_at_once z s c.requires))
