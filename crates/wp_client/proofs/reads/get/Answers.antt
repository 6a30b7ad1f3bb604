use Rattle.std.proofs.Common.{◌≡◌, Some, None, refl, sym, subst, ◌∙◌}
use Rattle.wp_model.specs.Batch.{change_to}
use Rattle.wp_text.specs.declared.reply.Reply.{Reply}
use Rattle.wp_text.specs.declared.script.Command.TheVariants as command
use Rattle.wp_replies.specs.Plan.{read_reply}
use Rattle.wp_client.specs.Answers.{AnswersFrom}
use Rattle.wp_client.specs.Fresh.{NamesSeen}
use Rattle.wp_client.specs.Replies.{batch_in, own_reply}
use Rattle.wp_client.proofs.Clients.{answers_from}
use Rattle.wp_client.proofs.Fresh.{own_names, read_names}
use Rattle.wp_client.proofs.Reading.{keeps_at_once, own_answers, fresh_answers}
use Rattle.wp_client.proofs.reads.get.Goals as goal

pub returns-in-Some-clause-answered : goal.returns-in-Some-clause-answered
returns-in-Some-clause-answered g c =
    let z = c.args.store.now in let s = c.args.seat.now in let txn = c.args.txn.now in let key = c.args.key.now in let said = c.in-Some.said in
    let is : own_reply (change_to (batch_in txn) key) ≡ Some said = sym (c.in_ok-said.ensures {u = tt}) ∙ c.in-Some.is in
    answers_from z s s txn txn (command.Get key) said (λ snapshots. own_answers z s s txn key snapshots c.requires said is refl (keeps_at_once z s c.requires.free))

pub returns-clause-answered : goal.returns-clause-answered
returns-clause-answered g c =
    let z = c.args.store.now in let s = c.args.seat.now in let t = c.get_now.new.seat in let txn = c.args.txn.now in let key = c.args.key.now in
    let value = c.in_ok-value.value in let at = c.in_ok-value.at in
    let none : own_reply (change_to (batch_in txn) key) ≡ None = sym (c.in_ok-said.ensures {u = tt}) ∙ c.in_default.is in
    subst (λ (r : Reply). AnswersFrom z s t txn txn (command.Get key) r) (sym c.read_reply.ensures)
    (answers_from z s t txn txn (command.Get key) (read_reply value at) (λ snapshots. fresh_answers z s t txn key snapshots c.requires value at none c.in_ok-value.ensures.read))

pub returns-in-Some-clause-published : goal.returns-in-Some-clause-published
returns-in-Some-clause-published g c =
    own_names c.args.store.now c.args.seat.now c.args.seat.now c.args.key.now (change_to (batch_in c.args.txn.now) c.args.key.now) c.in-Some.said (sym (c.in_ok-said.ensures {u = tt}) ∙ c.in-Some.is)

pub returns-clause-published : goal.returns-clause-published
returns-clause-published g c =
    let z = c.args.store.now in let s = c.args.seat.now in let t = c.get_now.new.seat in let key = c.args.key.now in
    subst (NamesSeen z s t (command.Get key)) (sym c.read_reply.ensures) (read_names z s t key c.in_ok-value.value c.in_ok-value.at c.in_ok-value.ensures.read.published)
