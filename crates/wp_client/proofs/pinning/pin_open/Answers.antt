use Rattle.std.proofs.Common.{◌≡◌, [], Some, ap}
use Rattle.std.proofs.lemmas.Result.{IfOk-weaker, on_err_weaker}
use Rattle.wp_text.specs.declared.reply.Reply.TheVariants as reply
use Rattle.wp_text.specs.declared.script.Command.TheVariants as command
use Rattle.wp_client.specs.declared.holdings.HeldTxn.TheVariants as held
use Rattle.wp_client.specs.Answers.{AnswersFrom}
use Rattle.wp_client.specs.Fresh.{NamesSeen}
use Rattle.wp_client.specs.Replies.{refusal}
use Rattle.wp_client.proofs.Clients.{answers_from, breaks_from}
use Rattle.wp_client.proofs.Locking.{pinned_answers, pinned_names, pinned_holds, not_pinned_named, not_pinned_answers, not_pinned_names, not_pinned_same, not_pinned_breaks, not_pinned_holds}
use Rattle.wp_client.proofs.pinning.pin_open.Goals as goal

pub returns-in-Ok-clause-holds : goal.returns-in-Ok-clause-holds
returns-in-Ok-clause-holds g c = pinned_holds c.args.store.now c.args.seat.now c.pin.new.seat c.args.txn.now c.pin.new.txn [] c.requires c.in-Ok.number (c.in-Ok.ensures {u = tt})

pub returns-in-Ok-clause-answered : goal.returns-in-Ok-clause-answered
returns-in-Ok-clause-answered g c =
    let z = c.args.store.now in let s = c.args.seat.now in let t = c.pin.new.seat in let was = c.args.txn.now in let left = c.pin.new.txn in let n = c.in-Ok.number in
    answers_from z s t (held.Open was) (held.Open left) command.Pin (reply.Pinned n) (λ snapshots. pinned_answers z s t was left snapshots c.requires n (c.in-Ok.ensures {u = tt}))

pub returns-in-Ok-clause-published : goal.returns-in-Ok-clause-published
returns-in-Ok-clause-published g c = pinned_names c.args.store.now c.args.seat.now c.pin.new.seat c.args.txn.now c.pin.new.txn [] c.requires c.in-Ok.number (c.in-Ok.ensures {u = tt})

pub returns-in-Err-clause-holds : goal.returns-in-Err-clause-holds
returns-in-Err-clause-holds g c = not_pinned_holds c.args.store.now c.args.seat.now c.pin.new.seat c.args.txn.now c.pin.new.txn [] c.requires c.in-Err.why (c.in-Err.ensures {u = tt})

pub returns-in-Err-clause-answered : goal.returns-in-Err-clause-answered
returns-in-Err-clause-answered g c =
    let z = c.args.store.now in let s = c.args.seat.now in let t = c.pin.new.seat in let was = c.args.txn.now in let left = c.pin.new.txn in let why = c.in-Err.why in
    IfOk-weaker c.refusal.result (λ r. refusal why ≡ Some r) (AnswersFrom z s t (held.Open was) (held.Open left) command.Pin)
    (λ r is. answers_from z s t (held.Open was) (held.Open left) command.Pin r (λ snapshots. not_pinned_answers z s t was left snapshots c.requires why (c.in-Err.ensures {u = tt}) r is)) c.refusal.ensures.answered

pub returns-in-Err-clause-published : goal.returns-in-Err-clause-published
returns-in-Err-clause-published g c =
    let z = c.args.store.now in let s = c.args.seat.now in let t = c.pin.new.seat in let was = c.args.txn.now in let left = c.pin.new.txn in let why = c.in-Err.why in
    IfOk-weaker c.refusal.result (λ r. refusal why ≡ Some r) (NamesSeen z s t command.Pin) (λ r is. not_pinned_names z s t was left [] c.requires why (c.in-Err.ensures {u = tt}) r is) c.refusal.ensures.answered

pub returns-in-Err-clause-err : goal.returns-in-Err-clause-err
returns-in-Err-clause-err g c =
    let z = c.args.store.now in let s = c.args.seat.now in let t = c.pin.new.seat in let was = c.args.txn.now in let left = c.pin.new.txn in let why = c.in-Err.why in
    on_err_weaker c.refusal.result (λ none. breaks_from s t (held.Open was) (held.Open left) command.Pin (ap held.Open (not_pinned_same z s t was left [] c.requires why (c.in-Err.ensures {u = tt})))
    (λ snapshots. not_pinned_breaks z s t was left snapshots c.requires why (c.in-Err.ensures {u = tt}))) c.refusal.ensures.err

pub refusal-requires : goal.refusal-requires
refusal-requires g c = not_pinned_named c.args.store.now c.args.seat.now c.pin.new.seat c.args.txn.now c.pin.new.txn [] c.requires c.in-Err.why (c.in-Err.ensures {u = tt})
