use Rattle.std.proofs.Common.{◌≡◌, [], Some, ap}
use Rattle.std.proofs.lemmas.Result.{IfOk-weaker, on_err_weaker}
use Rattle.wp_model.specs.Batch.{key_of}
use Rattle.wp_text.specs.declared.reply.Reply.TheVariants as reply
use Rattle.wp_client.specs.declared.holdings.HeldTxn.TheVariants as held
use Rattle.wp_client.specs.Answers.{AnswersFrom}
use Rattle.wp_client.specs.Replies.{asking, refusal}
use Rattle.wp_client.proofs.Asking.{asks_change, refused_named, refused_holds, refused_same}
use Rattle.wp_client.proofs.Clients.{answers_from, breaks_from}
use Rattle.wp_client.proofs.Staged.{held_answers, not_held_answers, not_held_breaks, held_holds}
use Rattle.wp_client.proofs.staging.stage.Goals as goal

pub returns-in-Ok-clause-holds : goal.returns-in-Ok-clause-holds
returns-in-Ok-clause-holds g c = held_holds c.args.store.now c.args.seat.now c.stage.new.seat c.args.txn.now c.stage.new.txn c.args.change [] c.requires (c.in-Ok.ensures {u = tt})

pub returns-in-Ok-clause-answered : goal.returns-in-Ok-clause-answered
returns-in-Ok-clause-answered g c =
    let z = c.args.store.now in let s = c.args.seat.now in let t = c.stage.new.seat in let was = c.args.txn.now in let left = c.stage.new.txn in
    answers_from z s t (held.Open was) (held.Open left) (asking c.args.change) reply.Held
    (λ snapshots. held_answers z s t was left c.args.change snapshots c.requires (c.in-Ok.ensures {u = tt}))

pub returns-in-Err-clause-holds : goal.returns-in-Err-clause-holds
returns-in-Err-clause-holds g c = refused_holds c.args.store.now c.args.seat.now c.stage.new.seat c.args.txn.now c.stage.new.txn (asking c.args.change) (key_of c.args.change) (asks_change c.args.change) [] c.requires c.in-Err.why (c.in-Err.ensures {u = tt})

pub returns-in-Err-clause-answered : goal.returns-in-Err-clause-answered
returns-in-Err-clause-answered g c =
    let z = c.args.store.now in let s = c.args.seat.now in let t = c.stage.new.seat in let was = c.args.txn.now in let left = c.stage.new.txn in let why = c.in-Err.why in
    IfOk-weaker c.refusal.result (λ r. refusal why ≡ Some r) (AnswersFrom z s t (held.Open was) (held.Open left) (asking c.args.change))
    (λ r is. answers_from z s t (held.Open was) (held.Open left) (asking c.args.change) r (λ snapshots. not_held_answers z s t was left c.args.change snapshots c.requires why r is (c.in-Err.ensures {u = tt})))
    c.refusal.ensures.answered

pub returns-in-Err-clause-err : goal.returns-in-Err-clause-err
returns-in-Err-clause-err g c =
    let z = c.args.store.now in let s = c.args.seat.now in let t = c.stage.new.seat in let was = c.args.txn.now in let left = c.stage.new.txn in let why = c.in-Err.why in
    on_err_weaker c.refusal.result (λ none. breaks_from s t (held.Open was) (held.Open left) (asking c.args.change)
    (ap held.Open (refused_same z s t was left (asking c.args.change) (key_of c.args.change) (asks_change c.args.change) [] c.requires why none (c.in-Err.ensures {u = tt})))
    (λ snapshots. not_held_breaks z s t was left c.args.change snapshots c.requires why none (c.in-Err.ensures {u = tt}))) c.refusal.ensures.err

pub refusal-requires : goal.refusal-requires
refusal-requires g c =
    let z = c.args.store.now in let s = c.args.seat.now in let t = c.stage.new.seat in let was = c.args.txn.now in let left = c.stage.new.txn in
    refused_named z s t was left (asking c.args.change) (key_of c.args.change) (asks_change c.args.change) [] c.requires c.in-Err.why (c.in-Err.ensures {u = tt})
