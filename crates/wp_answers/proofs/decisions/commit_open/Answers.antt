use Rattle.std.proofs.Common.{◌≡◌, inr, [], Some, ap}
use Rattle.std.proofs.lemmas.Result.{IfOk-weaker, on_err_weaker}
use Rattle.wp_model.specs.declared.entry.Entry.TheVariants as entry
use Rattle.wp_text.specs.declared.reply.Reply.TheVariants as reply
use Rattle.wp_text.specs.declared.script.Command.TheVariants as command
use Rattle.wp_client.specs.declared.holdings.HeldTxn.TheVariants as held
use Rattle.wp_client.specs.Answers.{AnswersFrom}
use Rattle.wp_client.specs.Replies.{refusal}
use Rattle.wp_client.proofs.Clients.{answers_from, breaks_from}
use Rattle.wp_answers.proofs.Decides.{committed_now_answers, committed_now_holds, open_refused_answers, commit_now_refused_due, open_refused_named, open_refused_breaks, open_refused_holds, commit_now_logged}
use Rattle.wp_answers.proofs.Uncalled.{before_log}
use Rattle.wp_answers.proofs.decisions.commit_open.Goals as goal

pub returns-in-Ok-clause-holds : goal.returns-in-Ok-clause-holds
returns-in-Ok-clause-holds g c = let z = c.args.store.now in let s = c.args.seat.now in let t = c.commit_now.new.seat in let was = c.args.txn in committed_now_holds z s t was c.in-Ok.n c.requires c.in-Ok.ensures.ok

pub returns-in-Ok-clause-answered : goal.returns-in-Ok-clause-answered
returns-in-Ok-clause-answered g c = let z = c.args.store.now in let s = c.args.seat.now in let t = c.commit_now.new.seat in let was = c.args.txn in
    answers_from z s t (held.Open was) (held.Idle) command.Commit (reply.Committed c.in-Ok.n) (λ snapshots. committed_now_answers z s t snapshots was c.in-Ok.n c.in-Ok.ensures.ok)

pub returns-in-Err-clause-holds : goal.returns-in-Err-clause-holds
returns-in-Err-clause-holds g c = let z = c.args.store.now in let s = c.args.seat.now in let t = c.commit_now.new.seat in let was = c.args.txn in let left = c.in-Err.field-0.txn in let why = c.in-Err.field-0.why in open_refused_holds z s t why was left (entry.Write was.batch) c.in-Err.ensures.refused

pub returns-in-Err-clause-answered : goal.returns-in-Err-clause-answered
returns-in-Err-clause-answered g c = let z = c.args.store.now in let s = c.args.seat.now in let t = c.commit_now.new.seat in let was = c.args.txn in let left = c.in-Err.field-0.txn in let why = c.in-Err.field-0.why in
    IfOk-weaker c.refusal.result (λ r. refusal why ≡ Some r) (AnswersFrom z s t (held.Open was) (held.Open left) command.Commit)
    (λ r is. answers_from z s t (held.Open was) (held.Open left) command.Commit r (λ snapshots. (
      open_refused_answers z s t why command.Commit was left (entry.Write was.batch) snapshots (commit_now_logged snapshots was) c.in-Err.ensures.refused r is,
      commit_now_refused_due z s t why r is snapshots was left c.in-Err.ensures.refused,
    )))
    c.refusal.ensures.answered

pub returns-in-Err-clause-err : goal.returns-in-Err-clause-err
returns-in-Err-clause-err g c = let z = c.args.store.now in let s = c.args.seat.now in let t = c.commit_now.new.seat in let was = c.args.txn in let left = c.in-Err.field-0.txn in let why = c.in-Err.field-0.why in
    on_err_weaker c.refusal.result (λ none. breaks_from s t (held.Open was) (held.Open left) command.Commit (ap held.Open c.in-Err.ensures.refused.0) (λ snapshots. open_refused_breaks z s t why command.Commit was left (entry.Write was.batch) snapshots (commit_now_logged snapshots was) c.in-Err.ensures.refused none)) c.refusal.ensures.err

pub refusal-requires : goal.refusal-requires
refusal-requires g c = let z = c.args.store.now in let s = c.args.seat.now in let t = c.commit_now.new.seat in let was = c.args.txn in let left = c.in-Err.field-0.txn in let why = c.in-Err.field-0.why in
    open_refused_named z s t why command.Commit was left (entry.Write was.batch) [] (commit_now_logged [] was) c.in-Err.ensures.refused

pub returns-in-Err-clause-uncalled : goal.returns-in-Err-clause-uncalled
returns-in-Err-clause-uncalled g c = let s = c.args.seat.now in on_err_weaker c.refusal.result (λ none. inr (before_log c.args.store.now s c.commit_now.new.seat s.knows.participant c.in-Err.field-0.why none c.in-Err.ensures.before_log)) c.refusal.ensures.err
