use Rattle.std.proofs.Common.{◌≡◌, List, [], ℕ, Ok, Err, Some, refl, subst}
use Rattle.std.proofs.lemmas.Result.{IfOk-weaker, on_err_weaker}
use Rattle.wp_text.specs.declared.reply.Reply.TheVariants as reply
use Rattle.wp_text.specs.declared.script.Command.TheVariants as command
use Rattle.wp_open_txns.specs.Calls.{Begins}
use Rattle.wp_client.specs.declared.holdings.HeldTxn.TheVariants as held
use Rattle.wp_client.specs.Answers.{AnswersFrom}
use Rattle.wp_client.specs.Replies.{refusal}
use Rattle.wp_client.proofs.Claiming.{begun_answers, not_begun_answers, not_begun_named, not_begun_breaks, begun_holds, not_begun_holds}
use Rattle.wp_client.proofs.Clients.{answers_from, holds_from, breaks_from}
use Rattle.wp_client.proofs.naming.begin_now.Goals as goal

pub returns-in_default-clause-holds : goal.returns-in_default-clause-holds
returns-in_default-clause-holds g c = holds_from c.args.store.now c.args.seat.now c.args.seat.now held.Idle (λ h has. has)

pub returns-in-Ok-begin-clause-holds : goal.returns-in-Ok-begin-clause-holds
returns-in-Ok-begin-clause-holds g c =
    let z = c.args.store.now in let s = c.args.seat.now in let t = c.begin.new.seat in
    begun_holds z s t c.args.name.now c.requires c.in-Ok-begin.open (subst (λ (n : List ℕ). Begins z s n (Ok c.in-Ok-begin.open) t) (c.in-Ok.ensures {u = tt}) (c.in-Ok-begin.ensures {u = tt}))

pub returns-in-Ok-begin-clause-answered : goal.returns-in-Ok-begin-clause-answered
returns-in-Ok-begin-clause-answered g c =
    let z = c.args.store.now in let s = c.args.seat.now in let t = c.begin.new.seat in let begun = c.in-Ok-begin.open in
    answers_from z s t held.Idle (held.Open begun) (command.Begin c.args.name.now) reply.Begun
    (λ snapshots. begun_answers z s t c.args.name.now snapshots begun (subst (λ (n : List ℕ). Begins z s n (Ok begun) t) (c.in-Ok.ensures {u = tt}) (c.in-Ok-begin.ensures {u = tt})))

pub returns-in-Err-clause-holds : goal.returns-in-Err-clause-holds
returns-in-Err-clause-holds g c =
    let z = c.args.store.now in let s = c.args.seat.now in let t = c.begin.new.seat in
    not_begun_holds z s t c.args.name.now c.requires c.in-Err.why (subst (λ (n : List ℕ). Begins z s n (Err c.in-Err.why) t) (c.in-Ok.ensures {u = tt}) (c.in-Err.ensures {u = tt}))

pub returns-in-Err-clause-answered : goal.returns-in-Err-clause-answered
returns-in-Err-clause-answered g c =
    let z = c.args.store.now in let s = c.args.seat.now in let t = c.begin.new.seat in let name = c.args.name.now in let why = c.in-Err.why in
    let k = subst (λ (n : List ℕ). Begins z s n (Err why) t) (c.in-Ok.ensures {u = tt}) (c.in-Err.ensures {u = tt}) in
    IfOk-weaker c.refusal.result (λ r. refusal why ≡ Some r) (AnswersFrom z s t held.Idle held.Idle (command.Begin name))
    (λ r is. answers_from z s t held.Idle held.Idle (command.Begin name) r (λ snapshots. not_begun_answers z s t name snapshots c.requires why r is k)) c.refusal.ensures.answered

pub returns-in-Err-clause-err : goal.returns-in-Err-clause-err
returns-in-Err-clause-err g c =
    let z = c.args.store.now in let s = c.args.seat.now in let t = c.begin.new.seat in let name = c.args.name.now in let why = c.in-Err.why in
    let k = subst (λ (n : List ℕ). Begins z s n (Err why) t) (c.in-Ok.ensures {u = tt}) (c.in-Err.ensures {u = tt}) in
    on_err_weaker c.refusal.result (λ none. breaks_from s t held.Idle held.Idle (command.Begin name) refl (λ snapshots. not_begun_breaks z s t name snapshots why none k)) c.refusal.ensures.err

pub refusal-requires : goal.refusal-requires
refusal-requires g c =
    let z = c.args.store.now in let s = c.args.seat.now in let t = c.begin.new.seat in let name = c.args.name.now in let why = c.in-Err.why in
    not_begun_named z s t name [] why (subst (λ (n : List ℕ). Begins z s n (Err why) t) (c.in-Ok.ensures {u = tt}) (c.in-Err.ensures {u = tt}))
