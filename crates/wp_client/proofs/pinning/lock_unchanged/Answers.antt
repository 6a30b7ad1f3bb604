use Rattle.std.proofs.Common.{◌≡◌, [], List, ℕ, Some, Ok, ap, sym, subst}
use Rattle.std.proofs.lemmas.Result.{IfOk-weaker, on_err_weaker}
use Rattle.wp_text.specs.declared.script.Command.TheVariants as command
use Rattle.wp_open_txns.specs.declared.validating.Locked.{Locked}
use Rattle.wp_open_txns.specs.Calls.{LocksForRead}
use Rattle.wp_replies.specs.Plan.{read_reply}
use Rattle.wp_client.specs.declared.holdings.HeldTxn.TheVariants as held
use Rattle.wp_client.specs.Answers.{AnswersFrom, BreaksOffFrom}
use Rattle.wp_client.specs.Fresh.{NamesSeen}
use Rattle.wp_client.specs.Replies.{refusal}
use Rattle.wp_client.proofs.Clients.{answers_from, breaks_from}
use Rattle.wp_client.proofs.Locking.{no_own_key, read_locked_answers, read_locked_names, read_locked_holds, not_locked_answers, not_locked_names, not_locked_named, not_locked_same, not_locked_breaks, not_locked_holds}
use Rattle.wp_client.proofs.pinning.lock_unchanged.Goals as goal

pub returns-in-Ok-Read-clause-holds : goal.returns-in-Ok-Read-clause-holds
returns-in-Ok-Read-clause-holds g c = read_locked_holds c.args.store.now c.args.seat.now c.lock.new.seat c.args.txn.now c.lock.new.txn c.in_ok-asked.asked [] c.requires.has c.in-Ok-Read.value c.in-Ok-Read.at (subst (λ (x : Locked). LocksForRead c.args.store.now c.args.seat.now c.args.txn.now c.in_ok-asked.asked (Ok x) c.lock.new.seat c.lock.new.txn) c.in-Ok-Read.field-0-is (c.in-Ok-Read.ensures {u = tt}))

pub returns-in-Ok-Read-clause-answered : goal.returns-in-Ok-Read-clause-answered
returns-in-Ok-Read-clause-answered g c =
    let z = c.args.store.now in let s = c.args.seat.now in let t = c.lock.new.seat in let was = c.args.txn.now in let left = c.lock.new.txn in let asked = c.in_ok-asked.asked in let value = c.in-Ok-Read.value in let n = c.in-Ok-Read.at in
    subst (AnswersFrom z s t (held.Open was) (held.Open left) (command.Lock c.args.key.now)) (sym c.read_reply.ensures)
    (subst (λ (key : List ℕ). AnswersFrom z s t (held.Open was) (held.Open left) (command.Lock key) (read_reply value n)) (c.in_ok-asked.ensures {u = tt})
    (answers_from z s t (held.Open was) (held.Open left) (command.Lock asked) (read_reply value n) (λ snapshots. read_locked_answers z s t was left asked snapshots c.requires.has value n (subst (λ (x : Locked). LocksForRead c.args.store.now c.args.seat.now c.args.txn.now c.in_ok-asked.asked (Ok x) c.lock.new.seat c.lock.new.txn) c.in-Ok-Read.field-0-is (c.in-Ok-Read.ensures {u = tt})))))

pub returns-in-Ok-Read-clause-published : goal.returns-in-Ok-Read-clause-published
returns-in-Ok-Read-clause-published g c =
    let z = c.args.store.now in let s = c.args.seat.now in let t = c.lock.new.seat in let was = c.args.txn.now in let left = c.lock.new.txn in let asked = c.in_ok-asked.asked in let value = c.in-Ok-Read.value in let n = c.in-Ok-Read.at in
    subst (NamesSeen z s t (command.Lock c.args.key.now)) (sym c.read_reply.ensures)
    (subst (λ (key : List ℕ). NamesSeen z s t (command.Lock key) (read_reply value n)) (c.in_ok-asked.ensures {u = tt}) (read_locked_names z s t was left asked [] c.requires.has value n (subst (λ (x : Locked). LocksForRead c.args.store.now c.args.seat.now c.args.txn.now c.in_ok-asked.asked (Ok x) c.lock.new.seat c.lock.new.txn) c.in-Ok-Read.field-0-is (c.in-Ok-Read.ensures {u = tt}))))

pub unreachable-requires : goal.unreachable-requires
unreachable-requires g c = no_own_key c.args.store.now c.args.seat.now c.lock.new.seat c.args.txn.now c.lock.new.txn c.in_ok-asked.asked c.args.key.now (c.in_ok-asked.ensures {u = tt}) c.requires.unchanged (subst (λ (x : Locked). LocksForRead c.args.store.now c.args.seat.now c.args.txn.now c.in_ok-asked.asked (Ok x) c.lock.new.seat c.lock.new.txn) c.in-Ok-Own.field-0-is (c.in-Ok-Own.ensures {u = tt}))

pub returns-in-Err-clause-holds : goal.returns-in-Err-clause-holds
returns-in-Err-clause-holds g c = not_locked_holds c.args.store.now c.args.seat.now c.lock.new.seat c.args.txn.now c.lock.new.txn c.in_ok-asked.asked [] c.requires.has c.in-Err.why (c.in-Err.ensures {u = tt})

pub returns-in-Err-clause-answered : goal.returns-in-Err-clause-answered
returns-in-Err-clause-answered g c =
    let z = c.args.store.now in let s = c.args.seat.now in let t = c.lock.new.seat in let was = c.args.txn.now in let left = c.lock.new.txn in let asked = c.in_ok-asked.asked in let why = c.in-Err.why in
    IfOk-weaker c.refusal.result (λ r. refusal why ≡ Some r) (AnswersFrom z s t (held.Open was) (held.Open left) (command.Lock c.args.key.now))
    (λ r is. subst (λ (key : List ℕ). AnswersFrom z s t (held.Open was) (held.Open left) (command.Lock key) r) (c.in_ok-asked.ensures {u = tt})
    (answers_from z s t (held.Open was) (held.Open left) (command.Lock asked) r (λ snapshots. not_locked_answers z s t was left asked snapshots c.requires.has why r is (c.in-Err.ensures {u = tt})))) c.refusal.ensures.answered

pub returns-in-Err-clause-published : goal.returns-in-Err-clause-published
returns-in-Err-clause-published g c =
    let z = c.args.store.now in let s = c.args.seat.now in let t = c.lock.new.seat in let was = c.args.txn.now in let left = c.lock.new.txn in let asked = c.in_ok-asked.asked in let why = c.in-Err.why in
    IfOk-weaker c.refusal.result (λ r. refusal why ≡ Some r) (NamesSeen z s t (command.Lock c.args.key.now))
    (λ r is. subst (λ (key : List ℕ). NamesSeen z s t (command.Lock key) r) (c.in_ok-asked.ensures {u = tt}) (not_locked_names z s t was left asked [] c.requires.has why r is (c.in-Err.ensures {u = tt}))) c.refusal.ensures.answered

pub returns-in-Err-clause-err : goal.returns-in-Err-clause-err
returns-in-Err-clause-err g c =
    let z = c.args.store.now in let s = c.args.seat.now in let t = c.lock.new.seat in let was = c.args.txn.now in let left = c.lock.new.txn in let asked = c.in_ok-asked.asked in let why = c.in-Err.why in
    on_err_weaker c.refusal.result (λ none. subst (λ (key : List ℕ). BreaksOffFrom s t (held.Open was) (held.Open left) (command.Lock key)) (c.in_ok-asked.ensures {u = tt})
    (breaks_from s t (held.Open was) (held.Open left) (command.Lock asked) (ap held.Open (not_locked_same z s t was left asked [] c.requires.has why none (c.in-Err.ensures {u = tt})))
    (λ snapshots. not_locked_breaks z s t was left asked snapshots c.requires.has why none (c.in-Err.ensures {u = tt})))) c.refusal.ensures.err

pub refusal-requires : goal.refusal-requires
refusal-requires g c = not_locked_named c.args.store.now c.args.seat.now c.lock.new.seat c.args.txn.now c.lock.new.txn c.in_ok-asked.asked [] c.requires.has c.in-Err.why (c.in-Err.ensures {u = tt})
