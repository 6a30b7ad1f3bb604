use Rattle.std.proofs.Common.{◌≡◌, ◌≢◌, ℕ, ◌≤◌, List, [], length, Some, refl, sym, subst, ◌∙◌, arith}
use Rattle.std.specs.Prelude.{AllPairs, IfOk, OnErr}
use Rattle.std.proofs.lemmas.Result.{IfOk-weaker, on_err_weaker}
use Rattle.wp_model.specs.declared.entry.TheConstants.{MOST_COMMITS}
use Rattle.wp_text.specs.declared.script.Command.TheVariants as command
use Rattle.wp_text.specs.declared.reply.Reply.TheVariants as reply
use Rattle.wp_client.specs.declared.holdings.HeldTxn.TheVariants as held
use Rattle.wp_client.specs.Answers.{AnswersFrom, BreaksOffFrom}
use Rattle.wp_client.specs.Replies.{refusal}
use Rattle.wp_client.proofs.Clients.{answers_from, breaks_from}
use Rattle.wp_answers.specs.Uncalled.{LeavesDevices}
use Rattle.wp_answers.proofs.Settled.{not_taken_answers, not_settled_answers, settled_answers}
use Rattle.wp_answers.proofs.Settles.{as_many, not_taken_breaks, not_settled_breaks, not_taken_holds, not_settled_holds, settled_holds, not_taken_named, not_settled_named}
use Rattle.wp_answers.proofs.Uncalled.{not_taken_uncalled, not_settled_uncalled}
use Rattle.wp_answers.proofs.settling.settle_now.Goals as goal

-- ---- one of them is not taken

pub returns-in-Err-clause-holds : goal.returns-in-Err-clause-holds
returns-in-Err-clause-holds g c = not_taken_holds c.args.store.now c.args.seat.now c.take_all.new.seat c.as_slice.result.now c.requires c.in-Err.why (c.in-Err.ensures.refused)

pub returns-in-Err-clause-answered : goal.returns-in-Err-clause-answered
returns-in-Err-clause-answered g c =
    let z = c.args.store.now in let s = c.args.seat.now in let t = c.take_all.new.seat in let names = c.as_slice.result.now in let why = c.in-Err.why in let some = subst (λ (ns : List (List ℕ)). 1 ≤ length ns) (sym c.as_slice.ensures.value) c.as_slice.ensures.some in
    subst (λ (ns : List (List ℕ)). IfOk c.refusal.result (AnswersFrom z s t held.Idle held.Idle (command.Settle ns))) c.as_slice.ensures.value
    (IfOk-weaker c.refusal.result (λ r. refusal why ≡ Some r) (AnswersFrom z s t held.Idle held.Idle (command.Settle names))
    (λ r is. answers_from z s t held.Idle held.Idle (command.Settle names) r (λ snapshots. not_taken_answers z s t names some snapshots (subst (λ (ns : List (List ℕ)). AllPairs ◌≢◌ ns) (sym c.as_slice.ensures.value) c.as_slice.ensures.distinct) why r is (c.in-Err.ensures.refused))) c.refusal.ensures.answered)

pub returns-in-Err-clause-err : goal.returns-in-Err-clause-err
returns-in-Err-clause-err g c =
    let z = c.args.store.now in let s = c.args.seat.now in let t = c.take_all.new.seat in let names = c.as_slice.result.now in let why = c.in-Err.why in
    subst (λ (ns : List (List ℕ)). OnErr c.refusal.result (BreaksOffFrom s t held.Idle held.Idle (command.Settle ns))) c.as_slice.ensures.value
    (on_err_weaker c.refusal.result (λ none. breaks_from s t held.Idle held.Idle (command.Settle names) refl (λ snapshots. not_taken_breaks z s t names snapshots c.requires why none (c.in-Err.ensures.refused))) c.refusal.ensures.err)

pub returns-in-Err-clause-uncalled : goal.returns-in-Err-clause-uncalled
returns-in-Err-clause-uncalled g c =
    let z = c.args.store.now in let s = c.args.seat.now in let t = c.take_all.new.seat in let names = c.as_slice.result.now in let why = c.in-Err.why in
    subst (λ (ns : List (List ℕ)). OnErr c.refusal.result (LeavesDevices z s t (command.Settle ns) held.Idle)) c.as_slice.ensures.value
    (on_err_weaker c.refusal.result (λ none. not_taken_uncalled z s t names why none (c.in-Err.ensures.refused)) c.refusal.ensures.err)

pub refusal-requires : goal.refusal-requires
refusal-requires g c = not_taken_named c.args.store.now c.args.seat.now c.take_all.new.seat c.as_slice.result.now c.in-Err.why (c.in-Err.ensures.refused)

-- ---- all of them are taken

pub commit_taken-requires-clause-has : goal.commit_taken-requires-clause-has
commit_taken-requires-clause-has g c = (c.in-Ok.ensures.taken).taken.holds

pub commit_taken-requires-clause-some : goal.commit_taken-requires-clause-some
commit_taken-requires-clause-some g c =
    let some : 1 ≤ length c.as_slice.result.now = subst (λ (ns : List (List ℕ)). 1 ≤ length ns) (sym c.as_slice.ensures.value) c.as_slice.ensures.some in
    let few : length c.as_slice.result.now ≤ MOST_COMMITS = subst (λ (ns : List (List ℕ)). length ns ≤ MOST_COMMITS) (sym c.as_slice.ensures.value) c.as_slice.ensures.few in
    let many = as_many c.args.store.now c.args.seat.now c.take_all.new.seat c.as_slice.result.now some [] c.in-Ok.txns.items c.take_all.new.seat c.in-Ok.ensures.taken in
    (omega (arith, many, some), omega (arith, many, few))

pub returns-in-Ok-commit_taken-clause-holds : goal.returns-in-Ok-commit_taken-clause-holds
returns-in-Ok-commit_taken-clause-holds g c =
    let some : 1 ≤ length c.as_slice.result.now = subst (λ (ns : List (List ℕ)). 1 ≤ length ns) (sym c.as_slice.ensures.value) c.as_slice.ensures.some in
    settled_holds c.args.store.now c.args.seat.now c.commit_taken.new.seat c.as_slice.result.now some c.in-Ok.txns.items c.take_all.new.seat c.in-Ok.ensures.taken c.in-Ok-commit_taken.last c.in-Ok-commit_taken.ensures.committed

pub returns-in-Ok-commit_taken-clause-answered : goal.returns-in-Ok-commit_taken-clause-answered
returns-in-Ok-commit_taken-clause-answered g c =
    let z = c.args.store.now in let s = c.args.seat.now in let t = c.commit_taken.new.seat in let names = c.as_slice.result.now in let txns = c.in-Ok.txns.items in
    let some : 1 ≤ length names = subst (λ (ns : List (List ℕ)). 1 ≤ length ns) (sym c.as_slice.ensures.value) c.as_slice.ensures.some in
    let long = c.len-count.ensures in let many : c.len-count.result ≡ length txns = omega (arith, long) in
    subst (λ (ns : List (List ℕ)). AnswersFrom z s t held.Idle held.Idle (command.Settle ns) (reply.Settled c.in-Ok-commit_taken.last c.len-count.result)) c.as_slice.ensures.value
    (answers_from z s t held.Idle held.Idle (command.Settle names) (reply.Settled c.in-Ok-commit_taken.last c.len-count.result) (λ snapshots. settled_answers z s t names some snapshots txns c.take_all.new.seat c.in-Ok.ensures.taken c.in-Ok-commit_taken.last c.len-count.result many c.in-Ok-commit_taken.ensures.committed))

pub returns-in-Err-commit_taken-clause-holds : goal.returns-in-Err-commit_taken-clause-holds
returns-in-Err-commit_taken-clause-holds g c = not_settled_holds c.args.store.now c.args.seat.now c.commit_taken.new.seat c.as_slice.result.now c.in-Ok.txns.items c.take_all.new.seat c.in-Ok.ensures.taken.taken c.in-Err-commit_taken.why c.in-Err-commit_taken.ensures.refused

pub returns-in-Err-commit_taken-clause-answered : goal.returns-in-Err-commit_taken-clause-answered
returns-in-Err-commit_taken-clause-answered g c =
    let z = c.args.store.now in let s = c.args.seat.now in let t = c.commit_taken.new.seat in let names = c.as_slice.result.now in let txns = c.in-Ok.txns.items in let why = c.in-Err-commit_taken.why in let answer = c.refusal-in-Err-commit_taken.result in
    let some : 1 ≤ length names = subst (λ (ns : List (List ℕ)). 1 ≤ length ns) (sym c.as_slice.ensures.value) c.as_slice.ensures.some in
    subst (λ (ns : List (List ℕ)). IfOk answer (AnswersFrom z s t held.Idle held.Idle (command.Settle ns))) c.as_slice.ensures.value
    (IfOk-weaker answer (λ r. refusal why ≡ Some r) (AnswersFrom z s t held.Idle held.Idle (command.Settle names))
    (λ r is. answers_from z s t held.Idle held.Idle (command.Settle names) r (λ snapshots. not_settled_answers z s t names some snapshots txns c.take_all.new.seat c.in-Ok.ensures.taken why r is c.in-Err-commit_taken.ensures.refused)) c.refusal-in-Err-commit_taken.ensures.answered)

pub returns-in-Err-commit_taken-clause-err : goal.returns-in-Err-commit_taken-clause-err
returns-in-Err-commit_taken-clause-err g c =
    let z = c.args.store.now in let s = c.args.seat.now in let t = c.commit_taken.new.seat in let names = c.as_slice.result.now in let txns = c.in-Ok.txns.items in let why = c.in-Err-commit_taken.why in let answer = c.refusal-in-Err-commit_taken.result in let k = c.in-Err-commit_taken.ensures.refused in
    subst (λ (ns : List (List ℕ)). OnErr answer (BreaksOffFrom s t held.Idle held.Idle (command.Settle ns))) c.as_slice.ensures.value
    (on_err_weaker answer (λ none. breaks_from s t held.Idle held.Idle (command.Settle names) refl (λ snapshots. not_settled_breaks z s t names snapshots txns c.take_all.new.seat k.behind c.in-Ok.ensures.taken.taken k.leaves why none k.refused)) c.refusal-in-Err-commit_taken.ensures.err)

pub returns-in-Err-commit_taken-clause-uncalled : goal.returns-in-Err-commit_taken-clause-uncalled
returns-in-Err-commit_taken-clause-uncalled g c =
    let z = c.args.store.now in let s = c.args.seat.now in let t = c.commit_taken.new.seat in let names = c.as_slice.result.now in let why = c.in-Err-commit_taken.why in let answer = c.refusal-in-Err-commit_taken.result in
    subst (λ (ns : List (List ℕ)). OnErr answer (LeavesDevices z s t (command.Settle ns) held.Idle)) c.as_slice.ensures.value
    (on_err_weaker answer (λ none. not_settled_uncalled z s t names why none c.in-Ok.txns.items c.take_all.new.seat c.in-Ok.ensures.taken.taken c.in-Err-commit_taken.ensures.refused) c.refusal-in-Err-commit_taken.ensures.err)

pub refusal-requires-in-Err-commit_taken : goal.refusal-requires-in-Err-commit_taken
refusal-requires-in-Err-commit_taken g c = let k = c.in-Err-commit_taken.ensures.refused in not_settled_named c.args.store.now c.take_all.new.seat k.behind c.in-Ok.txns.items c.in-Err-commit_taken.why k.refused
