use Rattle.std.proofs.Common.{◌≡◌, List, Some, None, refl, sym, subst, ◌∙◌}
use Rattle.wp_model.specs.declared.change.Change.{Change}
use Rattle.wp_model.specs.Batch.{change_to}
use Rattle.wp_text.specs.declared.script.Command.TheVariants as command
use Rattle.wp_client.specs.declared.holdings.HeldTxn.TheVariants as held
use Rattle.wp_client.specs.Replies.{own_reply}
use Rattle.wp_client.proofs.Clients.{answers_from}
use Rattle.wp_client.proofs.Locking.{own_lock_answers, own_lock_names, nothing_own}
use Rattle.wp_client.proofs.Reading.{keeps_at_once}
use Rattle.wp_client.proofs.pinning.lock_open.Goals as goal

pub returns-in-Some-clause-answered : goal.returns-in-Some-clause-answered
returns-in-Some-clause-answered g c =
    let z = c.args.store.now in let s = c.args.seat.now in let was = c.args.txn.now in let key = c.args.key.now in let said = c.in-Some.said in
    let is : own_reply (change_to was.batch key) ≡ Some said = subst (λ (batch : List Change). own_reply (change_to batch key) ≡ Some said) c.batch.ensures (sym (c.in_ok-said.ensures {u = tt}) ∙ c.in-Some.is) in
    answers_from z s s (held.Open was) (held.Open was) (command.Lock key) said (λ snapshots. own_lock_answers z s s was was key snapshots c.requires said is refl (keeps_at_once z s c.requires.free))

pub returns-in-Some-clause-published : goal.returns-in-Some-clause-published
returns-in-Some-clause-published g c =
    let z = c.args.store.now in let s = c.args.seat.now in let was = c.args.txn.now in let key = c.args.key.now in let said = c.in-Some.said in
    let is : own_reply (change_to was.batch key) ≡ Some said = subst (λ (batch : List Change). own_reply (change_to batch key) ≡ Some said) c.batch.ensures (sym (c.in_ok-said.ensures {u = tt}) ∙ c.in-Some.is) in
    own_lock_names z s key (change_to was.batch key) said is

pub lock_unchanged-requires-clause-unchanged : goal.lock_unchanged-requires-clause-unchanged
lock_unchanged-requires-clause-unchanged g c =
    let was = c.args.txn.now in let key = c.args.key.now in
    nothing_own (change_to was.batch key) (subst (λ (batch : List Change). own_reply (change_to batch key) ≡ None) c.batch.ensures (sym (c.in_ok-said.ensures {u = tt}) ∙ c.in_default.is))
