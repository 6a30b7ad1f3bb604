use Rattle.std.proofs.Common.{ℕ, List, length, subst, sym, ap, ◌∙◌}
use Rattle.std.specs.Prelude.{Ok, Err}
use Rattle.wp_model.specs.CachePlace.{NoneShare}
use Rattle.wp_model.specs.declared.entry.Entry.{Entry}
use Rattle.wp_open_txns.specs.Txn.{PreparedState}
use Rattle.wp_txn.specs.Groups.{numbers_of, their_commits, AreNoGroup}
use Rattle.wp_txn.specs.Recording.{IsEndOf, notes_of_each, Records}
use Rattle.wp_txn.proofs.Each.{other_names}
use Rattle.wp_txn.proofs.GroupEnds.{last_is, are_decided, commits_all, refuses_group, refuses_uncalled, uncalled_before}
use Rattle.wp_txn.proofs.Recorded.{records_commits}
use Rattle.wp_txn.proofs.groups.commit_all.Goals as goal

-- they are no group, or there was no memory for the record
pub returns-in-Err-clause-refused : goal.returns-in-Err-clause-refused
returns-in-Err-clause-refused g c =
    let z = c.args.store.now in let xs = c.args.txns.items in
    refuses_uncalled z c.args.seat.now xs c.requires.free c.requires.prepared c.in-Err.why (subst (λ (i : ℕ × List PreparedState). AreNoGroup i.0 i.1 c.in-Err.why) (λ i. (sym c.bits.ensures.1 i, c.deref.ensures.value i)) c.in-Err.ensures.refused)

pub returns-in-Err-clause-before_log : goal.returns-in-Err-clause-before_log
returns-in-Err-clause-before_log g c =
    let z = c.args.store.now in let xs = c.args.txns.items in
    uncalled_before z c.args.seat.now xs c.requires.free c.in-Err.why (subst (λ (i : ℕ × List PreparedState). AreNoGroup i.0 i.1 c.in-Err.why) (λ i. (sym c.bits.ensures.1 i, c.deref.ensures.value i)) c.in-Err.ensures.refused)

pub record-requires-clause-may : goal.record-requires-clause-may
record-requires-clause-may g c =
    let z = c.args.store.now in let xs = c.args.txns.items in let made = c.in-Ok.ensures.ok in
    records_commits z c.args.seat.now c.in-Ok.commits xs _ (made.0 ∙ ap their_commits c.deref.ensures.value) c.requires.prepared
    (subst (λ (i : ℕ × List PreparedState). NoneShare i.0 (numbers_of i.1)) (λ i. (sym c.bits.ensures.1 i, c.deref.ensures.value i)) made.1)
    (λ history end. subst (λ (ys : List PreparedState). IsEndOf ys history (their_commits xs)) (sym c.deref-2.ensures.value) end)

pub end_all-requires-clause-decided : goal.end_all-requires-clause-decided
end_all-requires-clause-decided g c =
    let z = c.args.store.now in let s = c.args.seat.now in let mid = c.record.new.seat in let xs = c.args.txns.items in let n = c.in-Ok-record.number in let made = c.in-Ok.ensures.ok in
    let r = subst (λ (i : List Entry × List PreparedState). Records z s i.0 (λ m. notes_of_each i.1) (Ok n) mid) (λ i. ((made.0 ∙ ap their_commits c.deref.ensures.value) i, c.deref-2.ensures.value i)) (c.in-Ok-record.ensures {u = tt}) in
    (length r.1.0, last_is z s mid xs c.requires.free c.requires.prepared.0 n r, are_decided z s mid xs c.requires.free c.requires.prepared.0 n r)

pub returns-in-Ok-record-clause-ok : goal.returns-in-Ok-record-clause-ok
returns-in-Ok-record-clause-ok g c =
    let z = c.args.store.now in let s = c.args.seat.now in let mid = c.record.new.seat in let xs = c.args.txns.items in let n = c.in-Ok-record.number in let made = c.in-Ok.ensures.ok in
    let share = subst (λ (i : ℕ × List PreparedState). NoneShare i.0 (numbers_of i.1)) (λ i. (sym c.bits.ensures.1 i, c.deref.ensures.value i)) made.1 in
    let r = subst (λ (i : List Entry × List PreparedState). Records z s i.0 (λ m. notes_of_each i.1) (Ok n) mid) (λ i. ((made.0 ∙ ap their_commits c.deref.ensures.value) i, c.deref-2.ensures.value i)) (c.in-Ok-record.ensures {u = tt}) in
    commits_all z s mid xs c.requires.free c.requires.prepared.0 n r share (other_names xs c.requires.prepared.1) c.end_all.new.seat (c.end_all.ensures (length r.1.0) (last_is z s mid xs c.requires.free c.requires.prepared.0 n r))

pub returns-in-Err-record-clause-refused : goal.returns-in-Err-record-clause-refused
returns-in-Err-record-clause-refused g c =
    let z = c.args.store.now in let s = c.args.seat.now in let new = c.record.new.seat in let xs = c.args.txns.items in let made = c.in-Ok.ensures.ok in
    let share = subst (λ (i : ℕ × List PreparedState). NoneShare i.0 (numbers_of i.1)) (λ i. (sym c.bits.ensures.1 i, c.deref.ensures.value i)) made.1 in
    let r = subst (λ (es : List Entry). Records z s es (λ m. notes_of_each xs) (Err c.in-Err-record.why) new) (made.0 ∙ ap their_commits c.deref.ensures.value) (c.in-Err-record.ensures {u = tt}) in
    refuses_group z s new xs c.in-Err-record.why c.requires.prepared share r.0
