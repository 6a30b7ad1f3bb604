use Rattle.std.proofs.Common.{◌≡◌, ◌<◌, ◌≤◌, true, List, length, take, refl, sym, subst, ap, ◌∙◌, arith}
use Rattle.std.proofs.lemmas.List.{take_all}
use Rattle.std.proofs.lemmas.Result.{err_from_is_err_and}
use Rattle.wp_model.specs.declared.change.Change.{Change}
use Rattle.wp_model.specs.declared.entry.Entry.{Entry}
use Rattle.wp_model.specs.Batch.{key_of, is_batch, with_change}
use Rattle.wp_model.specs.History.{newest}
use Rattle.wp_model.specs.Legal.{change_that_leaves, prior}
use Rattle.wp_core.specs.Lists.{IsIn}
use Rattle.wp_core.specs.World.{Participant}
use Rattle.wp_history_laws.proofs.Prior.{prior_more, prior_is_not_full}
use Rattle.wp_shared.proofs.Onward.{continues_still}
use Rattle.wp_read.proofs.priors.prior.Goals as goal

pub restoring-requires-clause-free : goal.restoring-requires-clause-free
restoring-requires-clause-free g c = c.loop-change.invariant.continues.free

pub restoring-requires-clause-registered : goal.restoring-requires-clause-registered
restoring-requires-clause-registered g c = subst (λ (p : Participant). IsIn c.args.snapshot.now p.registered) (sym c.loop-change.invariant.same) c.requires.registered

pub loop-change-preserved : goal.loop-change-preserved
loop-change-preserved g c =
    let k = c.loop-change.invariant in let s = c.args.seat.now in let t = c.restoring.new.seat in
    let n = c.args.snapshot.now.number in
    let h : List Entry = take n s.knows.participant.seen in
    let items = c.changes-change-items.result.now in
    let here : Change = c.change-item.result in
    let lt : c.loop-change.change-index < length items = omega arith in
    let same : t.knows.participant ≡ s.knows.participant = c.restoring.ensures.same ∙ k.same in
    let key = c.key.ensures in
    let is : c.in_ok-restoring.field-0 ≡ change_that_leaves (key_of here) (newest h (key_of here)) = c.in_ok-restoring.ensures.change ∙ (λ i. change_that_leaves (key i) (newest (take n (same i).seen) (key i))) in
    let batch : is_batch items ≡ true = ap is_batch c.changes-change-items.ensures.value ∙ c.changes-change-items.ensures.batch in
    record {
      continues = continues_still c.args.store.now s c.loop-change.seat t s.knows.participant k.continues c.restoring.ensures.continues;
      same = same;
      found = c.in-Ok.ensures.ok ∙ ((λ i. with_change (k.found i) (is i)) ∙ prior_more h items c.loop-change.change-index here lt c.change-item.is batch);
    }

pub returns-in_err-restoring-clause-continues : goal.returns-in_err-restoring-clause-continues
returns-in_err-restoring-clause-continues g c = continues_still c.args.store.now c.args.seat.now c.loop-change.seat c.restoring.new.seat c.args.seat.now.knows.participant c.loop-change.invariant.continues c.restoring.ensures.continues

pub returns-in_err-restoring-clause-prior : goal.returns-in_err-restoring-clause-prior
returns-in_err-restoring-clause-prior g c = let p = err_from_is_err_and c.from_residual.result c.from_residual.ensures.1 in rw p.1 tt

pub returns-in-Err-Memory-clause-continues : goal.returns-in-Err-Memory-clause-continues
returns-in-Err-Memory-clause-continues g c = continues_still c.args.store.now c.args.seat.now c.loop-change.seat c.restoring.new.seat c.args.seat.now.knows.participant c.loop-change.invariant.continues c.restoring.ensures.continues

pub returns-in-Err-Memory-clause-prior : goal.returns-in-Err-Memory-clause-prior
returns-in-Err-Memory-clause-prior g c = tt

pub unreachable-requires : goal.unreachable-requires
unreachable-requires g c =
    let k = c.loop-change.invariant in let items = c.changes-change-items.result.now in let h : List Entry = take c.args.snapshot.now.number c.args.seat.now.knows.participant.seen in
    let lt : c.loop-change.change-index < length items = omega arith in
    let batch : is_batch items ≡ true = ap is_batch c.changes-change-items.ensures.value ∙ c.changes-change-items.ensures.batch in
    let full = rw c.in-Err-TooMany.field-0-is at c.in-Err-TooMany.ensures.too_many in
    prior_is_not_full h items c.loop-change.change-index lt batch (ap length (sym k.found) ∙ (full.0 refl).0)

pub returns-clause-continues : goal.returns-clause-continues
returns-clause-continues g c = c.loop-change.invariant.continues

pub returns-clause-prior : goal.returns-clause-prior
returns-clause-prior g c =
    let k = c.loop-change.invariant in let items = c.changes-change-items.result.now in
    let all : length items ≤ c.loop-change.change-index = omega arith in
    let whole : take c.loop-change.change-index items ≡ c.args.batch.now = take_all c.loop-change.change-index items all ∙ c.changes-change-items.ensures.value in
    k.found ∙ (λ i. prior (take c.args.snapshot.now.number ((sym k.same) i).seen) (whole i))
