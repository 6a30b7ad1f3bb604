use Rattle.std.proofs.Common.{List, ◌+◌, length, true, refl, sym, subst}
use Rattle.std.proofs.lemmas.Result.{IfOk-weaker}
use Rattle.wp_model.specs.declared.carried.Carried.{Carried}
use Rattle.wp_cuts.specs.Cut.{carried_of}
use Rattle.wp_history.specs.Holders.{Holds}
use Rattle.wp_history.proofs.Full.{naming_by}
use Rattle.wp_history.proofs.Holding.{both_are_free, carried_close, carried_commit, carried_prepare, carried_undo, carried_write, is_among, keys_are_free}
use Rattle.wp_history.proofs.Taking.{not_orderly, orderly_by}
use Rattle.wp_history.proofs.outline.Outline.note.Goals as goal

pub returns-then-not-may_decide-clause-may : goal.returns-then-not-may_decide-clause-may
returns-then-not-may_decide-clause-may c = not_orderly c.args.self.now.entries c.args.entry.now c.may_decide.result c.may_decide.ensures.may c.if-not-may_decide.true

-- ---- it may come

pub returns-in-Write-clause-may : goal.returns-in-Write-clause-may
returns-in-Write-clause-may c =
    let old = c.args.self.now.entries in
    let keys = keys_are_free old c.args.holders.now c.requires c.in-Write.batch c.have_a_key.result (rw c.changes.ensures.value at c.have_a_key.ensures) in
    orderly_by old c.args.entry.now _ c.may_decide.ensures.ascending (c.may_decide.ensures.may.0 c.if-not-may_decide.false) (rw c.in-Write.is keys)

pub returns-in-Prepare-clause-may : goal.returns-in-Prepare-clause-may
returns-in-Prepare-clause-may c =
    let old = c.args.self.now.entries in
    let name = c.in-Prepare.name in
    let batch = c.in-Prepare.batch in
    let takes = rw c.published.ensures.value at c.take.ensures in
    IfOk-weaker c.take.result _ _ (λ free it.
    orderly_by old c.args.entry.now free c.may_decide.ensures.ascending (c.may_decide.ensures.may.0 c.if-not-may_decide.false) (rw c.in-Prepare.is (both_are_free old (length old + 1) name batch free (it (carried_of old) c.requires).apart))) takes

pub returns-in-Commit-clause-may : goal.returns-in-Commit-clause-may
returns-in-Commit-clause-may c = orderly_by c.args.self.now.entries c.args.entry.now true c.may_decide.ensures.ascending (c.may_decide.ensures.may.0 c.if-not-may_decide.false) (rw c.in-Commit.is (λ _. tt, λ _. refl))

pub returns-in-Close-clause-may : goal.returns-in-Close-clause-may
returns-in-Close-clause-may c = orderly_by c.args.self.now.entries c.args.entry.now true c.may_decide.ensures.ascending (c.may_decide.ensures.may.0 c.if-not-may_decide.false) (rw c.in-Close.is (λ _. tt, λ _. refl))

pub returns-in-Undo-clause-may : goal.returns-in-Undo-clause-may
returns-in-Undo-clause-may c = orderly_by c.args.self.now.entries c.args.entry.now true c.may_decide.ensures.ascending (c.may_decide.ensures.may.0 c.if-not-may_decide.false) (rw c.in-Undo.is (λ _. tt, λ _. refl))

-- ---- whom it leaves undecided

pub returns-in-Write-clause-holds : goal.returns-in-Write-clause-holds
returns-in-Write-clause-holds c = λ _.
    let naming = naming_by c.args.self.now c.later.ensures.starts c.later.ensures.orderly in
    rw c.in-Write.is (subst (λ (xs : List Carried). Holds xs c.args.holders.now) (sym (carried_write c.args.self.now.entries c.in-Write.batch naming)) c.requires)

pub returns-in-Prepare-clause-holds : goal.returns-in-Prepare-clause-holds
returns-in-Prepare-clause-holds c =
    let old = c.args.self.now.entries in
    let naming = naming_by c.args.self.now c.later.ensures.starts c.later.ensures.orderly in
    let takes = rw c.published.ensures.value at c.take.ensures in
    rw (c.in-Prepare.is, carried_prepare old c.in-Prepare.name c.in-Prepare.batch naming)
    (IfOk-weaker c.take.result _ _ (λ free it. (it (carried_of old) c.requires).holds) takes)

pub returns-in-Commit-clause-holds : goal.returns-in-Commit-clause-holds
returns-in-Commit-clause-holds c = λ _.
    let old = c.args.self.now.entries in
    let p = c.in-Commit.p in
    let naming = naming_by c.args.self.now c.later.ensures.starts c.later.ensures.orderly in
    let named = rw c.in-Commit.is at (c.may_decide.ensures.may.0 c.if-not-may_decide.false).names_undecided in
    rw c.in-Commit.is (subst (λ (xs : List Carried). Holds xs c.remove.new.self) (sym (carried_commit old p naming named))
    (c.remove.ensures (carried_of old) p c.requires (rw (c.name_at.ensures, c.batch_at.ensures) (is_among old p named))))

pub returns-in-Close-clause-holds : goal.returns-in-Close-clause-holds
returns-in-Close-clause-holds c = λ _.
    let old = c.args.self.now.entries in
    let p = c.in-Close.p in
    let naming = naming_by c.args.self.now c.later.ensures.starts c.later.ensures.orderly in
    let named = rw c.in-Close.is at (c.may_decide.ensures.may.0 c.if-not-may_decide.false).names_undecided in
    rw c.in-Close.is (subst (λ (xs : List Carried). Holds xs c.remove-in-Close.new.self) (sym (carried_close old p naming named))
    (c.remove-in-Close.ensures (carried_of old) p c.requires (rw (c.name_at-in-Close.ensures, c.batch_at-in-Close.ensures) (is_among old p named))))

pub returns-in-Undo-clause-holds : goal.returns-in-Undo-clause-holds
returns-in-Undo-clause-holds c = λ _.
    let naming = naming_by c.args.self.now c.later.ensures.starts c.later.ensures.orderly in
    let named = rw c.in-Undo.is at (c.may_decide.ensures.may.0 c.if-not-may_decide.false).names_undecided in
    rw c.in-Undo.is (subst (λ (xs : List Carried). Holds xs c.args.holders.now) (sym (carried_undo c.args.self.now.entries c.in-Undo.field-0 c.in-Undo.field-1 naming named)) c.requires)
