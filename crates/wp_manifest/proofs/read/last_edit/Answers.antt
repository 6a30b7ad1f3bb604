use Rattle.std.proofs.Common.{arith}
use Rattle.std.proofs.lemmas.Grind.{common_steps}
use Rattle.std.proofs.Common.{◌∷◌, [], ◌++◌, sym, subst, ℕ, List}
use Rattle.wp_manifest.specs.Edit.{IsSpelling}
use Rattle.wp_manifest.specs.Reading.{EditRead}
use Rattle.wp_manifest.proofs.EditLemmas.{AreEdits-more, last-push}
use Rattle.wp_manifest.proofs.read.last_edit.Goals as goal

pub loop-i-preserved : goal.loop-i-preserved
loop-i-preserved c =
    let before = c.loop-i.invariant in
    let read : EditRead c.index-records-i.result c.in_ok-edit.field-0 = subst (λ (bytes : List ℕ). EditRead bytes c.in_ok-edit.field-0) c.bytes.ensures c.in_ok-edit.ensures in
    let spelled : IsSpelling c.index-records-i.result c.in-Some.edit = subst (EditRead c.index-records-i.result) c.in-Some.is read in
    (before.0 ++ c.in-Some.edit ∷ [], AreEdits-more c.args.records.now c.loop-i.i c.index-records-i.result before.0 c.in-Some.edit c.loop-i-test.true c.index-records-i.is before.1 spelled, sym (last-push before.0 c.in-Some.edit))

pub returns-clause-ok : goal.returns-clause-ok
returns-clause-ok c = grind (arith, common_steps)
