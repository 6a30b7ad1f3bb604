use Rattle.std.proofs.Common.{ℕ, List, [], ◌∷◌, subst}
use Rattle.std.proofs.lemmas.Result.{IfOk-weaker}
use Rattle.wp_gatelog.specs.Beside.{IsWholeLog}
use Rattle.wp_manifest.specs.Edit.{edit_bytes}
use Rattle.wp_manifest.specs.Spelling.{MAGIC, head_stamp}
use Rattle.wp_manifest.proofs.manifest.whole.Goals as goal

pub returns-clause-whole : goal.returns-clause-whole
returns-clause-whole c =
    let stamp = head_stamp c.args.id in
    IfOk-weaker c.with.result _ (IsWholeLog MAGIC stamp (edit_bytes c.args.edit.now ∷ []))
    (λ log more. subst (λ (bytes : List ℕ). IsWholeLog MAGIC stamp (bytes ∷ []) log) c.in_ok-frame.ensures.spelling (more MAGIC stamp [] c.in_ok-new.ensures)) c.with.ensures
