use Rattle.std.proofs.Common.{List, ◌++◌, [], ◌∷◌, append_assoc, ap, ◌∙◌}
use Rattle.std.specs.Prelude.{ℕ}
use Rattle.std.proofs.lemmas.Result.{IfOk-weaker}
use Rattle.wp_keep.specs.Keep.{is_committed, retained_of}
use Rattle.wp_keep.proofs.retained.keep.Goals as goal

pub returns : goal.returns
returns c =
    let listed = c.deref.ensures.value ∙ c.in_ok-push-2.ensures.items ∙ ap (λ (l : List ℕ). l ++ c.args.installed ∷ []) c.in_ok-push.ensures.items ∙ append_assoc _ (c.args.opened ∷ []) (c.args.installed ∷ []) in
    record {
      retained = IfOk-weaker c.keep_at.result _ _ (λ kept is. is ∙ ap (λ (l : List ℕ). retained_of (is_committed c.args.committed.now) c.args.versions l c.args.floor) listed) c.keep_at.ensures.retained;
    }
