use Rattle.std.proofs.Common.{List, ◌++◌, ap, ◌∙◌}
use Rattle.std.specs.Prelude.{ℕ}
use Rattle.std.proofs.lemmas.Result.{IfOk-weaker}
use Rattle.wp_keep.specs.Keep.{is_committed, retained_of}
use Rattle.wp_read.specs.Registers.{numbers_of}
use Rattle.wp_compact.specs.Decided.{both_bases}
use Rattle.wp_compact.proofs.merging.kept_of.Goals as goal

pub returns : goal.returns
returns c =
    let listed = ap (λ (l : List ℕ). l ++ both_bases c.args.bases) (c.in_ok-live.ensures ∙ ap numbers_of c.deref.ensures.value) in
    IfOk-weaker c.keep.result _ _ (λ kept is. is ∙ (λ i. retained_of (is_committed c.args.committed.now) c.args.versions (listed i) (c.number.ensures i))) c.keep.ensures.retained
