use Rattle.std.proofs.Common.{[], ◌∷◌}
use Rattle.std.proofs.lemmas.Result.{on_ok_weaker}
use Rattle.wp_compact.proofs.Decisions.{then_numbers}
use Rattle.wp_compact.proofs.decided.decide_at_bases.Goals as goal

pub returns : goal.returns
returns c =
    let h = c.args.decisions.now in let before = c.args.committed.now.items in let mid = c.decide_base.new.committed.items in let after = c.decide_base-2.new.committed.items in let b = c.args.bases in
    on_ok_weaker c.decide_base-2.result (λ last. then_numbers h before mid after (c.args.number ∷ []) (b.opened ∷ []) (b.installed ∷ []) c.in_ok-decide_base.ensures last) c.decide_base-2.ensures
