use Rattle.std.proofs.Common.{◌∙◌}
use Rattle.wp_machine_permits.proofs.ListFacts.{same_only_at}
use Rattle.wp_machine_permits.proofs.needs.moves.same_at.Goals as goal

pub returns : goal.returns
returns c =
    let here = c.deref.ensures.value ∙ c.in_ok-here.ensures in
    let there = c.deref-2.ensures.value ∙ c.in_ok-there.ensures in
    let same = rw (here, there) at c.are_same.ensures in
    λ e. same_only_at _ _ _ (same.0 e)
