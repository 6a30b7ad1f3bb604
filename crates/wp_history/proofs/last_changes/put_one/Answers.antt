use Rattle.std.proofs.Common.{ℕ, List, Some, is_some, sym, ap, subst}
use Rattle.std.specs.List.Sorted.{IsStrictlySortedBy}
use Rattle.wp_model.specs.Batch.{key_cmp}
use Rattle.wp_history.proofs.Holding.{leaves_by}
use Rattle.wp_history.proofs.last_changes.put_one.Goals as goal

pub returns-in-Some : goal.returns-in-Some
returns-in-Some c =
    let written = c.get_mut.follows.holds c.args.number in
    leaves_by c.args.key.now (Some c.args.number) c.args.last.now _ (written.3 (ap is_some (sym c.in-Some.ensures.value))).0
    (subst (λ (keys : List (List ℕ)). IsStrictlySortedBy key_cmp keys) (sym written.1) c.get_mut.ensures.ordered)

pub returns : goal.returns
returns c =
    let updates = rw (c.get_mut.follows.holds-at-none, c.in_ok-copy.ensures) at c.in_ok-insert.ensures.updates in
    leaves_by c.args.key.now (Some c.args.number) c.args.last.now _ updates.0 c.in_ok-insert.ensures.ordered
