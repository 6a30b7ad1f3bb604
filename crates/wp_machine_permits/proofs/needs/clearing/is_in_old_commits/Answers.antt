use Rattle.std.proofs.Common.{◌≡◌, ◌≤◌, ◌<◌, ℕ, true, List, is_some, ap, ◌∙◌}
use Rattle.std.specs.FinMap as finite
use Rattle.wp_model.specs.Covered.{is_among}
use Rattle.wp_model.specs.Snapshots.{is_old_commit}
use Rattle.wp_machine_permits.proofs.LiveNumbers.{each_live, live_each}
use Rattle.wp_machine_permits.proofs.needs.clearing.is_in_old_commits.Goals as goal

pub returns : goal.returns
returns c =
    let P : ℕ → Type 0 = λ s. c.args.p ≤ s → s < c.args.c → is_old_commit c.args.snapshots.now s c.args.p ≡ true in
    let are : (n : ℕ) → is_among c.deref.result.now n ≡ is_some (finite.get c.args.snapshots.now n) = λ n. ap (λ (xs : List ℕ). is_among xs n) c.deref.ensures.value ∙ c.in_ok-live.ensures n in
    (λ e. each_live P _ _ are (c.is_kept_under_each.ensures.0 e), λ h. c.is_kept_under_each.ensures.1 (live_each P _ _ are h))
