use Rattle.std.proofs.Common.{◌≡◌, ℕ, List, is_some, ap, ◌∙◌}
use Rattle.std.specs.FinMap as finite
use Rattle.wp_model.specs.Covered.{is_among}
use Rattle.wp_machine_permits.specs.VersionLists.{IsListed}
use Rattle.wp_machine_permits.proofs.LiveNumbers.{each_live, live_each}
use Rattle.wp_machine_permits.proofs.needs.listed.live_listed.Goals as goal

pub returns : goal.returns
returns c =
    let are : (n : ℕ) → is_among c.deref.result.now n ≡ is_some (finite.get c.args.snapshots.now n) = λ n. ap (λ (xs : List ℕ). is_among xs n) c.deref.ensures.value ∙ c.in_ok-live.ensures n in
    (λ e. each_live (IsListed c.args.floor c.args.listed.now) _ _ are (c.are_listed.ensures.0 e), λ h. c.are_listed.ensures.1 (live_each (IsListed c.args.floor c.args.listed.now) _ _ are h))
