use Rattle.wp_snaps.proofs.Sets.{set_of_reordered}
use Rattle.wp_snaps.proofs.snapshot.LiveSnapshot.reserve.Goals as goal

pub returns-clause-same_snapshot : goal.returns-clause-same_snapshot
returns-clause-same_snapshot c =
    let old_commits = set_of_reordered _ _ c.reserve.ensures.keys.2 in
    rw (← c.self.view_is) (λ i. record { registrations = c.self.inside.registrations; old_commits = old_commits i })
