use Rattle.wp_snaps.proofs.KeptNumbers.{no_keys}
use Rattle.wp_snaps.proofs.Sets.{set_of_inserted}
use Rattle.wp_snaps.proofs.snapshot.LiveSnapshot.keep.Goals as goal

pub returns-clause-kept : goal.returns-clause-kept
returns-clause-kept c =
    let updates = rw c.unwrap.ensures at c.insert.ensures.updates in
    let old_commits = set_of_inserted _ _ c.args.p updates.0 in
    rw (← c.self.view_is) (λ i. record { registrations = c.self.inside.registrations; old_commits = old_commits i })

pub returns-clause-first : goal.returns-clause-first
returns-clause-first c = rw (← c.self.view_is) (no_keys c.self.inside.old_commits.keys c.is_empty-first.result c.is_empty-first.ensures)
