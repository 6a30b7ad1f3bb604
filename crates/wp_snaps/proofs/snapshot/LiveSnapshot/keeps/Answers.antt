use Rattle.std.proofs.Common.{sym, ap, ◌∙◌}
use Rattle.std.specs.FinSet.{contains}
use Rattle.wp_snaps.proofs.Sets.{contains-old_commit_set}
use Rattle.wp_snaps.proofs.snapshot.LiveSnapshot.keeps.Goals as goal

pub returns : goal.returns
returns c =
    c.contains.ensures
    ∙ sym (contains-old_commit_set _ c.args.p)
    ∙ ap (λ x. contains x.snapshot.old_commits c.args.p) c.self.view_is
