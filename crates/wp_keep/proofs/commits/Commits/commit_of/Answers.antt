use Rattle.std.proofs.Common.{sym, ap, ◌∙◌}
use Rattle.std.specs.FinMap.{get}
use Rattle.wp_keep.proofs.Committed.{get-commits_in}
use Rattle.wp_keep.proofs.commits.Commits.commit_of.Goals as goal

pub returns : goal.returns
returns c = c.copied.ensures ∙ c.get.ensures.value ∙ sym (get-commits_in _ c.args.number) ∙ ap (λ m. get m c.args.number) c.self.view_is
