use Rattle.std.proofs.Common.{◌≡◌, ℕ, take}
use Rattle.wp_keep.specs.Keep.{by_commits, commits_in, is_committed}
use Rattle.wp_keep.proofs.commits.commits_of.Given as goal

abbrev pub invariant-loop-pair : goal.invariant-loop-pair
invariant-loop-pair l = (p n : ℕ) → by_commits (commits_in l.commits.entries) p n ≡ is_committed (take l.pair-index l.committed) p n
