use Rattle.std.proofs.Common.{◌≡◌, ⊎_elim, ℕ, List, ap}
use Rattle.wp_model.specs.declared.change.Change.{Change}
use Rattle.wp_model.specs.declared.entry.Entry.TheVariants.{Write, Commit, Undo, Close}
use Rattle.wp_judge.specs.Words.{commit_pair}
use Rattle.wp_core.specs.Entries.{pair_by}
use Rattle.wp_commits.proofs.way.Way.of.Goals as goal

pub of_pair-requires-clause-pair : goal.of_pair-requires-clause-pair
of_pair-requires-clause-pair c = let n = c.args.n in let here = c.args.entry.now in ⊎_elim
    (λ (w : (batch : List Change) × (here ≡ Write batch)). c.requires.pair (commit_pair n n) (ap (pair_by n) w.1))
    (λ (u : (p : ℕ) × (batch : List Change) × (here ≡ Undo p batch)). c.requires.pair (commit_pair n n) (ap (pair_by n) u.2))
    c.in-Write.is

pub of_pair-requires-in-Commit-clause-pair : goal.of_pair-requires-in-Commit-clause-pair
of_pair-requires-in-Commit-clause-pair c = let n = c.args.n in let p = c.in-Commit.p in let here = c.args.entry.now in ⊎_elim
    (λ (e : here ≡ Commit p). c.requires.pair (commit_pair p n) (ap (pair_by n) e))
    (λ (e : here ≡ Close p). c.requires.pair (commit_pair p n) (ap (pair_by n) e))
    c.in-Commit.is
