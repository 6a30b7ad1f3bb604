use Rattle.std.proofs.Common.{ℕ, ◌≤◌, ◌<◌, ◌%◌, mod-lt, sym, subst}
use Rattle.wp_shared.proofs.shared.Shared.place_of.Goals as goal

pub returns-clause-within : goal.returns-clause-within
returns-clause-within g c = subst (λ (n : ℕ). c.args.p % n < c.args.self.now.cells) (sym c.cells.ensures.0) (mod-lt c.args.p (subst (λ (n : ℕ). 1 ≤ n) c.cells.ensures.0 c.cells.ensures.1))
