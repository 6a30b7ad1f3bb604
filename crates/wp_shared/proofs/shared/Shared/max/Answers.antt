use Rattle.std.proofs.Common.{rules, ◌≡◌}
use Rattle.wp_shared.proofs.Places.{found}
use Rattle.wp_shared.proofs.shared.Shared.max.Goals as goal

pub returns-clause-found : goal.returns-clause-found
returns-clause-found g c = found c.args.self.now (λ w. c.load.result ≡ w.max_evicted) c.args.seat.now c.load.new.seat c.args.seat.now.knows (search rules) c.load.ensures.moved
