use Rattle.std.proofs.Common.{rules, ◌≡◌, slice_index}
use Rattle.wp_shared.proofs.Places.{found}
use Rattle.wp_shared.proofs.shared.Shared.word.Goals as goal

pub returns-clause-found : goal.returns-clause-found
returns-clause-found g c = found c.args.self.now (λ w. c.load.result ≡ slice_index w.cache c.args.i) c.args.seat.now c.load.new.seat c.args.seat.now.knows (search rules) c.load.ensures.moved
