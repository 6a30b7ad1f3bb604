use Rattle.std.proofs.Common.{ℕ, List, sym, ap, ◌∙◌}
use Rattle.std.specs.FinMap as finite
use Rattle.wp_open_txns.proofs.GoesOn.{held_last}
use Rattle.wp_open_txns.proofs.names.claim.Goals as goal

pub claim_name-requires-in-Ok-clause-free : goal.claim_name-requires-in-Ok-clause-free
claim_name-requires-in-Ok-clause-free g c = (c.args.tables.now, held_last c.requires.seat, ap (λ (name : List ℕ). finite.get c.args.tables.now.names name) (sym c.requires.names.0) ∙ (c.in-Ok.ensures {u = tt}).0)
