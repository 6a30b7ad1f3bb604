use Rattle.wp_rule.proofs.MayBeMade.{claims_name}
use Rattle.wp_shared.proofs.OneStep.{becomes}
use Rattle.wp_open_txns.proofs.Made.{name_claimed}
use Rattle.wp_open_txns.proofs.steps.claim_name.Goals as goal

pub make_about-requires-clause-may : goal.make_about-requires-clause-may
make_about-requires-clause-may g c = let f = c.requires.free in claims_name _ _ c.args.name.now (record { state = f.0; held = f.1; so_is = f.2 })

pub returns : goal.returns
returns g c t held = becomes c.args.seat.now c.make_about.new.seat _ c.make_about.ensures.same (name_claimed _ _ _ _ t c.args.name.now c.make_about.ensures.moved held)
