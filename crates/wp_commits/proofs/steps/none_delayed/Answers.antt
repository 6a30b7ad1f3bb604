use Rattle.wp_shared.specs.Seats.{place_at}
use Rattle.wp_commits.proofs.Passed.{zero_match, may_look, look_keeps, looked_down, looked_up}
use Rattle.wp_commits.proofs.steps.none_delayed.Goals as goal

pub load-requires-clause-may : goal.load-requires-clause-may
load-requires-clause-may g c = may_look (place_at c.args.store.now c.args.seat.now.by) c.args.seat.now.knows c.args.log.now.state c.requires.seat.1 c.requires.held

pub load-requires-clause-client : goal.load-requires-clause-client
load-requires-clause-client g c = look_keeps

pub returns : goal.returns
returns g c = let p = place_at c.args.store.now c.args.seat.now.by in let s = c.args.seat.now in let u = c.load in
    zero_match u.result _ _ (looked_down p s u.new.seat u.result u.ensures.same u.ensures.moved) (looked_up p s u.new.seat u.result u.ensures.same u.ensures.moved)
