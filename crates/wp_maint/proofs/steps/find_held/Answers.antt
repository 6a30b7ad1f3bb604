use Rattle.wp_maint.proofs.Found.{held_first}
use Rattle.wp_maint.proofs.Onward.{holds_being, in_step_being}
use Rattle.wp_maint.proofs.steps.find_held.Goals as goal

pub find_edits-requires-clause-held : goal.find_edits-requires-clause-held
find_edits-requires-clause-held g c = let e = c.args.edits.now.state in (e, held_first c.args.seat.now e c.requires.holds.turn.held)

pub returns : goal.returns
returns g c =
    let z = c.args.store.now in let s = c.args.seat.now in let u = c.find_edits.new.seat in let e = c.args.edits.now in
    let k = c.find_edits.ensures e.state (held_first s e.state c.requires.holds.turn.held) in record {
      holds = holds_being z s u _ k.is e c.requires.holds;
      in_step = in_step_being z s u _ k.is e.state.last c.requires.in_step;
      found = k;
    }
