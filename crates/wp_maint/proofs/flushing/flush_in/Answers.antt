use Rattle.std.proofs.Common.{sym, ◌∙◌}
use Rattle.wp_shared.proofs.Onward.{goes_none}
use Rattle.wp_maint.proofs.Onward.{found_halted}
use Rattle.wp_maint.proofs.flushing.flush_in.Goals as goal

pub returns-then-is_halted-clause-says : goal.returns-then-is_halted-clause-says
returns-then-is_halted-clause-says g c =
    let s = c.args.seat.now in
    found_halted c.args.store.now s s c.find_held.new.seat c.args.edits.now.state (goes_none s) c.find_held.ensures.found (sym c.is_halted.ensures ∙ c.if-is_halted.true) c.flushed.result c.flushed.ensures.number
