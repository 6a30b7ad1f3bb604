use Rattle.wp_model.specs.Snapshots.{after_register}
use Rattle.wp_read.proofs.Registers.{changes_placed}
use Rattle.wp_read.proofs.registering.enter.Goals as goal

pub returns-clause-registered : goal.returns-clause-registered
returns-clause-registered c = changes_placed c.args.snaps.now c.register.new.self c.args.number after_register c.in_ok-register.ensures.ok
