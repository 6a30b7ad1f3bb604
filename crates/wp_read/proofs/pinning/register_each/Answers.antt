use Rattle.std.proofs.Common.{◌<◌, length, get_or, ap, ◌∙◌, arith}
use Rattle.wp_model.specs.Snapshots.{Snapshots, after_register}
use Rattle.wp_core.specs.Changes.{with_registered}
use Rattle.wp_read.proofs.Counts.{each_next}
use Rattle.wp_read.proofs.Registers.{changes_placed}
use Rattle.wp_read.proofs.pinning.register_each.Goals as goal

pub release_each-requires : goal.release_each-requires
release_each-requires c = (c.args.snaps.now, c.requires, c.in-Err.ensures.err ∙ c.loop-i.invariant)

pub loop-i-preserved : goal.loop-i-preserved
loop-i-preserved c =
    let numbers = c.args.numbers.now in
    let within : c.loop-i.i < length numbers = omega arith in
    changes_placed c.loop-i.snaps c.register.new.self (get_or numbers c.loop-i.i 0) after_register c.in_default.ensures.ok
    ∙ (ap (λ (x : Snapshots). with_registered x (get_or numbers c.loop-i.i 0)) c.loop-i.invariant ∙ each_next c.args.snaps.now numbers c.loop-i.i within)
