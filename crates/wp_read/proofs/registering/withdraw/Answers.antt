use Rattle.std.proofs.Common.{◌≡◌, subst}
use Rattle.wp_model.specs.Snapshots.{after_release}
use Rattle.wp_core.specs.Changes.{with_released}
use Rattle.wp_core.specs.Reading.{Registration}
use Rattle.wp_read.proofs.Registers.{changes_placed}
use Rattle.wp_read.proofs.registering.withdraw.Goals as goal

pub returns : goal.returns
returns c =
    let m = c.args.snaps.now in
    subst (λ (x : Registration). c.release.new.self ≡ with_released m x.number) c.snapshot.view_is (changes_placed m c.release.new.self _ after_release c.release.ensures)
