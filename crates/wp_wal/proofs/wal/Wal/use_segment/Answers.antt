use Rattle.std.proofs.Common.{◌≡◌, None, refl}
use Rattle.wp_wal.specs.Wal.{WalState, wal_state}
use Rattle.wp_wal.proofs.SegmentLemmas.{comes_into_use, in_use}
use Rattle.wp_wal.proofs.wal.Wal.use_segment.Goals as goal

pub returns-clause-stores : goal.returns-clause-stores
returns-clause-stores g c =
    let new : WalState = wal_state c.move_to.new.self c.written.inside.segment c.self.inside.due None in
    let is : new ≡ in_use c.args.self.now c.args.written = rw (← c.self.view_is, ← c.written.view_is, c.move_to.ensures) refl in
    λ cut beside. comes_into_use c.args.self.now new cut c.args.written beside c.requires.due is
