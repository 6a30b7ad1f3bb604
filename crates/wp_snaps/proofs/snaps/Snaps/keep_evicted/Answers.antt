use Rattle.std.proofs.Common.{ap, arith}
use Rattle.std.specs.FinSet.{len}
use Rattle.wp_snaps.specs.KeptNumbers.{kept_numbers}
use Rattle.wp_snaps.proofs.KeptNumbers.{len-kept}
use Rattle.wp_snaps.proofs.snaps.Snaps.keep_evicted.Goals as goal

pub overflow_add-self : goal.overflow_add-self
overflow_add-self c =
    let before = ap (λ m. len (kept_numbers m)) c.in_ok-reserve_each.ensures.same_snapshots in
    omega (arith, before, c.self.invariant, c.keep_each-more.ensures.more, len-kept c.keep_each-more.new.live.entries, c.len-live.ensures.len, c.len-live.ensures.small)
