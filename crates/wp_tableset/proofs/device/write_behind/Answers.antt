use Rattle.wp_tableset.proofs.DeviceLemmas.{torn_grows, synced_grows, synced_behind}
use Rattle.wp_tableset.proofs.device.write_behind.Goals as goal

pub returns-in_err-write_at-clause-grows : goal.returns-in_err-write_at-clause-grows
returns-in_err-write_at-clause-grows g c = λ before known. torn_grows before c.args.bytes.now c.in_ok-place.place _ _ known c.in_ok-place.ensures.length (rw c.in_ok-place.ensures.unchanged at c.in_err-write_at.ensures.torn)

pub returns-in_err-sync-clause-grows : goal.returns-in_err-sync-clause-grows
returns-in_err-sync-clause-grows g c = λ before known. synced_grows before c.args.bytes.now c.in_ok-place.place _ _ _ c.sync.result known c.in_ok-place.ensures.length (rw c.in_ok-place.ensures.unchanged at c.in_ok-write_at.ensures.done) c.sync.ensures.done c.sync.ensures.unchanged

pub returns-clause-grows : goal.returns-clause-grows
returns-clause-grows g c = λ before known. synced_grows before c.args.bytes.now c.in_ok-place.place _ _ _ c.sync.result known c.in_ok-place.ensures.length (rw c.in_ok-place.ensures.unchanged at c.in_ok-write_at.ensures.done) c.sync.ensures.done c.sync.ensures.unchanged

pub returns-clause-synced : goal.returns-clause-synced
returns-clause-synced g c = synced_behind c.args.bytes.now c.in_ok-place.place _ _ _ c.in_ok-place.ensures.length (rw c.in_ok-place.ensures.unchanged at c.in_ok-write_at.ensures.done) c.in_ok-sync.ensures.done
