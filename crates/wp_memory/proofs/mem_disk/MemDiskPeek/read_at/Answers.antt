use Rattle.std.proofs.Common.{rules, refl, ap}
use Rattle.wp_memory.specs.MemDisk.{moments_of}
use Rattle.wp_outside.proofs.Moments.{looks_same}
use Rattle.wp_memory.proofs.Replayed.{known_now}
use Rattle.wp_memory.proofs.mem_disk.MemDiskPeek.read_at.Goals as goal

pub returns-clause-bytes : goal.returns-clause-bytes
returns-clause-bytes c =
    known_now c.args.self.now _ _ (ap (λ d. moments_of d) c.self.view_is) (rw (← c.self.view_is, c.self.invariant.bytes, ← c.deref.ensures.value) c.copy_from.ensures.read)

pub returns-in_err-admit-clause-looks : goal.returns-in_err-admit-clause-looks
returns-in_err-admit-clause-looks c = looks_same _ _ _ _ (search rules) refl

pub returns-clause-looks : goal.returns-clause-looks
returns-clause-looks c = looks_same _ _ _ _ (search rules) refl
