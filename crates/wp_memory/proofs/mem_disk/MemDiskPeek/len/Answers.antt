use Rattle.std.proofs.Common.{◌≡◌, length, arith, rules, sym, ◌∙◌, ap, refl}
use Rattle.wp_memory.specs.MemDisk.{contents, moments_of}
use Rattle.wp_outside.proofs.Moments.{looks_same}
use Rattle.wp_memory.proofs.Replayed.{known_now}
use Rattle.wp_memory.proofs.mem_disk.MemDiskPeek.len.Goals as goal

pub returns-clause-length : goal.returns-clause-length
returns-clause-length c =
    let same : length c.self.inside.bytes.items ≡ length (contents c.args.self.now) =
    ap (λ xs. length xs) (sym c.self.invariant.bytes) ∙ ap (λ d. length (contents d)) c.self.view_is in
    known_now c.args.self.now _ _ (ap (λ d. moments_of d) c.self.view_is) (omega arith)

pub returns-in_err-admit-clause-looks : goal.returns-in_err-admit-clause-looks
returns-in_err-admit-clause-looks c = looks_same _ _ _ _ (search rules) refl

pub returns-clause-looks : goal.returns-clause-looks
returns-clause-looks c = looks_same _ _ _ _ (search rules) refl
