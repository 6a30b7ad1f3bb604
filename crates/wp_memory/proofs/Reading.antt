-- A read moves on by what it gave.
use Rattle.std.proofs.Common.{◌≡◌, ℕ, ◌+◌, List, ◌++◌, take, drop, sym, ◌∙◌, ap}
use Rattle.std.proofs.lemmas.List.{take-append-drop, drop-drop}
use Rattle.wp_outside.specs.Disk.{IsRead}

pub moved_on : {bytes buf : List ℕ} {at n : ℕ} → IsRead bytes at buf n → drop at bytes ≡ take n buf ++ drop (at + n) bytes
moved_on {bytes} {buf} {at} {n} r =
    sym (take-append-drop n (drop at bytes)) ∙ ap (λ xs. xs ++ drop n (drop at bytes)) (sym r.bytes) ∙ ap (λ xs. take n buf ++ xs) (drop-drop n at bytes)
