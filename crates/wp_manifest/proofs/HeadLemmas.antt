-- Whether a manifest was made, by its first two bytes.
use Rattle.std.proofs.Common.{◌≡◌, ◌↔◌, ℕ, min, Bool, false, List, [], ◌∷◌, length, take, subst, arith}
use Rattle.wp_outside.specs.Disk.{IsRead}
use Rattle.wp_gatelog.specs.Spelling.{IsUnmade}

unmade_front : (bytes : List ℕ) (n : ℕ) → n ≡ min 2 (length bytes) → IsUnmade (take n bytes) ↔ IsUnmade bytes
unmade_front [] n is = rw is (λ u. u, λ u. u)
unmade_front (gate ∷ []) n is = rw is (λ u. u, λ u. u)
unmade_front (gate ∷ byte ∷ bytes) n is = let two : n ≡ 2 = omega (arith, is) in rw two (λ u. u, λ u. u)

pub made_by_front : (reads buf : List ℕ) (n : ℕ) (made : Bool) → length buf ≡ 2 → IsRead reads 0 buf n → (made ≡ false) ↔ IsUnmade (take n buf) → (made ≡ false) ↔ IsUnmade reads
made_by_front reads buf n made two read asked =
    let count : n ≡ min 2 (length reads) = omega (arith, read.count, two) in
    let front = unmade_front reads n count in
    let same = subst (λ (l : List ℕ). (made ≡ false) ↔ IsUnmade l) read.bytes asked in
    (λ e. front.0 (same.0 e), λ u. same.1 (front.1 u))
