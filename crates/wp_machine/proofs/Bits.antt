-- A cache of so many bits has a word.
use Rattle.std.proofs.Common.{ℕ, zero, suc, ◌^◌, ◌≤◌, arith}

pub some_words : (bits : ℕ) → 1 ≤ 2 ^ bits
some_words zero = omega arith
some_words (suc n) = let before = some_words n in omega (arith, before)
