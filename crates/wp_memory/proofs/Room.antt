-- The tests that admit a call, and what they mean.
use Rattle.std.proofs.Common.{◌≡◌, ℕ, ◌+◌, ◌-◌, ◌^◌, ◌<◌, ◌≤◌, min, Bool, true, not, ◌||◌, leb, nat_lt, nat_le, sym, ◌∙◌, arith}
use Rattle.std.proofs.lemmas.Bool.Decides.{nat_tests}
use Rattle.wp_memory.specs.Fits.{Fits}
use Rattle.wp_memory.specs.MemDisk.{DiskState, is_used_up, bytes_written}

pub fits_by_written : (most made room len written sum : ℕ) → made < most → len ≤ room → room ≤ 2 ^ 62 → sum ≡ min written (2 ^ 64 - 1)
    → leb sum room ≡ not (nat_le most made || nat_lt room len || nat_lt room written)
fits_by_written most made room len written sum left fits most_room e = grind (arith, nat_tests)

tests_mean : (a b c d e f : ℕ) → not (nat_le a b || nat_lt c d || nat_lt e f) ≡ true → (b < a) × (d ≤ c) × (f ≤ e)
tests_mean a b c d e f h = grind (arith, nat_tests)

pub fits : (d : DiskState) (len more : ℕ) (result : Bool) → result ≡ not (is_used_up d len more) → result ≡ true → Fits d len more
fits d len more result e h =
    let m = tests_mean d.most d.calls.made d.room len d.room (bytes_written d + more) (sym e ∙ h) in
    record { left = m.0; length = m.1; written = m.2 }
