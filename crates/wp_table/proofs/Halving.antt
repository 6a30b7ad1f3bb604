-- Steps that each halve a number.
use Rattle.std.proofs.Common.{◌≡◌, ℕ, suc, ◌+◌, ◌-◌, ◌*◌, ◌^◌, ◌≤◌, ap, ◌∙◌, arith, le_refl, mul_comm, mul_assoc, mul-one, pow-suc}
use Rattle.std.proofs.lemmas.Nat.{mul-le}
use Rattle.std.proofs.Math.Pow.{pow_mono}

-- one step more is twice the power
pub one_more : (steps before : ℕ) → before ≤ steps → 2 ^ (steps + 1 - before) ≡ 2 * 2 ^ (steps - before)
one_more steps before le =
    let k : steps + 1 - before ≡ suc (steps - before) = omega arith in
    ap (λ (n : ℕ). 2 ^ n) k ∙ pow-suc 2 (steps - before) ∙ mul_comm (2 ^ (steps - before)) 2

pub halved_again : (power n half most : ℕ) → power * n ≤ most → 2 * half ≤ n → (2 * power) * half ≤ most
halved_again power n half most so_far le =
    let same : (2 * power) * half ≡ power * (2 * half) = ap (λ (x : ℕ). x * half) (mul_comm 2 power) ∙ mul_assoc power 2 half in
    omega (arith, same, mul-le power (2 * half) power n (le_refl power) le, so_far)

pub cost_again : (power n most : ℕ) → power * n ≤ most → 1 ≤ n → 2 * power ≤ 2 * most + 1
cost_again power n most so_far some =
    omega (arith, mul-le power 1 power n (le_refl power) some, mul-one power, so_far)

pub no_step : (steps most : ℕ) → 1 ≤ most → (2 ^ (steps - steps) * (most - 0 - 1) ≤ most) × (2 ^ (steps - steps) ≤ 2 * most + 1)
no_step steps most some =
    let none : steps - steps ≡ 0 = omega arith in
    rw none (omega arith, omega arith)

-- so many steps more than those that halve
pub more_steps : (more start halved end most : ℕ) → 2 ^ (halved - start) ≤ most → end ≤ halved + more → 2 ^ (end - start - more) ≤ most
more_steps more start halved end most cost le =
    let fewer : end - start - more ≤ halved - start = omega arith in
    omega (arith, pow_mono fewer, cost)
