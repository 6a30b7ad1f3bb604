-- The words of different clients differ.
use Rattle.std.proofs.Common.{◌≡◌, ℕ, ◌+◌, ◌%◌, ◌<◌, ◌≤◌, ◌^◌, Bool, true, List, [], ◌∷◌, ◌++◌, nat_lt, decimal, ◌&&◌, ◌∙◌, refl, sym, append_assoc, arith}
use Rattle.std.specs.List.{list_all}
use Rattle.std.proofs.lemmas.Bool.Decides.{nat_tests}
use Rattle.std.proofs.lemmas.Fmt.{decimal_by_steps, decimal_injective}
use Rattle.std.proofs.lemmas.List.Folds.{list_all-append}
use Rattle.wp_make.specs.Generator.{client_word, key_word, txn_word}

abbrev is_low : ℕ → Bool
is_low byte = nat_lt byte 97

digit : (d : ℕ) → d < 10 → list_all is_low ((48 + d) ∷ []) ≡ true
digit d small = grind (arith, nat_tests)

digits : (n : ℕ) → n < 2 ^ 64 → list_all is_low (decimal n) ≡ true
digits = decimal_by_steps (λ n ds. list_all is_low ds ≡ true) digit
    (λ n ds big front. list_all-append is_low ds ((48 + n % 10) ∷ []) ∙ (λ i. front i && digit (n % 10) (omega arith) i))

-- what is before a letter is known from the whole
front_is : (letter : ℕ) (one other behind after : List ℕ) → 97 ≤ letter → list_all is_low one ≡ true → list_all is_low other ≡ true → one ++ letter ∷ behind ≡ other ++ letter ∷ after → one ≡ other
front_is letter [] [] behind after high low also is = refl
front_is letter [] (x ∷ other) behind after high low also is = let same : letter ≡ x = cc in absurd (grind (arith, nat_tests))
front_is letter (x ∷ one) [] behind after high low also is = let same : x ≡ letter = cc in absurd (grind (arith, nat_tests))
front_is letter (x ∷ one) (y ∷ other) behind after high low also is =
    let same : x ≡ y = cc in let rest : one ++ letter ∷ behind ≡ other ++ letter ∷ after = cc in
    let others = front_is letter one other behind after high (grind (arith, nat_tests)) (grind (arith, nat_tests)) rest in λ i. same i ∷ others i

numbers_are : (letter one other : ℕ) (behind after : List ℕ) → 97 ≤ letter → one < 2 ^ 32 → other < 2 ^ 32 → 99 ∷ ((decimal one ++ letter ∷ []) ++ behind) ≡ 99 ∷ ((decimal other ++ letter ∷ []) ++ after) → one ≡ other
numbers_are letter one other behind after high small fits is =
    let rest : (decimal one ++ letter ∷ []) ++ behind ≡ (decimal other ++ letter ∷ []) ++ after = cc in
    decimal_injective one other (omega arith) (omega arith)
    (front_is letter (decimal one) (decimal other) behind after high (digits one (omega arith)) (digits other (omega arith)) (sym (append_assoc (decimal one) (letter ∷ []) behind) ∙ rest ∙ append_assoc (decimal other) (letter ∷ []) after))

pub names_apart : (one other : ℕ) → one < 2 ^ 32 → other < 2 ^ 32 → client_word one ≡ client_word other → one ≡ other
names_apart one other small fits is = let rest : decimal one ≡ decimal other = cc in decimal_injective one other (omega arith) (omega arith) rest

pub keys_apart : (one other key another : ℕ) → one < 2 ^ 32 → other < 2 ^ 32 → key_word one key ≡ key_word other another → one ≡ other
keys_apart one other key another small fits is = numbers_are 107 one other (decimal key) (decimal another) (omega arith) small fits is

pub txns_apart : (one other begins another : ℕ) → one < 2 ^ 32 → other < 2 ^ 32 → txn_word one begins ≡ txn_word other another → one ≡ other
txns_apart one other begins another small fits is = numbers_are 116 one other (decimal begins) (decimal another) (omega arith) small fits is
