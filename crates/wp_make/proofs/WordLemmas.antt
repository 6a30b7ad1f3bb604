-- The words of a made script are in range.
use Rattle.std.proofs.Common.{◌≡◌, ℕ, ◌+◌, ◌%◌, ◌<◌, ◌≤◌, ◌^◌, true, List, [], ◌∷◌, ◌++◌, length, decimal, ◌&&◌, ◌∙◌, refl, ap, sym, append_assoc, arith}
use Rattle.std.specs.List.{list_all}
use Rattle.std.proofs.lemmas.Bool.Decides.{nat_tests}
use Rattle.std.proofs.lemmas.Fmt.{decimal_by_steps, length-decimal-le}
use Rattle.std.proofs.lemmas.List.{length-append}
use Rattle.std.proofs.lemmas.List.Folds.{list_all-append}
use Rattle.wp_model.specs.Word.{is_word, is_word_byte}
use Rattle.wp_make.specs.Generator.{client_word, key_word, txn_word, value_word}

all_of_both : (front back : List ℕ) → list_all is_word_byte front ≡ true → list_all is_word_byte back ≡ true → list_all is_word_byte (front ++ back) ≡ true
all_of_both front back a b = list_all-append is_word_byte front back ∙ (λ i. a i && b i)

digit : (d : ℕ) → d < 10 → list_all is_word_byte ((48 + d) ∷ []) ≡ true
digit d small = grind (arith, nat_tests)

digits : (n : ℕ) → n < 2 ^ 64 → list_all is_word_byte (decimal n) ≡ true
digits = decimal_by_steps (λ n ds. list_all is_word_byte ds ≡ true) digit (λ n ds big front. all_of_both ds ((48 + n % 10) ∷ []) front (digit (n % 10) (omega arith)))

is_such : (most : ℕ) (bytes : List ℕ) → 1 ≤ length bytes → length bytes ≤ most → list_all is_word_byte bytes ≡ true → is_word most bytes ≡ true
is_such most bytes some few all = grind (arith, nat_tests)

-- a number behind one letter
marked : (mark most n : ℕ) → list_all is_word_byte (mark ∷ []) ≡ true → n < 2 ^ 64 → 21 ≤ most → is_word most ((mark ∷ []) ++ decimal n) ≡ true
marked mark most n letter small few =
    let long = length-decimal-le 20 n (omega arith) (omega arith) small in
    is_such most ((mark ∷ []) ++ decimal n) (omega (arith, length-append (mark ∷ []) (decimal n))) (omega (arith, length-append (mark ∷ []) (decimal n))) (all_of_both (mark ∷ []) (decimal n) letter (digits n small))

-- a number behind one letter, and another behind another
twice_marked : (mark other most n m : ℕ) → list_all is_word_byte (mark ∷ []) ≡ true → list_all is_word_byte (other ∷ []) ≡ true → n < 2 ^ 32 → m < 2 ^ 64 → length (decimal m) + 12 ≤ most
    → is_word most ((mark ∷ []) ++ decimal n ++ (other ∷ []) ++ decimal m) ≡ true
twice_marked mark other most n m letter second small fits few =
    let long = length-decimal-le 10 n (omega arith) (omega arith) (omega arith) in
    let front = (mark ∷ []) ++ decimal n in
    is_such most (front ++ (other ∷ []) ++ decimal m)
    (omega (arith, length-append (mark ∷ []) (decimal n), length-append front (other ∷ []), length-append (front ++ (other ∷ [])) (decimal m)))
    (omega (arith, length-append (mark ∷ []) (decimal n), length-append front (other ∷ []), length-append (front ++ (other ∷ [])) (decimal m)))
    (all_of_both (front ++ (other ∷ [])) (decimal m) (all_of_both front (other ∷ []) (all_of_both (mark ∷ []) (decimal n) letter (digits n (omega arith))) second) (digits m fits))

pub client_fits : (client : ℕ) → client < 2 ^ 32 → is_word 32 (client_word client) ≡ true
client_fits client small = marked 99 32 client refl (omega arith) (omega arith)

pub value_fits : (value : ℕ) → value < 2 ^ 64 → is_word 256 (value_word value) ≡ true
value_fits value small = marked 118 256 value refl small (omega arith)

pub key_fits : (client key : ℕ) → client < 2 ^ 32 → key < 2 ^ 64 → is_word 64 (key_word client key) ≡ true
key_fits client key small fits = let long = length-decimal-le 20 key (omega arith) (omega arith) fits in twice_marked 99 107 64 client key refl refl small fits (omega arith)

pub txn_fits : (client begins : ℕ) → client < 2 ^ 32 → begins < 2 ^ 32 → is_word 32 (txn_word client begins) ≡ true
txn_fits client begins small fits = let long = length-decimal-le 10 begins (omega arith) (omega arith) (omega arith) in twice_marked 99 116 32 client begins refl refl small (omega arith) (omega arith)

-- two marks with their numbers, as they are written
pub written : (mark other n m : ℕ) (text : List ℕ) → text ≡ mark ∷ (decimal n ++ other ∷ decimal m) → text ≡ (mark ∷ []) ++ decimal n ++ (other ∷ []) ++ decimal m
written mark other n m text is = is ∙ ap (λ (behind : List ℕ). mark ∷ behind) (sym (append_assoc (decimal n) (other ∷ []) (decimal m)))
