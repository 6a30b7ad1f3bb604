-- A pair and its word.
use Rattle.std.proofs.Common.{◌≡◌, ℕ, ◌/◌, ◌%◌, ◌*◌, ◌+◌, ◌-◌, ◌^◌, ◌<◌, ◌≤◌, ◌&&◌, nat_le, nat_lt, Bool, true, false, cond, Some, None, refl, subst, ap, ◌∙◌, mod-lt, arith}
use Rattle.std.proofs.lemmas.Bool.{lt-ltb, ltb-true, le-leb, leb-true}
use Rattle.std.proofs.lemmas.Nat.{div-add-mod', div-mul-add, mod-mul-add}
use Rattle.wp_judge.specs.Words.{CommitPair, commit_pair, MayBePacked, IsPacked, delta_of, delta_bound, word_of, is_pair, pair_with, pair_of, seq_end}

-- ---- a number and a delta

pub are_pair : (p delta : ℕ) → 1 ≤ p → 1 ≤ delta → p + delta ≤ seq_end → is_pair p delta ≡ true
are_pair p delta positive some few =
    let x : nat_le 1 p ≡ true = le-leb 1 p positive in
    let y : nat_le 1 delta ≡ true = le-leb 1 delta some in
    let z : nat_le (p + delta) seq_end ≡ true = le-leb (p + delta) seq_end few in
    λ i. (x i && y i) && z i

tests : (p delta : ℕ) (a b c : Bool) → nat_le 1 p ≡ a → nat_le 1 delta ≡ b → nat_le (p + delta) seq_end ≡ c → ((a && b) && c) ≡ true → (1 ≤ p) × (1 ≤ delta) × (p + delta ≤ seq_end)
tests p delta true true true x y z is = (leb-true 1 p x, leb-true 1 delta y, leb-true (p + delta) seq_end z)
tests p delta true true false x y z is = let no : false ≡ true = is in absurd (cc)
tests p delta true false c x y z is = let no : false ≡ true = is in absurd (cc)
tests p delta false b c x y z is = let no : false ≡ true = is in absurd (cc)

pub pair_parts : (p delta : ℕ) → is_pair p delta ≡ true → (1 ≤ p) × (1 ≤ delta) × (p + delta ≤ seq_end)
pair_parts p delta is = tests p delta (nat_le 1 p) (nat_le 1 delta) (nat_le (p + delta) seq_end) refl refl refl is

pub with_test : (p delta : ℕ) (b : Bool) → is_pair p delta ≡ b → pair_with p delta ≡ cond b (Some (commit_pair p (p + delta - 1))) None
with_test p delta b is = ap (λ (t : Bool). cond t (Some (commit_pair p (p + delta - 1))) None) is

same_some : (x y : CommitPair) → Some x ≡ Some y → x ≡ y
same_some x y e = cc

with_found : (p delta : ℕ) (pair : CommitPair) → pair_with p delta ≡ Some pair → (is_pair p delta ≡ true) × (commit_pair p (p + delta - 1) ≡ pair)
with_found p delta pair e = by_test (is_pair p delta) refl e
  where
    by_test : (b : Bool) → is_pair p delta ≡ b → cond b (Some (commit_pair p (p + delta - 1))) None ≡ Some pair → (is_pair p delta ≡ true) × (commit_pair p (p + delta - 1) ≡ pair)
    by_test true is h = (is, same_some (commit_pair p (p + delta - 1)) pair h)
    by_test false is h = let no : None ≡ Some pair = h in absurd (cc)

-- a pair in order is that of its number and its delta
with_back : (pair : CommitPair) → 1 ≤ pair.number → pair.number ≤ pair.decision → pair.decision < seq_end → pair_with pair.number (delta_of pair) ≡ Some pair
with_back pair positive ordered few =
    let same : pair.number + (pair.decision - pair.number + 1) - 1 ≡ pair.decision = omega (arith, ordered) in
    with_test pair.number (delta_of pair) true (are_pair pair.number (delta_of pair) positive (omega arith) (omega (arith, ordered, few)))
    ∙ ap (λ (d : ℕ). Some (commit_pair pair.number d)) same

-- ---- a word

-- the pair of its word, at its place, is the pair
pub pair_back : (words : ℕ) (pair : CommitPair) → MayBePacked words pair → pair_of words (pair.number % words) (word_of words pair) ≡ Some pair
pair_back words pair k =
    let below : delta_of pair < delta_bound words = ltb-true (delta_of pair) (delta_bound words) k.fits in
    (λ i. pair_with (div-mul-add (pair.number / words) (delta_bound words) (delta_of pair) below i * words + pair.number % words) (mod-mul-add (pair.number / words) (delta_bound words) (delta_of pair) below i))
    ∙ ap (λ (p : ℕ). pair_with p (delta_of pair)) (div-add-mod' pair.number words)
    ∙ with_back pair k.positive k.ordered k.few

-- a quotient, a place and a delta below the bound are those of their pair
packed_of : (words place quotient delta word : ℕ) → place < words → delta < delta_bound words → quotient * delta_bound words + delta ≡ word
    → 1 ≤ quotient * words + place → 1 ≤ delta → quotient * words + place + delta ≤ seq_end
    → IsPacked words place word (commit_pair (quotient * words + place) (quotient * words + place + delta - 1))
packed_of words place quotient delta word within below is positive some few =
    let again : (quotient * words + place + delta - 1) - (quotient * words + place) + 1 ≡ delta = omega (arith, some) in
    record {
      may = record {
        positive = positive;
        ordered = omega (arith, some);
        few = omega (arith, some, few);
        fits = ap (λ (d : ℕ). nat_lt d (delta_bound words)) again ∙ lt-ltb delta (delta_bound words) below;
      };
      placed = mod-mul-add quotient words place within;
      packed = (λ i. div-mul-add quotient words place within i * delta_bound words + again i) ∙ is;
    }

-- the pair of a word may be packed, and has this word at this place
pub word_back : (words place word : ℕ) (pair : CommitPair) → place < words → pair_of words place word ≡ Some pair → IsPacked words place word pair
word_back words place word pair within e =
    let k = with_found (word / delta_bound words * words + place) (word % delta_bound words) pair e in
    let parts = pair_parts (word / delta_bound words * words + place) (word % delta_bound words) k.0 in
    let wide : 1 ≤ delta_bound words = omega (arith, within) in
    subst (IsPacked words place word) k.1
    (packed_of words place (word / delta_bound words) (word % delta_bound words) word within (mod-lt word wide) (div-add-mod' word (delta_bound words)) parts.0 parts.1 parts.2)

-- ---- that they fit 64 bits

-- a quotient times the count of words is at most the number
quotient_low : (p words : ℕ) → p / words * words ≤ p
quotient_low p words = omega (arith, div-add-mod' p words)

pub word_small : (words p delta : ℕ) → p + delta ≤ seq_end → 1 ≤ delta → p / words * delta_bound words + delta < 2 ^ 64
word_small words p delta few some = let low = quotient_low p words in omega (arith, low, few, some)
