-- The words of the commit cache. Definitions that speak of one take how many words the cache has.
use Rattle.std.specs.Prelude.{◌≡◌, ℕ, ◌/◌, ◌%◌, ◌*◌, ◌+◌, ◌-◌, ◌^◌, ◌<◌, ◌≤◌, ◌==◌, ◌&&◌, nat_le, nat_lt, Bool, true, Option, Some, None, if◌then◌else◌}

-- each number of a version or an entry is below this in the words and tables
abbrev pub seq_end : ℕ
seq_end = 2 ^ 56

-- The version with this number is decided by the entry with that one. A Write and an Undo decide themselves; a Prepare is
-- decided by its Commit or its Close.
pub record CommitPair : Type 0 where
  pub number : ℕ
  pub decision : ℕ

-- the version with the first number is decided by the entry with the second
abbrev pub commit_pair : ℕ → ℕ → CommitPair
commit_pair p c = record { number = p; decision = c }

-- how far the decision is behind the number, and one more: so no pair has the delta 0
abbrev pub delta_of : CommitPair → ℕ
delta_of pair = pair.decision - pair.number + 1

-- each delta in a word is below this
abbrev pub delta_bound : ℕ → ℕ
delta_bound words = 2 ^ 8 * words

-- the pair fits a word: the two numbers are near enough
abbrev pub fits : ℕ → CommitPair → Bool
fits words pair = nat_lt (delta_of pair) (delta_bound words)

-- The word of a pair that fits. It stands at the place of its number modulo the count of words; the word has the quotient, and then the
-- delta.
abbrev pub word_of : ℕ → CommitPair → ℕ
word_of words pair = pair.number / words * delta_bound words + delta_of pair

-- some pair has this number and this delta: no version has the number 0, and no number is too great
abbrev pub is_pair : ℕ → ℕ → Bool
is_pair p delta = (nat_le 1 p && nat_le 1 delta) && nat_le (p + delta) seq_end

abbrev pub pair_with : ℕ → ℕ → Option CommitPair
pair_with p delta = if is_pair p delta then Some (commit_pair p (p + delta - 1)) else None

-- the pair of the word at a place: none where no pair has this word there, as for the empty word 0
abbrev pub pair_of : ℕ → ℕ → ℕ → Option CommitPair
pair_of words place word = pair_with (word / delta_bound words * words + place) (word % delta_bound words)

-- the pair may be packed
pub record MayBePacked (words : ℕ) (pair : CommitPair) : Type 0 where
  pub positive : 1 ≤ pair.number
  pub ordered : pair.number ≤ pair.decision
  pub few : pair.decision < seq_end
  pub fits : fits words pair ≡ true

-- it has this place, and this word
pub record IsPacked (words place word : ℕ) (pair : CommitPair) : Type 0 where
  pub may : MayBePacked words pair
  pub placed : pair.number % words ≡ place
  pub packed : word_of words pair ≡ word

abbrev pub numbers_of : CommitPair → ℕ × ℕ
numbers_of pair = (pair.number, pair.decision)

abbrev pub decision_if : ℕ → Option CommitPair → Option ℕ
decision_if p None = None
decision_if p (Some pair) = if pair.number == p then Some pair.decision else None

-- the decision that the word at a version's place has for it, if the word is the version's
abbrev pub decision_in_word : ℕ → ℕ → ℕ → Option ℕ
decision_in_word words p word = decision_if p (pair_of words (p % words) word)
