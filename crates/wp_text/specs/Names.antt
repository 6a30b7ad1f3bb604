-- The names of the transactions that one command settles.
use Rattle.std.specs.Prelude.{ℕ, Bool, true, not, ◌&&◌, nat_le, List, [], ◌∷◌, length}
use Rattle.std.specs.List.{list_any}
use Rattle.std.specs.Str.{bytes_eq}
use Rattle.wp_model.specs.declared.entry.TheConstants.{MOST_COMMITS}

-- no word comes twice
abbrev pub are_distinct : List (List ℕ) → Bool
are_distinct [] = true
are_distinct (word ∷ words) = not (list_any (bytes_eq word) words) && are_distinct words

-- as many as one command may have, none twice
abbrev pub may_be_settled : List (List ℕ) → Bool
may_be_settled words = nat_le 1 (length words) && nat_le (length words) MOST_COMMITS && are_distinct words
