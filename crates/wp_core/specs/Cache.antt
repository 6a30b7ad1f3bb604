-- The commit cache: N words, of which a version has the one at its number modulo N.
use Rattle.std.specs.Prelude.{ℕ, List, length, slice_index, slice_set, Option}
pub use Rattle.wp_model.specs.CachePlace.{cache_place}
use Rattle.wp_judge.specs.Words.{CommitPair, word_of, pair_of, decision_if}

-- the word at the place of a version
abbrev pub cached_word : List ℕ → ℕ → ℕ
cached_word cache p = slice_index cache (cache_place (length cache) p)

-- the pair at a place of the cache, if the word there is one
abbrev pub pair_at : List ℕ → ℕ → Option CommitPair
pair_at cache place = pair_of (length cache) place (slice_index cache place)

-- the decision that the cache has for a version
abbrev pub cached : List ℕ → ℕ → Option ℕ
cached cache p = decision_if p (pair_at cache (cache_place (length cache) p))

-- the cache once the pair is at its place
abbrev pub with_pair : List ℕ → CommitPair → List ℕ
with_pair cache pair = slice_set cache (cache_place (length cache) pair.number) (word_of (length cache) pair)
