-- Which notes the calls may end.
use Rattle.std.specs.Prelude.{ℕ, ◌==◌, Bool, true}
use Rattle.wp_core.specs.Views.{Fact, passed, in_old_commits, apart, words_stay, none_waits, pair_not_delayed}
use Rattle.wp_shared.specs.Notes.{is_flag}

-- what the bound and the words of the cache are, or that no prepared number waits, or what a flag is
abbrev pub is_of_words : Fact → Bool
is_of_words (words_stay bound words) = true
is_of_words none_waits = true
is_of_words other = is_flag other

-- what a flag is, or that the pending entry's pair is no delayed commit
abbrev pub is_of_delayed : Fact → Bool
is_of_delayed pair_not_delayed = true
is_of_delayed other = is_flag other

-- one of those, or that the pair of the word at this place may go
abbrev pub is_of_place : ℕ → Fact → Bool
is_of_place place (passed i pair) = place == i
is_of_place place (in_old_commits i pair) = place == i
is_of_place place (apart i pair) = place == i
is_of_place place other = is_of_words other
