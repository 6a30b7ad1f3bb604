-- What an entry more leaves undecided, and what it undoes.
use Rattle.std.specs.Prelude.{ℕ, ◌<◌, ◌==◌, not, List, [], ◌∷◌, ◌++◌, Option}
use Rattle.std.specs.List.{AllByRecursion, filter}
use Rattle.wp_model.specs.declared.entry.Entry.{Entry}
use Rattle.wp_model.specs.declared.entry.Entry.TheVariants.{Write, Prepare, Commit, Undo, Close}
use Rattle.wp_model.specs.Legal.{undone_last}

-- each number is below all that follow it
abbrev pub AreAscending : List ℕ → Type 0
AreAscending [] = Unit {0}
AreAscending (p ∷ ps) = AllByRecursion (λ q. p < q) ps × AreAscending ps

-- the numbers but for this one
abbrev pub without_decided : List ℕ → ℕ → List ℕ
without_decided numbers p = filter (λ q. not (q == p)) numbers

-- The numbers of the undecided prepares once an entry with the number n follows: a Prepare adds its own, and a
-- Commit or a Close takes out the one that it names.
abbrev pub undecided_after : List ℕ → ℕ → Entry → List ℕ
undecided_after numbers n (Write batch) = numbers
undecided_after numbers n (Prepare name batch) = numbers ++ n ∷ []
undecided_after numbers n (Commit p) = without_decided numbers p
undecided_after numbers n (Undo p batch) = numbers
undecided_after numbers n (Close p) = without_decided numbers p

-- the prepare that an entry undoes, if it undoes one
abbrev pub undone_by : Entry → Option ℕ
undone_by entry = undone_last (entry ∷ [])
