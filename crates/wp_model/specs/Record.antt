-- Which lists of entries share one record of the log: the only list of such shapes.
use Rattle.std.specs.Prelude.{◌≡◌, ◌<◌, List, [], ◌∷◌, length}
use Rattle.wp_model.specs.declared.entry.Entry.{Entry}
use Rattle.wp_model.specs.declared.entry.Entry.TheVariants.{Commit, Undo, Close}
use Rattle.wp_model.specs.declared.entry.TheConstants.{MOST_COMMITS}

-- nothing but Commits
abbrev pub AreCommits : List Entry → Type 0
AreCommits [] = Unit {0}
AreCommits (Commit p ∷ others) = AreCommits others
AreCommits others = ⊥

-- one entry, an Undo with its Close, or a group of Commits
abbrev pub IsOneRecord : List Entry → Type 0
IsOneRecord (Undo p batch ∷ Close q ∷ []) = p ≡ q
IsOneRecord (Undo p batch ∷ others) = ⊥
IsOneRecord (Close p ∷ others) = ⊥
IsOneRecord (Commit p ∷ others) = AreCommits others × (length others < MOST_COMMITS)
IsOneRecord (entry ∷ []) = Unit {0}
IsOneRecord others = ⊥
