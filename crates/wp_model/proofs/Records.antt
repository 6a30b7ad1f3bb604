-- What lists of entries are that share a record.
use Rattle.std.proofs.Common.{◌≡◌, ◌≢◌, ℕ, ◌≤◌, List, [], ◌∷◌, map, length, None, refl, arith}
use Rattle.std.proofs.lemmas.List.{length-map}
use Rattle.wp_model.specs.declared.entry.Entry.{Entry}
use Rattle.wp_model.specs.declared.entry.Entry.TheVariants.{Write, Prepare, Commit, Undo, Close}
use Rattle.wp_model.specs.Legal.{undone_last}
use Rattle.wp_model.specs.declared.entry.TheConstants.{MOST_COMMITS}
use Rattle.wp_model.specs.Record.{AreCommits, IsOneRecord}

pub one_some : (entries : List Entry) → IsOneRecord entries → entries ≢ []
one_some [] one e = absurd one
one_some (entry ∷ others) one e = absurd cc

commits_of : (numbers : List ℕ) → AreCommits (map (λ p. Commit p) numbers)
commits_of [] = tt
commits_of (p ∷ numbers) = commits_of numbers

-- the Commits of so many numbers share one
pub commits_share : (numbers : List ℕ) → 1 ≤ length numbers → length numbers ≤ MOST_COMMITS → IsOneRecord (map (λ p. Commit p) numbers)
commits_share [] some few = absurd (omega (arith, some))
commits_share (p ∷ numbers) some few = let long = length-map numbers (λ q. Commit q) in (commits_of numbers, omega (arith, few, long))

pub one_short : (entries : List Entry) → IsOneRecord entries → length entries ≤ MOST_COMMITS
one_short (Commit p ∷ others) one = let few = one.1 in omega (arith, few)
one_short (Undo p batch ∷ Close q ∷ []) one = omega arith
one_short (entry ∷ []) one = omega arith
one_short others one = absurd one

commits_close : (p : ℕ) (others : List Entry) → AreCommits others → undone_last (Commit p ∷ others) ≡ None
commits_close p [] are = refl
commits_close p (Commit q ∷ others) are = commits_close q others are
commits_close p others are = absurd are

-- it ends in no Undo
pub one_closes : (entries : List Entry) → IsOneRecord entries → undone_last entries ≡ None
one_closes (Write batch ∷ []) one = refl
one_closes (Prepare name batch ∷ []) one = refl
one_closes (Commit p ∷ others) one = commits_close p others one.0
one_closes (Undo p batch ∷ Close q ∷ []) one = refl
one_closes others one = absurd one
