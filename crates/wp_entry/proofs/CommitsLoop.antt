-- Reading Commits one after the other, as a loop does.
use Rattle.std.proofs.Common.{◌≡◌, ℕ, suc, ◌-◌, ◌+◌, ◌≤◌, ◌<◌, List, [], ◌∷◌, ◌++◌, Ok, refl, sym, ◌∙◌, arith}
use Rattle.wp_model.specs.declared.entry.Entry.{Entry}
use Rattle.wp_model.specs.declared.entry.Entry.TheVariants.{Commit}
use Rattle.wp_fields.specs.declared.format.Format.{Format}
use Rattle.wp_fields.specs.Reading.{◌>>=◌, Fails}
use Rattle.wp_entry.specs.declared.error.RecordError.{RecordError}
use Rattle.wp_entry.specs.Errors.{record_fault}
use Rattle.wp_entry.specs.Reading.{earlier_at, commits_after}
use Rattle.wp_entry.proofs.BaseLoop.{fails_as_well}
use Rattle.wp_entry.proofs.Grammar.{Entries, commits_behind}

-- one Commit more, where some are still to be read
one_more : (count i : ℕ) (format : Format) (due : ℕ) (commits : List Entry) (bytes : List ℕ) → i < count → commits_after (count - i) format due commits bytes ≡ earlier_at format due bytes >>= commits_behind (count - (i + 1)) format due commits
unfolding commits_after
one_more count i format due commits bytes lt = let k : count - i ≡ suc (count - (i + 1)) = omega arith in rw k refl

pub commit_read : (count i : ℕ) (format : Format) (due : ℕ) (commits : List Entry) (bytes : List ℕ) (p : ℕ) (rest : List ℕ) (total : Entries) → i < count → earlier_at format due bytes ≡ Ok (p, rest)
    → commits_after (count - i) format due commits bytes ≡ total → commits_after (count - (i + 1)) format due (commits ++ Commit p ∷ []) rest ≡ total
commit_read count i format due commits bytes p rest total lt read so_far =
    let step : commits_after (count - i) format due commits bytes ≡ commits_after (count - (i + 1)) format due (commits ++ Commit p ∷ []) rest = one_more count i format due commits bytes lt ∙ rw read refl in
    sym step ∙ so_far

pub commit_fails : (count i : ℕ) (format : Format) (due : ℕ) (commits : List Entry) (bytes : List ℕ) (error : RecordError) (total : Entries) → i < count → Fails record_fault error (earlier_at format due bytes)
    → commits_after (count - i) format due commits bytes ≡ total → Fails record_fault error total
commit_fails count i format due commits bytes error total lt read so_far =
    fails_as_well error (earlier_at format due bytes) total read (λ e. sym so_far ∙ one_more count i format due commits bytes lt ∙ rw e refl)

pub commits_read : (count i : ℕ) (format : Format) (due : ℕ) (commits : List Entry) (bytes : List ℕ) (total : Entries) → count ≤ i → commits_after (count - i) format due commits bytes ≡ total → total ≡ Ok (commits, bytes)
unfolding commits_after
commits_read count i format due commits bytes total le so_far = let k : count - i ≡ 0 = omega arith in sym so_far ∙ rw k refl
