-- Reading the changes of a batch one after the other, as a loop does.
use Rattle.std.proofs.Common.{◌≡◌, ℕ, suc, ◌-◌, ◌+◌, ◌≤◌, ◌<◌, List, [], ◌∷◌, ◌++◌, Result, Ok, Err, refl, sym, ◌∙◌, arith}
use Rattle.wp_model.specs.declared.change.Change.{Change}
use Rattle.wp_fields.specs.Reading.{◌>>=◌, Fails}
use Rattle.wp_encoding.specs.declared.error.EncodingError.{EncodingError}
use Rattle.wp_encoding.specs.declared.error.EncodingError.TheVariants.{Memory, Short, Kind, Word}
use Rattle.wp_encoding.specs.Errors.{encoding_fault}
use Rattle.wp_encoding.specs.Reading.{next_change_at, changes_after}

abbrev Changes : Type 0
Changes = Result (List Change × List ℕ) EncodingError

-- one change more, where some are still to be read
one_more : (count i : ℕ) (batch : List Change) (bytes : List ℕ) → i < count → changes_after (count - i) batch bytes ≡ next_change_at batch bytes >>= λ x. changes_after (count - (i + 1)) (batch ++ x.0 ∷ []) x.1
unfolding changes_after
one_more count i batch bytes lt = let k : count - i ≡ suc (count - (i + 1)) = omega arith in rw k refl

pub change_read : (count i : ℕ) (batch : List Change) (bytes : List ℕ) (change : Change) (rest : List ℕ) (total : Changes) → i < count → next_change_at batch bytes ≡ Ok (change, rest)
    → changes_after (count - i) batch bytes ≡ total → changes_after (count - (i + 1)) (batch ++ change ∷ []) rest ≡ total
change_read count i batch bytes change rest total lt read so_far =
    let step : changes_after (count - i) batch bytes ≡ changes_after (count - (i + 1)) (batch ++ change ∷ []) rest = one_more count i batch bytes lt ∙ rw read refl in
    sym step ∙ so_far

-- a fault of the next change is the fault of all
fails_as_well : {X Y : Type 0} (error : EncodingError) (read : Result X EncodingError) (total : Result Y EncodingError) → Fails encoding_fault error read → (read ≡ Err error → total ≡ Err error) → Fails encoding_fault error total
fails_as_well Memory read total f on = tt
fails_as_well Short read total f on = on f
fails_as_well (Kind byte) read total f on = on f
fails_as_well Word read total f on = on f

pub change_fails : (count i : ℕ) (batch : List Change) (bytes : List ℕ) (error : EncodingError) (total : Changes) → i < count → Fails encoding_fault error (next_change_at batch bytes)
    → changes_after (count - i) batch bytes ≡ total → Fails encoding_fault error total
change_fails count i batch bytes error total lt read so_far =
    fails_as_well error (next_change_at batch bytes) total read (λ e. sym so_far ∙ one_more count i batch bytes lt ∙ rw e refl)

pub all_read : (count i : ℕ) (batch : List Change) (bytes : List ℕ) (total : Changes) → count ≤ i → changes_after (count - i) batch bytes ≡ total → total ≡ Ok (batch, bytes)
unfolding changes_after
all_read count i batch bytes total le so_far = let k : count - i ≡ 0 = omega arith in sym so_far ∙ rw k refl
