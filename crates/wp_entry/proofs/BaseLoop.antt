-- Reading carried prepares one after the other, as a loop does.
use Rattle.std.proofs.Common.{◌≡◌, ℕ, suc, ◌-◌, ◌+◌, ◌≤◌, ◌<◌, List, [], ◌∷◌, ◌++◌, Result, Ok, Err, refl, sym, ◌∙◌, arith}
use Rattle.wp_model.specs.declared.carried.Carried.{Carried}
use Rattle.wp_fields.specs.Reading.{◌>>=◌, Fails}
use Rattle.wp_entry.specs.declared.error.RecordError.{RecordError}
use Rattle.wp_entry.specs.declared.error.RecordError.TheVariants.{Memory, Short, BadNumber, BadKind, BadWord, Extra}
use Rattle.wp_entry.specs.Errors.{record_fault}
use Rattle.wp_entry.specs.BaseReading.{carried_at, carried_after}

abbrev Several : Type 0
Several = Result (List Carried × List ℕ) RecordError

-- one prepare more, where some are still to be read
one_more : (count i base last : ℕ) (carried : List Carried) (bytes : List ℕ) → i < count → carried_after (count - i) base last carried bytes ≡ carried_at base last bytes >>= λ x. carried_after (count - (i + 1)) base x.0.number (carried ++ x.0 ∷ []) x.1
unfolding carried_after
one_more count i base last carried bytes lt = let k : count - i ≡ suc (count - (i + 1)) = omega arith in rw k refl

pub one_read : (count i base last : ℕ) (carried : List Carried) (bytes : List ℕ) (next : Carried) (rest : List ℕ) (total : Several) → i < count → carried_at base last bytes ≡ Ok (next, rest)
    → carried_after (count - i) base last carried bytes ≡ total → carried_after (count - (i + 1)) base next.number (carried ++ next ∷ []) rest ≡ total
one_read count i base last carried bytes next rest total lt read so_far =
    let step : carried_after (count - i) base last carried bytes ≡ carried_after (count - (i + 1)) base next.number (carried ++ next ∷ []) rest = one_more count i base last carried bytes lt ∙ rw read refl in
    sym step ∙ so_far

-- a fault of the next prepare is the fault of all
pub fails_as_well : {X Y : Type 0} (error : RecordError) (read : Result X RecordError) (total : Result Y RecordError) → Fails record_fault error read → (read ≡ Err error → total ≡ Err error) → Fails record_fault error total
fails_as_well Memory read total f on = tt
fails_as_well Short read total f on = on f
fails_as_well (BadNumber found due) read total f on = on f
fails_as_well (BadKind byte) read total f on = on f
fails_as_well BadWord read total f on = on f
fails_as_well (Extra more) read total f on = on f

pub one_fails : (count i base last : ℕ) (carried : List Carried) (bytes : List ℕ) (error : RecordError) (total : Several) → i < count → Fails record_fault error (carried_at base last bytes)
    → carried_after (count - i) base last carried bytes ≡ total → Fails record_fault error total
one_fails count i base last carried bytes error total lt read so_far =
    fails_as_well error (carried_at base last bytes) total read (λ e. sym so_far ∙ one_more count i base last carried bytes lt ∙ rw e refl)

pub all_read : (count i base last : ℕ) (carried : List Carried) (bytes : List ℕ) (total : Several) → count ≤ i → carried_after (count - i) base last carried bytes ≡ total → total ≡ Ok (carried, bytes)
unfolding carried_after
all_read count i base last carried bytes total le so_far = let k : count - i ≡ 0 = omega arith in sym so_far ∙ rw k refl
