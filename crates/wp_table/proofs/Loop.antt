-- Reading versions, blocks and places one after the other, as a loop does.
use Rattle.std.proofs.Common.{◌≡◌, ℕ, suc, ◌-◌, ◌+◌, ◌≤◌, ◌<◌, min, List, [], ◌∷◌, ◌++◌, length, get_or, drop, drop-cons, Option, Some, Result, Ok, Err, refl, sym, ap, ◌∙◌, arith}
use Rattle.std.proofs.lemmas.List.{drop_all}
use Rattle.wp_model.specs.declared.version.Version.{Version}
use Rattle.wp_fields.specs.Reading.{◌>>=◌, Fails}
use Rattle.wp_fields.specs.declared.format.Format.{Format}
use Rattle.wp_table.specs.declared.layout.TheConstants.{BLOCK}
use Rattle.wp_table.specs.declared.error.TableError.{TableError}
use Rattle.wp_table.specs.declared.error.TableError.TheVariants.{Memory, Short, Head, Stranger, Count, Word, Number, Order, Index, Extra}
use Rattle.wp_table.specs.Errors.{table_fault}
use Rattle.wp_table.specs.Reading.{next_version_at, after_place, after_places}
use Rattle.wp_table.specs.Judging.{last_after, last_of_block, places_after}

-- a fault of the next step is the fault of all
pub fails_as_well : {X Y : Type 0} (error : TableError) (read : Result X TableError) (total : Result Y TableError) → Fails table_fault error read → (read ≡ Err error → total ≡ Err error) → Fails table_fault error total
fails_as_well Memory read total f on = tt
fails_as_well Short read total f on = on f
fails_as_well Head read total f on = on f
fails_as_well (Stranger id) read total f on = on f
fails_as_well Count read total f on = on f
fails_as_well Word read total f on = on f
fails_as_well Number read total f on = on f
fails_as_well Order read total f on = on f
fails_as_well Index read total f on = on f
fails_as_well Extra read total f on = on f

-- ---- versions

abbrev Last : Type 0
Last = Result (Option Version × List ℕ) TableError

one_version : (format : Format) (count i flushed : ℕ) (last : Option Version) (bytes : List ℕ) → i < count → last_after format (count - i) flushed last bytes ≡ next_version_at format flushed last bytes >>= λ x. last_after format (count - (i + 1)) flushed (Some x.0) x.1
unfolding last_after
one_version format count i flushed last bytes lt = let k : count - i ≡ suc (count - (i + 1)) = omega arith in rw k refl

pub version_read : (format : Format) (count i flushed : ℕ) (last : Option Version) (bytes : List ℕ) (version : Version) (rest : List ℕ) (total : Last) → i < count → next_version_at format flushed last bytes ≡ Ok (version, rest)
    → last_after format (count - i) flushed last bytes ≡ total → last_after format (count - (i + 1)) flushed (Some version) rest ≡ total
version_read format count i flushed last bytes version rest total lt read so_far =
    let step : last_after format (count - i) flushed last bytes ≡ last_after format (count - (i + 1)) flushed (Some version) rest = one_version format count i flushed last bytes lt ∙ rw read refl in
    sym step ∙ so_far

pub version_fails : (format : Format) (count i flushed : ℕ) (last : Option Version) (bytes : List ℕ) (error : TableError) (total : Last) → i < count → Fails table_fault error (next_version_at format flushed last bytes)
    → last_after format (count - i) flushed last bytes ≡ total → Fails table_fault error total
version_fails format count i flushed last bytes error total lt read so_far =
    fails_as_well error (next_version_at format flushed last bytes) total read (λ e. sym so_far ∙ one_version format count i flushed last bytes lt ∙ rw e refl)

pub versions_read : (format : Format) (count i flushed : ℕ) (last : Option Version) (bytes : List ℕ) (total : Last) → count ≤ i → last_after format (count - i) flushed last bytes ≡ total → total ≡ Ok (last, bytes)
unfolding last_after
versions_read format count i flushed last bytes total le so_far = let k : count - i ≡ 0 = omega arith in sym so_far ∙ rw k refl

-- ---- blocks

abbrev Places : Type 0
Places = Result (List ℕ × List ℕ) TableError

one_block : (format : Format) (count i size flushed left : ℕ) (last : Option Version) (places bytes : List ℕ) → i < count
    → places_after format (count - i) size flushed left last places bytes ≡ last_of_block format (min left BLOCK) flushed last bytes >>= λ x. places_after format (count - (i + 1)) size flushed (left - min left BLOCK) x.0 (places ++ (size - length bytes) ∷ []) x.1
unfolding places_after
one_block format count i size flushed left last places bytes lt = let k : count - i ≡ suc (count - (i + 1)) = omega arith in rw k refl

pub block_read : (format : Format) (count i size flushed left : ℕ) (last : Option Version) (places bytes : List ℕ) (found : Option Version × List ℕ) (total : Places) → i < count → last_of_block format (min left BLOCK) flushed last bytes ≡ Ok found
    → places_after format (count - i) size flushed left last places bytes ≡ total → places_after format (count - (i + 1)) size flushed (left - min left BLOCK) found.0 (places ++ (size - length bytes) ∷ []) found.1 ≡ total
block_read format count i size flushed left last places bytes found total lt read so_far =
    let step : places_after format (count - i) size flushed left last places bytes ≡ places_after format (count - (i + 1)) size flushed (left - min left BLOCK) found.0 (places ++ (size - length bytes) ∷ []) found.1 =
    one_block format count i size flushed left last places bytes lt ∙ rw read refl in
    sym step ∙ so_far

pub block_fails : (format : Format) (count i size flushed left : ℕ) (last : Option Version) (places bytes : List ℕ) (error : TableError) (total : Places) → i < count → Fails table_fault error (last_of_block format (min left BLOCK) flushed last bytes)
    → places_after format (count - i) size flushed left last places bytes ≡ total → Fails table_fault error total
block_fails format count i size flushed left last places bytes error total lt read so_far =
    fails_as_well error (last_of_block format (min left BLOCK) flushed last bytes) total read (λ e. sym so_far ∙ one_block format count i size flushed left last places bytes lt ∙ rw e refl)

pub blocks_read : (format : Format) (count i size flushed left : ℕ) (last : Option Version) (places bytes : List ℕ) (total : Places) → count ≤ i → places_after format (count - i) size flushed left last places bytes ≡ total → total ≡ Ok (places, bytes)
unfolding places_after
blocks_read format count i size flushed left last places bytes total le so_far = let k : count - i ≡ 0 = omega arith in sym so_far ∙ rw k refl

-- ---- places

one_place : (places : List ℕ) (i : ℕ) (bytes : List ℕ) → i < length places → after_places (drop i places) bytes ≡ after_place (get_or places i 0) bytes >>= after_places (drop (i + 1) places)
unfolding after_places
one_place places i bytes lt =
    let next : suc i ≡ i + 1 = omega arith in
    let split : drop i places ≡ get_or places i 0 ∷ drop (i + 1) places = drop-cons places i 0 lt ∙ ap (λ (n : ℕ). get_or places i 0 ∷ drop n places) next in
    rw split refl

pub place_read : (places : List ℕ) (i : ℕ) (bytes rest : List ℕ) (total : Result (List ℕ) TableError) → i < length places → after_place (get_or places i 0) bytes ≡ Ok rest
    → after_places (drop i places) bytes ≡ total → after_places (drop (i + 1) places) rest ≡ total
place_read places i bytes rest total lt read so_far =
    let step : after_places (drop i places) bytes ≡ after_places (drop (i + 1) places) rest = one_place places i bytes lt ∙ rw read refl in
    sym step ∙ so_far

pub place_fails : (places : List ℕ) (i : ℕ) (bytes : List ℕ) (error : TableError) (total : Result (List ℕ) TableError) → i < length places → Fails table_fault error (after_place (get_or places i 0) bytes)
    → after_places (drop i places) bytes ≡ total → Fails table_fault error total
place_fails places i bytes error total lt read so_far =
    fails_as_well error (after_place (get_or places i 0) bytes) total read (λ e. sym so_far ∙ one_place places i bytes lt ∙ rw e refl)

pub places_read : (places : List ℕ) (i : ℕ) (bytes : List ℕ) (total : Result (List ℕ) TableError) → length places ≤ i → after_places (drop i places) bytes ≡ total → total ≡ Ok bytes
unfolding after_places
places_read places i bytes total le so_far = sym so_far ∙ rw (drop_all i places le) refl
