-- What a base carries of a history that is cut at its end.
use Rattle.std.proofs.Common.{◌≡◌, ℕ, ◌<◌, ◌≤◌, List, [], ◌∷◌, length, map, None, arith}
use Rattle.std.specs.List.{AllByRecursion}
use Rattle.wp_model.specs.declared.carried.Carried.{Carried}
use Rattle.wp_model.specs.declared.entry.Entry.{Entry}
use Rattle.wp_model.specs.Legal.{undone_last}
use Rattle.wp_cuts.specs.Cut.{carried_of}
use Rattle.wp_cuts.proofs.Growing.{cut_at_end}
use Rattle.wp_cuts.proofs.Standing.{cut_numbered}
use Rattle.wp_history_laws.specs.Growth.{AreAscending}
use Rattle.wp_entry.specs.Base.{AscendUpTo}

abbrev number_of : Carried → ℕ
number_of x = x.number

above_none : (base : ℕ) (xs : List Carried) → AllByRecursion (λ (x : Carried). (1 ≤ x.number) × (x.number ≤ base)) xs → AllByRecursion (λ q. 0 < q) (map number_of xs)
above_none base [] within = tt
above_none base (x ∷ xs) within = (omega (arith, within.0.0), above_none base xs within.1)

ascend_up : (base last : ℕ) (xs : List Carried) → AllByRecursion (λ q. last < q) (map number_of xs) → AreAscending (map number_of xs) → AllByRecursion (λ (x : Carried). (1 ≤ x.number) × (x.number ≤ base)) xs → AscendUpTo base last xs
ascend_up base last [] above ascend within = tt
ascend_up base last (x ∷ xs) above ascend within = (above.0, within.0.1, ascend_up base x.number xs ascend.0 ascend.1 within.1)

-- what is undecided at the end of a history ascends up to there, where it does not end with an undo
pub carried_ascend : (history : List Entry) → undone_last history ≡ None → AscendUpTo (length history) 0 (carried_of history)
carried_ascend history whole =
    let n = cut_numbered history (record { base = length history; carried = carried_of history; entries = [] }) (cut_at_end history whole) in
    ascend_up (length history) 0 (carried_of history) (above_none (length history) (carried_of history) n.within) n.ascend n.within
