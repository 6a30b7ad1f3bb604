-- The runs: the needs of what is done one after another, and what is so at the end.
use Rattle.std.proofs.Common.{◌≡◌, inl, ℕ, nat_le, not, Bool, true, false, true≢false, List, [], ◌∷◌, ◌++◌, Some, refl, sym, ap, ◌∙◌}
use Rattle.std.specs.Ordering.{nat_cmp}
use Rattle.std.specs.FinMap as finite
use Rattle.std.specs.FinSet as set
use Rattle.wp_judge.specs.declared.observed.InPrepared.{InPrepared}
use Rattle.wp_judge.specs.declared.observed.InPrepared.TheVariants.{Delayed}
use Rattle.wp_judge.specs.declared.observed.Observed.{Observed}
use Rattle.wp_judge.specs.declared.observed.Load.TheVariants.{FirstWord, FirstMax, SecondMax, IsOldCommit}
use Rattle.wp_judge.specs.declared.observed.Load.TheVariants as load
use Rattle.wp_judge.specs.Order.{judgement}
use Rattle.wp_core.specs.Changes.{found_in}
use Rattle.wp_core.specs.Reading.{reads}
use Rattle.wp_core.specs.Steps.{Step}
use Rattle.wp_core.specs.World.{World}
use Rattle.wp_machine_permits.specs.Ends.{HasCommitted, HasRolledBack, HasKept, HasFlushed, IsDecidedBy}
use Rattle.wp_machine_permits.specs.Leads.{CanLead}
use Rattle.wp_machine_permits.specs.Runs.{prepare, commit, free, undo, register, delay, write, keep, overwrite, flush, look, look_at_bound, look_into_prepared, look_again, look_into_old_commits}
use Rattle.wp_machine_permits.proofs.Leading.{after, AreMet, ◌▹◌, opening, met_on, can_lead}
use Rattle.wp_machine_permits.proofs.Tables.{no_numbers, no_snapshots, one_live, one_kept, kept_under_1, kept_1, still_live_1, none_live, delayed_1}
use Rattle.wp_machine_permits.proofs.Writers.{prepared_world, committed_world, snapshot_1, prepare_met, commit_met, free_met, undo_met, free_undone_met, delay_met, write_met, keep_met, overwrite_met, flush_met}

-- after what was met so far
abbrev from_prepared : (steps : List Step) (P : World → Type 0) → AreMet steps prepared_world → P (after steps prepared_world) → CanLead (prepare ++ steps) P
from_prepared steps P met so = can_lead (prepare ++ steps) P (met_on prepare steps opening prepare_met met) so

-- ---- writers

pub commits : CanLead (prepare ++ commit ++ free) HasCommitted
commits = from_prepared (commit ++ free) HasCommitted (met_on commit free prepared_world (commit_met no_snapshots []) free_met) (refl, refl)

pub rolls_back : CanLead (prepare ++ undo ++ free) HasRolledBack
rolls_back = from_prepared (undo ++ free) HasRolledBack (met_on undo free prepared_world undo_met free_undone_met) (refl, refl)

pub flushes : CanLead (prepare ++ commit ++ flush) HasFlushed
flushes = from_prepared (commit ++ flush) HasFlushed (met_on commit flush prepared_world (commit_met no_snapshots []) flush_met) (record { last = refl; tables = refl; memory_is = refl; free = refl })

-- a snapshot is registered where no version is kept
register_met : AreMet register prepared_world
register_met =
    (refl, (refl, refl))
    ▹ (refl, (refl, inl refl))
    ▹ (refl, (refl, λ _. refl))
    ▹ tt

abbrev evicted : List Step
evicted = write ++ keep ++ overwrite

abbrev kept_world : World
kept_world = after evicted (committed_world one_live 0 (snapshot_1 ∷ []))

evicted_met : AreMet (commit ++ evicted) (after register prepared_world)
evicted_met =
    met_on commit evicted (after register prepared_world) (commit_met one_live (snapshot_1 ∷ []))
    (met_on write (keep ++ overwrite) (committed_world one_live 0 (snapshot_1 ∷ [])) (write_met one_live 0 (snapshot_1 ∷ []))
    (met_on keep overwrite (after write (committed_world one_live 0 (snapshot_1 ∷ []))) keep_met (overwrite_met one_kept 1 (snapshot_1 ∷ []) kept_under_1)))

pub keeps : CanLead (prepare ++ register ++ commit ++ write ++ keep ++ overwrite) HasKept
keeps = from_prepared (register ++ commit ++ evicted) HasKept (met_on register (commit ++ evicted) prepared_world register_met evicted_met) (record { committed = refl; evicted = refl; live = still_live_1; kept = kept_1; free = refl })

-- ---- readers

pub by_word : CanLead (prepare ++ commit ++ register ++ look 2) (IsDecidedBy FirstWord true)
by_word =
    let looks : AreMet (register ++ look 2) (after commit prepared_world) =
    (refl, (refl, refl))
    ▹ (refl, (refl, inl refl))
    ▹ (refl, (refl, λ _. refl))
    ▹ (refl, (refl, inl refl, λ _. refl))
    ▹ (refl, (_, refl, refl, tt))
    ▹ tt
    in
    from_prepared (commit ++ register ++ look 2) (IsDecidedBy FirstWord true) (met_on commit (register ++ look 2) prepared_world (commit_met no_snapshots []) looks) (_, _, refl, refl, refl, refl)

pub above_bound : CanLead (prepare ++ register ++ look 1 ++ look_at_bound) (IsDecidedBy FirstMax false)
above_bound =
    let looks : AreMet (look 1 ++ look_at_bound) (after register prepared_world) =
    (refl, (refl, inl refl, λ _. refl))
    ▹ (refl, (_, refl, refl, tt))
    ▹ (refl, (_, refl, refl, tt))
    ▹ tt
    in
    from_prepared (register ++ look 1 ++ look_at_bound) (IsDecidedBy FirstMax false) (met_on register (look 1 ++ look_at_bound) prepared_world register_met looks) (_, _, refl, refl, refl, refl)

abbrev no_commits : finite.FinMap nat_cmp ℕ
no_commits = finite.empty

-- what was loaded before
abbrev looked_before : Observed
looked_before = record (reads 1 1 snapshot_1) { first_word = Some 0; first_max = Some 1; delayed_flag = Some 1 }

is_delayed : found_in (set.contains (set.union no_numbers (set.retain (set.insert no_numbers 1) (λ q. nat_le q 1))) 1) (finite.get no_commits 1) ≡ Delayed
is_delayed = λ i. found_in (delayed_1 i) (finite.get-empty nat_cmp 1 i)

pub by_prepared : CanLead (prepare ++ register ++ delay ++ look 1 ++ look_at_bound ++ look_into_prepared) (IsDecidedBy load.InPrepared false)
by_prepared =
    let looks : AreMet (look 1 ++ look_at_bound ++ look_into_prepared) (after delay (after register prepared_world)) =
    (refl, (refl, inl refl, λ _. refl))
    ▹ (refl, (_, refl, refl, tt))
    ▹ (refl, (_, refl, refl, tt))
    ▹ (refl, (_, refl, refl, tt))
    ▹ (refl, (refl, refl))
    ▹ (refl, (_, refl, refl, refl))
    ▹ (refl, (refl, λ none. absurd (true≢false (sym delayed_1 ∙ none.0 1))))
    ▹ tt
    in
    from_prepared (register ++ delay ++ look 1 ++ look_at_bound ++ look_into_prepared) (IsDecidedBy load.InPrepared false)
    (met_on register (delay ++ look 1 ++ look_at_bound ++ look_into_prepared) prepared_world register_met (met_on delay (look 1 ++ look_at_bound ++ look_into_prepared) (after register prepared_world) delay_met looks))
    (_, _, refl, refl, ap (λ (x : InPrepared). judgement (record looked_before { in_prepared = Some x })) is_delayed, refl)

pub below_bound : CanLead (prepare ++ commit ++ write ++ overwrite ++ register ++ look 3 ++ look_at_bound ++ look_again) (IsDecidedBy SecondMax true)
below_bound =
    let before : World = committed_world no_snapshots 0 [] in
    let looks : AreMet (register ++ look 3 ++ look_at_bound ++ look_again) (after overwrite (after write before)) =
    (refl, (refl, refl))
    ▹ (refl, (refl, inl refl))
    ▹ (refl, (refl, λ _. refl))
    ▹ (refl, (refl, inl refl, λ _. refl))
    ▹ (refl, (_, refl, refl, tt))
    ▹ (refl, (_, refl, refl, tt))
    ▹ (refl, (_, refl, refl, tt))
    ▹ (refl, (_, refl, refl, tt))
    ▹ (refl, (_, refl, refl, tt))
    ▹ tt
    in
    from_prepared (commit ++ write ++ overwrite ++ register ++ look 3 ++ look_at_bound ++ look_again) (IsDecidedBy SecondMax true)
    (met_on commit (write ++ overwrite ++ register ++ look 3 ++ look_at_bound ++ look_again) prepared_world (commit_met no_snapshots [])
    (met_on write (overwrite ++ register ++ look 3 ++ look_at_bound ++ look_again) before (write_met no_snapshots 0 [])
    (met_on overwrite (register ++ look 3 ++ look_at_bound ++ look_again) (after write before) (overwrite_met no_snapshots 0 [] none_live) looks)))
    (_, _, refl, refl, refl, refl)

pub by_old_commits : CanLead (prepare ++ register ++ commit ++ write ++ keep ++ overwrite ++ look 1 ++ look_at_bound ++ look_again ++ look_into_old_commits) (IsDecidedBy IsOldCommit false)
by_old_commits =
    let looks : AreMet (look 1 ++ look_at_bound ++ look_again ++ look_into_old_commits) kept_world =
    (refl, (refl, inl refl, λ _. refl))
    ▹ (refl, (_, refl, refl, tt))
    ▹ (refl, (_, refl, refl, tt))
    ▹ (refl, (_, refl, refl, tt))
    ▹ (refl, (_, refl, refl, tt))
    ▹ (refl, (_, refl, refl, tt))
    ▹ (refl, (_, refl, refl, tt))
    ▹ (refl, (refl, refl))
    ▹ (refl, (_, refl, refl, refl))
    ▹ (refl, (refl, λ none. absurd (true≢false (sym kept_1 ∙ none 1 1))))
    ▹ tt
    in
    from_prepared (register ++ commit ++ evicted ++ look 1 ++ look_at_bound ++ look_again ++ look_into_old_commits) (IsDecidedBy IsOldCommit false)
    (met_on register (commit ++ evicted ++ look 1 ++ look_at_bound ++ look_again ++ look_into_old_commits) prepared_world register_met
    (met_on (commit ++ evicted) (look 1 ++ look_at_bound ++ look_again ++ look_into_old_commits) (after register prepared_world) evicted_met looks))
    (_, _, refl, refl, ap (λ (b : Bool). Some (not b)) kept_1, refl)
