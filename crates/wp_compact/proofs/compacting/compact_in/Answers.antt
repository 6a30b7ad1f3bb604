use Rattle.std.proofs.Common.{[], ◌∷◌, Some, refl, arith, sym, ◌∙◌}
use Rattle.wp_core.specs.States.{installed}
use Rattle.wp_shared.specs.Notes.{no_fact, seeing}
use Rattle.wp_shared.proofs.Onward.{loose_none, goes_none}
use Rattle.wp_read.specs.Registers.{numbers_of}
use Rattle.wp_compact.specs.Compaction.{IsDecision, IsPin}
use Rattle.wp_maint.proofs.Onward.{goes_saw, in_step_on, still_edits, found_halted}
use Rattle.wp_compact.proofs.Rounds.{ends_then, found_few}
use Rattle.wp_compact.proofs.StillTabled.{decided_looked}
use Rattle.wp_compact.proofs.compacting.compact_in.Goals as goal

-- ---- there is nothing to do

pub returns-then-is_halted-clause-says : goal.returns-then-is_halted-clause-says
returns-then-is_halted-clause-says g c =
    let s = c.args.seat.now in
    found_halted c.args.store.now s s c.find_held.new.seat c.args.edits.now.state (goes_none s) c.find_held.ensures.found (sym c.is_halted.ensures ∙ c.if-is_halted.true) c.flushed.result c.flushed.ensures.number

pub returns-then-table_count-lt2-clause-says : goal.returns-then-table_count-lt2-clause-says
returns-then-table_count-lt2-clause-says g c =
    let u = c.find_held-then-table_count-lt2.new.seat in let found = c.find_held-then-table_count-lt2.ensures.found in let p = c.args.pinned.now in let few = c.if-table_count-lt2.true in let count = c.table_count.ensures in
    found_few c.args.store.now c.args.seat.now u c.args.edits.now.state (IsPin p.floor.number (numbers_of p.live.items)) found (sym c.is_halted.ensures ∙ c.if-is_halted.false) (omega (arith, few, count))

-- ---- there are several tables

pub merge-requires-clause-holds : goal.merge-requires-clause-holds
merge-requires-clause-holds g c = still_edits c.requires.holds c.are_unchanged.ensures.goes

pub merge-requires-clause-decided : goal.merge-requires-clause-decided
merge-requires-clause-decided g c =
    decided_looked c.args.seat.now c.are_unchanged.new.seat (installed c.args.edits.now.state ∷ []) c.args.seat.now.turns c.are_unchanged.ensures.goes c.are_unchanged.ensures.grown c.args.pinned.now.floor c.args.pinned.now.live.items c.args.decided.bases c.args.decided.versions c.args.decided.committed.items c.requires.decided

pub returns-in-Ok-true-clause-says : goal.returns-in-Ok-true-clause-says
returns-in-Ok-true-clause-says g c =
    let s = c.args.seat.now in let u = c.are_unchanged.new.seat in let e = c.args.edits.now.state in let p = c.args.pinned.now in let pins = IsPin p.floor.number (numbers_of p.live.items) in
    let first = goes_saw s u no_fact (installed e ∷ []) s.turns c.are_unchanged.ensures.goes c.are_unchanged.ensures.grown loose_none in
    ends_then c.args.store.now s u c.merge.new.seat e pins (IsDecision p.floor.number c.args.decided.bases c.args.decided.versions) first (Some c.merge.result) c.merge.ensures.says

pub returns-in-Ok-false-clause-holds : goal.returns-in-Ok-false-clause-holds
returns-in-Ok-false-clause-holds g c = still_edits c.requires.holds c.are_unchanged.ensures.goes

pub returns-in-Ok-false-clause-in_step : goal.returns-in-Ok-false-clause-in_step
returns-in-Ok-false-clause-in_step g c =
    let s = c.args.seat.now in let u = c.are_unchanged.new.seat in let e = c.args.edits.now.state in
    in_step_on (seeing u.knows.participant.seen s) u no_fact (installed e ∷ []) s.turns refl (λ versions floor. refl) c.are_unchanged.ensures.goes e.last c.requires.in_step

pub returns-in-Ok-false-clause-says : goal.returns-in-Ok-false-clause-says
returns-in-Ok-false-clause-says g c =
    let s = c.args.seat.now in let u = c.are_unchanged.new.seat in let p = c.args.pinned.now in record {
      found = c.are_unchanged.ensures.found;
      running = sym c.is_halted.ensures ∙ c.if-is_halted.false;
      several = let few = c.if-table_count-lt2.false in let count = c.table_count.ensures in omega (arith, few, count);
      floor = p.floor.number;
      live = numbers_of p.live.items;
      pinned = (refl, refl);
      versions = c.args.decided.versions;
      bases = c.args.decided.bases;
      decided = (refl, refl, refl);
      overtaken = c.in-Ok-false.ensures.overtaken c.in-Ok-false.field-0-test;
      goes_on = goes_saw s u no_fact (installed c.args.edits.now.state ∷ []) s.turns c.are_unchanged.ensures.goes c.are_unchanged.ensures.grown loose_none;
    }

pub returns-in-Err-clause-holds : goal.returns-in-Err-clause-holds
returns-in-Err-clause-holds g c = still_edits c.requires.holds c.are_unchanged.ensures.goes

pub returns-in-Err-clause-in_step : goal.returns-in-Err-clause-in_step
returns-in-Err-clause-in_step g c =
    let s = c.args.seat.now in let u = c.are_unchanged.new.seat in let e = c.args.edits.now.state in
    in_step_on (seeing u.knows.participant.seen s) u no_fact (installed e ∷ []) s.turns refl (λ versions floor. refl) c.are_unchanged.ensures.goes e.last c.requires.in_step

pub returns-in-Err-clause-says : goal.returns-in-Err-clause-says
returns-in-Err-clause-says g c =
    let s = c.args.seat.now in let u = c.are_unchanged.new.seat in
    goes_saw s u no_fact (installed c.args.edits.now.state ∷ []) s.turns c.are_unchanged.ensures.goes c.are_unchanged.ensures.grown loose_none
