use Rattle.std.proofs.Common.{ℕ, List, map, refl, sym, ap, ◌∙◌, subst, arith}
use Rattle.std.specs.Arc.{arc_value}
use Rattle.std.specs.List.{AllByRecursion}
use Rattle.std.proofs.lemmas.Result.{err_from_is_err_and}
use Rattle.wp_model.specs.declared.version.Version.{Version}
use Rattle.wp_model.specs.Flushed.{later_versions}
use Rattle.wp_outside.specs.Disk.{IfKnown}
use Rattle.wp_history.specs.Outline.{cut_in}
use Rattle.wp_manifest.specs.Edit.{Edit}
use Rattle.wp_merge.specs.Merge.{sorted_of}
use Rattle.wp_table.specs.File.{HasTables}
use Rattle.wp_table.specs.Table.{IsTable}
use Rattle.wp_contents.specs.Opens.{AreCovering}
use Rattle.wp_refused.specs.Tables.{of_tables}
use Rattle.wp_refused.proofs.Stages.{were_tables}
use Rattle.wp_open.proofs.Within.{apart_cause, apart_left, end_over, full_moved, judged_cause, judged_left, tables_before, tables_left}
use Rattle.wp_open.proofs.opening.open_store.Goals as goal

-- ---- the base is ahead, or the log behind

pub returns-in-Err-clause-cause : goal.returns-in-Err-clause-cause
returns-in-Err-clause-cause g c = apart_cause c.args.id (cut_in c.args.outline) c.args.edit.now _ _ _ c.in-Err.ensures.err

pub returns-in-Err-clause-left : goal.returns-in-Err-clause-left
returns-in-Err-clause-left g c = apart_left (cut_in c.args.outline) c.args.edit.now _ _ _ _ c.in-Err.ensures.err refl

-- ---- the tables are refused

pub returns-in_err-parts-clause-cause : goal.returns-in_err-parts-clause-cause
returns-in_err-parts-clause-cause g c =
    let p = err_from_is_err_and c.from_residual.result c.from_residual.ensures.1 in
    rw (p.1, p.2) (of_tables c.in-Ok.ensures.ok (tables_before c.args.id c.args.edit.now _ _ _ _ _ c.in_err-parts.field-0.0 c.in-Ok-sync.ensures.cause.later c.in-Ok-sync.ensures.done c.in_err-parts.ensures.cause))

pub returns-in_err-parts-clause-left : goal.returns-in_err-parts-clause-left
returns-in_err-parts-clause-left g c =
    let p = err_from_is_err_and c.from_residual.result c.from_residual.ensures.1 in
    rw (p.1, p.2) (tables_left c.args.id c.args.edit.now _ _ _ _ _ c.in_err-parts.field-0.0 c.in_err-parts.ensures.cause (c.own_tables.ensures.unchanged ∙ c.in-Ok-sync.ensures.done))

-- ---- no history stands for the log and the tables, or they do not cover it

pub returns-in_err-history-clause-cause : goal.returns-in_err-history-clause-cause
returns-in_err-history-clause-cause g c =
    let p = err_from_is_err_and c.from_residual-in_err-history.result c.from_residual-in_err-history.ensures.1 in
    let parts = map arc_value c.in_ok-parts.parts.items in
    rw (p.1, p.2)
    (judged_cause c.args.id (cut_in c.args.outline) c.args.edit.now _ _ parts c.in_err-history.field-0.0 c.in-Ok.ensures.ok
    (were_tables c.args.id c.args.edit.now (g.D.Peek.moments c.args.tables.now) (g.D.Peek.moments c.sync.new.self) parts c.in-Ok-sync.ensures.done c.in_ok-parts.ensures.as_many c.in_ok-parts.ensures.are c.in_ok-parts.ensures.found) (rw c.deref.ensures.value at c.in_err-history.ensures.cause))

pub returns-in_err-history-clause-left : goal.returns-in_err-history-clause-left
returns-in_err-history-clause-left g c =
    let p = err_from_is_err_and c.from_residual-in_err-history.result c.from_residual-in_err-history.ensures.1 in
    rw (p.1, p.2) (judged_left (cut_in c.args.outline) c.args.edit.now (map arc_value c.deref.result.now) _ _ _ c.in_err-history.field-0.0 c.in_err-history.ensures.cause (c.own_tables.ensures.unchanged ∙ c.in-Ok-sync.ensures.done))

pub judged-requires-clause-within : goal.judged-requires-clause-within
judged-requires-clause-within g c = c.in-Ok.ensures.ok

-- ---- memory is wanting

pub returns-in_err-memory-clause-cause : goal.returns-in_err-memory-clause-cause
returns-in_err-memory-clause-cause g c =
    let p = err_from_is_err_and c.from_residual-in_err-memory.result c.from_residual-in_err-memory.ensures.1 in rw (p.1, p.2) (of_tables c.in-Ok.ensures.ok tt)

pub returns-in_err-memory-clause-left : goal.returns-in_err-memory-clause-left
returns-in_err-memory-clause-left g c =
    let p = err_from_is_err_and c.from_residual-in_err-memory.result c.from_residual-in_err-memory.ensures.1 in rw (p.1, p.2) (c.own_tables.ensures.unchanged ∙ c.in-Ok-sync.ensures.done)

-- ---- what the later entries ask

pub later_memory-requires-clause-from : goal.later_memory-requires-clause-from
later_memory-requires-clause-from g c =
    let low = c.in-Ok.ensures.ok.base in
    omega (arith, low, c.in_ok-history.ensures.base, ap (λ (e : Edit). e.flushed) c.edit.view_is)

pub later_memory-requires-clause-within : goal.later_memory-requires-clause-within
later_memory-requires-clause-within g c =
    let high = end_over (cut_in c.args.outline) c.args.edit.now c.in_ok-history.history.entries (map arc_value c.deref.result.now) c.in-Ok.ensures.ok c.in_ok-history.ensures.full in
    omega (arith, high, ap (λ (e : Edit). e.flushed) c.edit.view_is)

-- ---- the store

pub returns-clause-store : goal.returns-clause-store
returns-clause-store g c =
    let edit = c.args.edit.now in
    let flushed_is = ap (λ (e : Edit). e.flushed) c.edit.view_is in
    let tables = c.new.ensures.tables ∙ sym (ap (map arc_value) c.deref.ensures.value) in
    record {
      full = full_moved (cut_in c.args.outline) (cut_in c.args.outline) c.in_ok-history.history.entries (map arc_value c.deref.result.now) c.new.result.tables c.in_ok-history.ensures.full refl tables;
      legal = c.in_ok-memory.ensures.legal;
      covering = subst (λ (parts : List (List Version)). AreCovering (cut_in c.args.outline) edit parts) (sym tables) c.in_ok-history.ensures.covering;
      memory = c.new.ensures.memory ∙ c.in_ok-memory.ensures.memory ∙ ap (λ (n : ℕ). sorted_of (later_versions c.in_ok-history.history.entries n)) flushed_is;
      frozen = c.new.ensures.frozen;
    }

pub returns-clause-there : goal.returns-clause-there
returns-clause-there g c =
    let edit = c.args.edit.now in
    let parts = map arc_value c.in_ok-parts.parts.items in
    let read = were_tables c.args.id edit (g.D.Peek.moments c.args.tables.now) (g.D.Peek.moments c.sync.new.self) parts c.in-Ok-sync.ensures.done c.in_ok-parts.ensures.as_many c.in_ok-parts.ensures.are c.in_ok-parts.ensures.found in
    subst (λ (ps : List (List Version)). IfKnown (g.D.Peek.moments c.args.tables.now) (λ m. HasTables c.args.id edit.flushed m.reads edit.tables ps)) (sym c.new.ensures.tables) read.known

pub returns-clause-are : goal.returns-clause-are
returns-clause-are g c = subst (λ (ps : List (List Version)). AllByRecursion (IsTable c.args.id c.args.edit.now.flushed) ps) (sym c.new.ensures.tables) c.in_ok-parts.ensures.are

pub returns-clause-synced : goal.returns-clause-synced
returns-clause-synced g c = c.own_tables.ensures.unchanged ∙ c.in-Ok-sync.ensures.done
