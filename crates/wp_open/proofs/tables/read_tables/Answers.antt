use Rattle.std.proofs.Common.{◌≡◌, ℕ, suc, ◌<◌, List, [], ◌∷◌, ◌++◌, length, length-append, get_or, take, drop, map, sym, subst, ap, ◌∙◌, arith, rules}
use Rattle.std.specs.Arc.{arc_value}
use Rattle.std.proofs.lemmas.List.{map_push, length-take-le}
use Rattle.std.proofs.lemmas.Result.{err_from_is_err_and}
use Rattle.wp_outside.specs.Disk.{IfKnown}
use Rattle.wp_outside.specs.Faults.{Rose}
use Rattle.wp_outside.proofs.Moments.{looks_on}
use Rattle.wp_model.specs.declared.version.Version.{Version}
use Rattle.wp_manifest.specs.Edit.{Edit}
use Rattle.wp_table.specs.File.{HasTable}
use Rattle.wp_table.specs.Table.{IsTable}
use Rattle.wp_refused.specs.Tables.{IsTableCause}
use Rattle.wp_open.proofs.Reading.{tables_cause, at_place, tables_more, all_more}
use Rattle.wp_open.proofs.Shown.{shown_later, sometime_later, sometime_now}
use Rattle.wp_open.proofs.tables.read_tables.Goals as goal

pub returns-in_err-table-clause-cause : goal.returns-in_err-table-clause-cause
returns-in_err-table-clause-cause g c =
    let p = err_from_is_err_and c.from_residual.result c.from_residual.ensures.1 in
    let edit = c.args.edit.now in
    let items = c.deref-placed-items.result.now in
    let i : ℕ = c.loop-placed.placed-index in
    let flushed_is = ap (λ (e : Edit). e.flushed) c.edit.view_is in
    let tables_is = ap (λ (e : Edit). e.tables) c.edit.view_is in
    let lt : i < length items = search rules in
    let old = g.P.Peek.moments c.args.tables.now in
    let mid = g.P.Peek.moments c.loop-placed.tables in
    let new = g.P.Peek.moments c.read_table.new.tables in
    let parts = map arc_value c.loop-placed.parts.items in
    let looks = c.read_table.ensures.looks.passes in
    let rose = Rose (g.P.Peek.faults c.loop-placed.tables) (g.P.Peek.faults c.read_table.new.tables) in
    let cause = subst (λ (n : ℕ). IsTableCause c.args.id n (get_or items i (0, 0)) c.in-Ok.len rose new c.in_err-table.field-0.0) flushed_is c.in_err-table.ensures.cause in
    rw (p.1, p.2) (tables_cause c.args.id edit c.in-Ok.len (g.P.Peek.faults c.args.tables.now) (g.P.Peek.faults c.loop-placed.tables) (g.P.Peek.faults c.read_table.new.tables) old new (take i items) (drop (suc i) items) (get_or items i (0, 0)) parts
    (at_place items edit.tables i (0, 0) lt (c.deref-placed-items.ensures.value ∙ tables_is)) (looks_on old mid new _ _ _ c.loop-placed.invariant.looks c.read_table.ensures.looks).passes
    (shown_later c.args.id edit.flushed old mid new looks (take i items) parts c.loop-placed.invariant.there) (sometime_later (λ m. c.in-Ok.len ≡ length m.reads) old mid new looks c.loop-placed.invariant.sized)
    (c.loop-placed.invariant.as_many ∙ sym (length-take-le i items (omega (arith, lt)))) c.loop-placed.invariant.are (omega (arith, c.loop-placed.invariant.unfailed)) c.in_err-table.field-0.0 cause)

pub returns-in_err-table-clause-looks : goal.returns-in_err-table-clause-looks
returns-in_err-table-clause-looks g c = looks_on _ _ _ _ _ _ c.loop-placed.invariant.looks c.read_table.ensures.looks

pub returns-in_err-new-clause-looks : goal.returns-in_err-new-clause-looks
returns-in_err-new-clause-looks g c = looks_on _ _ _ _ _ _ c.loop-placed.invariant.looks c.read_table.ensures.looks

pub returns-in_err-push-clause-looks : goal.returns-in_err-push-clause-looks
returns-in_err-push-clause-looks g c = looks_on _ _ _ _ _ _ c.loop-placed.invariant.looks c.read_table.ensures.looks

pub loop-placed-init : goal.loop-placed-init
loop-placed-init g c = record {
  looks = c.len.ensures.looks;
  unfailed = c.in-Ok.ensures.cause.ok;
  sized = sometime_now (λ m. c.in-Ok.len ≡ length m.reads) _ _ c.len.ensures.looks.passes c.in-Ok.ensures.length;
  there = search rules;
  are = search rules;
  as_many = search rules;
}

pub loop-placed-preserved : goal.loop-placed-preserved
loop-placed-preserved g c =
    let items = c.deref-placed-items.result.now in
    let i : ℕ = c.loop-placed.placed-index in
    let flushed_is = ap (λ (e : Edit). e.flushed) c.edit.view_is in
    let lt : i < length items = search rules in
    let old = g.P.Peek.moments c.args.tables.now in
    let mid = g.P.Peek.moments c.loop-placed.tables in
    let new = g.P.Peek.moments c.read_table.new.tables in
    let versions : List Version = c.in_ok-table.table in
    let looks = looks_on old mid new _ _ _ c.loop-placed.invariant.looks c.read_table.ensures.looks in
    let one = subst (λ (n : ℕ). IfKnown new (λ m. HasTable c.args.id n m.reads (get_or items i (0, 0)) versions)) flushed_is c.in_ok-table.ensures.found in
    let is = ap (map arc_value) c.in_ok-push.ensures.items ∙ map_push arc_value c.loop-placed.parts.items c.in_ok-new.field-0 ∙ ap (λ (v : List Version). map arc_value c.loop-placed.parts.items ++ v ∷ []) c.in_ok-new.ensures.ok in
    record {
      looks = looks;
      unfailed = c.in_ok-table.ensures.unfailed ∙ c.loop-placed.invariant.unfailed;
      sized = sometime_later (λ m. c.in-Ok.len ≡ length m.reads) old mid new c.read_table.ensures.looks.passes c.loop-placed.invariant.sized;
      there = tables_more c.args.id c.args.edit.now.flushed items i (0, 0) (map arc_value c.loop-placed.parts.items) (map arc_value c.push.new.self.items) versions old mid new lt is c.read_table.ensures.looks.passes looks.passes c.loop-placed.invariant.there one;
      are = all_more (IsTable c.args.id c.args.edit.now.flushed) (map arc_value c.loop-placed.parts.items) (map arc_value c.push.new.self.items) versions is c.loop-placed.invariant.are (subst (λ (n : ℕ). IsTable c.args.id n versions) flushed_is c.in_ok-table.ensures.is);
      as_many = (let n = length-append (map arc_value c.loop-placed.parts.items) (versions ∷ []) in let l = ap length is in let m = c.loop-placed.invariant.as_many in omega (arith, n, l, m));
    }
