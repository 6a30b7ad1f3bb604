use Rattle.std.proofs.Common.{◌≡◌, inl, inr, ℕ, true, subst, ap, ◌∙◌, arith}
use Rattle.std.specs.List.{list_all}
use Rattle.wp_table.specs.Table.{is_flushed}
use Rattle.wp_parts.specs.Stock.{store_state}
use Rattle.wp_model.specs.declared.segment.Segment.{Segment}
use Rattle.wp_compact.proofs.StillTabled.{based_here, not_based, saw_more, saw_grown, saw_holding, tables_here, may_merge}
use Rattle.wp_compact.proofs.unchanged.tables_in.Goals as goal

pub returns-then-flushed-floor-clause-goes : goal.returns-then-flushed-floor-clause-goes
returns-then-flushed-floor-clause-goes g c = saw_more c.shows_history.ensures

pub returns-then-flushed-floor-clause-grown : goal.returns-then-flushed-floor-clause-grown
returns-then-flushed-floor-clause-grown g c = saw_grown c.shows_history.ensures

pub returns-then-floor-clause-goes : goal.returns-then-floor-clause-goes
returns-then-floor-clause-goes g c = saw_more c.shows_history.ensures

pub returns-then-floor-clause-grown : goal.returns-then-floor-clause-grown
returns-then-floor-clause-grown g c = saw_grown c.shows_history.ensures

pub returns-then-not-is_based-clause-goes : goal.returns-then-not-is_based-clause-goes
returns-then-not-is_based-clause-goes g c = saw_more c.shows_history.ensures

pub returns-then-not-is_based-clause-grown : goal.returns-then-not-is_based-clause-grown
returns-then-not-is_based-clause-grown g c = saw_grown c.shows_history.ensures

pub returns-then-not-is_based-clause-tables : goal.returns-then-not-is_based-clause-tables
returns-then-not-is_based-clause-tables g c =
    inr (not_based c.is_based.ensures.1 c.if-not-is_based.true (ap (λ (x : Segment). x.base) c.segment.ensures) c.number-floor.ensures)

pub returns-in_err-copy_tables-clause-goes : goal.returns-in_err-copy_tables-clause-goes
returns-in_err-copy_tables-clause-goes g c = saw_more c.shows_history.ensures

pub returns-in_err-copy_tables-clause-grown : goal.returns-in_err-copy_tables-clause-grown
returns-in_err-copy_tables-clause-grown g c = saw_grown c.shows_history.ensures

pub returns-clause-goes : goal.returns-clause-goes
returns-clause-goes g c = saw_more c.shows_history.ensures

pub returns-clause-grown : goal.returns-clause-grown
returns-clause-grown g c = saw_grown c.shows_history.ensures

pub returns-clause-tables : goal.returns-clause-tables
returns-clause-tables g c =
    let e = c.args.edits.now.state in let number = c.number-floor.ensures in let high = c.if-flushed-floor.false in let given = c.if-floor.false in let f = c.flushed.ensures.number in let g2 = c.floor.ensures in
    c.in_ok-copy_tables.ensures.tables
    ∙ tables_here c.args.stock.now c.args.pinned.now.floor.number c.args.pinned.now.live.items c.args.bases c.shows_history.ensures c.requires.holds c.requires.in_step c.requires.live c.requires.bases.0 c.requires.bases.1 (subst (λ (n : ℕ). list_all (is_flushed n) e.last.versions ≡ true) f c.flushed.ensures.tables) (based_here (c.is_based.ensures.0 c.if-not-is_based.false) (ap (λ (g : Segment). g.base) c.segment.ensures) number) (omega (arith, f, number, high)) (omega (arith, g2, number, given))

pub returns-clause-may : goal.returns-clause-may
returns-clause-may g c =
    let e = c.args.edits.now.state in let number = c.number-floor.ensures in let high = c.if-flushed-floor.false in let given = c.if-floor.false in let f = c.flushed.ensures.number in let g2 = c.floor.ensures in
    may_merge c.args.stock.now c.args.pinned.now.floor.number c.args.pinned.now.live.items c.args.bases c.shows_history.ensures c.requires.holds c.requires.in_step c.requires.live c.requires.bases.0 c.requires.bases.1 (subst (λ (n : ℕ). list_all (is_flushed n) e.last.versions ≡ true) f c.flushed.ensures.tables) (based_here (c.is_based.ensures.0 c.if-not-is_based.false) (ap (λ (g : Segment). g.base) c.segment.ensures) number) (omega (arith, f, number, high)) (omega (arith, g2, number, given))

pub returns-then-flushed-floor-clause-tables : goal.returns-then-flushed-floor-clause-tables
returns-then-flushed-floor-clause-tables g c = let f = c.flushed.ensures.number in let number = c.number-floor.ensures in let high = c.if-flushed-floor.true in inl (inl (omega (arith, f, number, high)))

pub returns-then-floor-clause-tables : goal.returns-then-floor-clause-tables
returns-then-floor-clause-tables g c =
    let f = c.floor.ensures in let number = c.number-floor.ensures in let given = c.if-floor.true in
    inl (inr (store_state c.args.stock.now, saw_holding c.shows_history.ensures c.requires.holds, omega (arith, f, number, given)))
