use Rattle.std.proofs.Common.{map}
use Rattle.std.specs.Arc.{arc_value}
use Rattle.std.proofs.lemmas.Result.{IfOk-weaker, IfErr-weaker}
use Rattle.wp_outside.specs.Disk.{IfKnown}
use Rattle.wp_outside.specs.Faults.{Rose}
use Rattle.wp_table.specs.File.{HasTables}
use Rattle.wp_refused.specs.Shown.{WereShown}
use Rattle.wp_refused.specs.Tables.{IsTablesCause, WasFirstWrong, AreTablesCause}
use Rattle.wp_open.proofs.Reading.{tables_cause_alone}
use Rattle.wp_open.proofs.Shown.{shown_alone}
use Rattle.wp_open.proofs.tables.own_tables.Goals as goal

pub returns-clause-found : goal.returns-clause-found
returns-clause-found g c =
    let old = g.D.Peek.moments c.args.tables.now in
    let new = g.D.Peek.moments c.read_tables.new.tables in
    let edit = c.args.edit.now in
    IfOk-weaker c.read_tables.result (λ parts. WereShown c.args.id edit.flushed old new edit.tables (map arc_value parts.items))
    (λ parts. IfKnown old (λ m. HasTables c.args.id edit.flushed m.reads edit.tables (map arc_value parts.items)))
    (λ parts shown. shown_alone c.args.id edit.flushed old new (c.read_tables.ensures.looks.unchanged (g.met.D.Disk.owned c.args.tables.now)) edit.tables (map arc_value parts.items) shown) c.read_tables.ensures.found

pub returns-clause-unchanged : goal.returns-clause-unchanged
returns-clause-unchanged g c = c.read_tables.ensures.looks.unchanged (g.met.D.Disk.owned c.args.tables.now)

pub returns-clause-cause : goal.returns-clause-cause
returns-clause-cause g c =
    let old = g.D.Peek.moments c.args.tables.now in
    let new = g.D.Peek.moments c.read_tables.new.tables in
    let rose = Rose (g.D.Peek.faults c.args.tables.now) (g.D.Peek.faults c.read_tables.new.tables) in
    IfErr-weaker c.read_tables.result (IsTablesCause c.args.id rose (WasFirstWrong c.args.id c.args.edit.now old new)) (AreTablesCause c.args.id c.args.edit.now rose old)
    (tables_cause_alone c.args.id c.args.edit.now rose old new (c.read_tables.ensures.looks.unchanged (g.met.D.Disk.owned c.args.tables.now))) c.read_tables.ensures.cause
