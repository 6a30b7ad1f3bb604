use Rattle.std.proofs.Common.{ap, sym, subst, ◌∙◌}
use Rattle.std.proofs.lemmas.Result.{err_from_is_err_and}
use Rattle.wp_fields.proofs.Results.{done, ok_or_err}
use Rattle.wp_table.specs.declared.error.TableError.{TableError}
use Rattle.wp_table.specs.Faults.{IsTableFault}
use Rattle.wp_table.specs.Table.{SpellsTable}
use Rattle.wp_table.specs.Walk.{stored_versions}
use Rattle.wp_table.proofs.table.Table.of.Goals as goal

pub returns-in_err-format-clause-only : goal.returns-in_err-format-clause-only
returns-in_err-format-clause-only c = λ versions spells.
    let p = err_from_is_err_and c.from_residual.result c.from_residual.ensures.1 in
    rw (p.1, p.2) (c.in_err-format.ensures.only versions (subst (SpellsTable c.args.id c.args.flushed versions) (sym c.deref.ensures.value) spells))

pub returns-in_err-format-clause-refused : goal.returns-in_err-format-clause-refused
returns-in_err-format-clause-refused c =
    let p = err_from_is_err_and c.from_residual.result c.from_residual.ensures.1 in
    rw (p.1, p.2) (rw c.deref.ensures.value at c.in_err-format.ensures.refused)

pub returns-in_err-format-clause-exact : goal.returns-in_err-format-clause-exact
returns-in_err-format-clause-exact c =
    let p = err_from_is_err_and c.from_residual.result c.from_residual.ensures.1 in
    rw (p.1, p.2) (rw c.deref.ensures.value at c.in_err-format.ensures.exact)

pub returns-in_err-format-clause-each_fault : goal.returns-in_err-format-clause-each_fault
returns-in_err-format-clause-each_fault c = λ fault is.
    let p = err_from_is_err_and c.from_residual.result c.from_residual.ensures.1 in
    rw (p.1, p.2) (c.in_err-format.ensures.each_fault fault (subst (λ bytes. IsTableFault c.args.id c.args.flushed bytes fault) (sym c.deref.ensures.value) is))

pub returns-clause-each_fault : goal.returns-clause-each_fault
returns-clause-each_fault c = λ fault is.
    absurd (ok_or_err (stored_versions c.in_ok-format.format c.deref.result.now c.in_ok-format.count) fault (sym (c.in_ok-format.ensures.each_fault fault (subst (λ bytes. IsTableFault c.args.id c.args.flushed bytes fault) (sym c.deref.ensures.value) is))))

pub returns-clause-only : goal.returns-clause-only
returns-clause-only c = λ versions spells.
    rw (c.new-2.ensures, c.in_ok-bytes.ensures.ok)
    (c.in_ok-format.ensures.only versions (subst (SpellsTable c.args.id c.args.flushed versions) (sym c.deref.ensures.value) spells) ∙ ap (λ bytes. done TableError (stored_versions c.in_ok-format.format bytes c.in_ok-format.count)) c.deref.ensures.value)

-- there was no memory for what readers share of it

pub returns-in_err-bytes-clause-refused : goal.returns-in_err-bytes-clause-refused
returns-in_err-bytes-clause-refused c =
    let p = err_from_is_err_and c.from_residual-in_err-bytes.result c.from_residual-in_err-bytes.ensures.1 in
    rw (p.1, p.2) tt

pub returns-in_err-bytes-clause-exact : goal.returns-in_err-bytes-clause-exact
returns-in_err-bytes-clause-exact c =
    let p = err_from_is_err_and c.from_residual-in_err-bytes.result c.from_residual-in_err-bytes.ensures.1 in
    rw (p.1, p.2) tt

pub returns-in_err-bytes-clause-only : goal.returns-in_err-bytes-clause-only
returns-in_err-bytes-clause-only c = λ versions spells.
    let p = err_from_is_err_and c.from_residual-in_err-bytes.result c.from_residual-in_err-bytes.ensures.1 in
    rw (p.1, p.2) tt

pub returns-in_err-bytes-clause-each_fault : goal.returns-in_err-bytes-clause-each_fault
returns-in_err-bytes-clause-each_fault c = λ fault is.
    let p = err_from_is_err_and c.from_residual-in_err-bytes.result c.from_residual-in_err-bytes.ensures.1 in
    rw (p.1, p.2) tt
