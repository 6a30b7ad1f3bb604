use Rattle.wp_machine_permits.proofs.needs.pending.has_versions_of.Goals as goal

pub returns-in-Write : goal.returns-in-Write
returns-in-Write c = rw c.in-Write.is c.has_changes.ensures

pub returns-in-Prepare : goal.returns-in-Prepare
returns-in-Prepare c = rw c.in-Prepare.is c.has_changes-in-Prepare.ensures

pub returns-in-Undo : goal.returns-in-Undo
returns-in-Undo c = rw c.in-Undo.is c.has_changes-in-Undo.ensures
