use Rattle.wp_manifest.proofs.OpeningLemmas.{edits_refused, opened_edits, refused_cause, refused_left}
use Rattle.wp_manifest.proofs.manifest.Manifest.open.Goals as goal

pub returns-in-Err-clause-refused : goal.returns-in-Err-clause-refused
returns-in-Err-clause-refused g c = rw c.error_of-why.ensures (record {
  cause = refused_cause _ _ _ c.in-Err.field-0.why c.in-Err.ensures.refused.refused c.in-Err.ensures.refused.fault;
  left = refused_left _ _ c.in-Err.field-0.why c.in-Err.ensures.refused.untouched;
})

pub returns-clause-refused : goal.returns-clause-refused
returns-clause-refused g c = rw (c.into_disk-disk.ensures.moments, c.into_disk-disk.ensures.faults)
    (edits_refused c.args.id _ _ c.in-Ok.opened.0 c.in-Ok.opened.1.items _ c.in-Err-last_edit.why c.in-Ok.ensures.opened (rw (c.deref.ensures.value) at c.in-Err-last_edit.ensures.err))

pub returns-in-Ok-last_edit-clause-opened : goal.returns-in-Ok-last_edit-clause-opened
returns-in-Ok-last_edit-clause-opened g c = opened_edits c.args.id _ c.in-Ok.opened.1.items c.in-Ok-last_edit.edit _ c.in-Ok.ensures.opened (rw c.deref.ensures.value at c.in-Ok-last_edit.ensures.ok)
