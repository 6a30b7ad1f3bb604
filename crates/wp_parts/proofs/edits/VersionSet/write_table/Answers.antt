use Rattle.std.proofs.Common.{◌≡◌, ap, refl}
use Rattle.wp_tableset.specs.Set.{TableSetState}
use Rattle.wp_parts.proofs.InstallLemmas.{stopped_edits, survives_write, written_edits}
use Rattle.wp_parts.proofs.edits.VersionSet.write_table.Goals as goal

pub invariant_of-self : goal.invariant_of-self
invariant_of-self g c =
    let inside = c.self.inside in
    stopped_edits inside.set inside.first.value inside.base inside.tables.items inside.failed c.self.invariant (rw (← c.self.view_is) at c.requires.running) c.write_table.new.self c.write_table.ensures.keeps c.in_err-edit.ensures.refused

pub returns-in_err-edit-clause-survives : goal.returns-in_err-edit-clause-survives
returns-in_err-edit-clause-survives g c =
    let inside = c.self.inside in
    let ready = rw (← c.self.view_is, ← c.ready.view_is) at c.requires.ready in
    let asked = c.ready.inside.edit.asked in
    rw (← c.self.view_is, ← c.ready.view_is) (λ segment. survives_write inside.set inside.first.value inside.base inside.tables.items inside.failed c.self.invariant (rw (← c.self.view_is) at c.requires.running) c.write_table.new.self c.write_table.ensures.keeps
    c.in_err-edit.ensures.refused.manifest asked.gone asked.versions asked.flushed ready.edit.in_order segment _ refl)

pub invariant_of-self-2 : goal.invariant_of-self-2
invariant_of-self-2 g c =
    let inside = c.self.inside in
    written_edits inside.set inside.first.value inside.base inside.tables.items inside.failed c.self.invariant (rw (← c.self.view_is) at c.requires.running) c.write_table.new.self c.write_table.ensures.keeps _ c.in_ok-edit.ensures.written

pub returns-clause-survives : goal.returns-clause-survives
returns-clause-survives g c =
    let inside = c.self.inside in
    let ready = rw (← c.self.view_is, ← c.ready.view_is) at c.requires.ready in
    let asked = c.ready.inside.edit.asked in
    let same : c.write_table.new.self.manifest ≡ inside.set.manifest = ap (λ (s : TableSetState). s.manifest) c.in_ok-edit.ensures.written.changed in
    rw (← c.self.view_is, ← c.ready.view_is) (λ segment. survives_write inside.set inside.first.value inside.base inside.tables.items inside.failed c.self.invariant (rw (← c.self.view_is) at c.requires.running) c.write_table.new.self c.write_table.ensures.keeps
    same asked.gone asked.versions asked.flushed ready.edit.in_order segment _ refl)
