use Rattle.std.proofs.Common.{◌≡◌, refl}
use Rattle.wp_model.specs.Flushed.{InstalledEdit}
use Rattle.wp_merge.specs.Merge.{joined}
use Rattle.wp_tableset.specs.Changes.{parts_after}
use Rattle.wp_parts.specs.VersionSet.{asked_for}
use Rattle.wp_parts.proofs.InstallLemmas.{failed_edits, failed_table, installed_edits, installed_table, joined_new, stored_before, survives_install}
use Rattle.wp_parts.proofs.edits.VersionSet.install.Goals as goal

pub invariant_of-self : goal.invariant_of-self
invariant_of-self g c =
    let inside = c.self.inside in
    let w = rw (← c.self.view_is, ← c.written.view_is) at c.requires.written in
    let now : c.with_staying.result.items ≡ parts_after c.written.inside.edit.asked inside.tables.items = rw (c.with_staying.ensures, c.asked-gone.ensures.gone, w.1.tables_are) refl in
    installed_edits inside.set inside.first.value inside.base inside.tables.items inside.failed (rw (← c.self.view_is) at c.requires.running) c.args.segment w.0 _ w.1 c.self.invariant c.install.new.self c.install.ensures.keeps c.in-Ok.ensures.installs.moments c.in-Ok.ensures.installs.faults
    c.in-Ok.ensures.installs.installed (c.shows_running.ensures c.in-Ok.ensures.installs.installed.running) c.with_staying.result.items now

pub returns-in-Ok-clause-installed : goal.returns-in-Ok-clause-installed
returns-in-Ok-clause-installed g c =
    let inside = c.self.inside in
    let w = rw (← c.self.view_is, ← c.written.view_is) at c.requires.written in
    let now : c.with_staying.result.items ≡ parts_after c.written.inside.edit.asked inside.tables.items = rw (c.with_staying.ensures, c.asked-gone.ensures.gone, w.1.tables_are) refl in
    rw (← c.self.view_is, ← c.written.view_is) (installed_table inside.set inside.first.value inside.base inside.tables.items inside.failed (rw (← c.self.view_is) at c.requires.running) c.args.segment w.0 _ w.1 c.self.invariant c.install.new.self c.install.ensures.keeps c.in-Ok.ensures.installs.moments c.in-Ok.ensures.installs.faults
    c.in-Ok.ensures.installs.installed (c.shows_running.ensures c.in-Ok.ensures.installs.installed.running) c.with_staying.result.items now)

pub returns-in-Ok-clause-survives : goal.returns-in-Ok-clause-survives
returns-in-Ok-clause-survives g c =
    let inside = c.self.inside in
    rw (← c.self.view_is, ← c.written.view_is) (λ before b. survives_install inside.set inside.first.value inside.base inside.tables.items inside.failed (rw (← c.self.view_is) at c.requires.running) c.args.segment before _ b c.install.new.self _ _ refl c.in-Ok.ensures.installs)

pub invariant_of-self-in-Err : goal.invariant_of-self-in-Err
invariant_of-self-in-Err g c =
    let inside = c.self.inside in
    let w = rw (← c.self.view_is, ← c.written.view_is) at c.requires.written in
    let names : (last : InstalledEdit) → asked_for (record { gone = c.asked-gone.result.0; versions = joined c.written.inside.tables.items; flushed = c.asked-gone.result.1 }) c.args.segment last ≡ asked_for c.written.inside.edit.asked c.args.segment last = λ last. rw (c.asked-gone.ensures.gone, c.asked-gone.ensures.flushed, w.1.tables_are, joined_new c.written.inside.edit.asked.versions) refl in
    failed_edits inside.set inside.first.value inside.base inside.tables.items inside.failed (rw (← c.self.view_is) at c.requires.running) c.args.segment w.0 _ w.1 c.self.invariant c.install.new.self c.install.ensures.keeps c.in-Err.ensures.installs.moments c.in-Err.ensures.installs.faults
    c.in-Err.ensures.installs.refused (record { segment = c.args.segment; flushed = c.asked-gone.result.1; gone = c.asked-gone.result.0; tables = c.written.inside.tables }) names

pub returns-in-Err-clause-refused : goal.returns-in-Err-clause-refused
returns-in-Err-clause-refused g c =
    let inside = c.self.inside in
    let w = rw (← c.self.view_is, ← c.written.view_is) at c.requires.written in
    let names : (last : InstalledEdit) → asked_for (record { gone = c.asked-gone.result.0; versions = joined c.written.inside.tables.items; flushed = c.asked-gone.result.1 }) c.args.segment last ≡ asked_for c.written.inside.edit.asked c.args.segment last = λ last. rw (c.asked-gone.ensures.gone, c.asked-gone.ensures.flushed, w.1.tables_are, joined_new c.written.inside.edit.asked.versions) refl in
    rw (← c.self.view_is, ← c.written.view_is) (failed_table inside.set inside.first.value inside.base inside.tables.items inside.failed (rw (← c.self.view_is) at c.requires.running) c.args.segment w.0 _ w.1 c.self.invariant c.install.new.self c.install.ensures.keeps c.in-Err.ensures.installs.moments c.in-Err.ensures.installs.faults
    c.in-Err.ensures.installs.refused (record { segment = c.args.segment; flushed = c.asked-gone.result.1; gone = c.asked-gone.result.0; tables = c.written.inside.tables }) names)

pub returns-in-Err-clause-survives : goal.returns-in-Err-clause-survives
returns-in-Err-clause-survives g c =
    let inside = c.self.inside in
    rw (← c.self.view_is, ← c.written.view_is) (λ before b. survives_install inside.set inside.first.value inside.base inside.tables.items inside.failed (rw (← c.self.view_is) at c.requires.running) c.args.segment before _ b c.install.new.self _ _ refl c.in-Err.ensures.installs)

pub returns-in-Ok-clause-joint : goal.returns-in-Ok-clause-joint
returns-in-Ok-clause-joint g c =
    let inside = c.self.inside in
    rw (← c.self.view_is, ← c.written.view_is) (λ before b. c.in-Ok.ensures.joint before.set b.was.edits before.parts b.written (stored_before inside.set inside.first.value inside.base inside.tables.items inside.failed (rw (← c.self.view_is) at c.requires.running) c.args.segment before _ b))

pub returns-in-Err-clause-joint : goal.returns-in-Err-clause-joint
returns-in-Err-clause-joint g c =
    let inside = c.self.inside in
    rw (← c.self.view_is, ← c.written.view_is) (λ before b. c.in-Err.ensures.joint before.set b.was.edits before.parts b.written (stored_before inside.set inside.first.value inside.base inside.tables.items inside.failed (rw (← c.self.view_is) at c.requires.running) c.args.segment before _ b))
