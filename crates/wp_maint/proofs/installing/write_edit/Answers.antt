use Rattle.std.proofs.Common.{◌≡◌, List, Option, Some, None, OnOk, IfOk, refl, sym, subst, ap, ◌∙◌}
use Rattle.std.proofs.lemmas.Result.{err_from_is_err_and}
use Rattle.std.specs.Arc.{arc_value}
use Rattle.std.specs.Option.{option_map}
use Rattle.std.specs.Prelude.{IfSome}
use Rattle.wp_model.specs.declared.segment.Segment.{Segment}
use Rattle.wp_model.specs.declared.version.Version.{Version}
use Rattle.wp_model.specs.Flushed.{InstalledEdit}
use Rattle.wp_tableset.specs.Changes.{Asked, one_part, parts_after}
use Rattle.wp_tableset.specs.Set.{TableSetState}
use Rattle.wp_core.specs.Effects.{with_failed}
use Rattle.wp_core.specs.States.{Installed}
use Rattle.wp_parts.specs.VersionSet.{asked_for}
use Rattle.wp_parts.specs.Installs.{SurvivesInstall}
use Rattle.wp_maint.specs.Installs.{next_of}
use Rattle.wp_maint.proofs.Installed.{fault_since, on_err}
use Rattle.wp_maint.proofs.installing.write_edit.Goals as goal

pub install-requires-clause-written : goal.install-requires-clause-written
install-requires-clause-written g c = (c.args.edits.now, c.in_ok-written.ensures.written.1)

pub returns-in_err-written-clause-refused : goal.returns-in_err-written-clause-refused
returns-in_err-written-clause-refused g c =
    let p = err_from_is_err_and c.from_residual.result c.from_residual.ensures.1 in let e = c.args.edits.now.state in
    let halted = c.in_err-written.ensures.refused in let none : c.write_table.new.self.state.failed ≡ None = ap (λ (t : Installed). t.failed) halted ∙ c.requires.edits.none_failed (c.requires.edits.running c.requires.running) in
    rw p.1 (halted ∙ ap (with_failed e) (sym none), subst (λ (o : Option InstalledEdit). IfSome o (λ asked. asked ≡ next_of c.args.edit.edit.asked e.last)) (sym none) tt)

pub returns-clause-table : goal.returns-clause-table
returns-clause-table g c = subst (λ (x : Asked). IfOk c.install.result (λ table. option_map arc_value table ≡ one_part x.versions)) c.in_ok-written.ensures.asked c.install.ensures.table

pub returns-clause-installed : goal.returns-clause-installed
returns-clause-installed g c =
    let k = c.in_ok-written.ensures in
    subst (λ (x : Asked × Segment × Installed). OnOk c.install.result (c.install.new.self.state ≡ record x.2 { last = asked_for x.0 x.1 x.2.last })) (λ i. (k.asked i, c.segment-segment.ensures i, k.written.0 i)) c.install.ensures.installed

pub returns-clause-parts : goal.returns-clause-parts
returns-clause-parts g c =
    subst (λ (x : Asked × List (List Version)). OnOk c.install.result (c.install.new.self.parts ≡ parts_after x.0 x.1)) (λ i. (c.in_ok-written.ensures.asked i, c.write_table.ensures.parts i)) c.install.ensures.parts

pub returns-clause-refused : goal.returns-clause-refused
returns-clause-refused g c =
    let k = c.in_ok-written.ensures in let e = c.args.edits.now.state in let next = next_of c.args.edit.edit.asked e.last in
    on_err c.install.result (λ (is : c.install.new.self.state ≡ with_failed c.write_table.new.self.state (Some (asked_for c.in_ok-written.written.edit.asked c.segment-segment.result c.write_table.new.self.state.last))).
    let halted : c.install.new.self.state ≡ with_failed e (Some next) = is ∙ (λ i. with_failed (k.written.0 i) (Some (asked_for (k.asked i) (c.segment-segment.ensures i) (k.written.0 i).last))) in
    let failed = ap (λ (t : Installed). t.failed) halted in
    (halted ∙ ap (with_failed e) (sym failed), subst (λ (o : Option InstalledEdit). IfSome o (λ asked. asked ≡ next)) (sym failed) refl)) c.install.ensures.refused

pub returns-clause-cause : goal.returns-clause-cause
returns-clause-cause g c =
    let same = c.in_ok-written.ensures.written.1.written.changed in
    on_err c.install.result (fault_since c.args.edits.now.set c.write_table.new.self.set c.install.new.self.set (ap (λ (s : TableSetState). s.manifest.log.faults) same) (ap (λ (s : TableSetState). s.faults) same)) c.install.ensures.cause

pub returns-clause-survives : goal.returns-clause-survives
returns-clause-survives g c =
    let k = c.in_ok-written.ensures in
    subst (SurvivesInstall c.args.edits.now c.install.new.self) (λ i. asked_for (k.asked i) (c.segment-segment.ensures i) (k.written.0 i).last) (c.install.ensures.survives c.args.edits.now k.written.1)
