use Rattle.std.proofs.Common.{◌≤◌, length, Some, sym, ap, ◌∙◌, subst, le_refl}
use Rattle.wp_outside.specs.Disk.{Passes}
use Rattle.wp_gatelog.specs.Moments.{Leaves}
use Rattle.wp_manifest.specs.Edit.{Edit}
use Rattle.wp_manifest.specs.Spelling.{IsManifestOrNext}
use Rattle.wp_manifest.proofs.InstallLemmas.{names_there}
use Rattle.wp_tableset.specs.Install.{HasSome, IsReady, WrittenEditState}
use Rattle.wp_tableset.specs.Changes.{Asked}
use Rattle.wp_tableset.specs.Set.{TableSetState}
use Rattle.wp_tableset.proofs.StageLemmas.{edits_there, last_there, next_there, unmoved_set, written_count}
use Rattle.wp_tableset.proofs.SetLemmas.{edit_failed, edit_installed, keeps_all}
use Rattle.wp_tableset.proofs.set.TableSet.install.Goals as goal

pub invariant_of-self : goal.invariant_of-self
invariant_of-self g c =
    let w = c.requires.written in
    let ready = subst (λ (s : TableSetState). IsReady s.manifest s.halted) c.self.view_is c.self.invariant in
    let count = written_count w.0 c.args.self.now c.args.written.edit c.args.written.asked ready w.1 in
    let last = c.in-Ok.ensures.installs.last ∙ c.set_log_place.ensures ∙ ap (λ (r : WrittenEditState). record r.edit { place = Some c.args.log_place }) c.written.view_is in
    record { running = λ _. c.in-Ok.ensures.installs.running.1; count = subst (λ (e : Edit). length e.tables ≤ e.flushed) (sym last) count }

pub returns-in-Ok-clause-installs : goal.returns-in-Ok-clause-installs
returns-in-Ok-clause-installs g c =
    let named = c.set_log_place.ensures ∙ ap (λ (r : WrittenEditState). record r.edit { place = Some c.args.log_place }) c.written.view_is in
    rw (← c.self.view_is, ← named) (edit_installed _ _ _ _ _ c.set_log_place.new.self c.in-Ok.ensures.installs.any_moment _ (ap (λ (s : TableSetState). s.halted) c.self.view_is ∙ c.requires.running) c.in-Ok.ensures.installs.installed c.in-Ok.ensures.installs.last c.in-Ok.ensures.installs.unfailed)

pub returns-in-Ok-clause-keeps : goal.returns-in-Ok-clause-keeps
returns-in-Ok-clause-keeps g c =
    rw (← c.self.view_is) (keeps_all _ _ (unmoved_set _) (ap (λ (s : TableSetState). s.halted) c.self.view_is ∙ c.requires.running) c.in-Ok.ensures.installs.durable c.in-Ok.ensures.installs.id (le_refl _) c.in-Ok.ensures.installs.later)

pub returns-in-Err-DiskFault-clause-installs : goal.returns-in-Err-DiskFault-clause-installs
returns-in-Err-DiskFault-clause-installs g c =
    let named = c.set_log_place.ensures ∙ ap (λ (r : WrittenEditState). record r.edit { place = Some c.args.log_place }) c.written.view_is in
    rw (← c.self.view_is, ← named) (edit_failed _ _ _ _ _ c.set_log_place.new.self c.in-Err-DiskFault.ensures.installs.any_moment _ (rw c.in-Err-DiskFault.field-0-is at c.in-Err-DiskFault.ensures.installs.refused))

pub returns-in-Err-DiskFault-clause-keeps : goal.returns-in-Err-DiskFault-clause-keeps
returns-in-Err-DiskFault-clause-keeps g c =
    rw (← c.self.view_is) (keeps_all _ _ (unmoved_set _) (ap (λ (s : TableSetState). s.halted) c.self.view_is ∙ c.requires.running) c.in-Err-DiskFault.ensures.installs.durable c.in-Err-DiskFault.ensures.installs.id (le_refl _) c.in-Err-DiskFault.ensures.installs.later)

pub returns-in-Ok-clause-joint : goal.returns-in-Ok-clause-joint
returns-in-Ok-clause-joint g c =
    let i = c.self.inside in let r = c.written.inside in let log = c.args.log_place in
    let set : TableSetState = record { manifest = i.manifest; moments = g.D.Peek.moments i.tables; faults = g.D.Peek.faults i.tables; halted = i.halted } in
    let asked : Asked = record { gone = r.gone; versions = r.versions.value; flushed = r.flushed } in
    let open_ = c.self.invariant.running (ap (λ (s : TableSetState). s.halted) c.self.view_is ∙ c.requires.running) in
    rw (← c.self.view_is, ← c.written.view_is) (λ old edits parts w stores.
    let there = edits_there old set r.room asked log w edits parts stores in
    names_there (HasSome set) i.manifest c.install.new.self.log.moments set.moments (record r.room { place = Some log }) edits there (last_there old set r.room asked log w edits parts stores) (next_there old set r.room asked log w edits parts stores)
    (subst (λ (e : Edit). Passes (Leaves (IsManifestOrNext i.manifest.log.id edits e)) i.manifest.log.moments c.install.new.self.log.moments) c.set_log_place.ensures (c.in-Ok.ensures.installs.any_moment edits there open_)))

pub returns-in-Err-DiskFault-clause-joint : goal.returns-in-Err-DiskFault-clause-joint
returns-in-Err-DiskFault-clause-joint g c =
    let i = c.self.inside in let r = c.written.inside in let log = c.args.log_place in
    let set : TableSetState = record { manifest = i.manifest; moments = g.D.Peek.moments i.tables; faults = g.D.Peek.faults i.tables; halted = i.halted } in
    let asked : Asked = record { gone = r.gone; versions = r.versions.value; flushed = r.flushed } in
    let open_ = c.self.invariant.running (ap (λ (s : TableSetState). s.halted) c.self.view_is ∙ c.requires.running) in
    rw (← c.self.view_is, ← c.written.view_is) (λ old edits parts w stores.
    let there = edits_there old set r.room asked log w edits parts stores in
    names_there (HasSome set) i.manifest c.install.new.self.log.moments set.moments (record r.room { place = Some log }) edits there (last_there old set r.room asked log w edits parts stores) (next_there old set r.room asked log w edits parts stores)
    (subst (λ (e : Edit). Passes (Leaves (IsManifestOrNext i.manifest.log.id edits e)) i.manifest.log.moments c.install.new.self.log.moments) c.set_log_place.ensures (c.in-Err-DiskFault.ensures.installs.any_moment edits there open_)))
