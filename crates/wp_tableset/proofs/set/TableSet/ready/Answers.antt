use Rattle.std.proofs.Common.{◌≤◌, ℕ, List, length, Some, ap, ◌∙◌, subst}
use Rattle.wp_manifest.specs.Edit.{Edit}
use Rattle.wp_table.specs.Table.{SpellsTable, written_bytes}
use Rattle.wp_tableset.specs.Changes.{Asked, staying}
use Rattle.wp_tableset.specs.Install.{built_of}
use Rattle.wp_tableset.specs.Set.{TableSetState}
use Rattle.wp_tableset.proofs.StageLemmas.{asked_count, ready_places}
use Rattle.wp_tableset.proofs.set.TableSet.ready.Goals as goal

pub room-requires-clause-count : goal.room-requires-clause-count
room-requires-clause-count g c =
    let asked : Asked = record { gone = c.args.gone; versions = c.args.versions.now; flushed = c.args.flushed } in
    let id = c.id.ensures ∙ ap (λ (s : TableSetState). s.manifest.log.id) c.self.view_is in
    let others = c.staying.ensures ∙ ap (staying c.args.gone) (c.deref.ensures.value ∙ ap (λ (e : Edit). e.tables) (c.behind-self.view_is ∙ c.edit.ensures) ∙ ap (λ (s : TableSetState). s.manifest.edit.tables) c.self.view_is) in
    let items = ready_places c.args.self.now asked c.id.result c.in_ok-built.built c.in_ok-tables.tables.items c.staying.result.now c.extend_from_slice.new.self.items id c.in_ok-built.ensures.built c.in_ok-tables.ensures others c.in_ok-extend_from_slice.ensures.items in
    let count = subst (λ (s : TableSetState). length s.manifest.edit.tables ≤ s.manifest.edit.flushed) c.self.view_is c.self.invariant.count in
    rw items (asked_count c.args.self.now c.args.gone c.args.versions.now c.args.flushed 0 0 count c.requires)

pub returns-clause-ready : goal.returns-clause-ready
returns-clause-ready g c =
    let asked : Asked = record { gone = c.args.gone; versions = c.args.versions.now; flushed = c.args.flushed } in
    let id = c.id.ensures ∙ ap (λ (s : TableSetState). s.manifest.log.id) c.self.view_is in
    let others = c.staying.ensures ∙ ap (staying c.args.gone) (c.deref.ensures.value ∙ ap (λ (e : Edit). e.tables) (c.behind-self.view_is ∙ c.edit.ensures) ∙ ap (λ (s : TableSetState). s.manifest.edit.tables) c.self.view_is) in
    let items = ready_places c.args.self.now asked c.id.result c.in_ok-built.built c.in_ok-tables.tables.items c.staying.result.now c.extend_from_slice.new.self.items id c.in_ok-built.ensures.built c.in_ok-tables.ensures others c.in_ok-extend_from_slice.ensures.items in
    rw c.of.ensures record {
      may = c.requires;
      in_order = c.in_ok-built.ensures.in_order;
      edit = c.in_ok-room.ensures ∙ ap (λ (ts : List (ℕ × ℕ)). record { flushed = c.args.flushed; place = Some 0; tables = ts }) items;
      built = c.in_ok-built.ensures.built ∙ ap (λ (n : ℕ). built_of n c.args.versions.now) id;
      spelled = λ some. subst (λ (n : ℕ). SpellsTable n c.args.flushed c.args.versions.now (written_bytes n c.args.versions.now)) id (c.in_ok-built.ensures.spelled c.args.flushed c.requires.flushed_all some);
    }
