use Rattle.std.proofs.Common.{Option, refl, sym, ap, ◌∙◌, subst, le_refl}
use Rattle.wp_table.specs.Walk.{BuiltTable}
use Rattle.wp_tableset.specs.Install.{IsReadyEdit, ReadyState}
use Rattle.wp_tableset.specs.Set.{TableSetState}
use Rattle.wp_tableset.proofs.StageLemmas.{none_written, not_written, ready_names, some_written}
use Rattle.wp_tableset.proofs.SetLemmas.{keeps_all, loses_none}
use Rattle.wp_tableset.proofs.set.TableSet.write_table.Goals as goal

pub returns-in_default-clause-written : goal.returns-in_default-clause-written
returns-in_default-clause-written g c =
    let none = subst (λ (r : ReadyState). IsReadyEdit c.args.self.now r) (sym c.ready.view_is ∙ ap (λ (b : Option BuiltTable). record { edit = c.ready.inside.room; built = b; asked = record { gone = c.ready.inside.gone; versions = c.ready.inside.versions.value; flushed = c.ready.inside.flushed } }) c.in_default.is) c.requires.ready in
    none_written c.args.self.now c.requires.running c.ready.inside.gone c.ready.inside.flushed c.ready.inside.versions.value c.ready.inside.room none

pub returns-in-Err-clause-refused : goal.returns-in-Err-clause-refused
returns-in-Err-clause-refused g c =
    rw (← c.self.view_is) (not_written _ (ap (λ (s : TableSetState). s.halted) c.self.view_is ∙ c.requires.running) c.ready.inside.gone c.ready.inside.flushed _ _ c.write_behind.ensures.grows c.in-Err.ensures.cause.failed)

pub returns-in-Err-clause-keeps : goal.returns-in-Err-clause-keeps
returns-in-Err-clause-keeps g c = rw (← c.self.view_is) (keeps_all _ _ c.write_behind.ensures.grows (ap (λ (s : TableSetState). s.halted) c.self.view_is ∙ c.requires.running) (λ edits next stores. loses_none _) refl c.write_behind.ensures.cause.later (le_refl _))

pub set_newest_place-requires : goal.set_newest_place-requires
set_newest_place-requires g c =
    let some = subst (λ (r : ReadyState). IsReadyEdit c.args.self.now r) (sym c.ready.view_is ∙ ap (λ (b : Option BuiltTable). record { edit = c.ready.inside.room; built = b; asked = record { gone = c.ready.inside.gone; versions = c.ready.inside.versions.value; flushed = c.ready.inside.flushed } }) c.in-Some.is) c.requires.ready in
    ready_names c.args.self.now c.ready.inside.room c.in-Some.built c.ready.inside.gone c.ready.inside.versions.value c.ready.inside.flushed some

pub returns-in-Ok-clause-written : goal.returns-in-Ok-clause-written
returns-in-Ok-clause-written g c =
    let set : TableSetState = record { manifest = c.self.inside.manifest; moments = g.D.Peek.moments c.self.inside.tables; faults = g.D.Peek.faults c.self.inside.tables; halted = c.self.inside.halted } in
    let some = subst (λ (r : ReadyState). IsReadyEdit set r) (sym c.ready.view_is ∙ ap (λ (b : Option BuiltTable). record { edit = c.ready.inside.room; built = b; asked = record { gone = c.ready.inside.gone; versions = c.ready.inside.versions.value; flushed = c.ready.inside.flushed } }) c.in-Some.is) (rw (← c.self.view_is) at c.requires.ready) in
    rw (← c.self.view_is) (some_written set (ap (λ (s : TableSetState). s.halted) c.self.view_is ∙ c.requires.running) c.ready.inside.gone c.ready.inside.flushed _ _ c.write_behind.ensures.grows c.ready.inside.versions.value c.in-Ok.place c.ready.inside.room c.set_newest_place.new.self c.in-Some.built some c.in-Ok.ensures.cause.ok c.in-Ok.ensures.place
    (rw c.bytes.ensures at c.in-Ok.ensures.synced) (rw c.bytes.ensures at c.in-Ok.ensures.calls) c.set_newest_place.ensures)

pub returns-in-Ok-clause-keeps : goal.returns-in-Ok-clause-keeps
returns-in-Ok-clause-keeps g c = rw (← c.self.view_is) (keeps_all _ _ c.write_behind.ensures.grows (ap (λ (s : TableSetState). s.halted) c.self.view_is ∙ c.requires.running) (λ edits next stores. loses_none _) refl c.write_behind.ensures.cause.later (le_refl _))
