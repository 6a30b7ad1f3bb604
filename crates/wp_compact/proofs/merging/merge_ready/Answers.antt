use Rattle.std.proofs.Common.{List, length, map, sym, subst, ap, ◌∙◌, arith}
use Rattle.std.specs.Arc.{arc_value}
use Rattle.std.specs.Option.{option_map}
use Rattle.wp_model.specs.declared.version.Version.{Version}
use Rattle.wp_store.specs.Store.{with_newest}
use Rattle.wp_tableset.specs.Changes.{Asked, one_part}
use Rattle.wp_maint.specs.Installs.{is_compaction, next_of, HasBroken, HasInstalled, MayInstall}
use Rattle.wp_maint.proofs.Found.{in_step_broken}
use Rattle.wp_compact.proofs.Merged.{alone, left_kept, next_covered, replaces_next, has_compacted, not_compacted, only_sorted}
use Rattle.wp_compact.proofs.Replaces.{may_compact}
use Rattle.wp_compact.proofs.merging.merge_ready.Goals as goal

pub install-requires-clause-ready : goal.install-requires-clause-ready
install-requires-clause-ready g c = c.requires.ready.ready

pub install-requires-clause-may : goal.install-requires-clause-may
install-requires-clause-may g c =
    let m = c.requires.may in let p = c.args.pinned.now in let r = c.args.ready in let e = c.args.edits.now in let a = c.args.seat.now.knows in
    subst (MayInstall a e.state) (sym c.requires.ready.asked)
    (may_compact a e.state r.kept c.requires.running (next_covered c.args.store.now c.args.seat.now c.args.seat.now e e p.floor.number p.live.items m.0 m.1 m.2 r.kept m.3) m.2.replace.gone)

pub with_first-requires : goal.with_first-requires
with_first-requires g c = let r = c.requires.ready in let n = ap length r.none in let room = r.room in omega (arith, n, room)

pub put_tables-requires-clause-holds : goal.put_tables-requires-clause-holds
put_tables-requires-clause-holds g c = c.in-Ok.ensures.installed.holds

pub put_tables-requires-clause-may : goal.put_tables-requires-clause-may
put_tables-requires-clause-may g c =
    let m = c.requires.may in let p = c.args.pinned.now in let r = c.args.ready in let e = c.args.edits.now in let left = c.install.new.edits in
    rw c.number.ensures (replaces_next c.args.store.now c.args.seat.now c.install.new.seat e left p.floor.number p.live.items m.0 m.1 m.2 r.kept m.3
    (subst (λ (x : Asked). HasInstalled c.args.store.now c.args.seat.now e (next_of x e.state.last) (is_compaction x.gone) c.install.new.seat left) c.requires.ready.asked c.in-Ok.ensures.installed) (c.in-Ok.ensures.gone (ap (λ (x : Asked). x.gone) c.requires.ready.asked)))

pub put_tables-requires-clause-tables : goal.put_tables-requires-clause-tables
put_tables-requires-clause-tables g c =
    let m = c.requires.may in let p = c.args.pinned.now in let r = c.args.ready in let e = c.args.edits.now in let left = c.install.new.edits in
    only_sorted r.kept c.as_slice.ensures.in_order (map arc_value c.with_first.result.items) (option_map arc_value c.in-Ok.table) (c.with_first.ensures ∙ ap (λ l. with_newest (option_map arc_value c.in-Ok.table) (map arc_value l)) c.requires.ready.none)
    (c.in-Ok.ensures.table ∙ ap (λ (x : Asked). one_part x.versions) c.requires.ready.asked)
    ∙ sym (left_kept c.args.store.now c.args.seat.now c.install.new.seat e left p.floor.number p.live.items m.0 m.1 m.2 r.kept m.3
    (subst (λ (x : Asked). HasInstalled c.args.store.now c.args.seat.now e (next_of x e.state.last) (is_compaction x.gone) c.install.new.seat left) c.requires.ready.asked c.in-Ok.ensures.installed))

pub returns-in-Ok-clause-says : goal.returns-in-Ok-clause-says
returns-in-Ok-clause-says g c =
    let m = c.requires.may in let p = c.args.pinned.now in let r = c.args.ready in let e = c.args.edits.now in let left = c.install.new.edits in
    rw c.number.ensures
    (has_compacted c.args.store.now c.args.seat.now c.install.new.seat e left p.floor.number p.live.items m.0 m.1 m.2 r.kept m.3
    (subst (λ (x : Asked). HasInstalled c.args.store.now c.args.seat.now e (next_of x e.state.last) (is_compaction x.gone) c.install.new.seat left) c.requires.ready.asked c.in-Ok.ensures.installed)
    c.requires.holds (alone e left r.kept r.edit.edit.asked c.requires.ready.asked c.in-Ok.ensures.parts) c.put_tables.new.seat _ c.put_tables.ensures.goes c.requires.running c.requires.several
    (length c.as_slice.result.now) (ap (λ (l : List Version). length l) c.as_slice.ensures.value))

pub returns-clause-in_step : goal.returns-clause-in_step
returns-clause-in_step g c =
    let r = c.requires.may.2.replace in
    in_step_broken c.args.store.now c.args.seat.now c.install.new.seat c.args.edits.now c.install.new.edits _ c.in-Err.ensures.refused (r.gone, (r.store_floor, r.named))

pub returns-clause-says : goal.returns-clause-says
returns-clause-says g c =
    let m = c.requires.may in let p = c.args.pinned.now in let r = c.args.ready in let e = c.args.edits.now in let left = c.install.new.edits in
    not_compacted c.args.store.now c.args.seat.now c.install.new.seat e left p.floor.number p.live.items m.0 m.1 m.2 r.kept m.3 c.requires.holds
    (subst (λ (x : Asked). HasBroken c.args.store.now c.args.seat.now e (next_of x e.state.last) c.install.new.seat left) c.requires.ready.asked c.in-Err.ensures.refused) c.requires.running c.requires.several
