use Rattle.std.proofs.Common.{◌≡◌, ℕ, [], sym, ◌∙◌, subst, arith}
use Rattle.std.specs.List.{AllByRecursion}
use Rattle.wp_outside.specs.Disk.{IfKnown}
use Rattle.wp_outside.specs.Faults.{Rose}
use Rattle.wp_cuts.specs.Cut.{Cut}
use Rattle.wp_history.specs.Outline.{cut_in}
use Rattle.wp_wal.specs.Opening.{IsOpenedLog}
use Rattle.wp_manifest.specs.Edit.{Edit, place_of}
use Rattle.wp_manifest.specs.Spelling.{last_edit}
use Rattle.wp_table.specs.File.{HasTables}
use Rattle.wp_table.specs.Table.{IsTable}
use Rattle.wp_contents.specs.Devices.{DevicesLeft, devices_of}
use Rattle.wp_refused.specs.Parts.{IsStoreOf}
use Rattle.wp_refused.specs.Refused.{AreLeft, WereRead}
use Rattle.wp_refused.specs.Tables.{IsStoreCause}
use Rattle.wp_refused.proofs.BothOpen.{edit_refused, logs_left, logs_read, same_stored}
use Rattle.wp_refused.proofs.Opened.{opens_to}
use Rattle.wp_refused.proofs.Stages.{edits_read, kept_tables}
use Rattle.wp_open.proofs.opening.open_parts.Goals as goal

-- ---- the parts

pub returns-in-Ok-open_store-clause-base : goal.returns-in-Ok-open_store-clause-base
returns-in-Ok-open_store-clause-base g c = c.in-Ok-open_store.ensures.base ∙ c.in-Ok.ensures.opened.log.stores.based

pub returns-in-Ok-open_store-clause-opened : goal.returns-in-Ok-open_store-clause-opened
returns-in-Ok-open_store-clause-opened g c =
    let tables = g.D.Peek.moments c.args.disks.tables in
    let wal = c.in-Ok.logs.wal in
    let manifest = c.in-Ok.logs.manifest in
    let outline = c.in-Ok.logs.outline in
    let l = c.in-Ok.ensures.opened in
    let history = c.in-Ok-open_store.history in
    let store = c.in-Ok-open_store.store in
    let edit = manifest.edit in
    let cut_is = same_stored wal outline history l.log.stores c.in-Ok-open_store.ensures.base c.in-Ok-open_store.ensures.cut in
    let id_is : c.id.result ≡ wal.id = c.id.ensures in
    let there = subst (λ (n : ℕ). IfKnown tables (λ m. HasTables n edit.flushed m.reads edit.tables store.tables)) id_is
    (subst (λ (e : Edit). IfKnown tables (λ m. HasTables c.id.result e.flushed m.reads e.tables store.tables)) c.edit.ensures (rw c.in-Ok.ensures.tables at c.in-Ok-open_store.ensures.there)) in
    record {
      id_fits = omega (arith, c.id.type_inv, c.id.ensures);
      opened = subst (λ (d : Cut). IsOpenedLog c.args.id (place_of edit) (g.D.Peek.moments c.args.disks.log) wal d) (sym cut_is) l.log;
      installed = l.manifest;
      one_id = l.one_id;
      store = subst (λ (d : Cut). IsStoreOf d history.entries edit store) (sym cut_is) (subst (λ (e : Edit). IsStoreOf (cut_in outline) history.entries e store) c.edit.ensures c.in-Ok-open_store.ensures.store);
      synced = rw c.in-Ok.ensures.tables at c.in-Ok-open_store.ensures.synced;
      there = there;
      are = subst (λ (n : ℕ). AllByRecursion (IsTable n edit.flushed) store.tables) id_is (subst (λ (e : Edit). AllByRecursion (IsTable c.id.result e.flushed) store.tables) c.edit.ensures c.in-Ok-open_store.ensures.are);
      kept = kept_tables (λ bytes. HasTables wal.id edit.flushed bytes edit.tables store.tables) tables (g.D.Peek.moments c.open_store.new.tables) (rw c.in-Ok.ensures.tables at c.in-Ok-open_store.ensures.synced) there;
    }

pub returns-in-Ok-open_store-clause-found : goal.returns-in-Ok-open_store-clause-found
returns-in-Ok-open_store-clause-found g c =
    let l = c.in-Ok.ensures.opened in
    record {
      opens =
          opens_to c.args.id (g.D.Peek.moments c.args.disks.log) (g.D.Peek.moments c.args.disks.manifest) (g.D.Peek.moments c.args.disks.tables) c.in-Ok.logs.wal c.in-Ok-open_store.history.entries c.in-Ok.logs.manifest
          (g.D.Peek.moments c.open_store.new.tables) c.in-Ok-open_store.store (returns-in-Ok-open_store-clause-opened g c);
      log = rw l.log.placed l.log_kept;
      manifest = l.manifest_kept;
      unfailed = (l.unfailed.0, l.unfailed.1, rw c.in-Ok.ensures.tables at c.in-Ok-open_store.ensures.unfailed);
    }

-- ---- what the last edit says is refused

pub returns-in-Err-open_store-clause-refused : goal.returns-in-Err-open_store-clause-refused
returns-in-Err-open_store-clause-refused g c =
    let tables = g.D.Peek.moments c.args.disks.tables in
    let wal = c.in-Ok.logs.wal in
    let manifest = c.in-Ok.logs.manifest in
    let cut = cut_in c.in-Ok.logs.outline in
    let l = c.in-Ok.ensures.opened in
    let id_is : c.id.result ≡ wal.id = c.id.ensures in
    let one_id : manifest.log.id ≡ wal.id = l.one_id in
    let rose = Rose (g.D.Peek.faults c.args.disks.tables) (g.D.Peek.faults c.open_store.new.tables) in
    let back = c.into_disk-in-Err-open_store.ensures in
    let log = c.into_disk.ensures in
    let cause = subst (λ (n : ℕ). IsStoreCause n cut c.edit.result.now rose tables c.in-Err-open_store.why) id_is (rw c.in-Ok.ensures.tables at c.in-Err-open_store.ensures.cause) in
    let old = devices_of g.D.Peek.moments g.D.Peek.faults c.args.disks in
    let new : DevicesLeft = record {
      log = g.D.Peek.moments c.into_disk.result;
      log_faults = g.D.Peek.faults c.into_disk.result;
      manifest = g.D.Peek.moments c.into_disk-in-Err-open_store.result;
      manifest_faults = g.D.Peek.faults c.into_disk-in-Err-open_store.result;
      tables = g.D.Peek.moments c.open_store.new.tables;
      tables_faults = g.D.Peek.faults c.open_store.new.tables;
    } in
    edit_refused c.a_store_is_opened_in_one_way.ensures.opened_or_damaged c.args.id _ _ old new c.in-Err-open_store.why wal.id cut l.manifest.edits
    (subst (λ (n : ℕ). WereRead n l.manifest.edits old.manifest) one_id (edits_read wal.id _ manifest l.manifest)) (logs_read c.args.id _ wal cut manifest l (omega (arith, c.id.type_inv, c.id.ensures)))
    (subst (λ (n : ℕ). AreLeft c.args.id wal.id n (place_of (last_edit l.manifest.edits)) cut l.manifest.edits old new) one_id (logs_left c.args.id old new wal cut manifest l log.moments log.faults back.moments (log.left cut [] l.log.stores l.log.running)))
    (subst (λ (x : Edit). IsStoreCause wal.id cut x rose tables c.in-Err-open_store.why) (c.edit.ensures ∙ l.manifest.stores.last) cause)
    (rw c.in-Ok.ensures.tables at c.in-Err-open_store.ensures.left)
    (rw back.moments l.manifest_kept.durable) (rw back.faults l.manifest_kept.later) (rw c.in-Ok.ensures.tables at c.open_store.ensures.later)
