use Rattle.std.proofs.Common.{List, sym, ap, subst, ◌∙◌}
use Rattle.wp_model.specs.declared.entry.Entry.{Entry}
use Rattle.wp_model.specs.Legal.{undone_last}
use Rattle.wp_refused.specs.Parts.{PartsOpened, ArePartsOf}
use Rattle.wp_parts.specs.Devices.{DevicesLeft, devices_of}
use Rattle.wp_opened.proofs.Opened.{refused_late}
use Rattle.wp_opened.proofs.OpeningLemmas.{closed_undo}
use Rattle.wp_opened.proofs.opening.open_shared.Goals as goal

pub share-requires-clause-opened : goal.share-requires-clause-opened
share-requires-clause-opened g c = (c.args.id, g.D.Peek.moments c.args.disks.log, g.D.Peek.moments c.args.disks.manifest, g.D.Peek.moments c.args.disks.tables, c.in-Ok.ensures.opened)

pub returns-in-Ok-share-clause-opened : goal.returns-in-Ok-share-clause-opened
returns-in-Ok-share-clause-opened g c =
    let e = c.in-Ok.ensures in let parts = c.in-Ok.parts in
    let tables = g.D.Peek.moments parts.tables in
    let same = sym c.in-Ok-share.ensures.store.0 in
    let old : DevicesLeft = devices_of g.D.Peek.moments g.D.Peek.faults c.args.disks in record {
      wal = parts.wal;
      edits = parts.manifest;
      tables = tables;
      tables_faults = g.D.Peek.faults parts.tables;
      versions = parts.store;
      log_is = c.in-Ok-share.ensures.parts.log_is;
      set_is = c.in-Ok-share.ensures.parts.set_is;
      last_is = c.in-Ok-share.ensures.parts.last_is;
      parts = subst (λ (h : List Entry). PartsOpened c.args.id old.log old.manifest old.tables parts.wal h parts.manifest tables parts.store) same e.opened;
      found = subst (λ (h : List Entry). ArePartsOf c.args.id old parts.wal h parts.manifest (g.D.Peek.faults parts.tables) parts.store) same e.found;
    }

pub returns-in-Ok-share-clause-whole : goal.returns-in-Ok-share-clause-whole
returns-in-Ok-share-clause-whole g c = ap undone_last c.in-Ok-share.ensures.store.0 ∙ closed_undo _ _ _ _ _ _ _ _ _ c.in-Ok.ensures.opened

pub returns-in-Err-share-clause-refused : goal.returns-in-Err-share-clause-refused
returns-in-Err-share-clause-refused g c =
    let e = c.in-Ok.ensures in let parts = c.in-Ok.parts in
    refused_late _ _ c.args.id (devices_of g.D.Peek.moments g.D.Peek.faults c.args.disks) _ parts.wal parts.history.entries parts.manifest (g.D.Peek.moments parts.tables) (g.D.Peek.faults parts.tables) parts.store
    c.in-Err-share.ensures.refused e.opened e.found
