use Rattle.std.proofs.Common.{◌≡◌, ◌≢◌, [], inl, inr, refl, sym, ap, subst, ◌∙◌, ℕ, arith}
use Rattle.wp_history.specs.Outline.{cut_in}
use Rattle.wp_manifest.specs.Edit.{place_of}
use Rattle.wp_refused.specs.declared.bad.Bad.{Bad}
use Rattle.wp_refused.specs.declared.error.OpenError.TheVariants as open_error
use Rattle.wp_refused.specs.Refused.{IsLogBroken, IsLogLeft, IsLogSeen, WasRead}
use Rattle.wp_refused.proofs.BothOpen.{ids_refused, log_left, log_refused, manifest_left, manifest_refused, new_refused, other_there, place_refused, repair_refused, stranger_refused}
use Rattle.wp_refused.proofs.Stages.{edits_read, none_there, opened_read, was_read}
use Rattle.wp_contents.specs.Devices.{DevicesLeft, devices_of}
use Rattle.wp_logs.specs.Seen.{HasSame, seen_faults, seen_moments}
use Rattle.wp_logs.proofs.SeenLogs.{as_elsewhere, as_none, as_other, as_seen, as_stranger, logs_opened}
use Rattle.wp_logs.proofs.logs.open_logs.Goals as goal

-- ---- the manifest is refused

pub returns-in-Err-clause-refused : goal.returns-in-Err-clause-refused
returns-in-Err-clause-refused g c =
    let e = c.in-Err.ensures in
    rw (c.refuse.ensures.log, c.refuse.ensures.manifest, c.refuse.ensures.tables, c.refuse.ensures.why)
    (manifest_refused c.a_store_is_opened_in_one_way.ensures.opened_or_damaged c.args.id _ _ _ _ _ refl (omega arith) c.in-Err.field-0.why c.manifest_reason.ensures e.refused e.kept refl (omega arith))

-- ---- the log is refused at its place

pub returns-in-Err-read-clause-refused : goal.returns-in-Err-read-clause-refused
returns-in-Err-read-clause-refused g c =
    let s = as_seen c.args.id g.D.Peek.moments g.D.Peek.faults c.args.disks.manifest c.in-Ok.seen c.in-Ok.ensures.made in
    let e = c.in-Err-read.ensures in
    rw (c.refuse-in-Err-read.ensures.log, c.refuse-in-Err-read.ensures.manifest, c.refuse-in-Err-read.ensures.tables, c.refuse-in-Err-read.ensures.why, c.into_disk.ensures.moments, c.into_disk.ensures.faults)
    (log_refused c.a_store_is_opened_in_one_way.ensures.opened_or_damaged c.args.id _ _ _ _ _ refl (omega arith) s.found s.list c.place.result c.in-Err-read.field-0.why (c.place.ensures ∙ s.place) s.reads s.left c.log_reason.ensures e.refused e.faults s.durable s.later)

-- ---- it is another store's

pub returns-in-Some-clause-refused : goal.returns-in-Some-clause-refused
returns-in-Some-clause-refused g c =
    let read = c.in-Ok-read.read in
    let is = c.in-Ok-read.ensures.read in
    let id = c.id-log.ensures in
    let found = c.in-Some.found in
    let s = as_other c.args.id g.D.Peek.moments g.D.Peek.faults c.args.disks.manifest c.id-log.result found c.in-Ok.seen c.in-Ok.ensures.made (omega arith) c.in-Some.ensures.some in
    let place = c.place.ensures ∙ s.place in
    let cut = cut_in read.outline in
    let finds = subst (λ (n : ℕ). WasRead c.args.id c.id-log.result n cut (g.D.Peek.moments c.args.disks.log)) place
    (subst (λ (n : ℕ). WasRead c.args.id n c.place.result cut (g.D.Peek.moments c.args.disks.log)) (sym id) (was_read c.args.id read.log.id c.place.result cut _ (omega (arith, id, c.id-log.type_inv)) is.told.judged is.found is.made)) in
    let seen : IsLogSeen c.id-log.result c.place.result cut (g.D.Peek.moments c.args.disks.log) read.log.moments =
    subst (λ (n : ℕ). IsLogSeen n c.place.result cut (g.D.Peek.moments c.args.disks.log) read.log.moments) (sym id) (record { found = is.found; left = is.log.synced }) in
    rw (c.refuse-in-Some.ensures.log, c.refuse-in-Some.ensures.manifest, c.refuse-in-Some.ensures.tables, c.refuse-in-Some.ensures.why, c.into_disk-in-Some.ensures.moments, c.into_disk-in-Some.ensures.faults, c.into_disk-in-Some-2.ensures.moments, c.into_disk-in-Some-2.ensures.faults)
    (ids_refused c.a_store_is_opened_in_one_way.ensures.opened_or_damaged c.args.id _ _ _ _ _ refl (omega arith) c.id-log.result found cut s.list s.reads finds s.differ s.other
    (subst (λ (n : ℕ). IsLogSeen c.id-log.result n cut (g.D.Peek.moments c.args.disks.log) read.log.moments) place seen) s.left refl (omega (arith, c.in-Ok-read.ensures.faults)) s.durable s.later)

-- ---- its device fails while it is repaired

pub returns-in-Err-repair-clause-refused : goal.returns-in-Err-repair-clause-refused
returns-in-Err-repair-clause-refused g c =
    let read = c.in-Ok-read.read in
    let is = c.in-Ok-read.ensures.read in
    let same = c.in-Ok-read.ensures.faults in
    let s = as_seen c.args.id g.D.Peek.moments g.D.Peek.faults c.args.disks.manifest c.in-Ok.seen c.in-Ok.ensures.made in
    let place = c.place.ensures ∙ s.place in
    let rose = c.in-Err-repair.ensures.failed in
    let disk = c.in-Err-repair.field-0.disk in
    let keeps = rw same at (c.in-Err-repair.ensures.kept c.args.id c.place.result (g.D.Peek.moments c.args.disks.log) is) in
    let old : DevicesLeft = devices_of g.D.Peek.moments g.D.Peek.faults c.args.disks in
    let new : DevicesLeft = record {
      log = g.D.Peek.moments disk;
      log_faults = g.D.Peek.faults disk;
      manifest = seen_moments g.D.Peek.moments c.in-Ok.seen;
      manifest_faults = seen_faults g.D.Peek.faults c.in-Ok.seen;
      tables = g.D.Peek.moments c.args.disks.tables;
      tables_faults = g.D.Peek.faults c.args.disks.tables;
    } in
    rw (c.refuse-in-Err-repair.ensures.log, c.refuse-in-Err-repair.ensures.manifest, c.refuse-in-Err-repair.ensures.tables, c.refuse-in-Err-repair.ensures.why, c.into_disk-in-Err-repair.ensures.moments, c.into_disk-in-Err-repair.ensures.faults)
    (repair_refused c.a_store_is_opened_in_one_way.ensures.opened_or_damaged c.args.id _ _ old new _ refl (omega arith) c.id-log.result s.found (cut_in read.outline) s.list s.reads (s.under c.id-log.result (c.in_default.ensures.none))
    (subst (λ (n : ℕ). IsLogBroken c.args.id c.id-log.result n (cut_in read.outline) old new) place (subst (λ (n : ℕ). IsLogBroken c.args.id n c.place.result (cut_in read.outline) old new) (sym c.id-log.ensures) (record { found = is.found; kept = keeps })))
    (rw same at rose) refl s.durable s.later)

-- ---- no manifest is made

pub returns-in-Err-open-clause-refused : goal.returns-in-Err-open-clause-refused
returns-in-Err-open-clause-refused g c =
    let read = c.in-Ok-read.read in
    let is = c.in-Ok-read.ensures.read in
    let same = c.in-Ok-read.ensures.faults in
    let wal = c.in-Ok-repair.opened.0 in
    let cut = cut_in read.outline in
    let back = c.into_disk-in-Err-open.ensures in
    let opened = c.in-Ok-repair.ensures.opened c.args.id c.place.result (g.D.Peek.moments c.args.disks.log) is in
    let keeps = rw same at (c.in-Ok-repair.ensures.kept c.args.id c.place.result (g.D.Peek.moments c.args.disks.log) is) in
    let id : wal.id ≡ c.id-log.result = c.in-Ok-repair.ensures.same.0 ∙ sym c.id-log.ensures in
    let s = as_none c.args.id g.D.Peek.moments g.D.Peek.faults c.args.disks.manifest c.id-log.result c.in-Ok.seen c.in-Err-open.field-0.disk c.in-Err-open.field-0.why c.in-Ok.ensures.made c.in-Err-open.ensures.refused in
    let old : DevicesLeft = devices_of g.D.Peek.moments g.D.Peek.faults c.args.disks in
    let new : DevicesLeft = record {
      log = g.D.Peek.moments c.into_disk-in-Err-open.result;
      log_faults = g.D.Peek.faults c.into_disk-in-Err-open.result;
      manifest = g.D.Peek.moments c.in-Err-open.field-0.disk;
      manifest_faults = g.D.Peek.faults c.in-Err-open.field-0.disk;
      tables = g.D.Peek.moments c.args.disks.tables;
      tables_faults = g.D.Peek.faults c.args.disks.tables;
    } in
    let left = log_left c.args.id c.place.result old new wal cut opened back.moments back.faults keeps (back.left cut [] opened.stores opened.running) in
    let front : c.place.result ≡ 0 = c.place.ensures ∙ s.front in
    rw (c.refuse-in-Err-open.ensures.log, c.refuse-in-Err-open.ensures.manifest, c.refuse-in-Err-open.ensures.tables, c.refuse-in-Err-open.ensures.why)
    (new_refused c.a_store_is_opened_in_one_way.ensures.opened_or_damaged c.args.id _ _ old new _ refl (omega arith) c.id-log.result cut c.in-Err-open.field-0.why s.unmade
    (subst (λ (n : ℕ). IsLogLeft c.args.id c.id-log.result n cut old new) front (subst (λ (n : ℕ). IsLogLeft c.args.id n c.place.result cut old new) id left)) c.manifest_reason-in-Err-open.ensures s.unopened s.kept)

-- ---- one that was made names another place, or has another id

pub returns-in-Err-may_open-clause-refused : goal.returns-in-Err-may_open-clause-refused
returns-in-Err-may_open-clause-refused g c =
    let law = c.a_store_is_opened_in_one_way.ensures.opened_or_damaged in
    let manifest = g.D.Peek.moments c.args.disks.manifest in
    let is = c.in-Ok-read.ensures.read in
    let same = c.in-Ok-read.ensures.faults in
    let wal = c.in-Ok-repair.opened.0 in
    let edits = c.in-Ok-open.manifest in
    let cut = cut_in c.in-Ok-read.read.outline in
    let opened = c.in-Ok-repair.ensures.opened c.args.id c.place.result (g.D.Peek.moments c.args.disks.log) is in
    let keeps = rw same at (c.in-Ok-repair.ensures.kept c.args.id c.place.result (g.D.Peek.moments c.args.disks.log) is) in
    let id : c.id-log.result ≡ wal.id = c.id-log.ensures ∙ sym c.in-Ok-repair.ensures.same.0 in
    let made = c.in-Ok.ensures.made in
    let same = subst (λ (n : ℕ). HasSame n c.in-Ok.seen) id c.in_default.ensures.none in
    let opens = rw id at c.in-Ok-open.ensures.opened in
    let place = opened.placed ∙ c.place.ensures in
    let back = c.into_disk-in-Err-may_open.ensures in
    let old : DevicesLeft = devices_of g.D.Peek.moments g.D.Peek.faults c.args.disks in
    let new : DevicesLeft = record {
      log = g.D.Peek.moments c.into_disk-in-Err-may_open.result;
      log_faults = g.D.Peek.faults c.into_disk-in-Err-may_open.result;
      manifest = edits.log.moments;
      manifest_faults = edits.log.faults;
      tables = g.D.Peek.moments c.args.disks.tables;
      tables_faults = g.D.Peek.faults c.args.disks.tables;
    } in
    let left = log_left c.args.id c.place.result old new wal cut opened back.moments back.faults keeps (back.left cut [] opened.stores opened.running) in
    rw (c.refuse-in-Err-may_open.ensures.log, c.refuse-in-Err-may_open.ensures.manifest, c.refuse-in-Err-may_open.ensures.tables, c.refuse-in-Err-may_open.ensures.why, c.into_disk-in-Err-may_open-2.ensures.moments, c.into_disk-in-Err-may_open-2.ensures.faults)
    (elim c.in-Err-may_open.ensures.err [
      | inl (other, named) ↦
          let s = as_elsewhere c.args.id g.D.Peek.moments g.D.Peek.faults c.args.disks.manifest wal.id c.in-Ok.seen edits made same opens (λ e. other (e ∙ sym place)) in
          let elsewhere : place_of edits.edit ≢ 0 = λ e. other (e ∙ sym (place ∙ s.front)) in
          place_refused law c.args.id _ _ old new _ refl (omega arith) wal.id edits.log.id cut s.opened.edits (none_there c.a_manifest_is_read_in_one_way.ensures.one_list wal.id manifest edits s.opened s.unmade elsewhere)
          (record { log = subst (λ (n : ℕ). IsLogLeft c.args.id wal.id n cut old new) (c.place.ensures ∙ s.front) left; manifest = manifest_left wal.id wal.id manifest edits.log.moments edits s.opened refl s.kept.survives })
          (λ e. elsewhere (ap place_of s.opened.stores.last ∙ e)) (ap (λ (b : Bad). open_error.Contents b) named) s.kept.durable s.kept.later
      | inr (there, differ, named) ↦
          let s = as_stranger c.args.id g.D.Peek.moments g.D.Peek.faults c.args.disks.manifest wal.id c.in-Ok.seen edits made same opens differ in
          stranger_refused law c.args.id _ _ old new _ refl (omega arith) wal.id edits.log.id cut s.opened.edits (other_there wal.id manifest edits s.opened s.unmade differ) (edits_read wal.id manifest edits s.opened)
          (subst (λ (n : ℕ). WasRead c.args.id wal.id n cut (g.D.Peek.moments c.args.disks.log)) (sym opened.placed ∙ sym there ∙ ap place_of s.opened.stores.last) (opened_read c.args.id c.place.result (g.D.Peek.moments c.args.disks.log) wal cut (omega (arith, id, c.id-log.type_inv)) opened))
          (record { log = subst (λ (n : ℕ). IsLogLeft c.args.id wal.id n cut old new) (c.place.ensures ∙ s.front) left; manifest = manifest_left wal.id wal.id manifest edits.log.moments edits s.opened refl s.kept.survives })
          differ (ap (λ (b : Bad). open_error.Contents b) named) s.kept.durable s.kept.later
    ])

-- ---- both are open

pub returns-in-Ok-may_open-clause-opened : goal.returns-in-Ok-may_open-clause-opened
returns-in-Ok-may_open-clause-opened g c =
    let is = c.in-Ok-read.ensures.read in
    let same = c.in-Ok-read.ensures.faults in
    let wal = c.in-Ok-repair.opened.0 in
    let opened = c.in-Ok-repair.ensures.opened c.args.id c.place.result (g.D.Peek.moments c.args.disks.log) is in
    let keeps = rw same at (c.in-Ok-repair.ensures.kept c.args.id c.place.result (g.D.Peek.moments c.args.disks.log) is) in
    let id : c.id-log.result ≡ wal.id = c.id-log.ensures ∙ sym c.in-Ok-repair.ensures.same.0 in
    let edits = c.in-Ok-open.manifest in
    let ok = c.in-Ok-may_open.ensures.ok in
    rw (c.in-Ok-repair.ensures.same.1)
    (logs_opened c.args.id g.D.Peek.moments g.D.Peek.faults c.args.disks c.in-Ok.seen wal (cut_in c.in-Ok-read.read.outline) edits c.in-Ok.ensures.made
    (subst (λ (n : ℕ). HasSame n c.in-Ok.seen) id c.in_default.ensures.none) (rw id at c.in-Ok-open.ensures.opened)
    (rw c.place.ensures at opened) (rw c.place.ensures at keeps) (c.in-Ok-repair.ensures.unfailed ∙ same) ok.0 ok.1)
