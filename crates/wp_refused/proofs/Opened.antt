-- What the parts of an opening say of bytes: of those that were found, and of those that a crash leaves.
use Rattle.std.proofs.Common.{◌≡◌, ℕ, List, [], ◌∷◌, false, ap, subst}
use Rattle.wp_model.specs.declared.entry.Entry.{Entry}
use Rattle.wp_outside.specs.Disk.{Moment, IfKnown, images}
use Rattle.wp_gatelog.proofs.SurvivalLemmas.{rest_spells}
use Rattle.wp_cuts.specs.Cut.{Cut}
use Rattle.wp_wal.specs.Spelling.{IsLogAt}
use Rattle.wp_wal.specs.Wal.{WalState, StoresCut, LeavesCut}
use Rattle.wp_wal.proofs.AppendLemmas.{running_cut}
use Rattle.wp_manifest.specs.Edit.{Edit, place_of}
use Rattle.wp_manifest.specs.Manifest.{ManifestState, Opened}
use Rattle.wp_manifest.specs.Spelling as edits
use Rattle.wp_store.specs.Store.{StoreParts}
use Rattle.wp_table.specs.File.{HasTables}
use Rattle.wp_contents.specs.Opens.{AllKnown, AreCovering, OpensTo, installed_of}
use Rattle.wp_refused.specs.Parts.{PartsOpened, stored_cut}

log_spells : (state : WalState) (c : Cut) (image : List ℕ) → StoresCut state c [] → state.closed ≡ false → images state.moments image → IsLogAt state.id state.segment.place c image
log_spells state c image s running is = by state.moments (running_cut state c [] s running) is
  where
    by : (ms : List Moment) → IfKnown ms (LeavesCut state.id state.segment.place c) → images ms image → IsLogAt state.id state.segment.place c image
    by [] left there = absurd there
    by (m ∷ past) left there = (left image there).0

manifest_spells : (asked : ℕ) (before : List Moment) (state : ManifestState) (o : Opened asked before state) (image : List ℕ) → images state.log.moments image → edits.IsManifestOf state.log.id o.edits image
manifest_spells asked before state o image is = (
  o.stores.records,
  rest_spells edits.MAGIC (edits.head_stamp state.log.id) state.log.end [] [] o.stores.records state.log.moments (o.stores.rests o.running) image is,
  o.stores.spelled,
)

-- bytes that spell the parts open to them
spelled_opens : (asked : ℕ) (log manifest tables : List Moment) (state : WalState) (history : List Entry) (list : ManifestState) (tables_now : List Moment) (parts : StoreParts) (p : PartsOpened asked log manifest tables state history list tables_now parts) (l m t : List ℕ)
    → IsLogAt state.id (place_of list.edit) (stored_cut state history) l → edits.IsManifestOf list.log.id p.installed.edits m → HasTables state.id list.edit.flushed t list.edit.tables parts.tables → OpensTo state.id history (installed_of state.segment.base list.edit parts.tables) l m t
spelled_opens asked log manifest tables state history list tables_now parts p l m t in_log in_manifest in_tables =
    let last : list.edit ≡ edits.last_edit p.installed.edits = p.installed.stores.last in
    let c = stored_cut state history in (
      record {
        id_fits = p.id_fits;
        edits = p.installed.edits;
        installed = subst (λ (n : ℕ). edits.IsManifestOf n p.installed.edits m) p.one_id in_manifest;
        cut = c;
        spelled = subst (λ (e : Edit). IsLogAt state.id (place_of e) c l) last in_log;
        judged = p.opened.judged;
        parts = parts.tables;
        there = subst (λ (e : Edit). HasTables state.id e.flushed t e.tables parts.tables) last in_tables;
        full = p.store.full;
        legal = p.store.legal;
        covering = subst (λ (e : Edit). AreCovering c e parts.tables) last p.store.covering;
      },
      ap (λ (e : Edit). installed_of state.segment.base e parts.tables) last,
    )

-- where the devices are known, they open to what is handed out
pub opens_to : (asked : ℕ) (log manifest tables : List Moment) (state : WalState) (history : List Entry) (list : ManifestState) (tables_now : List Moment) (parts : StoreParts)
    → PartsOpened asked log manifest tables state history list tables_now parts → AllKnown log manifest tables (OpensTo state.id history (installed_of state.segment.base list.edit parts.tables))
opens_to asked [] manifest tables state history list tables_now parts p = tt
opens_to asked (l ∷ ls) [] tables state history list tables_now parts p = tt
opens_to asked (l ∷ ls) (m ∷ ms) [] state history list tables_now parts p = tt
opens_to asked (l ∷ ls) (m ∷ ms) (t ∷ ts) state history list tables_now parts p =
    spelled_opens asked (l ∷ ls) (m ∷ ms) (t ∷ ts) state history list tables_now parts p l.reads m.reads t.reads p.opened.found p.installed.found p.there

-- ... and what a crash leaves opens to it again
pub opens_again : (asked : ℕ) (log manifest tables : List Moment) (state : WalState) (history : List Entry) (list : ManifestState) (tables_now : List Moment) (parts : StoreParts) (l m t : List ℕ)
    → PartsOpened asked log manifest tables state history list tables_now parts → images state.moments l → images list.log.moments m → images tables_now t → OpensTo state.id history (installed_of state.segment.base list.edit parts.tables) l m t
opens_again asked log manifest tables state history list tables_now parts l m t p in_log in_manifest in_tables =
    let spells = log_spells state (stored_cut state history) l p.opened.stores p.opened.running in_log in
    let there = subst (λ (n : ℕ). IsLogAt state.id n (stored_cut state history) l) p.opened.placed spells in
    spelled_opens asked log manifest tables state history list tables_now parts p l m t there (manifest_spells state.id manifest list p.installed m in_manifest) (p.kept t in_tables)
