-- What each step of an opening says of the whole: why it is refused, and what it leaves.
use Rattle.std.proofs.Common.{◌≡◌, ◌≢◌, ◌↔◌, ◌⊎◌, ⊎_elim, inl, inr, ℕ, ◌<◌, ◌≤◌, ◌^◌, Bool, true, false, true≢false, List, [], ◌∷◌, length, sym, subst, ap, ◌∙◌, arith}
use Rattle.std.specs.List.{AllByRecursion}
use Rattle.wp_model.specs.declared.entry.Entry.{Entry}
use Rattle.wp_model.specs.declared.version.Version.{Version}
use Rattle.wp_outside.specs.declared.disk.Device.TheVariants as device
use Rattle.wp_outside.specs.Disk.{Moment, IfKnown, Passes, added, after_sync, images}
use Rattle.wp_outside.proofs.Moments.{image_of_synced}
use Rattle.wp_outside.specs.Faults.{Rose}
use Rattle.wp_cuts.specs.Cut.{Cut}
use Rattle.wp_gatelog.specs.Damage.{IsCut}
use Rattle.wp_gatelog.specs.Durability.{LosesNoRecord}
use Rattle.wp_gatelog.specs.Left.{IsLeftAtRest, RestsAsSpelled}
use Rattle.wp_gatelog.specs.Log.{IsAtRest}
use Rattle.wp_gatelog.specs.Moments.{Leaves}
use Rattle.wp_gatelog.specs.Opening.{KeepsLog, Survives, SurvivesThrough}
use Rattle.wp_gatelog.specs.Spelling.{IsUnmade, IsUnmadeAt, Spells}
use Rattle.wp_gatelog.proofs.MomentLemmas.{known_map, known_both}
use Rattle.wp_wal.specs.declared.error.WalError.{WalError}
use Rattle.wp_wal.specs.declared.error.WalError.TheVariants as wal_error
use Rattle.wp_wal.specs.Opening.{IsLogCause, IsOpenedLog}
use Rattle.wp_wal.specs.Reading.{IsJudged}
use Rattle.wp_wal.specs.Spelling.{IsLogAt}
use Rattle.wp_wal.specs.Wal.{WalState}
use Rattle.wp_wal.proofs.AppendLemmas.{each_other}
use Rattle.wp_manifest.specs.declared.error.ManifestError.{ManifestError}
use Rattle.wp_manifest.specs.declared.error.ManifestError.TheVariants as manifest_error
use Rattle.wp_manifest.specs.Edit.{Edit, place_of}
use Rattle.wp_manifest.specs.Manifest.{ManifestState, Opened}
use Rattle.wp_manifest.specs.Opening.{IsBadEdit, IsManifestCause}
use Rattle.wp_manifest.specs.Reading.{IsBadAmong}
use Rattle.wp_manifest.specs.Spelling as edits
use Rattle.wp_table.specs.File.{HasTables}
use Rattle.wp_table.specs.Table.{IsTable}
use Rattle.wp_refused.specs.declared.bad.Bad.{Bad}
use Rattle.wp_refused.specs.declared.bad.Bad.TheVariants as bad
use Rattle.wp_refused.specs.declared.error.OpenError.{OpenError}
use Rattle.wp_refused.specs.declared.error.OpenError.TheVariants as open_error
use Rattle.wp_refused.specs.Damage.{Finds, IsLogDamaged, IsManifestDamaged, IsTableNamed, IsEditDamaged, base_ahead, log_behind, in_tables, wrong_undo, uncovered, IsDamaged, in_manifest, in_log, in_ids, in_edit}
use Rattle.wp_contents.specs.Devices.{DevicesLeft}
use Rattle.wp_contents.specs.Opens.{HasAsked, Opens, AllKnown}
use Rattle.wp_refused.specs.Refused.{WasRead, WereRead, IsCause, of_manifest, of_log, of_place, of_ids, of_edit, IsOfTables, IsOutside, IsLogReason, IsManifestReason, AreLeft, IsLeft, at_edit, at_tables, IsRefusedFrom}
use Rattle.wp_refused.specs.Tables.{AreTablesCause, WereTables, IsStoreCause, ahead, behind, of_tables, not_legal, not_covered, LeavesSynced}
use Rattle.wp_refused.proofs.OneWay.{unmade_spells}

-- ---- the tables, once synced

pub not_covering : (r : Bool) (P : Type 0) → (r ≡ true) ↔ P → r ≡ false → P → ⊥
not_covering r P is e p = true≢false (sym (is.1 p) ∙ e)

-- a sync changes nothing of what is read
pub known_before : (P : List ℕ → Type 0) (old new : List Moment) → new ≡ added after_sync old → IfKnown new (λ m. P m.reads) → IfKnown old (λ m. P m.reads)
known_before P old new synced is = by old (subst (λ (ms : List Moment). IfKnown ms (λ m. P m.reads)) synced is)
  where
    by : (ms : List Moment) → IfKnown (added after_sync ms) (λ m. P m.reads) → IfKnown ms (λ m. P m.reads)
    by [] there = tt
    by (m ∷ past) there = there

pub were_tables : (id : ℕ) (edit : Edit) (old new : List Moment) (parts : List (List Version)) → new ≡ added after_sync old → length parts ≡ length edit.tables → AllByRecursion (IsTable id edit.flushed) parts → IfKnown new (λ m. HasTables id edit.flushed m.reads edit.tables parts) → WereTables id edit old parts
were_tables id edit old new parts synced as_many are has = record { as_many = as_many; are = are; known = known_before (λ reads. HasTables id edit.flushed reads edit.tables parts) old new synced has }

pub kept_tables : (P : List ℕ → Type 0) (old new : List Moment) → new ≡ added after_sync old → IfKnown old (λ m. P m.reads) → (image : List ℕ) → images new image → P image
kept_tables P [] new synced has image is = absurd (subst (λ (ms : List Moment). images ms image) synced is)
kept_tables P (m ∷ past) new synced has image is =
    subst P (sym (image_of_synced m.reads image (subst (λ (ms : List Moment). images ms image) synced is))) has

-- ---- why

same_damage : (one other : Bad) → open_error.Contents one ≡ open_error.Contents other → one ≡ other
same_damage one other same = cc

log_damaged : (place : ℕ) (rose : Type 0) (l : Moment) (past : List Moment) (refusal : WalError) (damage : Bad) → IsLogReason refusal (open_error.Contents damage) → IsLogCause place rose (l ∷ past) refusal → IsLogDamaged place l.reads damage
log_damaged place rose l past wal_error.Memory damage is cause = absurd cc
log_damaged place rose l past wal_error.DiskFault damage is cause = absurd cc
log_damaged place rose l past wal_error.BadHead damage is cause = rw (same_damage damage (bad.BadHead device.Log) is) cause
log_damaged place rose l past (wal_error.BadRecord index fault) damage is cause = rw (same_damage damage (bad.BadRecord index fault) is) cause
log_damaged place rose l past (wal_error.Illegal number) damage is cause = rw (same_damage damage (bad.Illegal number) is) cause

bad_edit : (index : ℕ) (bytes : List ℕ) → IsCut edits.MAGIC edits.VERSION index bytes ⊎ ((id : ℕ) × (records : List (List ℕ)) × IsBadAmong records index × Spells bytes edits.MAGIC (edits.head_stamp id) records) → IsBadEdit index bytes
bad_edit index bytes cause = ⊎_elim
    (λ (cut : IsCut edits.MAGIC edits.VERSION index bytes). inl cut)
    (λ (read : (id : ℕ) × (records : List (List ℕ)) × IsBadAmong records index × Spells bytes edits.MAGIC (edits.head_stamp id) records). inr (read.0, read.1, read.3, read.2))
    cause

manifest_damaged : (rose : Type 0) (m : Moment) (past : List Moment) (refusal : ManifestError) (damage : Bad) → IsManifestReason refusal (open_error.Contents damage) → IsManifestCause rose (m ∷ past) refusal → IsManifestDamaged m.reads damage
manifest_damaged rose m past manifest_error.Memory damage is cause = absurd cc
manifest_damaged rose m past manifest_error.DiskFault damage is cause = absurd cc
manifest_damaged rose m past manifest_error.BadHead damage is cause = rw (same_damage damage (bad.BadHead device.Manifest) is) cause
manifest_damaged rose m past (manifest_error.BadEdit index) damage is cause = rw (same_damage damage (bad.BadEdit index) is) (bad_edit index m.reads cause)

tables_named : (id : ℕ) (edit : Edit) (rose : Type 0) (t : Moment) (past : List Moment) (damage : Bad) → AreTablesCause id edit rose (t ∷ past) (open_error.Contents damage) → IsTableNamed id edit.flushed t.reads edit.tables damage
tables_named id edit rose t past (bad.Stranger log found) cause = (cause.0, cause.1, cause.2.known)
tables_named id edit rose t past (bad.BadTable place why) cause = (cause.0, cause.1.known)
tables_named id edit rose t past other cause = absurd cause

edit_damaged : (id : ℕ) (c : Cut) (edit : Edit) (rose : Type 0) (t : Moment) (past : List Moment) (damage : Bad) → IsStoreCause id c edit rose (t ∷ past) (open_error.Contents damage) → IsEditDamaged id c edit t.reads damage
edit_damaged id c edit rose t past damage (ahead lt is) = base_ahead lt (same_damage damage (bad.BaseAhead c.base edit.flushed) is)
edit_damaged id c edit rose t past damage (behind low lt is) = log_behind low lt (same_damage damage _ is)
edit_damaged id c edit rose t past damage (of_tables within cause) = in_tables within (tables_named id edit rose t past damage cause)
edit_damaged id c edit rose t past damage (not_legal number within were is) = wrong_undo number within (record { parts = were.parts; there = were.read.known; wrong = were.wrong }) (same_damage damage (bad.Illegal number) is)
edit_damaged id c edit rose t past damage (not_covered within were is) = uncovered within (record { parts = were.parts; there = were.read.known; undos = were.undos; not_covering = were.uncovered }) (same_damage damage bad.Uncovered is)

-- where all three devices are known, they are damaged as the refusal says
damaged : (asked : ℕ) (log_rose manifest_rose tables_rose : Type 0) (l m t : Moment) (ls ms ts : List Moment) (damage : Bad) → IsCause asked log_rose manifest_rose tables_rose (l ∷ ls) (m ∷ ms) (t ∷ ts) (open_error.Contents damage) → IsDamaged asked l.reads m.reads t.reads damage
damaged asked log_rose manifest_rose tables_rose l m t ls ms ts damage (of_manifest refusal is cause) = in_manifest (manifest_damaged manifest_rose m ms refusal damage is cause)
damaged asked log_rose manifest_rose tables_rose l m t ls ms ts damage (of_log found list refusal reads is cause) = in_log found list reads.known (log_damaged (place_of (edits.last_edit list)) log_rose l ls refusal damage is cause)
damaged asked log_rose manifest_rose tables_rose l m t ls ms ts damage (of_place none is) = absurd none
damaged asked log_rose manifest_rose tables_rose l m t ls ms ts damage (of_ids id found c list reads finds differ other is) = in_ids id found c list reads.known finds.known other (same_damage damage (bad.Stranger id found) is)
damaged asked log_rose manifest_rose tables_rose l m t ls ms ts damage (of_edit id c list reads finds cause) = in_edit id c list reads.known finds.known (edit_damaged id c (edits.last_edit list) tables_rose t ts damage cause)

abbrev pub OpensOrDamaged : Type 0
OpensOrDamaged = (l m t : List ℕ) (asked id : ℕ) (history : List Entry) (damage : Bad) → (opens : Opens id history l m t) → HasAsked asked id opens.edits l → IsDamaged asked l m t damage → ⊥

-- so where they open to a history, no refusal is about their contents
only_outside : OpensOrDamaged → (asked : ℕ) (log_rose manifest_rose tables_rose : Type 0) (log manifest tables : List Moment) (why : OpenError) → IsCause asked log_rose manifest_rose tables_rose log manifest tables why → AllKnown log manifest tables (λ l m t. (found : ℕ) (history : List Entry) (opens : Opens found history l m t) → HasAsked asked found opens.edits l → IsOutside why)
only_outside law asked log_rose manifest_rose tables_rose [] manifest tables why cause = tt
only_outside law asked log_rose manifest_rose tables_rose (l ∷ ls) [] tables why cause = tt
only_outside law asked log_rose manifest_rose tables_rose (l ∷ ls) (m ∷ ms) [] why cause = tt
only_outside law asked log_rose manifest_rose tables_rose (l ∷ ls) (m ∷ ms) (t ∷ ts) open_error.Memory cause = λ found history opens asks. tt
only_outside law asked log_rose manifest_rose tables_rose (l ∷ ls) (m ∷ ms) (t ∷ ts) (open_error.OpenFault failed) cause = λ found history opens asks. tt
only_outside law asked log_rose manifest_rose tables_rose (l ∷ ls) (m ∷ ms) (t ∷ ts) (open_error.Contents damage) cause =
    λ found history opens asks. law l.reads m.reads t.reads asked found history damage opens asks (damaged asked log_rose manifest_rose tables_rose l m t ls ms ts damage cause)

-- ---- what was read

pub was_read : (asked id place : ℕ) (c : Cut) (log : List Moment) → id < 2 ^ 32 → IsJudged c → IfKnown log (λ l. IsLogAt id place c l.reads) → IfKnown log (λ l. IsUnmadeAt place l.reads → id ≡ asked) → WasRead asked id place c log
was_read asked id place c log fits judged spells unmade = record {
  id_fits = fits;
  judged = judged;
  known = known_both (λ l. IsLogAt id place c l.reads) (λ l. IsUnmadeAt place l.reads → id ≡ asked) (λ l. Finds asked id place c l.reads) (λ l is made. record { id_fits = fits; spelled = is; judged = judged; unmade = made }) log spells unmade;
}

-- of a log that was opened
pub opened_read : (asked place : ℕ) (old : List Moment) (wal : WalState) (c : Cut) → wal.id < 2 ^ 32 → IsOpenedLog asked place old wal c → WasRead asked wal.id place c old
opened_read asked place old wal c fits o = was_read asked wal.id place c old fits o.judged o.found o.made

pub edits_read : (asked : ℕ) (moments : List Moment) (state : ManifestState) (o : Opened asked moments state) → WereRead state.log.id o.edits moments
edits_read asked moments state o = record { are = o.stores.spelled.are; known = o.found }

-- of a manifest that was not made there are none, whatever its id is
pub none_read : (id : ℕ) (moments : List Moment) → IfKnown moments (λ m. IsUnmade m.reads) → WereRead id [] moments
none_read id moments unmade = record { are = tt; known = known_map (λ m. IsUnmade m.reads) (λ m. edits.IsManifestOf id [] m.reads) (λ m is. unmade_spells id m.reads is) moments unmade }

abbrev pub SpellOneList : Type 0
SpellOneList = (bytes : List ℕ) (id other : ℕ) (list others : List Edit) → edits.IsManifestOf id list bytes → edits.IsManifestOf other others bytes → list ≡ others

-- one that was not made, and then has an edit that names another place, is of a device that tells nothing
pub none_there : SpellOneList → (asked : ℕ) (moments : List Moment) (state : ManifestState) (o : Opened asked moments state) → IfKnown moments (λ m. IsUnmade m.reads) → place_of state.edit ≢ 0 → IfKnown moments (λ m. ⊥)
none_there one asked moments state o unmade other =
    known_both (λ m. IsUnmade m.reads) (λ m. edits.IsManifestOf state.log.id o.edits m.reads) (λ m. ⊥)
    (λ m is spells. other (ap place_of o.stores.last ∙ ap (λ (l : List Edit). place_of (edits.last_edit l)) (one m.reads state.log.id state.log.id o.edits [] spells (unmade_spells state.log.id m.reads is)))) moments unmade o.found

-- ---- what is left of the manifest

pub manifest_rests : (asked : ℕ) (moments : List Moment) (state : ManifestState) → Opened asked moments state → IsLeftAtRest edits.MAGIC moments state.log.moments
manifest_rests asked [] state o = tt
manifest_rests asked (m ∷ past) state o = by state.log.moments (o.stores.rests o.running)
  where
    spelled : Spells m.reads edits.MAGIC (edits.head_stamp state.log.id) o.stores.records
    spelled = let found = o.found in subst (λ (rs : List (List ℕ)). Spells m.reads edits.MAGIC (edits.head_stamp state.log.id) rs) (found.2.spelled ∙ sym o.stores.spelled.spelled) found.1

    by : (now : List Moment) → IfKnown now (IsAtRest edits.MAGIC (edits.head_stamp state.log.id) state.log.end [] [] o.stores.records) → IfKnown now (RestsAsSpelled edits.MAGIC m.reads)
    by [] rests = tt
    by (n ∷ before) rests = record { stamp = edits.head_stamp state.log.id; end = state.log.end; records = o.stores.records; spelled = spelled; rests = rests }

-- where one was made, it does not matter which id is asked for
made_survives : (asked id : ℕ) (bytes image : List ℕ) → (IsUnmade bytes → ⊥) → Survives 0 edits.MAGIC (edits.head_stamp asked) bytes image → Survives 0 edits.MAGIC (edits.head_stamp id) bytes image
made_survives asked id bytes image made (inl same) = inl same
made_survives asked id bytes image made (inr (inl new)) = absurd (made new.0)
made_survives asked id bytes image made (inr (inr repaired)) = inr (inr repaired)

pub survives_whatever : (asked id : ℕ) (old new : List Moment) → IfKnown old (λ m. IsUnmade m.reads → ⊥) → SurvivesThrough edits.MAGIC (edits.head_stamp asked) old new → SurvivesThrough edits.MAGIC (edits.head_stamp id) old new
survives_whatever asked id old new made survives =
    known_both (λ m. IsUnmade m.reads → ⊥) (λ m. Passes (Leaves (Survives 0 edits.MAGIC (edits.head_stamp asked) m.reads)) old new) (λ m. Passes (Leaves (Survives 0 edits.MAGIC (edits.head_stamp id) m.reads)) old new)
    (λ m is passes. (passes.0, passes.1, each_other (Survives 0 edits.MAGIC (edits.head_stamp asked) m.reads) (Survives 0 edits.MAGIC (edits.head_stamp id) m.reads) passes.0 (λ image. made_survives asked id m.reads image is) passes.2)) old made survives

pub kept_whatever : (asked id : ℕ) (old new : List Moment) (before now : ℕ) → IfKnown old (λ m. IsUnmade m.reads → ⊥) → KeepsLog edits.MAGIC (edits.head_stamp asked) old new before now → KeepsLog edits.MAGIC (edits.head_stamp id) old new before now
kept_whatever asked id old new before now made kept = record { survives = survives_whatever asked id old new made kept.survives; durable = kept.durable; later = kept.later }

-- one that was only looked at is as it was
pub seen_only : (asked : ℕ) (old new : List Moment) → new ≡ old → SurvivesThrough edits.MAGIC (edits.head_stamp asked) old new
seen_only asked old new same = by old
  where
    by : (ms : List Moment) → IfKnown ms (λ m. Passes (Leaves (Survives 0 edits.MAGIC (edits.head_stamp asked) m.reads)) old new)
    by [] = tt
    by (m ∷ past) = ([], same, tt)

pub seen_durable : (old new : List Moment) → new ≡ old → LosesNoRecord edits.MAGIC old new
seen_durable old new same stamp records = ([], same, tt)

-- it was opened before, or after the log
pub opened_anew : (asked id : ℕ) (moments : List Moment) (state : ManifestState) → Opened asked moments state → IfKnown moments (λ m. IsUnmade m.reads → state.log.id ≡ id) → Opened id moments state
opened_anew asked id moments state o made = record { edits = o.edits; stores = o.stores; found = o.found; made = made; running = o.running }

pub made_any : (P : Type 0) (moments : List Moment) → IfKnown moments (λ m. IsUnmade m.reads → ⊥) → IfKnown moments (λ m. IsUnmade m.reads → P)
made_any P moments made = known_map (λ m. IsUnmade m.reads → ⊥) (λ m. IsUnmade m.reads → P) (λ m is unmade. absurd (is unmade)) moments made

-- ---- its faults, counted from before it was looked at

pub cause_since : (start mid now : ℕ) (moments : List Moment) (why : ManifestError) → start ≤ mid → IsManifestCause (Rose mid now) moments why → IsManifestCause (Rose start now) moments why
cause_since start mid now moments manifest_error.Memory later cause = cause
cause_since start mid now moments manifest_error.DiskFault later cause = omega (arith, cause, later)
cause_since start mid now moments manifest_error.BadHead later cause = cause
cause_since start mid now moments (manifest_error.BadEdit index) later cause = cause

pub kept_since : (asked start mid now : ℕ) (old new : List Moment) → start ≤ mid → KeepsLog edits.MAGIC (edits.head_stamp asked) old new mid now → KeepsLog edits.MAGIC (edits.head_stamp asked) old new start now
kept_since asked start mid now old new later kept = let on = kept.later in record { survives = kept.survives; durable = kept.durable; later = omega (arith, later, on) }

-- ---- how far an opening came

of_the_tables : (id : ℕ) (edit : Edit) (rose : Type 0) (moments : List Moment) (why : OpenError) → AreTablesCause id edit rose moments why → IsOfTables id why
of_the_tables id edit rose moments open_error.Memory cause = tt
of_the_tables id edit rose moments (open_error.OpenFault device.Tables) cause = tt
of_the_tables id edit rose moments (open_error.OpenFault device.Log) cause = absurd cause
of_the_tables id edit rose moments (open_error.OpenFault device.Manifest) cause = absurd cause
of_the_tables id edit rose moments (open_error.Contents (bad.Stranger log found)) cause = cause.0
of_the_tables id edit rose moments (open_error.Contents (bad.BadTable place why)) cause = cause.0
of_the_tables id edit rose moments (open_error.Contents other) cause = absurd cause

-- after a log and a manifest that are right
pub edit_left : (asked : ℕ) (same_log same_tables rose : Type 0) (old new : DevicesLeft) (id : ℕ) (c : Cut) (list : List Edit) (why : OpenError) → AreLeft asked id id (place_of (edits.last_edit list)) c list old new → IsStoreCause id c (edits.last_edit list) rose old.tables why → LeavesSynced same_tables old.tables new.tables why
    → IsLeft asked same_log same_tables old new why
edit_left asked same_log same_tables rose old new id c list why left (ahead lt named) tables = at_edit id c list left (inl (lt, named)) (subst (LeavesSynced same_tables old.tables new.tables) named tables)
edit_left asked same_log same_tables rose old new id c list why left (behind low lt named) tables = at_edit id c list left (inr (low, lt, named)) (subst (LeavesSynced same_tables old.tables new.tables) named tables)
edit_left asked same_log same_tables rose old new id c list why left (of_tables within cause) tables = at_tables id c list left within (of_the_tables id (edits.last_edit list) rose old.tables why cause) tables
edit_left asked same_log same_tables rose old new id c list why left (not_legal number within were named) tables = at_tables id c list left within (subst (IsOfTables id) (sym named) tt) tables
edit_left asked same_log same_tables rose old new id c list why left (not_covered within were named) tables = at_tables id c list left within (subst (IsOfTables id) (sym named) tt) tables

-- ---- a refusal, as a whole

pub refused_from : OpensOrDamaged → (asked : ℕ) (same_log same_tables : Type 0) (old new : DevicesLeft) (why : OpenError)
    → IsCause asked (Rose old.log_faults new.log_faults) (Rose old.manifest_faults new.manifest_faults) (Rose old.tables_faults new.tables_faults) old.log old.manifest old.tables why
    → IsLeft asked same_log same_tables old new why
    → LosesNoRecord edits.MAGIC old.manifest new.manifest → old.log_faults ≤ new.log_faults → old.manifest_faults ≤ new.manifest_faults → old.tables_faults ≤ new.tables_faults
    → IsRefusedFrom asked same_log same_tables old new why
refused_from law asked same_log same_tables old new why cause left manifest log_later manifest_later tables_later = record {
  cause = cause;
  only = only_outside law asked _ _ _ old.log old.manifest old.tables why cause;
  left = left;
  manifest_durable = manifest;
  log_later = log_later;
  manifest_later = manifest_later;
  tables_later = tables_later;
}
