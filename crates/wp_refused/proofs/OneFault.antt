-- Damaged bytes have one first fault.
use Rattle.std.proofs.Common.{◌≡◌, ℕ, ◌≤◌, List, [], ◌∷◌, ◌++◌, inl, inr, refl, sym, subst, ap, ◌∙◌, arith}
use Rattle.wp_model.specs.declared.version.Version.{Version}
use Rattle.wp_outside.specs.declared.disk.Device.TheVariants as device
use Rattle.wp_cuts.specs.Cut.{Cut}
use Rattle.wp_cuts.proofs.FullList.{full_long}
use Rattle.wp_gatelog.specs.Damage.{IsBadHead, IsBadHeadAt}
use Rattle.wp_entry.specs.declared.error.RecordError.{RecordError}
use Rattle.wp_wal.specs.Opening.{IsBadLog, IsIllegalLog}
use Rattle.wp_wal.specs.Spelling as wal
use Rattle.wp_manifest.specs.Edit.{Edit, place_of}
use Rattle.wp_manifest.specs.Opening.{IsBadEdit}
use Rattle.wp_manifest.specs.Spelling as edits
use Rattle.wp_table.specs.declared.error.TableError.{TableError}
use Rattle.wp_table.specs.declared.error.TableError.TheVariants as table
use Rattle.wp_table.specs.Faults.{IsTableFault}
use Rattle.wp_table.specs.File.{HasTables}
use Rattle.wp_refused.specs.declared.bad.Bad.{Bad}
use Rattle.wp_refused.specs.declared.bad.Bad.TheVariants as bad
use Rattle.wp_refused.specs.Damage.{IsLogDamaged, Finds, IsOther, IsManifestDamaged, bytes_at, end_of, standing, IsWrongUndo, UndosRestore, IsIllegalOver, IsUncovered, IsBadTable, IsFirstBadTable, IsOwnFault, IsTableNamed, IsEditDamaged, base_ahead, log_behind, in_tables, wrong_undo, uncovered, IsDamaged, in_manifest, in_log, in_ids, in_edit}
use Rattle.wp_contents.specs.Opens.{all_in}
use Rattle.wp_history.proofs.Judged.{entry_within}
use Rattle.wp_refused.proofs.OneWay.{SpellOneId, SpellOneIdAt, LogLaws, ManifestLaws, TableLaws, log_is_right, found_id, manifest_id, manifest_is_right, table_is_right, none_named, same_parts}
use Rattle.wp_refused.proofs.Undos.{not_wrong, one_wrong}

-- ---- what the laws below say

pub record LogFaultLaws : Type 0 where
  pub one_bad_record : (place : ℕ) (bytes : List ℕ) (index other : ℕ) (why also : RecordError) → IsBadLog place bytes index why → IsBadLog place bytes other also → (index ≡ other) × (why ≡ also)
  pub one_illegal : (place : ℕ) (bytes : List ℕ) (number other : ℕ) → IsIllegalLog place bytes number → IsIllegalLog place bytes other → number ≡ other
  pub head_or_record : (place : ℕ) (bytes : List ℕ) (index : ℕ) (why : RecordError) → IsBadHeadAt place wal.MAGIC wal.NEWEST bytes → IsBadLog place bytes index why → ⊥
  pub head_or_illegal : (place : ℕ) (bytes : List ℕ) (number : ℕ) → IsBadHeadAt place wal.MAGIC wal.NEWEST bytes → IsIllegalLog place bytes number → ⊥
  pub record_or_illegal : (place : ℕ) (bytes : List ℕ) (index number : ℕ) (why : RecordError) → IsBadLog place bytes index why → IsIllegalLog place bytes number → ⊥

pub record ManifestFaultLaws : Type 0 where
  pub one_bad_edit : (bytes : List ℕ) (index other : ℕ) → IsBadEdit index bytes → IsBadEdit other bytes → index ≡ other
  pub head_or_edit : (bytes : List ℕ) (index : ℕ) → IsBadHead edits.MAGIC edits.VERSION bytes → IsBadEdit index bytes → ⊥

abbrev pub TablesHaveOneFault : Type 0
TablesHaveOneFault = (id flushed : ℕ) (bytes : List ℕ) (one other : TableError) → IsTableFault id flushed bytes one → IsTableFault id flushed bytes other → one ≡ other

-- ---- the log

one_of_log : LogFaultLaws → (place : ℕ) (bytes : List ℕ) (one other : Bad) → IsLogDamaged place bytes one → IsLogDamaged place bytes other → one ≡ other
one_of_log laws place bytes (bad.BadHead device.Log) (bad.BadHead device.Log) is too = refl
one_of_log laws place bytes (bad.BadHead device.Log) (bad.BadRecord index why) is too = absurd (laws.head_or_record place bytes index why is too)
one_of_log laws place bytes (bad.BadHead device.Log) (bad.Illegal number) is too = absurd (laws.head_or_illegal place bytes number is too)
one_of_log laws place bytes (bad.BadRecord index why) (bad.BadHead device.Log) is too = absurd (laws.head_or_record place bytes index why too is)
one_of_log laws place bytes (bad.BadRecord index why) (bad.BadRecord other also) is too = let same = laws.one_bad_record place bytes index other why also is too in λ i. bad.BadRecord (same.0 i) (same.1 i)
one_of_log laws place bytes (bad.BadRecord index why) (bad.Illegal number) is too = absurd (laws.record_or_illegal place bytes index number why is too)
one_of_log laws place bytes (bad.Illegal number) (bad.BadHead device.Log) is too = absurd (laws.head_or_illegal place bytes number too is)
one_of_log laws place bytes (bad.Illegal number) (bad.BadRecord index why) is too = absurd (laws.record_or_illegal place bytes index number why too is)
one_of_log laws place bytes (bad.Illegal number) (bad.Illegal other) is too = ap bad.Illegal (laws.one_illegal place bytes number other is too)
one_of_log laws place bytes (bad.BadHead device.Log) other is too = absurd too
one_of_log laws place bytes (bad.BadRecord index why) other is too = absurd too
one_of_log laws place bytes (bad.Illegal number) other is too = absurd too
one_of_log laws place bytes one other is too = absurd is

-- ---- the manifest

one_of_manifest : ManifestFaultLaws → (bytes : List ℕ) (one other : Bad) → IsManifestDamaged bytes one → IsManifestDamaged bytes other → one ≡ other
one_of_manifest laws bytes (bad.BadHead device.Manifest) (bad.BadHead device.Manifest) is too = refl
one_of_manifest laws bytes (bad.BadHead device.Manifest) (bad.BadEdit index) is too = absurd (laws.head_or_edit bytes index is too)
one_of_manifest laws bytes (bad.BadEdit index) (bad.BadHead device.Manifest) is too = absurd (laws.head_or_edit bytes index too is)
one_of_manifest laws bytes (bad.BadEdit index) (bad.BadEdit other) is too = ap bad.BadEdit (laws.one_bad_edit bytes index other is too)
one_of_manifest laws bytes (bad.BadHead device.Manifest) other is too = absurd too
one_of_manifest laws bytes (bad.BadEdit index) other is too = absurd too
one_of_manifest laws bytes one other is too = absurd is

-- ---- the tables

module _ (laws : TableLaws) (faults : TablesHaveOneFault) (id flushed : ℕ) (bytes : List ℕ) where
  one_of_table : (placed : ℕ × ℕ) (why also : TableError) → IsBadTable id flushed bytes placed why → IsBadTable id flushed bytes placed also → why ≡ also
  one_of_table placed why also (inl fault) (inl other) = faults id flushed (bytes_at bytes placed) why also fault other
  one_of_table placed why also (inl fault) (inr (versions, spells, short, named)) = absurd (laws.not_both id flushed (bytes_at bytes placed) versions why spells fault)
  one_of_table placed why also (inr (versions, spells, short, named)) (inl fault) = absurd (laws.not_both id flushed (bytes_at bytes placed) versions also spells fault)
  one_of_table placed why also (inr one) (inr other) = one.3 ∙ sym other.3

  same_first : (before others after behind : List (ℕ × ℕ)) (placed other : ℕ × ℕ) (parts more : List (List Version)) (why also : TableError) → before ++ placed ∷ after ≡ others ++ other ∷ behind → HasTables id flushed bytes before parts → HasTables id flushed bytes others more → IsBadTable id flushed bytes placed why → IsBadTable id flushed bytes other also → (placed ≡ other) × (why ≡ also)
  same_first [] [] after behind placed other parts more why also is right too wrong bad =
      let same : placed ≡ other = cc in
      (same, one_of_table other why also (subst (λ (p : ℕ × ℕ). IsBadTable id flushed bytes p why) same wrong) bad)
  same_first [] (first ∷ others) after behind placed other parts [] why also is right too wrong bad = absurd too
  same_first [] (first ∷ others) after behind placed other parts (part ∷ more) why also is right too wrong bad =
      let same : placed ≡ first = cc in
      absurd (table_is_right laws id flushed bytes first part why too.0 (subst (λ (p : ℕ × ℕ). IsBadTable id flushed bytes p why) same wrong))
  same_first (first ∷ before) [] after behind placed other [] more why also is right too wrong bad = absurd right
  same_first (first ∷ before) [] after behind placed other (part ∷ parts) more why also is right too wrong bad =
      let same : other ≡ first = cc in
      absurd (table_is_right laws id flushed bytes first part also right.0 (subst (λ (p : ℕ × ℕ). IsBadTable id flushed bytes p also) same bad))
  same_first (first ∷ before) (second ∷ others) after behind placed other [] more why also is right too wrong bad = absurd right
  same_first (first ∷ before) (second ∷ others) after behind placed other (part ∷ parts) [] why also is right too wrong bad = absurd too
  same_first (first ∷ before) (second ∷ others) after behind placed other (part ∷ parts) (next ∷ more) why also is right too wrong bad =
      let rest : before ++ placed ∷ after ≡ others ++ other ∷ behind = cc in
      same_first before others after behind placed other parts more why also rest right.1 too.1 wrong bad

  one_first : (tables : List (ℕ × ℕ)) (place other : ℕ) (why also : TableError) → IsFirstBadTable id flushed bytes tables place why → IsFirstBadTable id flushed bytes tables other also → (place ≡ other) × (why ≡ also)
  one_first tables place other why also is too =
      let same = same_first is.before too.before is.after too.after (place, is.size) (other, too.size) is.parts too.parts why also (sym is.listed ∙ too.listed) is.right too.right is.wrong too.wrong in
      (ap (λ (p : ℕ × ℕ). p.0) same.0, same.1)

  found_in : (found also : ℕ) → table.Stranger found ≡ table.Stranger also → found ≡ also
  found_in found also same = cc

  one_named : (tables : List (ℕ × ℕ)) (one other : Bad) → IsTableNamed id flushed bytes tables one → IsTableNamed id flushed bytes tables other → one ≡ other
  one_named tables (bad.Stranger log found) (bad.Stranger other also) is too =
      let logs : log ≡ other = is.0 ∙ sym too.0 in
      let founds : found ≡ also = found_in found also (one_first tables is.1 too.1 (table.Stranger found) (table.Stranger also) is.2 too.2).1 in
      λ i. bad.Stranger (logs i) (founds i)
  one_named tables (bad.Stranger log found) (bad.BadTable place why) is too =
      absurd (subst IsOwnFault (sym (one_first tables is.1 place (table.Stranger found) why is.2 too.1).1) too.0)
  one_named tables (bad.BadTable place why) (bad.Stranger log found) is too =
      absurd (subst IsOwnFault (one_first tables place too.1 why (table.Stranger found) is.1 too.2).1 is.0)
  one_named tables (bad.BadTable place why) (bad.BadTable other also) is too =
      let same = one_first tables place other why also is.1 too.1 in
      λ i. bad.BadTable (same.0 i) (same.1 i)
  one_named tables (bad.Stranger log found) other is too = absurd too
  one_named tables (bad.BadTable place why) other is too = absurd too
  one_named tables one other is too = absurd is

-- ---- the cut and the tables

-- a wrong undo is an entry
wrong_within : (c : Cut) (parts : List (List Version)) (number : ℕ) → IsWrongUndo c parts number → number ≤ end_of c
wrong_within c parts number w =
    let long = full_long c (all_in parts) in
    let within = entry_within (standing c parts).entries number w.entry w.there in
    omega (arith, long, within)

module _ (laws : TableLaws) (faults : TablesHaveOneFault) (id : ℕ) (c : Cut) (edit : Edit) (bytes : List ℕ) where
  same_tables : (parts more : List (List Version)) → HasTables id edit.flushed bytes edit.tables parts → HasTables id edit.flushed bytes edit.tables more → more ≡ parts
  same_tables parts more has too = same_parts laws id edit.flushed bytes edit.tables more parts too has

  one_undo : (number other : ℕ) → IsIllegalOver id c edit bytes number → IsIllegalOver id c edit bytes other → number ≡ other
  one_undo number other w v = one_wrong (standing c w.parts) number other w.wrong (subst (λ (l : List (List Version)). IsWrongUndo c l other) (same_tables w.parts v.parts w.there v.there) v.wrong)

  wrong_or_uncovered : (number : ℕ) → IsIllegalOver id c edit bytes number → IsUncovered id c edit bytes → ⊥
  wrong_or_uncovered number w u =
      let undos = subst (λ (l : List (List Version)). UndosRestore c l) (same_tables w.parts u.parts w.there u.there) u.undos in
      not_wrong (standing c w.parts) (end_of c) number (wrong_within c w.parts number w.wrong) undos w.wrong

  one_of_edit : (one other : Bad) → IsEditDamaged id c edit bytes one → IsEditDamaged id c edit bytes other → one ≡ other
  one_of_edit one other (base_ahead lt named) (base_ahead less also) = named ∙ sym also
  one_of_edit one other (base_ahead lt named) (log_behind low less also) = absurd (omega (arith, lt, low))
  one_of_edit one other (base_ahead lt named) (in_tables within also) = let low = within.base in absurd (omega (arith, lt, low))
  one_of_edit one other (base_ahead lt named) (wrong_undo number within wrong also) = let low = within.base in absurd (omega (arith, lt, low))
  one_of_edit one other (base_ahead lt named) (uncovered within none also) = let low = within.base in absurd (omega (arith, lt, low))
  one_of_edit one other (log_behind low lt named) (base_ahead less also) = absurd (omega (arith, less, low))
  one_of_edit one other (log_behind low lt named) (log_behind too less also) = named ∙ sym also
  one_of_edit one other (log_behind low lt named) (in_tables within also) = let high = within.flushed in absurd (omega (arith, lt, high))
  one_of_edit one other (log_behind low lt named) (wrong_undo number within wrong also) = let high = within.flushed in absurd (omega (arith, lt, high))
  one_of_edit one other (log_behind low lt named) (uncovered within none also) = let high = within.flushed in absurd (omega (arith, lt, high))
  one_of_edit one other (in_tables within named) (base_ahead lt also) = let low = within.base in absurd (omega (arith, lt, low))
  one_of_edit one other (in_tables within named) (log_behind low lt also) = let high = within.flushed in absurd (omega (arith, lt, high))
  one_of_edit one other (in_tables within named) (in_tables too also) = one_named laws faults id edit.flushed bytes edit.tables one other named also
  one_of_edit one other (in_tables within named) (wrong_undo number too wrong also) = absurd (none_named laws id edit.flushed bytes edit.tables wrong.parts one wrong.there named)
  one_of_edit one other (in_tables within named) (uncovered too none also) = absurd (none_named laws id edit.flushed bytes edit.tables none.parts one none.there named)
  one_of_edit one other (wrong_undo number within wrong named) (base_ahead lt also) = let low = within.base in absurd (omega (arith, lt, low))
  one_of_edit one other (wrong_undo number within wrong named) (log_behind low lt also) = let high = within.flushed in absurd (omega (arith, lt, high))
  one_of_edit one other (wrong_undo number within wrong named) (in_tables too also) = absurd (none_named laws id edit.flushed bytes edit.tables wrong.parts other wrong.there also)
  one_of_edit one other (wrong_undo number within wrong named) (wrong_undo second too worse also) = named ∙ ap bad.Illegal (one_undo number second wrong worse) ∙ sym also
  one_of_edit one other (wrong_undo number within wrong named) (uncovered too none also) = absurd (wrong_or_uncovered number wrong none)
  one_of_edit one other (uncovered within none named) (base_ahead lt also) = let low = within.base in absurd (omega (arith, lt, low))
  one_of_edit one other (uncovered within none named) (log_behind low lt also) = let high = within.flushed in absurd (omega (arith, lt, high))
  one_of_edit one other (uncovered within none named) (in_tables too also) = absurd (none_named laws id edit.flushed bytes edit.tables none.parts other none.there also)
  one_of_edit one other (uncovered within none named) (wrong_undo number too wrong also) = absurd (wrong_or_uncovered number wrong none)
  one_of_edit one other (uncovered within none named) (uncovered too nothing also) = named ∙ sym also

-- ---- all three

pub record AllLaws : Type 0 where
  pub one_id : SpellOneId
  pub one_id_at : SpellOneIdAt
  pub log : LogLaws
  pub log_faults : LogFaultLaws
  pub manifest : ManifestLaws
  pub manifest_faults : ManifestFaultLaws
  pub table : TableLaws
  pub table_faults : TablesHaveOneFault

module _ (laws : AllLaws) (asked : ℕ) (log manifest tables : List ℕ) where
  -- both of the edits that two faults speak of are the same
  its_list : (found other : ℕ) (list others : List Edit) → edits.IsManifestOf found list manifest → edits.IsManifestOf other others manifest → others ≡ list
  its_list found other list others spells too = laws.manifest.one_list manifest other found others list too spells

  -- so are the cut, and its id
  found_there : (id other : ℕ) (c d : Cut) (list others : List Edit) → others ≡ list → Finds asked id (place_of (edits.last_edit list)) c log → Finds asked other (place_of (edits.last_edit others)) d log → (other ≡ id) × (d ≡ c)
  found_there id other c d list others same finds also =
      let place = place_of (edits.last_edit list) in
      let here = subst (λ (l : List Edit). Finds asked other (place_of (edits.last_edit l)) d log) same also in
      (found_id laws.one_id_at asked id other place c d log finds.unmade finds.id_fits finds.spelled here, laws.log.one_cut place log other id d c here.spelled finds.spelled)

  log_or_right : (found other id : ℕ) (c : Cut) (list others : List Edit) (damage : Bad) → edits.IsManifestOf found list manifest → edits.IsManifestOf other others manifest → IsLogDamaged (place_of (edits.last_edit list)) log damage → Finds asked id (place_of (edits.last_edit others)) c log → ⊥
  log_or_right found other id c list others damage spells too is finds =
      let here = subst (λ (l : List Edit). Finds asked id (place_of (edits.last_edit l)) c log) (its_list found other list others spells too) finds in
      log_is_right laws.log (place_of (edits.last_edit list)) log id c damage here.spelled here.judged is

  ids_or_edit : (id found its : ℕ) (c d : Cut) (list others : List Edit) → edits.IsManifestOf found list manifest → edits.IsManifestOf its others manifest → Finds asked id (place_of (edits.last_edit list)) c log → Finds asked its (place_of (edits.last_edit others)) d log → IsOther id found manifest → ⊥
  ids_or_edit id found its c d list others spells too finds also other =
      let same = found_there id its c d list others (its_list found its list others spells too) finds also in
      other.other (manifest_id laws.one_id manifest found its list others other.made other.fits also.id_fits spells too ∙ same.0)

  pub one_damage : (one other : Bad) → IsDamaged asked log manifest tables one → IsDamaged asked log manifest tables other → one ≡ other
  one_damage one other (in_manifest is) (in_manifest too) = one_of_manifest laws.manifest_faults manifest one other is too
  one_damage one other (in_manifest is) (in_log found list spells too) = absurd (manifest_is_right laws.manifest manifest found list one spells is)
  one_damage one other (in_manifest is) (in_ids id found c list spells finds apart named) = absurd (manifest_is_right laws.manifest manifest found list one spells is)
  one_damage one other (in_manifest is) (in_edit id c list spells finds too) = absurd (manifest_is_right laws.manifest manifest id list one spells is)
  one_damage one other (in_log found list spells is) (in_manifest too) = absurd (manifest_is_right laws.manifest manifest found list other spells too)
  one_damage one other (in_log found list spells is) (in_log its others also too) =
      one_of_log laws.log_faults (place_of (edits.last_edit list)) log one other is (subst (λ (l : List Edit). IsLogDamaged (place_of (edits.last_edit l)) log other) (its_list found its list others spells also) too)
  one_damage one other (in_log found list spells is) (in_ids id its c others also finds apart named) = absurd (log_or_right found its id c list others one spells also is finds)
  one_damage one other (in_log found list spells is) (in_edit id c others also finds too) = absurd (log_or_right found id id c list others one spells also is finds)
  one_damage one other (in_ids id found c list spells finds apart named) (in_manifest too) = absurd (manifest_is_right laws.manifest manifest found list other spells too)
  one_damage one other (in_ids id found c list spells finds apart named) (in_log its others also too) = absurd (log_or_right its found id c others list other also spells too finds)
  one_damage one other (in_ids id found c list spells finds apart named) (in_ids its second d others also reads parted called) =
      let same = found_there id its c d list others (its_list found second list others spells also) finds reads in
      let founds : found ≡ second = manifest_id laws.one_id manifest found second list others apart.made apart.fits parted.fits spells also in
      named ∙ (λ i. bad.Stranger (sym same.0 i) (founds i)) ∙ sym called
  one_damage one other (in_ids id found c list spells finds apart named) (in_edit its d others also reads too) = absurd (ids_or_edit id found its c d list others spells also finds reads apart)
  one_damage one other (in_edit id c list spells finds is) (in_manifest too) = absurd (manifest_is_right laws.manifest manifest id list other spells too)
  one_damage one other (in_edit id c list spells finds is) (in_log its others also too) = absurd (log_or_right its id id c others list other also spells too finds)
  one_damage one other (in_edit id c list spells finds is) (in_ids its found d others also reads apart named) = absurd (ids_or_edit its found id d c others list also spells reads finds apart)
  one_damage one other (in_edit id c list spells finds is) (in_edit its d others also reads too) =
      let list_is = its_list id its list others spells also in
      let same = found_there id its c d list others list_is finds reads in
      one_of_edit laws.table laws.table_faults id c (edits.last_edit list) tables one other is
      (subst (λ (n : ℕ). IsEditDamaged n c (edits.last_edit list) tables other) same.0
      (subst (λ (e : Cut). IsEditDamaged its e (edits.last_edit list) tables other) same.1
      (subst (λ (l : List Edit). IsEditDamaged its d (edits.last_edit l) tables other) list_is too)))
