-- Bytes that open to a history are not damaged.
use Rattle.std.proofs.Common.{◌≡◌, ◌⊎◌, ℕ, zero, suc, ◌<◌, ◌^◌, List, [], ◌∷◌, ◌++◌, length, take, drop, inl, inr, refl, sym, subst, ap, ◌∙◌, arith}
use Rattle.std.proofs.lemmas.List.{take_at, drop_at}
use Rattle.wp_model.specs.declared.entry.Entry.{Entry}
use Rattle.wp_model.specs.declared.version.Version.{Version}
use Rattle.wp_model.specs.Legal.{IsLegal}
use Rattle.wp_outside.specs.declared.disk.Device.TheVariants as device
use Rattle.wp_cuts.specs.Cut.{Cut}
use Rattle.wp_cuts.proofs.FullList.{full_long}
use Rattle.wp_gatelog.specs.Damage.{IsBadHead, IsBadHeadAt}
use Rattle.wp_gatelog.specs.Spelling.{IsUnmade, IsUnmadeAt, Spells, SpellsAt, Stamp, stamped}
use Rattle.wp_entry.specs.declared.error.RecordError.{RecordError}
use Rattle.wp_wal.specs.Opening.{IsBadLog, IsIllegalLog}
use Rattle.wp_wal.specs.Reading.{IsJudged}
use Rattle.wp_wal.specs.Spelling as wal
use Rattle.wp_manifest.specs.Edit.{Edit, place_of}
use Rattle.wp_manifest.specs.Opening.{IsBadEdit}
use Rattle.wp_manifest.specs.Spelling as edits
use Rattle.wp_table.specs.declared.error.TableError.{TableError}
use Rattle.wp_table.specs.declared.error.TableError.TheVariants as table
use Rattle.wp_table.specs.Faults.{IsTableFault}
use Rattle.wp_table.specs.File.{HasTable, HasTables}
use Rattle.wp_table.specs.Table.{SpellsTable}
use Rattle.wp_refused.specs.declared.bad.Bad.{Bad}
use Rattle.wp_refused.specs.declared.bad.Bad.TheVariants as bad
use Rattle.wp_refused.specs.Damage.{IsLogDamaged, Finds, IsManifestDamaged, bytes_at, IsWrongUndo, IsBadTable, IsFirstBadTable, IsTableNamed, IsEditDamaged, base_ahead, log_behind, in_tables, wrong_undo, uncovered, IsDamaged, in_manifest, in_log, in_ids, in_edit}
use Rattle.wp_contents.specs.Opens.{AreCovering, HasAsked, Opens, all_in, history_over, installed_of}
use Rattle.wp_refused.proofs.Undos.{no_wrong}

-- ---- what the laws below say

abbrev pub SpellOneId : Type 0
SpellOneId = (bytes magic : List ℕ) (stamp other : Stamp) (records others : List (List ℕ)) → (IsUnmade bytes → ⊥) → stamp.id < 2 ^ 32 → other.id < 2 ^ 32 → Spells bytes magic stamp records → Spells bytes magic other others → stamp.id ≡ other.id

abbrev pub SpellOneIdAt : Type 0
SpellOneIdAt = (place : ℕ) (bytes magic : List ℕ) (stamp other : Stamp) (records others : List (List ℕ)) → (IsUnmadeAt place bytes → ⊥) → stamp.id < 2 ^ 32 → other.id < 2 ^ 32 → SpellsAt place bytes magic stamp records → SpellsAt place bytes magic other others → stamp.id ≡ other.id

pub record LogLaws : Type 0 where
  pub one_cut : (place : ℕ) (bytes : List ℕ) (id other : ℕ) (c d : Cut) → wal.IsLogAt id place c bytes → wal.IsLogAt other place d bytes → c ≡ d
  pub bad_head : (place : ℕ) (bytes : List ℕ) (id : ℕ) (c : Cut) → wal.IsLogAt id place c bytes → IsBadHeadAt place wal.MAGIC wal.NEWEST bytes → ⊥
  pub bad_record : (place : ℕ) (bytes : List ℕ) (id index : ℕ) (c : Cut) (why : RecordError) → wal.IsLogAt id place c bytes → IsBadLog place bytes index why → ⊥
  pub illegal : (place : ℕ) (bytes : List ℕ) (id number : ℕ) (c : Cut) → wal.IsLogAt id place c bytes → IsJudged c → IsIllegalLog place bytes number → ⊥

pub record ManifestLaws : Type 0 where
  pub one_list : (bytes : List ℕ) (id other : ℕ) (list others : List Edit) → edits.IsManifestOf id list bytes → edits.IsManifestOf other others bytes → list ≡ others
  pub bad_head : (bytes : List ℕ) (id : ℕ) (list : List Edit) → edits.IsManifestOf id list bytes → IsBadHead edits.MAGIC edits.VERSION bytes → ⊥
  pub bad_edit : (bytes : List ℕ) (id index : ℕ) (list : List Edit) → edits.IsManifestOf id list bytes → IsBadEdit index bytes → ⊥

pub record TableLaws : Type 0 where
  pub one_table : (id flushed : ℕ) (bytes : List ℕ) (one other : List Version) → SpellsTable id flushed one bytes → SpellsTable id flushed other bytes → one ≡ other
  pub not_both : (id flushed : ℕ) (bytes : List ℕ) (versions : List Version) (fault : TableError) → SpellsTable id flushed versions bytes → IsTableFault id flushed bytes fault → ⊥

-- ---- what was made

unmade_or_made : (bytes : List ℕ) → IsUnmade bytes ⊎ (IsUnmade bytes → ⊥)
unmade_or_made [] = inl tt
unmade_or_made (gate ∷ []) = inl tt
unmade_or_made (zero ∷ byte ∷ bytes) = inl refl
unmade_or_made (suc gate ∷ byte ∷ bytes) = inr (λ e. let same : suc gate ≡ zero = e in absurd cc)

unmade_or_made_at : (place : ℕ) (bytes : List ℕ) → IsUnmadeAt place bytes ⊎ (IsUnmadeAt place bytes → ⊥)
unmade_or_made_at zero bytes = unmade_or_made bytes
unmade_or_made_at (suc place) bytes = inr (λ e. e)

unmade_there : (place : ℕ) (bytes : List ℕ) → IsUnmadeAt place bytes → (place ≡ 0) × IsUnmade bytes
unmade_there zero bytes unmade = (refl, unmade)
unmade_there (suc place) bytes unmade = absurd unmade

-- ---- the log

pub log_is_right : LogLaws → (place : ℕ) (bytes : List ℕ) (id : ℕ) (c : Cut) (damage : Bad) → wal.IsLogAt id place c bytes → IsJudged c → IsLogDamaged place bytes damage → ⊥
log_is_right laws place bytes id c (bad.BadHead device.Log) spells judged is = laws.bad_head place bytes id c spells is
log_is_right laws place bytes id c (bad.BadRecord index why) spells judged is = laws.bad_record place bytes id index c why spells is
log_is_right laws place bytes id c (bad.Illegal number) spells judged is = laws.illegal place bytes id number c spells judged is
log_is_right laws place bytes id c other spells judged is = is

log_id : SpellOneIdAt → (place : ℕ) (bytes : List ℕ) (id other : ℕ) (c d : Cut) → (IsUnmadeAt place bytes → ⊥) → id < 2 ^ 32 → other < 2 ^ 32 → wal.IsLogAt id place c bytes → wal.IsLogAt other place d bytes → id ≡ other
log_id one place bytes id other c d made fits less (format, records, up, spells, are) (also, others, up_too, too, are_too) = one place bytes wal.MAGIC (stamped format id) (stamped also other) records others made fits less spells too

pub found_id : SpellOneIdAt → (asked id found place : ℕ) (c d : Cut) (bytes : List ℕ) → (IsUnmadeAt place bytes → id ≡ asked) → id < 2 ^ 32 → wal.IsLogAt id place c bytes → Finds asked found place d bytes → found ≡ id
found_id one asked id found place c d bytes asks fits spells finds = elim (unmade_or_made_at place bytes) [
  | inl unmade ↦ finds.unmade unmade ∙ sym (asks unmade)
  | inr made ↦ log_id one place bytes found id d c made finds.id_fits fits finds.spelled spells
]

-- ---- the manifest

pub manifest_is_right : ManifestLaws → (bytes : List ℕ) (id : ℕ) (list : List Edit) (damage : Bad) → edits.IsManifestOf id list bytes → IsManifestDamaged bytes damage → ⊥
manifest_is_right laws bytes id list (bad.BadHead device.Manifest) spells is = laws.bad_head bytes id list spells is
manifest_is_right laws bytes id list (bad.BadEdit index) spells is = laws.bad_edit bytes id index list spells is
manifest_is_right laws bytes id list other spells is = is

pub manifest_id : SpellOneId → (bytes : List ℕ) (id other : ℕ) (list others : List Edit) → (IsUnmade bytes → ⊥) → id < 2 ^ 32 → other < 2 ^ 32 → edits.IsManifestOf id list bytes → edits.IsManifestOf other others bytes → id ≡ other
manifest_id one bytes id other list others made fits less spells too = one bytes edits.MAGIC (edits.head_stamp id) (edits.head_stamp other) spells.0 too.0 made fits less spells.1 too.1

-- one that was not made spells no edit, under any id
pub unmade_spells : (id : ℕ) (bytes : List ℕ) → IsUnmade bytes → edits.IsManifestOf id [] bytes
unmade_spells id bytes unmade = ([], inl (unmade, refl), record { spelled = refl; are = tt })

-- ---- the tables

there : (id flushed : ℕ) (bytes : List ℕ) (placed : ℕ × ℕ) (versions : List Version) → (has : HasTable id flushed bytes placed versions) → bytes_at bytes placed ≡ has.spelling
there id flushed bytes placed versions has =
    ap (λ (l : List ℕ). take placed.1 (drop placed.0 l)) has.parts
    ∙ ap (λ (l : List ℕ). take placed.1 l) (drop_at has.before (has.spelling ++ has.after) placed.0 has.place)
    ∙ take_at has.spelling has.after placed.1 has.size

pub table_is_right : TableLaws → (id flushed : ℕ) (bytes : List ℕ) (placed : ℕ × ℕ) (versions : List Version) (why : TableError) → HasTable id flushed bytes placed versions → IsBadTable id flushed bytes placed why → ⊥
table_is_right laws id flushed bytes placed versions why has (inl fault) = laws.not_both id flushed has.spelling versions why has.is (subst (λ (l : List ℕ). IsTableFault id flushed l why) (there id flushed bytes placed versions has) fault)
table_is_right laws id flushed bytes placed versions why has (inr (others, spells, short, named)) =
    let size = ap length (there id flushed bytes placed versions has) in
    let whole = has.size in
    omega (arith, size, whole, short)

not_among : TableLaws → (id flushed : ℕ) (bytes : List ℕ) (before after : List (ℕ × ℕ)) (placed : ℕ × ℕ) (parts : List (List Version)) (why : TableError) → HasTables id flushed bytes (before ++ placed ∷ after) parts → IsBadTable id flushed bytes placed why → ⊥
not_among laws id flushed bytes [] after placed [] why has wrong = has
not_among laws id flushed bytes [] after placed (part ∷ parts) why has wrong = table_is_right laws id flushed bytes placed part why has.0 wrong
not_among laws id flushed bytes (first ∷ before) after placed [] why has wrong = has
not_among laws id flushed bytes (first ∷ before) after placed (part ∷ parts) why has wrong = not_among laws id flushed bytes before after placed parts why has.1 wrong

none_bad : TableLaws → (id flushed : ℕ) (bytes : List ℕ) (tables : List (ℕ × ℕ)) (parts : List (List Version)) (place : ℕ) (why : TableError) → HasTables id flushed bytes tables parts → IsFirstBadTable id flushed bytes tables place why → ⊥
none_bad laws id flushed bytes tables parts place why has is =
    not_among laws id flushed bytes is.before is.after (place, is.size) parts why (subst (λ (l : List (ℕ × ℕ)). HasTables id flushed bytes l parts) is.listed has) is.wrong

pub none_named : TableLaws → (id flushed : ℕ) (bytes : List ℕ) (tables : List (ℕ × ℕ)) (parts : List (List Version)) (damage : Bad) → HasTables id flushed bytes tables parts → IsTableNamed id flushed bytes tables damage → ⊥
none_named laws id flushed bytes tables parts (bad.Stranger log found) has is = none_bad laws id flushed bytes tables parts is.1 (table.Stranger found) has is.2
none_named laws id flushed bytes tables parts (bad.BadTable place why) has is = none_bad laws id flushed bytes tables parts place why has is.1
none_named laws id flushed bytes tables parts other has is = is

pub same_parts : TableLaws → (id flushed : ℕ) (bytes : List ℕ) (tables : List (ℕ × ℕ)) (parts others : List (List Version)) → HasTables id flushed bytes tables parts → HasTables id flushed bytes tables others → parts ≡ others
same_parts laws id flushed bytes [] [] [] has too = refl
same_parts laws id flushed bytes [] [] (other ∷ others) has too = absurd too
same_parts laws id flushed bytes [] (part ∷ parts) others has too = absurd has
same_parts laws id flushed bytes (placed ∷ tables) [] others has too = absurd has
same_parts laws id flushed bytes (placed ∷ tables) (part ∷ parts) [] has too = absurd too
same_parts laws id flushed bytes (placed ∷ tables) (part ∷ parts) (other ∷ others) has too =
    let first : part ≡ other = laws.one_table id flushed has.0.spelling part other has.0.is (subst (SpellsTable id flushed other) (sym (there id flushed bytes placed other too.0) ∙ there id flushed bytes placed part has.0) too.0.is) in
    let rest = same_parts laws id flushed bytes tables parts others has.1 too.1 in
    λ i. first i ∷ rest i

no_parts : (n : ℕ) (bytes : List ℕ) (versions : List (List Version)) → HasTables n 0 bytes [] versions → versions ≡ []
no_parts n bytes [] h = refl
no_parts n bytes (part ∷ versions) h = absurd h

-- ---- what the manifest says, under any two ids

pub record IsSaid (list others : List Edit) (parts more : List (List Version)) : Type 0 where
  pub edits : list ≡ others
  pub tables : parts ≡ more

pub same_said : SpellOneId → ManifestLaws → TableLaws → (manifest tables : List ℕ) (id other : ℕ) (list others : List Edit) (parts more : List (List Version)) → id < 2 ^ 32 → other < 2 ^ 32
    → edits.IsManifestOf id list manifest → edits.IsManifestOf other others manifest → HasTables id (edits.last_edit list).flushed tables (edits.last_edit list).tables parts → HasTables other (edits.last_edit others).flushed tables (edits.last_edit others).tables more
    → IsSaid list others parts more
same_said one lists laws manifest tables id other list others parts more fits less spells also has too = elim (unmade_or_made manifest) [
  | inl unmade ↦
      let none : list ≡ [] = lists.one_list manifest id id list [] spells (unmade_spells id manifest unmade) in
      let none_too : others ≡ [] = lists.one_list manifest other id others [] also (unmade_spells id manifest unmade) in
      let parts_are : parts ≡ [] = no_parts id tables parts (subst (λ (l : List Edit). HasTables id (edits.last_edit l).flushed tables (edits.last_edit l).tables parts) none has) in
      let more_are : more ≡ [] = no_parts other tables more (subst (λ (l : List Edit). HasTables other (edits.last_edit l).flushed tables (edits.last_edit l).tables more) none_too too) in
      record { edits = none ∙ sym none_too; tables = parts_are ∙ sym more_are }
  | inr made ↦
      let ids : other ≡ id = manifest_id one manifest other id others list made less fits also spells in
      let same_list : list ≡ others = lists.one_list manifest id other list others spells also in
      let here : HasTables id (edits.last_edit list).flushed tables (edits.last_edit list).tables more =
      subst (λ (l : List Edit). HasTables id (edits.last_edit l).flushed tables (edits.last_edit l).tables more) (sym same_list)
      (subst (λ (n : ℕ). HasTables n (edits.last_edit others).flushed tables (edits.last_edit others).tables more) ids too) in
      record { edits = same_list; tables = same_parts laws id (edits.last_edit list).flushed tables (edits.last_edit list).tables parts more has here }
]

-- ---- all three open in one way

module _ (one : SpellOneId) (one_at : SpellOneIdAt) (logs : LogLaws) (lists : ManifestLaws) (laws : TableLaws) (log manifest tables : List ℕ) (id other : ℕ) (history another : List Entry) (o : Opens id history log manifest tables) (p : Opens other another log manifest tables) where
  said : IsSaid o.edits p.edits o.parts p.parts
  said = same_said one lists laws manifest tables id other o.edits p.edits o.parts p.parts o.id_fits p.id_fits o.installed p.installed o.there p.there

  place_is : place_of (edits.last_edit p.edits) ≡ place_of (edits.last_edit o.edits)
  place_is = ap (λ (l : List Edit). place_of (edits.last_edit l)) (sym said.edits)

  spelled_there : wal.IsLogAt other (place_of (edits.last_edit o.edits)) p.cut log
  spelled_there = subst (λ (n : ℕ). wal.IsLogAt other n p.cut log) place_is p.spelled

  same_cut : o.cut ≡ p.cut
  same_cut = logs.one_cut (place_of (edits.last_edit o.edits)) log id other o.cut p.cut o.spelled spelled_there

  pub same_history : history ≡ another
  same_history = o.full ∙ (λ i. history_over (same_cut i) (said.tables i)) ∙ sym p.full

  pub same_installed : installed_of o.cut.base (edits.last_edit o.edits) o.parts ≡ installed_of p.cut.base (edits.last_edit p.edits) p.parts
  same_installed = λ i. installed_of (same_cut i).base (edits.last_edit (said.edits i)) (said.tables i)

  pub same_ids : (IsUnmade log → IsUnmade manifest → ⊥) → id ≡ other
  same_ids made = elim (unmade_or_made manifest) [
    | inr there ↦ manifest_id one manifest id other o.edits p.edits there o.id_fits p.id_fits o.installed p.installed
    | inl unmade ↦ log_id one_at (place_of (edits.last_edit o.edits)) log id other o.cut p.cut (λ no. made (unmade_there (place_of (edits.last_edit o.edits)) log no).1 unmade) o.id_fits p.id_fits o.spelled spelled_there
  ]

-- ---- what opens is not damaged

edit_is_right : TableLaws → (id : ℕ) (c : Cut) (edit : Edit) (bytes : List ℕ) (damage : Bad) (parts : List (List Version)) → HasTables id edit.flushed bytes edit.tables parts → IsLegal (history_over c parts) → AreCovering c edit parts → IsEditDamaged id c edit bytes damage → ⊥
edit_is_right laws id c edit bytes damage parts has legal covering (base_ahead lt named) = let low = covering.covered.base in omega (arith, low, lt)
edit_is_right laws id c edit bytes damage parts has legal covering (log_behind low lt named) =
    let within = covering.covered.flushed in
    let long = full_long c (all_in parts) in
    omega (arith, within, long, lt)
edit_is_right laws id c edit bytes damage parts has legal covering (in_tables within named) = none_named laws id edit.flushed bytes edit.tables parts damage has named
edit_is_right laws id c edit bytes damage parts has legal covering (wrong_undo number within wrong named) =
    no_wrong c parts number legal (subst (λ (l : List (List Version)). IsWrongUndo c l number) (same_parts laws id edit.flushed bytes edit.tables wrong.parts parts wrong.there has) wrong.wrong)
edit_is_right laws id c edit bytes damage parts has legal covering (uncovered within none named) =
    none.not_covering (subst (λ (l : List (List Version)). AreCovering c edit l) (same_parts laws id edit.flushed bytes edit.tables parts none.parts has none.there) covering)

module _ (one : SpellOneId) (one_at : SpellOneIdAt) (logs : LogLaws) (lists : ManifestLaws) (laws : TableLaws) (log manifest tables : List ℕ) (asked id : ℕ) (history : List Entry) (o : Opens id history log manifest tables) (asks : HasAsked asked id o.edits log) where
  abbrev place : ℕ
  place = place_of (edits.last_edit o.edits)

  same_list : (found : ℕ) (others : List Edit) → edits.IsManifestOf found others manifest → others ≡ o.edits
  same_list found others spells = lists.one_list manifest found id others o.edits spells o.installed

  its_id : (its : ℕ) (c : Cut) → Finds asked its place c log → its ≡ id
  its_id its c finds = found_id one_at asked id its place o.cut c log asks o.id_fits o.spelled finds

  its_cut : (its : ℕ) (c : Cut) → Finds asked its place c log → c ≡ o.cut
  its_cut its c finds = logs.one_cut place log its id c o.cut finds.spelled o.spelled

  legal_over : IsLegal (history_over o.cut o.parts)
  legal_over = subst IsLegal o.full o.legal

  pub not_damaged : (damage : Bad) → IsDamaged asked log manifest tables damage → ⊥
  not_damaged damage (in_manifest is) = manifest_is_right lists manifest id o.edits damage o.installed is
  not_damaged damage (in_log found others spells is) =
      log_is_right logs place log id o.cut damage o.spelled o.judged (subst (λ (l : List Edit). IsLogDamaged (place_of (edits.last_edit l)) log damage) (same_list found others spells) is)
  not_damaged damage (in_ids its found c others spells finds other named) =
      let here = subst (λ (l : List Edit). Finds asked its (place_of (edits.last_edit l)) c log) (same_list found others spells) finds in
      other.other (manifest_id one manifest found id others o.edits other.made other.fits o.id_fits spells o.installed ∙ sym (its_id its c here))
  not_damaged damage (in_edit its c others spells finds is) =
      let list = same_list its others spells in
      let here = subst (λ (l : List Edit). Finds asked its (place_of (edits.last_edit l)) c log) list finds in
      edit_is_right laws id o.cut (edits.last_edit o.edits) tables damage o.parts o.there legal_over o.covering
      (subst (λ (n : ℕ). IsEditDamaged n o.cut (edits.last_edit o.edits) tables damage) (its_id its c here)
      (subst (λ (d : Cut). IsEditDamaged its d (edits.last_edit o.edits) tables damage) (its_cut its c here)
      (subst (λ (l : List Edit). IsEditDamaged its c (edits.last_edit l) tables damage) list is)))
