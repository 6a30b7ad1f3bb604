-- What an install makes of the tables, and what one leaves that failed.
use Rattle.std.proofs.Common.{◌≡◌, ◌⊎◌, inl, inr, ℕ, Bool, true, false, List, [], ◌∷◌, ◌++◌, length, min, ◌≤◌, Option, Some, None, append-nil, refl, sym, ap, ◌∙◌, subst, arith}
use Rattle.std.specs.Prelude.{Result, Ok}
use Rattle.std.specs.List.{list_all}
use Rattle.std.specs.Option.{option_or}
use Rattle.wp_model.specs.declared.segment.Segment.{Segment}
use Rattle.wp_model.specs.declared.version.Version.{Version}
use Rattle.wp_model.specs.Flushed.{InstalledEdit}
use Rattle.wp_model.specs.Versions.{AreInOrder, version_at}
use Rattle.wp_outside.specs.Disk.{Moment, IfKnown, Passes, added, after_write}
use Rattle.wp_outside.specs.Faults.{Rose}
use Rattle.wp_gatelog.specs.Durability.{LosesNoRecord}
use Rattle.wp_gatelog.specs.Moments.{Leaves}
use Rattle.wp_gatelog.proofs.DurabilityLemmas.{preserves_on}
use Rattle.wp_manifest.specs.Edit.{Edit, no_edit}
use Rattle.wp_manifest.specs.Manifest.{ManifestState, StoresEdits}
use Rattle.wp_manifest.specs.Spelling.{MAGIC, last_edit, IsManifestOrNext}
use Rattle.wp_merge.specs.Merge.{first_at, joined, sorted_of}
use Rattle.wp_merge.proofs.Merged.{or_none}
use Rattle.wp_merge.proofs.Sorted.{at_append, at_sorted, in_order_sorted, in_order_same}
use Rattle.wp_contents.specs.Opens.{all_in, installed_of}
use Rattle.wp_store.specs.Store.{with_newest}
use Rattle.wp_table.specs.Table.{is_flushed}
use Rattle.wp_tableset.specs.Changes.{Asked, InstallsEdit, IsInstalled, LosesNoTable, NewestIsWritten, NotInstalled, NotWritten, edit_for, new_parts, new_places, one_part, parts_after}
use Rattle.wp_tableset.specs.Device.{KeepsFronts}
use Rattle.wp_tableset.specs.Install.{IsWrittenEdit, WrittenEditState}
use Rattle.wp_tableset.specs.Set.{TableSetState, LeavesTables, RestsWith, StoresTables}
use Rattle.wp_tableset.specs.declared.gone.Gone.{Gone}
use Rattle.wp_tableset.specs.declared.gone.Gone.TheVariants.{Frozen, Tables}
use Rattle.wp_tableset.proofs.DeviceLemmas.{synced_grows, unmoved_grows}
use Rattle.wp_tableset.proofs.SetLemmas.{Grows, left_of, none_left, passes_grown}
use Rattle.wp_core.specs.Effects.{with_failed}
use Rattle.wp_core.specs.States.{Installed}
use Rattle.wp_parts.specs.declared.edits.FailedInstall.{FailedInstall}
use Rattle.wp_parts.specs.VersionSet.{VersionSetState, IsEdits, asked_for, edits_state, failed_edit}
use Rattle.wp_parts.specs.Installs.{WrittenInstallState, IsBehind, SurvivesInstall}
use Rattle.wp_parts.proofs.FlushedVersions.{both_flushed, later_flushed}
use Rattle.wp_parts.proofs.LogLemmas.{rose_since}
use Rattle.wp_parts.proofs.StockLemmas.{at_parts}

-- ---- the next edit

-- a table more
pub front_sorted : (versions : List Version) (parts : List (List Version)) → sorted_of (joined (versions ∷ parts)) ≡ sorted_of (versions ++ sorted_of (joined parts))
front_sorted versions parts =
    in_order_same _ _ (in_order_sorted (joined (versions ∷ parts))) (in_order_sorted (versions ++ sorted_of (joined parts))) (λ key p.
    at_parts (versions ∷ parts) key p
    ∙ ap (option_or (version_at versions key p)) (sym (at_parts parts key p))
    ∙ sym (at_append versions (sorted_of (joined parts)) key p)
    ∙ sym (at_sorted (versions ++ sorted_of (joined parts)) key p))

-- one table in place of all
at_one : (versions : List Version) (key : List ℕ) (p : ℕ) → first_at (new_parts versions) key p ≡ version_at versions key p
at_one [] key p = refl
at_one (v ∷ versions) key p = or_none key p (version_at (v ∷ versions) key p)

one_sorted : (versions : List Version) → AreInOrder versions → sorted_of (joined (new_parts versions)) ≡ versions
one_sorted versions ordered =
    in_order_same _ _ (in_order_sorted (joined (new_parts versions))) ordered (λ key p. at_parts (new_parts versions) key p ∙ at_one versions key p)

-- what is asked for is the edit with its tables
pub is_asked : (set : TableSetState) (base : ℕ) (edit : Edit) (gone : Gone) (versions : List Version) (flushed : ℕ) (segment : Segment) (place : ℕ) (parts : List (List Version)) → AreInOrder versions
    → let asked : Asked = record { gone = gone; versions = versions; flushed = flushed } in asked_for asked segment (installed_of base edit parts) ≡ installed_of segment.base (edit_for set asked segment.place place) (parts_after asked parts)
is_asked set base edit Frozen [] flushed segment place parts ordered = refl
is_asked set base edit Frozen (v ∷ versions) flushed segment place parts ordered =
    λ i. record { segment = segment; flushed = flushed; versions = sym (front_sorted (v ∷ versions) parts) i; tables = length ((v ∷ versions) ∷ parts) }
is_asked set base edit Tables [] flushed segment place parts ordered = refl
is_asked set base edit Tables (v ∷ versions) flushed segment place parts ordered =
    let one : min (length (v ∷ versions)) 1 ≡ 1 = omega arith in
    λ i. record { segment = segment; flushed = flushed; versions = sym (one_sorted (v ∷ versions) ordered) i; tables = one i }

-- no version of its tables has a number above the flushed one
asked_flushed : (gone : Gone) (versions : List Version) (old flushed : ℕ) (parts : List (List Version)) → old ≤ flushed → AreInOrder versions → list_all (is_flushed flushed) versions ≡ true → list_all (is_flushed old) (all_in parts) ≡ true
    → list_all (is_flushed flushed) (all_in (parts_after (record { gone = gone; versions = versions; flushed = flushed }) parts)) ≡ true
asked_flushed Frozen [] old flushed parts later ordered now before = later_flushed old flushed later (all_in parts) before
asked_flushed Frozen (v ∷ versions) old flushed parts later ordered now before = rw (front_sorted (v ∷ versions) parts) (both_flushed old flushed (v ∷ versions) (all_in parts) later now before)
asked_flushed Tables [] old flushed parts later ordered now before = refl
asked_flushed Tables (v ∷ versions) old flushed parts later ordered now before = rw (one_sorted (v ∷ versions) ordered) now

-- what a failed install keeps names what was asked for
pub joined_new : (versions : List Version) → joined (new_parts versions) ≡ versions
joined_new [] = refl
joined_new (v ∷ versions) = append-nil (v ∷ versions)

-- the new table, once it is written
pub one_new : (versions : List Version) → with_newest (one_part versions) [] ≡ new_parts versions
one_new [] = refl
one_new (v ∷ versions) = refl

-- ---- an edit that is not asked for

pub open_asked : (closed : Bool) (failed : Option FailedInstall) (last : InstalledEdit) → closed ≡ false → failed_edit closed failed last ≡ None
open_asked closed failed last open_ = rw open_ (none failed)
  where
    none : (failed : Option FailedInstall) → failed_edit false failed last ≡ None
    none None = refl
    none (Some f) = refl

-- as long as the manifest may be called, no edit is on its way
running_stores : (set : TableSetState) (edits : List Edit) (next : Edit) (parts next_parts : List (List Version)) → set.manifest.log.closed ≡ false → StoresTables set edits next parts next_parts → StoresTables set edits no_edit parts []
running_stores set edits next parts next_parts open_ stores = record {
  manifest = record {
    records = stores.manifest.records;
    spelled = stores.manifest.spelled;
    counted = stores.manifest.counted;
    version = stores.manifest.version;
    last = stores.manifest.last;
    rests = stores.manifest.rests;
    left = λ closed. absurd cc;
  };
  rests = stores.rests;
  left = stores.left;
  left_next = none_left set.manifest.log.id set.moments;
}

-- ---- the call

module _ (set first : TableSetState) (base : ℕ) (parts : List (List Version)) (failed : Option FailedInstall) (k : IsEdits (edits_state set first base parts failed)) (running : set.halted ≡ false) (new : TableSetState) (keeps : LosesNoTable set new) where
  abbrev last : InstalledEdit
  last = installed_of base set.manifest.edit parts

  open_before : set.manifest.log.closed ≡ false
  open_before = k.running running

  none_before : failed_edit set.manifest.log.closed failed last ≡ None
  none_before = k.none_failed open_before

  stored : StoresTables set k.edits no_edit parts []
  stored = running_stores set k.edits k.next parts k.next_parts open_before k.stores

  fronts : KeepsFronts first.moments new.moments
  fronts front = preserves_on _ first.moments set.moments new.moments (k.fronts front) (keeps.fronts k.edits k.next parts k.next_parts k.stores front)

  durable : LosesNoRecord MAGIC first.manifest.log.moments new.manifest.log.moments
  durable id records = preserves_on _ first.manifest.log.moments set.manifest.log.moments new.manifest.log.moments (k.durable id records) (keeps.durable k.edits k.next k.stores.manifest id records)

  -- ---- the table of an edit is written, or is not

  module _ (same : new.manifest ≡ set.manifest) where
    still_open : new.manifest.log.closed ≡ false
    still_open = ap (λ (m : ManifestState). m.log.closed) same ∙ open_before

    same_last : installed_of base new.manifest.edit parts ≡ last
    same_last = ap (λ (m : ManifestState). installed_of base m.edit parts) same

    -- the last edit is as it was
    kept_edits : StoresTables new k.edits no_edit parts [] → (new.halted ≡ true → Rose first.manifest.log.faults new.manifest.log.faults ⊎ Rose first.faults new.faults) → (new.halted ≡ false → new.faults ≡ set.faults) → IsEdits (edits_state new first base parts failed)
    kept_edits stores cause unfailed = record {
      edits = k.edits;
      next = no_edit;
      next_base = 0;
      next_parts = [];
      stores = stores;
      flushed = rw (ap (λ (m : ManifestState). m.edit) same) k.flushed;
      none_failed = λ _. open_asked new.manifest.log.closed failed (installed_of base new.manifest.edit parts) still_open;
      failed = λ closed. let open_ = still_open in absurd cc;
      running = λ _. still_open;
      id = keeps.id ∙ k.id;
      later = omega (arith, k.later, keeps.later);
      manifest_later = omega (arith, k.manifest_later, keeps.manifest_later);
      cause = cause;
      unfailed = λ runs. (ap (λ (m : ManifestState). m.log.faults) same ∙ (k.unfailed running).0, unfailed runs ∙ (k.unfailed running).1);
      fronts = fronts;
      durable = durable;
    }

    -- whatever the edit is to be, a crash leaves those that there are
    pub survives_write : (gone : Gone) (versions : List Version) (flushed : ℕ) → AreInOrder versions → (segment : Segment) (now : VersionSetState) → now.set ≡ new → SurvivesInstall (edits_state set first base parts failed) now (asked_for (record { gone = gone; versions = versions; flushed = flushed }) segment last)
    survives_write gone versions flushed ordered segment now is =
        let asked : Asked = record { gone = gone; versions = versions; flushed = flushed } in
        let stored_last : set.manifest.edit ≡ last_edit k.edits = k.stores.manifest.last in
        rw is record {
          edits = k.edits;
          next = edit_for set asked segment.place 0;
          next_parts = parts_after asked parts;
          stores = stored;
          last_is = ap (λ (e : Edit). installed_of base e parts) stored_last;
          next_is = is_asked set base set.manifest.edit gone versions flushed segment 0 parts ordered;
          manifest = ([], ap (λ (m : ManifestState). m.log.moments) same, tt);
          tables = subst (λ (e : Edit). Passes (LeavesTables set.manifest.log.id e parts) set.moments new.moments) stored_last (keeps.tables k.edits k.next parts k.next_parts k.stores);
          next_tables = inl (ap (λ (m : ManifestState). m.log.moments) same);
        }

  module _ (r : WrittenEditState) (written : IsWrittenEdit set new r) where
    same_manifest : new.manifest ≡ set.manifest
    same_manifest = ap (λ (s : TableSetState). s.manifest) written.changed

    pub written_edits : IsEdits (edits_state new first base parts failed)
    written_edits = kept_edits same_manifest (written.stores k.edits parts stored) (λ stopped. let halted = ap (λ (s : TableSetState). s.halted) written.changed in absurd cc) (λ _. ap (λ (s : TableSetState). s.faults) written.changed)

  module _ (stopped : NotWritten set new) where
    pub stopped_edits : IsEdits (edits_state new first base parts failed)
    stopped_edits = kept_edits stopped.manifest (stopped.stores k.edits parts stored) (λ _. inr (rose_since first.faults set.faults new.faults k.later stopped.rose)) (λ runs. let halted = stopped.halted in absurd cc)

-- ---- the edit is installed, whose table was written before

-- while a table is written behind the others, their bytes stay
written_grows : (old new : List Moment) (tables : List (ℕ × ℕ)) → NewestIsWritten old new tables → Grows old new
written_grows old new [] same before known = unmoved_grows before old new same
written_grows old new (table ∷ tables) w before known =
    let result : Result (Unit {0}) (Unit {0}) = Ok tt in
    synced_grows before w.1.0 table.0 old (added (after_write table.0 w.1.0) old) new result known w.0 refl w.1.2 tt

module _ (set first : TableSetState) (base : ℕ) (parts : List (List Version)) (failed : Option FailedInstall) (running : set.halted ≡ false) (segment : Segment) (before : VersionSetState) (put : WrittenInstallState) (b : IsBehind before (edits_state set first base parts failed) put) where
  abbrev asked : Asked
  asked = put.edit.asked

  abbrev next : Edit
  next = edit_for before.set asked segment.place b.written.place

  abbrev after : List (List Version)
  after = parts_after asked parts

  abbrev edit : InstalledEdit
  edit = asked_for asked segment (installed_of base set.manifest.edit parts)

  is_next : record put.edit.edit { place = Some segment.place } ≡ next
  is_next = ap (λ (e : Edit). record e { place = Some segment.place }) b.written.edit

  edit_is : edit ≡ installed_of segment.base next after
  edit_is = is_asked before.set base set.manifest.edit asked.gone asked.versions asked.flushed segment b.written.place parts b.written.in_order

  was_open : before.set.manifest.log.closed ≡ false
  was_open = b.was.running (ap (λ (t : Installed). t.halted) (sym b.state) ∙ running)

  pub stored_before : StoresTables before.set b.was.edits no_edit before.parts []
  stored_before = running_stores before.set b.was.edits b.was.next before.parts b.was.next_parts was_open b.was.stores

  manifest_is : set.manifest ≡ before.set.manifest
  manifest_is = ap (λ (s : TableSetState). s.manifest) b.written.changed

  next_rests : IfKnown set.moments (RestsWith before.set.manifest.log.id next after)
  next_rests = subst (λ (ps : List (List Version)). IfKnown set.moments (RestsWith before.set.manifest.log.id next (parts_after asked ps))) (sym b.parts) (b.written.there segment.place b.was.edits before.parts stored_before)

  pub survives_install : {T E : Type 0} (new : TableSetState) (result : Result T E) (now : VersionSetState) → now.set ≡ new → InstallsEdit set new (record put.edit.edit { place = Some segment.place }) result → SurvivesInstall before now edit
  survives_install new result now is installs =
      let id : ℕ = before.set.manifest.log.id in
      let edits = b.was.edits in
      let last : before.set.manifest.edit ≡ last_edit edits = b.was.stores.manifest.last in
      let was_running : before.set.halted ≡ false = sym (ap (λ (s : TableSetState). s.halted) b.written.changed) ∙ running in
      let named : set.manifest.edit ≡ last_edit edits = ap (λ (m : ManifestState). m.edit) manifest_is ∙ last in
      let passed = subst (λ (m : ManifestState). (edits : List Edit) → StoresEdits m edits no_edit → m.log.closed ≡ false → Passes (Leaves (IsManifestOrNext m.log.id edits (record put.edit.edit { place = Some segment.place }))) m.log.moments new.manifest.log.moments) manifest_is installs.passed edits stored_before.manifest was_open in
      let kept = passes_grown id before.set.manifest.edit before.parts before.set.moments set.moments (written_grows before.set.moments set.moments (new_places id asked.versions b.written.place) b.written.wrote) (stored_before.rests was_running) in
      rw is record {
        edits = edits;
        next = next;
        next_parts = after;
        stores = stored_before;
        last_is = subst (λ (e : InstalledEdit). e ≡ installed_of e.segment.base (last_edit edits) before.parts) (ap (λ (t : Installed). t.last) b.state) (λ i. installed_of base (named i) (b.parts i));
        next_is = edit_is;
        manifest = subst (λ (e : Edit). Passes (Leaves (IsManifestOrNext id edits e)) before.set.manifest.log.moments new.manifest.log.moments) is_next passed;
        tables = subst (λ (ms : List Moment). Passes (LeavesTables id (last_edit edits) before.parts) before.set.moments ms) (sym installs.moments) (subst (λ (e : Edit). Passes (LeavesTables id e before.parts) before.set.moments set.moments) last kept);
        next_tables = inr (subst (λ (ms : List Moment). IfKnown ms (LeavesTables id next after)) (sym installs.moments) (left_of id next after set.moments next_rests));
      }

  -- what the set stores afterwards
  module _ (k : IsEdits (edits_state set first base parts failed)) (new : TableSetState) (keeps : LosesNoTable set new) (same : new.moments ≡ set.moments) (unfailed : new.faults ≡ set.faults) where
    stored_now : StoresTables set k.edits no_edit parts []
    stored_now = running_stores set k.edits k.next parts k.next_parts (k.running running) k.stores

    rests_now : IfKnown new.moments (RestsWith new.manifest.log.id next after)
    rests_now =
        let id_is : before.set.manifest.log.id ≡ new.manifest.log.id = sym (keeps.id ∙ ap (λ (m : ManifestState). m.log.id) manifest_is) in
        subst (λ (ms : List Moment). IfKnown ms (RestsWith new.manifest.log.id next after)) (sym same) (subst (λ (n : ℕ). IfKnown set.moments (RestsWith n next after)) id_is next_rests)

    module _ (is : IsInstalled set new (record put.edit.edit { place = Some segment.place })) (open_ : new.manifest.log.closed ≡ false) (now : List (List Version)) (are : now ≡ after) where
      last_now : new.manifest.edit ≡ next
      last_now = is.last ∙ is_next

      pub installed_edits : IsEdits (edits_state new first segment.base now failed)
      installed_edits =
          let before_now : set.manifest.edit.flushed ≡ before.set.manifest.edit.flushed = ap (λ (m : ManifestState). m.edit.flushed) manifest_is in
          let rests = subst (λ (e : Edit). IfKnown new.moments (RestsWith new.manifest.log.id e after)) (sym last_now) rests_now in
          let stores : StoresTables new (k.edits ++ next ∷ []) no_edit after [] = record {
            manifest = subst (λ (e : Edit). StoresEdits new.manifest (k.edits ++ e ∷ []) no_edit) is_next (is.stores k.edits stored_now.manifest);
            rests = λ _. rests;
            left = left_of new.manifest.log.id new.manifest.edit after new.moments rests;
            left_next = none_left new.manifest.log.id new.moments;
          } in
          record {
            edits = k.edits ++ next ∷ [];
            next = no_edit;
            next_base = 0;
            next_parts = [];
            stores = subst (λ (ps : List (List Version)). StoresTables new (k.edits ++ next ∷ []) no_edit ps []) (sym are) stores;
            flushed = rw (last_now, are) (asked_flushed asked.gone asked.versions set.manifest.edit.flushed asked.flushed parts (omega (arith, before_now, b.written.may.later)) b.written.in_order b.written.may.flushed_all k.flushed);
            none_failed = λ _. open_asked new.manifest.log.closed failed (installed_of segment.base new.manifest.edit now) open_;
            failed = λ closed. absurd cc;
            running = λ _. open_;
            id = keeps.id ∙ k.id;
            later = omega (arith, k.later, keeps.later);
            manifest_later = omega (arith, k.manifest_later, keeps.manifest_later);
            cause = λ halted. let runs = is.running in absurd cc;
            unfailed = λ _. (is.unfailed ∙ (k.unfailed running).0, unfailed ∙ (k.unfailed running).1);
            fronts = fronts set first base parts failed k running new keeps;
            durable = durable set first base parts failed k running new keeps;
          }

      pub installed_table : (edits_state new first segment.base now failed).state ≡ record (edits_state set first base parts failed).state { last = edit }
      installed_table =
          let named : installed_of segment.base new.manifest.edit now ≡ edit = (λ i. installed_of segment.base (last_now i) (are i)) ∙ sym edit_is in
          let none = open_asked new.manifest.log.closed failed (installed_of segment.base new.manifest.edit now) open_ ∙ sym (none_before set first base parts failed k running new keeps) in
          let halted = is.running ∙ sym running in
          λ i. record { last = named i; failed = none i; halted = halted i }

    -- the manifest's device failed
    module _ (stopped : NotInstalled set new (record put.edit.edit { place = Some segment.place })) (f : FailedInstall) (names : (last : InstalledEdit) → asked_for (record { gone = f.gone; versions = joined f.tables.items; flushed = f.flushed }) f.segment last ≡ asked_for asked segment last) where
      asked_is : failed_edit new.manifest.log.closed (Some f) (installed_of base new.manifest.edit parts) ≡ Some edit
      asked_is = rw (stopped.closed, stopped.last) (ap Some (names (installed_of base set.manifest.edit parts)))

      pub failed_edits : IsEdits (edits_state new first base parts (Some f))
      failed_edits =
          let left : IfKnown new.moments (LeavesTables new.manifest.log.id set.manifest.edit parts) = subst (λ (ms : List Moment). IfKnown ms (LeavesTables new.manifest.log.id set.manifest.edit parts)) (sym same) (subst (λ (n : ℕ). IfKnown set.moments (LeavesTables n set.manifest.edit parts)) (sym keeps.id) stored_now.left) in
          record {
            edits = k.edits;
            next = next;
            next_base = segment.base;
            next_parts = after;
            stores = record {
              manifest = subst (λ (e : Edit). StoresEdits new.manifest k.edits e) is_next (stopped.stores k.edits stored_now.manifest);
              rests = λ runs. let halted = stopped.halted in absurd cc;
              left = subst (λ (e : Edit). IfKnown new.moments (LeavesTables new.manifest.log.id e parts)) (sym stopped.last) left;
              left_next = left_of new.manifest.log.id next after new.moments rests_now;
            };
            flushed = rw stopped.last k.flushed;
            none_failed = λ open_. open_asked new.manifest.log.closed (Some f) (installed_of base new.manifest.edit parts) open_;
            failed = λ closed. asked_is ∙ ap Some edit_is;
            running = λ runs. let halted = stopped.halted in absurd cc;
            id = keeps.id ∙ k.id;
            later = omega (arith, k.later, keeps.later);
            manifest_later = omega (arith, k.manifest_later, keeps.manifest_later);
            cause = λ _. inl (rose_since first.manifest.log.faults set.manifest.log.faults new.manifest.log.faults k.manifest_later stopped.rose);
            unfailed = λ runs. let halted = stopped.halted in absurd cc;
            fronts = fronts set first base parts failed k running new keeps;
            durable = durable set first base parts failed k running new keeps;
          }

      pub failed_table : (edits_state new first base parts (Some f)).state ≡ with_failed (edits_state set first base parts failed).state (Some edit)
      failed_table =
          let last = ap (λ (e : Edit). installed_of base e parts) stopped.last in
          λ i. record { last = last i; failed = asked_is i; halted = stopped.halted i }
