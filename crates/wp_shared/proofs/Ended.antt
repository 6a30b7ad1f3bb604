-- What is left of a store once all its seats were handed in.
use Rattle.std.specs.declared.alloc.Global.{Global}
use Rattle.std.proofs.Common.{Box, ◌≡◌, ◌⊎◌, inl, inr, ℕ, ◌+◌, ◌≤◌, Bool, true, false, true≢false, List, [], ◌∷◌, ◌++◌, length, map, Option, Some, None, unwrap_or, refl, sym, ap, subst, ◌∙◌, append-nil, arith}
use Rattle.std.proofs.lemmas.Bool.{false_from_ne_true}
use Rattle.wp_model.specs.declared.entry.Entry.{Entry}
use Rattle.wp_model.specs.declared.segment.Segment.{Segment}
use Rattle.wp_model.specs.Flushed.{InstalledEdit, IsEditCovered}
use Rattle.wp_model.specs.Legal.{IsLegal}
use Rattle.wp_outside.specs.Disk.{images, IfKnown}
use Rattle.wp_fields.specs.declared.format.Format.{Format}
use Rattle.wp_entry.specs.Record.{IsRecord}
use Rattle.wp_outside.specs.Faults.{Rose}
use Rattle.wp_gatelog.specs.Spelling.{IsUpTo}
use Rattle.wp_wal.specs.Spelling.{NEWEST, IsLogAt, IsLogOrNextAt, HasAcknowledgedCut}
use Rattle.wp_wal.specs.Wal.{WalState, LeavesCutOrNext, StoresCut}
use Rattle.wp_wal.proofs.AppendLemmas.{known_other, running_cut}
use Rattle.wp_manifest.specs.Spelling.{IsManifestOf, last_edit}
use Rattle.wp_cuts.specs.Cut.{Cut, IsCut, full_of}
use Rattle.wp_merge.specs.Merge.{joined}
use Rattle.wp_parts.proofs.Reopens.{ReopensEdit, reopens_edit}
use Rattle.wp_merge.proofs.Sorted.{in_order_sorted}
use Rattle.wp_table.specs.File.{HasTables}
use Rattle.wp_tableset.specs.Set.{TableSetState}
use Rattle.wp_core.specs.Conditions.{NoneNext}
use Rattle.wp_core.specs.Images.{MaySpell, MayName}
use Rattle.wp_core.specs.IsSound.{participants}
use Rattle.wp_core.specs.States.{WriteState, Installed, Content, writes, installed}
use Rattle.wp_core.specs.Turns.{Turn, write_turn, tables_turn}
use Rattle.wp_core.specs.Views.{Event}
use Rattle.wp_core.specs.World.{Participant, World}
use Rattle.wp_core.specs.Sound.Actors.{StartsWith, AreSeen, AreOwned, seen_of, own_of}
use Rattle.wp_core.specs.Sound.History.{logged_part}
use Rattle.wp_core.specs.Sound.Pasts.{AreHolders, IsBoard, AreFaults, AreEdits, past_of}
use Rattle.wp_core.proofs.CrashImages.{left_by_crash, edit_by_crash, segment_by_crash}
use Rattle.wp_core.proofs.PendingSteps.{none_logged}
use Rattle.wp_model.proofs.Tests.{same_some}
use Rattle.wp_rule.specs.Shows.{IsPart, Leaves, WasLast}
use Rattle.wp_parts.specs.Log.{LogState, IsLog}
use Rattle.wp_parts.specs.VersionSet.{VersionSetState, IsEdits}
use Rattle.wp_contents.specs.Opens.{installed_of}
use Rattle.wp_parts.specs.Parts.{content, tells, IsGuardedBy}
use Rattle.wp_parts.specs.declared.turn_value.TurnValue.{TurnValue}
use Rattle.wp_parts.specs.declared.turn_value.TurnValue.TheVariants as part
use Rattle.wp_parts.specs.Devices.{DevicesLeft, devices_behind}
use Rattle.wp_shared.proofs.Tables.{in_place}
use Rattle.wp_shared.specs.Opening.{IsOneStore}
use Rattle.wp_shared.specs.Seats.{SharedState, SeatState, place_at, participant_of}
use Rattle.wp_shared.specs.Ending.{AreAll, all_joined, Remains}
use Rattle.wp_shared.specs.Ended.{of_seats, IsFrom, OpensAsLeft, IsSince, IsEnded}

abbrev writes_in : Option Content → WriteState → WriteState
writes_in (Some (writes t)) d = t
writes_in other d = d

abbrev installed_in : Option Content → Installed → Installed
installed_in (Some (installed t)) d = t
installed_in other d = d

-- a log at rest, or one whose append has failed
stored_as : (wal : WalState) (c : Cut) (failed : List Entry) → StoresCut wal c failed → IfKnown wal.moments (LeavesCutOrNext wal.id wal.segment.place c failed)
stored_as wal c failed stores = by wal.closed refl
  where
    by : (closed : Bool) → wal.closed ≡ closed → IfKnown wal.moments (LeavesCutOrNext wal.id wal.segment.place c failed)
    by true is = stores.left is
    by false is =
        known_other (λ image. IsLogAt wal.id wal.segment.place c image × HasAcknowledgedCut wal.id wal.segment.place c image) (λ image. IsLogOrNextAt wal.id wal.segment.place c failed image × HasAcknowledgedCut wal.id wal.segment.place c image) wal.moments
        (λ image h. (inl h.0, h.1)) (running_cut wal c failed stores is)

-- the log's base was that of the last edit when the store was opened
abbrev IsBasedAsOpened : {D : Type 0} → SharedState D → LogState → Type 0
IsBasedAsOpened z log = (edit : InstalledEdit) → WasLast content z.first edit → log.first.segment.base ≡ edit.segment.base

-- the bytes have, under this id and in this segment, the log of these entries, cut at its base
abbrev HasCutAt : ℕ → Segment → List ℕ → List Entry → Type 0
HasCutAt id segment image entries = (c : Cut) × IsLogAt id segment.place c image × IsCut entries c × (c.base ≡ segment.base)

-- from the base of the cut on the list that opens is the one that is left
pub opens_from : (left : List Entry) (c : Cut) (edit : InstalledEdit) (base : ℕ) → c.base ≤ length left → c.base ≡ base → ReopensEdit left c edit → IsFrom base left (full_of c edit.versions)
opens_from left c edit base within at r = subst (λ (n : ℕ). IsFrom n left (full_of c edit.versions)) at (record {
  within = within;
  cut = sym (r.agree.cuts c.base (omega arith) within);
  values = λ key. sym (r.agree.values key c.base (omega arith) within);
})

module _ {D : Type 0} (z : SharedState D) (first : SeatState) (others : List SeatState) (parts : Turn → TurnValue D) (log_box : Box LogState Global) (edits_box : Box VersionSetState Global) (o : IsOneStore z.opened z.first) (none_joined : first.knows.joined ≡ []) (l : Leaves content (tells z.first) z.first (place_at z 0) (all_joined first.knows others) parts) (is_log : parts write_turn ≡ part.Write log_box) (is_edits : parts tables_turn ≡ part.Tables edits_box) (k : IsLog log_box.value) (e : IsEdits edits_box.value) where
  abbrev log : LogState
  log = log_box.value

  abbrev edits : VersionSetState
  edits = edits_box.value

  -- the world with the first seat alone
  abbrev w : World
  w = record l.world { actors = all_joined first.knows others ∷ [] }

  of_all : {X : Type 0} (f : Participant → X) → participants f w ≡ of_seats f (first ∷ others)
  of_all f = ap (λ (ps : List Participant). (f (participant_of first) ∷ map f ps) ∷ []) (ap (λ (ps : List Participant). map participant_of others ++ ps) none_joined ∙ append-nil (map participant_of others))

  -- ---- the two values with devices

  log_part : IsPart content (tells z.first) (part.Write log_box) (writes w.writes)
  log_part = subst (λ (x : TurnValue D). IsPart content (tells z.first) x (writes w.writes)) is_log (l.are_parts write_turn)

  edits_part : IsPart content (tells z.first) (part.Tables edits_box) (installed w.installed)
  edits_part = subst (λ (x : TurnValue D). IsPart content (tells z.first) x (installed w.installed)) is_edits (l.are_parts tables_turn)

  same_writes : log.state ≡ w.writes
  same_writes = ap (λ (c : Option Content). writes_in c log.state) log_part.0

  same_installed : edits.state ≡ w.installed
  same_installed = ap (λ (c : Option Content). installed_in c edits.state) edits_part.0

  wal_is : log.first ≡ o.wal
  wal_is = ap (λ (x : Option WalState). unwrap_or x o.wal) (sym log_part.1.1 ∙ o.log)

  set_is : edits.first ≡ o.set
  set_is = ap (λ (x : Option TableSetState). unwrap_or x o.set) (sym edits_part.1.1 ∙ o.tables)

  log_id : log.wal.id ≡ o.wal.id
  log_id = k.id ∙ ap (λ (s : WalState). s.id) wal_is

  edits_id : edits.set.manifest.log.id ≡ o.wal.id
  edits_id = e.id ∙ (ap (λ (s : TableSetState). s.manifest.log.id) set_is ∙ o.id)

  -- ---- what the log spells

  log_is : w.writes.log ≡ w.writes.history
  log_is = l.alone.history.log ∙ (ap (λ (xs : List Entry). w.writes.history ++ xs) (ap (logged_part w.writes.logged) (l.alone.pending (l.free write_turn)) ∙ none_logged w.writes.logged) ∙ append-nil w.writes.history)

  log_was : log.state.log ≡ w.writes.history
  log_was = ap (λ (t : WriteState). t.log) same_writes ∙ log_is

  segment_is : log.wal.segment ≡ w.writes.segment
  segment_is = sym k.segment ∙ ap (λ (t : WriteState). t.segment) same_writes

  failed_is : log.state.failed ≡ w.writes.failed
  failed_is = ap (λ (t : WriteState). t.failed) same_writes

  cut_left : IsCut w.writes.history k.cut
  cut_left = subst (λ (xs : List Entry). IsCut xs k.cut) log_was k.is_cut

  cut_based : k.cut.base ≡ w.writes.segment.base
  cut_based = k.stores.based ∙ ap (λ (g : Segment). g.base) segment_is

  whole_failed : (w.writes.failed ≡ []) ⊎ ((format : Format) × IsUpTo NEWEST format × IsRecord format (length w.writes.history + 1) w.writes.failed)
  whole_failed = elim k.whole [
    | inl none ↦ inl (sym failed_is ∙ none)
    | inr failed ↦ inr (log.wal.format, k.stores.readable, subst (λ (x : List Entry × List Entry). IsRecord log.wal.format (length x.0 + 1) x.1) (λ i. (log_was i, failed_is i)) failed.1)
  ]

  none_asked : w.installed.halted ≡ false → w.installed.failed ≡ None
  none_asked = subst (λ (t : Installed). t.halted ≡ false → t.failed ≡ None) same_installed (λ running. e.none_failed (e.running running))

  -- ---- what a crash leaves

  stored_left : IfKnown log.wal.moments (LeavesCutOrNext o.wal.id w.writes.segment.place k.cut w.writes.failed)
  stored_left =
      subst (λ (x : ℕ × Segment × List Entry). IfKnown log.wal.moments (LeavesCutOrNext x.0 x.1.place k.cut x.2)) (λ i. (log_id i, segment_is i, failed_is i)) (stored_as log.wal k.cut log.state.failed k.stores)

  -- an image spells, in the segment of an edit that may be named, a list that the log may spell
  spelled_at : (image : List ℕ) → images log.wal.moments image → (edit : InstalledEdit) → MayName w.installed edit → (left : List Entry) × MaySpell w.writes left × HasCutAt o.wal.id edit.segment image left
  spelled_at image at edit named =
      let told = log_part.1.0.0 image at in
      elim (segment_by_crash w l.alone edit named) [
        | inl same ↦ (
          told.0.0,
          subst (λ (t : WriteState). MaySpell t told.0.0) same_writes told.0.2,
          subst (λ (x : ℕ × Segment). HasCutAt x.0 x.1 image told.0.0) (λ i. (log_id i, (ap (λ (t : WriteState). t.segment) same_writes ∙ sym same) i)) told.0.1,
        )
        | inr next ↦ (
          w.writes.history,
          next.2,
          subst (λ (x : ℕ × List Entry). HasCutAt x.0 edit.segment image x.1) (λ i. (log_id i, ap (λ (t : WriteState). t.history) same_writes i)) (told.1 edit.segment (ap (λ (t : WriteState). t.next) same_writes ∙ next.0)),
        )
      ]

  opens_left : (log_image manifest_image tables_image : List ℕ) → images log.wal.moments log_image → images edits.set.manifest.log.moments manifest_image → images edits.set.moments tables_image
      → OpensAsLeft o.wal.id w.writes w.installed log_image manifest_image tables_image
  opens_left log_image manifest_image tables_image at_log at_manifest at_tables =
      let named = edits_part.1.0.0 manifest_image at_manifest in
      let it = named.1 in
      let edit : InstalledEdit = installed_of it.base (last_edit it.edits) it.parts in
      let last : MayName w.installed edit = subst (MayName w.installed) it.is (subst (λ (t : Installed). MayName t named.0) same_installed named.2) in
      let found = spelled_at log_image at_log edit last in
      let left : List Entry = found.0 in
      let c : Cut = found.2.0 in
      let legal : IsLegal left = (left_by_crash w l.alone left found.1).1 in
      let r : ReopensEdit left c edit = reopens_edit left c edit legal found.2.2 found.2.3 (in_order_sorted (joined it.parts)) (edit_by_crash w l.alone left edit found.1 last) in
      record {
        left = left;
        history = full_of c edit.versions;
        edit = edit;
        spelled = found.1;
        same = opens_from left c edit it.base found.2.2.within found.2.3 r;
        named = last;
        opens = (
          record {
            id_fits = o.id_fits;
            edits = it.edits;
            installed = subst (λ (n : ℕ). IsManifestOf n it.edits manifest_image) edits_id it.spelled;
            cut = c;
            spelled = found.2.1;
            judged = record { orderly = r.orderly; legal = r.entries };
            parts = it.parts;
            there = subst (λ (n : ℕ). HasTables n (last_edit it.edits).flushed tables_image (last_edit it.edits).tables it.parts) edits_id (it.there tables_image at_tables);
            full = refl;
            legal = r.legal;
            covering = record { below = r.below; covered = subst (λ (n : ℕ). IsEditCovered (full_of c edit.versions) (installed_of n (last_edit it.edits) it.parts)) (sym found.2.3) r.covered };
          },
          ap (λ (n : ℕ). installed_of n (last_edit it.edits) it.parts) (sym found.2.3),
        );
      }

  log_caused : w.writes.closed ≡ true → w.writes.stopped ≡ false → Rose log.first.faults log.wal.faults
  log_caused closed not = subst (λ (t : WriteState). t.closed ≡ true → t.stopped ≡ false → Rose log.first.faults log.wal.faults) same_writes (λ c n. k.cause (k.by_fault c n)) closed not

  log_quiet : (w.writes.closed ≡ false) ⊎ (w.writes.stopped ≡ true) → log.wal.faults ≡ log.first.faults
  log_quiet (inl running) = k.unfailed (false_from_ne_true log.wal.closed (λ shut. true≢false (sym (k.shut shut) ∙ (ap (λ (t : WriteState). t.closed) same_writes ∙ running))))
  log_quiet (inr stopped) = k.unfailed (k.unclosed (ap (λ (t : WriteState). t.stopped) same_writes ∙ stopped))

  since_opened : IsSince o.wal o.set w.writes w.installed (devices_behind log.wal edits.set)
  since_opened = subst (λ (x : WalState × TableSetState). IsSince x.0 x.1 w.writes w.installed (devices_behind log.wal edits.set)) (λ i. (wal_is i, set_is i)) (record {
    log_later = k.later;
    manifest_later = e.manifest_later;
    tables_later = e.later;
    log_cause = log_caused;
    log_unfailed = log_quiet;
    log_risen = subst (λ (g : Segment). log.first.segment.base ≤ g.base) segment_is k.risen;
    tables_cause = λ halted. e.cause (ap (λ (t : Installed). t.halted) same_installed ∙ halted);
    tables_unfailed = λ running. e.unfailed (ap (λ (t : Installed). t.halted) same_installed ∙ running);
    log_durable = λ same. k.durable (segment_is ∙ same);
    manifest_durable = e.durable;
    tables_durable = e.fronts;
  })

  -- the log was opened in the segment that the last edit named then
  based_left : IsBasedAsOpened z log
  based_left edit last =
      let same : edit ≡ o.edit = same_some edit o.edit (sym last ∙ o.last) in
      ap (λ (s : WalState). s.segment.base) wal_is ∙ sym (ap (λ (g : Segment). g.base) o.segment) ∙ sym (ap (λ (x : InstalledEdit). x.segment.base) same)

  -- ... and is now in the one that it names now
  still_in_place : w.installed.last.segment ≡ w.writes.segment
  still_in_place = in_place w.writes w.installed.last.segment l.alone.coupled.last (subst NoneNext same_writes log_part.1.0.1)

  -- ---- all of it

  ended_first : IsEnded z (first ∷ others) w.writes.history (devices_behind log.wal edits.set)
  ended_first = record {
    writes = w.writes;
    locks = w.locks;
    edits = w.installed;
    first_edit = w.first_edit;
    first_is = l.first_edit;
    history_is = refl;
    legal = l.alone.history.legal;
    grown = subst (StartsWith w.writes.history) l.before.opened l.alone.history.grown;
    seen = subst (AreSeen w.writes.history) (of_all seen_of) l.alone.seen;
    owned = subst (λ (x : List Entry × List (List (List ℕ))). AreOwned x.0 w.writes.history x.1) (λ i. (l.before.opened i, of_all own_of i)) l.alone.owned;
    holders = subst (λ (x : List Entry × List (List (List Event))). AreHolders x.0 w.writes.history w.locks x.1) (λ i. (l.before.opened i, of_all past_of i)) l.alone.holders;
    board = subst (IsBoard (length w.writes.history) w.locks) (of_all past_of) l.alone.board;
    faults = subst (AreFaults w.writes w.installed.halted) (of_all past_of) l.alone.faults;
    installed = subst (AreEdits w.first_edit w.installed) (of_all past_of) l.alone.edits;
    log = log_is;
    none_failed = l.alone.history.none_failed;
    whole = whole_failed;
    none_asked = none_asked;
    opened = o;
    cut = k.cut;
    is_cut = cut_left;
    based = cut_based;
    in_place = still_in_place;
    stored = stored_left;
    opens = opens_left;
    since = since_opened;
  }

  ended_as : (history : List Entry) (left : DevicesLeft) → history ≡ log.state.history → left ≡ devices_behind log.wal edits.set → IsEnded z (first ∷ others) history left × IsBasedAsOpened z log
  ended_as history left same devices = (
    subst (λ (x : List Entry × DevicesLeft). IsEnded z (first ∷ others) x.0 x.1) (λ i. (sym (same ∙ ap (λ (t : WriteState). t.history) same_writes) i, sym devices i)) ended_first,
    based_left,
  )

-- the values behind the write turn and the tables turn are theirs
pub writes_left : {D : Type 0} (z : SharedState D) (seats : List SeatState) (parts : Turn → TurnValue D) → AreAll seats → Remains z seats parts → IsGuardedBy write_turn (parts write_turn)
writes_left z [] parts all l = absurd all
writes_left z (first ∷ others) parts all l = (writes l.world.writes, (l.are_parts write_turn).0, refl)

pub edits_left : {D : Type 0} (z : SharedState D) (seats : List SeatState) (parts : Turn → TurnValue D) → AreAll seats → Remains z seats parts → IsGuardedBy tables_turn (parts tables_turn)
edits_left z [] parts all l = absurd all
edits_left z (first ∷ others) parts all l = (installed l.world.installed, (l.are_parts tables_turn).0, refl)

pub ended : {D : Type 0} (z : SharedState D) (seats : List SeatState) (parts : Turn → TurnValue D) (log_box : Box LogState Global) (edits_box : Box VersionSetState Global) (log : LogState) (edits : VersionSetState) (history : List Entry) (left : DevicesLeft)
    → log ≡ log_box.value → edits ≡ edits_box.value → IsOneStore z.opened z.first → AreAll seats → Remains z seats parts → parts write_turn ≡ part.Write log_box → parts tables_turn ≡ part.Tables edits_box → IsLog log → IsEdits edits
    → history ≡ log.state.history → left ≡ devices_behind log.wal edits.set → IsEnded z seats history left × IsBasedAsOpened z log
ended z [] parts log_box edits_box log edits history left inside edits_inside o all l is_log is_edits k e same devices = absurd all
ended z (first ∷ others) parts log_box edits_box log edits history left inside edits_inside o all l is_log is_edits k e same devices =
    let it = ended_as z first others parts log_box edits_box o all.1 l is_log is_edits (subst IsLog inside k) (subst IsEdits edits_inside e) history left (same ∙ ap (λ (x : LogState). x.state.history) inside)
    (devices ∙ (λ i. devices_behind (inside i).wal (edits_inside i).set)) in
    (it.0, λ edit last. ap (λ (x : LogState). x.first.segment.base) inside ∙ it.1 edit last)
