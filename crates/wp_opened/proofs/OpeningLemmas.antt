-- An opened store is an opening world of the machine.
use Rattle.std.proofs.Common.{◌≡◌, ◌⊎◌, inl, inr, ℕ, Bool, ◌+◌, ◌<◌, ◌≤◌, ◌==◌, true, false, true≢false, List, [], ◌∷◌, ◌++◌, length, replicate, Option, Some, None, is_some, refl, sym, ap, ◌∙◌, subst, append-nil, arith}
use mathlib.Core.Option.{some}
use lib.ListN.{get_elem?}
use Rattle.std.proofs.lemmas.Bool.{cases_lt, or_cases, or_left}
use Rattle.std.proofs.lemmas.List.{length-replicate}
use Rattle.std.proofs.lemmas.List.Elements.{All-replicate}
use Rattle.std.proofs.lemmas.List.FromFn.{length-range_with_len, get_or-range_with_len}
use Rattle.std.proofs.lemmas.List.Kept.{IsStrictlyIncreasing-filter}
use Rattle.std.specs.FinMap as finite
use Rattle.std.specs.List.{range_with_len}
use Rattle.std.specs.List.Sorted.{IsStrictlyIncreasing}
use Rattle.std.specs.Option.{option_or}
use Rattle.std.specs.Ordering.{nat_cmp}
use Rattle.wp_model.specs.declared.entry.Entry.{Entry}
use Rattle.wp_model.specs.declared.version.Version.{Version}
use Rattle.wp_model.specs.Covered.{IsCovered, is_among}
use Rattle.wp_model.specs.Flushed.{InstalledEdit, IsEditCovered, later_versions}
use Rattle.wp_model.specs.History.{is_undecided, undecided}
use Rattle.wp_model.specs.Legal.{undone_last}
use Rattle.wp_model.specs.Snapshots.{Snapshots}
use Rattle.wp_model.specs.Versions.{version_at}
use Rattle.wp_model.proofs.Entries.{undone_after}
use Rattle.wp_cuts.specs.Cut.{Cut, IsCut}
use Rattle.wp_cuts.proofs.FullList.{full_is_cut, full_long}
use Rattle.wp_cuts.proofs.Whole.{full_undone}
use Rattle.wp_outside.specs.Disk.{Moment, IfKnown, added, after_sync}
use Rattle.wp_fields.specs.declared.format.Format.{Format}
use Rattle.wp_fields.specs.declared.format.Format.TheVariants.{One, Two}
use Rattle.wp_manifest.specs.Edit.{Edit}
use Rattle.wp_manifest.specs.Manifest.{ManifestState}
use Rattle.wp_merge.specs.Merge.{first_at, joined, sorted_of}
use Rattle.wp_merge.proofs.Merged.{or_none}
use Rattle.wp_merge.proofs.Sorted.{at_append, at_sorted}
use Rattle.wp_refused.specs.Damage.{IsWithin}
use Rattle.wp_refused.specs.Parts.{PartsOpened, stored_cut}
use Rattle.wp_contents.specs.Opens.{installed_of}
use Rattle.wp_store.specs.Store.{StoreParts}
use Rattle.wp_table.specs.File.{HasTables}
use Rattle.wp_tableset.specs.Set.{RestsWith}
use Rattle.wp_wal.specs.Spelling.{AreCut, AreEntries}
use Rattle.wp_wal.specs.Wal.{WalState}
use Rattle.wp_core.specs.Turns.{Turn, write_turn, prepared_turn, snapshots_turn, store_turn, locks_turn, tables_turn, all_free}
use Rattle.wp_core.specs.Changes.{turn_index}
use Rattle.wp_core.specs.Runs.{IsOpening}
use Rattle.wp_core.specs.Sound.Store.{IsStored, NoneFlushed}
use Rattle.wp_core.specs.States.{Installed, live_numbers, up_to}
use Rattle.wp_core.specs.States as table
use Rattle.wp_core.specs.World.{World, new_actor, content_of}
use Rattle.wp_core.proofs.PendingVersions.{covers_same}
use Rattle.wp_core.proofs.PublishesVersions.{up_to_within, up_to_past}
use Rattle.wp_core.proofs.SnapshotsStep.{among_live}
use Rattle.wp_model.proofs.Records.{one_closes}
use Rattle.wp_model.proofs.Tests.{none_some}
use Rattle.wp_rule.specs.Shows.{Founds, IsPart}
use Rattle.wp_parts.specs.Log.{LogState, log_state, open_ending}
use Rattle.wp_parts.specs.Stock.{StockState, store_state}
use Rattle.wp_parts.specs.VersionSet.{VersionSetState, edits_state, failed_edit}
use Rattle.wp_opened.specs.Filled.{AreFilled, IsFlagOf, running_set}
use Rattle.wp_parts.specs.Parts.{content, LogStands, EditsStand, tells}
use Rattle.wp_parts.specs.declared.turn_value.TurnValue.{TurnValue}
use Rattle.wp_parts.specs.declared.turn_value.TurnValue.TheVariants as part
use Rattle.wp_parts.proofs.StockLemmas.{at_parts}
use Rattle.wp_parts.proofs.LaterVersions.{later_none, later_each, later_past, tables_none}

abbrev Found : Type 0
Found = Option (Option (List ℕ))

-- ---- what the log spells ends in no undo

closes_after : (front rest : List Entry) → undone_last front ≡ None → undone_last rest ≡ None → undone_last (front ++ rest) ≡ None
closes_after front [] closed rest_closed = ap undone_last (append-nil front) ∙ closed
closes_after front (e ∷ rest) closed rest_closed = undone_after front rest e ∙ rest_closed

all_close : (format : Format) (first : ℕ) (records : List (List ℕ)) (entries : List Entry) → AreEntries format first records entries → undone_last entries ≡ None
all_close format first [] entries is = ap undone_last is
all_close format first (r ∷ records) entries (front, rest, parts, is, bytes, more) =
    ap undone_last parts ∙ closes_after front rest (one_closes front is.form.one) (all_close format (first + length front) records rest more)

cut_closes : (format : Format) (place : ℕ) (records : List (List ℕ)) (c : Cut) → AreCut format place records c → undone_last c.entries ≡ None
cut_closes One place records c (none, nothing, are, there) = all_close One 1 records c.entries are
cut_closes Two place [] c (first, is) = ap (λ (d : Cut). undone_last d.entries) is
cut_closes Two place (r ∷ records) c (is, bytes, are) = all_close Two (c.base + 1) records c.entries are

-- ---- the tables at rest

synced_rests : (id : ℕ) (edit : Edit) (parts : List (List Version)) (old new : List Moment) → new ≡ added after_sync old → IfKnown old (λ m. HasTables id edit.flushed m.reads edit.tables parts) → IfKnown new (RestsWith id edit parts)
synced_rests id edit parts [] new is there = rw is tt
synced_rests id edit parts (m ∷ past) new is there = rw is (record { bytes = m.reads; on_disk = refl; tables = there })

-- ---- the undecided numbers

pub undecided_rise : (history : List Entry) → IsStrictlyIncreasing (undecided history)
undecided_rise history = IsStrictlyIncreasing-filter (is_undecided history) (range_with_len 1 (length history)) rise
  where
    rise : IsStrictlyIncreasing (range_with_len 1 (length history))
    rise k within =
        let size : length (range_with_len 1 (length history)) ≡ length history = length-range_with_len 1 (length history) in
        rw (get_or-range_with_len 1 (length history) k 0 (omega (arith, within, size)), get_or-range_with_len 1 (length history) (k + 1) 0 (omega (arith, within, size))) (omega arith)

-- ---- versions

either_order : (a b : Found) → (a ≡ None) ⊎ (b ≡ None) → option_or a b ≡ option_or b a
either_order None None none = refl
either_order None (Some v) none = refl
either_order (Some v) None none = refl
either_order (Some v) (Some u) (inl none) = absurd cc
either_order (Some v) (Some u) (inr none) = absurd cc

none_live : (n : ℕ) → is_among (live_numbers finite.empty) n ≡ true → ⊥
none_live n among = true≢false (sym among ∙ among_live finite.empty n ∙ ap is_some (finite.get-empty nat_cmp n))

module _ (asked : ℕ) (log manifest tables : List Moment) (wal : WalState) (history : List Entry) (edits : ManifestState) (now : List Moment) (store : StoreParts) (opened : PartsOpened asked log manifest tables wal history edits now store) where
  pub rests : IfKnown now (RestsWith edits.log.id edits.edit store.tables)
  rests = rw opened.one_id (synced_rests wal.id edits.edit store.tables tables now opened.synced opened.there)

  abbrev flushed : ℕ
  flushed = edits.edit.flushed

  abbrev memory : List Version
  memory = sorted_of (joined (store.memory ∷ store.frozen))

  abbrev in_tables : List Version
  in_tables = sorted_of (joined store.tables)

  abbrev later : List Version
  later = later_versions history flushed

  abbrev last : InstalledEdit
  last = installed_of wal.segment.base edits.edit store.tables

  -- what the log has of the history
  abbrev cut : Cut
  cut = stored_cut wal history

  covered : IsEditCovered history last
  covered = subst (λ (h : List Entry). IsEditCovered h last) (sym opened.store.full) opened.store.covering.covered

  -- all that was flushed is in the log, and so is its base
  pub is_within : IsWithin cut edits.edit
  is_within = record {
    base = opened.store.covering.covered.base;
    flushed = subst (λ (n : ℕ). flushed ≤ n) (full_long cut in_tables) opened.store.covering.covered.flushed;
  }

  at_memory : (key : List ℕ) (p : ℕ) → version_at memory key p ≡ version_at later key p
  at_memory key p =
      at_parts (store.memory ∷ store.frozen) key p
      ∙ ap (λ (parts : List (List Version)). option_or (version_at store.memory key p) (first_at parts key p)) opened.store.frozen
      ∙ or_none key p (version_at store.memory key p)
      ∙ ap (λ (vs : List Version). version_at vs key p) opened.store.memory
      ∙ at_sorted later key p

  at_tables : (key : List ℕ) (p : ℕ) → flushed < p → version_at in_tables key p ≡ None
  at_tables key p above = at_parts store.tables key p ∙ tables_none wal.id flushed store.tables opened.are key p above

  -- memory and tables have what the edit and the later versions have
  at_all : (key : List ℕ) (p : ℕ) → version_at (memory ++ in_tables) key p ≡ version_at (in_tables ++ later) key p
  at_all key p =
      at_append memory in_tables key p
      ∙ ap (λ (o : Found). option_or o (version_at in_tables key p)) (at_memory key p)
      ∙ either_order (version_at later key p) (version_at in_tables key p) (apart (cases_lt flushed p))
      ∙ sym (at_append in_tables later key p)
    where
      apart : (flushed < p) ⊎ (p ≤ flushed) → (version_at later key p ≡ None) ⊎ (version_at in_tables key p ≡ None)
      apart (inl above) = inr (at_tables key p above)
      apart (inr low) = inl (later_none history flushed key p low)

  memory_past : (key : List ℕ) (p : ℕ) → length history < p → version_at memory key p ≡ None
  memory_past key p above = at_memory key p ∙ later_past history flushed key p opened.store.legal covered.flushed above

  within : (key : List ℕ) (p : ℕ) → version_at (up_to (length history) (memory ++ in_tables)) key p ≡ version_at (in_tables ++ later) key p
  within key p = elim (cases_lt (length history) p) [
    | inr low ↦ up_to_within (length history) (memory ++ in_tables) key p low ∙ at_all key p
    | inl above ↦
        up_to_past (length history) (memory ++ in_tables) key p above
        ∙ sym (at_append in_tables later key p ∙ ap (λ (o : Found). option_or o (version_at later key p)) (at_tables key p (omega (arith, above, covered.flushed))) ∙ later_past history flushed key p opened.store.legal covered.flushed above)
  ]

  shown : IsCovered (up_to (length history) (memory ++ in_tables)) history (wal.segment.base ∷ []) (length history)
  shown = covers_same (in_tables ++ later) (up_to (length history) (memory ++ in_tables)) history (wal.segment.base ∷ []) (length history) within covered.covered

  in_edit : (key : List ℕ) (p : ℕ) (value : Option (List ℕ)) → version_at in_tables key p ≡ Some value → version_at (in_tables ++ later) key p ≡ Some value
  in_edit key p value is = at_append in_tables later key p ∙ ap (λ (o : Found). option_or o (version_at later key p)) is

  stored : (failed : Option InstalledEdit) → failed ≡ None → IsStored history [] last.segment.base finite.empty (record { memory = memory; tables = in_tables; floor = length history }) (record { last = last; failed = failed; halted = false })
  stored failed none = record {
    covered = record {
      part = shown.part;
      undecided = shown.undecided;
      undone = shown.undone;
      listed = λ key n among. shown.listed key n (elim (or_cases (wal.segment.base == n) (is_among (live_numbers finite.empty) n) among) [
        | inl same ↦ or_left (wal.segment.base == n) false same
        | inr there ↦ absurd (none_live n there)
      ]);
      later = shown.later;
    };
    based = covered.base;
    floor = omega arith;
    next = λ key p value above is. absurd (none_some (version_at memory key p) value (memory_past key p above) is);
    tables = λ key p value is. covered.covered.part key p value (in_edit key p value is);
    last = covered;
    failed = λ edit is. absurd (none_some failed edit none is);
    in_memory = λ key p value above is. at_memory key p ∙ later_each history flushed key p opened.store.legal above ∙ is;
  }

  -- no undo ends the history
  pub closed_undo : undone_last history ≡ None
  closed_undo =
      ap undone_last opened.store.full ∙ full_undone cut in_tables ∙ cut_closes wal.format wal.segment.place opened.opened.stores.records cut opened.opened.stores.spelled

  -- the history has the log's cut
  pub has_cut : IsCut history cut
  has_cut = subst (λ (h : List Entry). IsCut h cut) (sym opened.store.full) (full_is_cut cut in_tables opened.opened.judged.orderly.numbered)

  none_flushed : NoneFlushed memory flushed
  none_flushed key p low = at_memory key p ∙ later_none history flushed key p low

  -- ---- the world

  module _ {D : Type 0} (faults : ℕ) (slots : List (TurnValue D)) (f : AreFilled wal history (running_set edits now faults) store slots) (client : List ℕ) (cells flag : ℕ) (some_cells : 1 ≤ cells) (flagged : IsFlagOf history flag) where
    abbrev installed : Installed
    installed = (edits_state (running_set edits now faults) (running_set edits now faults) wal.segment.base store.tables None).state

    abbrev opened_world : World
    opened_world = record {
      opened = history;
      max_evicted = length history;
      delayed_flag = flag;
      old_flag = 0;
      cache = replicate cells 0;
      holders = all_free;
      writes = (log_state wal wal history [] false open_ending).state;
      prepared = f.prepared.value;
      snapshots = finite.empty;
      store = store_state (record { parts = store; floor = length history });
      locks = f.locks.value;
      installed = installed;
      first_edit = last;
      actors = new_actor true client history ∷ [];
    }

    none_failed : installed.failed ≡ None
    none_failed = by edits.log.closed
      where
        by : (closed : Bool) → failed_edit closed None last ≡ None
        by true = refl
        by false = refl

    opens : IsOpening opened_world
    opens = record {
      legal = opened.store.legal;
      closed_undo = closed_undo;
      history = refl;
      pending = refl;
      log = refl;
      running_log = refl;
      none_failed = refl;
      unstopped = refl;
      segment = λ i. record { place = opened.opened.placed i; base = wal.segment.base };
      none_next = refl;
      max_evicted = refl;
      words = rw length-replicate some_cells;
      cache = All-replicate (λ word. word ≡ 0) cells 0 refl;
      holders = refl;
      heap = f.delayed.heap;
      delayed = f.delayed.delayed;
      delayed_commits = f.delayed.delayed_commits;
      delayed_flag = flagged.0;
      delayed_free = flagged.1;
      old_flag = refl;
      snapshots = refl;
      versions = stored installed.failed none_failed;
      in_step = (none_flushed, refl);
      first_edit = refl;
      not_failed = none_failed;
      running = refl;
      locks = f.locked;
      client = client;
      actors = refl;
    }

    module _ (log_told : LogStands f.log.value) (set_told : EditsStand f.edits.value) where
      abbrev list : List (TurnValue D)
      list = part.Write f.log ∷ part.Prepared f.prepared ∷ part.Snapshots f.snaps ∷ part.Store f.stock ∷ part.Locks f.locks ∷ part.Tables f.edits ∷ []

      each : (turn : Turn) → (x : TurnValue D) × (get_elem? list (turn_index turn) ≡ some x) × IsPart content (tells list) x (content_of opened_world turn)
      each write_turn = (part.Write f.log, refl, (ap (λ (l : LogState). Some (table.writes l.state)) f.log_is, (log_told, refl)))
      each prepared_turn = (part.Prepared f.prepared, refl, (refl, (tt, tt)))
      each snapshots_turn = (part.Snapshots f.snaps, refl, (ap (λ (m : Snapshots). Some (table.snapshots m)) f.none_live, (tt, tt)))
      each store_turn = (part.Store f.stock, refl, (ap (λ (s : StockState). Some (table.store (store_state s))) f.stock_is, (tt, tt)))
      each locks_turn = (part.Locks f.locks, refl, (refl, (tt, tt)))
      each tables_turn = (part.Tables f.edits, refl, (ap (λ (e : VersionSetState). Some (table.installed e.state)) f.edits_are, (set_told, refl)))

      pub founds : Founds content (tells slots) client history cells flag slots
      founds = subst (λ (xs : List (TurnValue D)). Founds content (tells xs) client history cells flag xs) (sym f.are) record {
        world = opened_world;
        opening = opens;
        opened_is = refl;
        cells_are = length-replicate cells 0;
        flag_is = refl;
        actors_are = refl;
        deep = refl;
        parts = each;
      }
