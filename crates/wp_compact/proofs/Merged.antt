-- What a compaction says of its seat, once the edit was installed or refused.
use Rattle.std.proofs.Common.{◌≡◌, inl, ℕ, ◌≤◌, false, true, List, [], ◌∷◌, append-nil, length, take, refl, sym, subst, ap, ◌∙◌, Option, Some, None}
use Rattle.std.specs.Prelude.{Err, IfSome}
use Rattle.std.specs.List.{list_all}
use Rattle.wp_model.specs.declared.entry.Entry.{Entry}
use Rattle.wp_model.specs.declared.version.Version.{Version}
use Rattle.wp_model.specs.Flushed.{InstalledEdit, IsEditCovered}
use Rattle.wp_model.specs.Versions.{AreInOrder}
use Rattle.wp_merge.specs.Merge.{joined, sorted_of}
use Rattle.wp_replies.specs.Replies.{IsCompactionCount}
use Rattle.wp_replies.specs.Tables.{listed, retained, after_compaction}
use Rattle.wp_store.specs.Store.{with_newest}
use Rattle.wp_table.specs.Table.{is_flushed}
use Rattle.wp_tableset.specs.Changes.{Asked, new_parts, one_part, parts_after}
use Rattle.wp_core.specs.Effects.{with_failed}
use Rattle.wp_core.specs.Lists.{IsIn}
use Rattle.wp_core.specs.Reading.{Registration}
use Rattle.wp_core.specs.States.{Installed, installed}
use Rattle.wp_core.specs.Views.{tables_failed, tables_stay, live_listed, nothing_flushed}
use Rattle.wp_core.specs.Views as event
use Rattle.wp_core.specs.World.{Participant}
use Rattle.wp_rule.specs.Knows.{Noted}
use Rattle.wp_parts.specs.VersionSet.{VersionSetState}
use Rattle.wp_parts.specs.Installs.{SurvivesInstall}
use Rattle.wp_shared.specs.Calls.{GoesOnAs, with_events}
use Rattle.wp_shared.specs.Notes.{no_fact, GoesOn}
use Rattle.wp_shared.specs.Seats.{SharedState, SeatState}
use Rattle.wp_shared.proofs.Onward.{starts_equal, loose_none, goes_same, goes_still}
use Rattle.wp_read.specs.Registers.{numbers_of}
use Rattle.wp_maint.specs.declared.error.MaintError.TheVariants.{TableFault}
use Rattle.wp_maint.specs.Calls.{found_by}
use Rattle.wp_compact.specs.Calls.{HasAlone, HasCompacted, IsCompactionOf, CompactsFrom, SeveralTables}
use Rattle.wp_compact.specs.declared.decided.Bases.{Bases}
use Rattle.wp_compact.specs.Compaction.{IsOpenedBase, IsPin, MayMerge, MayPutKept}
use Rattle.wp_maint.specs.Holding.{is_of_flushed, is_of_tables, HoldsEdits}
use Rattle.wp_maint.specs.Installs.{next_of, HasBroken, HasInstalled}
use Rattle.wp_maint.proofs.Became.{tables_became}
use Rattle.wp_maint.proofs.Onward.{changed_seat, held_left, found_later, flushed_free, tables_free, goes_remembering}
use Rattle.wp_compact.proofs.Replaces.{all_in_one, in_one_is, number_in}
use Rattle.wp_maint.proofs.Throughout.{opens_throughout}
use Rattle.wp_maint.proofs.Versions.{sorted_same}

-- ---- one table, or none

one_sorted : (kept : List Version) → AreInOrder kept → sorted_of (joined (with_newest (one_part kept) [])) ≡ kept
one_sorted [] ordered = refl
one_sorted (v ∷ kept) ordered = ap sorted_of (append-nil (v ∷ kept)) ∙ sorted_same (v ∷ kept) ordered

pub only_sorted : (kept : List Version) → AreInOrder kept → (parts : List (List Version)) (part : Option (List Version)) → parts ≡ with_newest part [] → part ≡ one_part kept → sorted_of (joined parts) ≡ kept
only_sorted kept ordered parts part is one = ap (λ (l : List (List Version)). sorted_of (joined l)) (is ∙ ap (λ (o : Option (List Version)). with_newest o []) one) ∙ one_sorted kept ordered

-- what is asked for has the table in place of all
pub alone : (e left : VersionSetState) (kept : List Version) (asked : Asked) → asked ≡ all_in_one kept e.state.last → left.parts ≡ parts_after asked e.parts → HasAlone kept e left
alone e left kept asked is parts = parts ∙ ap (λ (x : Asked). parts_after x e.parts) is ∙ append-nil (new_parts kept)

-- ---- the edit was installed

module _ {D : Type 0} (z : SharedState D) (s u : SeatState) (e left : VersionSetState) (floor : ℕ) (live : List Registration) (bases : Bases) (opened : IsOpenedBase z bases.opened) (may : MayMerge s.knows e.state floor live bases) (kept : List Version) (kept_is : kept ≡ retained (take floor s.knows.participant.seen) (listed (numbers_of live) bases.opened e.state.last) e.state.last) where
  abbrev next : InstalledEdit
  next = next_of (all_in_one kept e.state.last) e.state.last

  abbrev numbers : List ℕ
  numbers = listed (numbers_of live) bases.opened e.state.last

  abbrev first : InstalledEdit
  first = opened.0

  -- as the first edit says it
  numbers_are : numbers ≡ listed (numbers_of live) first.segment.base e.state.last
  numbers_are = ap (λ (b : ℕ). listed (numbers_of live) b e.state.last) opened.2

  first_low : first.segment.base ≤ floor
  first_low = subst (λ (b : ℕ). b ≤ floor) opened.2 may.low.0

  live_from : (n : ℕ) → IsIn n (numbers_of live) → first.segment.base ≤ n
  live_from n there = let k = number_in live n there in subst (λ (x : ℕ × ℕ). x.0 ≤ x.1) (λ i. (opened.2 i, k.is i)) (may.live_from k.r k.there)

  pub next_covered : IsEditCovered s.knows.participant.seen next
  next_covered = subst (IsEditCovered s.knows.participant.seen) (sym (in_one_is (take floor s.knows.participant.seen) numbers e.state.last kept kept_is)) may.covered

  module _ (k : HasInstalled z s e next true u left) where
    seen : u.knows.participant.seen ≡ s.knows.participant.seen
    seen = ap (λ (x : SeatState). x.knows.participant.seen) k.changes.goes.same

    registered : u.knows.participant.registered ≡ s.knows.participant.registered
    registered = ap (λ (x : SeatState). x.knows.participant.registered) k.changes.goes.same

    pub left_kept : left.state.last.versions ≡ kept
    left_kept = ap (λ (x : Installed). x.last.versions) k.state

    pub replaces_next : Noted u.knows nothing_flushed → MayPutKept z u.knows left.state floor
    replaces_next gone = let k_live = may.replace.live_is in record {
      live = live;
      opened = bases.opened;
      is_opened = opened;
      low = (may.low.0, subst (λ (x : Installed). x.last.segment.base ≤ floor) (sym k.state) may.low.1);
      versions = e.state.last.versions;
      replace = record {
        live_is = record {
          within = subst (λ (h : List Entry). floor ≤ length h) (sym seen) k_live.within;
          registered = λ r there. (subst (IsIn r) (sym registered) (k_live.registered r there).0, (k_live.registered r there).1);
          listed = k.changes.goes.noted (live_listed floor (numbers_of live)) refl k_live.listed;
        };
        gone = gone;
        store_floor = may.replace.store_floor;
        named = k.changes.goes.noted (tables_stay e.state.last.versions may.replace.store_floor) refl may.replace.named;
        given_up = may.replace.given_up;
        in_order = may.replace.in_order;
        low = subst (λ (x : Installed). list_all (is_flushed x.last.flushed) e.state.last.versions ≡ true) (sym k.state) may.replace.low;
      };
      kept =
          left_kept
          ∙ kept_is
          ∙ (λ i. retained (take floor (sym seen i)) (listed (numbers_of live) bases.opened (sym k.state i).last) e.state.last);
    }

    pub has_compacted : HoldsEdits z s e → HasAlone kept e left → (v : SeatState) (turns : List ℕ) → GoesOn is_of_tables (installed left.state ∷ []) turns u v → e.state.halted ≡ false → SeveralTables e.state.last → (n : ℕ) → n ≡ length kept
        → HasCompacted (GoesOnAs s v) (IsPin floor (numbers_of live)) z s v e.state (record { at = floor; versions = n })
    has_compacted holds parts v turns put running several n counted =
        let then : v.knows.participant.seen ≡ s.knows.participant.seen = ap (λ (x : SeatState). x.knows.participant.seen) put.same ∙ seen in
        -- what the last seat has seen, and the base as the first edit says it
        let same : (take floor s.knows.participant.seen, numbers) ≡ (take floor v.knows.participant.seen, listed (numbers_of live) first.segment.base e.state.last) = λ i. (take floor (sym then i), numbers_are i) in
        let kept_then : kept ≡ retained (take floor v.knows.participant.seen) (listed (numbers_of live) first.segment.base e.state.last) e.state.last = kept_is ∙ ap (λ (x : List Entry × List ℕ). retained x.0 x.1 e.state.last) same in
        let named : next ≡ after_compaction (take floor v.knows.participant.seen) (listed (numbers_of live) first.segment.base e.state.last) e.state.last = in_one_is (take floor v.knows.participant.seen) (listed (numbers_of live) first.segment.base e.state.last) e.state.last kept kept_then in
        let found = found_later z s u v e.state (starts_equal u.knows.participant.seen v.knows.participant.seen (ap (λ (x : SeatState). x.knows.participant.seen) put.same)) k.changes.found in
        let after : InstalledEdit → Participant = λ edit. with_events (found_by z s v e.state found ∷ event.installed edit true ∷ []) s.knows.participant in
        let one : GoesOnAs s u (after next) = goes_remembering s u (found_by z s v e.state found ∷ event.installed next true ∷ []) is_of_flushed (installed left.state ∷ []) s.turns k.changes.goes flushed_free in
        let second : GoesOnAs u v u.knows.participant = goes_same u v is_of_tables (installed left.state ∷ []) turns tables_free put in
        let count : n ≡ length (retained (take floor v.knows.participant.seen) (listed (numbers_of live) first.segment.base e.state.last) e.state.last) = counted ∙ ap (λ (l : List Version). length l) kept_then in
        record {
          found = found;
          running = running;
          several = several;
          live = numbers_of live;
          pinned = (refl, refl);
          first = first;
          is_first = opened.1;
          low = first_low;
          from_base = live_from;
          versions = count;
          few = subst (λ (m : ℕ). IsCompactionCount (take floor v.knows.participant.seen) first.segment.base floor m) (sym count)
              (subst (λ (x : (List Entry × List ℕ) × ℕ). IsCompactionCount x.0.0 x.1 floor (length (retained x.0.0 x.0.1 e.state.last))) (λ i. (same i, opened.2 i)) may.few);
          left = held_left z s u v (record e.state { last = after_compaction (take floor v.knows.participant.seen) (listed (numbers_of live) first.segment.base e.state.last) e.state.last }) k.stands (changed_seat z s u e.state left.state k.changes) seen (ap (λ (x : SeatState). x.knows.participant) put.same)
              (subst (λ (t : Installed). IsIn (installed t) u.knows.held) (k.state ∙ ap (λ (edit : InstalledEdit). record e.state { last = edit }) named) (subst (IsIn (installed left.state)) (sym k.holds.turn.held) (inl refl)));
          tables = tables_became e left holds.of_store k.holds.of_store k.edits k.still_edits (k.state ∙ ap (λ (edit : InstalledEdit). record e.state { last = edit }) named) (parts ∙ ap (λ (l : List Version). new_parts l) kept_then);
          survives = subst (SurvivesInstall e left) named k.survives;
          throughout = opens_throughout s.knows.participant.seen v.knows.participant.seen e left next (after_compaction (take floor v.knows.participant.seen) (listed (numbers_of live) first.segment.base e.state.last) e.state.last) k.edits running k.survives next_covered refl then named;
          goes_on = subst (λ (edit : InstalledEdit). GoesOnAs s v (after edit)) named (goes_still s u v (after next) one second);
        }

  -- ---- it was refused

  asked_so : (failed : Option InstalledEdit) → IfSome failed (λ edit. edit ≡ next) → (seen : u.knows.participant.seen ≡ s.knows.participant.seen) → IfSome failed (IsCompactionOf (IsPin floor (numbers_of live)) z u e.state.last)
  asked_so None k same = tt
  asked_so (Some edit) k same = record {
    floor = floor;
    live = numbers_of live;
    pinned = (refl, refl);
    first = first;
    is_first = opened.1;
    from_base = live_from;
    edit_is = k ∙ in_one_is (take floor s.knows.participant.seen) numbers e.state.last kept kept_is ∙ (λ i. after_compaction (take floor (sym same i)) (numbers_are i) e.state.last);
  }

  pub not_compacted : HoldsEdits z s e → HasBroken z s e next u left → e.state.halted ≡ false → SeveralTables e.state.last → CompactsFrom (GoesOnAs s u) (IsPin floor (numbers_of live)) z s e.state (Err TableFault) u
  not_compacted holds k running several =
      let same : u.knows.participant.seen ≡ s.knows.participant.seen = ap (λ (x : SeatState). x.knows.participant.seen) k.changes.goes.same in record {
        found = k.changes.found;
        running = running;
        busy = several;
        asked = left.state.failed;
        next = asked_so left.state.failed k.asked same;
        left = held_left z s u u (with_failed e.state left.state.failed) k.stands (changed_seat z s u e.state left.state k.changes) same refl
            (subst (λ (t : Installed). IsIn (installed t) u.knows.held) k.state (subst (IsIn (installed left.state)) (sym k.holds.turn.held) (inl refl)));
        fault = tables_became e left holds.of_store k.holds.of_store k.edits k.still_edits k.state k.fault;
        survives = (next, asked_so (Some next) refl same, k.survives, opens_throughout s.knows.participant.seen u.knows.participant.seen e left next next k.edits running k.survives next_covered refl same refl);
        goes_on = goes_remembering s u (found_by z s u e.state k.changes.found ∷ tables_failed e.state.last left.state.failed ∷ []) no_fact (installed left.state ∷ []) s.turns k.changes.goes loose_none;
      }
