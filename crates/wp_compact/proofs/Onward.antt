-- A seat that goes on in a compaction, from one stage to the next.
use Rattle.std.proofs.Common.{◌≡◌, inl, inr, ℕ, true, List, [], ◌∷◌, length, take, refl, subst, ap, ◌∙◌, Option, Some, None}
use Rattle.std.specs.Prelude.{Result, Ok, Err, IfSome}
use Rattle.wp_model.specs.declared.entry.Entry.{Entry}
use Rattle.wp_model.specs.declared.version.Version.{Version}
use Rattle.wp_model.specs.Flushed.{InstalledEdit}
use Rattle.wp_replies.specs.Replies.{IsCompactionCount}
use Rattle.wp_replies.specs.Tables.{listed, retained, after_compaction}
use Rattle.wp_core.specs.Sound.Actors.{StartsWith}
use Rattle.wp_core.specs.States.{Installed, store, writes}
use Rattle.wp_core.specs.Views.{Event, tables_failed}
use Rattle.wp_core.specs.Views as event
use Rattle.wp_core.specs.World.{Participant}
use Rattle.wp_tableset.specs.Changes.{new_parts}
use Rattle.wp_parts.specs.VersionSet.{VersionSetState}
use Rattle.wp_parts.specs.Installs.{SurvivesInstall}
use Rattle.wp_shared.specs.Calls.{with_events}
use Rattle.wp_shared.specs.Seats.{SharedState, SeatState}
use Rattle.wp_maint.specs.declared.done.Done.{Done}
use Rattle.wp_maint.specs.declared.error.MaintError.{MaintError}
use Rattle.wp_maint.specs.declared.error.MaintError.TheVariants.{Memory, Nothing, TableFault, TablesStopped}
use Rattle.wp_maint.specs.Calls.{HeldTables, Finds, found_by}
use Rattle.wp_compact.specs.Calls.{FewTables, CompactsFrom, IsCompactionOf}
use Rattle.wp_compact.specs.declared.decided.Bases.{Bases}
use Rattle.wp_compact.specs.Compaction.{AreBases, HadDecision, HadVersions, IsPassed, IsOvertaken, BeginsAgain, EndsRoundFrom}
use Rattle.wp_maint.specs.Moments.{OpensThroughout}
use Rattle.wp_maint.proofs.Became.{tables_so}
use Rattle.wp_maint.proofs.Onward.{IsSeat, found_so, had_between, holds_so, nothing_so, remembers_so, throughout_so}

-- ---- the tables and the log that it held

-- a seat held the store turn between two others, as the versions in tables were these, or as what was decided of them was overtaken
module _ {D : Type 0} (z : SharedState D) (s t u v : SeatState) (same : IsSeat s t) (past : t.knows.participant.past ≡ s.knows.participant.past) (starts : StartsWith t.knows.participant.seen s.knows.participant.seen) (grown : StartsWith v.knows.participant.seen u.knows.participant.seen) where
  pub versions_between : (versions : List Version) → HadVersions z t u versions → HadVersions z s v versions
  versions_between versions k = (k.0, had_between z s t u v same past starts grown (store k.0) k.1, k.2)

  pub passed_between : (floor : ℕ) (e : Installed) → IsPassed z t u floor e → IsPassed z s v floor e
  passed_between floor e (inl flushed) = inl flushed
  passed_between floor e (inr k) = inr (k.0, had_between z s t u v same past starts grown (store k.0) k.1, k.2)

  pub overtaken_between : (floor base : ℕ) (versions : List Version) (e : Installed) → IsOvertaken z t u floor base versions e → IsOvertaken z s v floor base versions e
  overtaken_between floor base versions e (inl passed) = inl (passed_between floor e passed)
  overtaken_between floor base versions e (inr others) = inr others

  pub bases_between : (floor : ℕ) (bases : Bases) → AreBases z t u floor bases → AreBases z s v floor bases
  bases_between floor bases k = record { opened = k.opened; state = k.state; held = had_between z s t u v same past starts grown (writes k.state) k.held; installed_is = k.installed_is }

  pub decision_between : (floor : ℕ) (bases : Bases) (versions : List Version) → HadDecision z t u floor bases versions → HadDecision z s v floor bases versions
  decision_between floor bases versions k = (versions_between versions k.0, bases_between floor bases k.1)

-- ---- what a compaction says, of a seat before and of one behind

module _ {D : Type 0} (First Last : Participant → Type 0) (z : SharedState D) (s t u v : SeatState) (e : Installed) (same : IsSeat s t) (same_past : t.knows.participant.past ≡ s.knows.participant.past) (starts : StartsWith t.knows.participant.seen s.knows.participant.seen) (past : u.knows.participant.past ≡ v.knows.participant.past) (grown : StartsWith v.knows.participant.seen u.knows.participant.seen)
    (more : (events : List Event) → First (with_events events t.knows.participant) → Last (with_events events s.knows.participant)) (still : First t.knows.participant → Last s.knows.participant) where
  holds_on : (left : Installed) → HeldTables z t u u.knows.participant.past left → HeldTables z s v v.knows.participant.past left
  holds_on left k = holds_so First Last z s t u v e same same_past starts past grown more still left k

  abbrev found_on : Finds z t u e → Finds z s v e
  found_on k = found_so First Last z s t u v e same same_past starts past grown more still k

  remembers_on : (k : Finds z t u e) (events : List Event) → First (with_events (found_by z t u e k ∷ events) t.knows.participant) → Last (with_events (found_by z s v e (found_on k) ∷ events) s.knows.participant)
  remembers_on k events first = remembers_so First Last z s t u v e same same_past starts past grown more still k events first

  throughout_on : (old new : VersionSetState) (next edit : InstalledEdit) → next ≡ edit → OpensThroughout t.knows.participant.seen u.knows.participant.seen old new next → OpensThroughout s.knows.participant.seen v.knows.participant.seen old new edit
  throughout_on old new next edit is k = throughout_so First Last z s t u v e same same_past starts past grown more still old new next edit is k

  -- what it pinned is pinned still, and begins what was seen
  module _ (First_pinned Last_pinned : ℕ → List ℕ → Type 0) (pins : (floor : ℕ) (live : List ℕ) → First_pinned floor live → Last_pinned floor live × (take floor u.knows.participant.seen ≡ take floor v.knows.participant.seen)) where
    edit_so : (edit : InstalledEdit) → IsCompactionOf First_pinned z u e.last edit → IsCompactionOf Last_pinned z v e.last edit
    edit_so edit k = let p = pins k.floor k.live k.pinned in
        record { floor = k.floor; live = k.live; pinned = p.0; first = k.first; is_first = k.is_first; from_base = k.from_base; edit_is = k.edit_is ∙ ap (λ (h : List Entry). after_compaction h (listed k.live k.first.segment.base e.last) e.last) p.1 }

    next_so : (asked : Option InstalledEdit) → IfSome asked (IsCompactionOf First_pinned z u e.last) → IfSome asked (IsCompactionOf Last_pinned z v e.last)
    next_so None k = tt
    next_so (Some edit) k = edit_so edit k

    pub compacts_so : (result : Result Done MaintError) → CompactsFrom First First_pinned z t e result u → CompactsFrom Last Last_pinned z s e result v
    compacts_so (Ok done) k = let p = pins done.at k.live k.pinned in record {
      found = found_on k.found;
      running = k.running;
      several = k.several;
      live = k.live;
      pinned = p.0;
      first = k.first;
      is_first = k.is_first;
      low = k.low;
      from_base = k.from_base;
      versions = k.versions ∙ ap (λ (h : List Entry). length (retained h (listed k.live k.first.segment.base e.last) e.last)) p.1;
      few = subst (λ (h : List Entry). IsCompactionCount h k.first.segment.base done.at done.versions) p.1 k.few;
      left = subst (λ (h : List Entry). HeldTables z s v v.knows.participant.past (record e { last = after_compaction h (listed k.live k.first.segment.base e.last) e.last })) p.1 (holds_on (record e { last = after_compaction (take done.at u.knows.participant.seen) (listed k.live k.first.segment.base e.last) e.last }) k.left);
      tables = tables_so k.tables (ap (λ (h : List Entry). record e { last = after_compaction h (listed k.live k.first.segment.base e.last) e.last }) p.1) (k.tables.so ∙ ap (λ (h : List Entry). new_parts (retained h (listed k.live k.first.segment.base e.last) e.last)) p.1);
      survives = subst (λ (h : List Entry). SurvivesInstall k.tables.before k.tables.after (after_compaction h (listed k.live k.first.segment.base e.last) e.last)) p.1 k.survives;
      throughout = throughout_on k.tables.before k.tables.after (after_compaction (take done.at u.knows.participant.seen) (listed k.live k.first.segment.base e.last) e.last) (after_compaction (take done.at v.knows.participant.seen) (listed k.live k.first.segment.base e.last) e.last) (ap (λ (h : List Entry). after_compaction h (listed k.live k.first.segment.base e.last) e.last) p.1) k.throughout;
      goes_on = remembers_on k.found (event.installed (after_compaction (take done.at v.knows.participant.seen) (listed k.live k.first.segment.base e.last) e.last) true ∷ [])
          (subst (λ (h : List Entry). First (with_events (found_by z t u e k.found ∷ event.installed (after_compaction h (listed k.live k.first.segment.base e.last) e.last) true ∷ []) t.knows.participant)) p.1 k.goes_on);
    }
    compacts_so (Err Memory) k = still k
    compacts_so (Err Nothing) k = nothing_so First Last z s t u v e same same_past starts past grown more still FewTables k
    compacts_so (Err TableFault) k = record {
      found = found_on k.found;
      running = k.running;
      busy = k.busy;
      asked = k.asked;
      next = next_so k.asked k.next;
      left = holds_on _ k.left;
      fault = k.fault;
      survives = (k.survives.0, edit_so k.survives.0 k.survives.1, k.survives.2, throughout_on k.fault.before k.fault.after k.survives.0 k.survives.0 refl k.survives.3);
      goes_on = remembers_on k.found (tables_failed e.last k.asked ∷ []) k.goes_on;
    }
    compacts_so (Err (TablesStopped flushed)) k = record { found = found_on k.found; halted = k.halted; flushed_is = k.flushed_is; goes_on = remembers_on k.found [] k.goes_on }

    module _ (First_decided Last_decided : ℕ → Bases → List Version → Type 0) (decides : (floor : ℕ) (bases : Bases) (versions : List Version) → First_decided floor bases versions → Last_decided floor bases versions) where
      again_so : BeginsAgain First First_pinned First_decided z t u e → BeginsAgain Last Last_pinned Last_decided z s v e
      again_so k = record {
        found = found_on k.found;
        running = k.running;
        several = k.several;
        floor = k.floor;
        live = k.live;
        pinned = (pins k.floor k.live k.pinned).0;
        versions = k.versions;
        bases = k.bases;
        decided = decides k.floor k.bases k.versions k.decided;
        overtaken = overtaken_between z s t u v same same_past starts grown k.floor k.bases.installed k.versions e k.overtaken;
        goes_on = still k.goes_on;
      }

      pub ends_so : (result : Option (Result Done MaintError)) → EndsRoundFrom First First_pinned First_decided z t e result u → EndsRoundFrom Last Last_pinned Last_decided z s e result v
      ends_so (Some result) k = compacts_so result k
      ends_so None k = again_so k
