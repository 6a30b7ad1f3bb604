-- All parts of a sound world, in groups: a step of one actor gives each group for the world after it, and most groups it
-- keeps. Each group names just what it speaks of, so that what a step leaves as it was has the same group before and after.
use Rattle.std.proofs.Common.{◌≡◌, ◌≢◌, ℕ, true, false, not, List, ◌∷◌, length, map, set, sym, subst}
use mathlib.Core.Option.{some}
use lib.ListN.{get_elem?}
use Rattle.std.specs.Ordering.{nat_cmp}
use Rattle.std.specs.FinMap as finite
use Rattle.wp_model.specs.declared.entry.Entry.{Entry}
use Rattle.wp_model.specs.LockState.{LockState}
use Rattle.wp_model.specs.PreparedSets.{PreparedSets}
use Rattle.wp_model.specs.Snapshots.{Snapshots}
use Rattle.wp_core.specs.Lists.{EachAt, IsIn}
use Rattle.wp_core.specs.Turns.{Turn, Holders, Holds}
use Rattle.wp_core.specs.States.{Content, WriteState, StoreState, Installed, turn_of}
use Rattle.wp_model.specs.Flushed.{InstalledEdit}
use Rattle.wp_core.specs.Reading.{Registration}
use Rattle.wp_core.specs.Views.{Fact}
use Rattle.wp_core.specs.World.{Participant, Actor, World, content_of, with_content}
use Rattle.wp_core.specs.Steps.{Step}
use Rattle.wp_core.specs.Changes.{held_with}
use Rattle.wp_core.specs.Notes.{forgets, ends}
use Rattle.wp_core.specs.Sound.Actors.{seen_of, own_of, AreSeen, AreLearned, AreOwned, AreHeld, HoldersHave, AreLed, IsIdle, AreIdle, participants_of, learned_of, held_of, role_of, Role, EachParticipant}
use Rattle.wp_core.specs.Sound.History.{IsHistory, IsPendingHeld}
use Rattle.wp_core.specs.Sound.Prepared.{IsCache, AreDecided, AreUndecided, AreDelayed, AreFlags}
use Rattle.wp_core.specs.Sound.Snapshots.{registered_of, AreRegistered, AreFromBase, view_of, HasSeen}
use Rattle.wp_core.specs.Sound.Store.{IsStored, IsInStep}
use Rattle.wp_core.specs.Sound.Segments.{AreCoupled}
use Rattle.wp_core.specs.Sound.Locks.{owner_of, AreLocked}
use Rattle.wp_core.specs.Sound.Pasts.{past_of, AreHolders, IsBoard, AreFaults, AreEdits}
use Rattle.wp_core.specs.Sound.Reader.{AreReaders, AreJudged, reader_of}
use Rattle.wp_core.specs.Sound.Views.{IsSo, AreNoted, IsNoted, noter_of}
use Rattle.wp_core.specs.IsSound.{IsSound}
use Rattle.wp_core.proofs.Frames.{kept_map, each_map_set, each_set, at_map, in_filter}
use Rattle.wp_core.proofs.Changed.{others_hold, holds_changed, have_changed}

-- ---- the groups

-- the parts that speak of no actor
pub record TableParts (opened : List Entry) (d : WriteState) (max delayed_flag old_flag : ℕ) (words : List ℕ) (t : PreparedSets) (base : ℕ) (m : Snapshots) (st : StoreState) (e : Installed) (h : Holders) : Type 0 where
  pub history : IsHistory opened d max
  pub cache : IsCache d.history d.pending words
  pub decided : AreDecided d.history words t.delayed_commits max m
  pub undecided : AreUndecided d.history d.pending t max
  pub delayed : AreDelayed d.history d.pending t words
  pub flags : AreFlags delayed_flag old_flag t m h.prepared h.snapshots
  pub versions : IsStored d.history d.pending base m st e
  pub in_step : IsInStep h.tables st e.last
  pub coupled : AreCoupled d e h.write
  pub pending : IsPendingHeld h.write d.pending

-- what the participants saw, published and registered
pub record ViewParts (opened history : List Entry) (base : ℕ) (m : Snapshots) (actors : List Actor) : Type 0 where
  pub seen : AreSeen history (map (participants_of seen_of) actors)
  pub learned : AreLearned history (map learned_of actors)
  pub owned : AreOwned opened history (map (participants_of own_of) actors)
  pub registrations : AreRegistered history m (map (participants_of registered_of) actors)
  pub from_base : AreFromBase base m
  pub viewed : EachParticipant HasSeen (map (participants_of view_of) actors)

-- the pasts
pub record PastParts (opened : List Entry) (d : WriteState) (l : LockState) (first : InstalledEdit) (e : Installed) (actors : List Actor) : Type 0 where
  pub holders : AreHolders opened d.history l (map (participants_of past_of) actors)
  pub board : IsBoard (length d.history) l (map (participants_of past_of) actors)
  pub faults : AreFaults d e.halted (map (participants_of past_of) actors)
  pub edits : AreEdits first e (map (participants_of past_of) actors)

-- what is held
pub record TurnParts (h : Holders) (contents : Turn → Content) (actors : List Actor) : Type 0 where
  pub held : EachAt (AreHeld h contents) (map held_of actors)
  pub have : HoldersHave h (map held_of actors)

pub record ReaderParts (history : List Entry) (max : ℕ) (words : List ℕ) (commits : finite.FinMap nat_cmp ℕ) (m : Snapshots) (actors : List Actor) : Type 0 where
  pub readers : AreReaders history max words commits m (map reader_of actors)
  pub judged : AreJudged history (map reader_of actors)

-- the groups of a world, whoever its actors are
abbrev pub TablesOf : World → Type 0
TablesOf w = TableParts w.opened w.writes w.max_evicted w.delayed_flag w.old_flag w.cache w.prepared w.first_edit.segment.base w.snapshots w.store w.installed w.holders

abbrev pub ViewsOf : World → List Actor → Type 0
ViewsOf w actors = ViewParts w.opened w.writes.history w.first_edit.segment.base w.snapshots actors

abbrev pub LocksOf : World → List Actor → Type 0
LocksOf w actors = AreLocked w.opened w.writes.history w.locks (map (participants_of owner_of) actors)

abbrev pub PastsOf : World → List Actor → Type 0
PastsOf w actors = PastParts w.opened w.writes w.locks w.first_edit w.installed actors

abbrev pub TurnsOf : World → List Actor → Type 0
TurnsOf w actors = TurnParts w.holders (content_of w) actors

abbrev pub ReadersOf : World → List Actor → Type 0
ReadersOf w actors = ReaderParts w.writes.history w.max_evicted w.cache w.prepared.delayed_commits w.snapshots actors

-- what is noted in a world
abbrev pub SoIn : World → Participant → Fact → Type 0
SoIn w = IsSo w.delayed_flag w.old_flag w.max_evicted w.cache w.writes w.prepared w.snapshots w.store w.locks w.installed

abbrev pub NotesOf : World → List Actor → Type 0
NotesOf w actors = AreNoted w.holders (SoIn w) (map noter_of actors)

-- the groups are all parts
pub all_parts : (w : World) (actors : List Actor) → TablesOf w → ViewsOf w actors → LocksOf w actors → PastsOf w actors → TurnsOf w actors → ReadersOf w actors → NotesOf w actors → AreLed (map role_of actors) → AreIdle actors
    → IsSound (record w { actors = actors })
all_parts w actors tables views locks pasts turns readers notes led idle = record {
  history = tables.history;
  seen = views.seen;
  learned = views.learned;
  owned = views.owned;
  cache = tables.cache;
  decided = tables.decided;
  undecided = tables.undecided;
  delayed = tables.delayed;
  registrations = views.registrations;
  from_base = views.from_base;
  viewed = views.viewed;
  flags = tables.flags;
  versions = tables.versions;
  in_step = tables.in_step;
  coupled = tables.coupled;
  locks = locks;
  holders = pasts.holders;
  board = pasts.board;
  faults = pasts.faults;
  edits = pasts.edits;
  pending = tables.pending;
  held = turns.held;
  have = turns.have;
  readers = readers.readers;
  judged = readers.judged;
  noted = notes;
  led = led;
  idle = idle;
}

module _ (w : World) (s : IsSound w) where
  pub tables_of : TablesOf w
  tables_of = record { history = s.history; cache = s.cache; decided = s.decided; undecided = s.undecided; delayed = s.delayed; flags = s.flags; versions = s.versions; in_step = s.in_step; coupled = s.coupled; pending = s.pending }

  pub views_of : ViewsOf w w.actors
  views_of = record { seen = s.seen; learned = s.learned; owned = s.owned; registrations = s.registrations; from_base = s.from_base; viewed = s.viewed }

  pub pasts_of : PastsOf w w.actors
  pasts_of = record { holders = s.holders; board = s.board; faults = s.faults; edits = s.edits }

  pub readers_of : ReadersOf w w.actors
  readers_of = record { readers = s.readers; judged = s.judged }

-- ---- one actor changes

-- what an actor saw, published, registered and learned, and what those saw, published and registered that it joined
abbrev pub viewer_of : Actor → List (List Entry) × List (List ℕ) × List (List Registration) × List (List Entry × List Registration) × List Entry
viewer_of a = (participants_of seen_of a, participants_of own_of a, participants_of registered_of a, participants_of view_of a, a.learned)

module _ (w : World) (by : ℕ) (a b : Actor) (at : get_elem? w.actors by ≡ some a) where
  -- a part that speaks of what the actor has as it was
  pub kept_part : {X : Type 0} (f : Actor → X) (P : List X → Type 0) → f b ≡ f a → P (map f w.actors) → P (map f (set w.actors by b))
  kept_part f P same k = subst P (sym (kept_map f w.actors by a b at same)) k

  pub views_kept : (opened history : List Entry) (base : ℕ) (m : Snapshots) → viewer_of b ≡ viewer_of a → ViewParts opened history base m w.actors → ViewParts opened history base m (set w.actors by b)
  views_kept opened history base m same k = record {
    seen = kept_part (participants_of seen_of) (AreSeen history) (λ i. (same i).0) k.seen;
    learned = kept_part learned_of (AreLearned history) (λ i. (same i).4) k.learned;
    owned = kept_part (participants_of own_of) (AreOwned opened history) (λ i. (same i).1) k.owned;
    registrations = kept_part (participants_of registered_of) (AreRegistered history m) (λ i. (same i).2) k.registrations;
    from_base = k.from_base;
    viewed = kept_part (participants_of view_of) (EachParticipant HasSeen) (λ i. (same i).3) k.viewed;
  }

  pub pasts_kept : (opened : List Entry) (d : WriteState) (l : LockState) (first : InstalledEdit) (e : Installed) → participants_of past_of b ≡ participants_of past_of a → PastParts opened d l first e w.actors → PastParts opened d l first e (set w.actors by b)
  pasts_kept opened d l first e same k = record {
    holders = kept_part (participants_of past_of) (AreHolders opened d.history l) same k.holders;
    board = kept_part (participants_of past_of) (IsBoard (length d.history) l) same k.board;
    faults = kept_part (participants_of past_of) (AreFaults d e.halted) same k.faults;
    edits = kept_part (participants_of past_of) (AreEdits first e) same k.edits;
  }

  pub readers_kept : (history : List Entry) (max : ℕ) (words : List ℕ) (commits : finite.FinMap nat_cmp ℕ) (m : Snapshots) → reader_of b ≡ reader_of a → ReaderParts history max words commits m w.actors → ReaderParts history max words commits m (set w.actors by b)
  readers_kept history max words commits m same k = record { readers = kept_part reader_of (AreReaders history max words commits m) same k.readers; judged = kept_part reader_of (AreJudged history) same k.judged }

  -- the same of the groups of this world
  pub views_still : viewer_of b ≡ viewer_of a → IsSound w → ViewsOf w (set w.actors by b)
  views_still same s = views_kept w.opened w.writes.history w.first_edit.segment.base w.snapshots same (views_of w s)

  pub locks_still : participants_of owner_of b ≡ participants_of owner_of a → IsSound w → LocksOf w (set w.actors by b)
  locks_still same s = kept_part (participants_of owner_of) (AreLocked w.opened w.writes.history w.locks) same s.locks

  pub pasts_still : participants_of past_of b ≡ participants_of past_of a → IsSound w → PastsOf w (set w.actors by b)
  pasts_still same s = pasts_kept w.opened w.writes w.locks w.first_edit w.installed same (pasts_of w s)

  pub readers_still : reader_of b ≡ reader_of a → IsSound w → ReadersOf w (set w.actors by b)
  readers_still same s = readers_kept w.writes.history w.max_evicted w.cache w.prepared.delayed_commits w.snapshots same (readers_of w s)

  pub turns_still : b.held ≡ a.held → IsSound w → TurnsOf w (set w.actors by b)
  turns_still same s = record { held = kept_part held_of (EachAt (AreHeld w.holders (content_of w))) same s.held; have = kept_part held_of (HoldersHave w.holders) same s.have }

  -- the actor changes a state that it holds
  pub turns_changed : (e : Content) → Holds w.holders (turn_of e) by → b.held ≡ held_with a.held e → IsSound w → TurnParts w.holders (content_of (with_content w e)) (set w.actors by b)
  turns_changed e holds is s = record {
    held = each_map_set held_of (AreHeld w.holders (content_of (with_content w e))) w.actors by b
        (subst (AreHeld w.holders (content_of (with_content w e)) by) (sym is) (holds_changed w e by a.held (s.held by a.held (at_map held_of w.actors by a at))))
        (λ j x ne there. others_hold w e by j x holds ne (s.held j x there));
    have = have_changed w.holders e by w.actors a b at is s.have;
  }

  -- what the step does not end of what its actor noted, and what others noted
  pub notes_stay : (step : Step) (h : Holders) (so : Participant → Fact → Type 0) → b.notes ≡ (forgets w.writes.history (length w.cache) step a).notes
      → ((fact : Fact) → not (ends w.writes.history (length w.cache) step fact) ≡ true → IsNoted w.holders (SoIn w) by (noter_of a) fact → IsNoted h so by (noter_of b) fact)
      → ((j : ℕ) (x : Participant × List Fact) (fact : Fact) → j ≢ by → get_elem? (map noter_of w.actors) j ≡ some x → IsNoted w.holders (SoIn w) j x fact → IsNoted h so j x fact)
      → IsSound w → AreNoted h so (map noter_of (set w.actors by b))
  notes_stay step h so notes mine others s =
      each_map_set noter_of (λ j x. (fact : Fact) → IsIn fact x.1 → IsNoted h so j x fact) w.actors by b
      (λ fact there.
      let left = in_filter (λ (f : Fact). not (ends w.writes.history (length w.cache) step f)) fact a.notes (subst (IsIn fact) notes there) in
      mine fact left.1 (s.noted by (noter_of a) (at_map noter_of w.actors by a at) fact left.0))
      (λ j x ne there fact h. others j x fact ne there (s.noted j x there fact h))

  pub idle_set : (b.live ≡ false → IsIdle b) → IsSound w → AreIdle (set w.actors by b)
  idle_set is s = each_set (λ j x. x.live ≡ false → IsIdle x) w.actors by b is (λ j x ne there. s.idle j x there)

  pub led_still : role_of b ≡ role_of a → IsSound w → AreLed (map role_of (set w.actors by b))
  led_still same s = kept_part role_of AreLed same s.led

-- what stays of an actor that only holds, reads or notes something else
abbrev pub fixed_of : Actor → Participant × List Entry × Role
fixed_of a = (a.participant, a.learned, role_of a)

people_same : {X : Type 0} (f : Participant → X) (a b : Actor) → fixed_of b ≡ fixed_of a → participants_of f b ≡ participants_of f a
people_same f a b same i = f (same i).0 ∷ map f (same i).2.joined

-- the actor is the same but for what it holds, reads and noted, in a world that differs in its states and words
pub quiet_step : (w v : World) (by : ℕ) (a b : Actor) → get_elem? w.actors by ≡ some a → fixed_of b ≡ fixed_of a → TablesOf v → ViewsOf v w.actors → LocksOf v w.actors → PastsOf v w.actors → TurnsOf v (set w.actors by b)
    → ReadersOf v (set w.actors by b) → NotesOf v (set w.actors by b) → AreIdle (set w.actors by b) → IsSound w → IsSound (record v { actors = set w.actors by b })
quiet_step w v by a b at same tables views locks pasts turns readers notes idle s =
    all_parts v (set w.actors by b) tables
    (views_kept w by a b at v.opened v.writes.history v.first_edit.segment.base v.snapshots (λ i. (people_same seen_of a b same i, people_same own_of a b same i, people_same registered_of a b same i, people_same view_of a b same i, (same i).1)) views)
    (kept_part w by a b at (participants_of owner_of) (AreLocked v.opened v.writes.history v.locks) (people_same owner_of a b same) locks)
    (pasts_kept w by a b at v.opened v.writes v.locks v.first_edit v.installed (people_same past_of a b same) pasts) turns readers notes (led_still w by a b at (λ i. (same i).2) s) idle
