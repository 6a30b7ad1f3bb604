-- A sound world: all parts together.
use Rattle.std.specs.Prelude.{map, List}
use Rattle.wp_core.specs.Lists.{EachAt}
use Rattle.wp_core.specs.World.{World, Participant, content_of}
use Rattle.wp_core.specs.World as world
use Rattle.wp_core.specs.Sound.Actors.{seen_of, own_of, AreSeen, AreLearned, AreOwned, AreHeld, HoldersHave, AreLed, AreIdle, EachParticipant, participants_of, learned_of, held_of, role_of}
use Rattle.wp_core.specs.Sound.History.{IsHistory, IsPendingHeld}
use Rattle.wp_core.specs.Sound.Prepared.{IsCache, AreDecided, AreUndecided, AreDelayed, AreFlags}
use Rattle.wp_core.specs.Sound.Snapshots.{registered_of, AreRegistered, AreFromBase, view_of, HasSeen}
use Rattle.wp_core.specs.Sound.Store.{IsStored, IsInStep}
use Rattle.wp_core.specs.Sound.Segments.{AreCoupled}
use Rattle.wp_core.specs.Sound.Locks.{owner_of, AreLocked}
use Rattle.wp_core.specs.Sound.Pasts.{past_of, AreHolders, IsBoard, AreFaults, AreEdits}
use Rattle.wp_core.specs.Sound.Reader.{AreReaders, AreJudged, reader_of}
use Rattle.wp_core.specs.Sound.Views.{AreNoted, IsSo, noter_of}

-- of all participants, by actor
abbrev pub participants : {X : Type 0} → (Participant → X) → World → List (List X)
participants f w = map (participants_of f) w.actors

pub record IsSound (w : World) : Type 0 where
  -- the history, its log, and who saw and published what
  pub history : IsHistory w.opened w.writes w.max_evicted
  pub seen : AreSeen w.writes.history (participants seen_of w)
  pub learned : AreLearned w.writes.history (map learned_of w.actors)
  pub owned : AreOwned w.opened w.writes.history (participants own_of w)
  -- what readers rest on
  pub cache : IsCache w.writes.history w.writes.pending w.cache
  pub decided : AreDecided w.writes.history w.cache w.prepared.delayed_commits w.max_evicted w.snapshots
  pub undecided : AreUndecided w.writes.history w.writes.pending w.prepared w.max_evicted
  pub delayed : AreDelayed w.writes.history w.writes.pending w.prepared w.cache
  pub registrations : AreRegistered w.writes.history w.snapshots (participants registered_of w)
  pub from_base : AreFromBase w.first_edit.segment.base w.snapshots
  pub viewed : EachParticipant HasSeen (participants view_of w)
  pub flags : AreFlags w.delayed_flag w.old_flag w.prepared w.snapshots w.holders.prepared w.holders.snapshots
  -- versions and edits
  pub versions : IsStored w.writes.history w.writes.pending w.first_edit.segment.base w.snapshots w.store w.installed
  pub in_step : IsInStep w.holders.tables w.store w.installed.last
  pub coupled : AreCoupled w.writes w.installed w.holders.write
  -- names and keys, and the pasts
  pub locks : AreLocked w.opened w.writes.history w.locks (participants owner_of w)
  pub holders : AreHolders w.opened w.writes.history w.locks (participants past_of w)
  pub board : IsBoard (world.published w) w.locks (participants past_of w)
  pub faults : AreFaults w.writes w.installed.halted (participants past_of w)
  pub edits : AreEdits w.first_edit w.installed (participants past_of w)
  -- turns, and what is held
  pub pending : IsPendingHeld w.holders.write w.writes.pending
  pub held : EachAt (AreHeld w.holders (content_of w)) (map held_of w.actors)
  pub have : HoldersHave w.holders (map held_of w.actors)
  -- readers and views
  pub readers : AreReaders w.writes.history w.max_evicted w.cache w.prepared.delayed_commits w.snapshots (map reader_of w.actors)
  pub judged : AreJudged w.writes.history (map reader_of w.actors)
  pub noted : AreNoted w.holders (IsSo w.delayed_flag w.old_flag w.max_evicted w.cache w.writes w.prepared w.snapshots w.store w.locks w.installed) (map noter_of w.actors)
  -- who the actors are
  pub led : AreLed (map role_of w.actors)
  pub idle : AreIdle w.actors
