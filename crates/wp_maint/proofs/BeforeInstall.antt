-- A refused flush or renewal called no device, or one failed it; and what that says of any call.
use Rattle.std.proofs.Common.{◌≡◌, inl, inr, ℕ, List, [], ◌∷◌, ◌++◌, filter, Some, refl, sym, subst, ap, ◌∙◌, append-nil}
use Rattle.std.proofs.lemmas.List.Elements.{filter-append}
use Rattle.std.specs.Prelude.{Result, Ok, Err, IfErr}
use Rattle.wp_core.specs.Lists.{IsIn}
use Rattle.wp_core.specs.Sound.Actors.{StartsWith}
use Rattle.wp_core.specs.Sound.Pasts.{is_install}
use Rattle.wp_core.specs.States.{installed}
use Rattle.wp_core.specs.Views.{Event, log_failed, log_stopped, stopped, tables_failed}
use Rattle.wp_core.specs.Views as event
use Rattle.wp_core.specs.World.{Participant, World}
use Rattle.wp_rule.specs.Words.{IsAt}
use Rattle.wp_parts.specs.VersionSet.{VersionSetState, IsEdits}
use Rattle.wp_parts.specs.Parts.{EditsStand, set_first}
use Rattle.wp_shared.specs.Calls.{Continues, with_events}
use Rattle.wp_shared.specs.Devices.{CalledNoDevice, LeftMarks, device_marks, is_device_mark}
use Rattle.wp_shared.specs.Seats.{SharedState, SeatState, Stands, place_at}
use Rattle.wp_shared.proofs.Onward.{starts_equal}
use Rattle.wp_maint.specs.declared.done.Done.{Done}
use Rattle.wp_maint.specs.declared.error.MaintError.{MaintError}
use Rattle.wp_maint.specs.declared.error.MaintError.TheVariants.{Memory, Nothing, TableFault, TablesStopped}
use Rattle.wp_maint.specs.declared.renewed.Renewed.{Renewed}
use Rattle.wp_maint.specs.declared.renewed.RenewError.{RenewError}
use Rattle.wp_maint.specs.declared.renewed.RenewError.TheVariants as renewal
use Rattle.wp_maint.specs.Calls.{AreSameTables, Finds, Flushes, GivesBack, InstalledNone, IsUncalled, LeavesOnce, KeepsOnce, KeepsEach, FailedOnce, UnlessFault, RefusesBeforeDevices, found_by}
use Rattle.wp_maint.specs.Installs.{AreLeft}
use Rattle.wp_maint.specs.Renewal.{BeforeDevices, IsRefusedBefore, Renews, UnlessDeviceFault}
use Rattle.wp_maint.proofs.Became.{tables_became}
use Rattle.wp_maint.proofs.Onward.{IsSeat}

-- ---- unless a device failed

pub unless_more : {A B : Type 0} → (A → B) → (why : MaintError) → UnlessFault A why → UnlessFault B why
unless_more f TableFault k = tt
unless_more f Memory k = f k
unless_more f Nothing k = f k
unless_more f (TablesStopped flushed) k = f k

pub err_more : {A B : Type 0} → (A → B) → (result : Result Done MaintError) → IfErr result (UnlessFault A) → IfErr result (UnlessFault B)
err_more f (Ok done) k = tt
err_more f (Err why) k = unless_more f why k

-- ... of a renewal
pub renewal_more : {A B : Type 0} → (A → B) → (result : Result Renewed RenewError) → IfErr result (UnlessDeviceFault A) → IfErr result (UnlessDeviceFault B)
renewal_more f (Ok done) k = tt
renewal_more f (Err renewal.TableFault) k = tt
renewal_more f (Err renewal.Memory) k = f k
renewal_more f (Err (renewal.TablesStopped flushed)) k = f k
renewal_more f (Err (renewal.Stopped n)) k = f k
renewal_more f (Err renewal.Nothing) k = f k
renewal_more f (Err renewal.LogFault) k = f k

-- ... of what a renewal refuses before the first call of a device
pub devices_more : {A B : Type 0} → (A → B) → (result : Result Renewed RenewError) → IfErr result (BeforeDevices A) → IfErr result (BeforeDevices B)
devices_more f (Ok done) k = tt
devices_more f (Err renewal.TableFault) k = tt
devices_more f (Err renewal.LogFault) k = tt
devices_more f (Err renewal.Memory) k = f k
devices_more f (Err (renewal.TablesStopped flushed)) k = f k
devices_more f (Err (renewal.Stopped n)) k = f k
devices_more f (Err renewal.Nothing) k = f k

-- ---- the tables were given back with the manifest's device uncalled

-- a seat took them, which had seen no more than the one before, and gave them back
module _ {D : Type 0} (z : SharedState D) (s t v : SeatState) (before after : VersionSetState) (stands : (w : World) × Stands z t w) (seat : IsSeat s t) (same : t.knows.participant ≡ s.knows.participant) (held : IsIn (installed before.state) t.knows.held)
    (of_store : set_first z.first ≡ Some before.first) (still_of_store : set_first z.first ≡ Some after.first) (edits : IsEdits before) (still_edits : IsEdits after) (grown : StartsWith v.knows.participant.seen s.knows.participant.seen) where
  found : Finds z s v before.state
  found = record {
    world = stands.0;
    actor = t.knows;
    there = subst (λ (b : ℕ). IsAt (place_at z b) t.knows stands.0) seat.0 stands.1;
    held = held;
    past_is = ap (λ (p : Participant). p.past) same;
    seen_is = starts_equal s.knows.participant.seen t.knows.participant.seen (ap (λ (p : Participant). p.seen) same);
    within = subst (λ (p : Participant). StartsWith v.knows.participant.seen p.seen) (sym same) grown;
    made = seat.1;
    joined = seat.2;
  }

  gives : (So : VersionSetState → VersionSetState → Type 0) → after.state ≡ before.state → So before after → GivesBack So z s v before.state
  gives So same_state so = (found, tables_became before after of_store still_of_store edits still_edits same_state so)

  pub left_once : AreLeft before after → LeavesOnce z s v
  left_once k = (before.state, gives IsUncalled k.0 k.1)

  -- ... as they were
  kept : EditsStand before → after ≡ before → GivesBack AreSameTables z s v before.state
  kept stand same = gives AreSameTables (ap (λ (e : VersionSetState). e.state) same) (same, stand)

  pub kept_once : EditsStand before → after ≡ before → KeepsOnce z s v
  kept_once stand same = let k = kept stand same in (before.state, k.0, k.1)

  pub kept_each : EditsStand before → after ≡ before → KeepsEach z s v
  kept_each stand same = (
    before.state ∷ [],
    λ e there. elim there [
      | inl is ↦ subst (GivesBack AreSameTables z s v) is (kept stand same)
      | inr none ↦ absurd none
    ],
  )

-- ---- what it remembers

module _ {D : Type 0} (z : SharedState D) (old new : SeatState) where
  abbrev p : Participant
  p = old.knows.participant

  -- it remembers these events too, of which some are marks
  pub marked : (events : List Event) → Continues z old new (with_events events p) → LeftMarks (filter is_device_mark events) p new.knows.participant
  marked events goes = record { own = ap (λ (x : Participant). x.own) goes.participant; marks = ap device_marks goes.participant ∙ filter-append is_device_mark p.past events }

  pub none_marked : (events : List Event) → filter is_device_mark events ≡ [] → Continues z old new (with_events events p) → CalledNoDevice p new.knows.participant
  none_marked events none goes = let k = marked events goes in record { own = k.own; marks = k.marks ∙ ap (λ (es : List Event). device_marks p ++ es) none ∙ append-nil (device_marks p) }

  pub as_it_was : Continues z old new p → CalledNoDevice p new.knows.participant
  as_it_was goes = record { own = ap (λ (x : Participant). x.own) goes.participant; marks = ap device_marks goes.participant }

  -- what it has seen since
  pub flushed_grown : (result : Result Done MaintError) → Flushes z old result new → StartsWith new.knows.participant.seen p.seen
  flushed_grown (Ok done) k = k.1.goes_on.seen
  flushed_grown (Err Memory) k = k.1.seen
  flushed_grown (Err Nothing) k = k.1.1.goes_on.seen
  flushed_grown (Err TableFault) k = k.1.1.goes_on.seen
  flushed_grown (Err (TablesStopped flushed)) k = k.1.goes_on.seen

  pub renewed_grown : (result : Result Renewed RenewError) → Renews z old result new → StartsWith new.knows.participant.seen p.seen
  renewed_grown (Ok done) k = k.1.goes_on.seen
  renewed_grown (Err renewal.Memory) k = k.1.goes_on.seen
  renewed_grown (Err (renewal.TablesStopped flushed)) k = k.1.goes_on.seen
  renewed_grown (Err (renewal.Stopped n)) k = k.1.goes_on.seen
  renewed_grown (Err renewal.Nothing) k = k.1.goes_on.seen
  renewed_grown (Err renewal.TableFault) k = k.1.goes_on.seen
  renewed_grown (Err renewal.LogFault) k = k.1.goes_on.seen

  module _ (Leaves : Type 0) where
    pub renewed_before : (result : Result Renewed RenewError) → Renews z old result new → IfErr result (UnlessDeviceFault Leaves) → IfErr result (λ why. IsRefusedBefore Leaves old why new)
    renewed_before (Ok done) k left = tt
    renewed_before (Err renewal.Memory) k left = (as_it_was k.1.goes_on, left)
    renewed_before (Err (renewal.TablesStopped flushed)) k left = (none_marked (found_by z old new k.0 k.1.found ∷ []) refl k.1.goes_on, left)
    renewed_before (Err (renewal.Stopped n)) k left = (none_marked (found_by z old new k.0 k.1.found ∷ stopped n ∷ []) refl k.1.goes_on, left)
    renewed_before (Err renewal.Nothing) k left = (none_marked (found_by z old new k.0 k.1.found ∷ []) refl k.1.goes_on, left)
    renewed_before (Err renewal.TableFault) k left = (k.0.last, k.1.asked, marked (found_by z old new k.0 k.1.found ∷ tables_failed k.0.last k.1.asked ∷ log_stopped ∷ []) k.1.goes_on)
    renewed_before (Err renewal.LogFault) k left = (marked (found_by z old new k.0 k.1.found ∷ log_failed [] ∷ []) k.1.goes_on, left)

    pub flushed_before : (result : Result Done MaintError) → Flushes z old result new → IfErr result (UnlessFault Leaves) → IfErr result (λ why. RefusesBeforeDevices Leaves old why new)
    flushed_before (Ok done) k left = tt
    flushed_before (Err Memory) k left = (as_it_was k.1, left)
    flushed_before (Err Nothing) k left = (none_marked (found_by z old new k.0 k.1.1.found ∷ []) refl k.1.1.goes_on, left)
    flushed_before (Err TableFault) k left = (k.0.last, k.1.1.asked, marked (found_by z old new k.0 k.1.1.found ∷ tables_failed k.0.last k.1.1.asked ∷ []) k.1.1.goes_on)
    flushed_before (Err (TablesStopped flushed)) k left = (none_marked (found_by z old new k.0 k.1.found ∷ []) refl k.1.goes_on, left)

-- ---- no edit was installed

-- an installed edit is a mark
edits_marked : (events : List Event) → filter is_install (filter is_device_mark events) ≡ filter is_install events
edits_marked [] = refl
edits_marked (event.installed edit compacts ∷ events) = ap (λ (es : List Event). event.installed edit compacts ∷ es) (edits_marked events)
edits_marked (event.renewed edit ∷ events) = ap (λ (es : List Event). event.renewed edit ∷ es) (edits_marked events)
edits_marked (other ∷ events) = edits_marked events

marked_none : (p q : Participant) (events : List Event) → filter is_install events ≡ [] → device_marks q ≡ device_marks p ++ events → InstalledNone p q
marked_none p q events none more =
    sym (edits_marked q.past)
    ∙ ap (filter is_install) more
    ∙ filter-append is_install (device_marks p) events
    ∙ ap (λ (es : List Event). filter is_install (device_marks p) ++ es) none
    ∙ append-nil (filter is_install (device_marks p))
    ∙ edits_marked p.past

pub called_none : (p q : Participant) → CalledNoDevice p q → InstalledNone p q
called_none p q k = sym (edits_marked q.past) ∙ ap (filter is_install) k.marks ∙ edits_marked p.past

pub failed_none : (p q : Participant) (others : List Event) → filter is_install others ≡ [] → FailedOnce others p q → InstalledNone p q
failed_none p q others none k = marked_none p q (tables_failed k.0 k.1 ∷ others) none k.2.marks

pub none_installed : (Keeps : Type 0) (old new : SeatState) (result : Result Done MaintError) → IfErr result (λ why. RefusesBeforeDevices Keeps old why new) → IfErr result (λ _. InstalledNone old.knows.participant new.knows.participant)
none_installed Keeps old new (Ok done) k = tt
none_installed Keeps old new (Err TableFault) k = failed_none old.knows.participant new.knows.participant [] refl k
none_installed Keeps old new (Err Memory) k = called_none old.knows.participant new.knows.participant k.0
none_installed Keeps old new (Err Nothing) k = called_none old.knows.participant new.knows.participant k.0
none_installed Keeps old new (Err (TablesStopped flushed)) k = called_none old.knows.participant new.knows.participant k.0

pub none_renewed : (Leaves : Type 0) (old new : SeatState) (result : Result Renewed RenewError) → IfErr result (λ why. IsRefusedBefore Leaves old why new) → IfErr result (λ _. InstalledNone old.knows.participant new.knows.participant)
none_renewed Leaves old new (Ok done) k = tt
none_renewed Leaves old new (Err renewal.TableFault) k = failed_none old.knows.participant new.knows.participant (log_stopped ∷ []) refl k
none_renewed Leaves old new (Err renewal.Memory) k = called_none old.knows.participant new.knows.participant k.0
none_renewed Leaves old new (Err (renewal.TablesStopped flushed)) k = called_none old.knows.participant new.knows.participant k.0
none_renewed Leaves old new (Err (renewal.Stopped n)) k = called_none old.knows.participant new.knows.participant k.0
none_renewed Leaves old new (Err renewal.Nothing) k = called_none old.knows.participant new.knows.participant k.0
none_renewed Leaves old new (Err renewal.LogFault) k = marked_none old.knows.participant new.knows.participant (log_failed [] ∷ []) refl k.0.marks
