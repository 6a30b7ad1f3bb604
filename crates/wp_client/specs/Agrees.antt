-- What a client is judged by agrees with what its seat saw, did and found.
use Rattle.std.specs.Prelude.{◌≡◌, ◌⊎◌, ℕ, ◌≤◌, ◌<◌, true, List, [], length, take, Option, Some, None}
use Rattle.wp_model.specs.declared.holder.Holder.{Holder}
use Rattle.wp_model.specs.declared.holder.Holder.TheVariants as holder
use Rattle.wp_core.specs.Lists.{IsIn}
use Rattle.wp_core.specs.Sound.Actors.{StartsWith}
use Rattle.wp_core.specs.Sound.Locks.{HasKeyAt}
use Rattle.wp_core.specs.Views.{Account, own, another, prepare_at, Event, heard, log_failed, tables_failed, stopped, based_at, found_edit, found}
use Rattle.wp_core.specs.World.{Participant}
use Rattle.wp_model.specs.Flushed.{InstalledEdit}
use Rattle.wp_rule.specs.Shows.{WasLast}
use Rattle.wp_shared.specs.Limits.{WasOpenedAt}
use Rattle.wp_parts.specs.Parts.{content}
use Rattle.wp_shared.specs.Seats.{SharedState}
use Rattle.wp_client.specs.Alone.{limits_of}
use Rattle.wp_replies.specs.Replies.{HasName, HasTaken, HasKey, WasLocked, WritesKey, WasTold, LogStopped, WasFlushed, WasBase, NoneRenewed, OtherCompacted, Evidence, IsKnown, WasUndecided, HadKey, IsHaltedAt}

-- another client has the transaction of this name, and the key in it, where one is given, or took the transaction, for which the key was
-- held; or it writes the key at once
abbrev pub IsAnother : Evidence → Option (List ℕ) → Holder → Type 0
IsAnother e None (holder.Txn name) = IsKnown e (HasName name)
IsAnother e (Some key) (holder.Txn name) = IsKnown e (HasKey name key) ⊎ (IsKnown e (HasTaken name) × (HadKey e.history e.opened name key ⊎ IsKnown e (WasLocked name key)))
IsAnother e (Some key) (holder.Client name) = IsKnown e (WritesKey name key)
IsAnother e None (holder.Client name) = Unit {0}

-- the prepare was made since the opening, and somebody locked the key, where one is given, for the transaction of this name
abbrev pub IsBeyond : Evidence → ℕ → List ℕ → Option (List ℕ) → Type 0
IsBeyond e p name None = ⊥
IsBeyond e p name (Some key) = (e.opened < p) × IsKnown e (WasLocked name key)

-- A prepare of this name was undecided once so many entries were seen, or later, and had the key, where one is given, or somebody locked
-- it.
abbrev pub IsPrepares : Evidence → Option (List ℕ) → Holder → ℕ → Type 0
IsPrepares e key (holder.Txn name) seen = (p : ℕ) × (was : WasUndecided e.history seen name p) × (HasKeyAt (take was.at e.history) p key ⊎ IsBeyond e p name key)
IsPrepares e key (holder.Client name) seen = Unit {0}

-- what is known of a holder that was found, of a key or else of a live name, once so many entries were seen
abbrev pub KnowsHolder : Evidence → Option (List ℕ) → Holder → ℕ → Account → Type 0
KnowsHolder e key holder seen own = Unit {0}
KnowsHolder e key holder seen another = IsAnother e key holder
KnowsHolder e key holder seen (prepare_at n) = IsPrepares e key holder seen

-- What is known for an event of the seat's past. What the seat did itself says nothing of others.
abbrev pub Knows : Evidence → Event → Type 0
Knows e (found key holder seen account) = KnowsHolder e key holder seen account
Knows e (heard label n) = (m : ℕ) → n ≤ m → IsKnown e (WasTold label m)
Knows e (stopped n) = IsKnown e (LogStopped n)
Knows e (based_at n base) = IsKnown e (WasBase base) × IsKnown e (NoneRenewed base n)
Knows e (log_failed entries) = (e.failed.entries ≡ entries) × (entries ≡ [] → e.installed.segment.base < length e.history)
Knows e (tables_failed last edit) = (e.installed ≡ last) × (e.failed.edit ≡ edit)
Knows e (found_edit flushed base tables due halted) = IsKnown e (WasFlushed flushed) × IsKnown e (WasBase base) × (halted ≡ true → IsHaltedAt e flushed) × (tables < due → IsKnown e OtherCompacted)
Knows e other = Unit {0}

-- The history begins with what the seat has seen, the limits and the base at opening are the store's, and what the seat's past tells is
-- known. Less of it is told by an earlier seat, so what agrees with a seat agrees with the same seat earlier.
pub record Agrees {D : Type 0} (e : Evidence) (z : SharedState D) (p : Participant) : Type 0 where
  pub seen : StartsWith e.history p.seen
  pub limits : e.limits ≡ limits_of z
  pub base : (first : InstalledEdit) → WasLast content z.first first → e.base ≡ first.segment.base
  pub opened : (first : InstalledEdit) → WasLast content z.first first → WasOpenedAt z first.segment.base
  pub past : (event : Event) → IsIn event p.past → Knows e event
