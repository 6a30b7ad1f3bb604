-- What a compaction knows before it installs its edit, and what one round of it answers.
use Rattle.std.specs.Prelude.{◌≡◌, ◌≢◌, ◌⊎◌, ℕ, ◌≤◌, ◌<◌, true, false, List, [], ◌∷◌, ◌++◌, length, min, take, Option, Some, None, Result, IfErr}
use Rattle.std.specs.List.{list_all}
use Rattle.std.specs.Vec.{vec_capacity}
use Rattle.wp_model.specs.declared.entry.Entry.{Entry}
use Rattle.wp_model.specs.declared.version.Version.{Version}
use Rattle.wp_model.specs.Flushed.{InstalledEdit, IsEditCovered}
use Rattle.wp_model.specs.Legal.{IsLegal, undone_last}
use Rattle.wp_model.specs.Versions.{AreInOrder}
use Rattle.wp_keep.specs.declared.pair.Pair.{Pair}
use Rattle.wp_replies.specs.Replies.{IsCompactionCount}
use Rattle.wp_replies.specs.Tables.{listed, retained, after_compaction}
use Rattle.wp_table.specs.Table.{is_numbered, is_flushed}
use Rattle.wp_core.specs.Lists.{IsIn}
use Rattle.wp_core.specs.Reading.{Registration}
use Rattle.wp_core.specs.Sound.Actors.{StartsWith}
use Rattle.wp_core.specs.States.{StoreState, WriteState, Installed, store, writes}
use Rattle.wp_core.specs.Views.{tables_stay, live_listed, nothing_flushed}
use Rattle.wp_core.specs.World.{Participant, Actor}
use Rattle.wp_rule.specs.Knows.{Noted}
use Rattle.wp_rule.specs.Shows.{WasLast}
use Rattle.wp_tableset.specs.declared.gone.Gone.TheVariants as gone
use Rattle.wp_parts.specs.VersionSet.{VersionSetState}
use Rattle.wp_parts.specs.Installs.{IsReadyFor}
use Rattle.wp_parts.specs.Parts.{content}
use Rattle.wp_shared.specs.Seats.{SharedState, SeatState}
use Rattle.wp_read.specs.Registers.{numbers_of}
use Rattle.wp_maint.specs.declared.done.Done.{Done}
use Rattle.wp_maint.specs.declared.error.MaintError.{MaintError}
use Rattle.wp_maint.specs.Calls.{HeldContent, Finds, UnlessFault}
use Rattle.wp_compact.specs.Calls.{SeveralTables, CompactsFrom}
use Rattle.wp_compact.specs.declared.decided.Bases.{Bases}
use Rattle.wp_compact.specs.declared.merging.ReadyMerge.{ReadyMerge}
use Rattle.wp_compact.specs.Decided.{Decides, both_bases, version_numbers}

-- ---- what is pinned

-- these are the floor and the live numbers
abbrev pub IsPin : ℕ → List ℕ → ℕ → List ℕ → Type 0
IsPin floor live f l = (f ≡ floor) × (l ≡ live)

-- The seat registered the live snapshots, and each live number is one of theirs or from the floor on. It has seen the floor, and no
-- live number is above it.
pub record KnowsLive (a : Actor) (floor : ℕ) (live : List Registration) : Type 0 where
  pub within : floor ≤ length a.participant.seen
  pub registered : (r : Registration) → IsIn r live → IsIn r a.participant.registered × (r.number ≤ floor)
  pub listed : Noted a (live_listed floor (numbers_of live))

-- The first base is no greater than the second one and than each live number, and the second is no greater than the floor. Where the
-- entries that were seen have the first, no undo ends.
pub record AreLow (seen : List Entry) (floor : ℕ) (live : List Registration) (bases : Bases) : Type 0 where
  pub opened : bases.opened ≤ bases.installed
  pub installed : bases.installed ≤ floor
  pub live_from : (r : Registration) → IsIn r live → bases.opened ≤ r.number
  pub whole : undone_last (take bases.opened seen) ≡ None

-- The pairs tell where these versions are committed in a history that the seat has seen, which has the floor: there, at the live numbers, and
-- at the two bases.
pub record HasDecided (a : Actor) (floor : Registration) (live : List Registration) (bases : Bases) (versions : List Version) (pairs : List Pair) : Type 0 where
  pub live_is : KnowsLive a floor.number live
  pub low : AreLow a.participant.seen floor.number live bases
  pub history : List Entry
  pub grown : StartsWith a.participant.seen history
  pub within : floor.number ≤ length history
  pub decided : Decides history (version_numbers versions) (numbers_of (floor ∷ live) ++ both_bases bases) [] pairs

-- the store's log was opened at this base
abbrev pub IsOpenedBase : {D : Type 0} → SharedState D → ℕ → Type 0
IsOpenedBase z base = (first : InstalledEdit) × WasLast content z.first first × (base ≡ first.segment.base)

-- The store's log was opened at the first base, and had the second one in a world in which the seat held the write turn; or, where it had
-- one above the floor, the second is the floor.
pub record AreBases {D : Type 0} (z : SharedState D) (old new : SeatState) (floor : ℕ) (bases : Bases) : Type 0 where
  pub opened : IsOpenedBase z bases.opened
  pub state : WriteState
  pub held : HeldContent z old new old.knows.participant.past (writes state)
  pub installed_is : bases.installed ≡ min state.segment.base floor

-- ---- what may be done

-- These versions are in tables, and what a compaction keeps of them may take their place: the store gave up nothing above the
-- floor yet, and no flushed version is in memory.
pub record MayReplace (a : Actor) (e : Installed) (floor : ℕ) (live : List Registration) (versions : List Version) : Type 0 where
  pub live_is : KnowsLive a floor live
  pub gone : Noted a nothing_flushed
  pub store_floor : ℕ
  pub named : Noted a (tables_stay versions store_floor)
  pub given_up : store_floor ≤ floor
  pub in_order : AreInOrder versions
  pub low : list_all (is_flushed e.last.flushed) versions ≡ true

-- The last edit's versions are what a compaction keeps of these, and may take their place: for readers at the floor, at what is live, at the
-- base at which the store's log was opened, and at the one that it has.
pub record MayPutKept {D : Type 0} (z : SharedState D) (a : Actor) (e : Installed) (floor : ℕ) : Type 0 where
  pub live : List Registration
  pub opened : ℕ
  pub is_opened : IsOpenedBase z opened
  pub low : (opened ≤ floor) × (e.last.segment.base ≤ floor)
  pub versions : List Version
  pub replace : MayReplace a e floor live versions
  pub kept : e.last.versions ≡ retained (take floor a.participant.seen) (listed (numbers_of live) opened e.last) (record e.last { versions = versions })

-- The edit with what is kept of the last edit's versions may be installed too, where the log's base is the one that was decided at, or the
-- floor. These are no more than the keys that the store had at the first base, the changes that were carried there, and what the history
-- has up to the floor.
pub record MayMerge (a : Actor) (e : Installed) (floor : ℕ) (live : List Registration) (bases : Bases) : Type 0 where
  pub replace : MayReplace a e floor live e.last.versions
  pub numbered : list_all is_numbered e.last.versions ≡ true
  pub based : (e.last.segment.base ≡ bases.installed) ⊎ (e.last.segment.base ≡ floor)
  pub low : (bases.opened ≤ floor) × (e.last.segment.base ≤ floor)
  pub live_from : (r : Registration) → IsIn r live → bases.opened ≤ r.number
  pub legal : IsLegal a.participant.seen
  pub covered : IsEditCovered a.participant.seen (after_compaction (take floor a.participant.seen) (listed (numbers_of live) bases.opened e.last) e.last)
  pub few : IsCompactionCount (take floor a.participant.seen) bases.opened floor (length (retained (take floor a.participant.seen) (listed (numbers_of live) bases.opened e.last) e.last))

-- all the memory is there for an edit with what is kept in place of all tables, and for its table
pub record HasReadyMerge (e : VersionSetState) (r : ReadyMerge) : Type 0 where
  pub asked : r.edit.edit.asked ≡ record { gone = gone.Tables; versions = r.kept; flushed = e.state.last.flushed }
  pub ready : IsReadyFor e r.edit
  pub none : r.tables.items ≡ []
  pub room : 1 ≤ vec_capacity r.tables

-- ---- one round

-- the store's tables had these versions, in a world in which the seat held the store turn
abbrev pub HadVersions : {D : Type 0} → SharedState D → SeatState → SeatState → List Version → Type 0
HadVersions z old new versions = (t : StoreState) × HeldContent z old new old.knows.participant.past (store t) × (t.tables ≡ versions)

-- A flush put versions above the floor into these tables; or a compaction from a later floor replaced others by them, as a world says
-- in which the seat held the store turn.
abbrev pub IsPassed : {D : Type 0} → SharedState D → SeatState → SeatState → ℕ → Installed → Type 0
IsPassed z old new floor e = (floor < e.last.flushed) ⊎ ((t : StoreState) × HeldContent z old new old.knows.participant.past (store t) × (floor < t.floor))

-- ... or the log's base is another than this one, and not the floor
abbrev pub IsPassedOr : {D : Type 0} → SharedState D → SeatState → SeatState → ℕ → ℕ → Installed → Type 0
IsPassedOr z old new floor base e = IsPassed z old new floor e ⊎ ((e.last.segment.base ≢ base) × (e.last.segment.base ≢ floor))

-- what was decided of these versions at the floor and at this base is overtaken: that was so, or the tables have other versions, or the
-- log's base is another one and not the floor
abbrev pub IsOvertaken : {D : Type 0} → SharedState D → SeatState → SeatState → ℕ → ℕ → List Version → Installed → Type 0
IsOvertaken z old new floor base versions e = IsPassed z old new floor e ⊎ (versions ≡ e.last.versions → ⊥) ⊎ ((e.last.segment.base ≢ base) × (e.last.segment.base ≢ floor))

-- these are the floor, the bases and the versions
abbrev pub IsDecision : ℕ → Bases → List Version → ℕ → Bases → List Version → Type 0
IsDecision floor bases versions f b v = (f ≡ floor) × (b ≡ bases) × (v ≡ versions)

-- the store's tables had the versions, and its log the bases, as the seat held their turns
abbrev pub HadDecision : {D : Type 0} → SharedState D → SeatState → SeatState → ℕ → Bases → List Version → Type 0
HadDecision z old new floor bases versions = HadVersions z old new versions × AreBases z old new floor bases

-- It has to begin again: no device had failed and there were several tables, but others than those that were decided, or another base.
pub record BeginsAgain {D : Type 0} (Goes : Participant → Type 0) (Pinned : ℕ → List ℕ → Type 0) (Decided : ℕ → Bases → List Version → Type 0) (z : SharedState D) (old new : SeatState) (e : Installed) : Type 0 where
  pub found : Finds z old new e
  pub running : e.halted ≡ false
  pub several : SeveralTables e.last
  pub floor : ℕ
  pub live : List ℕ
  pub pinned : Pinned floor live
  pub versions : List Version
  pub bases : Bases
  pub decided : Decided floor bases versions
  pub overtaken : IsOvertaken z old new floor bases.installed versions e
  pub goes_on : Goes old.knows.participant

-- what it answers where it finds these tables, or that it has to begin again
abbrev pub EndsRoundFrom : {D : Type 0} → (Participant → Type 0) → (ℕ → List ℕ → Type 0) → (ℕ → Bases → List Version → Type 0) → SharedState D → SeatState → Installed → Option (Result Done MaintError) → SeatState → Type 0
EndsRoundFrom Goes Pinned Decided z old e (Some result) new = CompactsFrom Goes Pinned z old e result new
EndsRoundFrom Goes Pinned Decided z old e None new = BeginsAgain Goes Pinned Decided z old new e

-- what it answers, or that it has to begin again, whatever tables it finds
abbrev pub EndsRound : {D : Type 0} → (Participant → Type 0) → (ℕ → List ℕ → Type 0) → (ℕ → Bases → List Version → Type 0) → SharedState D → SeatState → Option (Result Done MaintError) → SeatState → Type 0
EndsRound Goes Pinned Decided z old result new = (e : Installed) × EndsRoundFrom Goes Pinned Decided z old e result new

-- of a round this is so, unless it answers Ok, or that a device failed
abbrev pub InRound : Type 0 → Option (Result Done MaintError) → Type 0
InRound So (Some result) = IfErr result (UnlessFault So)
InRound So None = So
