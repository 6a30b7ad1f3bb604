-- How a version is decided, as far as it was.
use Rattle.std.specs.Prelude.{◌≡◌, ℕ, Some}
use Rattle.wp_judge.specs.declared.observed.Observed.{Observed}
use Rattle.wp_judge.specs.declared.observed.Load.TheVariants as load
use Rattle.wp_judge.specs.declared.observed.Asked.TheVariants as asked
use Rattle.wp_judge.specs.Order.{ask}
use Rattle.wp_core.specs.Reading.{Registration, reads}
use Rattle.wp_core.specs.Sound.Reader.{IsRight}
use Rattle.wp_shared.specs.Seats.{SharedState, SeatState}
use Rattle.wp_read.specs.declared.answers.Look.{Look}
use Rattle.wp_read.specs.declared.answers.Look.TheVariants as look
use Rattle.wp_read.specs.declared.answers.Free.{Free}
use Rattle.wp_read.specs.declared.answers.Free.TheVariants as free
use Rattle.wp_read.specs.Reads.{Reads, IsOf}

-- the version with this first word and this first bound loaded, and no more
abbrev pub reads_first : ℕ → ℕ → Registration → ℕ → ℕ → Observed
reads_first bits p snapshot word max = record (reads bits p snapshot) { first_word = Some word; first_max = Some max }

-- at most the first word and the first bound were loaded
abbrev pub IsFirstLook : ℕ → Registration → Observed → Type 0
IsFirstLook p snapshot r = r ≡ record (reads r.bits p snapshot) { first_word = r.first_word; first_max = r.first_max }

-- what the seat loaded at a look decides the version, and rightly; or the delayed flag is to be loaded next
abbrev pub Looks : {D : Type 0} → SharedState D → SeatState → SeatState → ℕ → Registration → Look → Type 0
Looks z old new p snapshot (look.Decided visible) =
    (r : Observed) × Reads z old new r × IsFirstLook p snapshot r × (ask r ≡ asked.Answer visible) × IsRight old.knows.participant.seen p snapshot.number visible
Looks z old new p snapshot (look.Ask word max) =
    (r : Observed) × Reads z old new r × (r ≡ reads_first r.bits p snapshot word max) × (ask r ≡ asked.Load load.DelayedFlag)

-- what the seat loaded without a turn decides the version, and rightly; or a state behind a turn is to be looked into next
abbrev pub DecidesFree : {D : Type 0} → SharedState D → SeatState → SeatState → ℕ → Registration → Free → Type 0
DecidesFree z old new p snapshot (free.Decided visible) =
    (r : Observed) × Reads z old new r × IsOf p snapshot r × (ask r ≡ asked.Answer visible) × IsRight old.knows.participant.seen p snapshot.number visible
DecidesFree z old new p snapshot (free.Prepared r) = Reads z old new r × IsOf p snapshot r × (ask r ≡ asked.Load load.InPrepared)
DecidesFree z old new p snapshot (free.Snapshots r) = Reads z old new r × IsOf p snapshot r × (ask r ≡ asked.Load load.IsOldCommit)
