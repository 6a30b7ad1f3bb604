-- What an opening makes of the log that was found, and keeps of it.
use Rattle.std.proofs.Common.{◌≡◌, ◌≢◌, ◌⊎◌, ℕ, zero, suc, ◌+◌, ◌≤◌, true, false, List, [], ◌∷◌, ◌++◌, length, drop, replicate, Option, None, Some, Result, Ok, Err, refl, sym, ap, subst, ◌∙◌, inl, inr, append_assoc, arith}
use Rattle.std.proofs.lemmas.List.{length-replicate}
use Rattle.wp_model.specs.declared.segment.Segment.{Segment}
use Rattle.wp_cuts.specs.Cut.{Cut}
use Rattle.wp_outside.specs.Disk.{Each, Moment, IfKnown, Passes}
use Rattle.wp_outside.specs.Faults.{Rose}
use Rattle.wp_outside.specs.declared.failed.Failed.{Failed}
use Rattle.wp_fields.specs.declared.format.Format.{Format}
use Rattle.wp_fields.specs.declared.format.Format.TheVariants.{One, Two}
use Rattle.wp_entry.specs.Record.{last_number}
use Rattle.wp_gatelog.specs.declared.log.AppendError.{AppendError}
use Rattle.wp_gatelog.specs.declared.log.AppendError.TheVariants as append
use Rattle.wp_gatelog.specs.Append.{Appends, AppendsAfter, FrameAppended, FrameRefused}
use Rattle.wp_gatelog.specs.Durability.{HasAcknowledged}
use Rattle.wp_gatelog.specs.declared.error.LogError.{LogError}
use Rattle.wp_gatelog.specs.declared.error.LogError.TheVariants as log_error
use Rattle.wp_gatelog.specs.Left.{LeavesSynced}
use Rattle.wp_gatelog.specs.Log.{BeforeOrAfter, IsAtRest, LogState, Rests, stamp_of}
use Rattle.wp_gatelog.specs.Moments.{Leaves, LeavesFrom}
use Rattle.wp_gatelog.specs.Opening.{IsFound, IsOpened, IsRead, KeepsLogAt, ReadState, Survives, front_at, read_stamp}
use Rattle.wp_gatelog.specs.Spelling.{Stamp, IsUnmadeAt, IsUpTo, SpellsAt, stamped}
use Rattle.wp_gatelog.proofs.DurabilityLemmas.{preserves_on}
use Rattle.wp_gatelog.proofs.MomentLemmas.{known_map}
use Rattle.wp_gatelog.proofs.OpenLemmas.{before_place, spelled_within}
use Rattle.wp_history.specs.History.{RoomyHistory}
use Rattle.wp_history.specs.Outline.{cut_in}
use Rattle.wp_wal.specs.Errors.{wal_error_of}
use Rattle.wp_wal.specs.declared.error.WalError.{WalError}
use Rattle.wp_wal.specs.declared.error.WalError.TheVariants.{Memory, DiskFault, BadHead, BadRecord, Illegal}
use Rattle.wp_wal.specs.Opening.{IsBaseAppended, IsBegunLog, IsOpenedLog, IsReadWal, IsUnopenedLog, KeepsWal, LeavesLog, SurvivesOpening, first_of, first_record}
use Rattle.wp_wal.specs.Reading.{IsJudged, IsRecordCause, IsTold, next_number}
use Rattle.wp_wal.specs.Spelling.{MAGIC, NEWEST, AreCut, IsBegun, IsInVersion, IsLogAt, new_stamp, uncut}
use Rattle.wp_wal.specs.Wal.{LosesNothingAt, StoresCut, wal_state}
use Rattle.wp_wal.proofs.AppendLemmas.{each_other, loses_nothing}
use Rattle.wp_wal.proofs.Causes.{refused_records}
use Rattle.wp_wal.proofs.CutLemmas.{begun-push}
use Rattle.wp_wal.proofs.EntriesLemmas.{AreEntries-fit}

-- ---- numbers

-- entries behind a base, as records spell them, have numbers of their version
pub AreCut-fit : (format : Format) (place : ℕ) (records : List (List ℕ)) (c : Cut) → AreCut format place records c → next_number c ≤ last_number format + 1
AreCut-fit One place records c (none, nothing, are, at) =
    let fit = AreEntries-fit One 1 records c.entries are (omega arith) in
    omega (arith, fit, none)
AreCut-fit Two place [] c (here, is) = rw is (omega arith)
AreCut-fit Two place (first ∷ others) c (is, bytes, are) =
    let small = is.small in
    let fit = AreEntries-fit Two (c.base + 1) others c.entries are (omega (arith, small)) in
    omega (arith, fit)

-- ---- moments

each_append : (P : Moment → Type 0) (more old : List Moment) → Each P more → Each P old → Each P (more ++ old)
each_append P [] old first second = second
each_append P (m ∷ more) old first second = (first.0, each_append P more old first.1 second)

passes_on : (P : Moment → Type 0) (old mid new : List Moment) → Passes P old mid → Passes P mid new → Passes P old new
passes_on P old mid new first second =
    (second.0 ++ first.0, second.1 ∙ ap (λ (ms : List Moment). second.0 ++ ms) first.1 ∙ sym (append_assoc second.0 first.0 old), each_append P second.0 first.0 second.2 first.2)

-- what the gate log keeps while it is found and repaired
pub keeps_as : (place asked : ℕ) (old new : List Moment) (before now : ℕ) → KeepsLogAt place MAGIC (new_stamp asked) old new before now → KeepsWal place asked old new before now
keeps_as place asked old new before now keeps = record { survives = by old keeps.survives; durable = keeps.durable; later = keeps.later }
  where
    by : (ms : List Moment) → IfKnown ms (λ m. Passes (Leaves (Survives place MAGIC (new_stamp asked) m.reads)) old new) → IfKnown ms (λ m. Passes (Leaves (SurvivesOpening place asked m.reads)) old new)
    by [] passes = tt
    by (m ∷ past) passes = (passes.0, passes.1, each_other (Survives place MAGIC (new_stamp asked) m.reads) (SurvivesOpening place asked m.reads) passes.0 (λ image h. inl h) passes.2)

-- ---- the bytes before the log

-- The log that was opened is at rest behind as many bytes as its place says.
record StandsBehind (place : ℕ) (log : LogState) (records : List (List ℕ)) : Type 0 where
  front : List ℕ
  begins : place ≡ length front
  rests : Rests MAGIC log front [] records

stands_behind : (place asked : ℕ) (old : List Moment) (log : LogState) (records : List (List ℕ)) → IsOpened place MAGIC (new_stamp asked) old log records → StandsBehind place log records
stands_behind place asked [] log records opened = record {
  front = replicate place 0;
  begins = sym (length-replicate place 0);
  rests = subst (λ (ms : List Moment). IfKnown ms (IsAtRest MAGIC (stamp_of log) log.end (replicate place 0) [] records)) (sym (opened.unknown refl)) tt;
}
stands_behind place asked (m ∷ past) log records opened = record {
  front = front_at place (m ∷ past);
  begins = spelled_within place m.reads MAGIC (stamp_of log) records opened.found.spelled ∙ ap (λ (bytes : List ℕ). length bytes) (sym (before_place place m past));
  rests = opened.rests;
}

-- ---- the base record

-- the base 0, which carries nothing, is spelled by its record
first_spelled : (place : ℕ) → AreCut Two place (first_record ∷ []) (uncut [])
first_spelled place = (record { small = omega arith; ascend = tt; in_range = refl }, refl, refl)

pub base_appended : (old new : LogState) (bytes : List ℕ) (done : Unit {0}) → bytes ≡ first_record → Appends {E = AppendError} bytes old new (Ok done) → FrameAppended old new bytes → IsBaseAppended old new (Ok done)
base_appended old new bytes done is appends appended =
    (subst (λ (r : List ℕ). Appends {E = AppendError} r old new (Ok done)) is appends, subst (λ (r : List ℕ). FrameAppended old new r) is appended)

pub base_refused : (old new : LogState) (bytes : List ℕ) (why : AppendError) (failed : Failed) → old.closed ≡ false → bytes ≡ first_record → Appends {T = Unit {0}} bytes old new (Err why) → FrameRefused old new why → IsBaseAppended old new (Err failed)
base_refused old new bytes append.DiskFault failed running is appends refused = (subst (λ (r : List ℕ). Appends {T = Unit {0}} r old new (Err append.DiskFault)) is appends, refused)
base_refused old new bytes (append.Closed n) failed running is appends refused = let shut : old.closed ≡ true = refused.0 in absurd cc

-- It was appended to a log of the second version without records; or the log has all that it needs.
abbrev pub NeedsNone : LogState → Type 0
NeedsNone log = (log.format ≡ One) ⊎ (log.count ≢ 0)

needs_one : (log : LogState) → NeedsNone log ⊎ ((log.format ≡ Two) × (log.count ≡ 0))
needs_one log = by log.format log.count refl refl
  where
    by : (format : Format) (count : ℕ) → log.format ≡ format → log.count ≡ count → NeedsNone log ⊎ ((log.format ≡ Two) × (log.count ≡ 0))
    by One count version many = inl (inl version)
    by Two zero version many = inr (version, many)
    by Two (suc n) version many = inl (inr (λ none. absurd (omega (arith, none, many))))

as_it_was : (old new : LogState) (result : Result (Unit {0}) Failed) → IsBegunLog old new result → NeedsNone old → (new ≡ old) × (result ≡ Ok tt)
as_it_was old new result begun (inl one) = begun.one one
as_it_was old new result begun (inr some) = begun.some some

-- it begins with the record that it is to begin with
pub begun_by : (old new : LogState) (result : Result (Unit {0}) Failed) (first : Option (List ℕ)) → first ≡ first_of old.format old.count → old.closed ≡ false → (first ≡ None → (new ≡ old) × (result ≡ Ok tt)) → (first ≡ Some first_record → old.closed ≡ false → IsBaseAppended old new result)
    → IsBegunLog old new result
begun_by old new result first is running none some = record {
  appended = λ version few. some (is ∙ (λ i. first_of (version i) (few i))) running;
  one = λ version. none (is ∙ ap (λ (f : Format). first_of f old.count) version);
  some = λ many. none (is ∙ by old.format old.count many);
}
  where
    by : (format : Format) (count : ℕ) → count ≢ 0 → first_of format count ≡ None
    by One count many = refl
    by Two zero many = absurd (many refl)
    by Two (suc n) many = refl

begun_format : (log new : LogState) (done : Unit {0}) → IsBegunLog log new (Ok done) → new.format ≡ log.format
begun_format log new done begun = elim (needs_one log) [
  | inl none ↦ ap (λ (s : LogState). s.format) (as_it_was log new (Ok done) begun none).0
  | inr one ↦ ap (λ (s : LogState). s.format) (begun.appended one.0 one.1).1.changed
]

pub begun_numbers : (log new : LogState) (done : Unit {0}) (place : ℕ) (records : List (List ℕ)) (c : Cut) (due : ℕ) → IsBegunLog log new (Ok done) → AreCut log.format place records c → due ≡ next_number c → due ≤ last_number new.format + 1
begun_numbers log new done place records c due begun spelled numbered =
    let fit = AreCut-fit log.format place records c spelled in
    let here : due ≤ last_number log.format + 1 = omega (arith, fit, numbered) in
    subst (λ (f : Format). due ≤ last_number f + 1) (sym (begun_format log new done begun)) here

begun_there : (format : Format) (records : List (List ℕ)) (count : ℕ) → count ≡ length records → (format ≡ One) ⊎ (count ≢ 0) → IsBegun format records
begun_there One records count counted how = tt
begun_there Two records count counted (inl one) = absurd cc
begun_there Two [] count counted (inr some) = absurd (some counted)
begun_there Two (r ∷ records) count counted (inr some) = λ e. cc e

no_records : (records : List (List ℕ)) (count : ℕ) → count ≡ length records → count ≡ 0 → records ≡ []
no_records [] count counted none = refl
no_records (r ∷ records) count counted none = absurd (omega (arith, counted, none))

abbrev IsNone : List ℕ → Type 0
IsNone xs = xs ≡ []

none_left : (n : ℕ) → IsNone (drop n [])
none_left zero = refl
none_left (suc n) = refl

-- A log without records, in the second version, spells nothing; it stands at place 0.
spells_nothing : (format : Format) (place : ℕ) (records : List (List ℕ)) (c : Cut) → format ≡ Two → records ≡ [] → AreCut format place records c → (place ≡ 0) × (c ≡ uncut [])
spells_nothing One place records c version none spelled = absurd cc
spells_nothing Two place [] c version none spelled = spelled
spells_nothing Two place (r ∷ records) c version none spelled = absurd (cc none)

module _ (place asked : ℕ) (old : List Moment) (log : LogState) (records : List (List ℕ)) (opened : IsOpened place MAGIC (new_stamp asked) old log records) (c : Cut) (spelled : AreCut log.format place records c) where
  behind : StandsBehind place log records
  behind = stands_behind place asked old log records opened

  -- the disk spelled the cut
  found_cut : IfKnown old (λ m. IsLogAt log.id place c m.reads)
  found_cut = by old opened.found
    where
      by : (ms : List Moment) → IfKnown ms (λ m. IsFound place MAGIC (new_stamp asked) m.reads (stamp_of log) records) → IfKnown ms (λ m. IsLogAt log.id place c m.reads)
      by [] found = tt
      by (m ∷ past) found = (log.format, records, found.readable, found.spelled, spelled)

  made_so : IfKnown old (λ m. IsUnmadeAt place m.reads → log.id ≡ asked)
  made_so = by old opened.found
    where
      by : (ms : List Moment) → IfKnown ms (λ m. IsFound place MAGIC (new_stamp asked) m.reads (stamp_of log) records) → IfKnown ms (λ m. IsUnmadeAt place m.reads → log.id ≡ asked)
      by [] found = tt
      by (m ∷ past) found = λ unmade. ap (λ (s : Stamp). s.id) (found.unmade unmade)

  version_so : IfKnown old (λ m. IsInVersion log.format place m.reads)
  version_so = by old opened.found
    where
      by : (ms : List Moment) → IfKnown ms (λ m. IsFound place MAGIC (new_stamp asked) m.reads (stamp_of log) records) → IfKnown ms (λ m. IsInVersion log.format place m.reads)
      by [] found = tt
      by (m ∷ past) found = elim found.spelled [
        | inl none ↦ inl (none.0, ap (λ (s : Stamp). s.format) (found.unmade none.0))
        | inr made ↦ inr (log.id, made.0, made.1, made.2)
      ]

  -- ---- it is kept

  -- as it is
  kept_stores : IsBegun log.format records → (segment : Segment) (due : ℕ) → segment.place ≡ place → segment.base ≡ c.base → due ≡ next_number c → StoresCut (wal_state log segment due None) c []
  kept_stores begun segment due at base numbered =
      let running : log.closed ≡ false = opened.running in
      record {
        records = records;
        front = behind.front;
        dead = [];
        readable = opened.readable;
        begins = at ∙ behind.begins;
        spelled = subst (λ (n : ℕ). AreCut log.format n records c) (sym at) spelled;
        begun = begun;
        counted = opened.counted;
        based = sym base;
        numbered = numbered;
        rests = λ _. behind.rests;
        left = λ closed. absurd cc;
      }

  -- ---- it gets its base record

  module _ (version : log.format ≡ Two) (few : log.count ≡ 0) (new : LogState) where
    nothing : records ≡ []
    nothing = no_records records log.count opened.counted few

    at_start : (place ≡ 0) × (c ≡ uncut [])
    at_start = spells_nothing log.format place records c version nothing spelled

    module _ {T E : Type 0} (result : Result T E) (appends : Appends first_record log new result) where
      after : AppendsAfter MAGIC behind.front [] [] first_record log new result
      after = subst (λ (rs : List (List ℕ)). AppendsAfter MAGIC behind.front [] rs first_record log new result) nothing (appends MAGIC behind.front [] records (λ _. behind.rests))

      -- without a record it is a log of what was found
      still_none : (bytes image : List ℕ) → IsFound place MAGIC (new_stamp asked) bytes (stamp_of log) records → SpellsAt place image MAGIC (stamp_of log) [] → Survives place MAGIC (new_stamp asked) bytes image
      still_none bytes image found spells = elim found.spelled [
        | inl none ↦ inr (inl (none.0, subst (λ (s : Stamp). SpellsAt place image MAGIC s []) (found.unmade none.0) spells))
        | inr made ↦ inr (inr (stamp_of log, made.0, made.1, made.2, inl (subst (λ (rs : List (List ℕ)). SpellsAt place image MAGIC (stamp_of log) rs) (sym nothing ∙ made.3) spells)))
      ]

      -- before, a crash leaves that; and then its base record in it
      image_survives : (bytes image : List ℕ) → IsFound place MAGIC (new_stamp asked) bytes (stamp_of log) records → BeforeOrAfter (length behind.front) MAGIC (stamp_of log) [] first_record image → SurvivesOpening place asked bytes image
      image_survives bytes image found h =
          let here = subst (λ (n : ℕ). BeforeOrAfter n MAGIC (stamp_of log) [] first_record image) (sym behind.begins) h in
          elim here [
            | inl before ↦ inl (still_none bytes image found before)
            | inr more ↦ inr (
              at_start.0,
              log.id,
              subst (λ (x : Format × List (List ℕ)). SpellsAt place bytes MAGIC (stamped x.0 log.id) x.1) (λ i. (version i, nothing i)) found.spelled,
              (λ unmade. ap (λ (s : Stamp). s.id) (found.unmade unmade)),
              subst (λ (f : Format). SpellsAt place image MAGIC (stamped f log.id) (first_record ∷ [])) version more,
            )
          ]

      survives : (m : Moment) → IsFound place MAGIC (new_stamp asked) m.reads (stamp_of log) records → Passes (Leaves (SurvivesOpening place asked m.reads)) log.moments new.moments
      survives m found =
          let passed = after.any_moment in
          (passed.0, passed.1, each_other (BeforeOrAfter (length behind.front) MAGIC (stamp_of log) [] first_record) (SurvivesOpening place asked m.reads) passed.0 (λ image h. image_survives m.reads image found h) passed.2)

      keeps_records : LosesNothingAt place log.moments new.moments
      keeps_records = loses_nothing log.moments new.moments place behind.front behind.begins after.durable

    begun_stores : {T E : Type 0} (x : T) → Appends {E = E} first_record log new (Ok x) → FrameAppended log new first_record → (segment : Segment) (due : ℕ) → segment.place ≡ place → segment.base ≡ c.base → due ≡ next_number c
        → StoresCut (wal_state new segment due None) c []
    begun_stores x appends appended segment due at base numbered =
        let same : new.format ≡ log.format = ap (λ (s : LogState). s.format) appended.changed in
        let its : new.format ≡ Two = same ∙ version in
        let closed : new.closed ≡ log.closed = ap (λ (s : LogState). s.closed) appended.changed in
        let running : log.closed ≡ false = opened.running in
        let count : new.count ≡ log.count + 1 = ap (λ (s : LogState). s.count) appended.changed in
        record {
          records = first_record ∷ [];
          front = behind.front;
          dead = drop (length first_record + 9) [];
          readable = subst (IsUpTo NEWEST) (sym same) opened.readable;
          begins = at ∙ behind.begins;
          spelled = rw (its, at_start.1) (first_spelled segment.place);
          begun = begun-push new.format [] first_record;
          counted = omega (arith, count, few);
          based = sym base;
          numbered = numbered;
          rests = λ _. (after (Ok x) appends).rests;
          left = λ shut. absurd cc;
        }

  -- ---- what it answers

  pub opened_log : (new : LogState) (done : Unit {0}) (segment : Segment) (due : ℕ) → IsBegunLog log new (Ok done) → IsJudged c → segment.place ≡ place → segment.base ≡ c.base → due ≡ next_number c → IsOpenedLog asked place old (wal_state new segment due None) c
  unfolding kept_stores begun_stores
  opened_log new done segment due begun judged at base numbered = elim (needs_one log) [
    | inl none ↦
        let same : new ≡ log = (as_it_was log new (Ok done) begun none).0 in
        rw same (record {
          stores = kept_stores (begun_there log.format records log.count opened.counted none) segment due at base numbered;
          clean = refl;
          judged = judged;
          running = opened.running;
          unreserved = refl;
          placed = at;
          found = found_cut;
          made = made_so;
          version = version_so;
        })
    | inr one ↦
        let there = begun.appended one.0 one.1 in
        let id : new.id ≡ log.id = ap (λ (s : LogState). s.id) there.1.changed in
        let format : new.format ≡ log.format = ap (λ (s : LogState). s.format) there.1.changed in
        let closed : new.closed ≡ log.closed = ap (λ (s : LogState). s.closed) there.1.changed in
        record {
          stores = begun_stores one.0 one.1 new done there.0 there.1 segment due at base numbered;
          clean = none_left (length first_record + 9);
          judged = judged;
          running = closed ∙ opened.running;
          unreserved = refl;
          placed = at;
          found = subst (λ (n : ℕ). IfKnown old (λ m. IsLogAt n place c m.reads)) (sym id) found_cut;
          made = subst (λ (n : ℕ). IfKnown old (λ m. IsUnmadeAt place m.reads → n ≡ asked)) (sym id) made_so;
          version = subst (λ (f : Format). IfKnown old (λ m. IsInVersion f place m.reads)) (sym format) version_so;
        }
  ]

  -- ---- what is kept

  module _ (before : ℕ) (keeps : KeepsLogAt place MAGIC (new_stamp asked) old log.moments before log.faults) where
    so_far : KeepsWal place asked old log.moments before log.faults
    so_far = keeps_as place asked old log.moments before log.faults keeps

    -- while its base record was appended
    appended_keeps : {T E : Type 0} (new : LogState) (result : Result T E) → log.format ≡ Two → log.count ≡ 0 → Appends first_record log new result → log.faults ≤ new.faults → KeepsWal place asked old new.moments before new.faults
    appended_keeps new result version few appends later = record {
      survives = by old so_far.survives opened.found;
      durable = λ stamp rs. preserves_on (LeavesFrom place (HasAcknowledged MAGIC stamp rs)) old log.moments new.moments (keeps.durable stamp rs) (keeps_records version few new result appends stamp rs);
      later = omega (arith, keeps.later, later);
    }
      where
        by : (ms : List Moment) → IfKnown ms (λ m. Passes (Leaves (SurvivesOpening place asked m.reads)) old log.moments) → IfKnown ms (λ m. IsFound place MAGIC (new_stamp asked) m.reads (stamp_of log) records) → IfKnown ms (λ m. Passes (Leaves (SurvivesOpening place asked m.reads)) old new.moments)
        by [] passes found = tt
        by (m ∷ past) passes found = passes_on (Leaves (SurvivesOpening place asked m.reads)) old log.moments new.moments passes (survives version few new result appends m found)

    pub begun_keeps : (new : LogState) (result : Result (Unit {0}) Failed) → IsBegunLog log new result → log.faults ≤ new.faults → KeepsWal place asked old new.moments before new.faults
    begun_keeps new result begun later = elim (needs_one log) [
      | inl none ↦ rw ((as_it_was log new result begun none).0) so_far
      | inr one ↦ by result one.0 one.1 (begun.appended one.0 one.1)
    ]
      where
        by : (r : Result (Unit {0}) Failed) → log.format ≡ Two → log.count ≡ 0 → IsBaseAppended log new r → KeepsWal place asked old new.moments before new.faults
        by (Ok done) version few appended = appended_keeps {E = AppendError} new (Ok done) version few appended.0 later
        by (Err failed) version few refused = appended_keeps {T = Unit {0}} new (Err append.DiskFault) version few refused.0 later

-- its disk failed
pub begun_rose : (log new : LogState) (failed : Failed) (before : ℕ) → IsBegunLog log new (Err failed) → before ≤ log.faults → Rose before new.faults
begun_rose log new failed before begun later = elim (needs_one log) [
  | inl none ↦ absurd (cc (as_it_was log new (Err failed) begun none).1)
  | inr one ↦ let rose = (begun.appended one.0 one.1).1.1 in omega (arith, rose, later)
]

-- ---- a log that is only read

pub left_log : (old new : List Moment) (why : LogError) → LeavesSynced old new why → LeavesLog old new (wal_error_of why)
left_log old new log_error.Memory left = left
left_log old new log_error.DiskFault left = left
left_log old new log_error.BadHead left = left
left_log old new (log_error.Cut index id) left = left

-- the records are refused that were read
pub records_refused : (place asked : ℕ) (old new : List Moment) (read : ReadState) (before now : ℕ) (why : WalError) → IsRead place MAGIC (new_stamp asked) old read → new ≡ read.moments → IsRecordCause read.format place read.records why → IsUnopenedLog place old new before now why
records_refused place asked old new read before now why is same cause = record {
  cause = refused_records (Rose before now) old asked read.id place read.format read.records why is.readable is.found cause;
  left = by why cause;
}
  where
    by : (w : WalError) → IsRecordCause read.format place read.records w → LeavesLog old new w
    by Memory refused = same ∙ is.synced
    by DiskFault refused = absurd refused
    by BadHead refused = absurd refused
    by (BadRecord index reason) refused = same ∙ is.synced
    by (Illegal number) refused = same ∙ is.synced

-- what was read of a log
pub read_wal : (asked place : ℕ) (old : List Moment) (read : ReadState) (outline : RoomyHistory) → IsRead place MAGIC (new_stamp asked) old read → AreCut read.format place read.records (cut_in outline) → IsTold outline → IsReadWal asked place old (record { log = read; outline = outline })
read_wal asked place old read outline is spelled told = record {
  log = is;
  told = told;
  found = known_map (λ m. IsFound place MAGIC (new_stamp asked) m.reads (read_stamp read) read.records) (λ m. IsLogAt read.id place (cut_in outline) m.reads) (λ m found. (read.format, read.records, found.readable, found.spelled, spelled)) old is.found;
  made = known_map (λ m. IsFound place MAGIC (new_stamp asked) m.reads (read_stamp read) read.records) (λ m. IsUnmadeAt place m.reads → read.id ≡ asked) (λ m found unmade. ap (λ (s : Stamp). s.id) (found.unmade unmade)) old is.found;
}
