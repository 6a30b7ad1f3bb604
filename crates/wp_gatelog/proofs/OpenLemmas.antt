-- A log is opened.
use Rattle.std.proofs.Common.{◌≡◌, ◌⊎◌, inl, inr, ℕ, zero, suc, ◌+◌, ◌<◌, ◌≤◌, false, List, [], ◌∷◌, ◌++◌, length, drop, take, Option, None, Some, Result, Ok, refl, sym, ◌∙◌, ap, subst, arith, length-append, length-drop}
use Rattle.std.proofs.lemmas.List.{append_assoc, take-append-drop, drop_at, drop-drop, length-take-le}
use Rattle.std.proofs.lemmas.Bool.{cases_eq}
use Rattle.wp_outside.specs.Disk.{Moment, synced, IfKnown, added, after_sync, images, ReadsItself, Goes}
use Rattle.wp_outside.proofs.Moments.{image_of_synced, goes_on}
use Rattle.wp_fields.specs.declared.format.Format.{Format}
use Rattle.wp_gatelog.specs.declared.error.LogError.{LogError}
use Rattle.wp_gatelog.specs.declared.error.LogError.TheVariants.{Memory, DiskFault, BadHead, Cut}
use Rattle.wp_gatelog.specs.declared.gate.GateByte.{GateByte}
use Rattle.wp_gatelog.specs.declared.open.FoundLog.{FoundLog}
use Rattle.wp_gatelog.specs.declared.head.Head.TheVariants.{Made}
use Rattle.wp_gatelog.specs.Left.{IsAtMostSynced, LeavesSynced}
use Rattle.wp_gatelog.specs.Opens.{IsAsFound, IsFoundLog, WasFound, WasFoundBy, found_stamp}
use Rattle.wp_gatelog.specs.Changes.{BringsTo}
use Rattle.wp_gatelog.specs.Damage.{IsBadHead, IsBadHeadAt}
use Rattle.wp_gatelog.specs.Durability.{HasAcknowledged, LosesNoRecordAt}
use Rattle.wp_gatelog.specs.Heads.{BeginsLog, IsHead, SpellsNone}
use Rattle.wp_gatelog.specs.Log.{IsAtRest, LogState, stamp_of}
use Rattle.wp_gatelog.specs.Repair.{IsReadLog, IsRepaired}
use Rattle.wp_gatelog.specs.Moments.{IsSynced, Leaves, LeavesFrom}
use Rattle.wp_gatelog.specs.Patched.{Shows}
use Rattle.wp_gatelog.specs.Opening.{IsFound, IsOpened, IsRead, IsRefused, KeepsLogAt, ReadState, Repairs, SurvivesThroughAt, front_at, read_stamp}
use Rattle.wp_gatelog.specs.Scanning.{HasRead, IsLast, IsReadFault}
use Rattle.wp_gatelog.specs.Spelling.{Gated, Stamp, identity, all_gated, log_of, IsUnmade, IsUnmadeAt, SpellsAt, stamped, IsUpTo}
use Rattle.wp_gatelog.specs.Stands.{Stands, StandsOn}
use Rattle.wp_gatelog.proofs.ChangeLemmas.{brings_as}
use Rattle.wp_gatelog.proofs.DurabilityLemmas.{preserves_on, sync_preserves, sync_reads}
use Rattle.wp_gatelog.proofs.HeadLemmas.{length-identity}
use Rattle.wp_gatelog.proofs.MomentLemmas.{goes_map, known_both, known_map}
use Rattle.wp_gatelog.proofs.SurvivalLemmas.{rest_spells, survives_through}

-- ---- a disk that is known

pub known_at : (P : Moment → Type 0) (ms past : List Moment) (m : Moment) → ms ≡ m ∷ past → IfKnown ms P → P m
known_at P ms past m is known = subst (λ (l : List Moment). IfKnown l P) is known

-- ---- a log that was read

unmade_from : (place : ℕ) (bytes : List ℕ) → IsUnmadeAt place bytes → IsUnmade (drop place bytes)
unmade_from zero bytes unmade = unmade
unmade_from (suc place) bytes unmade = absurd unmade

module _ (place : ℕ) (magic : List ℕ) (asked stamp : Stamp) (head first : ℕ) (reads : List ℕ) (begins : BeginsLog magic asked.format stamp head first (drop place reads)) where
  abbrev inner : List ℕ
  inner = drop place reads

  -- the head is there, so the place is within
  pub placed : place ≡ length (take place reads)
  placed = sym (length-take-le place reads (omega (arith, length-drop place reads, ap length begins.made.2)))

  -- the bytes after the head are all but its ten
  behind_head : drop 10 inner ≡ first ∷ begins.made.0
  behind_head =
      ap (λ (l : List ℕ). drop 10 l) begins.made.2 ∙ drop_at (head ∷ identity magic stamp) (first ∷ begins.made.0) 10 (omega (arith, length-identity magic stamp begins.magic_size))

  split_head : (following : List ℕ) → drop 10 inner ≡ following → inner ≡ head ∷ (identity magic stamp ++ following)
  split_head following is = begins.made.2 ∙ ap (λ (l : List ℕ). head ∷ (identity magic stamp ++ l)) (sym behind_head ∙ is)

  -- the gate of the first record is the byte behind them
  pub first_shown : take 1 (drop (place + 10) reads) ≡ first ∷ []
  first_shown = ap (λ (l : List ℕ). take 1 l) (sym (drop-drop 10 place reads) ∙ behind_head)

  split_log : (gated : List Gated) (following : List ℕ) → drop (place + 10) reads ≡ all_gated gated ++ following → inner ≡ log_of magic stamp head gated ++ following
  split_log gated following is =
      split_head (all_gated gated ++ following) (drop-drop 10 place reads ∙ is) ∙ ap (λ (l : List ℕ). head ∷ l) (sym (append_assoc (identity magic stamp) (all_gated gated) following))

  pub log_read : (len : ℕ) → len ≡ length reads → (records : List (List ℕ)) (last : Option GateByte) (end : ℕ) → (following : List ℕ) × HasRead (place + 10) (drop (place + 10) reads) (0 ∷ following) records last end
      → IsReadLog (take place reads) magic stamp head records last end len (drop place reads)
  log_read len size records last end w = record {
    gated = w.1.gated;
    has_log = record {
      rest = w.0;
      spelling = split_log w.1.gated (0 ∷ w.0) w.1.spelling;
      head_open = begins.made.1;
      gates_open = w.1.gates_open;
    };
    same = w.1.same;
    last_is = subst (λ (n : ℕ). IsLast (n + 10) last w.1.gated) placed w.1.last_is;
    place = omega (arith, placed, w.1.place, length-append (identity magic stamp) (all_gated w.1.gated), length-identity magic stamp begins.magic_size);
    size = omega (arith, size, ap length (take-append-drop place reads), length-append (take place reads) (drop place reads));
    magic_size = begins.magic_size;
  }

  pub log_found : (len : ℕ) (records : List (List ℕ)) (last : Option GateByte) (end : ℕ) → IsReadLog (take place reads) magic stamp head records last end len (drop place reads) → IsFound place magic asked reads stamp records
  log_found len records last end log = record {
    spelled = inr (head, log.gated, log.has_log, log.same);
    unmade = λ unmade. absurd (opened (identity magic stamp ++ first ∷ begins.made.0)
        (omega (arith, length-append (identity magic stamp) (first ∷ begins.made.0))) (subst IsUnmade begins.made.2 (unmade_from place reads unmade)));
    readable = begins.readable;
  }
    where
      opened : (tail : List ℕ) → 0 < length tail → IsUnmade (head ∷ tail) → ⊥
      opened [] some unmade = omega arith
      opened (b ∷ tail) some unmade = begins.made.1 unmade

  pub log_refused : (why : LogError) → IsReadFault stamp.id (drop (place + 10) reads) why → IsRefused place magic asked.format reads why
  log_refused Memory w = tt
  log_refused DiskFault w = tt
  log_refused BadHead w = absurd w
  log_refused (Cut index named) w = (
    record {
      stamp = stamp;
      readable = begins.readable;
      head = head;
      gated = w.1;
      gate = w.2;
      rest = w.3;
      spelling = split_log w.1 (w.2 ∷ w.3) w.8;
      head_open = begins.made.1;
      gates_open = w.4;
      before = w.5;
      gate_open = w.6;
      short = w.7;
    },
    w.0,
  )

-- ---- what is brought about

-- what is brought about behind a front is so from its place on
pub brings_at : {T E : Type 0} (place : ℕ) (front magic : List ℕ) (P : List ℕ → Type 0) (Q : Moment → Type 0) (old new : List Moment) (result : Result T E) → place ≡ length front
    → BringsTo (length front) magic (λ image. P (drop (length front) image)) Q old new result → BringsTo place magic (λ image. P (drop place image)) Q old new result
brings_at place front magic P Q old new result is =
    subst (λ (n : ℕ). BringsTo n magic (λ image. P (drop n image)) Q old new result) (sym is)

pub repairs_made : (place : ℕ) (magic : List ℕ) (asked stamp : Stamp) (head : ℕ) (records : List (List ℕ)) (last : Option GateByte) (end len : ℕ) (bytes : List ℕ) (log : IsReadLog (take place bytes) magic stamp head records last end len (drop place bytes))
    → (image : List ℕ) → IsRepaired magic stamp head log.gated (drop place image) → Repairs place magic asked bytes image
repairs_made place magic asked stamp head records last end len bytes log image repaired = inr (inr (stamp, head, log.gated, log.has_log, repaired))

pub repairs_unmade : (magic : List ℕ) (asked : Stamp) (bytes : List ℕ) → IsUnmade bytes → (image : List ℕ) → SpellsNone magic asked image → Repairs 0 magic asked bytes image
repairs_unmade magic asked bytes unmade image none = inr (inl (unmade, none))

pub begins : (magic : List ℕ) (newest : Format) (bytes : List ℕ) (gate : ℕ) (format : Format) (id first : ℕ) → length magic ≡ 4 → IsUpTo newest format → IsHead magic newest bytes (Made gate format id first)
    → BeginsLog magic newest (stamped format id) gate first bytes
begins magic newest bytes gate format id first four up head = record { magic_size = four; readable = up; made = head }

pub found_none : (magic : List ℕ) (asked : Stamp) (bytes : List ℕ) → IsUnmade bytes → (records : List (List ℕ)) → records ≡ [] → IsFound 0 magic asked bytes asked records
found_none magic asked bytes unmade records none = record { spelled = inl (unmade, none); unmade = λ _. refl; readable = omega arith }

pub made_rests : (magic : List ℕ) (stamp : Stamp) (records : List (List ℕ)) → length magic ≡ 4 → records ≡ [] → (m : Moment) → m ≡ synced (log_of magic stamp 1 [] ++ 0 ∷ []) → IsAtRest magic stamp 10 [] [] records m
made_rests magic stamp records four none m on = record {
  gated = [];
  acknowledged = record { gates_open = tt; last = refl; same = none };
  place = omega (arith, length-identity magic stamp four, length-append {A = ℕ} (identity magic stamp) []);
  on_disk = on;
}

-- ---- no head above place 0

pub bad_above : (place : ℕ) (magic : List ℕ) (newest : Format) (bytes : List ℕ) → 0 < place → IsUnmade (drop place bytes) ⊎ IsBadHead magic newest (drop place bytes) → IsBadHeadAt place magic newest bytes
bad_above zero magic newest bytes above bad = absurd (omega arith)
bad_above (suc place) magic newest bytes above bad = bad

short_bad : (magic : List ℕ) (newest : Format) (bytes : List ℕ) → length bytes < 11 → IsUnmade bytes ⊎ IsBadHead magic newest bytes
short_bad magic newest [] short = inl tt
short_bad magic newest (gate ∷ []) short = inl tt
short_bad magic newest (gate ∷ byte ∷ bytes) short = elim (cases_eq gate 0) [
  | inl shut ↦ inl shut
  | inr opened ↦ inr (record { made = opened; wrong = inl short })
]

pub short_above : (place : ℕ) (magic : List ℕ) (newest : Format) (bytes : List ℕ) → 0 < place → length bytes < place + 11 → IsBadHeadAt place magic newest bytes
short_above place magic newest bytes above short = bad_above place magic newest bytes above (short_bad magic newest (drop place bytes) (omega (arith, length-drop place bytes)))

pub before_place : (place : ℕ) (m : Moment) (past : List Moment) → front_at place (m ∷ past) ≡ take place m.reads
before_place zero m past = refl
before_place (suc place) m past = refl

-- where a log is spelled, there are as many bytes before it
pub spelled_within : (place : ℕ) (bytes magic : List ℕ) (stamp : Stamp) (records : List (List ℕ)) → SpellsAt place bytes magic stamp records → place ≡ length (take place bytes)
spelled_within zero bytes magic stamp records spelled = refl
spelled_within (suc place) bytes magic stamp records (inl none) = absurd none.0
spelled_within (suc place) bytes magic stamp records (inr w) = sym (length-take-le (suc place) bytes (omega (arith, length-drop (suc place) bytes, ap length w.2.spelling)))

-- ---- a log that was found

pub made_found : (place first : ℕ) (log : FoundLog) (head : ℕ) → log.head ≡ Some head → (old : List Moment)
    → IfKnown old (λ m. Shows (place + 10) (first ∷ []) m → (following : List ℕ) × HasRead (place + 10) (drop (place + 10) m.reads) (0 ∷ following) log.found.records.items log.found.last log.found.end) → IfKnown old (λ m. log.len ≡ length m.reads)
    → (magic : List ℕ) (asked : Stamp) → IfKnown old (λ m. BeginsLog magic asked.format (found_stamp log) head first (drop place m.reads) → IsFoundLog place magic asked m.reads log)
made_found place first log head is old shown size magic asked =
    known_both (λ m. Shows (place + 10) (first ∷ []) m → (following : List ℕ) × HasRead (place + 10) (drop (place + 10) m.reads) (0 ∷ following) log.found.records.items log.found.last log.found.end) (λ m. log.len ≡ length m.reads)
    (λ m. BeginsLog magic asked.format (found_stamp log) head first (drop place m.reads) → IsFoundLog place magic asked m.reads log)
    (λ m shows fits begun.
    let read = log_read place magic asked (found_stamp log) head first m.reads begun log.len fits log.found.records.items log.found.last log.found.end (shows (first_shown place magic asked (found_stamp log) head first m.reads begun)) in
    record {
      found = log_found place magic asked (found_stamp log) head first m.reads begun log.len log.found.records.items log.found.last log.found.end read;
      was = (fits, subst (λ (h : Option ℕ). WasFoundBy place magic m.reads log h) (sym is) (placed place magic asked (found_stamp log) head first m.reads begun, read));
    }) old shown size

pub made_refused : (place first head : ℕ) (stamp : Stamp) (why : LogError) (old : List Moment) → IfKnown old (λ m. Shows (place + 10) (first ∷ []) m → IsReadFault stamp.id (drop (place + 10) m.reads) why)
    → (magic : List ℕ) (asked : Stamp) → IfKnown old (λ m. BeginsLog magic asked.format stamp head first (drop place m.reads) → IsRefused place magic asked.format m.reads why)
made_refused place first head stamp why old fault magic asked =
    known_map (λ m. Shows (place + 10) (first ∷ []) m → IsReadFault stamp.id (drop (place + 10) m.reads) why) (λ m. BeginsLog magic asked.format stamp head first (drop place m.reads) → IsRefused place magic asked.format m.reads why)
    (λ m faulty begun. log_refused place magic asked stamp head first m.reads begun why (faulty (first_shown place magic asked stamp head first m.reads begun))) old fault

-- the head was read before
pub by_head : (R : Moment → Type 0) (place first gate : ℕ) (format newest : Format) (id : ℕ) (magic : List ℕ) (old mid : List Moment) → mid ≡ old → length magic ≡ 4 → IsUpTo newest format → IfKnown old (λ m. IsHead magic newest (drop place m.reads) (Made gate format id first))
    → IfKnown mid (λ m. BeginsLog magic newest (stamped format id) gate first (drop place m.reads) → R m) → IfKnown old R
by_head R place first gate format newest id magic old mid same four up head f =
    known_both (λ m. IsHead magic newest (drop place m.reads) (Made gate format id first)) (λ m. BeginsLog magic newest (stamped format id) gate first (drop place m.reads) → R m) R
    (λ m is g. g (begins magic newest (drop place m.reads) gate format id first four up is)) old head (subst (λ (ms : List Moment). IfKnown ms (λ m. BeginsLog magic newest (stamped format id) gate first (drop place m.reads) → R m)) same f)

-- ---- the log is made, or repaired

pub settles_none : {T E : Type 0} (place : ℕ) (magic bytes : List ℕ) (log : FoundLog) (old new : List Moment) (result : Result T E) → length magic ≡ 4 → log.head ≡ None → WasFound place magic bytes log
    → ((before : List ℕ) → IsUnmade before → log.len ≡ length before → IsSynced before old → BringsTo 0 magic (SpellsNone magic (found_stamp log)) (λ m. m ≡ synced (log_of magic (found_stamp log) 1 [] ++ 0 ∷ [])) old new result)
    → IsSynced bytes old → BringsTo place magic (Repairs place magic (found_stamp log) bytes) (IsAtRest magic (found_stamp log) log.found.end (take place bytes) [] log.found.records.items) old new result
settles_none place magic bytes log old new result four is was made known =
    let none = subst (λ (h : Option ℕ). WasFoundBy place magic bytes log h) is was.1 in
    let stamp = found_stamp log in
    let Q : ℕ → ℕ → Moment → Type 0 = λ n end. IsAtRest magic stamp end (take n bytes) [] log.found.records.items in
    subst (λ (n : ℕ). BringsTo n magic (Repairs n magic stamp bytes) (Q n log.found.end) old new result) (sym none.0)
    (subst (λ (end : ℕ). BringsTo 0 magic (Repairs 0 magic stamp bytes) (Q 0 end) old new result) (sym none.3)
    (brings_as 0 magic (SpellsNone magic stamp) (Repairs 0 magic stamp bytes) (λ m. m ≡ synced (log_of magic stamp 1 [] ++ 0 ∷ [])) (Q 0 10) old new result
    (repairs_unmade magic stamp bytes none.1) (made_rests magic stamp log.found.records.items four none.2) (made bytes none.1 was.0 known)))

pub settles_some : {T E : Type 0} (place : ℕ) (magic bytes : List ℕ) (log : FoundLog) (head : ℕ) (old new : List Moment) (result : Result T E) → log.head ≡ Some head → WasFound place magic bytes log
    → ((front inner : List ℕ) → place ≡ length front → (read : IsReadLog front magic (found_stamp log) head log.found.records.items log.found.last log.found.end log.len inner) → IsSynced (front ++ inner) old
    → BringsTo (length front) magic (λ image. IsRepaired magic (found_stamp log) head read.gated (drop (length front) image)) (IsAtRest magic (found_stamp log) log.found.end front [] log.found.records.items) old new result)
    → IsSynced bytes old → BringsTo place magic (Repairs place magic (found_stamp log) bytes) (IsAtRest magic (found_stamp log) log.found.end (take place bytes) [] log.found.records.items) old new result
settles_some place magic bytes log head old new result is was repaired known =
    let some = subst (λ (h : Option ℕ). WasFoundBy place magic bytes log h) is was.1 in
    let stamp = found_stamp log in
    let Q : Moment → Type 0 = IsAtRest magic stamp log.found.end (take place bytes) [] log.found.records.items in
    let whole : IsSynced (take place bytes ++ drop place bytes) old = subst (λ (l : List ℕ). IsSynced l old) (sym (take-append-drop place bytes)) known in
    brings_as place magic (λ image. IsRepaired magic stamp head some.1.gated (drop place image)) (Repairs place magic stamp bytes) Q Q old new result
    (repairs_made place magic stamp stamp head log.found.records.items log.found.last log.found.end log.len bytes some.1) (λ m on. on)
    (brings_at place (take place bytes) magic (IsRepaired magic stamp head some.1.gated) Q old new result some.0 (repaired (take place bytes) (drop place bytes) some.0 some.1 whole))

-- ---- a disk that was synced

-- what was found of the bytes is so before the sync too
pub before_sync : (P : List ℕ → Type 0) (old new : List Moment) → new ≡ added after_sync old → IfKnown new (λ m. P m.reads) → IfKnown old (λ m. P m.reads)
before_sync P old new synced is = by old (subst (λ (ms : List Moment). IfKnown ms (λ m. P m.reads)) synced is)
  where
    by : (ms : List Moment) → IfKnown (added after_sync ms) (λ m. P m.reads) → IfKnown ms (λ m. P m.reads)
    by [] there = tt
    by (m ∷ past) there = there

at_most_synced : (old new : List Moment) (why : LogError) → LeavesSynced old new why → IsAtMostSynced old new
at_most_synced old new Memory same = inr same
at_most_synced old new DiskFault left = left
at_most_synced old new BadHead same = inr same
at_most_synced old new (Cut index id) same = inr same

survives_same : (place : ℕ) (magic : List ℕ) (asked : Stamp) (old new : List Moment) → new ≡ old → SurvivesThroughAt place magic asked old new
survives_same place magic asked [] new same = tt
survives_same place magic asked (m ∷ past) new same = ([], same, tt)

survives_synced : (place : ℕ) (magic : List ℕ) (asked : Stamp) (old new : List Moment) → new ≡ added after_sync old → SurvivesThroughAt place magic asked old new
survives_synced place magic asked [] new synced = tt
survives_synced place magic asked (m ∷ past) new by_sync = (synced m.reads ∷ [], by_sync, (λ image h. inl (image_of_synced m.reads image h), tt))

pub durable_synced : (place : ℕ) (magic : List ℕ) (old new : List Moment) → ReadsItself old → new ≡ added after_sync old → LosesNoRecordAt place magic old new
durable_synced place magic old new itself by_sync = λ stamp records. sync_preserves (λ image. HasAcknowledged magic stamp records (drop place image)) old new itself by_sync

-- a crash leaves what it left before
pub keeps_synced : (place : ℕ) (magic : List ℕ) (asked : Stamp) (old new : List Moment) (before now : ℕ) (why : LogError) → ReadsItself old → LeavesSynced old new why → before ≤ now → KeepsLogAt place magic asked old new before now
keeps_synced place magic asked old new before now why itself left later = elim (at_most_synced old new why left) [
  | inl same ↦ record { survives = survives_same place magic asked old new same; durable = λ stamp records. ([], same, tt); later = later }
  | inr by_sync ↦ record { survives = survives_synced place magic asked old new by_sync; durable = durable_synced place magic old new itself by_sync; later = later }
]

-- ---- a log that was read is repaired

-- what is so at the place and of the kind that it was read with
pub as_read : (R : ℕ → List ℕ → Type 0) (place : ℕ) (magic : List ℕ) (asked : Stamp) (old : List Moment) (read : ReadState) → IsRead place magic asked old read → (IsRead read.place read.magic asked old read → R read.place read.magic) → R place magic
as_read R place magic asked old read is f =
    subst (λ (n : ℕ). IsRead n magic asked old read → R n magic) is.placed (subst (λ (k : List ℕ). IsRead read.place k asked old read → R read.place k) is.kind f) is

repairs_asked : (place : ℕ) (magic : List ℕ) (asked stamp : Stamp) (bytes : List ℕ) (records : List (List ℕ)) → IsFound place magic asked bytes stamp records → (image : List ℕ) → Repairs place magic stamp bytes image → Repairs place magic asked bytes image
repairs_asked place magic asked stamp bytes records found image (inl same) = inl same
repairs_asked place magic asked stamp bytes records found image (inr (inl new)) = inr (inl (new.0, subst (λ (s : Stamp). SpellsAt place image magic s []) (found.unmade new.0) new.1))
repairs_asked place magic asked stamp bytes records found image (inr (inr repaired)) = inr (inr repaired)

-- where the disk is known, a log that ends there is brought about from the bytes that were read
abbrev pub BringsRead : {T E : Type 0} → ℕ → List ℕ → ReadState → ℕ → List Moment → Result T E → Type 0
BringsRead place magic read end new result = (m : Moment) (past : List Moment) → read.moments ≡ m ∷ past
    → BringsTo place magic (Repairs place magic (read_stamp read) m.reads) (IsAtRest magic (read_stamp read) end (take place m.reads) [] read.records) read.moments new result

pub brings_read : {T E : Type 0} (read : ReadState) (log : FoundLog) (new : List Moment) (result : Result T E) → found_stamp log ≡ read_stamp read → log.found.records.items ≡ read.records → IfKnown read.moments (IsAsFound read.place read.magic log)
    → ((bytes : List ℕ) → WasFound read.place read.magic bytes log → IsSynced bytes read.moments → BringsTo read.place read.magic (Repairs read.place read.magic (found_stamp log) bytes) (IsAtRest read.magic (found_stamp log) log.found.end (take read.place bytes) [] log.found.records.items) read.moments new result)
    → BringsRead read.place read.magic read log.found.end new result
brings_read read log new result stamp records inside brings m past is =
    let at = known_at (IsAsFound read.place read.magic log) read.moments past m is inside in
    subst (λ (s : Stamp). BringsTo read.place read.magic (Repairs read.place read.magic s m.reads) (IsAtRest read.magic s log.found.end (take read.place m.reads) [] read.records) read.moments new result) stamp
    (subst (λ (rs : List (List ℕ)). BringsTo read.place read.magic (Repairs read.place read.magic (found_stamp log) m.reads) (IsAtRest read.magic (found_stamp log) log.found.end (take read.place m.reads) [] rs) read.moments new result) records
    (brings m.reads at.1 (subst (λ (ms : List Moment). IsSynced m.reads ms) (sym is) at.0)))

module _ {T E : Type 0} (place : ℕ) (magic : List ℕ) (asked : Stamp) (read : ReadState) (end : ℕ) (new : List Moment) (result : Result T E) (unknown : read.moments ≡ [] → new ≡ []) where
  passed : (old : List Moment) → IsRead place magic asked old read → BringsRead place magic read end new result → IfKnown old (λ m. Goes (Leaves (Repairs place magic asked m.reads)) old new)
  passed [] is brings = tt
  passed (m ∷ past) is brings =
      let P : List ℕ → Type 0 = Repairs place magic asked m.reads in
      goes_on (Leaves P) (m ∷ past) read.moments new
      (synced m.reads ∷ [], is.synced, (λ image h. inl (image_of_synced m.reads image h), tt))
      (goes_map (Leaves (Repairs place magic (read_stamp read) m.reads)) (Leaves P) (λ n leaves image h. repairs_asked place magic asked (read_stamp read) m.reads read.records is.found image (leaves image h)) read.moments new
      (brings (synced m.reads) (m ∷ past) is.synced).passed)

  durable : (old : List Moment) → IsRead place magic asked old read → BringsRead place magic read end new result → LosesNoRecordAt place magic old new
  durable [] is brings = λ stamp records. ([], unknown is.synced, tt)
  durable (m ∷ past) is brings = λ stamp records. preserves_on (LeavesFrom place (HasAcknowledged magic stamp records)) (m ∷ past) read.moments new (is.durable stamp records) ((brings (synced m.reads) (m ∷ past) is.synced).durable stamp records)

  pub repaired_keeps : (old : List Moment) → IsRead place magic asked old read → BringsRead place magic read end new result → (before now : ℕ) → before ≤ now → KeepsLogAt place magic asked old new before now
  repaired_keeps old is brings before now later = record {
    survives = survives_through place magic asked old new (passed old is brings);
    durable = durable old is brings;
    later = later;
  }

module _ {T E : Type 0} (done : T) (place : ℕ) (magic : List ℕ) (asked : Stamp) (read : ReadState) (log : LogState) (unknown : read.moments ≡ [] → log.moments ≡ []) (stamp : stamp_of log ≡ read_stamp read) where
  stood : (old : List Moment) → IsRead place magic asked old read → BringsRead {T = T} {E = E} place magic read log.end log.moments (Ok done) → StandsOn place magic old log.moments
  stood [] is brings = λ other records. ([], unknown is.synced, tt)
  stood (m ∷ past) is brings = λ other records. preserves_on (λ n. Stands magic other records (drop place n.reads)) (m ∷ past) read.moments log.moments
      (sync_reads (λ image. Stands magic other records (drop place image)) (m ∷ past) read.moments is.synced) ((brings (synced m.reads) (m ∷ past) is.synced).stands other records)

  rested : (old : List Moment) → IsRead place magic asked old read → BringsRead {T = T} {E = E} place magic read log.end log.moments (Ok done) → IfKnown log.moments (IsAtRest magic (read_stamp read) log.end (front_at place old) [] read.records)
  rested [] is brings = subst (λ (ms : List Moment). IfKnown ms (IsAtRest magic (read_stamp read) log.end (front_at place []) [] read.records)) (sym (unknown is.synced)) tt
  rested (m ∷ past) is brings =
      subst (λ (front : List ℕ). IfKnown log.moments (IsAtRest magic (read_stamp read) log.end front [] read.records)) (sym (before_place place m past)) (brings (synced m.reads) (m ∷ past) is.synced).done

  -- a crash leaves its records
  spelled : (old : List Moment) → IsRead place magic asked old read → BringsRead {T = T} {E = E} place magic read log.end log.moments (Ok done) → (image : List ℕ) → images log.moments image → SpellsAt place image magic (read_stamp read) read.records
  spelled [] is brings image h = absurd (subst (λ (ms : List Moment). images ms image) (unknown is.synced) h)
  spelled (m ∷ past) is brings image h =
      subst (λ (n : ℕ). SpellsAt n image magic (read_stamp read) read.records) (sym (spelled_within place m.reads magic (read_stamp read) read.records is.found.spelled))
      (rest_spells magic (read_stamp read) log.end (take place m.reads) [] read.records log.moments (brings (synced m.reads) (m ∷ past) is.synced).done image h)

  pub repaired_opened : (old : List Moment) → IsRead place magic asked old read → BringsRead {T = T} {E = E} place magic read log.end log.moments (Ok done) → log.count ≡ length read.records → log.closed ≡ false → IsOpened place magic asked old log read.records
  repaired_opened old is brings counted running = record {
    found = subst (λ (s : Stamp). IfKnown old (λ m. IsFound place magic asked m.reads s read.records)) (sym stamp) is.found;
    rests = subst (λ (s : Stamp). IfKnown log.moments (IsAtRest magic s log.end (front_at place old) [] read.records)) (sym stamp) (rested old is brings);
    spelled = λ image h. subst (λ (s : Stamp). SpellsAt place image magic s read.records) (sym stamp) (spelled old is brings image h);
    stands = stood old is brings;
    counted = counted;
    running = running;
    readable = subst (λ (s : Stamp). IsUpTo asked.format s.format) (sym stamp) is.readable;
    unknown = λ none. unknown (is.synced ∙ ap (λ (ms : List Moment). added after_sync ms) none);
  }
