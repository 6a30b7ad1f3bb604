-- What an append makes of a log that stores a history.
use Rattle.std.proofs.Common.{◌≡◌, ℕ, ◌+◌, Bool, true, false, List, [], ◌∷◌, ◌++◌, length, drop, Option, Some, None, Result, Ok, Err, refl, sym, ap, subst, ◌∙◌, inl, inr, arith, length-append}
use Rattle.std.specs.Prelude.{IfSome}
use Rattle.wp_model.specs.declared.entry.Entry.{Entry}
use Rattle.wp_model.specs.declared.segment.Segment.{Segment}
use Rattle.wp_cuts.specs.Cut.{Cut}
use Rattle.wp_outside.specs.Disk.{Moment, IfKnown, Each, Passes}
use Rattle.wp_fields.specs.declared.format.Format.{Format}
use Rattle.wp_entry.specs.Record.{IsRecord, record_bytes}
use Rattle.wp_gatelog.specs.declared.log.AppendError.{AppendError}
use Rattle.wp_gatelog.specs.declared.log.AppendError.TheVariants.{DiskFault, Closed}
use Rattle.wp_gatelog.specs.Append.{Appends, AppendsAfter, FrameAppended, FrameRefused}
use Rattle.wp_gatelog.specs.Durability.{HasAcknowledged, LosesNoRecordAt}
use Rattle.wp_gatelog.specs.Log.{LogState, IsAtRest, BeforeOrAfter, stamp_of}
use Rattle.wp_gatelog.specs.Moments.{Leaves}
use Rattle.wp_gatelog.specs.Spelling.{Stamp, stamped, IsUpTo, SpellsAt}
use Rattle.wp_gatelog.proofs.AcknowledgedLemmas.{rest_acknowledged}
use Rattle.wp_gatelog.proofs.SurvivalLemmas.{rest_spells}
use Rattle.wp_wal.specs.Spelling.{MAGIC, NEWEST, AreCut, IsBegun, IsLogAt, IsLogOrNextAt, HasAcknowledgedCut, longer}
use Rattle.wp_wal.specs.Wal.{Reserved, reserved_of, WalState, wal_state, StoresCut, LeavesCut, LosesNothingAt, IsReserved, AppendsNext, Appended}
use Rattle.wp_wal.proofs.CutLemmas.{AreCut-push, begun-push}

-- ---- images

-- at rest, a crash leaves the cut
pub at_rest_leaves : (format : Format) (id end place : ℕ) (front dead : List ℕ) (records : List (List ℕ)) (c : Cut) (moments : List Moment) → IsUpTo NEWEST format → place ≡ length front → AreCut format place records c → IsBegun format records
    → IfKnown moments (IsAtRest MAGIC (stamped format id) end front dead records) → IfKnown moments (LeavesCut id place c)
at_rest_leaves format id end place front dead records c [] up begins spelled begun rests = tt
at_rest_leaves format id end place front dead records c (m ∷ past) up begins spelled begun rests = λ image is.
    let stamp : Stamp = stamped format id in
    let there : SpellsAt place image MAGIC stamp records =
    subst (λ (n : ℕ). SpellsAt n image MAGIC stamp records) (sym begins) (rest_spells MAGIC stamp end front dead records (m ∷ past) rests image is) in
    let has : HasAcknowledged MAGIC stamp records (drop place image) =
    subst (λ (n : ℕ). HasAcknowledged MAGIC stamp records (drop n image)) (sym begins) (rest_acknowledged MAGIC stamp end front dead records m rests image is) in
    ((format, records, up, there, spelled), (format, records, up, has, spelled, begun))

pub running_cut : (wal : WalState) (c : Cut) (next : List Entry) → StoresCut wal c next → wal.closed ≡ false → IfKnown wal.moments (LeavesCut wal.id wal.segment.place c)
running_cut wal c next stores running =
    at_rest_leaves wal.format wal.id wal.end wal.segment.place stores.front stores.dead stores.records c wal.moments stores.readable stores.begins stores.spelled stores.begun (stores.rests running)

-- ---- moments

pub each_other : (P Q : List ℕ → Type 0) (moments : List Moment) → ((image : List ℕ) → P image → Q image) → Each (Leaves P) moments → Each (Leaves Q) moments
each_other P Q [] implies each = tt
each_other P Q (m ∷ more) implies each = (λ image is. implies image (each.0 image is), each_other P Q more implies each.1)

pub known_other : (P Q : List ℕ → Type 0) (moments : List Moment) → ((image : List ℕ) → P image → Q image) → IfKnown moments (Leaves P) → IfKnown moments (Leaves Q)
known_other P Q [] implies known = tt
known_other P Q (m ∷ past) implies known = λ image is. implies image (known image is)

-- a stored cut is acknowledged, by an open log and by a closed one
pub stored_acknowledged : (wal : WalState) (c : Cut) (next : List Entry) → StoresCut wal c next → IfKnown wal.moments (Leaves (HasAcknowledgedCut wal.id wal.segment.place c))
stored_acknowledged wal c next stores = by wal.closed refl
  where
    by : (closed : Bool) → wal.closed ≡ closed → IfKnown wal.moments (Leaves (HasAcknowledgedCut wal.id wal.segment.place c))
    by true is = known_other (λ image. IsLogOrNextAt wal.id wal.segment.place c next image × HasAcknowledgedCut wal.id wal.segment.place c image) (HasAcknowledgedCut wal.id wal.segment.place c) wal.moments (λ image h. h.1) (stores.left is)
    by false is = known_other (λ image. IsLogAt wal.id wal.segment.place c image × HasAcknowledgedCut wal.id wal.segment.place c image) (HasAcknowledgedCut wal.id wal.segment.place c) wal.moments (λ image h. h.1) (running_cut wal c next stores is)

-- what each moment since then leaves, and that one too, the newest leaves
left_now : (P : List ℕ → Type 0) (old new : List Moment) → IfKnown old (Leaves P) → Passes (Leaves P) old new → IfKnown new (Leaves P)
left_now P old new before ([], is, each) = rw is before
left_now P old new before (m ∷ more, is, each) = rw is each.0

pub left_both : (P Q : List ℕ → Type 0) (old new : List Moment) → IfKnown old (Leaves (λ image. P image × Q image)) → Passes (Leaves P) old new → Passes (Leaves Q) old new → IfKnown new (Leaves (λ image. P image × Q image))
left_both P Q old new before ps qs =
    both new (left_now P old new (known_other (λ image. P image × Q image) P old (λ image h. h.0) before) ps) (left_now Q old new (known_other (λ image. P image × Q image) Q old (λ image h. h.1) before) qs)
  where
    both : (new : List Moment) → IfKnown new (Leaves P) → IfKnown new (Leaves Q) → IfKnown new (Leaves (λ image. P image × Q image))
    both [] p q = tt
    both (m ∷ past) p q = λ image is. (p image is, q image is)

-- ---- the record behind the cut

-- The bytes are the record of the next entries, which is reserved with their count.
record IsNext (format : Format) (c : Cut) (next : List Entry) (due : ℕ) (r : Reserved) : Type 0 where
  spelled : r.bytes ≡ record_bytes format (c.base + length c.entries + 1) next
  numbered : due ≡ c.base + length c.entries + 1
  counted : r.count ≡ length next
  is : IsRecord format (c.base + length c.entries + 1) next

next_reserved : (log : LogState) (segment : Segment) (due : ℕ) (reserved : Option Reserved) (r : Reserved) (c : Cut) (next : List Entry) → reserved ≡ Some r → IsReserved (wal_state log segment due reserved) c next → IsNext log.format c next due r
next_reserved log segment due reserved r c next there is =
    let numbered : due ≡ c.base + length c.entries + 1 = is.stores.numbered in
    let lies : reserved ≡ Some (reserved_of log.format due next) = is.reserved in
    let same : r ≡ reserved_of log.format due next = cc in
    record {
      spelled = ap (λ (s : Reserved). s.bytes) same ∙ ap (λ (n : ℕ). record_bytes log.format n next) numbered;
      numbered = numbered;
      counted = ap (λ (s : Reserved). s.count) same;
      is = subst (λ (n : ℕ). IsRecord log.format n next) numbered is.is;
    }

pub appended_reserved : (old new : LogState) (segment : Segment) (due : ℕ) (reserved : Option Reserved) (r : Reserved) → reserved ≡ Some r → FrameAppended old new r.bytes
    → IfSome reserved (Appended (wal_state old segment due reserved) (wal_state new segment (due + r.count) None))
appended_reserved old new segment due reserved r there appended =
    let grown : new.end ≡ old.end + (length r.bytes + 9) = ap (λ (s : LogState). s.end) appended.changed in
    let end : new.end ≡ old.end + length r.bytes + 9 = omega arith in
    let format : new.format ≡ old.format = ap (λ (s : LogState). s.format) appended.changed in
    let id : new.id ≡ old.id = ap (λ (s : LogState). s.id) appended.changed in
    let count : new.count ≡ old.count + 1 = ap (λ (s : LogState). s.count) appended.changed in
    let closed : new.closed ≡ old.closed = ap (λ (s : LogState). s.closed) appended.changed in
    let faults : new.faults ≡ old.faults = ap (λ (s : LogState). s.faults) appended.changed in
    rw there (record { was_open = appended.was_open; changed = rw (end, format, id, count, closed, faults) refl })

-- no record that was acknowledged at the log's place is lost
pub loses_nothing : (old new : List Moment) (place : ℕ) (front : List ℕ) → place ≡ length front → LosesNoRecordAt (length front) MAGIC old new → LosesNothingAt place old new
loses_nothing old new place front begins durable = subst (λ (n : ℕ). LosesNothingAt n old new) (sym begins) durable

module _ (old new : LogState) (segment : Segment) (due : ℕ) (reserved : Option Reserved) (r : Reserved) (there : reserved ≡ Some r) (c : Cut) (next : List Entry) (is : IsReserved (wal_state old segment due reserved) c next) where
  abbrev pub records : List (List ℕ)
  records = is.stores.records

  abbrev pub place : ℕ
  place = segment.place

  one : IsNext old.format c next due r
  one = next_reserved old segment due reserved r c next there is

  spelled_next : AreCut old.format place (records ++ r.bytes ∷ []) (longer c next)
  spelled_next =
      subst (λ (bytes : List ℕ). AreCut old.format place (records ++ bytes ∷ []) (longer c next)) (sym one.spelled) (AreCut-push old.format place records c next is.stores.spelled is.stores.begun one.is)

  -- before or after, an image spells the cut or it with the next entries
  grown : (image : List ℕ) → BeforeOrAfter (length is.stores.front) MAGIC (stamp_of old) records r.bytes image → IsLogOrNextAt old.id place c next image
  grown image h =
      let here = subst (λ (n : ℕ). BeforeOrAfter n MAGIC (stamp_of old) records r.bytes image) (sym is.stores.begins) h in
      elim here [
        | inl before ↦ inl (old.format, records, is.stores.readable, before, is.stores.spelled)
        | inr after ↦ inr (old.format, records ++ r.bytes ∷ [], is.stores.readable, after, spelled_next)
      ]

  has_cut : (image : List ℕ) → HasAcknowledged MAGIC (stamp_of old) records (drop (length is.stores.front) image) → HasAcknowledgedCut old.id place c image
  has_cut image h =
      (old.format, records, is.stores.readable, subst (λ (n : ℕ). HasAcknowledged MAGIC (stamp_of old) records (drop n image)) (sym is.stores.begins) h, is.stores.spelled, is.stores.begun)

  module _ {T E : Type 0} (result : Result T E) (appends : Appends r.bytes old new result) where
    abbrev after : AppendsAfter MAGIC is.stores.front is.stores.dead records r.bytes old new result
    after = appends MAGIC is.stores.front is.stores.dead records is.stores.rests

    passes : Passes (Leaves (IsLogOrNextAt old.id place c next)) old.moments new.moments
    passes =
        let passed = after.any_moment in
        (passed.0, passed.1, each_other (BeforeOrAfter (length is.stores.front) MAGIC (stamp_of old) records r.bytes) (IsLogOrNextAt old.id place c next) passed.0 grown passed.2)

    acknowledges : Passes (Leaves (HasAcknowledgedCut old.id place c)) old.moments new.moments
    acknowledges =
        let passed = after.acknowledged in
        (passed.0, passed.1, each_other (λ image. HasAcknowledged MAGIC (stamp_of old) records (drop (length is.stores.front) image)) (HasAcknowledgedCut old.id place c) passed.0 has_cut passed.2)

  pub appends_next : {T U E F : Type 0} (x : T) (y : U) → FrameAppended old new r.bytes → Appends {E = E} r.bytes old new (Ok x)
      → AppendsNext {E = F} c next (wal_state old segment due reserved) (wal_state new segment (due + r.count) None) (Ok y)
  appends_next x y appended appends =
      let count : new.count ≡ old.count + 1 = ap (λ (s : LogState). s.count) appended.changed in
      let before : old.count ≡ length records = is.stores.counted in
      let running : new.closed ≡ old.closed = ap (λ (s : LogState). s.closed) appended.changed in
      let version : new.format ≡ old.format = ap (λ (s : LogState). s.format) appended.changed in
      let was_open = appended.was_open in
      record {
        any_moment = passes (Ok x) appends;
        acknowledged = acknowledges (Ok x) appends;
        stores = record {
          records = records ++ r.bytes ∷ [];
          front = is.stores.front;
          dead = drop (length r.bytes + 9) is.stores.dead;
          readable = subst (IsUpTo NEWEST) (sym version) is.stores.readable;
          begins = is.stores.begins;
          spelled = subst (λ (f : Format). AreCut f place (records ++ r.bytes ∷ []) (longer c next)) (sym version) spelled_next;
          begun = begun-push new.format records r.bytes;
          counted = omega (arith, count, before, length-append records (r.bytes ∷ []));
          based = is.stores.based;
          numbered = omega (arith, one.numbered, one.counted, length-append c.entries next);
          rests = λ _. (after (Ok x) appends).rests;
          left = λ closed. absurd cc;
        };
        refused = tt;
      }

  stores_failed : {T : Type 0} → FrameRefused old new DiskFault → Appends {T = T} {E = AppendError} r.bytes old new (Err DiskFault) → StoresCut (wal_state new segment due None) c next
  stores_failed refuses appends =
      let before = known_other (λ image. IsLogAt old.id place c image × HasAcknowledgedCut old.id place c image) (λ image. IsLogOrNextAt old.id place c next image × HasAcknowledgedCut old.id place c image) old.moments
      (λ image h. (inl h.0, h.1)) (running_cut (wal_state old segment due reserved) c [] is.stores is.running) in
      let same : new.id ≡ old.id = ap (λ (s : LogState). s.id) refuses.2 in
      let version : new.format ≡ old.format = ap (λ (s : LogState). s.format) refuses.2 in
      let closed : new.closed ≡ true = ap (λ (s : LogState). s.closed) refuses.2 in
      let count : new.count ≡ old.count = ap (λ (s : LogState). s.count) refuses.2 in
      record {
        records = records;
        front = is.stores.front;
        dead = is.stores.dead;
        readable = subst (IsUpTo NEWEST) (sym version) is.stores.readable;
        begins = is.stores.begins;
        spelled = subst (λ (f : Format). AreCut f place records c) (sym version) is.stores.spelled;
        begun = subst (λ (f : Format). IsBegun f records) (sym version) is.stores.begun;
        counted = count ∙ is.stores.counted;
        based = is.stores.based;
        numbered = is.stores.numbered;
        rests = λ reopened. absurd cc;
        left = λ _. rw same (left_both (IsLogOrNextAt old.id place c next) (HasAcknowledgedCut old.id place c) old.moments new.moments before (passes (Err DiskFault) appends) (acknowledges (Err DiskFault) appends));
      }

  pub refuses_next : {T U F : Type 0} (why : AppendError) (e : F) → FrameRefused old new why → Appends {T = T} r.bytes old new (Err why)
      → AppendsNext {T = U} c next (wal_state old segment due reserved) (wal_state new segment due None) (Err e)
  refuses_next DiskFault e refuses appends = record {
    any_moment = passes (Err DiskFault) appends;
    acknowledged = acknowledges (Err DiskFault) appends;
    stores = tt;
    refused = stores_failed refuses appends;
  }
  refuses_next (Closed n) e refuses appends =
      let shut : old.closed ≡ true = refuses.0 in
      let running : old.closed ≡ false = is.running in
      absurd cc
