-- What becomes of a log while another segment is written beside it, and of that one.
use Rattle.std.proofs.Common.{◌≡◌, ◌≢◌, ℕ, ◌+◌, ◌<◌, ◌≤◌, true, false, List, [], ◌∷◌, ◌++◌, length, drop, replicate, Option, None, Some, Result, Ok, Err, refl, sym, ap, subst, ◌∙◌, inl, inr, arith, length-append}
use Rattle.std.proofs.lemmas.List.{length-replicate}
use Rattle.wp_model.specs.declared.entry.Entry.{Entry}
use Rattle.wp_model.specs.declared.segment.Segment.{Segment}
use Rattle.wp_cuts.specs.Cut.{Cut}
use Rattle.wp_outside.specs.Disk.{Moment, IfKnown, Passes}
use Rattle.wp_fields.specs.declared.format.Format.{Format}
use Rattle.wp_fields.specs.declared.format.Format.TheVariants.{Two}
use Rattle.wp_entry.specs.Base.{Base, IsBase, base_bytes}
use Rattle.wp_gatelog.specs.declared.log.AppendError.{AppendError}
use Rattle.wp_gatelog.specs.declared.log.AppendError.TheVariants.{DiskFault, Closed}
use Rattle.wp_gatelog.specs.Append.{FrameRefused}
use Rattle.wp_gatelog.specs.Beside.{AreDead, BothRest, IsAtRestAt, IsNoneOrWhole, IsWholeLog, Writes, WritesBeside}
use Rattle.wp_gatelog.specs.Durability.{HasAcknowledged}
use Rattle.wp_gatelog.specs.Log.{IsAtRest, LogState, stamp_of}
use Rattle.wp_gatelog.specs.Moments.{Leaves}
use Rattle.wp_gatelog.specs.Spelling.{Stamp, stamped, IsUpTo, Spells, SpellsAt, log_of}
use Rattle.wp_wal.specs.Segment.{IsBeside, IsEndFor, IsNoneOrLog, IsPlaceFor, NewSegmentState, SurvivesBeside, WrittenState, cut_behind}
use Rattle.wp_wal.specs.Spelling.{MAGIC, NEWEST, AreCut, IsBegun, IsLogAt, IsLogOrNextAt, HasAcknowledgedCut, base_of_cut}
use Rattle.wp_wal.specs.Wal.{HasNumbers, LeavesCut, LosesNothingAt, Reserved, StoresCut, WalState, wal_state}
use Rattle.wp_wal.proofs.AppendLemmas.{at_rest_leaves, each_other, known_other, left_both, loses_nothing, running_cut}

-- ---- a log at rest

-- a disk ends with the dead bytes behind the gate that ends the log
rest_long : (stamp : Stamp) (end : ℕ) (front dead : List ℕ) (records : List (List ℕ)) (m : Moment) → IsAtRest MAGIC stamp end front dead records m → length m.reads ≡ end + 1 + length dead
rest_long stamp end front dead records m rest =
    let log : List ℕ = log_of MAGIC stamp 1 rest.gated in
    let reads : m.reads ≡ front ++ (log ++ 0 ∷ dead) = ap (λ (n : Moment). n.reads) rest.on_disk in
    omega (arith, ap (λ (xs : List ℕ). length xs) reads, length-append front (log ++ 0 ∷ dead), length-append log (0 ∷ dead), rest.place)

rest_begins : (stamp : Stamp) (end : ℕ) (front dead : List ℕ) (records : List (List ℕ)) (m : Moment) → IsAtRest MAGIC stamp end front dead records m → length front ≤ end
rest_begins stamp end front dead records m rest = let place = rest.place in omega (arith, place)

-- a segment without entries that is at rest leaves its cut
base_spelled : (place : ℕ) (c : Cut) → IsBase (base_of_cut c) → c.entries ≡ [] → AreCut Two place (base_bytes (base_of_cut c) ∷ []) c
base_spelled place c is none = (is, refl, none)

-- what spells its base alone
pub spells_base : (id : ℕ) (base : Base) (image : List ℕ) → IsBase base → Spells image MAGIC (stamped Two id) (base_bytes base ∷ []) → IsLogAt id 0 (cut_behind base) image
spells_base id base image is h = (Two, base_bytes base ∷ [], omega arith, h, base_spelled 0 (cut_behind base) is refl)

pub none_or_base : (id : ℕ) (base : Base) (image : List ℕ) → IsBase base → IsNoneOrWhole MAGIC (stamped Two id) (base_bytes base ∷ []) image → IsNoneOrLog id base image
none_or_base id base image is (inl unmade) = inl unmade
none_or_base id base image is (inr h) = inr (spells_base id base image is h)

some_first : (r : List ℕ) (records : List (List ℕ)) → r ∷ records ≢ []
some_first r records e = cc e

pub beside_leaves : (id end place : ℕ) (c : Cut) (moments : List Moment) → IsBase (base_of_cut c) → c.entries ≡ [] → IfKnown moments (IsAtRestAt place MAGIC (stamped Two id) end (base_bytes (base_of_cut c) ∷ []))
    → IfKnown moments (LeavesCut id place c)
beside_leaves id end place c [] is none rests = tt
beside_leaves id end place c (m ∷ past) is none rests =
    at_rest_leaves Two id end place rests.front rests.dead (base_bytes (base_of_cut c) ∷ []) c (m ∷ past) (omega arith) rests.begins (base_spelled place c is none) (some_first (base_bytes (base_of_cut c)) []) rests.rests

-- ---- a place that is dead

-- the bytes are dead to the log that is stored
dead_there : (used size place end : ℕ) (stamp : Stamp) (front dead : List ℕ) (records : List (List ℕ)) (moments : List Moment) → used ≡ length front → IsPlaceFor used size place → IsEndFor used size moments place
    → IfKnown moments (IsAtRest MAGIC stamp end front dead records) → IfKnown moments (λ m. AreDead place size end front dead)
dead_there used size place end stamp front dead records [] begins is at rests = tt
dead_there used size place end stamp front dead records (m ∷ past) begins (inl here) at rests = let fits = here.0 in let none = here.1 in inl (omega (arith, fits, none, begins))
dead_there used size place end stamp front dead records (m ∷ past) begins (inr behind) at rests =
    let long = rest_long stamp end front dead records m rests in
    let from = rest_begins stamp end front dead records m rests in
    let last : place ≡ length m.reads = at behind.0 (omega (arith, long, from, begins)) in
    inr (omega (arith, last, long), omega (arith, last, long))

-- ... and begin at the disk's end, but where 0 will do
ends_there : (used size place end : ℕ) (stamp : Stamp) (front dead : List ℕ) (records : List (List ℕ)) (moments : List Moment) → used ≡ length front → IsEndFor used size moments place → IfKnown moments (IsAtRest MAGIC stamp end front dead records)
    → used < size → IfKnown moments (λ m. place ≡ length m.reads)
ends_there used size place end stamp front dead records [] begins at rests large = tt
ends_there used size place end stamp front dead records (m ∷ past) begins at rests large =
    let long = rest_long stamp end front dead records m rests in
    let from = rest_begins stamp end front dead records m rests in
    at large (omega (arith, long, from, begins))

-- its length was told
pub end_low : (used size len place : ℕ) (moments : List Moment) → len ≤ used → IfKnown moments (λ m. len ≡ length m.reads) → IsEndFor used size moments place
end_low used size len place [] low known large = tt
end_low used size len place (m ∷ past) low known large = λ inside. absurd (omega (arith, low, known, inside))

pub end_at : (used size len : ℕ) (moments : List Moment) → IfKnown moments (λ m. len ≡ length m.reads) → IsEndFor used size moments len
end_at used size len [] known large = tt
end_at used size len (m ∷ past) known large = λ inside. known

-- the two places differ
pub places_differ : (used size place : ℕ) → 2 ≤ size → IsPlaceFor used size place → place ≢ used
places_differ used size place some (inl here) same = let fits = here.0 in let none = here.1 in absurd (omega (arith, some, fits, none, same))
places_differ used size place some (inr behind) same = let above = behind.1 in absurd (omega (arith, above, same))

-- ---- the log in use

-- what is reserved is no part of what is stored
stores_same : (log : LogState) (segment : Segment) (due : ℕ) (reserved also : Option Reserved) (c : Cut) → StoresCut (wal_state log segment due reserved) c [] → StoresCut (wal_state log segment due also) c []
stores_same log segment due reserved also c stores = record {
  records = stores.records;
  front = stores.front;
  dead = stores.dead;
  readable = stores.readable;
  begins = stores.begins;
  spelled = stores.spelled;
  begun = stores.begun;
  counted = stores.counted;
  based = stores.based;
  numbered = stores.numbered;
  rests = stores.rests;
  left = stores.left;
}

module _ (old : LogState) (segment : Segment) (due : ℕ) (reserved : Option Reserved) (c : Cut) (stores : StoresCut (wal_state old segment due reserved) c []) where
  abbrev pub place : ℕ
  place = segment.place

  -- an image that spells the records of the log spells the cut
  spelled : (image : List ℕ) → SpellsAt (length stores.front) image MAGIC (stamp_of old) stores.records → IsLogAt old.id place c image
  spelled image h = (old.format, stores.records, stores.readable, subst (λ (n : ℕ). SpellsAt n image MAGIC (stamp_of old) stores.records) (sym stores.begins) h, stores.spelled)

  has_cut : (image : List ℕ) → HasAcknowledged MAGIC (stamp_of old) stores.records (drop (length stores.front) image) → HasAcknowledgedCut old.id place c image
  has_cut image h = (old.format, stores.records, stores.readable, subst (λ (n : ℕ). HasAcknowledged MAGIC (stamp_of old) stores.records (drop n image)) (sym stores.begins) h, stores.spelled, stores.begun)

  -- After a fault it is closed, and a crash leaves it as it was.
  stopped : (new : LogState) → FrameRefused old new DiskFault → Passes (Leaves (IsLogAt old.id place c)) old.moments new.moments → Passes (Leaves (HasAcknowledgedCut old.id place c)) old.moments new.moments
      → StoresCut (wal_state new segment due None) c []
  stopped new (running, rose, changed) passes acknowledged =
      let version : new.format ≡ old.format = ap (λ (s : LogState). s.format) changed in
      let same : new.id ≡ old.id = ap (λ (s : LogState). s.id) changed in
      let count : new.count ≡ old.count = ap (λ (s : LogState). s.count) changed in
      let closed : new.closed ≡ true = ap (λ (s : LogState). s.closed) changed in
      let before = known_other (λ image. IsLogAt old.id place c image × HasAcknowledgedCut old.id place c image) (λ image. IsLogOrNextAt old.id place c [] image × HasAcknowledgedCut old.id place c image) old.moments
      (λ image h. (inl h.0, h.1)) (running_cut (wal_state old segment due reserved) c [] stores running) in
      let through : Passes (Leaves (IsLogOrNextAt old.id place c [])) old.moments new.moments = (passes.0, passes.1, each_other (IsLogAt old.id place c) (IsLogOrNextAt old.id place c []) passes.0 (λ image h. inl h) passes.2) in
      record {
        records = stores.records;
        front = stores.front;
        dead = stores.dead;
        readable = subst (IsUpTo NEWEST) (sym version) stores.readable;
        begins = stores.begins;
        spelled = subst (λ (f : Format). AreCut f place stores.records c) (sym version) stores.spelled;
        begun = subst (λ (f : Format). IsBegun f stores.records) (sym version) stores.begun;
        counted = count ∙ stores.counted;
        based = stores.based;
        numbered = stores.numbered;
        rests = λ reopened. absurd cc;
        left = λ _. rw same (left_both (IsLogOrNextAt old.id place c []) (HasAcknowledgedCut old.id place c) old.moments new.moments before through acknowledged);
      }

  -- it stays as it is, if it is at rest between other bytes too
  still_there : (new : LogState) → new ≡ record old { moments = new.moments } → (front dead : List ℕ) → place ≡ length front → IfKnown new.moments (IsAtRest MAGIC (stamp_of old) old.end front dead stores.records) → old.closed ≡ false
      → StoresCut (wal_state new segment due None) c []
  still_there new changed front dead begins rests running =
      let version : new.format ≡ old.format = ap (λ (s : LogState). s.format) changed in
      let same : new.id ≡ old.id = ap (λ (s : LogState). s.id) changed in
      let count : new.count ≡ old.count = ap (λ (s : LogState). s.count) changed in
      let end : new.end ≡ old.end = ap (λ (s : LogState). s.end) changed in
      let closed : new.closed ≡ old.closed = ap (λ (s : LogState). s.closed) changed in
      record {
        records = stores.records;
        front = front;
        dead = dead;
        readable = subst (IsUpTo NEWEST) (sym version) stores.readable;
        begins = begins;
        spelled = subst (λ (f : Format). AreCut f place stores.records c) (sym version) stores.spelled;
        begun = subst (λ (f : Format). IsBegun f stores.records) (sym version) stores.begun;
        counted = count ∙ stores.counted;
        based = stores.based;
        numbered = stores.numbered;
        rests = λ _. rw (version, same, end) rests;
        left = λ shut. absurd cc;
      }

  -- ---- a refusal

  -- nothing was written
  pub refused_before : (mid : LogState) (why : AppendError) (new : NewSegmentState) → FrameRefused old mid why → mid.moments ≡ old.moments
      → SurvivesBeside {E = AppendError} c new (wal_state old segment due reserved) (wal_state mid segment due None) (Err why)
  refused_before mid why new refused same = record {
    any_moment = ([], same, tt);
    durable = λ stamp records. ([], same, tt);
    beside = tt;
    still = tt;
    place = tt;
    refused = by why refused;
  }
    where
      by : (w : AppendError) → FrameRefused old mid w → StoresCut (wal_state mid segment due None) c []
      by DiskFault is = stopped mid is ([], same, tt) ([], same, tt)
      by (Closed n) is = subst (λ (s : LogState). StoresCut (wal_state s segment due None) c []) (sym is.2) (stores_same old segment due reserved None c stores)

  -- ---- what was written

  module _ (new : LogState) (at : ℕ) (base : Base) (bytes : List ℕ) (is : IsPlaceFor place (length bytes) at) (end : IsEndFor place (length bytes) old.moments at) where
    abbrev pub written : NewSegmentState
    written = record { base = base; bytes = bytes }

    writes_beside : {T E : Type 0} (result : Result T E) → old.closed ≡ false → Writes at bytes old new result → WritesBeside at bytes MAGIC stores.front stores.dead stores.records old new result
    writes_beside result running writes =
        writes MAGIC stores.front stores.dead stores.records running (stores.rests running)
        (dead_there place (length bytes) at old.end (stamp_of old) stores.front stores.dead stores.records old.moments stores.begins is end (stores.rests running))

    module _ {T E : Type 0} (result : Result T E) (beside : WritesBeside at bytes MAGIC stores.front stores.dead stores.records old new result) where
      passes : Passes (Leaves (IsLogAt old.id place c)) old.moments new.moments
      passes =
          let passed = beside.any_moment in
          (passed.0, passed.1, each_other (λ image. SpellsAt (length stores.front) image MAGIC (stamp_of old) stores.records) (IsLogAt old.id place c) passed.0 spelled passed.2)

      acknowledges : Passes (Leaves (HasAcknowledgedCut old.id place c)) old.moments new.moments
      acknowledges =
          let passed = beside.acknowledged in
          (passed.0, passed.1, each_other (λ image. HasAcknowledged MAGIC (stamp_of old) stores.records (drop (length stores.front) image)) (HasAcknowledgedCut old.id place c) passed.0 has_cut passed.2)

      keeps_records : LosesNothingAt place old.moments new.moments
      keeps_records = loses_nothing old.moments new.moments place stores.front stores.begins beside.durable

    -- the disk failed, or the log was closed
    pub refused_writing : {T : Type 0} (why : AppendError) → FrameRefused old new why → Writes {T = T} {E = AppendError} at bytes old new (Err why)
        → SurvivesBeside {E = AppendError} c written (wal_state old segment due reserved) (wal_state new segment due None) (Err why)
    refused_writing DiskFault refused writes =
        let beside = writes_beside (Err DiskFault) refused.0 writes in
        record {
          any_moment = passes (Err DiskFault) beside;
          durable = keeps_records (Err DiskFault) beside;
          beside = tt;
          still = tt;
          place = tt;
          refused = stopped new refused (passes (Err DiskFault) beside) (acknowledges (Err DiskFault) beside);
        }
    refused_writing (Closed n) refused writes = refused_before new (Closed n) written refused (ap (λ (s : LogState). s.moments) refused.2)

    -- it stands beside the log in use
    pub survives_beside : {T E F : Type 0} (x : T) (w : WrittenState) → old.closed ≡ false → new ≡ record old { moments = new.moments } → Writes {E = E} at bytes old new (Ok x)
        → IsBase base → IsWholeLog MAGIC (stamped Two old.id) (base_bytes base ∷ []) bytes → w.segment.place ≡ at → w.segment.base ≡ base.number → w.end + 1 ≡ at + length bytes → at ≢ place
        → SurvivesBeside {E = F} c written (wal_state old segment due reserved) (wal_state new segment due None) (Ok w)
    survives_beside x w running changed writes is_base whole there based ends apart =
        let same : new.id ≡ old.id = ap (λ (s : LogState). s.id) changed in
        let beside = writes_beside (Ok x) running writes in
        let rests : IfKnown new.moments (IsAtRestAt w.segment.place MAGIC (stamped Two new.id) w.end (base_bytes base ∷ [])) = rw (same, there) (known_rests new.moments beside.rest whole w.end ends) in
        record {
          any_moment = passes (Ok x) beside;
          durable = keeps_records (Ok x) beside;
          beside = record {
            is = is_base;
            based = based;
            nothing = refl;
            apart = λ e. apart (sym there ∙ e);
            rests = rests;
            left = beside_leaves new.id w.end w.segment.place (cut_behind base) new.moments is_base refl rests;
          };
          still = stands new.moments refl changed running beside.rest;
          place = subst (λ (n : ℕ). place < length bytes → IfKnown old.moments (λ m. n ≡ length m.reads)) (sym there)
              (ends_there place (length bytes) at old.end (stamp_of old) stores.front stores.dead stores.records old.moments stores.begins end (stores.rests running));
          refused = tt;
        }
      where
        known_rests : (ms : List Moment) → IfKnown ms (BothRest at bytes (length stores.front) MAGIC (stamp_of old) old.end stores.records) → IsWholeLog MAGIC (stamped Two old.id) (base_bytes base ∷ []) bytes → (last : ℕ) → last + 1 ≡ at + length bytes
            → IfKnown ms (IsAtRestAt at MAGIC (stamped Two old.id) last (base_bytes base ∷ []))
        known_rests [] both whole_log last far = tt
        known_rests (m ∷ past) both whole_log last far = both.written MAGIC (stamped Two old.id) last (base_bytes base ∷ []) whole_log far

        stands : (ms : List Moment) → new.moments ≡ ms → new ≡ record old { moments = new.moments } → old.closed ≡ false → IfKnown new.moments (BothRest at bytes (length stores.front) MAGIC (stamp_of old) old.end stores.records)
            → StoresCut (wal_state new segment due None) c []
        stands [] none changed running both = still_there new changed stores.front stores.dead stores.begins (rw none tt) running
        stands (m ∷ past) known changed running both =
            let at_rest = rw known at both in
            let it = at_rest.still in
            still_there new changed it.front it.dead (stores.begins ∙ it.begins) (rw known it.rests) running

-- ---- the segment comes into use

abbrev pub in_use : WalState → WrittenState → WalState
in_use old w = record old { format = Two; end = w.end; count = 1; segment = w.segment; reserved = None }

used_between : (old : WalState) (c : Cut) (w : WrittenState) (front dead : List ℕ) → IsBeside old c w → old.due ≡ w.segment.base + 1 → w.segment.place ≡ length front
    → IfKnown old.moments (IsAtRest MAGIC (stamped Two old.id) w.end front dead (base_bytes (base_of_cut c) ∷ [])) → StoresCut (in_use old w) c []
used_between old c w front dead beside due begins rests = record {
  records = base_bytes (base_of_cut c) ∷ [];
  front = front;
  dead = dead;
  readable = omega arith;
  begins = begins;
  spelled = base_spelled w.segment.place c beside.is beside.nothing;
  begun = some_first (base_bytes (base_of_cut c)) [];
  counted = refl;
  based = sym beside.based;
  numbered = omega (arith, due, beside.based, ap (λ (es : List Entry). length es) beside.nothing);
  rests = λ _. rests;
  left = λ _. known_other (λ image. IsLogAt old.id w.segment.place c image × HasAcknowledgedCut old.id w.segment.place c image) (λ image. IsLogOrNextAt old.id w.segment.place c [] image × HasAcknowledgedCut old.id w.segment.place c image) old.moments
      (λ image h. (inl h.0, h.1)) beside.left;
}

pub comes_into_use : (old new : WalState) (c : Cut) (w : WrittenState) → IsBeside old c w → old.due ≡ w.segment.base + 1 → new ≡ in_use old w → StoresCut new c []
comes_into_use old new c w beside due is = subst (λ (wal : WalState). StoresCut wal c []) (sym is) (by old.moments refl)
  where
    by : (ms : List Moment) → old.moments ≡ ms → StoresCut (in_use old w) c []
    by [] none = used_between old c w (replicate w.segment.place 0) [] beside due (sym (length-replicate w.segment.place 0)) (rw none tt)
    by (m ∷ past) known = let it = rw known at beside.rests in used_between old c w it.front it.dead beside due it.begins (rw known it.rests)

-- ---- its numbers

pub numbers_free : (format : Format) (due : ℕ) (reserved : Option Reserved) → HasNumbers format due reserved → HasNumbers format due None
numbers_free format due None has = has
numbers_free format due (Some r) has = omega (arith, has)

-- ---- its bytes

pub whole_bytes : (stamp : Stamp) (records : List (List ℕ)) (bytes : List ℕ) → IsWholeLog MAGIC stamp records bytes → 2 ≤ length bytes
whole_bytes stamp records bytes whole =
    let is = whole.spelling in
    omega (arith, ap (λ (xs : List ℕ). length xs) is, length-append (log_of MAGIC stamp 1 whole.gated) (0 ∷ []))
