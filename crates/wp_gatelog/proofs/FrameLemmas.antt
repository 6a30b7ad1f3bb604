-- A frame is appended, call by call.
use Rattle.std.proofs.Common.{◌≡◌, inl, ℕ, ◌+◌, ◌<◌, ◌^◌, false, List, [], ◌∷◌, ◌++◌, length, drop, Result, Ok, Err, refl, sym, ◌∙◌, ap, subst}
use Rattle.wp_outside.specs.Disk.{Moment, IsImage, IfKnown, synced, after_write}
use Rattle.wp_gatelog.specs.Append.{Appends}
use Rattle.wp_gatelog.specs.Changes.{Steps, BringsTo}
use Rattle.wp_gatelog.specs.Log.{LogState, Rests, BeforeOrAfter, IsAtRest, stamp_of}
use Rattle.wp_gatelog.specs.Moments.{IsSynced}
use Rattle.wp_gatelog.specs.Spelling.{Stamp, frame_of, log_of}
use Rattle.wp_gatelog.specs.Stands.{Stands}
use Rattle.wp_gatelog.proofs.AcknowledgedLemmas.{spares_frame, spares_gate, acknowledged_passes}
use Rattle.wp_gatelog.proofs.AppendLemmas.{grows_staged, reads_staged, grows_opened, at_rest_more}
use Rattle.wp_gatelog.proofs.ChangeLemmas.{brings_of}
use Rattle.wp_gatelog.proofs.FramedLemmas.{length-frame_of}
use Rattle.wp_gatelog.proofs.MomentLemmas.{put_gate}
use Rattle.wp_gatelog.proofs.StandLemmas.{stands_behind, stands_gate}
use Rattle.wp_gatelog.proofs.SurvivalLemmas.{before_or_after, goes_passes, left_before_or_after, rest_spells}

module _ (magic : List ℕ) (stamp : Stamp) (end : ℕ) (front dead : List ℕ) (records : List (List ℕ)) (frame bytes : List ℕ) (is : frame ≡ frame_of bytes) (m : Moment) (rest : IsAtRest magic stamp end front dead records m) where
  -- the dead bytes behind the frame
  abbrev behind : List ℕ
  behind = drop (length bytes + 9) dead

  abbrev log : List ℕ
  log = log_of magic stamp 1 rest.gated

  -- the frame is written after the closed gate, over the first dead bytes
  pub brings_frame : {T E : Type 0} (old new : List Moment) (result : Result T E) → Steps front (after_write (length log + 1) frame) (log ++ 0 ∷ dead) old new result
      → BringsTo (length front) magic (BeforeOrAfter (length front) magic stamp records bytes) (λ m. m ≡ synced (front ++ (log ++ 0 ∷ (frame_of bytes ++ behind)))) old new result
  brings_frame old new result steps =
      let place : ℕ = length front in
      let at : ℕ = length log + 1 in
      let stepped : Moment = after_write at frame (synced (log ++ 0 ∷ dead)) in
      let size : length frame ≡ length bytes + 9 = ap length is ∙ length-frame_of bytes in
      brings_of front magic (IsImage stepped) (BeforeOrAfter place magic stamp records bytes) (λ n. n ≡ synced (front ++ (log ++ 0 ∷ (frame_of bytes ++ behind)))) (log ++ 0 ∷ dead) stepped.reads old new result
      (λ other others. spares_frame magic other stamp others rest.gated dead at frame rest.acknowledged.gates_open refl)
      (λ other others has. subst (Stands magic other others) (sym (reads_staged log dead frame at refl))
      (stands_behind magic stamp 1 rest.gated (λ e. cc e) rest.acknowledged.gates_open other others dead (frame ++ drop (length frame) dead) has))
      (λ image h. before_or_after place magic stamp records bytes rest.gated rest.acknowledged image (grows_staged log dead frame bytes at refl (drop place image) h))
      (λ n on. on ∙ ap (λ (l : List ℕ). synced (front ++ l)) (reads_staged log dead frame at refl ∙ ap (λ (l : List ℕ). log ++ 0 ∷ (l ++ drop (length frame) dead)) is
      ∙ ap (λ (k : ℕ). log ++ 0 ∷ (frame_of bytes ++ drop k dead)) size)) steps

  -- that gate is opened
  pub brings_gate : {T E : Type 0} → length bytes < 2 ^ 64 → (old new : List Moment) (result : Result T E) → Steps front (after_write (length log) (1 ∷ [])) (log ++ 0 ∷ (frame_of bytes ++ behind)) old new result
      → BringsTo (length front) magic (BeforeOrAfter (length front) magic stamp records bytes) (IsAtRest magic stamp (end + (length bytes + 9)) front behind (records ++ bytes ∷ [])) old new result
  brings_gate fits old new result steps =
      let place : ℕ = length front in
      let at : ℕ = length log in
      let stepped : Moment = after_write at (1 ∷ []) (synced (log ++ 0 ∷ (frame_of bytes ++ behind))) in
      brings_of front magic (IsImage stepped) (BeforeOrAfter place magic stamp records bytes) (IsAtRest magic stamp (end + (length bytes + 9)) front behind (records ++ bytes ∷ [])) (log ++ 0 ∷ (frame_of bytes ++ behind)) stepped.reads old new result
      (λ other others. spares_gate magic other stamp others rest.gated at (frame_of bytes ++ behind) rest.acknowledged.gates_open refl)
      (λ other others has. subst (Stands magic other others) (sym (put_gate log 0 (frame_of bytes ++ behind) at refl)) (stands_gate magic stamp 1 rest.gated (λ e. cc e) rest.acknowledged.gates_open other others 0 (frame_of bytes ++ behind) has))
      (λ image h. before_or_after place magic stamp records bytes rest.gated rest.acknowledged image (grows_opened log bytes behind at 0 refl fits (drop place image) h))
      (λ n on. at_rest_more magic stamp end front records bytes behind fits rest.gated rest.acknowledged rest.place n (on ∙ ap (λ (l : List ℕ). synced (front ++ l)) (put_gate log 0 (frame_of bytes ++ behind) at refl))) steps

-- where the log's disk is known, it has just the log and the bytes around it, synced
pub rest_synced : (magic : List ℕ) (stamp : Stamp) (end : ℕ) (front dead : List ℕ) (records : List (List ℕ)) (m : Moment) (past old : List Moment) → old ≡ m ∷ past → (rest : IsAtRest magic stamp end front dead records m)
    → IsSynced (front ++ (log_of magic stamp 1 rest.gated ++ 0 ∷ dead)) old
rest_synced magic stamp end front dead records m past old is rest =
    subst (IsSynced (front ++ (log_of magic stamp 1 rest.gated ++ 0 ∷ dead))) (sym is) rest.on_disk

-- ---- an append

-- the frame of these bytes was written, or the disk failed while it was
abbrev pub BringsFrame : {T E : Type 0} → List ℕ → ℕ → List Moment → List Moment → Result T E → Type 0
BringsFrame bytes end old new result = (magic : List ℕ) (stamp : Stamp) (front dead : List ℕ) (records : List (List ℕ)) → IfKnown old (IsAtRest magic stamp end front dead records)
    → BringsTo (length front) magic (BeforeOrAfter (length front) magic stamp records bytes) (IsAtRest magic stamp (end + (length bytes + 9)) front (drop (length bytes + 9) dead) (records ++ bytes ∷ [])) old new result

module _ {T E U F : Type 0} (bytes : List ℕ) (old new : LogState) (running : old.closed ≡ false) where
  pub appends_more : (x : T) (y : U) → new.format ≡ old.format → new.id ≡ old.id → new.end ≡ old.end + (length bytes + 9) → BringsFrame {E = E} bytes old.end old.moments new.moments (Ok x) → Appends {E = F} bytes old new (Ok y)
  appends_more x y format_is id_is end_is brings = λ magic front dead records rests.
      let rest = rests running in
      let b = brings magic (stamp_of old) front dead records rest in
      let passed = goes_passes _ old.moments new.moments b.passed in
      let rested : Rests magic new front (drop (length bytes + 9) dead) (records ++ bytes ∷ []) = rw (format_is, id_is, end_is) b.done in
      record {
        any_moment = passed;
        left = λ _. left_before_or_after magic (stamp_of old) old.end front dead records bytes old.moments new.moments rest passed;
        durable = b.durable;
        acknowledged = acknowledged_passes magic (stamp_of old) old.end front dead records old.moments new.moments rest b.durable;
        rests = rested;
        spelled = rest_spells magic (stamp_of new) new.end front (drop (length bytes + 9) dead) (records ++ bytes ∷ []) new.moments rested;
        stands = b.stands;
      }

  pub appends_failed : (result : Result T E) (e : F) → BringsFrame bytes old.end old.moments new.moments result → Appends {T = U} bytes old new (Err e)
  appends_failed result e brings = λ magic front dead records rests.
      let rest = rests running in
      let b = brings magic (stamp_of old) front dead records rest in
      let passed = goes_passes _ old.moments new.moments b.passed in
      record {
        any_moment = passed;
        left = λ _. left_before_or_after magic (stamp_of old) old.end front dead records bytes old.moments new.moments rest passed;
        durable = b.durable;
        acknowledged = acknowledged_passes magic (stamp_of old) old.end front dead records old.moments new.moments rest b.durable;
        rests = tt;
        spelled = tt;
        stands = tt;
      }

-- a closed log stays as it is
pub appends_none : {T E : Type 0} (bytes : List ℕ) (old : LogState) (e : E) → Appends {T = T} bytes old old (Err e)
appends_none bytes old e = λ magic front dead records rests. record {
  any_moment = ([], refl, tt);
  left = λ rest image h. inl (rest_spells magic (stamp_of old) old.end front dead records old.moments rest image h);
  durable = λ stamp acknowledged. ([], refl, tt);
  acknowledged = ([], refl, tt);
  rests = tt;
  spelled = tt;
  stands = tt;
}
