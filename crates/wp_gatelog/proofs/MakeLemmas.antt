-- A log is made.
use Rattle.std.proofs.Common.{◌≡◌, inl, inr, ℕ, ◌<◌, ◌≤◌, List, [], ◌∷◌, ◌++◌, length, drop, Result, refl, sym, ◌∙◌, ap, subst, arith}
use Rattle.std.proofs.lemmas.Bool.{cases_eq}
use Rattle.std.proofs.lemmas.List.{append-nil, append_assoc}
use Rattle.wp_outside.specs.Disk.{Moment, IsImage, IfKnown, added, synced, after_write, after_cut, after_sync}
use Rattle.wp_gatelog.specs.Beside.{IsNoneOrWhole, IsWholeLog}
use Rattle.wp_gatelog.specs.Changes.{Changes, Steps, BringsTo}
use Rattle.wp_gatelog.specs.Heads.{BeginsOpen, SpellsNone}
use Rattle.wp_gatelog.specs.Log.{IsAtRest}
use Rattle.wp_gatelog.specs.Moments.{IsSynced}
use Rattle.wp_gatelog.specs.Spelling.{Stamp, all_gated, identity, log_of, IsUnmade}
use Rattle.wp_gatelog.proofs.AcknowledgedLemmas.{spares_unmade}
use Rattle.wp_gatelog.proofs.ChangeLemmas.{brings_as, brings_of, changes_map}
use Rattle.wp_gatelog.proofs.MomentLemmas.{image_after, image_of_gate, put_gate, reads_after}
use Rattle.wp_gatelog.proofs.StandLemmas.{unmade_stands}

-- ---- a closed gate alone

closed_unmade : (bytes : List ℕ) → IsUnmade (0 ∷ bytes)
closed_unmade [] = tt
closed_unmade (byte ∷ bytes) = refl

short_unmade : (image : List ℕ) → length image ≤ 1 → IsUnmade image
short_unmade [] le = tt
short_unmade (gate ∷ []) le = tt
short_unmade (gate ∷ byte ∷ image) le = absurd (omega arith)

-- the gate is written where it is the only byte
pub unmade_written : (before image : List ℕ) → length before ≤ 1 → IsImage (after_write 0 (0 ∷ []) (synced before)) image → IsUnmade image
unmade_written before image le h = short_unmade image (omega (arith, h.1))

pub reads_written : (before : List ℕ) → length before ≤ 1 → (after_write 0 (0 ∷ []) (synced before)).reads ≡ 0 ∷ []
reads_written [] le = refl
reads_written (gate ∷ []) le = refl
reads_written (gate ∷ byte ∷ before) le = absurd (omega arith)

-- all but the closed gate is cut
pub unmade_cut : (before image : List ℕ) → 1 < length before → IsUnmade before → IsImage (after_cut 1 (synced before)) image → IsUnmade image
unmade_cut [] image lt unmade h = absurd (omega arith)
unmade_cut (gate ∷ []) image lt unmade h = absurd (omega arith)
unmade_cut (gate ∷ byte ∷ before) [] lt unmade h = tt
unmade_cut (gate ∷ byte ∷ before) (b ∷ image) lt unmade h = subst (λ (g : ℕ). IsUnmade (g ∷ image)) (sym (h.0.0 ∙ unmade)) (closed_unmade image)

pub reads_cut : (before : List ℕ) → 1 < length before → IsUnmade before → (after_cut 1 (synced before)).reads ≡ 0 ∷ []
reads_cut [] lt unmade = absurd (omega arith)
reads_cut (gate ∷ []) lt unmade = absurd (omega arith)
reads_cut (gate ∷ byte ∷ before) lt unmade = ap (λ (g : ℕ). g ∷ []) unmade

-- ---- what follows it, and then the gate

staged : (rest image : List ℕ) → IsImage (after_write 1 rest (synced (0 ∷ []))) image → BeginsOpen rest image
staged rest image h =
    let found = image_after (0 ∷ []) 1 rest image refl h in
    inl (subst IsUnmade (sym found.1) (closed_unmade found.0))

opened : (rest image : List ℕ) → IsImage (after_write 0 (1 ∷ []) (synced (0 ∷ rest))) image → BeginsOpen rest image
opened rest image h =
    let found = image_of_gate [] 0 0 rest image refl h in
    elim (cases_eq found.0 0) [
      | inl shut ↦ inl (subst IsUnmade (sym (found.2 ∙ ap (λ (g : ℕ). g ∷ (rest ++ found.1)) shut)) (closed_unmade (rest ++ found.1)))
      | inr open_gate ↦ inr (found.0, found.1, open_gate, found.2)
    ]

-- ---- a log without records

unmade_none : (magic : List ℕ) (stamp : Stamp) (bytes : List ℕ) → IsUnmade bytes → SpellsNone magic stamp bytes
unmade_none magic stamp bytes unmade = inl (unmade, refl)

pub log_of_none : (magic : List ℕ) (stamp : Stamp) (head : ℕ) (more : List ℕ) → log_of magic stamp head [] ++ 0 ∷ more ≡ head ∷ (identity magic stamp ++ 0 ∷ more)
log_of_none magic stamp head more = ap (λ (l : List ℕ). head ∷ (l ++ 0 ∷ more)) (append-nil (identity magic stamp))

begins_none : (magic : List ℕ) (stamp : Stamp) (image : List ℕ) → BeginsOpen (identity magic stamp ++ 0 ∷ []) image → SpellsNone magic stamp image
begins_none magic stamp image (inl unmade) = unmade_none magic stamp image unmade
begins_none magic stamp image (inr (gate, more, open_gate, is)) = inr (
  gate,
  [],
  record {
    rest = more;
    spelling = is ∙ ap (λ (l : List ℕ). gate ∷ l) (append_assoc (identity magic stamp) (0 ∷ []) more) ∙ sym (log_of_none magic stamp gate more);
    head_open = open_gate;
    gates_open = tt;
  },
  refl,
)

-- ---- a whole log

-- it is an open gate, and what follows that
pub whole_parts : (magic : List ℕ) (stamp : Stamp) (records : List (List ℕ)) (bytes rest : List ℕ) → IsWholeLog magic stamp records bytes → rest ≡ drop 1 bytes → 1 ∷ rest ≡ bytes
whole_parts magic stamp records bytes rest whole is = ap (λ (l : List ℕ). 1 ∷ l) (is ∙ ap (λ (l : List ℕ). drop 1 l) whole.spelling) ∙ sym whole.spelling

pub begins_whole : (magic : List ℕ) (stamp : Stamp) (records : List (List ℕ)) (bytes rest image : List ℕ) → IsWholeLog magic stamp records bytes → rest ≡ drop 1 bytes → BeginsOpen rest image → IsNoneOrWhole magic stamp records image
begins_whole magic stamp records bytes rest image whole is (inl unmade) = inl unmade
begins_whole magic stamp records bytes rest image whole is (inr (gate, more, open_gate, here)) =
    let spelled : List ℕ = identity magic stamp ++ all_gated whole.gated in
    let same : rest ≡ spelled ++ 0 ∷ [] = is ∙ ap (λ (l : List ℕ). drop 1 l) whole.spelling in
    inr (inr (
      gate,
      whole.gated,
      record {
        rest = more;
        spelling = here ∙ ap (λ (l : List ℕ). gate ∷ l) (ap (λ (l : List ℕ). l ++ more) same ∙ append_assoc spelled (0 ∷ []) more);
        head_open = open_gate;
        gates_open = whole.acknowledged.gates_open;
      },
      whole.acknowledged.same,
    ))

-- it is at rest once it is on the disk for good
pub whole_rests : (magic : List ℕ) (stamp : Stamp) (records : List (List ℕ)) (bytes : List ℕ) (whole : IsWholeLog magic stamp records bytes) (m : Moment) → m ≡ synced bytes → IsAtRest magic stamp (length (log_of magic stamp 1 whole.gated)) [] [] records m
whole_rests magic stamp records bytes whole m on = record {
  gated = whole.gated;
  acknowledged = whole.acknowledged;
  place = omega arith;
  on_disk = on ∙ ap synced whole.spelling;
}

-- the closed gate was written to a disk that was empty
pub shut_synced : (old new : List Moment) → IfKnown old (λ m. m.reads ≡ []) → new ≡ added after_sync (added (after_write 0 (0 ∷ [])) old) → IsSynced (0 ∷ []) new
shut_synced [] new none is = rw is tt
shut_synced (m ∷ past) new none is = rw is (ap synced (ap (λ (l : List ℕ). 0 ∷ drop 1 l) none))

-- ---- call by call

module _ {T E : Type 0} (magic : List ℕ) where
  pub brings_closed : (stamp : Stamp) (before : List ℕ) → IsUnmade before → (old new : List Moment) (result : Result T E) → Changes [] IsUnmade before (0 ∷ []) old new result
      → BringsTo 0 magic (SpellsNone magic stamp) (λ m. m ≡ synced (0 ∷ [])) old new result
  brings_closed stamp before unmade old new result changes =
      brings_of [] magic IsUnmade (SpellsNone magic stamp) (λ m. m ≡ synced (0 ∷ [])) before (0 ∷ []) old new result
      (λ other records. spares_unmade magic other records before IsUnmade unmade) (λ other records has. absurd (unmade_stands magic other records before unmade has)) (unmade_none magic stamp) (λ m on. on) changes

  -- to an empty disk
  pub brings_shut : (P : List ℕ → Type 0) → ((image : List ℕ) → IsUnmade image → P image) → (old new : List Moment) (result : Result T E) → Steps [] (after_write 0 (0 ∷ [])) [] old new result
      → BringsTo 0 magic P (λ m. m ≡ synced (0 ∷ [])) old new result
  brings_shut P unmade old new result changes =
      let stepped : Moment = after_write 0 (0 ∷ []) (synced []) in
      brings_of [] magic IsUnmade P (λ m. m ≡ synced (0 ∷ [])) [] (0 ∷ []) old new result
      (λ other records. spares_unmade magic other records [] IsUnmade tt) (λ other records has. absurd (unmade_stands magic other records [] tt has)) unmade (λ m on. on)
      (changes_map [] (IsImage stepped) IsUnmade [] (0 ∷ []) (0 ∷ []) old new result (λ image. unmade_written [] image (omega arith)) refl changes)

  pub brings_staged : (rest : List ℕ) (old new : List Moment) (result : Result T E) → Steps [] (after_write 1 rest) (0 ∷ []) old new result → BringsTo 0 magic (BeginsOpen rest) (λ m. m ≡ synced (0 ∷ rest)) old new result
  brings_staged rest old new result changes =
      let stepped : Moment = after_write 1 rest (synced (0 ∷ [])) in
      brings_of [] magic (IsImage stepped) (BeginsOpen rest) (λ m. m ≡ synced (0 ∷ rest)) (0 ∷ []) stepped.reads old new result
      (λ other records. spares_unmade magic other records (0 ∷ []) (IsImage stepped) tt) (λ other records has. absurd (unmade_stands magic other records (0 ∷ []) tt has)) (staged rest)
      (λ m on. on ∙ ap synced (reads_after (0 ∷ []) rest 1 refl)) changes

  pub brings_opened : (rest : List ℕ) (old new : List Moment) (result : Result T E) → Steps [] (after_write 0 (1 ∷ [])) (0 ∷ rest) old new result → BringsTo 0 magic (BeginsOpen rest) (λ m. m ≡ synced (1 ∷ rest)) old new result
  brings_opened rest old new result changes =
      let stepped : Moment = after_write 0 (1 ∷ []) (synced (0 ∷ rest)) in
      brings_of [] magic (IsImage stepped) (BeginsOpen rest) (λ m. m ≡ synced (1 ∷ rest)) (0 ∷ rest) stepped.reads old new result
      (λ other records. spares_unmade magic other records (0 ∷ rest) (IsImage stepped) (closed_unmade rest))
      (λ other records has. absurd (unmade_stands magic other records (0 ∷ rest) (closed_unmade rest) has)) (opened rest)
      (λ m on. on ∙ ap synced (put_gate [] 0 rest 0 refl)) changes

  pub brings_none : (stamp : Stamp) (rest : List ℕ) → rest ≡ identity magic stamp ++ 0 ∷ [] → (old new : List Moment) (result : Result T E) → BringsTo 0 magic (BeginsOpen rest) (λ m. m ≡ synced (1 ∷ rest)) old new result
      → BringsTo 0 magic (SpellsNone magic stamp) (λ m. m ≡ synced (log_of magic stamp 1 [] ++ 0 ∷ [])) old new result
  brings_none stamp rest is old new result =
      brings_as 0 magic (BeginsOpen rest) (SpellsNone magic stamp) (λ m. m ≡ synced (1 ∷ rest)) (λ m. m ≡ synced (log_of magic stamp 1 [] ++ 0 ∷ [])) old new result
      (λ image h. begins_none magic stamp image (subst (λ (l : List ℕ). BeginsOpen l image) is h)) (λ m on. on ∙ ap synced (ap (λ (l : List ℕ). 1 ∷ l) is ∙ sym (log_of_none magic stamp 1 [])))
