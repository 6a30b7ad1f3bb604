-- What a call makes of its disk, call after call.
use Rattle.std.proofs.Common.{◌≡◌, ℕ, List, [], ◌∷◌, ◌++◌, length, drop, Result, Ok, Err, OnOk, OnErr, refl, sym, ◌∙◌, ap, subst}
use Rattle.std.proofs.lemmas.List.{drop_at}
use Rattle.std.proofs.lemmas.Result.{on_ok_weaker}
use Rattle.wp_outside.specs.Disk.{Moment, IsImage, synced, after_sync, IfKnown, added, Tears, Goes}
use Rattle.wp_outside.proofs.Moments.{goes_on}
use Rattle.wp_gatelog.specs.Changes.{Changes, Steps, BringsTo}
use Rattle.wp_gatelog.specs.Durability.{HasAcknowledged, Spares, Preserves}
use Rattle.wp_gatelog.specs.Moments.{Leaves, LeavesFrom, IsSynced}
use Rattle.wp_gatelog.proofs.DurabilityLemmas.{preserves_on, torn_preserves, synced_preserves}
use Rattle.wp_gatelog.specs.Spelling.{Stamp}
use Rattle.wp_gatelog.specs.Stands.{Stands, StandsOn}
use Rattle.wp_gatelog.proofs.FrontLemmas.{Shifts}
use Rattle.wp_gatelog.proofs.MomentLemmas.{goes_map, torn_goes, synced_goes, known_map, known_as}

-- ---- one step and its sync

module _ (front before : List ℕ) (step inner : Moment → Moment) (shifts : Shifts front before step inner) where
  behind : drop (length front) (front ++ before) ≡ before
  behind = drop_at front before (length front) refl

  spared : (magic : List ℕ) (stamp : Stamp) (records : List (List ℕ)) → Spares magic stamp records before (IsImage (inner (synced before))) → HasAcknowledged magic stamp records (drop (length front) (front ++ before))
      → (image : List ℕ) → IsImage (step (synced (front ++ before))) image → HasAcknowledged magic stamp records (drop (length front) image)
  spared magic stamp records spares has image h =
      spares (subst (HasAcknowledged magic stamp records) behind has) (drop (length front) image) (shifts.images image h)

  goes_behind : (old new : List Moment) → Goes (Leaves (IsImage (step (synced (front ++ before))))) old new → Goes (LeavesFrom (length front) (IsImage (inner (synced before)))) old new
  goes_behind =
      goes_map (Leaves (IsImage (step (synced (front ++ before))))) (LeavesFrom (length front) (IsImage (inner (synced before)))) (λ m leaves image h. shifts.images image (leaves image h))

  pub torn_steps : {T E : Type 0} (e : E) (old new : List Moment) → IsSynced (front ++ before) old → Tears step old new → Steps {T = T} {E = E} front inner before old new (Err e)
  torn_steps e old new known torn = record {
    passed = goes_behind old new (torn_goes step (front ++ before) old new known torn);
    durable = λ magic stamp records spares.
        torn_preserves (λ image. HasAcknowledged magic stamp records (drop (length front) image)) step (front ++ before) (spared magic stamp records spares) old new known torn;
    done = tt;
    stands = tt;
  }

  -- a read shows the bytes before, and then those that the step makes
  pub stepped_reads : (old mid new : List Moment) → IsSynced (front ++ before) old → mid ≡ added step old → new ≡ added after_sync mid → (P : List ℕ → Type 0) → (P before → P (inner (synced before)).reads)
      → Preserves (λ m. P (drop (length front) m.reads)) old new
  stepped_reads [] mid new known adds syncs P on = ([], syncs ∙ ap (λ (ms : List Moment). added after_sync ms) adds, tt)
  stepped_reads (m ∷ past) mid new known adds syncs P on =
      let after : drop (length front) (step (synced (front ++ before))).reads ≡ (inner (synced before)).reads =
      ap (λ (l : List ℕ). drop (length front) l) shifts.reads ∙ drop_at front (inner (synced before)).reads (length front) refl in (
        synced (step m).reads ∷ step m ∷ [],
        syncs ∙ ap (λ (ms : List Moment). added after_sync ms) adds,
        (
          λ h. h,
          (
            λ h. subst (λ (n : Moment). P (drop (length front) (step n).reads)) (sym known)
                (subst P (sym after) (on (subst P behind (subst (λ (n : Moment). P (drop (length front) n.reads)) known h)))),
            tt,
          ),
        ),
      )

  stepped_synced : (old mid new : List Moment) → IsSynced (front ++ before) old → mid ≡ added step old → new ≡ added after_sync mid → IsSynced (front ++ (inner (synced before)).reads) new
  stepped_synced [] mid new known adds syncs =
      subst (IsSynced (front ++ (inner (synced before)).reads)) (sym (syncs ∙ ap (λ (ms : List Moment). added after_sync ms) adds)) tt
  stepped_synced (m ∷ past) mid new known adds syncs =
      subst (IsSynced (front ++ (inner (synced before)).reads)) (sym (syncs ∙ ap (λ (ms : List Moment). added after_sync ms) adds))
      (ap (λ (n : Moment). synced (step n).reads) known ∙ ap synced shifts.reads)

  pub synced_steps : {T E : Type 0} (old mid new : List Moment) (result : Result T E) → IsSynced (front ++ before) old → mid ≡ added step old
      → OnOk result (new ≡ added after_sync mid) → OnErr result (new ≡ mid) → Steps front inner before old new result
  synced_steps old mid new result known adds syncs stays = record {
    passed = goes_behind old new (synced_goes step (front ++ before) old mid new result shifts.itself known adds syncs stays);
    durable = λ magic stamp records spares.
        synced_preserves (λ image. HasAcknowledged magic stamp records (drop (length front) image)) step (front ++ before) (spared magic stamp records spares) old mid new result shifts.itself known adds syncs stays;
    done = on_ok_weaker result (stepped_synced old mid new known adds) syncs;
    stands = on_ok_weaker result (λ s magic stamp records. stepped_reads old mid new known adds s (Stands magic stamp records)) syncs;
  }

-- ---- changes

pub unchanged : {T E : Type 0} (x : T) (front : List ℕ) (P : List ℕ → Type 0) (before after : List ℕ) (moments : List Moment) → before ≡ after → IsSynced (front ++ before) moments
    → Changes {T = T} {E = E} front P before after moments moments (Ok x)
unchanged {T} {E} x front P before after moments same known = record {
  passed = none moments;
  durable = λ magic stamp records spares. ([], refl, tt);
  done = known_as moments (front ++ before) (front ++ after) (ap (λ (l : List ℕ). front ++ l) same) known;
  stands = λ magic stamp records on. ([], refl, tt);
}
  where
    none : (ms : List Moment) → Goes (LeavesFrom (length front) P) ms ms
    none [] = refl
    none (m ∷ past) = ([], refl, tt)

pub changes_map : {T E : Type 0} (front : List ℕ) (P Q : List ℕ → Type 0) (before mid after : List ℕ) (old new : List Moment) (result : Result T E) → ((image : List ℕ) → P image → Q image) → mid ≡ after
    → Changes front P before mid old new result → Changes front Q before after old new result
changes_map front P Q before mid after old new result f same changes = record {
  passed = goes_map (LeavesFrom (length front) P) (LeavesFrom (length front) Q) (λ m leaves image h. f (drop (length front) image) (leaves image h)) old new changes.passed;
  durable = λ magic stamp records spares. changes.durable magic stamp records (λ has image h. spares has image (f image h));
  done = on_ok_weaker result (known_as new (front ++ mid) (front ++ after) (ap (λ (l : List ℕ). front ++ l) same)) changes.done;
  stands = on_ok_weaker result (λ s magic stamp records on. s magic stamp records (λ has. subst (Stands magic stamp records) (sym same) (on has))) changes.stands;
}

-- ---- from one call to the next

pub brings_of : {T E : Type 0} (front magic : List ℕ) (P R : List ℕ → Type 0) (Q : Moment → Type 0) (before after : List ℕ) (old new : List Moment) (result : Result T E)
    → ((stamp : Stamp) (records : List (List ℕ)) → Spares magic stamp records before P) → ((stamp : Stamp) (records : List (List ℕ)) → Stands magic stamp records before → Stands magic stamp records after)
    → ((image : List ℕ) → P (drop (length front) image) → R image) → ((m : Moment) → m ≡ synced (front ++ after) → Q m)
    → Changes front P before after old new result → BringsTo (length front) magic R Q old new result
brings_of front magic P R Q before after old new result spares on f g changes = record {
  passed = goes_map (LeavesFrom (length front) P) (Leaves R) (λ m leaves image h. f image (leaves image h)) old new changes.passed;
  durable = λ stamp records. changes.durable magic stamp records (spares stamp records);
  done = on_ok_weaker result (known_map (λ m. m ≡ synced (front ++ after)) Q g new) changes.done;
  stands = on_ok_weaker result (λ s stamp records. s magic stamp records (on stamp records)) changes.stands;
}

pub brings_on : {T U E : Type 0} (place : ℕ) (magic : List ℕ) (P : List ℕ → Type 0) (Q R : Moment → Type 0) (old mid new : List Moment) (x : U) (result : Result T E)
    → BringsTo {T = U} {E = E} place magic P Q old mid (Ok x) → BringsTo place magic P R mid new result → BringsTo place magic P R old new result
brings_on place magic P Q R old mid new x result one other = record {
  passed = goes_on (Leaves P) old mid new one.passed other.passed;
  durable = λ stamp records. preserves_on (LeavesFrom place (HasAcknowledged magic stamp records)) old mid new (one.durable stamp records) (other.durable stamp records);
  done = other.done;
  stands = on_ok_weaker result (λ s stamp records. preserves_on (λ m. Stands magic stamp records (drop place m.reads)) old mid new (one.stands stamp records) (s stamp records)) other.stands;
}

-- a call that fails has brought the disk nowhere
pub brings_failed : {T U E F : Type 0} (e : F) (place : ℕ) (magic : List ℕ) (P : List ℕ → Type 0) (Q R : Moment → Type 0) (old new : List Moment) (result : Result U E)
    → BringsTo place magic P Q old new result → BringsTo {T = T} {E = F} place magic P R old new (Err e)
brings_failed e place magic P Q R old new result brings = record { passed = brings.passed; durable = brings.durable; done = tt; stands = tt }

pub on_ok : {T E : Type 0} (result : Result T E) (P : Type 0) → P → OnOk result P
on_ok (Ok x) P p = p
on_ok (Err e) P p = tt

-- where the disk is unknown, nothing is owed but that it stays unknown
pub brings_known : {T E : Type 0} (place : ℕ) (magic : List ℕ) (P : List ℕ → Type 0) (Q R : Moment → Type 0) (old new : List Moment) (result : Result T E) → (old ≡ [] → new ≡ []) → IfKnown old Q
    → ((past : List Moment) (m : Moment) → old ≡ m ∷ past → Q m → BringsTo place magic P R old new result) → BringsTo place magic P R old new result
brings_known place magic P Q R [] new result unknown known brings = record {
  passed = unknown refl;
  durable = λ stamp records. ([], unknown refl, tt);
  done = on_ok result (IfKnown new R) (subst (λ (ms : List Moment). IfKnown ms R) (sym (unknown refl)) tt);
  stands = on_ok result (StandsOn place magic [] new) (λ stamp records. ([], unknown refl, tt));
}
brings_known place magic P Q R (m ∷ past) new result unknown known brings = brings past m refl known

-- what is so by a call is so in other words
pub brings_as : {T E : Type 0} (place : ℕ) (magic : List ℕ) (P R : List ℕ → Type 0) (Q S : Moment → Type 0) (old new : List Moment) (result : Result T E) → ((image : List ℕ) → P image → R image) → ((m : Moment) → Q m → S m)
    → BringsTo place magic P Q old new result → BringsTo place magic R S old new result
brings_as place magic P R Q S old new result f g brings = record {
  passed = goes_map (Leaves P) (Leaves R) (λ m leaves image h. f image (leaves image h)) old new brings.passed;
  durable = brings.durable;
  done = on_ok_weaker result (known_map Q S g new) brings.done;
  stands = brings.stands;
}
