-- What a reader knows by what it has loaded, and that what it concludes is so.
use Rattle.std.specs.Prelude.{◌≡◌, ◌≢◌, ◌⊎◌, ℕ, ◌^◌, ◌<◌, ◌≤◌, Bool, true, false, List, length, Option, Some, None}
use Rattle.std.specs.Ordering.{nat_cmp}
use Rattle.std.specs.FinMap as finite
use Rattle.wp_model.specs.declared.entry.Entry.{Entry}
use Rattle.wp_model.specs.Decision.{decision_of, IsCommittedAt}
use Rattle.wp_model.specs.Snapshots.{Snapshots, is_old_commit}
use Rattle.wp_core.specs.Lists.{EachAt, IsIn}
use Rattle.wp_judge.specs.declared.observed.Observed.{Observed}
use Rattle.wp_judge.specs.declared.observed.InPrepared.{InPrepared}
use Rattle.wp_judge.specs.declared.observed.InPrepared.TheVariants.{Absent}
use Rattle.wp_judge.specs.Words.{decision_in_word}
use Rattle.wp_core.specs.Cache.{cached}
use Rattle.wp_core.specs.Reading.{Registration, snapshot_of}
use Rattle.wp_judge.specs.Order.{judgement}
use Rattle.wp_core.specs.World.{Actor}
use Rattle.wp_core.specs.Sound.Snapshots.{has_versions_at}

-- an actor's snapshots, and what it reads
abbrev pub reader_of : Actor → List Registration × Option Observed
reader_of a = (a.participant.registered, a.reading)

-- the prepared sets were found without it, where the first bound was at least its number
pub record NotInPrepared (p : ℕ) (first_max delayed_flag : Option ℕ) (in_prepared : Option InPrepared) : Type 0 where
  pub bound : ℕ
  pub loaded : first_max ≡ Some bound
  pub within : p ≤ bound
  pub found : (in_prepared ≡ Some Absent) ⊎ (delayed_flag ≡ Some 0)

-- It is decided, and its word is another's. The bound has come to its number; and it has come to the decision, or that is a delayed
-- commit.
pub record IsReachedBy (history : List Entry) (max : ℕ) (cache : List ℕ) (commits : finite.FinMap nat_cmp ℕ) (p : ℕ) : Type 0 where
  pub by : ℕ
  pub decided : decision_of history p ≡ Some by
  pub reached : p ≤ max
  pub elsewhere : (by ≤ max) ⊎ (finite.get commits p ≡ Some by)
  pub gone : cached cache p ≡ None

-- it is in its word; or the bound has come to its decision, and the old commit map has it under s where that is above s
abbrev pub AnswersFor : ℕ → List ℕ → Snapshots → ℕ → ℕ → ℕ → Type 0
AnswersFor max cache snapshots s p c = (cached cache p ≡ Some c) ⊎ ((c ≤ max) × (s < c → is_old_commit snapshots s p ≡ true))

-- it is decided, at the bound or before, and its word is another's
pub record IsPassedBy (history : List Entry) (max : ℕ) (cache : List ℕ) (p : ℕ) : Type 0 where
  pub by : ℕ
  pub decided : decision_of history p ≡ Some by
  pub within : by ≤ max
  pub gone : cached cache p ≡ None

-- What a reader knows of a version at most at its snapshot's number, whatever others did since each load:
-- after a first word that is another's, if the version is committed at the snapshot, the bound has come to its number, and its word is
-- another's;
-- the bound loaded first is at most the bound;
-- after the prepared sets were found without the version, where the first bound was at least its number, it is decided, and the word
-- or the old commit map answers for it;
-- after a second word that is another's it is passed, and its word is another's;
-- the bound loaded second is at least its decision.
pub record ReaderKnows (history : List Entry) (max : ℕ) (cache : List ℕ) (commits : finite.FinMap nat_cmp ℕ) (snapshots : Snapshots) (r : Observed) : Type 0 where
  pub version : has_versions_at history r.version ≡ true
  pub first_word : (word : ℕ) → r.first_word ≡ Some word → decision_in_word (2 ^ r.bits) r.version word ≡ None → IsCommittedAt history r.version r.snapshot → IsReachedBy history max cache commits r.version
  pub first_max : (m : ℕ) → r.first_max ≡ Some m → m ≤ max
  pub not_in_prepared : NotInPrepared r.version r.first_max r.delayed_flag r.in_prepared → (c : ℕ) × (decision_of history r.version ≡ Some c) × AnswersFor max cache snapshots r.snapshot r.version c
  pub second_word : (word : ℕ) → r.second_word ≡ Some word → decision_in_word (2 ^ r.bits) r.version word ≡ None → IsPassedBy history max cache r.version
  pub second_max : (m : ℕ) → r.second_max ≡ Some m → (c : ℕ) × (decision_of history r.version ≡ Some c) × (c ≤ m)

abbrev pub OnlyAfter : {A B : Type 0} → Option A → Option B → Type 0
OnlyAfter first second = first ≡ None → second ≡ None

-- nothing was loaded before its time
pub record IsInOrder (r : Observed) : Type 0 where
  pub first_max : OnlyAfter r.first_word r.first_max
  pub delayed_flag : OnlyAfter r.first_max r.delayed_flag
  pub in_prepared : OnlyAfter r.delayed_flag r.in_prepared
  pub second_word : OnlyAfter r.delayed_flag r.second_word
  pub looked : (flag : ℕ) → r.delayed_flag ≡ Some flag → flag ≢ 0 → OnlyAfter r.in_prepared r.second_word
  pub second_max : OnlyAfter r.second_word r.second_max
  pub old_flag : OnlyAfter r.second_max r.old_flag
  pub is_old_commit : OnlyAfter r.old_flag r.is_old_commit

pub record IsReader (history : List Entry) (max : ℕ) (cache : List ℕ) (commits : finite.FinMap nat_cmp ℕ) (snapshots : Snapshots) (registered : List Registration) (r : Observed) : Type 0 where
  pub words : 2 ^ r.bits ≡ length cache
  pub registered_at : IsIn (snapshot_of r) registered
  pub in_order : IsInOrder r
  pub knows : r.version ≤ r.snapshot → ReaderKnows history max cache commits snapshots r

abbrev pub AreReaders : List Entry → ℕ → List ℕ → finite.FinMap nat_cmp ℕ → Snapshots → List (List Registration × Option Observed) → Type 0
AreReaders history max cache commits snapshots readers = EachAt (λ j x. (r : Observed) → x.1 ≡ Some r → IsReader history max cache commits snapshots x.0 r) readers

-- the answer is whether the version p is committed at s
abbrev pub IsRight : List Entry → ℕ → ℕ → Bool → Type 0
IsRight history p s true = IsCommittedAt history p s
IsRight history p s false = IsCommittedAt history p s → ⊥

abbrev pub AreJudged : List Entry → List (List Registration × Option Observed) → Type 0
AreJudged history readers = EachAt (λ j x. (r : Observed) (visible : Bool) → x.1 ≡ Some r → judgement r ≡ Some visible → IsRight history r.version r.snapshot visible) readers
