-- What a reader has loaded when it asks for the next load, and what it asks for once it has that much.
use Rattle.std.proofs.Common.{◌≡◌, ◌⊎◌, inl, inr, ℕ, ◌^◌, nat_lt, ◌==◌, Bool, true, false, true≢false, cond, refl, subst, ap, ◌∙◌, Option, Some, None}
use Rattle.wp_judge.specs.declared.observed.Observed.{Observed}
use Rattle.wp_judge.specs.declared.observed.Load as loads
use Rattle.wp_judge.specs.declared.observed.Load.TheVariants.{FirstWord, FirstMax, DelayedFlag, SecondWord, SecondMax, OldFlag, IsOldCommit}
use Rattle.wp_judge.specs.declared.observed.Load.TheVariants as variant
use Rattle.wp_judge.specs.declared.observed.Asked.{Asked}
use Rattle.wp_judge.specs.declared.observed.Asked.TheVariants.{Load, Answer}
use Rattle.wp_judge.specs.declared.observed.InPrepared.{InPrepared}
use Rattle.wp_judge.specs.declared.observed.InPrepared.TheVariants.{Absent, Delayed, Decided}
use Rattle.wp_judge.specs.Words.{decision_in_word}
use Rattle.wp_judge.specs.Order.{answered_by, ask_is_old_commit, ask_old_flag, ask_second_max, ask_second_word, ask_in_prepared, ask_delayed_flag, ask_first_max, ask_first_word, ask}

-- ---- how far a reader is

-- neither the snapshot's number nor its smallest decides
pub record Begun (p s least : ℕ) : Type 0 where
  pub within : nat_lt s p ≡ false
  pub from_smallest : nat_lt p least ≡ false

-- the first word is another's
pub record Missed (bits p s least : ℕ) (first_word : Option ℕ) : Type 0 where
  pub begun : Begun p s least
  pub word : ℕ
  pub loaded : first_word ≡ Some word
  pub another : decision_in_word (2 ^ bits) p word ≡ None

-- the first bound is not below the version
pub record Bounded (bits p s least : ℕ) (first_word first_max : Option ℕ) : Type 0 where
  pub missed : Missed bits p s least first_word
  pub max : ℕ
  pub loaded : first_max ≡ Some max
  pub within : nat_lt max p ≡ false

-- it is not delayed
pub record NotDelayed (bits p s least : ℕ) (first_word first_max delayed_flag : Option ℕ) (in_prepared : Option InPrepared) : Type 0 where
  pub bounded : Bounded bits p s least first_word first_max
  pub flag : ℕ
  pub loaded : delayed_flag ≡ Some flag
  pub found : ((flag == 0) ≡ true) ⊎ (((flag == 0) ≡ false) × (in_prepared ≡ Some Absent))

-- the second word is another's
pub record MissedAgain (bits p s least : ℕ) (first_word first_max delayed_flag : Option ℕ) (in_prepared : Option InPrepared) (second_word : Option ℕ) : Type 0 where
  pub not_delayed : NotDelayed bits p s least first_word first_max delayed_flag in_prepared
  pub word : ℕ
  pub loaded : second_word ≡ Some word
  pub another : decision_in_word (2 ^ bits) p word ≡ None

-- the second bound is not below the snapshot
pub record BoundedAgain (bits p s least : ℕ) (first_word first_max delayed_flag : Option ℕ) (in_prepared : Option InPrepared) (second_word second_max : Option ℕ) : Type 0 where
  pub missed_again : MissedAgain bits p s least first_word first_max delayed_flag in_prepared second_word
  pub max : ℕ
  pub loaded : second_max ≡ Some max
  pub within : nat_lt max s ≡ false

-- the old commit map has something
pub record OldThere (bits p s least : ℕ) (first_word first_max delayed_flag : Option ℕ) (in_prepared : Option InPrepared) (second_word second_max old_flag : Option ℕ) : Type 0 where
  pub bounded_again : BoundedAgain bits p s least first_word first_max delayed_flag in_prepared second_word second_max
  pub flag : ℕ
  pub loaded : old_flag ≡ Some flag
  pub raised : (flag == 0) ≡ false

-- what was loaded before this load, which was not made yet
abbrev pub At : Observed → loads.Load → Type 0
At r FirstWord = Begun r.version r.snapshot r.smallest × (r.first_word ≡ None)
At r FirstMax = Missed r.bits r.version r.snapshot r.smallest r.first_word × (r.first_max ≡ None)
At r DelayedFlag = Bounded r.bits r.version r.snapshot r.smallest r.first_word r.first_max × (r.delayed_flag ≡ None)
At r variant.InPrepared =
    Bounded r.bits r.version r.snapshot r.smallest r.first_word r.first_max × ((flag : ℕ) × (r.delayed_flag ≡ Some flag) × ((flag == 0) ≡ false)) × (r.in_prepared ≡ None)
At r SecondWord = NotDelayed r.bits r.version r.snapshot r.smallest r.first_word r.first_max r.delayed_flag r.in_prepared × (r.second_word ≡ None)
At r SecondMax = MissedAgain r.bits r.version r.snapshot r.smallest r.first_word r.first_max r.delayed_flag r.in_prepared r.second_word × (r.second_max ≡ None)
At r OldFlag = BoundedAgain r.bits r.version r.snapshot r.smallest r.first_word r.first_max r.delayed_flag r.in_prepared r.second_word r.second_max × (r.old_flag ≡ None)
At r IsOldCommit = OldThere r.bits r.version r.snapshot r.smallest r.first_word r.first_max r.delayed_flag r.in_prepared r.second_word r.second_max r.old_flag × (r.is_old_commit ≡ None)

-- ---- a load that is asked for is no answer

is_answer : Asked → Bool
is_answer (Load which) = false
is_answer (Answer visible) = true

load_in : Asked → loads.Load
load_in (Load which) = which
load_in (Answer visible) = FirstWord

no_answer : (visible : Bool) (which : loads.Load) → Answer visible ≡ Load which → ⊥
unfolding is_answer
no_answer visible which e = let t : true ≡ false = ap is_answer e in true≢false t

asks_for : (x which : loads.Load) → Load x ≡ Load which → x ≡ which
unfolding load_in
asks_for x which e = ap load_in e

past_answer : (b v : Bool) (x : Asked) (which : loads.Load) → cond b (Answer v) x ≡ Load which → (b ≡ false) × (x ≡ Load which)
past_answer true v x which e = absurd (no_answer v which e)
past_answer false v x which e = (refl, e)

past_word : (d : Option ℕ) (s : ℕ) (x : Asked) (which : loads.Load) → answered_by d s x ≡ Load which → (d ≡ None) × (x ≡ Load which)
past_word (Some c) s x which e = absurd (no_answer _ which e)
past_word None s x which e = (refl, e)

module _ (r : Observed) (which : loads.Load) where
  at_old_commit : (o : Option Bool) → r.is_old_commit ≡ o → OldThere r.bits r.version r.snapshot r.smallest r.first_word r.first_max r.delayed_flag r.in_prepared r.second_word r.second_max r.old_flag → ask_is_old_commit o ≡ Load which → At r which
  at_old_commit None is k e = subst (At r) (asks_for IsOldCommit which e) (k, is)
  at_old_commit (Some b) is k e = absurd (no_answer _ which e)

  at_old_flag : (o : Option ℕ) → r.old_flag ≡ o → BoundedAgain r.bits r.version r.snapshot r.smallest r.first_word r.first_max r.delayed_flag r.in_prepared r.second_word r.second_max → ask_old_flag r o ≡ Load which → At r which
  at_old_flag None is k e = subst (At r) (asks_for OldFlag which e) (k, is)
  at_old_flag (Some flag) is k e =
      let n = past_answer (flag == 0) true (ask_is_old_commit r.is_old_commit) which e in at_old_commit r.is_old_commit refl (record { bounded_again = k; flag = flag; loaded = is; raised = n.0 }) n.1

  at_second_max : (o : Option ℕ) → r.second_max ≡ o → MissedAgain r.bits r.version r.snapshot r.smallest r.first_word r.first_max r.delayed_flag r.in_prepared r.second_word → ask_second_max r o ≡ Load which → At r which
  at_second_max None is k e = subst (At r) (asks_for SecondMax which e) (k, is)
  at_second_max (Some m) is k e =
      let n = past_answer (nat_lt m r.snapshot) true (ask_old_flag r r.old_flag) which e in at_old_flag r.old_flag refl (record { missed_again = k; max = m; loaded = is; within = n.0 }) n.1

  at_second_word : (o : Option ℕ) → r.second_word ≡ o → NotDelayed r.bits r.version r.snapshot r.smallest r.first_word r.first_max r.delayed_flag r.in_prepared → ask_second_word r o ≡ Load which → At r which
  at_second_word None is k e = subst (At r) (asks_for SecondWord which e) (k, is)
  at_second_word (Some word) is k e =
      let n = past_word (decision_in_word (2 ^ r.bits) r.version word) r.snapshot (ask_second_max r r.second_max) which e in
      at_second_max r.second_max refl (record { not_delayed = k; word = word; loaded = is; another = n.0 }) n.1

  at_in_prepared : (o : Option InPrepared) → r.in_prepared ≡ o → Bounded r.bits r.version r.snapshot r.smallest r.first_word r.first_max → (flag : ℕ) → r.delayed_flag ≡ Some flag → (flag == 0) ≡ false → ask_in_prepared r o ≡ Load which → At r which
  at_in_prepared None is k flag there raised e = subst (At r) (asks_for variant.InPrepared which e) (k, (flag, there, raised), is)
  at_in_prepared (Some Absent) is k flag there raised e = at_second_word r.second_word refl (record { bounded = k; flag = flag; loaded = there; found = inr (raised, is) }) e
  at_in_prepared (Some Delayed) is k flag there raised e = absurd (no_answer _ which e)
  at_in_prepared (Some (Decided c)) is k flag there raised e = absurd (no_answer _ which e)

  at_flag : (flag : ℕ) (b : Bool) → (flag == 0) ≡ b → r.delayed_flag ≡ Some flag → Bounded r.bits r.version r.snapshot r.smallest r.first_word r.first_max → cond b (ask_second_word r r.second_word) (ask_in_prepared r r.in_prepared) ≡ Load which → At r which
  at_flag flag true is there k e = at_second_word r.second_word refl (record { bounded = k; flag = flag; loaded = there; found = inl is }) e
  at_flag flag false is there k e = at_in_prepared r.in_prepared refl k flag there is e

  at_delayed_flag : (o : Option ℕ) → r.delayed_flag ≡ o → Bounded r.bits r.version r.snapshot r.smallest r.first_word r.first_max → ask_delayed_flag r o ≡ Load which → At r which
  at_delayed_flag None is k e = subst (At r) (asks_for DelayedFlag which e) (k, is)
  at_delayed_flag (Some flag) is k e = at_flag flag (flag == 0) refl is k e

  at_first_max : (o : Option ℕ) → r.first_max ≡ o → Missed r.bits r.version r.snapshot r.smallest r.first_word → ask_first_max r o ≡ Load which → At r which
  at_first_max None is k e = subst (At r) (asks_for FirstMax which e) (k, is)
  at_first_max (Some m) is k e =
      let n = past_answer (nat_lt m r.version) false (ask_delayed_flag r r.delayed_flag) which e in at_delayed_flag r.delayed_flag refl (record { missed = k; max = m; loaded = is; within = n.0 }) n.1

  at_first_word : (o : Option ℕ) → r.first_word ≡ o → Begun r.version r.snapshot r.smallest → ask_first_word r o ≡ Load which → At r which
  at_first_word None is k e = subst (At r) (asks_for FirstWord which e) (k, is)
  at_first_word (Some word) is k e =
      let n = past_word (decision_in_word (2 ^ r.bits) r.version word) r.snapshot (ask_first_max r r.first_max) which e in
      at_first_max r.first_max refl (record { begun = k; word = word; loaded = is; another = n.0 }) n.1

  -- a reader that asks for a load has come so far
  pub asked : ask r ≡ Load which → At r which
  asked e =
      let x = past_answer (nat_lt r.snapshot r.version) false (cond (nat_lt r.version r.smallest) (Answer true) (ask_first_word r r.first_word)) which e in
      let y = past_answer (nat_lt r.version r.smallest) true (ask_first_word r r.first_word) which x.1 in
      at_first_word r.first_word refl (record { within = x.0; from_smallest = y.0 }) y.1

-- ---- what it asks for, once it has come so far

module _ (r : Observed) where
  pub from_begun : Begun r.version r.snapshot r.smallest → ask r ≡ ask_first_word r r.first_word
  from_begun k = λ i. cond (k.within i) (Answer false) (cond (k.from_smallest i) (Answer true) (ask_first_word r r.first_word))

  pub from_missed : Missed r.bits r.version r.snapshot r.smallest r.first_word → ask r ≡ ask_first_max r r.first_max
  from_missed k = from_begun k.begun ∙ (ap (ask_first_word r) k.loaded ∙ (λ i. answered_by (k.another i) r.snapshot (ask_first_max r r.first_max)))

  pub from_bounded : Bounded r.bits r.version r.snapshot r.smallest r.first_word r.first_max → ask r ≡ ask_delayed_flag r r.delayed_flag
  from_bounded k = from_missed k.missed ∙ (ap (ask_first_max r) k.loaded ∙ (λ i. cond (k.within i) (Answer false) (ask_delayed_flag r r.delayed_flag)))

  pub from_flag : Bounded r.bits r.version r.snapshot r.smallest r.first_word r.first_max → (flag : ℕ) (b : Bool) → r.delayed_flag ≡ Some flag → (flag == 0) ≡ b → ask r ≡ cond b (ask_second_word r r.second_word) (ask_in_prepared r r.in_prepared)
  from_flag k flag b there is = from_bounded k ∙ (ap (ask_delayed_flag r) there ∙ (λ i. cond (is i) (ask_second_word r r.second_word) (ask_in_prepared r r.in_prepared)))

  pub from_not_delayed : NotDelayed r.bits r.version r.snapshot r.smallest r.first_word r.first_max r.delayed_flag r.in_prepared → ask r ≡ ask_second_word r r.second_word
  from_not_delayed k = by_found k.found
    where
      by_found : ((k.flag == 0) ≡ true) ⊎ (((k.flag == 0) ≡ false) × (r.in_prepared ≡ Some Absent)) → ask r ≡ ask_second_word r r.second_word
      by_found (inl is) = from_flag k.bounded k.flag true k.loaded is
      by_found (inr is) = from_flag k.bounded k.flag false k.loaded is.0 ∙ ap (ask_in_prepared r) is.1

  pub from_missed_again : MissedAgain r.bits r.version r.snapshot r.smallest r.first_word r.first_max r.delayed_flag r.in_prepared r.second_word → ask r ≡ ask_second_max r r.second_max
  from_missed_again k = from_not_delayed k.not_delayed ∙ (ap (ask_second_word r) k.loaded ∙ (λ i. answered_by (k.another i) r.snapshot (ask_second_max r r.second_max)))

  pub from_bounded_again : BoundedAgain r.bits r.version r.snapshot r.smallest r.first_word r.first_max r.delayed_flag r.in_prepared r.second_word r.second_max → ask r ≡ ask_old_flag r r.old_flag
  from_bounded_again k = from_missed_again k.missed_again ∙ (ap (ask_second_max r) k.loaded ∙ (λ i. cond (k.within i) (Answer true) (ask_old_flag r r.old_flag)))

  pub from_old : OldThere r.bits r.version r.snapshot r.smallest r.first_word r.first_max r.delayed_flag r.in_prepared r.second_word r.second_max r.old_flag → ask r ≡ ask_is_old_commit r.is_old_commit
  from_old k = from_bounded_again k.bounded_again ∙ (ap (ask_old_flag r) k.loaded ∙ (λ i. cond (k.raised i) (Answer true) (ask_is_old_commit r.is_old_commit)))
