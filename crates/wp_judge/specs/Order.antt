-- In which order a reader loads, and what it concludes. Each definition has the rest of the order after one load.
use Rattle.std.specs.Prelude.{ℕ, ◌^◌, nat_lt, nat_le, ◌==◌, Bool, true, false, not, Option, Some, None, if◌then◌else◌}
use Rattle.wp_judge.specs.declared.observed.Observed.{Observed}
use Rattle.wp_judge.specs.declared.observed.Load.TheVariants.{FirstWord, FirstMax, DelayedFlag, SecondWord, SecondMax, OldFlag, IsOldCommit}
use Rattle.wp_judge.specs.declared.observed.Load.TheVariants as load
use Rattle.wp_judge.specs.declared.observed.Asked.{Asked}
use Rattle.wp_judge.specs.declared.observed.Asked.TheVariants.{Load, Answer}
use Rattle.wp_judge.specs.declared.observed.InPrepared.{InPrepared}
use Rattle.wp_judge.specs.declared.observed.InPrepared.TheVariants.{Absent, Delayed, Decided}
use Rattle.wp_judge.specs.Words.{decision_in_word}

-- a decision answers by itself: the version is visible from there on
abbrev pub answered_by : Option ℕ → ℕ → Asked → Asked
answered_by (Some c) s otherwise = Answer (nat_le c s)
answered_by None s otherwise = otherwise

-- a version that lies under the snapshot in the old commit map was committed above it
abbrev pub ask_is_old_commit : Option Bool → Asked
ask_is_old_commit None = Load IsOldCommit
ask_is_old_commit (Some is_old_commit) = Answer (not is_old_commit)

-- where the flag is 0 the old commit map is empty
abbrev pub ask_old_flag : Observed → Option ℕ → Asked
ask_old_flag r None = Load OldFlag
ask_old_flag r (Some flag) = if flag == 0 then Answer true else ask_is_old_commit r.is_old_commit

-- what was evicted was decided at the bound or before
abbrev pub ask_second_max : Observed → Option ℕ → Asked
ask_second_max r None = Load SecondMax
ask_second_max r (Some m) = if nat_lt m r.snapshot then Answer true else ask_old_flag r r.old_flag

-- the pair may have come into the cache since the first look
abbrev pub ask_second_word : Observed → Option ℕ → Asked
ask_second_word r None = Load SecondWord
ask_second_word r (Some word) = answered_by (decision_in_word (2 ^ r.bits) r.version word) r.snapshot (ask_second_max r r.second_max)

-- what is delayed and not committed is invisible
abbrev pub ask_in_prepared : Observed → Option InPrepared → Asked
ask_in_prepared r None = Load load.InPrepared
ask_in_prepared r (Some Absent) = ask_second_word r r.second_word
ask_in_prepared r (Some Delayed) = Answer false
ask_in_prepared r (Some (Decided c)) = Answer (nat_le c r.snapshot)

-- where the flag is 0 nothing is delayed
abbrev pub ask_delayed_flag : Observed → Option ℕ → Asked
ask_delayed_flag r None = Load DelayedFlag
ask_delayed_flag r (Some flag) = if flag == 0 then ask_second_word r r.second_word else ask_in_prepared r r.in_prepared

-- what is above the bound was never evicted: without its word it is not committed
abbrev pub ask_first_max : Observed → Option ℕ → Asked
ask_first_max r None = Load FirstMax
ask_first_max r (Some m) = if nat_lt m r.version then Answer false else ask_delayed_flag r r.delayed_flag

abbrev pub ask_first_word : Observed → Option ℕ → Asked
ask_first_word r None = Load FirstWord
ask_first_word r (Some word) = answered_by (decision_in_word (2 ^ r.bits) r.version word) r.snapshot (ask_first_max r r.first_max)

-- by the snapshot alone, where that decides, and else by what was loaded
abbrev pub ask : Observed → Asked
ask r = if nat_lt r.snapshot r.version then Answer false else (if nat_lt r.version r.smallest then Answer true else ask_first_word r r.first_word)

abbrev pub answer_of : Asked → Option Bool
answer_of (Load which) = None
answer_of (Answer visible) = Some visible

-- whether the version is visible at the snapshot; none while a load is wanting
abbrev pub judgement : Observed → Option Bool
judgement r = answer_of (ask r)
