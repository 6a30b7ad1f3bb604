-- Each load of a reader keeps a world sound: what it knows then is so, and where it needs no more its answer is right.
use Rattle.std.proofs.Common.{◌≡◌, ◌≢◌, ◌⊎◌, inl, inr, ⊎_elim, ℕ, ◌^◌, ◌<◌, ◌≤◌, nat_le, nat_lt, ◌==◌, eq-eqb, Bool, true, false, not, cond, true≢false, length, refl, sym, subst, ap, ◌∙◌, Option, Some, None, option_map, le_trans, arith}
use Rattle.std.proofs.lemmas.Bool.Decides.{nat_tests}
use mathlib.Core.Option.{some}
use lib.ListN.{get_elem?}
use Rattle.std.specs.FinSet as set
use Rattle.std.specs.FinMap as finite
use Rattle.wp_model.specs.Decision.{decision_of, IsCommittedAt}
use Rattle.wp_model.specs.Snapshots.{IsLive, is_old_commit}
use Rattle.wp_judge.specs.declared.observed.Observed.{Observed}
use Rattle.wp_judge.specs.declared.observed.Load as loads
use Rattle.wp_judge.specs.declared.observed.Load.TheVariants.{FirstWord, FirstMax, DelayedFlag, SecondWord, SecondMax, OldFlag, IsOldCommit}
use Rattle.wp_judge.specs.declared.observed.Load.TheVariants as variant
use Rattle.wp_judge.specs.declared.observed.Asked.{Asked}
use Rattle.wp_judge.specs.declared.observed.Asked.TheVariants.{Load, Answer}
use Rattle.wp_judge.specs.declared.observed.InPrepared.{InPrepared}
use Rattle.wp_judge.specs.declared.observed.InPrepared.TheVariants.{Absent, Delayed, Decided}
use Rattle.wp_judge.specs.Words.{decision_in_word}
use Rattle.wp_judge.specs.Order.{answered_by, ask_is_old_commit, ask_old_flag, ask_second_max, ask_second_word, ask_in_prepared, ask_delayed_flag, ask_first_max, answer_of, ask, judgement}
use Rattle.wp_core.specs.Lists.{IsIn}
use Rattle.wp_core.specs.Cache.{cached_word, cached}
use Rattle.wp_core.specs.Reading.{Registration, snapshot_of}
use Rattle.wp_core.specs.Views.{Fact}
use Rattle.wp_core.specs.World.{Actor, World}
use Rattle.wp_core.specs.Steps as step
use Rattle.wp_core.specs.Changes.{found_in, loaded}
use Rattle.wp_core.specs.Effects.{done}
use Rattle.wp_core.specs.Needs.{Needs}
use Rattle.wp_core.specs.Notes.{forgets, ends}
use Rattle.wp_core.specs.Sound.Snapshots.{has_versions_at}
use Rattle.wp_core.specs.Sound.Reader.{ReaderKnows, IsInOrder, IsReader, IsRight, reader_of, OnlyAfter, IsPassedBy, IsReachedBy, AnswersFor, NotInPrepared}
use Rattle.wp_core.specs.IsSound.{IsSound}
use Rattle.wp_core.proofs.Frames.{at_map}
use Rattle.wp_core.proofs.HistoryLaws.{decided_late}
use Rattle.wp_core.proofs.Registered.{registered_live}
use Rattle.wp_judge.proofs.ReaderOrder.{NotDelayed, MissedAgain, At, asked, from_begun, from_missed, from_flag, from_not_delayed, from_missed_again, from_bounded_again, from_old}
use Rattle.wp_core.proofs.ReaderFacts.{decided_unless_delayed, answers_now, reached_by, passed_by, extended_right, word_right, old_right, delayed_right}
use Rattle.wp_core.proofs.Looks.{leaves_most, looks}
use Rattle.wp_model.proofs.Tests.{same_some, some_none, none_some}

-- ---- answers

-- an answer by a test, where the other way asks for a load
answered_if : (b v visible : Bool) (which : loads.Load) → answer_of (cond b (Answer v) (Load which)) ≡ Some visible → (b ≡ true) × (v ≡ visible)
answered_if true v visible which e = (refl, same_some v visible e)
answered_if false v visible which e = let no : None ≡ Some visible = e in absurd (cc)

answered_word : (d : Option ℕ) (s : ℕ) (visible : Bool) (which : loads.Load) → answer_of (answered_by d s (Load which)) ≡ Some visible → (c : ℕ) × (d ≡ Some c) × (nat_le c s ≡ visible)
answered_word (Some c) s visible which e = (c, refl, same_some (nat_le c s) visible e)
answered_word None s visible which e = let no : None ≡ Some visible = e in absurd (cc)

not_answered : (x : Asked) (which : loads.Load) (visible : Bool) → x ≡ Load which → answer_of x ≡ Some visible → ⊥
not_answered x which visible is e = let no : None ≡ Some visible = sym (ap answer_of is) ∙ e in absurd (cc)

abbrev read_at : Observed → ℕ × Registration
read_at r = (r.version, snapshot_of r)

-- a load leaves the version, the snapshot and its smallest
same_reading : (w : World) (r : Observed) (which : loads.Load) → read_at (loaded w which r) ≡ read_at r
same_reading w r FirstWord = refl
same_reading w r FirstMax = refl
same_reading w r DelayedFlag = refl
same_reading w r variant.InPrepared = refl
same_reading w r SecondWord = refl
same_reading w r SecondMax = refl
same_reading w r OldFlag = refl
same_reading w r IsOldCommit = refl

same_bits : (w : World) (r : Observed) (which : loads.Load) → (loaded w which r).bits ≡ r.bits
same_bits w r FirstWord = refl
same_bits w r FirstMax = refl
same_bits w r DelayedFlag = refl
same_bits w r variant.InPrepared = refl
same_bits w r SecondWord = refl
same_bits w r SecondMax = refl
same_bits w r OldFlag = refl
same_bits w r IsOldCommit = refl

-- ---- what a sound world says of a reader

module _ (w : World) (r : Observed) (s : IsSound w) (live : (r.snapshot ≤ length w.writes.history)) (order : IsInOrder r) (knows : r.version ≤ r.snapshot → ReaderKnows w.writes.history w.max_evicted w.cache w.prepared.delayed_commits w.snapshots r) (bits : 2 ^ r.bits ≡ length w.cache) (is_live : IsLive w.snapshots r.snapshot) where
  abbrev next : loads.Load → Observed
  next which = loaded w which r

  within_snapshot : (b : Bool) → nat_lt r.snapshot r.version ≡ b → b ≡ false → r.version ≤ r.snapshot
  within_snapshot b e f = let t : nat_lt r.snapshot r.version ≡ false = e ∙ f in grind (arith, nat_tests)

  -- ---- what was loaded before, and what was not yet, part by part: a load changes what names it

  zero_is : (m : ℕ) → (m == 0) ≡ true → m ≡ 0
  zero_is m e = grind (arith, nat_tests)

  first_max_after : (which : loads.Load) → At r which → OnlyAfter (next which).first_word (next which).first_max
  first_max_after FirstWord at e = absurd (some_none _ e)
  first_max_after FirstMax at e = absurd (none_some r.first_word at.0.word e at.0.loaded)
  first_max_after which at e = order.first_max e

  delayed_flag_after : (which : loads.Load) → At r which → OnlyAfter (next which).first_max (next which).delayed_flag
  delayed_flag_after FirstMax at e = absurd (some_none _ e)
  delayed_flag_after DelayedFlag at e = absurd (none_some r.first_max at.0.max e at.0.loaded)
  delayed_flag_after which at e = order.delayed_flag e

  in_prepared_after : (which : loads.Load) → At r which → OnlyAfter (next which).delayed_flag (next which).in_prepared
  in_prepared_after DelayedFlag at e = absurd (some_none _ e)
  in_prepared_after variant.InPrepared at e = absurd (none_some r.delayed_flag at.1.0 e at.1.1)
  in_prepared_after which at e = order.in_prepared e

  second_word_after : (which : loads.Load) → At r which → OnlyAfter (next which).delayed_flag (next which).second_word
  second_word_after DelayedFlag at e = absurd (some_none _ e)
  second_word_after SecondWord at e = absurd (none_some r.delayed_flag at.0.flag e at.0.loaded)
  second_word_after which at e = order.second_word e

  looked_after : (which : loads.Load) → At r which → (flag : ℕ) → (next which).delayed_flag ≡ Some flag → flag ≢ 0 → OnlyAfter (next which).in_prepared (next which).second_word
  looked_after DelayedFlag at flag e raised none = order.second_word at.1
  looked_after variant.InPrepared at flag e raised none = absurd (some_none _ none)
  looked_after SecondWord at flag e raised none =
      ⊎_elim (λ (is : (at.0.flag == 0) ≡ true). absurd (raised (same_some flag at.0.flag (sym e ∙ at.0.loaded) ∙ zero_is at.0.flag is)))
      (λ (is : ((at.0.flag == 0) ≡ false) × (r.in_prepared ≡ Some Absent)). absurd (none_some r.in_prepared Absent none is.1)) at.0.found
  looked_after which at flag e raised none = order.looked flag e raised none

  second_max_after : (which : loads.Load) → At r which → OnlyAfter (next which).second_word (next which).second_max
  second_max_after SecondWord at e = absurd (some_none _ e)
  second_max_after SecondMax at e = absurd (none_some r.second_word at.0.word e at.0.loaded)
  second_max_after which at e = order.second_max e

  old_flag_after : (which : loads.Load) → At r which → OnlyAfter (next which).second_max (next which).old_flag
  old_flag_after SecondMax at e = absurd (some_none _ e)
  old_flag_after OldFlag at e = absurd (none_some r.second_max at.0.max e at.0.loaded)
  old_flag_after which at e = order.old_flag e

  is_old_commit_after : (which : loads.Load) → At r which → OnlyAfter (next which).old_flag (next which).is_old_commit
  is_old_commit_after OldFlag at e = absurd (some_none _ e)
  is_old_commit_after IsOldCommit at e = absurd (none_some r.old_flag at.0.flag e at.0.loaded)
  is_old_commit_after which at e = order.is_old_commit e

  orders_load : (which : loads.Load) → At r which → IsInOrder (next which)
  orders_load which at = record {
    first_max = first_max_after which at;
    delayed_flag = delayed_flag_after which at;
    in_prepared = in_prepared_after which at;
    second_word = second_word_after which at;
    looked = looked_after which at;
    second_max = second_max_after which at;
    old_flag = old_flag_after which at;
    is_old_commit = is_old_commit_after which at;
  }

  -- ---- what is known, part by part

  abbrev Knows : Type 0
  Knows = ReaderKnows w.writes.history w.max_evicted w.cache w.prepared.delayed_commits w.snapshots r

  is_absent : InPrepared → Bool
  is_absent Absent = true
  is_absent other = false

  found_absent : (b : Bool) (o : Option ℕ) → found_in b o ≡ Absent → (b ≡ false) × (o ≡ None)
  unfolding is_absent
  found_absent false None e = (refl, refl)
  found_absent false (Some c) e = let t : is_absent (Decided c) ≡ is_absent Absent = ap is_absent e in absurd (true≢false (sym t))
  found_absent true None e = let t : is_absent Delayed ≡ is_absent Absent = ap is_absent e in absurd (true≢false (sym t))
  found_absent true (Some c) e = let t : is_absent (Decided c) ≡ is_absent Absent = ap is_absent e in absurd (true≢false (sym t))

  -- once it is found not to be delayed, it is decided
  decided_by_now : Knows → NotDelayed r.bits r.version r.snapshot r.smallest r.first_word r.first_max r.delayed_flag r.in_prepared → (c : ℕ) × (decision_of w.writes.history r.version ≡ Some c) × AnswersFor w.max_evicted w.cache w.snapshots r.snapshot r.version c
  decided_by_now k n = k.not_in_prepared (record { bound = n.bounded.max; loaded = n.bounded.loaded; within = bound n.bounded.max n.bounded.within; found = by_found n.found })
    where
      bound : (m : ℕ) → nat_lt m r.version ≡ false → r.version ≤ m
      bound m e = grind (arith, nat_tests)

      by_found : ((n.flag == 0) ≡ true) ⊎ (((n.flag == 0) ≡ false) × (r.in_prepared ≡ Some Absent)) → (r.in_prepared ≡ Some Absent) ⊎ (r.delayed_flag ≡ Some 0)
      by_found (inl is) = inr (n.loaded ∙ ap Some (zero_is n.flag is))
      by_found (inr is) = inl is.1

  -- what the word as it is now has for the version
  word_now : (word : ℕ) → Some (cached_word w.cache r.version) ≡ Some word → decision_in_word (2 ^ r.bits) r.version word ≡ None → cached w.cache r.version ≡ None
  word_now word e another = ap (λ (n : ℕ). decision_in_word n r.version (cached_word w.cache r.version)) (sym bits) ∙ (ap (decision_in_word (2 ^ r.bits) r.version) (same_some (cached_word w.cache r.version) word e) ∙ another)

  known_first_word : (which : loads.Load) → Knows → (word : ℕ) → (next which).first_word ≡ Some word → decision_in_word (2 ^ (next which).bits) (next which).version word ≡ None → IsCommittedAt w.writes.history (next which).version (next which).snapshot → IsReachedBy w.writes.history w.max_evicted w.cache w.prepared.delayed_commits (next which).version
  known_first_word FirstWord k word e another is =
      reached_by w.writes.history w.cache w.prepared.delayed_commits w.max_evicted w.snapshots r.version is.by s.decided is.decided (decided_late w.writes.history r.version is.by s.history.legal is.decided) (word_now word e another)
  known_first_word which k word e another is = k.first_word word e another is

  known_first_max : (which : loads.Load) → Knows → (m : ℕ) → (next which).first_max ≡ Some m → m ≤ w.max_evicted
  known_first_max FirstMax k m e = let q : w.max_evicted ≡ m = same_some w.max_evicted m e in omega arith
  known_first_max which k m e = k.first_max m e

  below_bound : Knows → (n : ℕ) → r.first_max ≡ Some n → r.version ≤ n → r.version ≤ w.max_evicted
  below_bound k n e le = le_trans le (k.first_max n e)

  -- a decided version that no prepared set has is answered for
  answered : r.version ≤ r.snapshot → (c : ℕ) × (decision_of w.writes.history r.version ≡ Some c) → finite.get w.prepared.delayed_commits r.version ≡ None
      → (c : ℕ) × (decision_of w.writes.history r.version ≡ Some c) × AnswersFor w.max_evicted w.cache w.snapshots r.snapshot r.version c
  answered le d none = (d.0, d.1, answers_now w.writes.history w.cache w.prepared.delayed_commits w.max_evicted w.snapshots r.snapshot r.version d.0 s.decided d.1 none is_live le)

  known_not_in_prepared : (which : loads.Load) → At r which → r.version ≤ r.snapshot → Knows → NotInPrepared (next which).version (next which).first_max (next which).delayed_flag (next which).in_prepared → (c : ℕ) × (decision_of w.writes.history (next which).version ≡ Some c) × AnswersFor w.max_evicted w.cache w.snapshots (next which).snapshot (next which).version c
  known_not_in_prepared FirstMax at le k n =
      let flag : r.delayed_flag ≡ None = order.delayed_flag at.1 in
      ⊎_elim (λ (t : r.in_prepared ≡ Some Absent). absurd (none_some r.in_prepared Absent (order.in_prepared flag) t)) (λ (t : r.delayed_flag ≡ Some 0). absurd (none_some r.delayed_flag 0 flag t)) n.found
  known_not_in_prepared DelayedFlag at le k n =
      ⊎_elim (λ (t : r.in_prepared ≡ Some Absent). absurd (none_some r.in_prepared Absent (order.in_prepared at.1) t))
      (λ (t : Some w.delayed_flag ≡ Some 0).
      let nothing = s.flags.none_delayed (same_some w.delayed_flag 0 t) in
      answered le (decided_unless_delayed w.writes.history w.writes.pending w.prepared w.max_evicted r.version s.undecided k.version (below_bound k n.bound n.loaded n.within) (nothing.0 r.version)) (nothing.1 r.version))
      n.found
  known_not_in_prepared variant.InPrepared at le k n =
      ⊎_elim
      (λ (t : Some (found_in (set.contains w.prepared.delayed r.version) (finite.get w.prepared.delayed_commits r.version)) ≡ Some Absent).
      let none = found_absent (set.contains w.prepared.delayed r.version) (finite.get w.prepared.delayed_commits r.version) (same_some _ Absent t) in
      answered le (decided_unless_delayed w.writes.history w.writes.pending w.prepared w.max_evicted r.version s.undecided k.version (below_bound k n.bound n.loaded n.within) none.0) none.1)
      (λ (t : r.delayed_flag ≡ Some 0). k.not_in_prepared (record { bound = n.bound; loaded = n.loaded; within = n.within; found = inr t })) n.found
  known_not_in_prepared which at le k n = k.not_in_prepared n

  known_second_word : (which : loads.Load) → At r which → Knows → (word : ℕ) → (next which).second_word ≡ Some word → decision_in_word (2 ^ (next which).bits) (next which).version word ≡ None → IsPassedBy w.writes.history w.max_evicted w.cache (next which).version
  known_second_word SecondWord at k word e another = let d = decided_by_now k at.0 in passed_by w.writes.history w.cache w.max_evicted w.snapshots r.snapshot r.version d.0 d.1 d.2 (word_now word e another)
  known_second_word which at k word e another = k.second_word word e another

  known_second_max : (which : loads.Load) → At r which → Knows → (m : ℕ) → (next which).second_max ≡ Some m → (c : ℕ) × (decision_of w.writes.history (next which).version ≡ Some c) × (c ≤ m)
  known_second_max SecondMax at k m e = let p = k.second_word at.0.word at.0.loaded at.0.another in let low = p.within in let q : w.max_evicted ≡ m = same_some w.max_evicted m e in (p.by, p.decided, omega arith)
  known_second_max which at k m e = k.second_max m e

  knows_load : (which : loads.Load) → At r which → r.version ≤ r.snapshot → Knows → ReaderKnows w.writes.history w.max_evicted w.cache w.prepared.delayed_commits w.snapshots (next which)
  knows_load which at le k = record {
    version = subst (λ (p : ℕ). has_versions_at w.writes.history p ≡ true) (λ i. (sym (same_reading w r which) i).0) k.version;
    first_word = known_first_word which k;
    first_max = known_first_max which k;
    not_in_prepared = known_not_in_prepared which at le k;
    second_word = known_second_word which at k;
    second_max = known_second_max which at k;
  }

  -- ---- the answer after each load

  right_first_word : (visible : Bool) → At r FirstWord → judgement (loaded w FirstWord r) ≡ Some visible → IsRight w.writes.history r.version r.snapshot visible
  right_first_word visible at e =
      let now : Observed = loaded w FirstWord r in
      let asks : ask now ≡ answered_by (cached w.cache r.version) r.snapshot (Load FirstMax) = from_begun now at.0 ∙ (λ i. answered_by (decision_in_word (bits i) r.version (cached_word w.cache r.version)) r.snapshot (ask_first_max now (order.first_max at.1 i))) in
      let a = answered_word (cached w.cache r.version) r.snapshot visible FirstMax (sym (ap answer_of asks) ∙ e) in
      word_right w.writes.history w.writes.pending w.cache r.version r.snapshot a.0 visible s.cache (within_snapshot _ refl at.0.within) live a.1 a.2

  right_first_max : (visible : Bool) → At r FirstMax → judgement (loaded w FirstMax r) ≡ Some visible → IsRight w.writes.history r.version r.snapshot visible
  right_first_max visible at e =
      let now : Observed = loaded w FirstMax r in
      let asks : ask now ≡ cond (nat_lt w.max_evicted r.version) (Answer false) (Load DelayedFlag) = from_missed now at.0 ∙ (λ i. cond (nat_lt w.max_evicted r.version) (Answer false) (ask_delayed_flag now (order.delayed_flag at.1 i))) in
      let a = answered_if (nat_lt w.max_evicted r.version) false visible DelayedFlag (sym (ap answer_of asks) ∙ e) in
      let k = knows (within_snapshot _ refl at.0.begun.within) in
      subst (IsRight w.writes.history r.version r.snapshot) a.1
      (λ (is : IsCommittedAt w.writes.history r.version r.snapshot).
      let passed = k.first_word at.0.word at.0.loaded at.0.another is in
      let low = passed.reached in
      let lt : nat_lt w.max_evicted r.version ≡ true = a.0 in let below : w.max_evicted < r.version = grind (arith, nat_tests) in absurd (omega arith))

  not_by_flag : (now : Observed) (b visible : Bool) → now.second_word ≡ None → now.in_prepared ≡ None → answer_of (cond b (ask_second_word now now.second_word) (ask_in_prepared now now.in_prepared)) ≡ Some visible → ⊥
  not_by_flag now true visible second prepared e = not_answered (ask_second_word now now.second_word) SecondWord visible (ap (ask_second_word now) second) e
  not_by_flag now false visible second prepared e = not_answered (ask_in_prepared now now.in_prepared) variant.InPrepared visible (ap (ask_in_prepared now) prepared) e

  right_delayed_flag : (visible : Bool) → At r DelayedFlag → judgement (loaded w DelayedFlag r) ≡ Some visible → IsRight w.writes.history r.version r.snapshot visible
  right_delayed_flag visible at e =
      let now : Observed = loaded w DelayedFlag r in
      let asks = from_flag now at.0 w.delayed_flag (w.delayed_flag == 0) refl refl in
      absurd (not_by_flag now (w.delayed_flag == 0) visible (order.second_word at.1) (order.in_prepared at.1) (sym (ap answer_of asks) ∙ e))

  raised_flag : (flag : ℕ) → (flag == 0) ≡ false → flag ≢ 0
  raised_flag flag e q = true≢false (sym (eq-eqb flag 0 q) ∙ e)

  by_prepared : (now : Observed) (visible b : Bool) (o : Option ℕ) → r.version ≤ r.snapshot → now.version ≡ r.version → now.snapshot ≡ r.snapshot → now.second_word ≡ None
      → set.contains w.prepared.delayed r.version ≡ b → finite.get w.prepared.delayed_commits r.version ≡ o → (IsCommittedAt w.writes.history r.version r.snapshot → cached w.cache r.version ≡ None)
      → answer_of (ask_in_prepared now (Some (found_in b o))) ≡ Some visible → IsRight w.writes.history r.version r.snapshot visible
  by_prepared now visible b (Some c) le v sn second there commit gone e =
      extended_right w.writes.history w.writes.pending r.version r.snapshot c visible le live (s.delayed.commits r.version c commit) (same_some (nat_le c r.snapshot) visible (sym (ap (λ n. Some (nat_le c n)) sn) ∙ e))
  by_prepared now visible true None le v sn second there commit gone e =
      subst (IsRight w.writes.history r.version r.snapshot) (same_some false visible e) (delayed_right w.writes.history w.writes.pending w.prepared w.cache r.version r.snapshot s.delayed there commit gone)
  by_prepared now visible false None le v sn second there commit gone e = absurd (not_answered (ask_second_word now now.second_word) SecondWord visible (ap (ask_second_word now) second) e)

  right_in_prepared : (visible : Bool) → At r variant.InPrepared → judgement (loaded w variant.InPrepared r) ≡ Some visible → IsRight w.writes.history r.version r.snapshot visible
  right_in_prepared visible at e =
      let now : Observed = loaded w variant.InPrepared r in
      let asks = from_flag now at.0 at.1.0 false at.1.1 at.1.2 in
      let k = knows (within_snapshot _ refl at.0.missed.begun.within) in
      by_prepared now visible (set.contains w.prepared.delayed r.version) (finite.get w.prepared.delayed_commits r.version) (within_snapshot _ refl at.0.missed.begun.within) refl refl (order.looked at.1.0 at.1.1 (raised_flag at.1.0 at.1.2) at.2) refl refl
      (λ is. (k.first_word at.0.missed.word at.0.missed.loaded at.0.missed.another is).gone)
      (sym (ap answer_of asks) ∙ e)

  right_second_word : (visible : Bool) → At r SecondWord → judgement (loaded w SecondWord r) ≡ Some visible → IsRight w.writes.history r.version r.snapshot visible
  right_second_word visible at e =
      let now : Observed = loaded w SecondWord r in
      let asks : ask now ≡ answered_by (cached w.cache r.version) r.snapshot (Load SecondMax) = from_not_delayed now at.0 ∙ (λ i. answered_by (decision_in_word (bits i) r.version (cached_word w.cache r.version)) r.snapshot (ask_second_max now (order.second_max at.1 i))) in
      let a = answered_word (cached w.cache r.version) r.snapshot visible SecondMax (sym (ap answer_of asks) ∙ e) in
      word_right w.writes.history w.writes.pending w.cache r.version r.snapshot a.0 visible s.cache (within_snapshot _ refl at.0.bounded.missed.begun.within) live a.1 a.2

  right_second_max : (visible : Bool) → At r SecondMax → judgement (loaded w SecondMax r) ≡ Some visible → IsRight w.writes.history r.version r.snapshot visible
  right_second_max visible at e =
      let now : Observed = loaded w SecondMax r in
      let asks : ask now ≡ cond (nat_lt w.max_evicted r.snapshot) (Answer true) (Load OldFlag) = from_missed_again now at.0 ∙ (λ i. cond (nat_lt w.max_evicted r.snapshot) (Answer true) (ask_old_flag now (order.old_flag at.1 i))) in
      let a = answered_if (nat_lt w.max_evicted r.snapshot) true visible OldFlag (sym (ap answer_of asks) ∙ e) in
      let k = knows (within_snapshot _ refl at.0.not_delayed.bounded.missed.begun.within) in
      let p = k.second_word at.0.word at.0.loaded at.0.another in let low = p.within in
      let lt : nat_lt w.max_evicted r.snapshot ≡ true = a.0 in let below : w.max_evicted < r.snapshot = grind (arith, nat_tests) in
      subst (IsRight w.writes.history r.version r.snapshot) a.1 (record { by = p.by; decided = p.decided; within = omega arith })

  -- once its word is gone, the old commit map decides
  old_decides : (b : Bool) → MissedAgain r.bits r.version r.snapshot r.smallest r.first_word r.first_max r.delayed_flag r.in_prepared r.second_word → is_old_commit w.snapshots r.snapshot r.version ≡ b → IsRight w.writes.history r.version r.snapshot (not b)
  old_decides b n there =
      let le = within_snapshot _ refl n.not_delayed.bounded.missed.begun.within in
      let p = (knows le).second_word n.word n.loaded n.another in let d = decided_by_now (knows le) n.not_delayed in
      old_right w.writes.history w.cache w.prepared.delayed_commits w.max_evicted w.snapshots r.version r.snapshot d.0 b s.decided d.1 p.gone d.2 there

  right_old_flag : (visible : Bool) → At r OldFlag → judgement (loaded w OldFlag r) ≡ Some visible → IsRight w.writes.history r.version r.snapshot visible
  right_old_flag visible at e =
      let now : Observed = loaded w OldFlag r in
      let asks : ask now ≡ cond (w.old_flag == 0) (Answer true) (Load IsOldCommit) = from_bounded_again now at.0 ∙ (λ i. cond (w.old_flag == 0) (Answer true) (ask_is_old_commit (order.is_old_commit at.1 i))) in
      let a = answered_if (w.old_flag == 0) true visible IsOldCommit (sym (ap answer_of asks) ∙ e) in
      subst (IsRight w.writes.history r.version r.snapshot) a.1 (old_decides false at.0.missed_again (s.flags.none_kept (zero_is w.old_flag a.0) r.snapshot r.version))

  right_old_commit : (visible : Bool) → At r IsOldCommit → judgement (loaded w IsOldCommit r) ≡ Some visible → IsRight w.writes.history r.version r.snapshot visible
  right_old_commit visible at e =
      let now : Observed = loaded w IsOldCommit r in
      let b = is_old_commit w.snapshots r.snapshot r.version in
      subst (IsRight w.writes.history r.version r.snapshot) (same_some (not b) visible (sym (ap answer_of (from_old now at.0)) ∙ e)) (old_decides b at.0.bounded_again.missed_again refl)

  right_load : (which : loads.Load) (visible : Bool) → At r which → judgement (loaded w which r) ≡ Some visible → IsRight w.writes.history r.version r.snapshot visible
  right_load FirstWord visible = right_first_word visible
  right_load FirstMax visible = right_first_max visible
  right_load DelayedFlag visible = right_delayed_flag visible
  right_load variant.InPrepared visible = right_in_prepared visible
  right_load SecondWord visible = right_second_word visible
  right_load SecondMax visible = right_second_max visible
  right_load OldFlag visible = right_old_flag visible
  right_load IsOldCommit visible = right_old_commit visible

-- ---- the step

reads_is : (w : World) (which : loads.Load) (o : Option Observed) (r x : Observed) → o ≡ Some r → option_map (loaded w which) o ≡ Some x → loaded w which r ≡ x
reads_is w which o r x is e = same_some (loaded w which r) x (sym (ap (option_map (loaded w which)) is) ∙ e)

pub load_keeps : (w : World) (by : ℕ) (a : Actor) (which : loads.Load) → get_elem? w.actors by ≡ some a → Needs w by a (step.load which) → IsSound w → IsSound (done w by (forgets w.writes.history (length w.cache) (step.load which) a) (step.load which))
load_keeps w by a which at n s =
    let b : Actor = record (forgets w.writes.history (length w.cache) (step.load which) a) { reading = option_map (loaded w which) a.reading } in
    let r : Observed = n.0 in
    let reader = s.readers by (reader_of a) (at_map reader_of w.actors by a at) r n.1 in
    let so_far = asked r which n.2 in
    let live = registered_live w.writes.history w.snapshots w.actors by a (snapshot_of r) at reader.registered_at s.registrations in
    let same = same_reading w r which in
    looks w by a b at
    (leaves_most w a b.reading (λ (f : Fact). not (ends w.writes.history (length w.cache) (step.load which) f)))
    record {
      knows = λ x e. subst (IsReader w.writes.history w.max_evicted w.cache w.prepared.delayed_commits w.snapshots a.participant.registered) (reads_is w which a.reading r x n.1 e)
          record {
            words = ap (λ (n : ℕ). 2 ^ n) (same_bits w r which) ∙ reader.words;
            registered_at = subst (λ z. IsIn z a.participant.registered) (λ i. (sym same i).1) reader.registered_at;
            in_order = orders_load w r s live.1 reader.in_order reader.knows reader.words live.0 which so_far;
            knows = λ le. (let low = subst (λ (z : ℕ × ℕ). z.0 ≤ z.1) (λ i. ((same i).0, (same i).1.number)) le in knows_load w r s live.1 reader.in_order reader.knows reader.words live.0 which so_far low (reader.knows low));
          };
      right = λ x visible e judged. let is : loaded w which r ≡ x = reads_is w which a.reading r x n.1 e in
          subst (λ (y : Observed). IsRight w.writes.history y.version y.snapshot visible) is
          (subst (λ (z : ℕ × ℕ). IsRight w.writes.history z.0 z.1 visible) (λ i. ((sym same i).0, (sym same i).1.number))
          (right_load w r s live.1 reader.in_order reader.knows reader.words live.0 which visible so_far (ap judgement is ∙ judged)));
      idle = λ dead. let i = s.idle by a at dead in absurd (none_some a.reading r i.reading n.1);
    } s
