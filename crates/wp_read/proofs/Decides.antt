-- What a version's number decides, and that a reading has fewer loads left after each.
use Rattle.std.proofs.Common.{◌≡◌, ℕ, ◌+◌, ◌<◌, ◌≤◌, Bool, true, false, refl, sym, subst, ap, ◌∙◌, Option, Some, None, is_some, arith}
use Rattle.std.specs.Prelude.{IsSome, nat_lt, if◌then◌else◌}
use Rattle.std.proofs.lemmas.Bool.{lt-ltb}
use Rattle.wp_judge.specs.declared.observed.Observed.{Observed}
use Rattle.wp_judge.specs.declared.observed.Load as loads
use Rattle.wp_judge.specs.declared.observed.Load.TheVariants.{FirstWord, FirstMax, DelayedFlag, InPrepared, SecondWord, SecondMax, OldFlag, IsOldCommit}
use Rattle.wp_judge.specs.declared.observed.Asked.TheVariants.{Load, Answer}
use Rattle.wp_judge.specs.Order.{answer_of, ask, ask_first_word}
use Rattle.wp_core.specs.Cache.{cached_word}
use Rattle.wp_core.specs.Changes.{loaded}
use Rattle.wp_core.specs.Lists.{IsIn}
use Rattle.wp_core.specs.Reading.{Registration, reads}
use Rattle.wp_core.specs.Sound.Reader.{IsRight}
use Rattle.wp_core.specs.World.{World}
use Rattle.wp_judge.proofs.ReaderOrder.{At, asked}
use Rattle.wp_model.proofs.Tests.{none_some}
use Rattle.wp_shared.specs.Calls.{Continues}
use Rattle.wp_shared.specs.Notes.{noting_only}
use Rattle.wp_shared.specs.Seats.{SharedState, SeatState, IsFree}
use Rattle.wp_shared.proofs.Onward.{starts_same}
use Rattle.wp_read.specs.declared.answers.Look.TheVariants as look
use Rattle.wp_read.specs.declared.answers.Free.{Free}
use Rattle.wp_read.specs.declared.answers.Free.TheVariants as free
use Rattle.wp_read.specs.Decides.{DecidesFree, IsFirstLook, Looks, reads_first}
use Rattle.wp_read.specs.Reads.{reading, KeepsNotes, Reads, Loads, IsNext, IsOf, IsOfWord}

-- ---- a version above the snapshot

module _ (p : ℕ) (snapshot : Registration) (r : Observed) (is : IsOf p snapshot r) (over : snapshot.number < p) where
  invisible : ask r ≡ Answer false
  invisible = ap (λ b. if b then Answer false else (if nat_lt r.version r.smallest then Answer true else ask_first_word r r.first_word)) (lt-ltb r.snapshot r.version over_here)
    where
      over_here : r.snapshot < r.version
      over_here = let v = is.0 in let s : r.snapshot ≡ snapshot.number = ap (λ (x : Registration). x.number) is.1 in omega arith

  pub above_is_invisible : (visible : Bool) → ask r ≡ Answer visible → visible ≡ false
  above_is_invisible visible e = same_answer visible false (sym e ∙ invisible)
    where
      same_answer : (a b : Bool) → Answer a ≡ Answer b → a ≡ b
      same_answer a b same = cc

  -- no load decides it
  pub above_has_no_load : (which : loads.Load) → ask r ≡ Load which → ⊥
  above_has_no_load which e = apart which false (sym e ∙ invisible)
    where
      apart : (x : loads.Load) (a : Bool) → Load x ≡ Answer a → ⊥
      apart x a same = cc

-- ---- the first two loads

module _ (bits p : ℕ) (snapshot : Registration) where
  word_first : (which : loads.Load) → At (reads bits p snapshot) which → which ≡ FirstWord
  word_first FirstWord k = refl
  word_first FirstMax k = absurd (none_some None k.0.word refl k.0.loaded)
  word_first DelayedFlag k = let m = k.0.missed in absurd (none_some None m.word refl m.loaded)
  word_first InPrepared k = let m = k.0.missed in absurd (none_some None m.word refl m.loaded)
  word_first SecondWord k = let m = k.0.bounded.missed in absurd (none_some None m.word refl m.loaded)
  word_first SecondMax k = let m = k.0.not_delayed.bounded.missed in absurd (none_some None m.word refl m.loaded)
  word_first OldFlag k = let m = k.0.missed_again.not_delayed.bounded.missed in absurd (none_some None m.word refl m.loaded)
  word_first IsOldCommit k = let m = k.0.bounded_again.missed_again.not_delayed.bounded.missed in absurd (none_some None m.word refl m.loaded)

  abbrev has_word : ℕ → Observed
  has_word word = record (reads bits p snapshot) { first_word = Some word }

  max_second : (word : ℕ) (which : loads.Load) → At (has_word word) which → which ≡ FirstMax
  max_second word FirstWord k = absurd (none_some (Some word) word k.1 refl)
  max_second word FirstMax k = refl
  max_second word DelayedFlag k = absurd (none_some None k.0.max refl k.0.loaded)
  max_second word InPrepared k = absurd (none_some None k.0.max refl k.0.loaded)
  max_second word SecondWord k = let m = k.0.bounded in absurd (none_some None m.max refl m.loaded)
  max_second word SecondMax k = let m = k.0.not_delayed.bounded in absurd (none_some None m.max refl m.loaded)
  max_second word OldFlag k = let m = k.0.missed_again.not_delayed.bounded in absurd (none_some None m.max refl m.loaded)
  max_second word IsOldCommit k = let m = k.0.bounded_again.missed_again.not_delayed.bounded in absurd (none_some None m.max refl m.loaded)

  flag_third : (word max : ℕ) (which : loads.Load) → At (reads_first bits p snapshot word max) which → which ≡ DelayedFlag
  flag_third word max FirstWord k = absurd (none_some (Some word) word k.1 refl)
  flag_third word max FirstMax k = absurd (none_some (Some max) max k.1 refl)
  flag_third word max DelayedFlag k = refl
  flag_third word max InPrepared k = absurd (none_some None k.1.0 refl k.1.1)
  flag_third word max SecondWord k = absurd (none_some None k.0.flag refl k.0.loaded)
  flag_third word max SecondMax k = let m = k.0.not_delayed in absurd (none_some None m.flag refl m.loaded)
  flag_third word max OldFlag k = let m = k.0.missed_again.not_delayed in absurd (none_some None m.flag refl m.loaded)
  flag_third word max IsOldCommit k = let m = k.0.bounded_again.missed_again.not_delayed in absurd (none_some None m.flag refl m.loaded)

  -- two loads that were asked for, the first of all
  pub none_looked : (none : Observed) → none ≡ reads bits p snapshot → IsFirstLook p snapshot none
  none_looked none nothing = subst (IsFirstLook p snapshot) (sym nothing) refl

  module _ (a : loads.Load) (none : Observed) (nothing : none ≡ reads bits p snapshot) (first : Load a ≡ ask none) where
    is_word : a ≡ FirstWord
    is_word = word_first a (asked (reads bits p snapshot) a (sym (first ∙ ap ask nothing)))

    pub first_of_word : IsOfWord a
    first_of_word = subst IsOfWord (sym is_word) (λ (e : FirstWord ≡ InPrepared). cc, λ (e : FirstWord ≡ IsOldCommit). cc)

    module _ (w : World) (r : Observed) (is : r ≡ loaded w a none) where
      abbrev word_there : ℕ
      word_there = cached_word w.cache p

      with_word : r ≡ has_word word_there
      with_word = is ∙ (λ i. loaded w (is_word i) (nothing i))

      pub first_bits : bits ≤ 16 → r.bits ≤ 16
      first_bits few = subst (λ (x : Observed). x.bits ≤ 16) (sym with_word) few

      pub first_looked : IsFirstLook p snapshot r
      first_looked = subst (IsFirstLook p snapshot) (sym with_word) refl

      module _ (b : loads.Load) (second : Load b ≡ ask r) where
        is_max : b ≡ FirstMax
        is_max = max_second word_there b (asked (has_word word_there) b (sym (second ∙ ap ask with_word)))

        pub second_of_word : IsOfWord b
        second_of_word = subst IsOfWord (sym is_max) (λ (e : FirstMax ≡ InPrepared). cc, λ (e : FirstMax ≡ IsOldCommit). cc)

        module _ (w' : World) (r' : Observed) (then_is : r' ≡ loaded w' b r) where
          with_max : r' ≡ reads_first bits p snapshot word_there w'.max_evicted
          with_max = then_is ∙ (λ i. loaded w' (is_max i) (with_word i))

          pub second_bits : bits ≤ 16 → r'.bits ≤ 16
          second_bits few = subst (λ (x : Observed). x.bits ≤ 16) (sym with_max) few

          pub second_looked : IsFirstLook p snapshot r'
          second_looked = subst (IsFirstLook p snapshot) (sym with_max) refl

          pub has_first_word : IsSome r'.first_word
          has_first_word = ap (λ (x : Observed). is_some x.first_word) with_max

          pub has_first_max : IsSome r'.first_max
          has_first_max = ap (λ (x : Observed). is_some x.first_max) with_max

          pub looked : (word max : ℕ) → r'.first_word ≡ Some word → r'.first_max ≡ Some max → r' ≡ reads_first r'.bits p snapshot word max
          looked word max word_is max_is =
              with_max ∙ (λ i. record (reads ((sym (ap (λ (x : Observed). x.bits) with_max)) i) p snapshot) {
                first_word = (sym (ap (λ (x : Observed). x.first_word) with_max) ∙ word_is) i;
                first_max = (sym (ap (λ (x : Observed). x.first_max) with_max) ∙ max_is) i;
              })

          pub flag_next : (which : loads.Load) → Load which ≡ ask r' → ask r' ≡ Load DelayedFlag
          flag_next which third =
              sym third ∙ ap (λ x. Load x) (flag_third word_there w'.max_evicted which (asked (reads_first bits p snapshot word_there w'.max_evicted) which (sym (third ∙ ap ask with_max))))

-- ---- what is read is kept

-- a look that decides the version
pub look_decides : {D : Type 0} (z : SharedState D) (s t : SeatState) (p : ℕ) (snapshot : Registration) (r : Observed) (visible : Bool) → Reads z s t r → IsFirstLook p snapshot r → Answer visible ≡ ask r → Looks z s t p snapshot (look.Decided visible)
look_decides z s t p snapshot r visible k first is =
    (r, k, first, sym is, subst (λ (x : Observed). IsRight s.knows.participant.seen x.version x.snapshot visible) first (k.right visible (ap answer_of (sym is))))

module _ {D : Type 0} {z : SharedState D} {s t : SeatState} {r : Observed} (k : Reads z s t r) where
  pub reads_next : (which : loads.Load) → Load which ≡ ask r → IsNext t r which
  reads_next which is = (ap (λ (x : SeatState). x.knows.reading) k.seat, sym is)

  pub reads_same : t.knows.participant ≡ s.knows.participant
  reads_same = ap (λ (x : SeatState). x.knows.participant) k.seat

  pub reads_continues : IsFree z.table s → Continues z s t s.knows.participant
  reads_continues was =
      subst (λ (x : SeatState). Continues z s x s.knows.participant) (sym k.seat)
      (record {
        free = record { same_table = was.same_table; live = was.live; turns = was.turns; held = was.held };
        same_by = refl;
        seen = starts_same s.knows.participant.seen;
        participant = refl;
        notes = λ fact loose there. there;
        made = refl;
        joined = refl;
      })

  -- one reading after another
  pub reads_then : {u : SeatState} {r' : Observed} → Reads z t u r' → Reads z s u r'
  reads_then {u = u} {r' = r'} next = record {
    seat = next.seat ∙ ap (λ (x : SeatState). reading x r') k.seat;
    right = λ visible judged. subst (λ (x : SeatState). IsRight x.knows.participant.seen r'.version r'.snapshot visible) k.seat (next.right visible judged);
    cells = next.cells;
  }

-- where it noted more besides
pub noted_continues : {D : Type 0} {z : SharedState D} {s t : SeatState} {r : Observed} → Reads z (noting_only t.knows.notes s) t r → KeepsNotes s.knows.notes t.knows.notes → IsFree z.table s → Continues z s t s.knows.participant
noted_continues k keeps was =
    let on = reads_continues k (record { same_table = was.same_table; live = was.live; turns = was.turns; held = was.held }) in
    record { free = on.free; same_by = on.same_by; seen = on.seen; participant = on.participant; notes = keeps; made = on.made; joined = on.joined }

-- what it has loaded, whatever that decides
pub reading_of : {D : Type 0} (z : SharedState D) (s t : SeatState) (p : ℕ) (snapshot : Registration) (f : Free) → DecidesFree z s t p snapshot f → (r : Observed) × Reads z s t r
reading_of z s t p snapshot (free.Decided visible) k = (k.0, k.1)
reading_of z s t p snapshot (free.Prepared r) k = (r, k.0)
reading_of z s t p snapshot (free.Snapshots r) k = (r, k.0)

-- ---- how many loads are left

abbrev pub missing : {A : Type 0} → Option A → ℕ
missing None = 1
missing (Some x) = 0

abbrev pub loads_left : Observed → ℕ
loads_left r = missing r.first_word + missing r.first_max + missing r.delayed_flag + missing r.in_prepared + missing r.second_word + missing r.second_max + missing r.old_flag + missing r.is_old_commit

pub one_less : (w : World) (which : loads.Load) (r : Observed) → ask r ≡ Load which → loads_left (loaded w which r) < loads_left r
one_less w which r e = by which (asked r which e)
  where
    by : (x : loads.Load) → At r x → loads_left (loaded w x r) < loads_left r
    by FirstWord k = let n : missing r.first_word ≡ 1 = ap missing k.1 in omega arith
    by FirstMax k = let n : missing r.first_max ≡ 1 = ap missing k.1 in omega arith
    by DelayedFlag k = let n : missing r.delayed_flag ≡ 1 = ap missing k.1 in omega arith
    by InPrepared k = let n : missing r.in_prepared ≡ 1 = ap missing k.2 in omega arith
    by SecondWord k = let n : missing r.second_word ≡ 1 = ap missing k.1 in omega arith
    by SecondMax k = let n : missing r.second_max ≡ 1 = ap missing k.1 in omega arith
    by OldFlag k = let n : missing r.old_flag ≡ 1 = ap missing k.1 in omega arith
    by IsOldCommit k = let n : missing r.is_old_commit ≡ 1 = ap missing k.1 in omega arith

-- ---- one load more

module _ {D : Type 0} (z : SharedState D) (which : loads.Load) (s t : SeatState) (r r' : Observed) (l : Loads z which s t r r') where
  pub fewer_left : ask r ≡ Load which → loads_left r' < loads_left r
  fewer_left e = subst (λ (x : Observed). loads_left x < loads_left r) (sym l.is_loaded) (one_less l.world which r e)

  pub loads_noted : Loads z which (noting_only t.knows.notes s) t r r'
  loads_noted = subst (λ notes. Loads z which (noting_only notes s) t r r') (sym (ap (λ (x : SeatState). x.knows.notes) l.reads.seat)) l

  pub load_keeps : KeepsNotes s.knows.notes t.knows.notes
  load_keeps fact loose there = subst (λ (x : SeatState). IsIn fact x.knows.notes) (sym l.reads.seat) there
