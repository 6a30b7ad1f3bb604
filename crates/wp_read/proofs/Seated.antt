-- A seat under a turn, and what it is again once it gave what it took.
use Rattle.std.proofs.Common.{◌≡◌, inl, inr, ℕ, suc, ◌≤◌, List, [], ◌∷◌, ◌++◌, length, map, refl, sym, subst, ap, ◌∙◌, Option, Some, None, append-nil}
use Rattle.std.specs.Prelude.{MatchOption, Result, Ok, unwrap_or}
use Rattle.std.specs.FinMap as finite
use Rattle.wp_model.specs.declared.entry.Entry.{Entry}
use Rattle.wp_model.specs.PreparedSets.{PreparedSets, IsSmallest, NonePrepared}
use Rattle.wp_model.specs.Snapshots as snaps
use Rattle.wp_model.specs.Snapshots.{Snapshots, NoOldCommits}
use Rattle.wp_judge.specs.declared.observed.Observed.{Observed}
use Rattle.wp_judge.specs.declared.observed.Load.{Load}
use Rattle.wp_core.specs.Changes.{turn_index, sees, registers, releases, held_with, with_registered, with_released}
use Rattle.wp_core.specs.Lists.{IsIn}
use Rattle.wp_core.specs.Reading.{Registration}
use Rattle.wp_core.specs.Sound.Actors.{StartsWith}
use Rattle.wp_core.specs.Sound.Reader.{IsRight}
use Rattle.wp_core.specs.States.{Content, prepared, snapshots, turn_of}
use Rattle.wp_core.specs.Turns.{prepared_turn, snapshots_turn}
use Rattle.wp_core.specs.Views.{Fact, delayed_flag_stays, old_flag_stays, live_listed}
use Rattle.wp_core.specs.World.{Participant}
use Rattle.wp_rule.specs.Words.{IsAt}
use Rattle.wp_rule.proofs.Knows.{at_sound, seen_is}
use Rattle.wp_shared.specs.Calls.{IsLoose, GoesOnWith, GoesOnAs, Continues}
use Rattle.wp_shared.specs.Notes.{no_fact, is_under, noting_only, GoesOn}
use Rattle.wp_shared.specs.Seats.{SharedState, SeatState, IsFree, place_at}
use Rattle.wp_shared.specs.Turns.{HoldsTurn, KnowsToGive, Taken, Given}
use Rattle.wp_shared.proofs.Goes.{then}
use Rattle.wp_shared.proofs.Tables.{held_state, knows_to_give}
use Rattle.wp_shared.proofs.Onward.{IsBlind, starts_equal, loose_none, loose_under, goes_none, goes_same, goes_fewer, goes_then, goes_still, goes_free, holds_next, holds_alone, holds_two}
use Rattle.wp_read.specs.Reads.{reading, KeepsNotes, Loads}
use Rattle.wp_read.specs.Registers.{again, registration_of, with_each, pinned, Registers, Unregisters, ChangesSnapshots, HasLeast, IsTakenAt, registered_by}
use Rattle.wp_read.proofs.Registers.{registered_and_released, kept_by_register}

-- ---- the live snapshots that it holds change

module _ {D : Type 0} {z : SharedState D} {others : List Content} {beneath : List ℕ} where
  -- it is as it was
  pub changes_none : {s : SeatState} {m : Snapshots} → HoldsTurn z s (snapshots m) others beneath → ChangesSnapshots z s s s.knows.participant m others beneath
  changes_none {s = s} was = record { goes = goes_none s; holds = was }

  -- it is this participant now, with these live snapshots in place of the others
  changes_by : {before : Snapshots} (s t : SeatState) (h learned : List Entry) (read : Option Observed) (rs : List Registration) (m : Snapshots) (notes : List Fact) → HoldsTurn z s (snapshots before) others beneath
      → t ≡ record s { knows = record s.knows { participant = record s.knows.participant { seen = h; registered = rs }; learned = learned; held = snapshots m ∷ others; reading = read; notes = notes } } → StartsWith h s.knows.participant.seen
      → ((fact : Fact) → IsIn fact s.knows.notes → IsIn fact notes) → ChangesSnapshots z s t (record s.knows.participant { registered = rs }) m others beneath
  changes_by s t h learned read rs m notes was is grown kept = subst (λ (x : SeatState). ChangesSnapshots z s x (record s.knows.participant { registered = rs }) m others beneath) (sym is) (record {
    goes = record { same_table = refl; same_by = refl; live = refl; seen = grown; participant = refl; notes = λ fact any there. kept fact there; made = refl; joined = refl };
    holds = record { same_table = was.same_table; live = was.live; held = refl; turns = was.turns };
  })

  -- one change after another
  pub changes_then : (s t u : SeatState) (p : Participant) (rs : List Registration) (m m' : Snapshots) → ChangesSnapshots z s t p m others beneath → ChangesSnapshots z t u (record t.knows.participant { registered = rs }) m' others beneath
      → ChangesSnapshots z s u (record p { registered = rs }) m' others beneath
  changes_then s t u p rs m m' first second = record { goes = goes_then s t u p (λ q. record q { registered = rs }) (λ q h k. refl) first.goes second.goes; holds = second.holds }

  -- the answer is no refusal
  pub changes_ok : {A E : Type 0} {s t : SeatState} {m : Snapshots} {result : Result A E} {a : A} (adds : A → List Registration) → result ≡ Ok a → ChangesSnapshots z s t (registered_by adds result s.knows.participant) m others beneath
      → ChangesSnapshots z s t (record s.knows.participant { registered = s.knows.participant.registered ++ adds a }) m others beneath
  changes_ok {s = s} {t = t} {m = m} adds is k = subst (λ x. ChangesSnapshots z s t (registered_by adds x s.knows.participant) m others beneath) is k

  -- a registration is taken back
  pub released_one : (s t : SeatState) (front back : List Registration) (r : Registration) (m m' : Snapshots) → Unregisters s t front back r m → HoldsTurn z s (snapshots m) others beneath → m' ≡ with_released m r.number
      → ChangesSnapshots z s t (record s.knows.participant { registered = front ++ back }) m' others beneath
  released_one s t front back r m m' k was same =
      let seen = s.knows.participant.seen in
      let held : held_with s.knows.held (snapshots (with_released m r.number)) ≡ snapshots m' ∷ others = ap (λ h. held_with h (snapshots (with_released m r.number))) was.held ∙ ap (λ (x : Snapshots). snapshots x ∷ others) (sym same) in
      changes_by s t seen s.knows.learned _ (front ++ back) m' s.knows.notes was (k.seat ∙ (λ i. record s { knows = record (releases s.knows (front ++ back)) { held = held i } })) (starts_equal seen seen refl) (λ fact there. there)

  -- all that is live is registered once more
  pub pinned_more : (s t : SeatState) (floor : ℕ) (numbers : List ℕ) (m : Snapshots) → HoldsTurn z s (snapshots m) others beneath → t ≡ pinned s floor numbers m others
      → ChangesSnapshots z s t (record s.knows.participant { registered = s.knows.participant.registered ++ map again numbers }) (with_each m numbers) others beneath
  pinned_more s t floor numbers m was is =
      let p = s.knows.participant in changes_by s t p.seen s.knows.learned s.knows.reading (p.registered ++ map again numbers) (with_each m numbers) (live_listed floor numbers ∷ s.knows.notes) was is (starts_equal p.seen p.seen refl) (λ fact there. inr there)

-- the number is registered
module _ {D : Type 0} {z : SharedState D} {s t : SeatState} {n : ℕ} {least : Option ℕ} {m : Snapshots} {others : List Content} {beneath : List ℕ} (k : Registers z s t n least m) (was : HoldsTurn z s (snapshots m) others beneath) where
  abbrev history : List Entry
  history = k.world.writes.history

  seen_after : t.knows.participant.seen ≡ history
  seen_after = ap (λ (x : SeatState). x.knows.participant.seen) k.seat

  snapshots_are : k.world.snapshots ≡ m
  snapshots_are = held_state (place_at z s.by) s.knows k.world (snapshots m) k.there (subst (IsIn (snapshots m)) (sym was.held) (inl refl))

  abbrev adding : Registration → Participant
  adding r = record s.knows.participant { registered = s.knows.participant.registered ++ r ∷ [] }

  pub changed_so : (m' : Snapshots) → m' ≡ with_registered m n → ChangesSnapshots z s t (adding (registration_of n least)) m' others beneath
  changed_so m' same =
      let held : held_with s.knows.held (snapshots (with_registered m n)) ≡ snapshots m' ∷ others = ap (λ h. held_with h (snapshots (with_registered m n))) was.held ∙ ap (λ (x : Snapshots). snapshots x ∷ others) (sym same) in
      changes_by s t history [] s.knows.reading (adding (registration_of n least)).registered m' s.knows.notes was
      (k.seat ∙ (λ i. record s { knows = record (registers (sees history s.knows) (registration_of n least)) { held = held i } }))
      (seen_is (place_at z s.by) s.knows k.world k.there)
      (λ fact there. there)

  module _ (r : Registration) (is : r ≡ registration_of n least) where
    pub changed : (m' : Snapshots) → m' ≡ with_registered m n → ChangesSnapshots z s t (adding r) m' others beneath
    changed m' same = subst (λ (x : Registration). ChangesSnapshots z s t (adding x) m' others beneath) (sym is) (changed_so m' same)

    pub number_seen : r.number ≡ length t.knows.participant.seen
    number_seen = ap (λ (x : Registration). x.number) is ∙ (k.number_is ∙ ap length (sym seen_after))

    pub smallest_is : r.smallest ≡ unwrap_or least (suc r.number)
    smallest_is = ap (λ (x : Registration). x.smallest) is ∙ ap (λ (x : Registration). unwrap_or least (suc x.number)) (sym is)

    abbrev taken_at : IsTakenAt z s t.knows.participant.seen r m
    taken_at = record {
      world = k.world;
      actor = s.knows;
      there = k.there;
      participant = refl;
      made = refl;
      joined = refl;
      held = subst (IsIn (snapshots m)) (sym was.held) (inl refl);
      live = snapshots_are;
      history_is = sym seen_after;
      number = ap (λ (x : Registration). x.number) is ∙ k.number_is;
    }

    pub was_taken : (taken : IsTakenAt z s t.knows.participant.seen r m) × ((tables : PreparedSets) → IsIn (prepared tables) s.knows.held → MatchOption least (NonePrepared tables) (IsSmallest tables) → HasLeast taken.world r)
    was_taken = (taken_at, λ tables there found. by tables least (held_state (place_at z s.by) s.knows k.world (prepared tables) k.there there) smallest_is found)
      where
        by : (tables : PreparedSets) (o : Option ℕ) → k.world.prepared ≡ tables → r.smallest ≡ unwrap_or o (suc r.number) → MatchOption o (NonePrepared tables) (IsSmallest tables) → HasLeast k.world r
        by tables None are e none = inl (subst NonePrepared (sym are) none, e)
        by tables (Some p) are e least = inr (subst (λ (x : PreparedSets × ℕ). IsSmallest x.0 x.1) (λ i. ((sym are) i, (sym e) i)) least)

  pub none_zero : (x : snaps.LiveSnapshot) → finite.get m n ≡ Some x → 1 ≤ x.registrations
  none_zero x e = ((at_sound (place_at z s.by) s.knows k.world k.there).registrations.live n x (ap (λ (y : Snapshots). finite.get y n) snapshots_are ∙ e)).0

  -- it is taken back
  pub changed_back : (u : SeatState) (m' : Snapshots) → Unregisters t u s.knows.participant.registered [] (registration_of n least) (with_registered m n) → m' ≡ m → ChangesSnapshots z s u s.knows.participant m' others beneath
  changed_back u m' back same =
      let rs = s.knows.participant.registered in
      let first = changed_so (with_registered m n) refl in
      subst (λ (l : List Registration). ChangesSnapshots z s u (record s.knows.participant { registered = l }) m' others beneath) (append-nil rs)
      (changes_then s t u (adding (registration_of n least)) (rs ++ []) (with_registered m n) m' first (released_one t u rs [] (registration_of n least) (with_registered m n) m' back first.holds (same ∙ sym (registered_and_released m n none_zero))))

-- what is kept where it was registered
pub kept_before : (m m' : Snapshots) (n : ℕ) → m' ≡ with_registered m n → NoOldCommits m' → NoOldCommits m
kept_before m m' n same none = kept_by_register m n (subst NoOldCommits same none)

-- ---- the prepared turn and then the snapshots turn are taken, lent, and given in the other order

module _ {D : Type 0} {z : SharedState D} {s0 s1 s2 : SeatState} {m : Snapshots} {tables : PreparedSets} (free : IsFree z.table s0) (first : Taken z s0 s1 (prepared tables)) (second : Taken z s1 s2 (snapshots m)) where
  pub took_both : GoesOn no_fact (snapshots m ∷ s1.knows.held) (2 ∷ s1.turns) s0 s2
  took_both = then no_fact s0 s1 s2 (prepared tables ∷ s0.knows.held) (snapshots m ∷ s1.knows.held) (1 ∷ s0.turns) (2 ∷ s1.turns) first.goes second.goes

  module _ {m1 : Snapshots} {tables1 : PreparedSets} (lent : m1 ≡ m) (shown : tables1 ≡ tables) where
    pub holds_both : HoldsTurn z s2 (snapshots m1) (prepared tables1 ∷ []) (1 ∷ [])
    holds_both = subst (λ (x : Snapshots × PreparedSets). HoldsTurn z s2 (snapshots x.0) (prepared x.1 ∷ []) (1 ∷ [])) (λ i. ((sym lent) i, (sym shown) i)) (holds_two (holds_alone free first) second)

    module _ {s3 : SeatState} {m' : Snapshots} {after : Participant} (changes : ChangesSnapshots z s2 s3 after m' (prepared tables1 ∷ []) (1 ∷ [])) where
      pub holds_changed : HoldsTurn z s3 (snapshots m') (prepared tables ∷ []) (1 ∷ [])
      holds_changed = subst (λ (x : PreparedSets). HoldsTurn z s3 (snapshots m') (prepared x ∷ []) (1 ∷ [])) shown changes.holds

      -- the old commit map has nothing that it did not have
      pub gives_snaps : (NoOldCommits m' → NoOldCommits m1) → KnowsToGive s3.knows (snapshots m')
      gives_snaps kept none = changes.goes.notes (old_flag_stays 0) tt (knows_to_give s2.knows (snapshots m) second.knows (subst NoOldCommits lent (kept none)))

      module _ {s4 : SeatState} (gives : (others : List Content) (beneath : List ℕ) → HoldsTurn z s3 (snapshots m') others beneath → Given z snapshots_turn s3 s4 others beneath) where
        gave : Given z snapshots_turn s3 s4 (prepared tables ∷ []) (1 ∷ [])
        gave = gives (prepared tables ∷ []) (1 ∷ []) holds_changed

        pub holds_left : HoldsTurn z s4 (prepared tables) [] []
        holds_left = holds_next changes.holds gave.goes

        pub gives_tables : KnowsToGive s4.knows (prepared tables)
        gives_tables none = let fact = delayed_flag_stays 0 in gave.goes.noted fact refl (changes.goes.notes fact tt (second.goes.noted fact refl (knows_to_give s1.knows (prepared tables) first.knows none)))

        module _ {s5 : SeatState} (gives_last : (others : List Content) (beneath : List ℕ) → HoldsTurn z s4 (prepared tables) others beneath → Given z prepared_turn s4 s5 others beneath) where
          gave_last : Given z prepared_turn s4 s5 [] []
          gave_last = gives_last [] [] holds_left

          gives_both : GoesOnAs s3 s5 s3.knows.participant
          gives_both =
              goes_still s3 s4 s5 s3.knows.participant (goes_same s3 s4 (is_under snapshots_turn) (prepared tables ∷ []) (1 ∷ []) (loose_under snapshots_turn) gave.goes)
              (goes_same s4 s5 (is_under prepared_turn) [] [] (loose_under prepared_turn) gave_last.goes)

          pub seen_both : s3.knows.participant.seen ≡ s5.knows.participant.seen
          seen_both = sym (ap (λ (s : SeatState). s.knows.participant.seen) gave_last.goes.same ∙ ap (λ (s : SeatState). s.knows.participant.seen) gave.goes.same)

          pub noted_both : (fact : Fact) → IsLoose fact → IsIn fact s3.knows.notes → IsIn fact s5.knows.notes
          noted_both = gives_both.notes

          pub continues_both : (f : Participant → Participant) → IsBlind f → after ≡ f s2.knows.participant → Continues z s0 s5 (f s0.knows.participant)
          continues_both f blind is =
              let changed : GoesOnAs s2 s3 (f s2.knows.participant) = subst (GoesOnAs s2 s3) is (goes_fewer s2 s3 after (λ fact loose. tt) changes.goes) in
              goes_free z s0 s5 (f s0.knows.participant) (gave_last.free refl refl)
              (goes_still s0 s3 s5 (f s0.knows.participant) (goes_then s0 s2 s3 s0.knows.participant f blind (goes_same s0 s2 no_fact (snapshots m ∷ s1.knows.held) (2 ∷ s1.turns) loose_none took_both) changed) gives_both)

-- ---- the snapshots turn alone is taken, lent, and given

module _ {D : Type 0} {z : SharedState D} {s0 s1 : SeatState} {m : Snapshots} (first : Taken z s0 s1 (snapshots m)) where
  continues_under : (s2 s3 : SeatState) (f : Participant → Participant) → IsBlind f → GoesOnAs s1 s2 (f s1.knows.participant) → Given z snapshots_turn s2 s3 [] [] → Continues z s0 s3 (f s0.knows.participant)
  continues_under s2 s3 f blind changed gave =
      goes_free z s0 s3 (f s0.knows.participant) (gave.free refl refl)
      (goes_still s0 s2 s3 (f s0.knows.participant) (goes_then s0 s1 s2 s0.knows.participant f blind (goes_same s0 s1 no_fact (snapshots m ∷ s0.knows.held) (2 ∷ s0.turns) loose_none first.goes) changed)
      (goes_same s2 s3 (is_under snapshots_turn) [] [] (loose_under snapshots_turn) gave.goes))

  module _ {m1 : Snapshots} (lent : m1 ≡ m) where
    pub holds_lent : IsFree z.table s0 → HoldsTurn z s1 (snapshots m1) [] []
    holds_lent free = subst (λ (x : Snapshots). HoldsTurn z s1 (snapshots x) [] []) (sym lent) (holds_alone free first)

    module _ {s2 : SeatState} {m' : Snapshots} {after : Participant} {Stays : Fact → Type 0} (loose : (fact : Fact) → IsLoose fact → Stays fact) (goes : GoesOnWith Stays s1 s2 after) (holds : HoldsTurn z s2 (snapshots m') [] []) where
      -- the old commit map has nothing that it did not have
      pub gives_lent : Stays (old_flag_stays 0) → (NoOldCommits m' → NoOldCommits m1) → KnowsToGive s2.knows (snapshots m')
      gives_lent stays kept none = goes.notes (old_flag_stays 0) stays (knows_to_give s1.knows (snapshots m) first.knows (subst NoOldCommits lent (kept none)))

      module _ {s3 : SeatState} (gives : (others : List Content) (beneath : List ℕ) → HoldsTurn z s2 (snapshots m') others beneath → Given z snapshots_turn s2 s3 others beneath) where
        gave_lent : Given z snapshots_turn s2 s3 [] []
        gave_lent = gives [] [] holds

        pub seen_lent : s2.knows.participant.seen ≡ s3.knows.participant.seen
        seen_lent = sym (ap (λ (s : SeatState). s.knows.participant.seen) gave_lent.goes.same)

        pub continues_lent : (f : Participant → Participant) → IsBlind f → after ≡ f s1.knows.participant → Continues z s0 s3 (f s0.knows.participant)
        continues_lent f blind is = continues_under s2 s3 f blind (subst (GoesOnAs s1 s2) is (goes_fewer s1 s2 after loose goes)) gave_lent

-- ---- a registration is taken back under the snapshots turn alone, and the old-map flag is seen to

module _ {D : Type 0} {z : SharedState D} {s0 s1 s2 s3 s4 : SeatState} {m m' : Snapshots} (rs : List Registration) (first : Taken z s0 s1 (snapshots m)) (changes : ChangesSnapshots z s1 s2 (record s1.knows.participant { registered = rs }) m' [] [])
    (in_step : GoesOn (is_under snapshots_turn) s2.knows.held s2.turns s2 s3) (gave : Given z snapshots_turn s3 s4 [] []) where
  pub continues_one : Continues z s0 s4 (record s0.knows.participant { registered = rs })
  continues_one =
      let p : Participant = record s1.knows.participant { registered = rs } in
      let changed : GoesOnAs s1 s2 p = goes_fewer s1 s2 p (λ fact loose. tt) changes.goes in
      continues_under first s3 s4 (λ q. record q { registered = rs }) (λ q h k. refl) (goes_still s1 s2 s3 p changed (goes_same s2 s3 (is_under snapshots_turn) s2.knows.held s2.turns (loose_under snapshots_turn) in_step)) gave

-- ---- a look under a turn

module _ {D : Type 0} {z : SharedState D} {which : Load} {s0 s1 s2 : SeatState} {r r' : Observed} {c : Content} (free : IsFree z.table s0) (k : Taken z s0 s1 c) (l : Loads z which s1 s2 r r') where
  pub holds_looked : HoldsTurn z s2 c [] []
  holds_looked = let h = holds_alone free k in subst (λ (s : SeatState). HoldsTurn z s c [] []) (sym l.reads.seat) (record { same_table = h.same_table; live = h.live; held = h.held; turns = h.turns })

  pub noted_looked : (fact : Fact) → IsIn fact s1.knows.notes → IsIn fact s2.knows.notes
  noted_looked fact there = subst (λ (s : SeatState). IsIn fact s.knows.notes) (sym l.reads.seat) there

  module _ {s3 : SeatState} (g : Given z (turn_of c) s2 s3 [] []) where
    looked : s2 ≡ reading (record s0 { knows = record s0.knows { held = c ∷ s0.knows.held; notes = s1.knows.notes }; turns = turn_index (turn_of c) ∷ s0.turns }) r'
    looked = l.reads.seat ∙ ap (λ (s : SeatState). reading s r') k.goes.same

    seat_back : s3 ≡ reading (noting_only s3.knows.notes s0) r'
    seat_back = g.goes.same ∙ (λ i. record (looked i) { knows = record (looked i).knows { held = (sym free.held) i; notes = s3.knows.notes }; turns = (sym free.turns) i })

    pub loads_between : Loads z which (noting_only s3.knows.notes s0) s3 r r'
    loads_between = record {
      reads = record {
        seat = seat_back;
        right = λ visible judged. subst (λ (s : SeatState). IsRight s.knows.participant.seen r'.version r'.snapshot visible) k.goes.same (l.reads.right visible judged);
        cells = l.reads.cells;
      };
      world = l.world;
      actor = l.actor;
      there = subst (λ (s : SeatState). IsAt (place_at z s.by) l.actor l.world) k.goes.same l.there;
      is_loaded = l.is_loaded;
    }

    pub keeps_between : KeepsNotes s0.knows.notes s3.knows.notes
    keeps_between fact loose there = g.goes.noted fact (loose_under (turn_of c) fact loose) (noted_looked fact (k.goes.noted fact refl there))
