-- How the steps of clearing a word follow each other.
use Rattle.std.proofs.Common.{◌≡◌, inl, inr, ℕ, ◌<◌, ◌≤◌, nat_le, Bool, true, false, true≢false, cond, List, refl, sym, subst, ap, Option, Some, None, arith}
use Rattle.std.specs.Prelude.{Result, Ok, Err, OnOk, OnErr, MatchBool}
use Rattle.std.specs.Option.{option_map}
use Rattle.std.proofs.lemmas.Bool.Decides.{nat_tests}
use Rattle.wp_model.specs.declared.entry.Entry.{Entry}
use Rattle.wp_judge.specs.Words.{CommitPair, commit_pair, numbers_of}
use Rattle.wp_core.specs.States.{Content}
use Rattle.wp_core.specs.Turns.{prepared_turn, snapshots_turn}
use Rattle.wp_core.specs.Views.{Fact, passed, in_old_commits, apart, words_stay, none_waits, delayed_flag_stays, old_flag_stays}
use Rattle.wp_core.specs.World.{Actor}
use Rattle.wp_model.proofs.Tests.{same_some, some_none}
use Rattle.wp_rule.specs.Knows.{Noted}
use Rattle.wp_shared.specs.Seats.{SeatState}
use Rattle.wp_rule.specs.Bound.{bound_past}
use Rattle.wp_rule.proofs.Bound.{past_reaches}
use Rattle.wp_commits.specs.Bound.{raised}
use Rattle.wp_commits.specs.Cleared.{IsThere, IsCleared}
use Rattle.wp_shared.specs.Notes.{is_flag, is_under, noting, GoesOn}
use Rattle.wp_commits.specs.Making.{noted_all}
use Rattle.wp_commits.specs.Notes.{is_of_words, is_of_place}
use Rattle.wp_shared.proofs.Goes.{holds_now, notes, stays, then, wider}

-- ---- the bound

pub raised_low : (cells published bound decision : ℕ) → decision ≤ bound → raised cells published bound decision ≡ bound
raised_low cells published bound decision low = let e : nat_le decision bound ≡ true = grind (arith, nat_tests) in ap (λ (b : Bool). cond b bound (bound_past cells published decision)) e

pub raised_high : (cells published bound decision : ℕ) → bound < decision → raised cells published bound decision ≡ bound_past cells published decision
raised_high cells published bound decision high = let e : nat_le decision bound ≡ false = grind (arith, nat_tests) in ap (λ (b : Bool). cond b bound (bound_past cells published decision)) e

pub raised_reaches : (cells published bound decision : ℕ) → decision ≤ raised cells published bound decision
raised_reaches cells published bound decision = by_test (nat_le decision bound) refl
  where
    by_test : (b : Bool) → nat_le decision bound ≡ b → decision ≤ cond b bound (bound_past cells published decision)
    by_test true e = grind (arith, nat_tests)
    by_test false e = past_reaches cells published decision

pub number_reached : (cells published bound p decision : ℕ) → p ≤ decision → p ≤ raised cells published bound decision
number_reached cells published bound p decision low = let high = raised_reaches cells published bound decision in omega (arith, low, high)

pub raised_keeps : (cells published bound decision : ℕ) → bound ≤ raised cells published bound decision
raised_keeps cells published bound decision = by_test (nat_le decision bound) refl
  where
    by_test : (b : Bool) → nat_le decision bound ≡ b → bound ≤ cond b bound (bound_past cells published decision)
    by_test true e = omega arith
    by_test false e = let past : bound < decision = grind (arith, nat_tests) in let reached = past_reaches cells published decision in omega (arith, past, reached)

pub reached_low : (p bound : ℕ) → p ≤ bound → cond (nat_le p bound) bound p ≡ bound
reached_low p bound low = let e : nat_le p bound ≡ true = grind (arith, nat_tests) in ap (λ (b : Bool). cond b bound p) e

pub reached_high : (p bound : ℕ) → bound < p → cond (nat_le p bound) bound p ≡ p
reached_high p bound high = let e : nat_le p bound ≡ false = grind (arith, nat_tests) in ap (λ (b : Bool). cond b bound p) e

-- ---- the pair that is there

pub still_there : (a b : Actor) (history : List Entry) (place p c : ℕ) (k : IsThere a history place p c) (bound : ℕ) → Noted b (words_stay bound k.words) → IsThere b history place p c
still_there a b history place p c k bound there =
    record { bound = bound; words = k.words; noted = there; within = k.within; there = k.there; published = k.published; decided = k.decided; ordered = k.ordered }

-- and the bound has come to its decision there
pub passed_there : (a b : Actor) (history : List Entry) (place p c cells published : ℕ) (k : IsThere a history place p c) → Noted b (words_stay (raised cells published k.bound c) k.words) → (l : IsThere b history place p c) × (c ≤ l.bound)
passed_there a b history place p c cells published k there = (
  record { bound = raised cells published k.bound c; words = k.words; noted = there; within = k.within; there = k.there; published = k.published; decided = k.decided; ordered = k.ordered },
  raised_reaches cells published k.bound c,
)

pub no_pair : (o : Option CommitPair) → None ≡ option_map numbers_of o → o ≡ None
no_pair None e = refl
no_pair (Some pair) e = let no : None ≡ Some (numbers_of pair) = e in absurd (cc)

pub that_pair : (o : Option CommitPair) (p c : ℕ) → Some (p, c) ≡ option_map numbers_of o → o ≡ Some (commit_pair p c)
that_pair None p c e = absurd (some_none (p, c) e)
that_pair (Some pair) p c e =
    let same : (p, c) ≡ numbers_of pair = same_some (p, c) (numbers_of pair) e in
    ap (λ (x : ℕ × ℕ). Some (commit_pair x.0 x.1)) (sym same)

pub on_ok : {T E : Type 0} (r : Result T E) (P Q : Type 0) → (P → Q) → OnOk r P → OnOk r Q
on_ok (Ok x) P Q f h = f h
on_ok (Err e) P Q f h = tt

pub err_any : {T E : Type 0} (r : Result T E) (P : Type 0) → P → OnErr r P
err_any (Ok x) P p = tt
err_any (Err e) P p = p

pub ok_any : {T E : Type 0} (r : Result T E) (P : Type 0) → P → OnOk r P
ok_any (Ok x) P p = p
ok_any (Err e) P p = tt

pub match_true : (b : Bool) (P Q : Type 0) → b ≡ true → MatchBool b P Q → P
match_true b P Q e k = subst (λ (x : Bool). MatchBool x P Q) e k

pub match_false : (b : Bool) (P Q : Type 0) → b ≡ false → MatchBool b P Q → Q
match_false b P Q e k = subst (λ (x : Bool). MatchBool x P Q) e k

-- ---- which notes a step may end

-- what is no note of words is no flag's
pub flags_too : (fact : Fact) → is_of_words fact ≡ false → is_flag fact ≡ false
flags_too (words_stay bound words) e = absurd (true≢false e)
flags_too none_waits e = absurd (true≢false e)
flags_too (delayed_flag_stays value) e = absurd (true≢false e)
flags_too (old_flag_stays value) e = absurd (true≢false e)
flags_too other e = refl

-- what the prepared turn guards alone, and the snapshots turn, are flags
pub flag_under_prepared : (fact : Fact) → is_flag fact ≡ false → is_under prepared_turn fact ≡ false
flag_under_prepared (delayed_flag_stays value) e = absurd (true≢false e)
flag_under_prepared (passed place pair) e = refl
flag_under_prepared other e = refl

pub flag_under_snapshots : (fact : Fact) → is_flag fact ≡ false → is_under snapshots_turn fact ≡ false
flag_under_snapshots (old_flag_stays value) e = absurd (true≢false e)
flag_under_snapshots (passed place pair) e = refl
flag_under_snapshots other e = refl

pub words_under_prepared : (fact : Fact) → is_of_words fact ≡ false → is_under prepared_turn fact ≡ false
words_under_prepared fact e = flag_under_prepared fact (flags_too fact e)

-- ---- one after another

module _ (s t u v : SeatState) where
  -- a note is made, and then what is no note of words is kept
  pub then_noted : (test : Fact → Bool) (fact : Fact) (h : List Content) (m : List ℕ) → GoesOn test h m s t → u ≡ noting fact t → GoesOn test h m s u
  then_noted test fact h m first is =
      then test s t u h h m m first
      (subst (λ (x : List Content × List ℕ). GoesOn test x.0 x.1 t u) (λ i. (holds_now test s t h m first i, ap (λ (y : SeatState). y.turns) first.same i)) (notes test t u u fact is))

  pub then_flags : (h k : List Content) (m : List ℕ) → GoesOn is_of_words h m s t → GoesOn is_flag k t.turns t u → GoesOn is_of_words k m s u
  then_flags h k m first second =
      then is_of_words s t u h k m m first
      (subst (λ (n : List ℕ). GoesOn is_of_words k n t u) (ap (λ (y : SeatState). y.turns) first.same) (wider is_flag t u u is_of_words k t.turns flags_too second))

  -- a seat that was found as it was before
  pub goes_from : (test : Fact → Bool) (h : List Content) → t ≡ s → GoesOn test h t.turns t u → GoesOn test h s.turns s u
  goes_from test h same second = subst (λ (x : SeatState). GoesOn test h x.turns x u) same second

  pub stays_at : (test : Fact → Bool) (h : List Content) → t ≡ s → s.knows.held ≡ h → GoesOn test h s.turns s t
  stays_at test h same held = subst (λ (x : SeatState). GoesOn test h s.turns s x) (sym same) (subst (λ (x : List Content). GoesOn test x s.turns s s) held (stays test s s s))

pub then_own : (s t u : SeatState) (test : Fact → Bool) (place : ℕ) (pair : CommitPair) (h : List Content) (m : List ℕ) → GoesOn test h m s t → u ≡ noted_all place pair t → GoesOn test h m s u
then_own s t u test place pair h m first is =
    let a : SeatState = noting (passed place pair) t in
    let b : SeatState = noting (in_old_commits place pair) a in
    then_noted s b u u test (apart place pair) h m (then_noted s a b u test (in_old_commits place pair) h m (then_noted s t a u test (passed place pair) h m first refl) refl) is

pub still_noted : (s t : SeatState) (new fact : Fact) → t ≡ noting new s → Noted s.knows fact → Noted t.knows fact
still_noted s t new fact is there = subst (λ (x : SeatState). Noted x.knows fact) (sym is) (inr there)

pub just_noted : (s t : SeatState) (new : Fact) → t ≡ noting new s → Noted t.knows new
just_noted s t new is = subst (λ (x : SeatState). Noted x.knows new) (sym is) (inl refl)

-- what is cleared stays so where the words stay
pub still_cleared : (test : Fact → Bool) (s t : SeatState) (h : List Content) (m : List ℕ) (place : ℕ) → ((fact : Fact) → is_of_words fact ≡ false → test fact ≡ false) → GoesOn test h m s t
    → ((bound : ℕ) (words : List ℕ) → Noted s.knows (words_stay bound words) → (b : ℕ) × Noted t.knows (words_stay b words)) → IsCleared s.knows place → IsCleared t.knows place
still_cleared test s t h m place less k words (inl empty) = let w = words empty.0 empty.1 empty.2 in inl (w.0, empty.1, w.1, empty.3)
still_cleared test s t h m place less k words (inr gone) =
    inr (gone.0, (k.noted (passed place gone.0) (less (passed place gone.0) refl) gone.1.0, k.noted (in_old_commits place gone.0) (less (in_old_commits place gone.0) refl) gone.1.1, k.noted (apart place gone.0) (less (apart place gone.0) refl) gone.1.2))

pub words_in_place : (place : ℕ) (fact : Fact) → is_of_place place fact ≡ false → is_of_words fact ≡ false
words_in_place place (passed i gone) e = refl
words_in_place place (in_old_commits i gone) e = refl
words_in_place place (apart i gone) e = refl
words_in_place place other e = e

-- a place is cleared as far as it was not, and then its word is stored
pub then_put : (s t u : SeatState) (h : List Content) (place place' : ℕ) → place' ≡ place → s.knows.held ≡ h → GoesOn is_of_words h s.turns s t → GoesOn (is_of_place place') t.knows.held t.turns t u
    → GoesOn (is_of_place place) s.knows.held s.turns s u
then_put s t u h place place' is held a second =
    let b : GoesOn (is_of_place place) t.knows.held t.turns t u = subst (λ (i : ℕ). GoesOn (is_of_place i) t.knows.held t.turns t u) is second in
    let b' : GoesOn (is_of_place place) h s.turns t u =
    subst (λ (x : List Content × List ℕ). GoesOn (is_of_place place) x.0 x.1 t u) (λ i. (holds_now is_of_words s t h s.turns a i, ap (λ (y : SeatState). y.turns) a.same i)) b in
    subst (λ (x : List Content). GoesOn (is_of_place place) x s.turns s u) (sym held) (then (is_of_place place) s t u h h s.turns s.turns (wider is_of_words s t u (is_of_place place) h s.turns (words_in_place place) a) b')
