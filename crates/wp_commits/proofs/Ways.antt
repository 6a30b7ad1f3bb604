-- What is ready for pairs to come stays so, and the ways of a record one after another.
use Rattle.std.proofs.Common.{◌≡◌, ◌≢◌, inl, inr, ℕ, zero, suc, ◌+◌, ◌≤◌, Bool, false, List, [], ◌∷◌, ◌++◌, length, take, drop, append_assoc, refl, sym, subst, ap, ◌∙◌, Option, Some, None, arith, true, cond, ⊎_elim, ◌⊎◌, nat_le}
use Rattle.std.specs.Prelude.{slice_get}
use Rattle.std.proofs.lemmas.List.{take-append-drop}
use Rattle.std.specs.List.{cons_option}
use Rattle.std.proofs.lemmas.Bool.{cases_eq}
use Rattle.std.proofs.lemmas.Bool.Decides.{nat_tests}
use Rattle.wp_model.specs.declared.entry.Entry.{Entry}
use Rattle.wp_judge.specs.Words.{CommitPair, commit_pair, fits}
use Rattle.wp_core.specs.Cache.{cache_place, pair_at}
use Rattle.wp_core.specs.Entries.{pair_by, pending_pair, pairs_of}
use Rattle.wp_core.specs.Lists.{IsIn}
use Rattle.wp_core.specs.States.{Content}
use Rattle.wp_core.specs.Views.{Fact, passed, in_old_commits, apart, words_stay}
use Rattle.wp_core.specs.World.{Actor}
use Rattle.wp_model.proofs.Tests.{same_some, none_some}
use Rattle.wp_rule.specs.Knows.{Noted}
use Rattle.wp_shared.specs.Seats.{SeatState}
use Rattle.wp_commits.specs.declared.way.Way.{Way}
use Rattle.wp_commits.specs.declared.way.Way.TheVariants.{Undecided, InWord, Delayed}
use Rattle.wp_commits.specs.Bound.{bound_after, bound_with, bound_for}
use Rattle.wp_commits.specs.Cleared.{MayGoFrom, IsCleared, IsReadyAt}
use Rattle.wp_shared.specs.Notes.{GoesOn}
use Rattle.wp_commits.specs.Ways.{way_of, ways_of, with_way, Clears, AnyClears, IsReached, IsClearedFor, AreCleared, AreReady, IsElsewhere, AreElsewhere, MayPrecede}
use Rattle.wp_commits.proofs.Clears.{raised_keeps}

-- ---- what is ready stays so

-- what was noted of words and of the pairs that may go, it has noted still, but that the bound may have risen
pub record KeepsReady (a b : Actor) : Type 0 where
  pub words : (bound : ℕ) (words : List ℕ) → Noted a (words_stay bound words) → (later : ℕ) × Noted b (words_stay later words) × (bound ≤ later)
  pub gone : (place : ℕ) (pair : CommitPair) → MayGoFrom a place pair → MayGoFrom b place pair

-- a seat that goes on, where the test is about no pair of a word
pub keeps_ready : (test : Fact → Bool) (s t : SeatState) (h : List Content) (m : List ℕ) → ((place : ℕ) (pair : CommitPair) → (test (passed place pair) ≡ false) × (test (in_old_commits place pair) ≡ false) × (test (apart place pair) ≡ false)) → GoesOn test h m s t
    → ((bound : ℕ) (words : List ℕ) → Noted s.knows (words_stay bound words) → (later : ℕ) × Noted t.knows (words_stay later words) × (bound ≤ later)) → KeepsReady s.knows t.knows
keeps_ready test s t h m less k words = record {
  words = words;
  gone = λ place pair may. let l = less place pair in (k.noted (passed place pair) l.0 may.0, k.noted (in_old_commits place pair) l.1 may.1, k.noted (apart place pair) l.2 may.2);
}

module _ (a b : Actor) (k : KeepsReady a b) where
  cleared_still : (place : ℕ) → IsCleared a place → IsCleared b place
  cleared_still place (inl empty) = let w = k.words empty.0 empty.1 empty.2 in inl (w.0, empty.1, w.1, empty.3)
  cleared_still place (inr gone) = inr (gone.0, k.gone place gone.0 gone.1)

  pub reached_still : (p : ℕ) → IsReached a p → IsReached b p
  reached_still p r = let w = k.words r.0 r.1 r.2 in let low = r.3 in let later = w.2 in (w.0, r.1, w.1, omega (arith, low, later))

  pub are_cleared_still : (cells : ℕ) (ways : List Way) → AreCleared a cells ways → AreCleared b cells ways
  are_cleared_still cells [] r = tt
  are_cleared_still cells (Undecided ∷ ways) r = (tt, are_cleared_still cells ways r.1)
  are_cleared_still cells (InWord p c ∷ ways) r = (cleared_still (cache_place cells p) r.0, are_cleared_still cells ways r.1)
  are_cleared_still cells (Delayed p c ∷ ways) r = (reached_still p r.0, are_cleared_still cells ways r.1)

-- where the words are cleared the pairs may be entered
pub cleared_ready : (a : Actor) (cells published : ℕ) (ways : List Way) → AreCleared a cells ways → AreReady a cells published ways
cleared_ready a cells published [] r = tt
cleared_ready a cells published (Undecided ∷ ways) r = (tt, cleared_ready a cells published ways r.1)
cleared_ready a cells published (InWord p c ∷ ways) r = (inl r.0, cleared_ready a cells published ways r.1)
cleared_ready a cells published (Delayed p c ∷ ways) r = (r.0, cleared_ready a cells published ways r.1)

module _ (a b : Actor) (cells m n : ℕ) (reached : (p : ℕ) → IsReached a p → IsReached b p) where
  all_kept : (ways : List Way) → ((place : ℕ) → IsReadyAt a m place → IsReadyAt b n place) → AreReady a cells m ways → AreReady b cells n ways
  all_kept [] keeps r = tt
  all_kept (Undecided ∷ ways) keeps r = (tt, all_kept ways keeps r.1)
  all_kept (InWord p c ∷ ways) keeps r = (keeps (cache_place cells p) r.0, all_kept ways keeps r.1)
  all_kept (Delayed p c ∷ ways) keeps r = (reached p r.0, all_kept ways keeps r.1)

  others_kept : (own : ℕ) (ways : List Way) → ((place : ℕ) → place ≢ own → IsReadyAt a m place → IsReadyAt b n place) → AreElsewhere cells own ways → AreReady a cells m ways → AreReady b cells n ways
  others_kept own [] keeps away r = tt
  others_kept own (Undecided ∷ ways) keeps away r = (tt, others_kept own ways keeps away.1 r.1)
  others_kept own (InWord p c ∷ ways) keeps away r = (keeps (cache_place cells p) (λ same. away.0 (sym same)) r.0, others_kept own ways keeps away.1 r.1)
  others_kept own (Delayed p c ∷ ways) keeps away r = (reached p r.0, others_kept own ways keeps away.1 r.1)

  -- behind the entering of a pair the others are ready still: elsewhere, or where that one decided itself
  pub ready_behind : (way : Way) (ways : List Way) → ((place : ℕ) → IsElsewhere cells place way → IsReadyAt a m place → IsReadyAt b n place) → ((p c : ℕ) → way ≡ InWord p c → p ≡ c → IsReadyAt b n (cache_place cells p))
      → MayPrecede cells way ways → AreReady a cells m ways → AreReady b cells n ways
  ready_behind Undecided ways elsewhere own may r = all_kept ways (λ place k. elsewhere place tt k) r
  ready_behind (Delayed p c) ways elsewhere own may r = all_kept ways (λ place k. elsewhere place tt k) r
  ready_behind (InWord p c) ways elsewhere own (inl itself) r =
      all_kept ways (λ place k. elim (cases_eq place (cache_place cells p)) [
        | inl here ↦ subst (IsReadyAt b n) (sym here) (own p c refl itself)
        | inr other ↦ elsewhere place other k
      ]) r
  ready_behind (InWord p c) ways elsewhere own (inr away) r = others_kept (cache_place cells p) ways elsewhere away r

module _ (a b : Actor) (cells m n : ℕ) where
  module _ (k : KeepsReady a b) (later : m ≤ n) where
    pub ready_still : (place : ℕ) → IsReadyAt a m place → IsReadyAt b n place
    ready_still place (inl cleared) = inl (cleared_still a b k place cleared)
    ready_still place (inr own) = let w = k.words own.0 own.1 own.3 in let low = own.4 in inr (w.0, own.1, own.2, w.1, omega (arith, low, later), own.5)

    pub are_ready_still : (ways : List Way) → AreReady a cells m ways → AreReady b cells n ways
    are_ready_still ways r = all_kept a b cells m n (reached_still a b k) ways ready_still r

-- ---- more ways

pub bound_for_more : (cells published bound : ℕ) (words : List ℕ) (ways others : List Way) → bound_for cells published bound words (ways ++ others) ≡ bound_for cells published (bound_for cells published bound words ways) words others
bound_for_more cells published bound words [] others = refl
bound_for_more cells published bound words (way ∷ ways) others = bound_for_more cells published (bound_with cells published bound words way) words ways others

pub cleared_last : (a : Actor) (cells : ℕ) (ways : List Way) (way : Way) → AreCleared a cells ways → IsClearedFor a cells way → AreCleared a cells (ways ++ way ∷ [])
cleared_last a cells [] way r one = (one, tt)
cleared_last a cells (first ∷ ways) way r one = (r.0, cleared_last a cells ways way r.1 one)

pub next_taken : (cells n i : ℕ) (entries : List Entry) (entry : Entry) → slice_get entries i ≡ Some entry → take (suc i) (ways_of cells n entries) ≡ take i (ways_of cells n entries) ++ way_of cells (pair_by (n + i) entry) ∷ []
next_taken cells n i [] entry e = absurd (none_some (slice_get [] i) entry refl e)
next_taken cells n zero (first ∷ entries) entry e =
    let same : n ≡ n + zero = omega arith in
    λ k. way_of cells (pair_by (same k) (same_some first entry e k)) ∷ []
next_taken cells n (suc i) (first ∷ entries) entry e =
    let same : suc n + i ≡ n + suc i = omega arith in
    ap (λ (l : List Way). way_of cells (pair_by n first) ∷ l) (next_taken cells (suc n) i entries entry e ∙ ap (λ (m : ℕ). take i (ways_of cells (suc n) entries) ++ way_of cells (pair_by m entry) ∷ []) same)

-- those before it, it, and those behind it
pub taken_apart : (cells n i : ℕ) (entries : List Entry) (entry : Entry) → slice_get entries i ≡ Some entry → ways_of cells n entries ≡ take i (ways_of cells n entries) ++ way_of cells (pair_by (n + i) entry) ∷ drop (suc i) (ways_of cells n entries)
taken_apart cells n i entries entry e =
    let ways = ways_of cells n entries in
    sym (take-append-drop (suc i) ways) ∙ (ap (λ (l : List Way). l ++ drop (suc i) ways) (next_taken cells n i entries entry e) ∙ append_assoc (take i ways) (way_of cells (pair_by (n + i) entry) ∷ []) (drop (suc i) ways))

pub all_taken : (cells n : ℕ) (entries : List Entry) → take (length entries) (ways_of cells n entries) ≡ ways_of cells n entries
all_taken cells n [] = refl
all_taken cells n (first ∷ entries) = ap (λ (l : List Way). way_of cells (pair_by n first) ∷ l) (all_taken cells (suc n) entries)

-- what one of them clears, where the last one is another
pub clears_last : (ways : List Way) (way : Way) → AnyClears (ways ++ way ∷ []) → Clears way ⊎ AnyClears ways
clears_last [] way (inl one) = inl one
clears_last [] way (inr none) = absurd none
clears_last (first ∷ ways) way (inl one) = inr (inl one)
clears_last (first ∷ ways) way (inr others) = ⊎_elim (λ (one : Clears way). inl one) (λ (r : AnyClears ways). inr (inr r)) (clears_last ways way others)

-- the bound never falls
pub after_keeps : (cells published bound : ℕ) (o : Option CommitPair) → bound ≤ bound_after cells published bound o
after_keeps cells published bound None = omega arith
after_keeps cells published bound (Some pair) = raised_keeps cells published bound pair.decision

pub bound_rises : (cells published bound : ℕ) (words : List ℕ) (way : Way) → bound ≤ bound_with cells published bound words way
bound_rises cells published bound words Undecided = omega arith
bound_rises cells published bound words (InWord p c) = after_keeps cells published bound (pair_at words (cache_place cells p))
bound_rises cells published bound words (Delayed p c) = by_test (nat_le p bound) refl
  where
    by_test : (b : Bool) → nat_le p bound ≡ b → bound ≤ cond b bound p
    by_test true e = omega arith
    by_test false e = grind (arith, nat_tests)

-- it comes to the number of a pair that is too wide for a word
pub delayed_reached : (p bound : ℕ) → p ≤ cond (nat_le p bound) bound p
delayed_reached p bound = by_test (nat_le p bound) refl
  where
    by_test : (b : Bool) → nat_le p bound ≡ b → p ≤ cond b bound p
    by_test true e = grind (arith, nat_tests)
    by_test false e = omega arith

-- ---- a pair of the record

module _ (n : ℕ) (entry : Entry) (entries : List Entry) (pair : CommitPair) where
  first_in : (o : Option CommitPair) → o ≡ Some pair → IsIn pair (cons_option o (pairs_of (suc n) entries))
  first_in None e = absurd (none_some None pair refl e)
  first_in (Some first) e = inl (same_some first pair e)

  later_in : (o : Option CommitPair) → IsIn pair (pairs_of (suc n) entries) → IsIn pair (cons_option o (pairs_of (suc n) entries))
  later_in None later = later
  later_in (Some first) later = inr later

pub pair_in : (n i : ℕ) (entries : List Entry) (entry : Entry) (pair : CommitPair) → slice_get entries i ≡ Some entry → pair_by (n + i) entry ≡ Some pair → IsIn pair (pairs_of n entries)
pair_in n i [] entry pair e is = absurd (none_some (slice_get [] i) entry refl e)
pair_in n zero (first ∷ entries) entry pair e is =
    let same : n ≡ n + zero = omega arith in
    first_in n first entries pair (pair_by n first) ((λ k. pair_by (same k) (same_some first entry e k)) ∙ is)
pair_in n (suc i) (first ∷ entries) entry pair e is =
    let same : suc n + i ≡ n + suc i = omega arith in
    later_in n first entries pair (pair_by n first) (pair_in (suc n) i entries entry pair e (ap (λ (m : ℕ). pair_by m entry) same ∙ is))

pub next_in : (history pending : List Entry) (pair : CommitPair) → pending_pair history pending ≡ Some pair → IsIn pair (pairs_of (suc (length history)) pending)
next_in history [] pair e = absurd (none_some None pair refl e)
next_in history (entry ∷ others) pair e = first_in (suc (length history)) entry others pair (pair_by (suc (length history)) entry) e

-- the pair that is kept in a word, or as a delayed commit
pub pair_of_way : (cells : ℕ) (o : Option CommitPair) (p c : ℕ) → way_of cells o ≡ InWord p c → (o ≡ Some (commit_pair p c)) × (fits cells (commit_pair p c) ≡ true)
pair_of_way cells None p c e = absurd cc
pair_of_way cells (Some pair) p c e = by_fit (fits cells pair) refl e
  where
    by_fit : (b : Bool) → fits cells pair ≡ b → cond b (InWord pair.number pair.decision) (Delayed pair.number pair.decision) ≡ InWord p c → (Some pair ≡ Some (commit_pair p c)) × (fits cells (commit_pair p c) ≡ true)
    by_fit true is f =
        let number : pair.number ≡ p = cc in let decision : pair.decision ≡ c = cc in
        ((λ i. Some (commit_pair (number i) (decision i))), sym (λ i. fits cells (commit_pair (number i) (decision i))) ∙ is)
    by_fit false is f = absurd cc

pub pair_of_delayed : (cells : ℕ) (o : Option CommitPair) (p c : ℕ) → way_of cells o ≡ Delayed p c → (o ≡ Some (commit_pair p c)) × (fits cells (commit_pair p c) ≡ false)
pair_of_delayed cells None p c e = absurd cc
pair_of_delayed cells (Some pair) p c e = by_fit (fits cells pair) refl e
  where
    by_fit : (b : Bool) → fits cells pair ≡ b → cond b (InWord pair.number pair.decision) (Delayed pair.number pair.decision) ≡ Delayed p c → (Some pair ≡ Some (commit_pair p c)) × (fits cells (commit_pair p c) ≡ false)
    by_fit true is f = absurd cc
    by_fit false is f =
        let number : pair.number ≡ p = cc in let decision : pair.decision ≡ c = cc in
        ((λ i. Some (commit_pair (number i) (decision i))), sym (λ i. fits cells (commit_pair (number i) (decision i))) ∙ is)

-- entering leaves the bound where it is, or higher
pub enters_reached : (a b : Actor) (cells published : ℕ) (way : Way) → ((bound : ℕ) (words : List ℕ) → Noted a (words_stay bound words) → Noted b (words_stay (bound_with cells published bound words way) (with_way words way))) → (p : ℕ) → IsReached a p → IsReached b p
enters_reached a b cells published way entering p r =
    let low = r.3 in let rises = bound_rises cells published r.0 r.1 way in
    (bound_with cells published r.0 r.1 way, with_way r.1 way, entering r.0 r.1 r.2, omega (arith, low, rises))
