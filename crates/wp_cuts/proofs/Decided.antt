-- Which entries are decided from a base on, where two lists differ below it alone.
use Rattle.std.proofs.Common.{◌≡◌, ℕ, zero, suc, ◌+◌, ◌-◌, ◌<◌, ◌≤◌, Bool, true, false, ◌&&◌, not, cond, List, [], ◌∷◌, ◌++◌, length, Option, Some, None, refl, sym, ap, ◌∙◌, length-append, arith}
use Rattle.std.specs.Prelude.{slice_get, option_map, is_some, nat_lt}
use Rattle.std.specs.List.{list_any, position, position_or_len}
use Rattle.std.proofs.lemmas.Bool.{or_parts, not-true, not-false, le-leb}
use Rattle.wp_model.specs.declared.entry.Entry.{Entry}
use Rattle.wp_model.specs.declared.entry.Entry.TheVariants.{Write, Prepare, Commit, Undo, Close}
use Rattle.wp_model.specs.History.{entry_at, is_prepare, decides, is_undecided}
use Rattle.wp_model.specs.Decision.{version_in, entry_version, decision_in, decision_of, is_by, is_committed, IsCommittedAt}
use Rattle.wp_model.proofs.Entries.{entry_at_old}
use Rattle.wp_history_laws.proofs.Counting.{committed_from, decided_any}

-- ---- what is behind

pub slice_get_behind : (front more : List Entry) (i : ℕ) → length front ≤ i → slice_get (front ++ more) i ≡ slice_get more (i - length front)
slice_get_behind [] more i le = ap (slice_get more) (let e : i ≡ i - 0 = omega arith in e)
slice_get_behind (first ∷ front) more zero le = absurd (omega arith)
slice_get_behind (first ∷ front) more (suc i) le = slice_get_behind front more i (omega arith) ∙ ap (slice_get more) (let e : i - length front ≡ suc i - suc (length front) = omega arith in e)

pub entry_at_behind : (front more : List Entry) (p : ℕ) → length front < p → entry_at (front ++ more) p ≡ slice_get more (p - 1 - length front)
entry_at_behind front more zero lt = absurd (omega arith)
entry_at_behind front more (suc i) lt = slice_get_behind front more i (omega arith) ∙ ap (slice_get more) (let e : i - length front ≡ suc i - 1 - length front = omega arith in e)

-- ---- the first place where a test passes, where it is behind

first_behind : (test : Entry → Bool) (front more : List Entry) → list_any test front ≡ false → position_or_len test (front ++ more) ≡ length front + position_or_len test more
first_behind test [] more none = omega arith
first_behind test (first ∷ front) more none =
    let parts = or_parts (test first) (list_any test front) none in
    let rest = first_behind test front more parts.1 in
    rw parts.0 (let e : 1 + position_or_len test (front ++ more) ≡ suc (length front) + position_or_len test more = omega (arith, rest) in e)

pub position_behind : (test : Entry → Bool) (one other more : List Entry) → length one ≡ length other → list_any test one ≡ false → list_any test other ≡ false → position test (one ++ more) ≡ position test (other ++ more)
position_behind test one other more long none none_too =
    let first : position_or_len test (one ++ more) ≡ position_or_len test (other ++ more) = first_behind test one more none ∙ ap (λ (n : ℕ). n + position_or_len test more) long ∙ sym (first_behind test other more none_too) in
    let whole : length (one ++ more) ≡ length (other ++ more) = length-append one more ∙ ap (λ (n : ℕ). n + length more) long ∙ sym (length-append other more) in
    λ i. cond (nat_lt (first i) (whole i)) (Some (first i)) None

decision_by : (one other : List Entry) (p : ℕ) (at : Option Entry) → position (decides p) one ≡ position (decides p) other → decision_in one p at ≡ decision_in other p at
decision_by one other p None same = refl
decision_by one other p (Some (Write batch)) same = refl
decision_by one other p (Some (Prepare name batch)) same = ap (option_map suc) same
decision_by one other p (Some (Commit q)) same = refl
decision_by one other p (Some (Undo q batch)) same = refl
decision_by one other p (Some (Close q)) same = refl

pub decision_behind : (one other more : List Entry) (p : ℕ) → length one ≡ length other → list_any (decides p) one ≡ false → list_any (decides p) other ≡ false
    → entry_at (one ++ more) p ≡ entry_at (other ++ more) p → decision_of (one ++ more) p ≡ decision_of (other ++ more) p
decision_behind one other more p long none none_too same =
    decision_by (one ++ more) (other ++ more) p (entry_at (one ++ more) p) (position_behind (decides p) one other more long none none_too)
    ∙ ap (decision_in (other ++ more) p) same

pub undecided_not_decided : (history : List Entry) (p : ℕ) → is_undecided history p ≡ true → list_any (decides p) history ≡ false
undecided_not_decided history p undecided = by (is_prepare (entry_at history p)) undecided
  where
    by : (b : Bool) → (b && not (list_any (decides p) history)) ≡ true → list_any (decides p) history ≡ false
    by true h = not-true (list_any (decides p) history) h
    by false h = absurd cc

-- ---- what is committed

pub by_committed : (history : List Entry) (p n : ℕ) → IsCommittedAt history p n → is_committed history p n ≡ true
by_committed history p n c = ap (λ (d : Option ℕ). is_by d n) c.decided ∙ le-leb c.by n c.within

-- a number with a version that is no undecided prepare's is committed at the end
counts_in : (history : List Entry) (p : ℕ) (at : Option Entry) (key : List ℕ) (value : Option (List ℕ)) → (is_prepare at && not (list_any (decides p) history)) ≡ false → version_in at key ≡ Some value → is_some (decision_in history p at) ≡ true
counts_in history p None key value decided there = absurd cc
counts_in history p (Some (Write batch)) key value decided there = refl
counts_in history p (Some (Prepare name batch)) key value decided there = decided_any history p ∙ not-false (list_any (decides p) history) decided
counts_in history p (Some (Commit q)) key value decided there = absurd cc
counts_in history p (Some (Undo q batch)) key value decided there = refl
counts_in history p (Some (Close q)) key value decided there = absurd cc

pub fixed_counts : (front more : List Entry) (key : List ℕ) (p : ℕ) (value : Option (List ℕ)) → p ≤ length front → is_undecided front p ≡ false → entry_version (front ++ more) p key ≡ Some value → IsCommittedAt (front ++ more) p (length front)
fixed_counts front more key p value le decided there =
    committed_from front more p (counts_in front p (entry_at front p) key value decided (ap (λ (at : Option Entry). version_in at key) (sym (entry_at_old front more p le)) ∙ there))

pub fixed_is_committed : (front more : List Entry) (key : List ℕ) (p n : ℕ) (value : Option (List ℕ)) → p ≤ length front → length front ≤ n → is_undecided front p ≡ false → entry_version (front ++ more) p key ≡ Some value → is_committed (front ++ more) p n ≡ true
fixed_is_committed front more key p n value le above decided there =
    let at = fixed_counts front more key p value le decided there in
    by_committed (front ++ more) p n (record { by = at.by; decided = at.decided; within = omega (arith, at.within) })
