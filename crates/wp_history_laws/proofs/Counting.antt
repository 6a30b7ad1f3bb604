-- Which entries are committed by the first entries of a history, whatever follows.
use Rattle.std.proofs.Common.{◌≡◌, ℕ, zero, suc, ◌+◌, ◌<◌, ◌≤◌, Bool, true, false, ◌||◌, not, cond, List, [], ◌∷◌, ◌++◌, length, get_or, take, Option, Some, None, refl, sym, ap, ◌∙◌, inl, inr, length-append, arith}
use Rattle.std.specs.Prelude.{option_map, is_some}
use Rattle.std.specs.List.{list_any, position, position_or_len}
use Rattle.std.proofs.Math.ListN.{get_or-append}
use Rattle.std.proofs.lemmas.Bool.{cases_lt, cond-true, lt-ltb, or_left, or_right}
use Rattle.std.proofs.lemmas.List.{append-nil, length-take-le}
use Rattle.std.proofs.lemmas.List.Quantifiers.{position-Some}
use Rattle.std.proofs.lemmas.Option.{slice_get-get_or}
use Rattle.wp_model.specs.declared.entry.Entry.{Entry}
use Rattle.wp_model.specs.declared.entry.Entry.TheVariants.{Write, Prepare, Commit, Undo, Close}
use Rattle.wp_model.specs.History.{entry_at, decides}
use Rattle.wp_model.specs.Legal.{IsLegal, IsLegalNext}
use Rattle.wp_model.specs.Decision.{version_in, entry_version, decision_in, decision_of, IsCommittedAt}
use Rattle.wp_history_laws.proofs.Growth.{decides_undecided}
use Rattle.wp_model.proofs.Entries.{entry_at_old, entry_at_past, undecided_within}

-- the entry with that number is committed, by the history
abbrev pub counts : List Entry → ℕ → Bool
counts history p = is_some (decision_of history p)

-- the version of the key of the entry with that number, where it is committed
abbrev pub committed_version : List Entry → ℕ → List ℕ → Option (Option (List ℕ))
committed_version history p key = cond (counts history p) (entry_version history p key) None

-- ---- the first place where a test passes

first_before : (test : Entry → Bool) (front more : List Entry) → list_any test front ≡ true → position_or_len test (front ++ more) < length front
first_before test [] more h = absurd cc
first_before test (first ∷ others) more h =
    let rest : list_any test others ≡ true → position_or_len test (others ++ more) < length others = first_before test others more in
    elim (test first) as (λ b. (b || list_any test others) ≡ true → cond (not b) (1 + position_or_len test (others ++ more)) 0 < suc (length others)) [
      | true ↦ λ e. omega arith
      | false ↦ λ e. let r = rest e in omega arith
    ] h

position_before : (test : Entry → Bool) (front more : List Entry) → list_any test front ≡ true → position test (front ++ more) ≡ Some (position_or_len test (front ++ more))
position_before test front more h =
    let before = first_before test front more h in
    cond-true _ _ _ (lt-ltb (position_or_len test (front ++ more)) (length (front ++ more)) (omega (arith, length-append front more)))

any_at : (test : Entry → Bool) (entries : List Entry) (i : ℕ) (d : Entry) → i < length entries → test (get_or entries i d) ≡ true → list_any test entries ≡ true
any_at test [] i d lt h = absurd (omega arith)
any_at test (first ∷ others) zero d lt h = or_left (test first) (list_any test others) h
any_at test (first ∷ others) (suc i) d lt h = or_right (test first) (list_any test others) (any_at test others i d (omega arith) h)

some_suc : (o : Option ℕ) (n : ℕ) → option_map suc o ≡ Some n → (i : ℕ) × (o ≡ Some i) × (suc i ≡ n)
some_suc None n e = absurd cc
some_suc (Some i) n e = (i, refl, cc)

-- what is decided has a first decision
pub decided_any : (history : List Entry) (p : ℕ) → is_some (option_map suc (position (decides p) history)) ≡ list_any (decides p) history
decided_any history p = by (list_any (decides p) history) refl
  where
    at : (o : Option ℕ) → position (decides p) history ≡ o → list_any (decides p) history ≡ false → is_some (option_map suc o) ≡ false
    at None is none = refl
    at (Some i) is none =
        let found = position-Some (decides p) history i (Commit 0) is in
        let some = any_at (decides p) history i (Commit 0) found.0 found.1 in
        absurd cc

    by : (b : Bool) → list_any (decides p) history ≡ b → is_some (option_map suc (position (decides p) history)) ≡ b
    by true some = ap (λ (o : Option ℕ). is_some (option_map suc o)) (ap (position (decides p)) (sym (append-nil history)) ∙ position_before (decides p) history [] some)
    by false none = at (position (decides p) history) refl none

-- ---- by the first entries alone

pub counts_within : (history : List Entry) (p : ℕ) → counts history p ≡ true → p ≤ length history
counts_within history p h =
    elim (cases_lt (length history) p) [
      | inl past ↦ let none : entry_at history p ≡ None = entry_at_past history p past in let no : counts history p ≡ false = ap (λ (at : Option Entry). is_some (decision_in history p at)) none in absurd cc
      | inr within ↦ within
    ]

-- a decided prepare is before what decides it
decided_after : (history : List Entry) (p i : ℕ) → IsLegal history → position (decides p) history ≡ Some i → (i < length history) × (p ≤ i) × (decides p (get_or history i (Commit 0)) ≡ true)
decided_after history p i legal at =
    let found = position-Some (decides p) history i (Commit 0) at in
    let here = get_or history i (Commit 0) in
    let after : IsLegalNext (take i history) here = legal.each i here (slice_get-get_or history i (Commit 0) found.0) in
    let within = undecided_within (take i history) p (decides_undecided (take i history) here p after.orderly.names_undecided found.1) in
    (found.0, omega (arith, within.1, length-take-le i history (omega (arith, found.0))), found.1)

counted : (front more : List Entry) (p by : ℕ) (at : Option Entry) → IsLegal (front ++ more) → decision_in (front ++ more) p at ≡ Some by → by ≤ length front → (p ≤ length front) × (is_some (decision_in front p at) ≡ true)
counted front more p by None legal decided within = absurd cc
counted front more p by (Some (Write batch)) legal decided within = let same : p ≡ by = cc in (omega arith, refl)
counted front more p by (Some (Undo q batch)) legal decided within = let same : p ≡ by = cc in (omega arith, refl)
counted front more p by (Some (Prepare name batch)) legal decided within =
    let found = some_suc (position (decides p) (front ++ more)) by decided in
    let after = decided_after (front ++ more) p found.0 legal found.1 in
    let before : found.0 < length front = omega (arith, found.2) in
    let it : decides p (get_or front found.0 (Commit 0)) ≡ true = ap (decides p) (sym (get_or-append front more (Commit 0) found.0 before)) ∙ after.2 in
    (omega (arith, after.1), decided_any front p ∙ any_at (decides p) front found.0 (Commit 0) before it)
counted front more p by (Some (Commit q)) legal decided within = absurd cc
counted front more p by (Some (Close q)) legal decided within = absurd cc

pub counts_from : (front more : List Entry) (p : ℕ) → IsLegal (front ++ more) → IsCommittedAt (front ++ more) p (length front) → counts front p ≡ true
counts_from front more p legal committed =
    let both = counted front more p committed.by (entry_at (front ++ more) p) legal committed.decided committed.within in
    ap (λ (at : Option Entry). is_some (decision_in front p at)) (sym (entry_at_old front more p both.0)) ∙ both.1

committed_in : (front more : List Entry) (p : ℕ) (at : Option Entry) → p ≤ length front → is_some (decision_in front p at) ≡ true → (by : ℕ) × (decision_in (front ++ more) p at ≡ Some by) × (by ≤ length front)
committed_in front more p None le counted = absurd cc
committed_in front more p (Some (Write batch)) le counted = (p, refl, le)
committed_in front more p (Some (Undo q batch)) le counted = (p, refl, le)
committed_in front more p (Some (Prepare name batch)) le counted =
    let i = position_or_len (decides p) (front ++ more) in
    let some : list_any (decides p) front ≡ true = sym (decided_any front p) ∙ counted in
    (suc i, ap (option_map suc) (position_before (decides p) front more some), omega (arith, first_before (decides p) front more some))
committed_in front more p (Some (Commit q)) le counted = absurd cc
committed_in front more p (Some (Close q)) le counted = absurd cc

pub committed_from : (front more : List Entry) (p : ℕ) → counts front p ≡ true → IsCommittedAt (front ++ more) p (length front)
committed_from front more p h =
    let le : p ≤ length front = counts_within front p h in
    let same : entry_at (front ++ more) p ≡ entry_at front p = entry_at_old front more p le in
    let found = committed_in front more p (entry_at (front ++ more) p) le (ap (λ (at : Option Entry). is_some (decision_in front p at)) same ∙ h) in
    record { by = found.0; decided = found.1; within = found.2 }

pub entry_version_old : (front more : List Entry) (p : ℕ) (key : List ℕ) → p ≤ length front → entry_version (front ++ more) p key ≡ entry_version front p key
entry_version_old front more p key le = ap (λ (at : Option Entry). version_in at key) (entry_at_old front more p le)
