-- Where all that was published since the opening is one's own, and one has seen that, one has seen the whole history.
use Rattle.std.proofs.Common.{◌≡◌, ◌⊎◌, ⊎_elim, inl, inr, ℕ, suc, ◌+◌, ◌<◌, ◌≤◌, ◌==◌, Bool, true, false, List, [], ◌∷◌, ◌++◌, length, refl, ap, ◌∙◌, append-nil, length-append, arith}
use Rattle.std.proofs.lemmas.Bool.{eqb-true}
use Rattle.std.proofs.lemmas.Bool.Decides.{nat_tests}
use Rattle.wp_model.specs.declared.entry.Entry.{Entry}
use Rattle.wp_core.specs.Lists.{IsIn, one_if, total}
use Rattle.wp_core.specs.Sound.Actors.{StartsWith, times, once}
use Rattle.wp_core.specs.Sound.Pasts.{closes_log, is_log_fault}
use Rattle.wp_core.specs.Views.{Event, log_failed}
use Rattle.wp_client.specs.Alone.{log_faults, device_faults}

-- ---- sums

pub total_both : {X : Type 0} (f : X → ℕ) (xs ys : List X) → total f (xs ++ ys) ≡ total f xs + total f ys
total_both f [] ys = omega arith
total_both f (x ∷ xs) ys = let k = total_both f xs ys in omega (arith, k)

pub none_if : (b : Bool) → one_if b ≡ 0 → b ≡ false
none_if true e = absurd cc
none_if false e = refl

pub if_one : (b : Bool) → one_if b ≡ 1 → b ≡ true
if_one true e = refl
if_one false e = absurd cc

pub same_if : (a b : Bool) → one_if a ≡ one_if b → a ≡ b
same_if true true e = refl
same_if true false e = absurd cc
same_if false true e = absurd cc
same_if false false e = refl

-- one that is counted is there
pub counted_in : (n : ℕ) (own : List ℕ) → 1 ≤ times n own → IsIn n own
counted_in n [] least = absurd (omega (arith, least))
counted_in n (m ∷ own) least = by_test (counted_in n own) (m == n) refl
  where
    by_test : (1 ≤ times n own → IsIn n own) → (b : Bool) → (m == n) ≡ b → IsIn n (m ∷ own)
    by_test others true e = inl (eqb-true m n e)
    by_test others false e = let t : one_if (m == n) ≡ 0 = ap one_if e in inr (others (omega (arith, least, t)))

-- what passes a test that nothing there passes is not there
pub not_counted : {X : Type 0} (test : X → Bool) (xs : List X) (x : X) → total (λ y. one_if (test y)) xs ≡ 0 → IsIn x xs → test x ≡ true → ⊥
not_counted test [] x none there is = there
not_counted test (y ∷ xs) x none (inl same) is = let one : one_if (test y) ≡ 1 = ap (λ z. one_if (test z)) same ∙ ap one_if is in omega (arith, none, one)
not_counted test (y ∷ xs) x none (inr there) is = not_counted test xs x (omega (arith, none)) there is

-- ---- faults of the log

-- what does not close it is no fault of its device
no_fault : (e : Event) → closes_log e ≡ false → is_log_fault e ≡ false
no_fault (log_failed entries) none = absurd cc
no_fault other none = refl

-- where nothing closed the log, its device did not fail
pub no_device_fault : (events : List Event) → log_faults events ≡ 0 → device_faults events ≡ 0
no_device_fault [] none = refl
no_device_fault (e ∷ events) none =
    let all : one_if (closes_log e) + log_faults events ≡ 0 = none in
    let others : log_faults events ≡ 0 = omega (arith, all) in
    let first : one_if (is_log_fault e) ≡ 0 = ap one_if (no_fault e (none_if (closes_log e) (omega (arith, all)))) in
    let rest = no_device_fault events others in
    let sum : one_if (is_log_fault e) + device_faults events ≡ 0 = omega (arith, first, rest) in sum

-- ---- what is in two lists

pub in_both : {X : Type 0} (x : X) (xs ys : List X) → IsIn x (xs ++ ys) → IsIn x xs ⊎ IsIn x ys
in_both x [] ys there = inr there
in_both x (y ∷ xs) ys (inl same) = inl (inl same)
in_both x (y ∷ xs) ys (inr there) = ⊎_elim (λ (k : IsIn x xs). inl (inr k)) (λ (k : IsIn x ys). inr k) (in_both x xs ys there)

-- ---- the history

-- a number since the opening is there once
pub since : (opened history : List Entry) (n : ℕ) → length opened < n → n ≤ length history → once opened history n ≡ 1
since opened history n low high = grind (arith, nat_tests)

-- one of the history's numbers since the opening is one's own
pub is_own : (opened history : List Entry) (own : List ℕ) → ((n : ℕ) → times n own ≡ once opened history n) → (n : ℕ) → length opened < n → n ≤ length history → IsIn n own
is_own opened history own owned n low high =
    let one = since opened history n low high in let is = owned n in counted_in n own (omega (arith, one, is))

pub whole_seen : (opened history seen : List Entry) (own : List ℕ) → StartsWith history seen → StartsWith seen opened → ((n : ℕ) → IsIn n own → n ≤ length seen) → ((n : ℕ) → times n own ≡ once opened history n) → history ≡ seen
whole_seen opened history seen own (rest, is) begins few owned = by_rest rest is
  where
    by_rest : (rest : List Entry) → history ≡ seen ++ rest → history ≡ seen
    by_rest [] e = e ∙ append-nil seen
    by_rest (entry ∷ more) e =
        let size : length history ≡ length (seen ++ entry ∷ more) = ap (λ (h : List Entry). length h) e in
        let both = length-append seen (entry ∷ more) in
        let first : length seen ≡ length (opened ++ begins.0) = ap (λ (h : List Entry). length h) begins.1 in
        let parts = length-append opened begins.0 in
        let there = is_own opened history own owned (suc (length seen)) (omega (arith, first, parts)) (omega (arith, size, both)) in
        let low = few (suc (length seen)) there in absurd (omega (arith, low))
