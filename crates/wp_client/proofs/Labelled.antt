-- The snapshots of a client: by their labels, and as its seat has them registered.
use Rattle.std.proofs.Common.{◌≡◌, inl, inr, ℕ, ◌+◌, ◌≤◌, true, false, true≢false, List, [], ◌∷◌, ◌++◌, map, Option, Some, None, refl, sym, subst, ap, ◌∙◌, arith}
use Rattle.std.specs.Prelude.{◌==◌}
use Rattle.std.specs.List.{list_any}
use Rattle.std.specs.Str.{bytes_eq}
use Rattle.std.proofs.lemmas.Bool.{cases_Bool, and_parts, or_cases, or_left, or_right}
use Rattle.std.proofs.lemmas.Bool.Decides.{nat_tests}
use Rattle.std.proofs.lemmas.Slice.Eq.{bytes_eq-Decides}
use Rattle.wp_core.specs.Changes.{is_same_registration}
use Rattle.wp_core.specs.Lists.{IsIn, one_if, total}
use Rattle.wp_core.specs.Reading.{Registration}
use Rattle.wp_read.specs.Registers.{without_last}
use Rattle.wp_replies.specs.declared.client.LabelledSnapshot.{LabelledSnapshot}
use Rattle.wp_replies.specs.Client.{number_of, without_label, AreWithin}
use Rattle.wp_client.specs.declared.holdings.HeldSnapshot.{HeldSnapshot}
use Rattle.wp_client.specs.Holdings.{labelled, snapshot_of, times_registered, registration_if, AreDistinct}

-- ---- by label

module _ (label : List ℕ) where
  -- no snapshot has the label, where none has it and the last has another
  pub no_more : (front : List HeldSnapshot) (s : HeldSnapshot) → number_of (map labelled front) label ≡ None → bytes_eq s.label label ≡ false → number_of (map labelled (front ++ s ∷ [])) label ≡ None
  no_more [] s none other = rw other refl
  no_more (x ∷ front) s none other =
      elim (cases_Bool (bytes_eq x.label label)) [
        | inl same ↦ let k = rw same at none in absurd cc
        | inr differs ↦ rw differs (no_more front s (rw differs at none) other)
      ]

  -- the last of some has another one, where none of them has it
  pub other_last : (front : List HeldSnapshot) (s : HeldSnapshot) → number_of (map labelled (front ++ s ∷ [])) label ≡ None → bytes_eq s.label label ≡ false
  other_last [] s none =
      elim (cases_Bool (bytes_eq s.label label)) [
        | inl same ↦ let k = rw same at none in absurd cc
        | inr differs ↦ differs
      ]
  other_last (x ∷ front) s none =
      elim (cases_Bool (bytes_eq x.label label)) [
        | inl found ↦ let k = rw found at none in absurd cc
        | inr differs ↦ other_last front s (rw differs at none)
      ]

  -- the first that has it gives the number
  pub number_is : (front : List HeldSnapshot) (s : HeldSnapshot) (back : List HeldSnapshot) → number_of (map labelled front) label ≡ None → bytes_eq s.label label ≡ true → number_of (map labelled (front ++ s ∷ back)) label ≡ Some s.snapshot.number
  number_is [] s back none same = rw same refl
  number_is (x ∷ front) s back none same =
      elim (cases_Bool (bytes_eq x.label label)) [
        | inl found ↦ let k = rw found at none in absurd cc
        | inr differs ↦ rw differs (number_is front s back (rw differs at none) same)
      ]

  -- none has it among fewer
  pub none_less : (front : List HeldSnapshot) (s : HeldSnapshot) (back : List HeldSnapshot) → number_of (map labelled (front ++ s ∷ back)) label ≡ None → number_of (map labelled (front ++ back)) label ≡ None
  none_less [] s back none =
      elim (cases_Bool (bytes_eq s.label label)) [
        | inl found ↦ let k = rw found at none in absurd cc
        | inr differs ↦ rw differs at none
      ]
  none_less (x ∷ front) s back none =
      elim (cases_Bool (bytes_eq x.label label)) [
        | inl found ↦ let k = rw found at none in absurd cc
        | inr differs ↦ rw differs (none_less front s back (rw differs at none))
      ]

  -- without it all stay
  none_without : (back : List HeldSnapshot) → number_of (map labelled back) label ≡ None → without_label (map labelled back) label ≡ map labelled back
  none_without [] none = refl
  none_without (x ∷ back) none =
      elim (cases_Bool (bytes_eq x.label label)) [
        | inl found ↦ let k = rw found at none in absurd cc
        | inr differs ↦ rw differs (ap (λ (xs : List LabelledSnapshot). labelled x ∷ xs) (none_without back (rw differs at none)))
      ]

  -- the one that has it goes
  pub without_it : (front : List HeldSnapshot) (s : HeldSnapshot) (back : List HeldSnapshot) → number_of (map labelled front) label ≡ None → bytes_eq s.label label ≡ true → number_of (map labelled back) label ≡ None
      → without_label (map labelled (front ++ s ∷ back)) label ≡ map labelled (front ++ back)
  without_it [] s back none same behind = rw same (none_without back behind)
  without_it (x ∷ front) s back none same behind =
      elim (cases_Bool (bytes_eq x.label label)) [
        | inl found ↦ let k = rw found at none in absurd cc
        | inr differs ↦ rw differs (ap (λ (xs : List LabelledSnapshot). labelled x ∷ xs) (without_it front s back (rw differs at none) same behind))
      ]

-- ---- distinct labels

other_way : (a b : List ℕ) → bytes_eq a b ≡ false → bytes_eq b a ≡ false
other_way a b ne = elim (cases_Bool (bytes_eq b a)) [
  | inl same ↦ absurd (true≢false (sym ((bytes_eq-Decides a b).1 (sym ((bytes_eq-Decides b a).0 same))) ∙ ne))
  | inr is ↦ is
]

pub distinct_more : (xs : List HeldSnapshot) (s : HeldSnapshot) → AreDistinct (map labelled xs) → number_of (map labelled xs) s.label ≡ None → AreDistinct (map labelled (xs ++ s ∷ []))
distinct_more [] s distinct none = (refl, tt)
distinct_more (x ∷ xs) s distinct none =
    elim (cases_Bool (bytes_eq x.label s.label)) [
      | inl same ↦ let k = rw same at none in absurd cc
      | inr differs ↦ (no_more x.label xs s distinct.0 (other_way x.label s.label differs), distinct_more xs s distinct.1 (rw differs at none))
    ]

pub distinct_less : (front : List HeldSnapshot) (s : HeldSnapshot) (back : List HeldSnapshot) → AreDistinct (map labelled (front ++ s ∷ back)) → AreDistinct (map labelled (front ++ back))
distinct_less [] s back distinct = distinct.1
distinct_less (x ∷ front) s back distinct = (none_less x.label front s back distinct.0, distinct_less front s back distinct.1)

-- no later one has the label of one of them
pub none_behind : (front : List HeldSnapshot) (s : HeldSnapshot) (back : List HeldSnapshot) → AreDistinct (map labelled (front ++ s ∷ back)) → number_of (map labelled back) s.label ≡ None
none_behind [] s back distinct = distinct.0
none_behind (x ∷ front) s back distinct = none_behind front s back distinct.1

-- no earlier one has the label of the last
pub none_before_last : (xs : List HeldSnapshot) (s : HeldSnapshot) → AreDistinct (map labelled (xs ++ s ∷ [])) → number_of (map labelled xs) s.label ≡ None
none_before_last [] s distinct = refl
none_before_last (x ∷ xs) s distinct = rw (other_way s.label x.label (other_last x.label xs s distinct.0)) (none_before_last xs s distinct.1)

-- ---- numbers

pub within_one : (n : ℕ) (front : List HeldSnapshot) (s : HeldSnapshot) (back : List HeldSnapshot) → AreWithin n (map labelled (front ++ s ∷ back)) → s.snapshot.number ≤ n
within_one n [] s back within = within.0
within_one n (x ∷ front) s back within = within_one n front s back within.1

pub within_next : (n : ℕ) (xs : List HeldSnapshot) (s : HeldSnapshot) → AreWithin n (map labelled xs) → s.snapshot.number ≤ n → AreWithin n (map labelled (xs ++ s ∷ []))
within_next n [] s within low = (low, tt)
within_next n (x ∷ xs) s within low = (within.0, within_next n xs s within.1 low)

pub within_less : (n : ℕ) (front : List HeldSnapshot) (s : HeldSnapshot) (back : List HeldSnapshot) → AreWithin n (map labelled (front ++ s ∷ back)) → AreWithin n (map labelled (front ++ back))
within_less n [] s back within = within.1
within_less n (x ∷ front) s back within = (within.0, within_less n front s back within.1)

-- ---- lists

pub mapped_more : {X Y : Type 0} (f : X → Y) (xs : List X) (x : X) → map f (xs ++ x ∷ []) ≡ map f xs ++ f x ∷ []
mapped_more f [] x = refl
mapped_more f (y ∷ xs) x = ap (λ (ys : List _). f y ∷ ys) (mapped_more f xs x)

pub mapped_between : {X Y : Type 0} (f : X → Y) (front : List X) (x : X) (back : List X) → map f (front ++ x ∷ back) ≡ map f front ++ f x ∷ map f back
mapped_between f [] x back = refl
mapped_between f (y ∷ front) x back = ap (λ (ys : List _). f y ∷ ys) (mapped_between f front x back)

pub mapped_both : {X Y : Type 0} (f : X → Y) (front back : List X) → map f (front ++ back) ≡ map f front ++ map f back
mapped_both f [] back = refl
mapped_both f (y ∷ front) back = ap (λ (ys : List _). f y ∷ ys) (mapped_both f front back)

pub between : {X : Type 0} (f : X → ℕ) (front : List X) (x : X) (back : List X) → total f (front ++ x ∷ back) ≡ f x + total f (front ++ back)
between f [] x back = refl
between f (y ∷ front) x back = let k = between f front x back in omega (arith, k)

-- ---- registrations

same_registration : (r s : Registration) → is_same_registration r s ≡ true → s ≡ r
same_registration r s is =
    let parts = and_parts (r.number == s.number) (r.smallest == s.smallest) is in
    let a = parts.0 in let b = parts.1 in
    let number : s.number ≡ r.number = grind (arith, nat_tests) in let smallest : s.smallest ≡ r.smallest = grind (arith, nat_tests) in
    λ i. record { number = number i; smallest = smallest i }

same_as_itself : (r : Registration) → is_same_registration r r ≡ true
same_as_itself r = let a : (r.number == r.number) ≡ true = grind (arith, nat_tests) in let b : (r.smallest == r.smallest) ≡ true = grind (arith, nat_tests) in rw (a, b) refl

-- what is there at all is there
pub is_registered : (r : Registration) (rs : List Registration) → 1 ≤ times_registered r rs → IsIn r rs
is_registered r [] some = absurd (omega (arith, some))
is_registered r (s ∷ rs) some =
    elim (cases_Bool (is_same_registration r s)) [
      | inl same ↦ inl (same_registration r s same)
      | inr differs ↦ inr (is_registered r rs (let k = rw differs at some in omega (arith, k)))
    ]

-- so often the pin is there
pub pin_counts : (r : Registration) (pin : Option Registration) → pin ≡ Some r → 1 ≤ times_registered r (registration_if pin)
pin_counts r pin is =
    let one : one_if (is_same_registration r r) ≡ 1 = ap one_if (same_as_itself r) in
    subst (λ (o : Option Registration). 1 ≤ times_registered r (registration_if o)) (sym is) (omega (arith, one))

-- a snapshot of the client is there
pub times_there : (front : List HeldSnapshot) (s : HeldSnapshot) (back : List HeldSnapshot) → 1 ≤ times_registered s.snapshot (map snapshot_of (front ++ s ∷ back))
times_there front s back =
    let all : times_registered s.snapshot (map snapshot_of (front ++ s ∷ back)) ≡ times_registered s.snapshot (map snapshot_of front ++ s.snapshot ∷ map snapshot_of back) = ap (times_registered s.snapshot) (mapped_between snapshot_of front s back) in
    let more = between (λ (x : Registration). one_if (is_same_registration s.snapshot x)) (map snapshot_of front) s.snapshot (map snapshot_of back) in
    let one : one_if (is_same_registration s.snapshot s.snapshot) ≡ 1 = ap one_if (same_as_itself s.snapshot) in
    omega (arith, all, more, one)

same_other_way : (r s q : Registration) → s ≡ q → one_if (is_same_registration r q) ≡ one_if (is_same_registration r s)
same_other_way r s q is = ap (λ (x : Registration). one_if (is_same_registration r x)) (sym is)

found_registration : (r : Registration) (rs : List Registration) → IsIn r rs → list_any (is_same_registration r) rs ≡ true
found_registration r [] there = absurd there
found_registration r (s ∷ rs) (inl same) = or_left (is_same_registration r s) (list_any (is_same_registration r) rs) (subst (λ (x : Registration). is_same_registration r x ≡ true) (sym same) (same_as_itself r))
found_registration r (s ∷ rs) (inr there) = or_right (is_same_registration r s) (list_any (is_same_registration r) rs) (found_registration r rs there)

-- how often one is there without the last of another that is there
times_without_found : (r q : Registration) (rs : List Registration) → list_any (is_same_registration q) rs ≡ true → times_registered r (without_last (Some q) rs) + one_if (is_same_registration r q) ≡ times_registered r rs
times_without_found r q [] found = absurd cc
times_without_found r q (s ∷ rs) found =
    elim (cases_Bool (list_any (is_same_registration q) rs)) [
      | inl later ↦ let rest = times_without_found r q rs later in rw later (omega (arith, rest))
      | inr last ↦
          let here : is_same_registration q s ≡ true = elim (or_cases (is_same_registration q s) (list_any (is_same_registration q) rs) found) [ inl is ↦ is | inr there ↦ absurd (true≢false (sym there ∙ last)) ] in
          let one = same_other_way r s q (same_registration q s here) in
          rw last (omega (arith, one))
    ]

pub times_without : (r q : Registration) (rs : List Registration) → IsIn q rs → times_registered r (without_last (Some q) rs) + one_if (is_same_registration r q) ≡ times_registered r rs
times_without r q rs there = times_without_found r q rs (found_registration q rs there)
