-- Which of two keys comes first.
use Rattle.std.proofs.Common.{◌≡◌, ◌⊎◌, inl, inr, ℕ, Bool, true, false, true≢false, Less, Equal, Greater, List, refl, sym, ap, ◌∙◌}
use Rattle.std.specs.declared.cmp.Ordering.{Ordering}
use Rattle.std.specs.Cmp.{tied_itself}
use Rattle.std.specs.Ordering.{is_lt, is_le, ordering_reverse}
use Rattle.std.proofs.lemmas.Cmp.{nat_list_cmp_total}
use Rattle.std.proofs.lemmas.Map.Lookups.{exact_bytes}
use Rattle.wp_model.specs.Batch.{key_cmp}
use Rattle.wp_model.specs.Rows.{is_from}

-- the first key is lesser
abbrev pub IsLess : List ℕ → List ℕ → Type 0
IsLess a b = key_cmp a b ≡ Less

pub greater : (a b : List ℕ) → IsLess a b → key_cmp b a ≡ Greater
greater a b less = nat_list_cmp_total.antisymm b a ∙ ap ordering_reverse less

pub which_less : (a b : List ℕ) → IsLess a b ⊎ ((a ≡ b) ⊎ IsLess b a)
which_less a b = by (key_cmp a b) refl
  where
    by : (o : Ordering) → key_cmp a b ≡ o → IsLess a b ⊎ ((a ≡ b) ⊎ IsLess b a)
    by Less e = inl e
    by Equal e = inr (inl (exact_bytes a b e))
    by Greater e = inr (inr (nat_list_cmp_total.antisymm b a ∙ ap ordering_reverse e))

pub less_not_greater : (a b : List ℕ) → IsLess a b → IsLess b a → ⊥
less_not_greater a b one other = let e = sym (greater a b one) ∙ other in absurd cc

pub less_not_same : (a b : List ℕ) → IsLess a b → a ≡ b → ⊥
less_not_same a b less same = let e : Less ≡ Equal = sym less ∙ ap (key_cmp a) (sym same) ∙ tied_itself nat_list_cmp_total a in absurd cc

-- ---- from a key on

pub from_lesser : (above : Bool) (key other : List ℕ) → IsLess key other → is_from above key other ≡ true
from_lesser true key other less = ap is_lt less
from_lesser false key other less = ap is_le less

pub not_from_greater : (above : Bool) (key other : List ℕ) → IsLess other key → is_from above key other ≡ false
not_from_greater true key other less = ap is_lt (greater other key less)
not_from_greater false key other less = ap is_le (greater other key less)

pub from_itself : (key : List ℕ) → is_from false key key ≡ true
from_itself key = ap is_le (tied_itself nat_list_cmp_total key)

pub not_above_itself : (key : List ℕ) → is_from true key key ≡ false
not_above_itself key = ap is_lt (tied_itself nat_list_cmp_total key)

-- what comes from a key on is above it, or is the key itself
pub from_is : (above : Bool) (key other : List ℕ) → is_from above key other ≡ true → IsLess key other ⊎ (key ≡ other)
from_is above key other from = by (which_less key other)
  where
    by : IsLess key other ⊎ ((key ≡ other) ⊎ IsLess other key) → IsLess key other ⊎ (key ≡ other)
    by (inl less) = inl less
    by (inr (inl same)) = inr same
    by (inr (inr less)) = absurd (true≢false (sym from ∙ not_from_greater above key other less))

-- what comes behind that, too
pub from_later : (above : Bool) (key one other : List ℕ) → is_from above key one ≡ true → IsLess one other → is_from above key other ≡ true
from_later above key one other from less = by (from_is above key one from)
  where
    by : IsLess key one ⊎ (key ≡ one) → is_from above key other ≡ true
    by (inl first) = from_lesser above key other (nat_list_cmp_total.trans key one other first less)
    by (inr same) = from_lesser above key other (ap (λ (k : List ℕ). key_cmp k other) same ∙ less)
