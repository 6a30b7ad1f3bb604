-- Where no undecided prepare has a name.
use Rattle.std.proofs.Common.{◌≡◌, ℕ, Bool, true, false, cond, eqb, ◌||◌, true≢false, List, [], ◌∷◌, Some, None, refl, sym, ap, ◌∙◌}
use Rattle.std.specs.List.{list_any, find}
use Rattle.std.specs.Str.{bytes_eq}
use Rattle.std.proofs.lemmas.Bool.{eqb-true}
use Rattle.std.proofs.lemmas.Slice.Eq.{bytes_eq-Decides}
use Rattle.wp_model.specs.declared.entry.Entry.{Entry}
use Rattle.wp_model.specs.History.{name_at, is_undecided, undecided, named}
use Rattle.wp_history_laws.proofs.Undecided.{is_undecided_by_list}

find_none : (test : ℕ → Bool) (xs : List ℕ) (p : ℕ) → find test xs ≡ None → test p ≡ true → list_any (λ k. eqb k p) xs ≡ true → ⊥
find_none test [] p none t h = absurd cc
find_none test (x ∷ xs) p none t h = by (test x) refl none (eqb x p) refl h (λ gone there. find_none test xs p gone t there)
  where
    by : (b : Bool) → test x ≡ b → cond b (Some x) (find test xs) ≡ None → (c : Bool) → eqb x p ≡ c → (c || list_any (λ k. eqb k p) xs) ≡ true → (find test xs ≡ None → list_any (λ k. eqb k p) xs ≡ true → ⊥) → ⊥
    by true e gone c same there rest = absurd cc
    by false e gone true same there rest = true≢false (sym t ∙ ap test (sym (eqb-true x p same)) ∙ e)
    by false e gone false same there rest = rest gone there

-- where no undecided prepare has the name, each has another
pub none_named : (history : List Entry) (name : List ℕ) (p : ℕ) → named history name ≡ None → is_undecided history p ≡ true → name_at history p ≡ name → ⊥
none_named history name p none undecided_p same =
    find_none (λ q. bytes_eq (name_at history q) name) (undecided history) p none ((bytes_eq-Decides (name_at history p) name).1 same) (is_undecided_by_list history p ∙ undecided_p)
