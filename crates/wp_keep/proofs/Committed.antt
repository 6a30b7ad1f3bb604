-- The least commit of each number, against the pairs.
use Rattle.std.proofs.Common.{◌≡◌, ℕ, ◌+◌, ◌<◌, Bool, true, false, ◌==◌, ◌&&◌, ◌||◌, cond, List, [], ◌∷◌, ◌++◌, length, get_or, take, nat_le, Option, Some, refl, sym, ap, ◌∙◌, arith}
use Rattle.std.specs.Cmp.{nat_cmp_total}
use Rattle.std.specs.Ordering.{nat_cmp, eq_by_cmp}
use Rattle.std.specs.Map.{lookup}
use Rattle.std.specs.BTreeMap.{is_at}
use Rattle.std.specs.FinMap.{get, find, get-from_entries}
use Rattle.std.proofs.lemmas.Bool.{eqb-true}
use Rattle.std.proofs.lemmas.Bool.Decides.{nat_tests}
use Rattle.std.proofs.lemmas.List.{take_more}
use Rattle.std.proofs.lemmas.List.Folds.{list_any-append}
use Rattle.wp_keep.specs.declared.pair.Pair.{Pair}
use Rattle.wp_keep.specs.Keep.{by_commits, commits_in, is_committed}
use Rattle.wp_model.specs.Decision.{is_by}

or_nothing : (a : Bool) → a ≡ (a || false)
or_nothing true = refl
or_nothing false = refl

eq_by_nat_cmp : (a b : ℕ) → eq_by_cmp nat_cmp a b ≡ (a == b)
eq_by_nat_cmp a b = grind (arith, nat_tests)

find_is : (es : List (ℕ × ℕ)) (q : ℕ) → find nat_cmp q es ≡ lookup (is_at (nat_cmp q)) es
find_is [] q = refl
find_is (e ∷ es) q = ap (cond (eq_by_cmp nat_cmp q e.0) (Some e.1)) (find_is es q)

pub get-commits_in : (es : List (ℕ × ℕ)) (q : ℕ) → get (commits_in es) q ≡ lookup (is_at (nat_cmp q)) es
get-commits_in es q = get-from_entries nat_cmp_total es q ∙ find_is es q

with_next : (a b c d e : Bool) → a ≡ (b || c) → b ≡ d → c ≡ e → a ≡ (d || (e || false))
with_next a b c d true h f g = h ∙ (λ i. f i || g i)
with_next a b c d false h f g = h ∙ (λ i. f i || g i)

-- one pair more, with the lesser of its commit and the earlier ones
pub commit_more : (es ns : List (ℕ × ℕ)) (pairs : List Pair) (i : ℕ) (d pair : Pair) (found : Option ℕ) (least : ℕ) → i < length pairs → pair ≡ get_or pairs i d → found ≡ lookup (is_at (nat_cmp pair.number)) es → ((n : ℕ) → is_by (Some least) n ≡ (is_by found n || is_by (Some pair.commit) n)) → ((q : ℕ) → lookup (is_at (nat_cmp q)) ns ≡ cond (eq_by_cmp nat_cmp pair.number q) (Some least) (lookup (is_at (nat_cmp q)) es)) → ((p n : ℕ) → by_commits (commits_in es) p n ≡ is_committed (take i pairs) p n) → (p n : ℕ) → by_commits (commits_in ns) p n ≡ is_committed (take (i + 1) pairs) p n
commit_more es ns pairs i d pair found least within is had lesser updated before p n =
    ap (λ o. is_by o n) (get-commits_in ns p ∙ updated p)
    ∙ by (pair.number == p) refl
    ∙ sym (list_any-append (λ (q : Pair). (q.number == p) && nat_le q.commit n) (take i pairs) (pair ∷ []))
    ∙ ap (λ qs. is_committed qs p n) (sym (take_more pairs i d within ∙ ap (λ q. take i pairs ++ q ∷ []) (sym is)))
  where
    old : is_by (lookup (is_at (nat_cmp p)) es) n ≡ is_committed (take i pairs) p n
    old = ap (λ o. is_by o n) (sym (get-commits_in es p)) ∙ before p n

    by : (b : Bool) → (pair.number == p) ≡ b → is_by (cond (eq_by_cmp nat_cmp pair.number p) (Some least) (lookup (is_at (nat_cmp p)) es)) n ≡ (is_committed (take i pairs) p n || ((b && nat_le pair.commit n) || false))
    by true same =
        let here : pair.number ≡ p = eqb-true pair.number p same in
        let at : eq_by_cmp nat_cmp pair.number p ≡ true = eq_by_nat_cmp pair.number p ∙ same in
        rw at (with_next _ _ _ _ _ (lesser n) (ap (λ o. is_by o n) (had ∙ ap (λ q. lookup (is_at (nat_cmp q)) es) here) ∙ old) refl)
    by false other =
        let at : eq_by_cmp nat_cmp pair.number p ≡ false = eq_by_nat_cmp pair.number p ∙ other in
        rw at (old ∙ or_nothing (is_committed (take i pairs) p n))

pub same_test : (f g : ℕ → ℕ → Bool) → ((p n : ℕ) → f p n ≡ g p n) → f ≡ g
same_test f g h = λ i p n. h p n i

pub commits_none : (es : List (ℕ × ℕ)) → es ≡ [] → (p n : ℕ) → by_commits (commits_in es) p n ≡ false
commits_none es none p n = ap (λ o. is_by o n) (get-commits_in es p ∙ ap (λ (xs : List (ℕ × ℕ)). lookup (is_at (nat_cmp p)) xs) none)
