-- What a compaction keeps is told by which numbers are live, in whatever order and however often they are listed.
use Rattle.std.proofs.Common.{◌≡◌, ⊎_elim, inl, inr, ℕ, zero, suc, ◌≤◌, ◌==◌, ◌&&◌, ◌||◌, eq-eqb, not, Bool, true, false, true≢false, List, [], ◌∷◌, length, map, refl, sym, subst, ap, ◌∙◌, min, arith}
use Rattle.std.specs.List.{Contains, filter, list_any}
use Rattle.std.proofs.lemmas.Bool.{eqb-true}
use Rattle.wp_model.specs.declared.entry.Entry.{Entry}
use Rattle.wp_model.specs.declared.version.Version.{Version}
use Rattle.wp_model.specs.Decision.{is_committed}
use Rattle.wp_model.specs.Flushed.{InstalledEdit}
use Rattle.wp_core.specs.Changes.{is_same_registration}
use Rattle.wp_core.specs.Lists.{IsIn, one_if, total}
use Rattle.wp_core.specs.Reading.{Registration}
use Rattle.wp_model.proofs.Tests.{both, either, or_true}
use Rattle.wp_keep.specs.Keep.{has_newer, stays, remaining}
use Rattle.wp_replies.specs.Tables.{retained, after_compaction}

-- ---- the same numbers

pub record AreSame (xs ys : List ℕ) : Type 0 where
  pub there : (n : ℕ) → IsIn n xs → IsIn n ys
  pub back : (n : ℕ) → IsIn n ys → IsIn n xs

same_bool : (a b : Bool) → (a ≡ true → b ≡ true) → (b ≡ true → a ≡ true) → a ≡ b
same_bool true b f g = sym (f refl)
same_bool false true f g = absurd (true≢false (sym (g refl)))
same_bool false false f g = refl

any_in : (test : ℕ → Bool) (xs : List ℕ) → list_any test xs ≡ true → (n : ℕ) × IsIn n xs × (test n ≡ true)
any_in test [] is = absurd (true≢false (sym is))
any_in test (x ∷ xs) is = ⊎_elim (λ (e : test x ≡ true). (x, inl refl, e)) (λ (e : list_any test xs ≡ true). let k = any_in test xs e in (k.0, inr k.1, k.2)) (either (test x) (list_any test xs) is)

in_any : (test : ℕ → Bool) (xs : List ℕ) (n : ℕ) → IsIn n xs → test n ≡ true → list_any test xs ≡ true
in_any test [] n there is = absurd there
in_any test (x ∷ xs) n (inl same) is = ap (λ (b : Bool). b || list_any test xs) (ap test same ∙ is)
in_any test (x ∷ xs) n (inr there) is = ap (λ (b : Bool). test x || b) (in_any test xs n there is) ∙ or_true (test x)

any_same : (test : ℕ → Bool) (xs ys : List ℕ) → AreSame xs ys → list_any test xs ≡ list_any test ys
any_same test xs ys same = same_bool (list_any test xs) (list_any test ys)
    (λ e. let k = any_in test xs e in in_any test ys k.0 (same.there k.0 k.1) k.2)
    (λ e. let k = any_in test ys e in in_any test xs k.0 (same.back k.0 k.1) k.2)

pub retained_same : (history : List Entry) (xs ys : List ℕ) (edit : InstalledEdit) → AreSame xs ys → retained history xs edit ≡ retained history ys edit
retained_same history xs ys edit same = λ i. remaining (is_committed history) (filter (λ v. stays_same v i) edit.versions) (length history)
  where
    stays_same : (v : Version) → stays (is_committed history) edit.versions xs (length history) v ≡ stays (is_committed history) edit.versions ys (length history) v
    stays_same v =
        let test : ℕ → Bool = λ (n : ℕ). is_committed history v.number n && not (has_newer (is_committed history) edit.versions v n) in
        ap (λ (b : Bool). not (is_committed history v.number (length history)) || (test (length history) || b)) (any_same test xs ys same)

pub compaction_same : (history : List Entry) (xs ys : List ℕ) (edit : InstalledEdit) → AreSame xs ys → after_compaction history xs edit ≡ after_compaction history ys edit
compaction_same history xs ys edit same = ap (λ (versions : List Version). record edit { versions = versions; tables = min (length versions) 1 }) (retained_same history xs ys edit same)

-- ---- lists of numbers

pub contained : (xs : List ℕ) (n : ℕ) → Contains xs n → IsIn n xs
contained [] n (k, low, is) = absurd (omega (arith, low))
contained (x ∷ xs) n (zero, low, is) = inl is
contained (x ∷ xs) n (suc k, low, is) = inr (contained xs n (k, (omega (arith, low)), is))

pub containing : (xs : List ℕ) (n : ℕ) → IsIn n xs → Contains xs n
containing [] n there = absurd there
containing (x ∷ xs) n (inl same) = (0, (omega arith), same)
containing (x ∷ xs) n (inr there) = let k = containing xs n there in (suc k.0, (let low = k.1 in omega (arith, low)), k.2)

-- ---- the numbers of registrations

abbrev pub numbers_in : List Registration → List ℕ
numbers_in rs = map (λ r. r.number) rs

pub number_in : (r : Registration) (rs : List Registration) → IsIn r rs → IsIn r.number (numbers_in rs)
number_in r [] there = absurd there
number_in r (s ∷ rs) (inl same) = inl (ap (λ (x : Registration). x.number) same)
number_in r (s ∷ rs) (inr there) = inr (number_in r rs there)

pub of_number : (n : ℕ) (rs : List Registration) → IsIn n (numbers_in rs) → (r : Registration) × IsIn r rs × (r.number ≡ n)
of_number n [] there = absurd there
of_number n (s ∷ rs) (inl same) = (s, inl refl, same)
of_number n (s ∷ rs) (inr there) = let k = of_number n rs there in (k.0, inr k.1, k.2)

-- how often it is among these
abbrev pub times_in : Registration → List Registration → ℕ
times_in r rs = total (λ s. one_if (is_same_registration r s)) rs

same_itself : (r s : Registration) → s ≡ r → one_if (is_same_registration r s) ≡ 1
same_itself r s same =
    ap one_if (ap (λ (b : Bool). b && (r.smallest == s.smallest)) (eq-eqb r.number s.number (ap (λ (x : Registration). x.number) (sym same))) ∙ eq-eqb r.smallest s.smallest (ap (λ (x : Registration). x.smallest) (sym same)))

pub among_counted : (r : Registration) (rs : List Registration) → IsIn r rs → 1 ≤ times_in r rs
among_counted r [] there = absurd there
among_counted r (s ∷ rs) (inl same) = let one = same_itself r s same in omega (arith, one)
among_counted r (s ∷ rs) (inr there) = let k = among_counted r rs there in omega (arith, k)

pub counted_number : (r : Registration) (rs : List Registration) → 1 ≤ times_in r rs → IsIn r.number (numbers_in rs)
counted_number r [] least = absurd (omega (arith, least))
counted_number r (s ∷ rs) least = by (counted_number r rs) (is_same_registration r s) refl
  where
    by : (1 ≤ times_in r rs → IsIn r.number (numbers_in rs)) → (b : Bool) → is_same_registration r s ≡ b → IsIn r.number (numbers_in (s ∷ rs))
    by others true e = inl (sym (eqb-true r.number s.number (both (r.number == s.number) (r.smallest == s.smallest) e).0))
    by others false e = let none : one_if (is_same_registration r s) ≡ 0 = ap one_if e in inr (others (omega (arith, least, none)))

-- lists that have each registration equally often have the same numbers
pub numbers_same : (xs ys : List Registration) → ((r : Registration) → times_in r xs ≡ times_in r ys) → AreSame (numbers_in xs) (numbers_in ys)
numbers_same xs ys equal = record {
  there = λ n there. let k = of_number n xs there in let least = among_counted k.0 xs k.1 in let same = equal k.0 in subst (λ (m : ℕ). IsIn m (numbers_in ys)) k.2 (counted_number k.0 ys (omega (arith, least, same)));
  back = λ n there. let k = of_number n ys there in let least = among_counted k.0 ys k.1 in let same = equal k.0 in subst (λ (m : ℕ). IsIn m (numbers_in xs)) k.2 (counted_number k.0 xs (omega (arith, least, same)));
}
