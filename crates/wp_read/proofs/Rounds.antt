-- Versions are decided one after another, and copied in rounds.
use Rattle.std.proofs.Common.{◌≡◌, inl, inr, ⊎_elim, ℕ, zero, suc, ◌+◌, ◌<◌, ◌==◌, true, List, [], ◌∷◌, ◌++◌, length, take, drop, get_or, refl, sym, subst, ap, ◌∙◌, length-append, arith}
use Rattle.std.specs.List.{list_any}
use Rattle.std.proofs.lemmas.List.{length-take-le}
use Rattle.wp_model.specs.declared.entry.Entry.{Entry}
use Rattle.wp_model.specs.declared.version.Version.{Version}
use Rattle.wp_model.specs.Decision.{IsCommittedAt}
use Rattle.wp_core.specs.Lists.{IsIn}
use Rattle.wp_core.proofs.HistoryLaws.{is_equal}
use Rattle.wp_read.specs.Values.{NoneCommitted, IsFirstCommitted}
use Rattle.wp_read.proofs.Versions.{in_either, any_in}

-- it was found invisible before
pub not_again : (history : List Entry) (n p : ℕ) (earlier : List Version) → NoneCommitted history n earlier → list_any (λ v. v.number == p) earlier ≡ true → IsCommittedAt history p n → ⊥
not_again history n p earlier none there c =
    let k = any_in (λ v. v.number == p) earlier there in none k.0 k.1 (subst (λ (q : ℕ). IsCommittedAt history q n) (sym (is_equal k.0.number p k.2)) c)

-- ---- an item of a list

pub parts_at : {X : Type 0} (xs : List X) (i : ℕ) (x : X) → i < length xs → x ≡ get_or xs i x → xs ≡ take i xs ++ x ∷ drop (suc i) xs
parts_at [] i x lt is = absurd (omega arith)
parts_at (y ∷ ys) zero x lt is = ap (λ z. z ∷ ys) (sym is)
parts_at (y ∷ ys) (suc i) x lt is = ap (λ zs. y ∷ zs) (parts_at ys i x (omega arith) is)

pub one_more : {X : Type 0} (xs : List X) (i : ℕ) (x : X) → i < length xs → x ≡ get_or xs i x → take (suc i) xs ≡ take i xs ++ x ∷ []
one_more [] i x lt is = absurd (omega arith)
one_more (y ∷ ys) zero x lt is = ap (λ z. z ∷ []) (sym is)
one_more (y ∷ ys) (suc i) x lt is = ap (λ zs. y ∷ zs) (one_more ys i x (omega arith) is)

in_middle : {X : Type 0} (x : X) (xs ys : List X) → IsIn x (xs ++ x ∷ ys)
in_middle x [] ys = inl refl
in_middle x (y ∷ xs) ys = inr (in_middle x xs ys)

pub is_in : {X : Type 0} (xs : List X) (i : ℕ) (x : X) → i < length xs → x ≡ get_or xs i x → IsIn x xs
is_in xs i x lt is = subst (IsIn x) (sym (parts_at xs i x lt is)) (in_middle x (take i xs) (drop (suc i) xs))

pub none_more : (history : List Entry) (n : ℕ) (xs : List Version) (i : ℕ) (x : Version) → i < length xs → x ≡ get_or xs i x → NoneCommitted history n (take i xs) → (IsCommittedAt history x.number n → ⊥) → NoneCommitted history n (take (i + 1) xs)
none_more history n xs i x lt is none not v there c =
    let next : suc i ≡ i + 1 = omega arith in
    ⊎_elim (λ (k : IsIn v (take i xs)). none v k c)
    (λ (k : IsIn v (x ∷ [])). ⊎_elim (λ (e : x ≡ v). not (subst (λ (y : Version). IsCommittedAt history y.number n) (sym e) c)) (λ (no : ⊥). no) k)
    (in_either v (take i xs) (x ∷ []) (subst (IsIn v) (sym (ap (λ m. take m xs) next) ∙ one_more xs i x lt is) there))

pub first_is : (history : List Entry) (n : ℕ) (xs : List Version) (i : ℕ) (x : Version) → i < length xs → x ≡ get_or xs i x → NoneCommitted history n (take i xs) → IsCommittedAt history x.number n → IsFirstCommitted history n xs i
first_is history n xs i x lt is none c = record {
  front = take i xs;
  version = x;
  back = drop (suc i) xs;
  are = parts_at xs i x lt is;
  place = length-take-le i xs (omega arith);
  none_before = none;
  committed = c;
}

pub first_within : (history : List Entry) (n : ℕ) (xs : List Version) (i : ℕ) → IsFirstCommitted history n xs i → i < length xs
first_within history n xs i f =
    let whole : length xs ≡ length f.front + suc (length f.back) = ap length f.are ∙ length-append f.front (f.version ∷ f.back) in
    let place : length f.front ≡ i = f.place in omega arith
