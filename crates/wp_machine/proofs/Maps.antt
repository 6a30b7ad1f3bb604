-- Finite sets and maps of lists whose newest item comes first.
use Rattle.std.proofs.Common.{◌≡◌, ℕ, Bool, true, false, cond, not, nat_eq, ◌&&◌, ◌||◌, filter, List, [], ◌∷◌, ◌++◌, Option, Some, None, refl, sym, ap, ◌∙◌}
use Rattle.std.specs.Ordering.{nat_cmp, eq_by_cmp, is_eq}
use Rattle.std.specs.declared.cmp.Ordering.TheVariants.{Equal}
use Rattle.std.specs.Cmp.{nat_cmp_total, unsigned_tied, eq_by_cmp_equiv}
use Rattle.std.specs.List.{list_any}
use Rattle.std.specs.Str.{bytes_eq}
use Rattle.std.specs.FinSet as set
use Rattle.std.specs.FinMap as finite
use Rattle.std.proofs.lemmas.Bool.{eqb-true}
use Rattle.std.proofs.lemmas.Cmp.{nat_list_cmp_total}
use Rattle.std.proofs.lemmas.Map.Text.{is_eq-slice_cmp}
use Rattle.wp_model.specs.Batch.{key_cmp}
use Rattle.wp_machine.specs.Pairs.{newest_of, newest_under}

pub contains_number : (ks : List ℕ) (q : ℕ) → set.contains (set.from_list {R = nat_cmp} ks) q ≡ list_any (λ y. nat_eq y q) ks
contains_number ks q = set.contains-from_list_nat ks q

tied_number : (p q : ℕ) → eq_by_cmp nat_cmp q p ≡ nat_eq p q
tied_number p q = (eq_by_cmp_equiv nat_cmp_total).symm q p ∙ unsigned_tied p q

tied_name : (p q : List ℕ) → eq_by_cmp key_cmp q p ≡ bytes_eq p q
tied_name p q = (eq_by_cmp_equiv nat_list_cmp_total).symm q p ∙ is_eq-slice_cmp p q

same_number : (q k : ℕ) → eq_by_cmp nat_cmp q k ≡ true → q ≡ k
same_number q k h = eqb-true q k (sym (unsigned_tied q k) ∙ h)

module _ {X : Type 0} where
  find_newest : (es : List (ℕ × X)) (q : ℕ) → finite.find nat_cmp q es ≡ newest_of es q
  find_newest [] q = refl
  find_newest (e ∷ es) q = rw (tied_number e.0 q) (ap (cond (nat_eq e.0 q) (Some e.1)) (find_newest es q))

  pub newest_is_got : (es : List (ℕ × X)) (q : ℕ) → newest_of es q ≡ finite.get (finite.from_entries {R = nat_cmp} es) q
  newest_is_got es q = sym (finite.get-from_entries nat_cmp_total es q ∙ find_newest es q)

  find_under : (es : List (List ℕ × X)) (q : List ℕ) → finite.find key_cmp q es ≡ newest_under es q
  find_under [] q = refl
  find_under (e ∷ es) q = rw (tied_name e.0 q) (ap (cond (bytes_eq e.0 q) (Some e.1)) (find_under es q))

  pub under_is_got : (es : List (List ℕ × X)) (q : List ℕ) → newest_under es q ≡ finite.get (finite.from_entries {R = key_cmp} es) q
  under_is_got es q = sym (finite.get-from_entries nat_list_cmp_total es q ∙ find_under es q)

pub remove_missing : {X : Type 0} (m : finite.FinMap nat_cmp X) (k : ℕ) → finite.get m k ≡ None → m ≡ finite.remove m k
remove_missing m k none = finite.same_map nat_cmp_total finite.nat_cmp-IsAntisymmetric _ _ (λ q. by q (eq_by_cmp nat_cmp q k) refl ∙ sym (finite.get-remove nat_cmp_total m k q))
  where
    by : (q : ℕ) (b : Bool) → eq_by_cmp nat_cmp q k ≡ b → finite.get m q ≡ cond b None (finite.get m q)
    by q true is = ap (finite.get m) (same_number q k is) ∙ none
    by q false is = refl

-- ---- sets of numbers

abbrev pub set_of : List ℕ → set.FinSet nat_cmp
set_of xs = set.from_list xs

abbrev pub map_of : {X : Type 0} → List (ℕ × X) → finite.FinMap nat_cmp X
map_of es = finite.from_entries es

and_false : (b : Bool) → (b && false) ≡ false
and_false true = refl
and_false false = refl

grouped : (a b c : Bool) → (a || (b || c)) ≡ ((a || b) || c)
grouped true b c = refl
grouped false b c = refl

any_filtered : (f : ℕ → Bool) (xs : List ℕ) (p : ℕ) → list_any (λ y. nat_eq y p) (filter f xs) ≡ (list_any (λ y. nat_eq y p) xs && f p)
any_filtered f [] p = refl
any_filtered f (x ∷ xs) p = by (f x) refl (nat_eq x p) refl (any_filtered f xs p)
  where
    by : (b : Bool) → f x ≡ b → (d : Bool) → nat_eq x p ≡ d → list_any (λ y. nat_eq y p) (filter f xs) ≡ (list_any (λ y. nat_eq y p) xs && f p) → list_any (λ y. nat_eq y p) (cond b (x ∷ filter f xs) (filter f xs)) ≡ ((nat_eq x p || list_any (λ y. nat_eq y p) xs) && f p)
    by true e true d h = rw (d, ← eqb-true x p d, e) refl
    by true e false d h = rw d h
    by false e true d h = rw (d, h, ← eqb-true x p d, e) (and_false _)
    by false e false d h = rw d h

contains_filtered : (f : ℕ → Bool) (xs : List ℕ) (p : ℕ) → set.contains (set.from_list {R = nat_cmp} (filter f xs)) p ≡ (set.contains (set.from_list {R = nat_cmp} xs) p && f p)
contains_filtered f xs p = contains_number (filter f xs) p ∙ any_filtered f xs p ∙ ap (λ b. b && f p) (sym (contains_number xs p))

alike : (f : ℕ → Bool) (q x : ℕ) → nat_cmp q x ≡ Equal → f x ≡ f q
alike f q x e = ap f (sym (same_number q x (ap is_eq e)))

pub set_retained : (f : ℕ → Bool) (xs : List ℕ) → set.from_list {R = nat_cmp} (filter f xs) ≡ set.retain (set.from_list {R = nat_cmp} xs) f
set_retained f xs = set.same_set nat_cmp_total finite.nat_cmp-IsAntisymmetric _ _ (λ q. contains_filtered f xs q ∙ sym (set.contains-retain (set.from_list {R = nat_cmp} xs) f q (alike f q)))

pub set_removed : (p : ℕ) (xs : List ℕ) → set.from_list {R = nat_cmp} (filter (λ q. not (nat_eq q p)) xs) ≡ set.remove (set.from_list {R = nat_cmp} xs) p
set_removed p xs = set.same_set nat_cmp_total finite.nat_cmp-IsAntisymmetric _ _ (λ q. contains_filtered (λ x. not (nat_eq x p)) xs q ∙ turned (set.contains (set.from_list {R = nat_cmp} xs) q) (not (nat_eq q p)) ∙ ap (λ b. not b && set.contains (set.from_list {R = nat_cmp} xs) q) (sym (unsigned_tied q p)) ∙ sym (set.contains-remove nat_cmp_total (set.from_list {R = nat_cmp} xs) p q))
  where
    turned : (a b : Bool) → (a && b) ≡ (b && a)
    turned true true = refl
    turned true false = refl
    turned false true = refl
    turned false false = refl

pub set_joined : (xs ys : List ℕ) → set.from_list {R = nat_cmp} (xs ++ ys) ≡ set.union (set.from_list {R = nat_cmp} xs) (set.from_list {R = nat_cmp} ys)
set_joined xs ys = set.same_set nat_cmp_total finite.nat_cmp-IsAntisymmetric _ _ (λ q. contains_number (xs ++ ys) q ∙ any_joined xs ys q ∙ ap (λ b. b || list_any (λ y. nat_eq y q) ys) (sym (contains_number xs q)) ∙ ap (λ b. set.contains (set.from_list {R = nat_cmp} xs) q || b) (sym (contains_number ys q)) ∙ sym (set.contains-union nat_cmp_total _ _ q))
  where
    any_joined : (xs ys : List ℕ) (q : ℕ) → list_any (λ y. nat_eq y q) (xs ++ ys) ≡ (list_any (λ y. nat_eq y q) xs || list_any (λ y. nat_eq y q) ys)
    any_joined [] ys q = refl
    any_joined (x ∷ xs) ys q = ap (λ b. nat_eq x q || b) (any_joined xs ys q) ∙ grouped (nat_eq x q) _ _

-- ---- maps without a key

none_either : {X : Type 0} (o : Option X) (b : Bool) → o ≡ None → o ≡ cond b None o
none_either o true e = e
none_either o false e = refl

newest_but : {X : Type 0} (p q : ℕ) (es : List (ℕ × X)) → newest_of (filter (λ e. not (nat_eq e.0 p)) es) q ≡ cond (nat_eq q p) None (newest_of es q)
newest_but p q [] = none_either _ (nat_eq q p) refl
newest_but p q (e ∷ es) = by (nat_eq e.0 p) refl (nat_eq e.0 q) refl (newest_but p q es)
  where
    by : (b : Bool) → nat_eq e.0 p ≡ b → (d : Bool) → nat_eq e.0 q ≡ d → newest_of (filter (λ x. not (nat_eq x.0 p)) es) q ≡ cond (nat_eq q p) None (newest_of es q) → newest_of (cond (not b) (e ∷ filter (λ x. not (nat_eq x.0 p)) es) (filter (λ x. not (nat_eq x.0 p)) es)) q ≡ cond (nat_eq q p) None (cond (nat_eq e.0 q) (Some e.1) (newest_of es q))
    by true b true d h = let same = ap (λ k. nat_eq k p) (sym (eqb-true e.0 q d)) ∙ b in h ∙ rw same refl
    by true b false d h = rw d h
    by false b true d h = let apart = ap (λ k. nat_eq k p) (sym (eqb-true e.0 q d)) ∙ b in rw (d, apart) refl
    by false b false d h = rw d h

pub map_removed : {X : Type 0} (p : ℕ) (es : List (ℕ × X)) → finite.from_entries {R = nat_cmp} (filter (λ e. not (nat_eq e.0 p)) es) ≡ finite.remove (finite.from_entries {R = nat_cmp} es) p
map_removed p es = finite.same_map nat_cmp_total finite.nat_cmp-IsAntisymmetric _ _ (λ q.
    sym (newest_is_got (filter (λ e. not (nat_eq e.0 p)) es) q) ∙ newest_but p q es ∙ ap (λ b. cond b None (newest_of es q)) (sym (unsigned_tied q p)) ∙ ap (cond (eq_by_cmp nat_cmp q p) None) (newest_is_got es q)
    ∙ sym (finite.get-remove nat_cmp_total (finite.from_entries {R = nat_cmp} es) p q))
