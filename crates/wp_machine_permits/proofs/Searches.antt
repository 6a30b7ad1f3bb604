-- What a search over the items of a state says of the state.
use Rattle.std.proofs.Common.{◌≡◌, ◌<◌, ℕ, zero, suc, get_or, drop, Bool, true, false, cond, nat_eq, not, ◌||◌, length, List, [], ◌∷◌, Option, Some, None, IsSome, MatchOption, refl, sym, ap, ◌∙◌, arith}
use Rattle.std.specs.Ordering.{nat_cmp, eq_by_cmp}
use Rattle.std.specs.Cmp.{nat_cmp_total, unsigned_tied, eq_by_cmp_equiv}
use Rattle.std.proofs.lemmas.Cmp.{nat_list_cmp_total}
use Rattle.std.proofs.lemmas.Map.Text.{is_eq-slice_cmp}
use Rattle.std.specs.List.{list_any, slice_get}
use Rattle.std.specs.FinSet as set
use Rattle.std.specs.FinMap as finite
use Rattle.std.specs.Str.{bytes_eq}
use Rattle.std.specs.Option.{is_some}
use Rattle.std.proofs.lemmas.Bool.{eqb-true, eq-eqb}
use Rattle.wp_model.specs.PreparedSets.{PreparedSets, NoneDelayed}
use Rattle.wp_model.specs.Snapshots.{LiveSnapshot, is_old_commit, NoOldCommits}
use Rattle.wp_model.specs.Batch.{key_cmp}
use Rattle.wp_machine_permits.specs.Each.{Each}

-- ---- one item more

pub each_step : {X : Type 0} (P : X → Type 0) (xs : List X) (i : ℕ) (x : X) → i < length xs → x ≡ get_or xs i x → P x → Each P (drop (suc i) xs) → Each P (drop i xs)
each_step P [] i x within is here rest = absurd (omega (arith, within))
each_step P (y ∷ ys) zero x within is here rest = (rw is at here, rest)
each_step P (y ∷ ys) (suc i) x within is here rest = each_step P ys i x (omega (arith, within)) is here rest

-- ---- pairs of a map

same_number : (q k : ℕ) → eq_by_cmp nat_cmp q k ≡ true → k ≡ q
same_number q k h = sym (eqb-true q k (sym (unsigned_tied q k) ∙ h))

each_found : {X : Type 0} (P : ℕ → Type 0) (pairs : List (ℕ × X)) (s : ℕ) → Each (λ pair. P pair.0) pairs → IsSome (finite.find nat_cmp s pairs) → P s
each_found P [] s each found = absurd cc
each_found {X} P (pair ∷ pairs) s each found = by (eq_by_cmp nat_cmp s pair.0) refl (each_found P pairs s each.1) found
  where
    by : (b : Bool) → eq_by_cmp nat_cmp s pair.0 ≡ b → (IsSome (finite.find nat_cmp s pairs) → P s) → IsSome (cond b (Some pair.1) (finite.find nat_cmp s pairs)) → P s
    by true is others found = rw (same_number s pair.0 is) at each.0
    by false is others found = others found

pub none_kept : (snapshots : finite.FinMap nat_cmp LiveSnapshot) (live : List (ℕ × LiveSnapshot)) → snapshots ≡ finite.from_entries live → Each (λ pair. (p : ℕ) → is_old_commit snapshots pair.0 p ≡ false) live → NoOldCommits snapshots
none_kept snapshots live is none s p = by (finite.get snapshots s) refl
  where
    by : (o : Option LiveSnapshot) → finite.get snapshots s ≡ o → is_old_commit snapshots s p ≡ false
    by None missing = rw missing refl
    by (Some x) there =
        let found : IsSome (finite.get snapshots s) = rw there refl in
        each_found (λ k. (q : ℕ) → is_old_commit snapshots k q ≡ false) live s none (rw (is, finite.get-from_entries nat_cmp_total live s) at found) p

pub kept_or_none : (snapshots : finite.FinMap nat_cmp LiveSnapshot) (live : List (ℕ × LiveSnapshot)) → snapshots ≡ finite.from_entries live → (found : Option (ℕ × ℕ)) (b : Bool) → is_some found ≡ not b
    → MatchOption found (Each (λ pair. (p : ℕ) → is_old_commit snapshots pair.0 p ≡ false) live) (λ r. is_old_commit snapshots r.0 r.1 ≡ true) → (b ≡ true → NoOldCommits snapshots) × (NoOldCommits snapshots → b ≡ true)
kept_or_none snapshots live is None true e none = (λ _. none_kept snapshots live is none, λ _. refl)
kept_or_none snapshots live is None false e none = absurd cc
kept_or_none snapshots live is (Some r) true e kept = absurd cc
kept_or_none snapshots live is (Some r) false e kept = (λ no. absurd cc, λ none. let apart : true ≡ false = sym kept ∙ none r.0 r.1 in absurd cc)

-- ---- numbers of a set

each_any : (P : ℕ → Type 0) (numbers : List ℕ) (p : ℕ) → Each P numbers → list_any (λ y. nat_eq y p) numbers ≡ true → P p
each_any P [] p each found = absurd cc
each_any P (x ∷ xs) p each found = by (nat_eq x p) refl (each_any P xs p each.1) found
  where
    by : (b : Bool) → nat_eq x p ≡ b → (list_any (λ y. nat_eq y p) xs ≡ true → P p) → (b || list_any (λ y. nat_eq y p) xs) ≡ true → P p
    by true is others found = rw (eqb-true x p is) at each.0
    by false is others found = others found

pub each_in_set : (P : ℕ → Type 0) (numbers : List ℕ) → Each P numbers → (p : ℕ) → set.contains (set.from_list {R = nat_cmp} numbers) p ≡ true → P p
each_in_set P numbers each p found = each_any P numbers p each (sym (set.contains-from_list_nat numbers p) ∙ found)

pub first_in_set : (x : ℕ) (xs : List ℕ) → set.contains (set.from_list {R = nat_cmp} (x ∷ xs)) x ≡ true
first_in_set x xs = set.contains-from_list_nat (x ∷ xs) x ∙ rw (eq-eqb x x refl) refl

-- ---- nothing delayed

none_in : (numbers : List ℕ) → nat_eq (length numbers) 0 ≡ true → (p : ℕ) → set.contains (set.from_list {R = nat_cmp} numbers) p ≡ false
none_in [] e p = set.contains-from_list_nat [] p
none_in (x ∷ xs) e p = let none : suc (length xs) ≡ 0 = eqb-true _ _ e in absurd cc

some_in : (numbers : List ℕ) → nat_eq (length numbers) 0 ≡ false → (p : ℕ) × (set.contains (set.from_list {R = nat_cmp} numbers) p ≡ true)
some_in [] e = absurd cc
some_in (x ∷ xs) e = (x, first_in_set x xs)

first_got : (pair : ℕ × ℕ) (pairs : List (ℕ × ℕ)) → finite.get (finite.from_entries {R = nat_cmp} (pair ∷ pairs)) pair.0 ≡ Some pair.1
first_got pair pairs = finite.get-from_entries nat_cmp_total (pair ∷ pairs) pair.0 ∙ rw (unsigned_tied pair.0 pair.0, eq-eqb pair.0 pair.0 refl) refl

pub none_delayed : (t : PreparedSets) (heap delayed : List ℕ) (commits : List (ℕ × ℕ)) → t ≡ record { heap = set.from_list heap; delayed = set.from_list delayed; delayed_commits = finite.from_entries commits } → nat_eq (length delayed) 0 ≡ true
    → (b : Bool) → b ≡ nat_eq (length commits) 0 → (b ≡ true → NoneDelayed t) × (NoneDelayed t → b ≡ true)
none_delayed t heap delayed [] is none b e = (λ _. rw is (none_in delayed none, λ p. finite.get-from_entries nat_cmp_total [] p), λ _. e)
none_delayed t heap delayed (pair ∷ pairs) is none b e = (λ on. let none : suc (length pairs) ≡ 0 = eqb-true _ _ (sym e ∙ on) in absurd cc, λ nothing. let apart : Some pair.1 ≡ None = sym (first_got pair pairs) ∙ (rw is at nothing.1) pair.0 in absurd cc)

pub some_delayed : (t : PreparedSets) (heap delayed : List ℕ) (commits : List (ℕ × ℕ)) → t ≡ record { heap = set.from_list heap; delayed = set.from_list delayed; delayed_commits = finite.from_entries commits } → nat_eq (length delayed) 0 ≡ false
    → (b : Bool) → b ≡ false → (b ≡ true → NoneDelayed t) × (NoneDelayed t → b ≡ true)
some_delayed t heap delayed commits is there b down =
    let some = some_in delayed there in
    (λ on. let apart : true ≡ false = sym on ∙ down in absurd cc, λ nothing. let apart : true ≡ false = sym some.1 ∙ (rw is at nothing.0) some.0 in absurd cc)

-- ---- keys of a set

tied_key : (p q : List ℕ) → eq_by_cmp key_cmp q p ≡ bytes_eq p q
tied_key p q = (eq_by_cmp_equiv nat_list_cmp_total).symm q p ∙ is_eq-slice_cmp p q

any_key : (keys : List (List ℕ)) (q : List ℕ) → list_any (λ y. bytes_eq y q) keys ≡ list_any (eq_by_cmp key_cmp q) keys
any_key [] q = refl
any_key (x ∷ xs) q = rw (tied_key x q) (ap (λ b. bytes_eq x q || b) (any_key xs q))

pub listed_key : (keys : List (List ℕ)) (q : List ℕ) → list_any (λ y. bytes_eq y q) keys ≡ set.contains (set.from_list {R = key_cmp} keys) q
listed_key keys q = any_key keys q ∙ sym (set.contains-from_list nat_list_cmp_total keys q)

pub first_or_none : (numbers : List ℕ) (o : Option ℕ) → o ≡ slice_get numbers 0 → MatchOption o ((p : ℕ) → set.contains (set.from_list {R = nat_cmp} numbers) p ≡ false) (λ p. set.contains (set.from_list {R = nat_cmp} numbers) p ≡ true)
first_or_none [] o e = rw e (λ p. set.contains-from_list_nat [] p)
first_or_none (x ∷ xs) o e = rw e (first_in_set x xs)
