-- What is under a key and a number among versions that stand in several places.
use Rattle.std.proofs.Common.{◌≡◌, ◌≢◌, ℕ, zero, suc, ◌+◌, ◌-◌, ◌<◌, ◌≤◌, Bool, true, false, cond, ◌==◌, ◌&&◌, eq-eqb, ne_eqb, List, [], ◌∷◌, ◌++◌, length, get_or, drop, drop-cons, Bor, Option, Some, None, refl, sym, ap, ◌∙◌, arith}
use Rattle.std.specs.Prelude.{slice_get, is_some}
use Rattle.std.specs.List.{filter, list_all}
use Rattle.std.specs.Option.{option_or, option_map, option_copied}
use Rattle.std.specs.Str.{bytes_eq}
use Rattle.std.proofs.lemmas.Bool.{and_from}
use Rattle.std.proofs.lemmas.List.{append-nil, drop_all}
use Rattle.wp_model.specs.declared.change.Change.{Change}
use Rattle.wp_model.specs.declared.entry.Entry.{Entry}
use Rattle.wp_model.specs.declared.version.Version.{Version}
use Rattle.wp_model.specs.Batch.{key_of, value_of, change_to}
use Rattle.wp_model.specs.Decision.{version_in, entry_version}
use Rattle.wp_model.specs.Flushed.{versions_under, versions_after, later_versions}
use Rattle.wp_model.specs.Legal.{changes_in}
use Rattle.wp_model.specs.Versions.{version_at}
use Rattle.wp_merge.proofs.Sorted.{at_append}

-- ---- one list after the other

-- the item at the index is the first of those that are left
pub next_item : {X : Type 0} (items : List X) (i : ℕ) (item : X) → i < length items → item ≡ get_or items i item → drop i items ≡ item ∷ drop (i + 1) items
next_item items i item lt is = let e : suc i ≡ i + 1 = omega arith in drop-cons items i item lt ∙ (λ k. sym is k ∷ drop (e k) items)

pub or_none : {X : Type 0} (a : Option X) → option_or a None ≡ a
or_none None = refl
or_none (Some v) = refl

-- what is found in the first of two places counts
pub first_found : (found : Option (Option (Bor (List ℕ)))) (a b : Option (Option (List ℕ))) → is_some found ≡ true → option_map option_copied found ≡ a → option_map option_copied found ≡ option_or a b
first_found None a b some is = absurd cc
first_found (Some v) a b some is = ap (λ (o : Option (Option (List ℕ))). option_or o b) is

pub none_found : (found : Option (Option (Bor (List ℕ)))) (a b : Option (Option (List ℕ))) → is_some found ≡ false → option_map option_copied found ≡ a → b ≡ option_or a b
none_found None a b none is = ap (λ (o : Option (Option (List ℕ))). option_or o b) is
none_found (Some v) a b none is = absurd cc

-- ---- the versions of one key

pub at_key : (key : List ℕ) (p : ℕ) (vs : List Version) → version_at (filter (λ v. bytes_eq v.key key) vs) key p ≡ version_at vs key p
at_key key p [] = refl
at_key key p (v ∷ vs) = by (bytes_eq v.key key) refl (at_key key p vs)
  where
    by : (b : Bool) → bytes_eq v.key key ≡ b → version_at (filter (λ v. bytes_eq v.key key) vs) key p ≡ version_at vs key p → version_at (cond b (v ∷ filter (λ v. bytes_eq v.key key) vs) (filter (λ v. bytes_eq v.key key) vs)) key p ≡ cond (b && (v.number == p)) (Some v.value) (version_at vs key p)
    by true e rest = ap (λ (b : Bool). cond (b && (v.number == p)) (Some v.value) (version_at (filter (λ v. bytes_eq v.key key) vs) key p)) e ∙ ap (cond (v.number == p) (Some v.value)) rest
    by false e rest = rest

pub all_of_key : (key : List ℕ) (vs : List Version) → list_all (λ v. bytes_eq v.key key) (filter (λ v. bytes_eq v.key key) vs) ≡ true
all_of_key key [] = refl
all_of_key key (v ∷ vs) = by (bytes_eq v.key key) refl (all_of_key key vs)
  where
    by : (b : Bool) → bytes_eq v.key key ≡ b → list_all (λ v. bytes_eq v.key key) (filter (λ v. bytes_eq v.key key) vs) ≡ true → list_all (λ v. bytes_eq v.key key) (cond b (v ∷ filter (λ v. bytes_eq v.key key) vs) (filter (λ v. bytes_eq v.key key) vs)) ≡ true
    by true e rest = and_from (bytes_eq v.key key) (list_all (λ v. bytes_eq v.key key) (filter (λ v. bytes_eq v.key key) vs)) e rest
    by false e rest = rest

-- ---- later entries

none_either : (b : Bool) → let none : Option (Option (List ℕ)) = None in none ≡ cond b none none
none_either true = refl
none_either false = refl

one_under : (a b : Bool) (v : Option (List ℕ)) (x : Option (Option (List ℕ))) → cond (a && b) (Some v) (cond b x None) ≡ cond b (cond a (Some v) x) None
one_under true true v x = refl
one_under true false v x = refl
one_under false true v x = refl
one_under false false v x = refl

at_under : (m : ℕ) (changes : List Change) (key : List ℕ) (p : ℕ) → version_at (versions_under m changes) key p ≡ cond (m == p) (change_to changes key) None
at_under m [] key p = none_either (m == p)
at_under m (c ∷ changes) key p = ap (cond (bytes_eq (key_of c) key && (m == p)) (Some (value_of c))) (at_under m changes key p) ∙ one_under (bytes_eq (key_of c) key) (m == p) (value_of c) (change_to changes key)

-- the entry after n is looked up under its own number, and those behind it under theirs
first_or_others : (n : ℕ) (entry : Entry) (others : List Entry) (key : List ℕ) (p : ℕ) → version_at (versions_after n (entry ∷ others)) key p ≡ option_or (cond (suc n == p) (change_to (changes_in entry) key) None) (version_at (versions_after (suc n) others) key p)
first_or_others n entry others key p =
    at_append (versions_under (suc n) (changes_in entry)) (versions_after (suc n) others) key p
    ∙ ap (λ o. option_or o (version_at (versions_after (suc n) others) key p)) (at_under (suc n) (changes_in entry) key p)

behind_first : (n : ℕ) (entry : Entry) (others : List Entry) (key : List ℕ) (p : ℕ) → suc n ≢ p → version_at (versions_after n (entry ∷ others)) key p ≡ version_at (versions_after (suc n) others) key p
behind_first n entry others key p other =
    first_or_others n entry others key p
    ∙ ap (λ (b : Bool). option_or (cond b (change_to (changes_in entry) key) None) (version_at (versions_after (suc n) others) key p)) (ne_eqb (suc n) p other)

none_up_to : (n : ℕ) (entries : List Entry) (key : List ℕ) (p : ℕ) → p ≤ n → version_at (versions_after n entries) key p ≡ None
none_up_to n [] key p low = refl
none_up_to n (entry ∷ others) key p low = behind_first n entry others key p (λ same. absurd (omega (arith, same, low))) ∙ none_up_to (suc n) others key p (omega (arith, low))

each_at : (n : ℕ) (entries : List Entry) (key : List ℕ) (i p : ℕ) → p ≡ suc (n + i) → version_at (versions_after n entries) key p ≡ version_in (slice_get entries i) key
each_at n [] key i p is = refl
each_at n (entry ∷ others) key zero p is =
    first_or_others n entry others key p
    ∙ ap (λ (b : Bool). option_or (cond b (change_to (changes_in entry) key) None) (version_at (versions_after (suc n) others) key p)) (eq-eqb (suc n) p (omega (arith, is)))
    ∙ ap (option_or (change_to (changes_in entry) key)) (none_up_to (suc n) others key p (omega (arith, is)))
    ∙ or_none (change_to (changes_in entry) key)
each_at n (entry ∷ others) key (suc i) p is = behind_first n entry others key p (λ same. absurd (omega (arith, same, is))) ∙ each_at (suc n) others key i p (omega (arith, is))

pub get_dropped : (history : List Entry) (n i : ℕ) → slice_get (drop n history) i ≡ slice_get history (n + i)
get_dropped history zero i = ap (slice_get history) (let e : i ≡ 0 + i = omega arith in e)
get_dropped [] (suc n) i = refl
get_dropped (entry ∷ others) (suc n) i = get_dropped others n i ∙ ap (slice_get (entry ∷ others)) (let e : suc (n + i) ≡ suc n + i = omega arith in e)

-- up to the flushed number there are none, and above it the entries' own
pub none_later : (history : List Entry) (flushed : ℕ) (key : List ℕ) (p : ℕ) → p ≤ flushed → version_at (later_versions history flushed) key p ≡ None
none_later history flushed key p low = none_up_to flushed (drop flushed history) key p low

pub own_later : (history : List Entry) (flushed : ℕ) (key : List ℕ) (p : ℕ) → flushed < p → version_at (later_versions history flushed) key p ≡ entry_version history p key
own_later history flushed key zero high = absurd (omega (arith, high))
own_later history flushed key (suc m) high = by (m - flushed) (omega (arith, high))
  where
    by : (i : ℕ) → m ≡ flushed + i → version_at (later_versions history flushed) key (suc m) ≡ version_in (slice_get history m) key
    by i is =
        each_at flushed (drop flushed history) key i (suc m) (ap suc is)
        ∙ ap (λ (o : Option Entry). version_in o key) (get_dropped history flushed i)
        ∙ ap (λ (k : ℕ). version_in (slice_get history k) key) (sym is)

-- ---- all of them

pub at_all : (history : List Entry) (list stored : List Version) (flushed : ℕ) (key : List ℕ) (p : ℕ) → version_at (list ++ (stored ++ later_versions history flushed)) key p ≡ option_or (version_at list key p) (option_or (version_at stored key p) (version_at (later_versions history flushed) key p))
at_all history list stored flushed key p = at_append list (stored ++ later_versions history flushed) key p ∙ ap (option_or (version_at list key p)) (at_append stored (later_versions history flushed) key p)

-- where no entry is above the number, a list stands alone
pub list_alone : (history : List Entry) (list : List Version) (n : ℕ) → n ≡ length history → list ++ ([] ++ later_versions history n) ≡ list
list_alone history list n is = ap (λ (es : List Entry). list ++ versions_after n es) (drop_all n history (omega (arith, is))) ∙ append-nil list
