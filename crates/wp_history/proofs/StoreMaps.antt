-- A map that has just the values that a history leaves, key by key, is the store that it leaves.
use Rattle.std.proofs.Common.{◌≡◌, ℕ, suc, ◌+◌, ◌<◌, Bool, true, false, true≢false, ◌&&◌, cond, Less, T, List, [], ◌∷◌, length, get_or, take, drop, drop-cons, Option, Some, None, is_some, refl, sym, ap, subst, ◌∙◌, arith}
use Rattle.std.specs.Prelude.{unwrap_or}
use Rattle.std.specs.Result.{IfOk}
use Rattle.std.specs.declared.result.Result.{Result}
use Rattle.std.specs.declared.result.Result.TheVariants.{Ok, Err}
use Rattle.std.specs.FinMap as finite
use Rattle.std.specs.FinMap.Entries.{below_all}
use Rattle.std.specs.List.{AllByRecursion}
use Rattle.std.specs.List.Sorted.{IsStrictlySortedBy}
use Rattle.std.specs.Map.{lookup, keys_of}
use Rattle.std.specs.BTreeMap.{BTreeMap, is_at}
use Rattle.std.specs.Cmp.{eq_by_cmp_equiv}
use Rattle.std.specs.Ordering.{is_lt, is_eq, eq_by_cmp}
use Rattle.std.specs.Str.{bytes_eq}
use Rattle.std.proofs.lemmas.Cmp.{nat_list_cmp_total}
use Rattle.std.proofs.lemmas.Map.{lookup-none}
use Rattle.std.proofs.lemmas.Map.Entries.{none_past_head}
use Rattle.std.proofs.lemmas.Map.Keys.{sorted_tail, IsDistinct-from_sorted}
use Rattle.std.proofs.lemmas.Map.Text.{is_eq-slice_cmp}
use Rattle.wp_model.specs.declared.entry.Entry.{Entry}
use Rattle.wp_model.specs.declared.change.Change.{Change}
use Rattle.wp_model.specs.Batch.{key_cmp, key_of, value_of, change_to}
use Rattle.wp_model.specs.History.{changes_of, newest}
use Rattle.wp_model.specs.Rows.{Values, Pair, stored}
use Rattle.wp_model.proofs.Rows.{stored_is}
use Rattle.wp_model.proofs.Tests.{some_none}
use Rattle.wp_model.proofs.Words.{same_word}
use Rattle.wp_history_laws.proofs.Growth.{AreNaming}
use Rattle.wp_history_laws.proofs.Newest.{unchanged_at, changed_at}
use Rattle.wp_history.specs.History.{IsStore, Leaves}
use Rattle.wp_history.proofs.Holding.{as_values}

abbrev pub find_in : List Pair → List ℕ → Option (List ℕ)
find_in es key = lookup (is_at (key_cmp key)) es

both_true : (a b : Bool) → a ≡ true → T b → T (a && b)
both_true true b e t = t
both_true false b e t = absurd (true≢false (sym e))

sorted_alike : (es : List Pair) → IsStrictlySortedBy key_cmp (keys_of es) → T (finite.is_sorted key_cmp es)
unfolding IsStrictlySortedBy
sorted_alike [] sorted = tt
sorted_alike (e ∷ es) sorted = both (below_all key_cmp e.0 es) (finite.is_sorted key_cmp es) (below es sorted.0) (sorted_alike es sorted.1)
  where
    both : (a b : Bool) → T a → T b → T (a && b)
    both true b s t = t
    both false b s t = absurd s

    below : (fs : List Pair) → AllByRecursion (λ q. key_cmp e.0 q ≡ Less) (keys_of fs) → T (below_all key_cmp e.0 fs)
    below [] all = tt
    below (f ∷ fs) all = both_true (is_lt (key_cmp e.0 f.0)) (below_all key_cmp e.0 fs) (ap is_lt all.0) (below fs all.1)

found_alike : (key : List ℕ) (es : List Pair) → find_in es key ≡ finite.find key_cmp key es
found_alike key [] = refl
found_alike key (e ∷ es) = ap (cond (eq_by_cmp key_cmp key e.0) (Some e.1)) (found_alike key es)

-- a map with just these values has the store's entries
pub entries_are : (values : Values) (store : BTreeMap (List ℕ) (List ℕ)) → IsStore (finite.get values) store → store.entries ≡ finite.entries values
entries_are values store is =
    let sorted = sorted_alike store.entries is.ordered in
    let map : Values = finite.from_sorted store.entries in
    let same : map ≡ values = finite.same_map nat_list_cmp_total (λ a b e. same_word a b (ap is_eq e)) map values
    (λ key. finite.get-from_sorted key_cmp store.entries key sorted ∙ sym (found_alike key store.entries) ∙ is.each key) in
    sym (finite.entries-from_sorted key_cmp store.entries sorted) ∙ ap finite.entries same

pub stored_entries : {E : Type 0} (history : List Entry) (result : Result (BTreeMap (List ℕ) (List ℕ)) E) → IfOk result (IsStore (newest history)) → IfOk result (λ store. store.entries ≡ finite.entries (stored history))
stored_entries history (Ok store) is = entries_are (stored history) store (as_values (newest history) (finite.get (stored history)) store (λ key. sym (stored_is history key)) is)
stored_entries history (Err error) is = is

-- ---- a map that is copied, key by key

-- what the values are, but for the keys that are left
abbrev pub but_left : List Pair → (List ℕ → Option (List ℕ)) → List ℕ → Option (List ℕ)
but_left left values key = cond (is_some (find_in left key)) None (values key)

-- what is left is in order, and has these values
pub record AreLeft (left : List Pair) (values : List ℕ → Option (List ℕ)) : Type 0 where
  pub ordered : IsStrictlySortedBy key_cmp (keys_of left)
  pub each : (key value : List ℕ) → find_in left key ≡ Some value → values key ≡ Some value

at_bytes : (key k : List ℕ) → is_at (key_cmp key) k ≡ bytes_eq k key
at_bytes key k = (eq_by_cmp_equiv nat_list_cmp_total).symm key k ∙ is_eq-slice_cmp k key

module _ (values : List ℕ → Option (List ℕ)) where
  pub all_left : (base : BTreeMap (List ℕ) (List ℕ)) → IsStore values base → AreLeft base.entries values
  all_left base had = record { ordered = had.ordered; each = λ key value found. sym (had.each key) ∙ found }

  pub none_copied : (base store : BTreeMap (List ℕ) (List ℕ)) → IsStore values base → IsStore (λ key. None) store → IsStore (but_left base.entries values) store
  none_copied base store had none = as_values (λ key. None) (but_left base.entries values) store (λ key. nothing key (find_in base.entries key) refl) none
    where
      nothing : (key : List ℕ) (o : Option (List ℕ)) → find_in base.entries key ≡ o → None ≡ cond (is_some (find_in base.entries key)) None (values key)
      nothing key None e = sym (ap (λ (b : Bool). cond b None (values key)) (ap is_some e) ∙ sym (had.each key) ∙ e)
      nothing key (Some v) e = sym (ap (λ (b : Bool). cond b None (values key)) (ap is_some e))

  module _ (k v : List ℕ) (rest : List Pair) (are : AreLeft ((k, v) ∷ rest) values) where
    gone : (key : List ℕ) → is_at (key_cmp key) k ≡ true → find_in rest key ≡ None
    gone key here = lookup-none (is_at (key_cmp key)) rest (none_past_head (eq_by_cmp_equiv nat_list_cmp_total) key (k, v) rest (IsDistinct-from_sorted key_cmp (keys_of ((k, v) ∷ rest)) are.ordered) here)

    others_left : (key value : List ℕ) (b : Bool) → is_at (key_cmp key) k ≡ b → find_in rest key ≡ Some value → values key ≡ Some value
    others_left key value true e found = absurd (some_none value (sym found ∙ gone key e))
    others_left key value false e found = are.each key value (ap (λ (b : Bool). cond b (Some v) (find_in rest key)) e ∙ found)

    fewer_left : AreLeft rest values
    fewer_left = record { ordered = sorted_tail key_cmp k (keys_of rest) are.ordered; each = λ key value found. others_left key value (is_at (key_cmp key) k) refl found }

    one_less : (key : List ℕ) (b : Bool) → is_at (key_cmp key) k ≡ b → cond (bytes_eq k key) (Some v) (but_left ((k, v) ∷ rest) values key) ≡ but_left rest values key
    one_less key true e =
        ap (λ (b : Bool). cond b (Some v) (but_left ((k, v) ∷ rest) values key)) (sym (at_bytes key k) ∙ e)
        ∙ sym (are.each key v (ap (λ (b : Bool). cond b (Some v) (find_in rest key)) e))
        ∙ sym (ap (λ (o : Option (List ℕ)). cond (is_some o) None (values key)) (gone key e))
    one_less key false e =
        ap (λ (b : Bool). cond b (Some v) (but_left ((k, v) ∷ rest) values key)) (sym (at_bytes key k) ∙ e)
        ∙ ap (λ (b : Bool). cond (is_some (cond b (Some v) (find_in rest key))) None (values key)) e

    copied_next : (old new : BTreeMap (List ℕ) (List ℕ)) → Leaves k (Some v) old new → IsStore (but_left ((k, v) ∷ rest) values) old → IsStore (but_left rest values) new
    copied_next old new leaves had =
        as_values (λ other. cond (bytes_eq k other) (Some v) (but_left ((k, v) ∷ rest) values other)) (but_left rest values) new (λ key. one_less key (is_at (key_cmp key) k) refl) (leaves (but_left ((k, v) ∷ rest) values) had)

-- one key is copied
pub copied_one : (values : List ℕ → Option (List ℕ)) (left : List Pair) (k v : List ℕ) (rest : List Pair) (old new : BTreeMap (List ℕ) (List ℕ)) → left ≡ (k, v) ∷ rest → Leaves k (Some v) old new
    → AreLeft left values × IsStore (but_left left values) old → AreLeft rest values × IsStore (but_left rest values) new
copied_one values left k v rest old new is leaves before =
    let are = subst (λ (es : List Pair). AreLeft es values) is before.0 in
    (fewer_left values k v rest are, copied_next values k v rest are old new leaves (subst (λ (es : List Pair). IsStore (but_left es values) old) is before.1))

-- ---- changes that are made, the last one first

-- what values are once the changes are made
abbrev pub made : List Change → (List ℕ → Option (List ℕ)) → List ℕ → Option (List ℕ)
made changes values key = unwrap_or (change_to changes key) (values key)

one_made : (b : Bool) (value other : Option (List ℕ)) (later : Option (Option (List ℕ))) → cond b value (unwrap_or later other) ≡ unwrap_or (cond b (Some value) later) other
one_made true value other later = refl
one_made false value other later = refl

pub made_next : (changes : List Change) (i j : ℕ) (change : Change) (values : List ℕ → Option (List ℕ)) (old new : BTreeMap (List ℕ) (List ℕ)) → j ≡ i + 1 → i < length changes → change ≡ get_or changes i change → Leaves (key_of change) (value_of change) old new → IsStore (made (drop j changes) values) old → IsStore (made (drop i changes) values) new
made_next changes i j change values old new next within is leaves had =
    as_values (λ key. cond (bytes_eq (key_of change) key) (value_of change) (made (drop j changes) values key)) (made (drop i changes) values) new (λ key. step key) (leaves (made (drop j changes) values) had)
  where
    front : change ∷ drop j changes ≡ drop i changes
    front =
        let one : j ≡ suc i = omega (arith, next) in
        ap (λ (n : ℕ). change ∷ drop n changes) one ∙ ap (λ (c : Change). c ∷ drop (suc i) changes) is ∙ sym (drop-cons changes i change within)

    step : (key : List ℕ) → cond (bytes_eq (key_of change) key) (value_of change) (made (drop j changes) values key) ≡ made (drop i changes) values key
    step key = one_made (bytes_eq (key_of change) key) (value_of change) (values key) (change_to (drop j changes) key) ∙ ap (λ (cs : List Change). made cs values key) front

-- ---- entries, one by one

module _ (history : List Entry) (i j : ℕ) (here : Entry) (naming : AreNaming history) (next : j ≡ i + 1) (within : i < length history) (is : here ≡ get_or history i here) where
  next_value : (key : List ℕ) → unwrap_or (change_to (changes_of history here) key) (newest (take i history) key) ≡ newest (take j history) key
  next_value key = by (change_to (changes_of history here) key) refl
    where
      by : (o : Option (Option (List ℕ))) → change_to (changes_of history here) key ≡ o → unwrap_or (change_to (changes_of history here) key) (newest (take i history) key) ≡ newest (take j history) key
      by None e = ap (λ (o : Option (Option (List ℕ))). unwrap_or o (newest (take i history) key)) e ∙ sym (unchanged_at history key i j here naming next within is e)
      by (Some value) e = ap (λ (o : Option (Option (List ℕ))). unwrap_or o (newest (take i history) key)) e ∙ sym (changed_at history key i j here value naming next within is (sym e))

  -- where these are its changes
  pub entry_made : (changes : List Change) (old new : BTreeMap (List ℕ) (List ℕ)) → changes ≡ changes_of history here → ((values : List ℕ → Option (List ℕ)) → IsStore values old → IsStore (made changes values) new) → IsStore (newest (take i history)) old → IsStore (newest (take j history)) new
  entry_made changes old new same leaves had =
      as_values (made changes (newest (take i history))) (newest (take j history)) new (λ key. ap (λ (cs : List Change). made cs (newest (take i history)) key) same ∙ next_value key) (leaves (newest (take i history)) had)
