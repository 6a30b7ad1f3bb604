-- The keys that a pass over the held keys finds beyond a batch.
use Rattle.std.proofs.Common.{◌≡◌, ℕ, Bool, true, false, ◌||◌, ◌&&◌, cond, not, true≢false, List, [], ◌∷◌, Option, Some, None, refl, sym, subst, ap, ◌∙◌}
use Rattle.std.specs.Prelude.{if◌then◌else◌}
use Rattle.std.specs.FinMap as finite
use Rattle.std.specs.List.{AllByRecursion}
use Rattle.std.specs.List.Sorted.{IsStrictlySortedBy}
use Rattle.std.specs.Map.{keys_of}
use Rattle.std.specs.Ordering.{is_eq, eq_by_cmp}
use Rattle.std.specs.declared.cmp.Ordering.{Ordering}
use Rattle.std.specs.declared.cmp.Ordering.TheVariants.{Less}
use Rattle.std.specs.Str.{bytes_eq}
use Rattle.std.proofs.lemmas.Bool.{false_from_ne_true}
use Rattle.std.proofs.lemmas.Map.Keys.{sorted_head, sorted_tail}
use Rattle.std.proofs.lemmas.Slice.Eq.{bytes_eq-Decides}
use Rattle.wp_model.specs.Batch.{key_cmp}
use Rattle.wp_model.specs.declared.change.Change.{Change}
use Rattle.wp_model.specs.declared.holder.Holder.{Holder}
use Rattle.wp_model.specs.declared.holder.Holder.TheVariants.{Txn, Client}
use Rattle.wp_model.specs.History.{is_changed}
use Rattle.wp_model.specs.LockState.{LockState, is_among_keys}
use Rattle.wp_model.proofs.Keyed.{same_test}
use Rattle.wp_model.proofs.Tests.{some_none}
use Rattle.wp_model.proofs.Words.{same_word}
use Rattle.wp_locks.specs.Locks.{is_beyond, AreBeyond, AreOnce}
use Rattle.wp_locks.proofs.Maps.{value_at, map_of, get-map_of}

abbrev Held : Type 0
Held = List ℕ × Holder

-- ---- the entries of a tree, whose keys ascend

-- no key is there twice
abbrev Apart : List Held → Type 0
Apart [] = Unit {0}
Apart (e ∷ es) = (value_at es e.0 ≡ None) × Apart es

none_above : (es : List Held) (key : List ℕ) → AllByRecursion (λ k. key_cmp key k ≡ Less) (keys_of es) → value_at es key ≡ None
none_above [] key all = refl
none_above (e ∷ es) key all = ap (λ (o : Ordering). cond (is_eq o) (Some e.1) (value_at es key)) all.0 ∙ none_above es key all.1

apart : (es : List Held) → IsStrictlySortedBy key_cmp (keys_of es) → Apart es
apart [] sorted = tt
apart (e ∷ es) sorted = (none_above es e.0 (sorted_head key_cmp e.0 (keys_of es) sorted), apart es (sorted_tail key_cmp e.0 (keys_of es) sorted))

not_equal : (a b : List ℕ) → eq_by_cmp key_cmp b a ≡ false → bytes_eq a b ≡ false
not_equal a b other = false_from_ne_true (bytes_eq a b) (λ same. true≢false (sym (same_test b a (sym ((bytes_eq-Decides a b).0 same))) ∙ other))

-- ---- a pass

module _ (name : List ℕ) (batch : List Change) where
  -- the key of the entry too, if it is beyond the batch
  abbrev pub with_beyond : Held → List (List ℕ) → List (List ℕ)
  with_beyond e keys = if is_beyond name batch e.0 e.1 then e.0 ∷ keys else keys

  abbrev pub all_beyond : List Held → List (List ℕ)
  all_beyond [] = []
  all_beyond (e ∷ es) = with_beyond e (all_beyond es)

  -- what the holder of the key says of it
  abbrev beyond_of : Option Holder → List ℕ → Bool
  beyond_of None key = false
  beyond_of (Some holder) key = is_beyond name batch key holder

  passed_by : (e : Held) (keys : List (List ℕ)) (q : List ℕ) → eq_by_cmp key_cmp q e.0 ≡ false → (b : Bool) → is_among_keys (if b then e.0 ∷ keys else keys) q ≡ is_among_keys keys q
  passed_by e keys q other true = ap (λ (t : Bool). t || is_among_keys keys q) (not_equal e.0 q other)
  passed_by e keys q other false = refl

  passed : (e : Held) (keys : List (List ℕ)) (q : List ℕ) → eq_by_cmp key_cmp q e.0 ≡ false → is_among_keys (with_beyond e keys) q ≡ is_among_keys keys q
  passed e keys q other = passed_by e keys q other (is_beyond name batch e.0 e.1)

  here_by : (e : Held) (keys : List (List ℕ)) → is_among_keys keys e.0 ≡ false → (b : Bool) → is_among_keys (if b then e.0 ∷ keys else keys) e.0 ≡ b
  here_by e keys none true = ap (λ (t : Bool). t || is_among_keys keys e.0) ((bytes_eq-Decides e.0 e.0).1 refl)
  here_by e keys none false = none

  here : (e : Held) (keys : List (List ℕ)) (q : List ℕ) → is_among_keys keys q ≡ false → e.0 ≡ q → is_among_keys (with_beyond e keys) q ≡ is_beyond name batch q e.1
  here e keys q none same = subst (λ (k : List ℕ). is_among_keys (with_beyond e keys) k ≡ is_beyond name batch k e.1) same
      (here_by e keys (ap (is_among_keys keys) same ∙ none) (is_beyond name batch e.0 e.1))

  -- a key of no entry is not found
  none_found : (es : List Held) (q : List ℕ) → value_at es q ≡ None → is_among_keys (all_beyond es) q ≡ false
  none_found [] q none = refl
  none_found (e ∷ es) q none = by (λ is. none_found es q is) (eq_by_cmp key_cmp q e.0) refl none
    where
      by : (value_at es q ≡ None → is_among_keys (all_beyond es) q ≡ false) → (t : Bool) → eq_by_cmp key_cmp q e.0 ≡ t → cond t (Some e.1) (value_at es q) ≡ None → is_among_keys (with_beyond e (all_beyond es)) q ≡ false
      by rest true same is = absurd (some_none e.1 is)
      by rest false other is = passed e (all_beyond es) q other ∙ rest is

  -- a key is found where its holder says so
  found : (es : List Held) (q : List ℕ) → Apart es → is_among_keys (all_beyond es) q ≡ beyond_of (value_at es q) q
  found [] q distinct = refl
  found (e ∷ es) q distinct = by (found es q distinct.1) (eq_by_cmp key_cmp q e.0) refl
    where
      by : is_among_keys (all_beyond es) q ≡ beyond_of (value_at es q) q → (t : Bool) → eq_by_cmp key_cmp q e.0 ≡ t → is_among_keys (with_beyond e (all_beyond es)) q ≡ beyond_of (cond t (Some e.1) (value_at es q)) q
      by rest true same = let is : e.0 ≡ q = sym (same_word q e.0 same) in here e (all_beyond es) q (ap (is_among_keys (all_beyond es)) (sym is) ∙ none_found es e.0 distinct.0) is
      by rest false other = passed e (all_beyond es) q other ∙ rest

  once_by : (e : Held) (keys : List (List ℕ)) → is_among_keys keys e.0 ≡ false → AreOnce keys → (b : Bool) → AreOnce (if b then e.0 ∷ keys else keys)
  once_by e keys none rest true = (none, rest)
  once_by e keys none rest false = rest

  once_each : (es : List Held) → Apart es → AreOnce (all_beyond es)
  once_each [] distinct = tt
  once_each (e ∷ es) distinct = once_by e (all_beyond es) (none_found es e.0 distinct.0) (once_each es distinct.1) (is_beyond name batch e.0 e.1)

  says_held : (o : Option Holder) (key : List ℕ) → beyond_of o key ≡ true → (o ≡ Some (Txn name)) × (is_changed batch key ≡ false)
  says_held None key is = absurd cc
  says_held (Some (Client client)) key is = absurd cc
  says_held (Some (Txn other)) key is = by (bytes_eq other name) (is_changed batch key) refl refl is
    where
      by : (s c : Bool) → bytes_eq other name ≡ s → is_changed batch key ≡ c → (s && not c) ≡ true → (Some (Txn other) ≡ Some (Txn name)) × (is_changed batch key ≡ false)
      by true false same unchanged is = (ap (λ (n : List ℕ). Some (Txn n)) ((bytes_eq-Decides other name).0 same), unchanged)
      by true true same changed is = absurd cc
      by false c apart changed is = absurd cc

  -- what the pass finds
  pub are_beyond : (t : LockState) (es : List Held) (keys : List (List ℕ)) → IsStrictlySortedBy key_cmp (keys_of es) → t.keys ≡ map_of es → keys ≡ all_beyond es → AreBeyond t name batch keys
  are_beyond t es keys sorted are is =
      let distinct = apart es sorted in
      let under : (key : List ℕ) → finite.get t.keys key ≡ value_at es key = λ key. ap (λ (m : finite.FinMap key_cmp Holder). finite.get m key) are ∙ get-map_of es key in
      let among : (key : List ℕ) → is_among_keys keys key ≡ beyond_of (finite.get t.keys key) key = λ key.
      ap (λ (ks : List (List ℕ)). is_among_keys ks key) is ∙ found es key distinct ∙ ap (λ (o : Option Holder). beyond_of o key) (sym (under key)) in
      record {
        held = λ key has. says_held (finite.get t.keys key) key (sym (among key) ∙ has);
        all = λ key has unchanged. among key ∙ ap (λ (o : Option Holder). beyond_of o key) has ∙ ap (λ (b : Bool). bytes_eq name name && not b) unchanged ∙ ap (λ (b : Bool). b && true) ((bytes_eq-Decides name name).1 refl);
        once = subst AreOnce (sym is) (once_each es distinct);
      }
