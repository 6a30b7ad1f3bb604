-- A prepare that takes its name and its keys, where nobody has them.
use Rattle.std.proofs.Common.{◌≡◌, ◌↔◌, ℕ, suc, ◌+◌, ◌<◌, Bool, true, false, ◌||◌, not, cond, get_or, List, [], ◌∷◌, ◌++◌, length, take, drop, drop-cons, Option, Some, refl, sym, ap, ◌∙◌}
use Rattle.std.specs.Prelude.{is_some, if◌then◌else◌}
use Rattle.std.specs.declared.cmp.Ordering.TheVariants.{Less}
use Rattle.std.specs.BTreeMap.{BTreeMap, IsOrdered, get, is_at}
use Rattle.std.specs.List.{list_any}
use Rattle.std.specs.Ordering.{is_eq, is_lt}
use Rattle.std.specs.Str.{bytes_eq}
use Rattle.std.proofs.lemmas.Bool.{and_parts}
use Rattle.std.proofs.lemmas.Cmp.{nat_list_cmp_total}
use Rattle.std.proofs.lemmas.List.{take-append-drop, take_more}
use Rattle.std.proofs.lemmas.List.Folds.{list_any-append}
use Rattle.std.proofs.lemmas.Map.Text.{is_eq-slice_cmp}
use Rattle.wp_model.specs.declared.carried.Carried.{Carried}
use Rattle.wp_model.specs.declared.change.Change.{Change}
use Rattle.wp_model.specs.declared.entry.Entry.{Entry}
use Rattle.wp_model.specs.Batch.{are_ascending, key_cmp, key_of}
use Rattle.wp_model.specs.History.{is_changed}
use Rattle.wp_model.specs.Legal.{IsOrderlyNext, KeysAreFree, changes_in}
use Rattle.wp_model.proofs.BatchLemmas.{ascending_rest, less_from_test}
use Rattle.wp_history.specs.Holders.{Holds, Marks, Takes, marked}
use Rattle.wp_history.specs.declared.holders.Holders.{Holders}
use Rattle.wp_history.specs.Outline.{MayDecide, collides}
use Rattle.wp_history.proofs.Holding.{collides_by, holds_more, leaves_by, marked_is, marked_more, marks_more, marks_none, not_false}

-- ---- keys of a batch are distinct

below_later : (first : Change) (others : List Change) (x : Change) (more : List Change) → are_ascending (first ∷ others ++ x ∷ more) ≡ true → key_cmp (key_of first) (key_of x) ≡ Less
below_later first [] x more h = less_from_test _ (and_parts (is_lt (key_cmp (key_of first) (key_of x))) (are_ascending (x ∷ more)) h).0
below_later first (second ∷ others) x more h =
    let parts = and_parts (is_lt (key_cmp (key_of first) (key_of second))) (are_ascending (second ∷ others ++ x ∷ more)) h in
    nat_list_cmp_total.trans (key_of first) (key_of second) (key_of x) (less_from_test _ parts.0) (below_later second others x more parts.1)

not_before : (before : List Change) (x : Change) (more : List Change) → are_ascending (before ++ x ∷ more) ≡ true → is_changed before (key_of x) ≡ false
not_before [] x more h = refl
not_before (first ∷ others) x more h =
    let other : bytes_eq (key_of first) (key_of x) ≡ false = sym (is_eq-slice_cmp (key_of first) (key_of x)) ∙ ap is_eq (below_later first others x more h) in
    rw other (not_before others x more (ascending_rest first (others ++ x ∷ more) h))

-- ---- key by key

abbrev pub has_holder : BTreeMap (List ℕ) ℕ → Change → Bool
has_holder keys change = is_some (get key_cmp keys (key_of change))

-- none of the changes' keys had a number, and each has this one now
pub record AreHeld (number : ℕ) (changes : List Change) (old new : BTreeMap (List ℕ) ℕ) : Type 0 where
  pub free : list_any (has_holder old) changes ≡ false
  pub each : (key : List ℕ) → get key_cmp new key ≡ marked (Some number) changes (λ other. get key_cmp old other) key
  pub marks : Marks (Some number) changes old new

pub none_held : (number : ℕ) (keys : BTreeMap (List ℕ) ℕ) → AreHeld number [] keys keys
none_held number keys = record { free = refl; each = λ key. refl; marks = marks_none (Some number) keys }

split_at : (changes : List Change) (i : ℕ) (change : Change) → i < length changes → change ≡ get_or changes i change → changes ≡ take i changes ++ change ∷ drop (suc i) changes
split_at changes i change within is = sym (take-append-drop i changes) ∙ ap (λ (cs : List Change). take i changes ++ cs) (drop-cons changes i change within ∙ ap (λ (c : Change). c ∷ drop (suc i) changes) (sym is))

module _ (number : ℕ) (changes : List Change) (i : ℕ) (change : Change) (old mid : BTreeMap (List ℕ) ℕ) (within : i < length changes) (is : change ≡ get_or changes i change) (ascending : are_ascending changes ≡ true) (before : AreHeld number (take i changes) old mid) where
  as_before : get key_cmp mid (key_of change) ≡ get key_cmp old (key_of change)
  as_before =
      before.each (key_of change)
      ∙ marked_is (Some number) (take i changes) (λ other. get key_cmp old other) (key_of change)
      ∙ ap (λ (b : Bool). if b then Some number else get key_cmp old (key_of change)) (not_before (take i changes) change (drop (suc i) changes) (ap are_ascending (sym (split_at changes i change within is)) ∙ ascending))

  pub one_held : (held : Option ℕ) → held ≡ get key_cmp mid (key_of change) → is_some held ≡ true → false ≡ not (list_any (has_holder old) changes)
  one_held held found some =
      let here : has_holder old change ≡ true = ap is_some (sym as_before ∙ sym found) ∙ some in
      let there : list_any (has_holder old) (take i changes ++ change ∷ drop (suc i) changes) ≡ true =
      list_any-append (has_holder old) (take i changes) (change ∷ drop (suc i) changes) ∙ rw (before.free, here) refl in
      sym (ap not (ap (list_any (has_holder old)) (split_at changes i change within is) ∙ there))

  pub held_more : (held : Option ℕ) (new : BTreeMap (List ℕ) ℕ) → held ≡ get key_cmp mid (key_of change) → is_some held ≡ false → ((q : List ℕ) → get key_cmp new q ≡ cond (is_at (key_cmp (key_of change)) q) (Some number) (get key_cmp mid q)) → IsOrdered key_cmp new → AreHeld number (take (i + 1) changes) old new
  held_more held new found none updated ordered =
      let step : take (i + 1) changes ≡ take i changes ++ change ∷ [] = take_more changes i change within ∙ ap (λ (x : Change). take i changes ++ x ∷ []) (sym is) in
      let here : has_holder old change ≡ false = ap is_some (sym as_before ∙ sym found) ∙ none in
      record {
        free = ap (list_any (has_holder old)) step ∙ list_any-append (has_holder old) (take i changes) (change ∷ []) ∙ rw (before.free, here) refl;
        each = λ key.
            updated key
            ∙ ap (λ (b : Bool). cond b (Some number) (get key_cmp mid key)) (is_eq-slice_cmp (key_of change) key)
            ∙ ap (cond (bytes_eq (key_of change) key) (Some number)) (before.each key)
            ∙ ap (λ (f : List ℕ → Option ℕ). f key) (sym (marked_more (Some number) (take i changes) change (λ other. get key_cmp old other)))
            ∙ ap (λ (cs : List Change). marked (Some number) cs (λ other. get key_cmp old other) key) (sym step);
        marks = marks_more (Some number) changes i change old mid new within is before.marks (leaves_by (key_of change) (Some number) mid new updated ordered);
      }

-- ---- a prepare more

module _ (prepares : List Carried) (x : Carried) (old new : Holders) (had : Holds prepares old) where
  pub name_is_held : (held : Option ℕ) → held ≡ get key_cmp old.names x.name → is_some held ≡ true → Takes prepares x false new
  name_is_held held found some = record {
    apart = ap not (ap (λ (b : Bool). b || list_any (has_holder old.keys) x.batch) (sym some ∙ ap is_some found) ∙ collides_by prepares old x had);
    holds = λ e. absurd cc;
  }

  pub name_is_free : (held : Option ℕ) (free : Bool) → held ≡ get key_cmp old.names x.name → is_some held ≡ false
      → ((q : List ℕ) → get key_cmp new.names q ≡ cond (is_at (key_cmp x.name) q) (Some x.number) (get key_cmp old.names q)) → IsOrdered key_cmp new.names
      → (free ≡ not (list_any (has_holder old.keys) x.batch)) × (free ≡ true → Marks (Some x.number) x.batch old.keys new.keys) → Takes prepares x free new
  name_is_free held free found none updated ordered keys =
      let apart : free ≡ not (list_any (collides x) prepares) = keys.0 ∙ ap not (sym (ap (λ (b : Bool). b || list_any (has_holder old.keys) x.batch) (ap is_some (sym found) ∙ none)) ∙ collides_by prepares old x had) in
      record {
        apart = apart;
        holds = λ yes. holds_more prepares x (not_false (list_any (collides x) prepares) (sym apart ∙ yes)) old new had (leaves_by x.name (Some x.number) old.names new.names updated ordered) (keys.1 yes);
      }

pub not_true : (b : Bool) → not b ≡ false → b ≡ true
not_true true e = refl
not_true false e = absurd cc

-- ---- an entry

pub orderly_by : (history : List Entry) (entry : Entry) (r : Bool) → are_ascending (changes_in entry) ≡ true → MayDecide history entry → (r ≡ true) ↔ KeysAreFree history entry → (r ≡ true) ↔ IsOrderlyNext history entry
orderly_by history entry r ascending may keys = (
  λ yes. record { ascending = ascending; names_undecided = may.names_undecided; undo_is_closed = may.undo_is_closed; keys_are_free = keys.0 yes },
  λ orderly. keys.1 orderly.keys_are_free,
)

pub not_orderly : (history : List Entry) (entry : Entry) (r : Bool) → (r ≡ true) ↔ MayDecide history entry → r ≡ false → (false ≡ true) ↔ IsOrderlyNext history entry
not_orderly history entry r may refused = (
  λ yes. absurd cc,
  λ orderly. let yes : r ≡ true = may.1 (record { names_undecided = orderly.names_undecided; undo_is_closed = orderly.undo_is_closed }) in absurd cc,
)
