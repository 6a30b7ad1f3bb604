-- Versions in order, and the one that comes last.
use Rattle.std.proofs.Common.{◌≡◌, ℕ, true, Less, List, [], ◌∷◌, ◌++◌, take, drop, Option, Some, None, refl, sym, ap, subst}
use Rattle.std.specs.Ordering.{is_lt}
use Rattle.std.proofs.lemmas.List.{take-append-drop}
use Rattle.wp_model.specs.declared.version.Version.{Version}
use Rattle.wp_model.specs.Versions.{AreInOrder, version_cmp}
use Rattle.wp_model.proofs.BatchLemmas.{less_from_test}
use Rattle.wp_model.proofs.VersionLists.{IsBefore, in_order_nil, in_order_parts, in_order_cons, version_total}
use Rattle.wp_table.specs.Reading.{last_of, is_after, is_after_last}

pub in_order_one : (v : Version) → AreInOrder (v ∷ [])
in_order_one v = in_order_cons v [] tt in_order_nil

before_push : (v w : Version) (vs : List Version) → IsBefore v vs → version_cmp v w ≡ Less → IsBefore v (vs ++ w ∷ [])
before_push v w [] before less = (less, tt)
before_push v w (x ∷ vs) before less = (before.0, before_push v w vs before.1 less)

-- what is after the last is after the first
first_before : (v : Version) (vs : List Version) (w : Version) → AreInOrder (v ∷ vs) → is_after_last (v ∷ vs) w ≡ true → version_cmp v w ≡ Less
first_before v [] w h after = less_from_test _ after
first_before v (x ∷ vs) w h after =
    let parts = in_order_parts v (x ∷ vs) h in
    version_total.trans v x w parts.0.0 (first_before x vs w parts.1 after)

after_rest : (v : Version) (vs : List Version) (w : Version) → is_after_last (v ∷ vs) w ≡ true → is_after_last vs w ≡ true
after_rest v [] w after = refl
after_rest v (x ∷ vs) w after = after

pub in_order_push : (vs : List Version) (w : Version) → AreInOrder vs → is_after_last vs w ≡ true → AreInOrder (vs ++ w ∷ [])
in_order_push [] w h after = in_order_one w
in_order_push (v ∷ vs) w h after =
    let parts = in_order_parts v vs h in
    in_order_cons v (vs ++ w ∷ []) (before_push v w vs parts.0 (first_before v vs w h after)) (in_order_push vs w parts.1 (after_rest v vs w after))

pub after_from_order : (before : List Version) (v : Version) (others : List Version) → AreInOrder (before ++ v ∷ others) → is_after_last before v ≡ true
after_from_order [] v others h = refl
after_from_order (first ∷ []) v others h = ap is_lt (in_order_parts first (v ∷ others) h).0.0
after_from_order (first ∷ second ∷ before) v others h = after_from_order (second ∷ before) v others (in_order_parts first ((second ∷ before) ++ v ∷ others) h).1

pub last_push : (vs : List Version) (v : Version) → last_of (vs ++ v ∷ []) ≡ Some v
last_push [] v = refl
last_push (w ∷ []) v = refl
last_push (w ∷ x ∷ vs) v = last_push (x ∷ vs) v

-- what a version has under its key doesn't count
pub after-any_value : (last : Option Version) (key : List ℕ) (number : ℕ) (x y : Option (List ℕ)) → is_after last (record { key = key; number = number; value = x }) ≡ is_after last (record { key = key; number = number; value = y })
after-any_value None key number x y = refl
after-any_value (Some last) key number x y = refl

before_front : (v : Version) (vs ws : List Version) → IsBefore v (vs ++ ws) → IsBefore v vs
before_front v [] ws h = tt
before_front v (x ∷ vs) ws h = (h.0, before_front v vs ws h.1)

-- versions in order, with others behind and in front of them
pub in_order_front : (vs ws : List Version) → AreInOrder (vs ++ ws) → AreInOrder vs
in_order_front [] ws h = in_order_nil
in_order_front (v ∷ vs) ws h =
    let parts = in_order_parts v (vs ++ ws) h in
    in_order_cons v vs (before_front v vs ws parts.0) (in_order_front vs ws parts.1)

pub in_order_back : (vs ws : List Version) → AreInOrder (vs ++ ws) → AreInOrder ws
in_order_back [] ws h = h
in_order_back (v ∷ vs) ws h = in_order_back vs ws (in_order_parts v (vs ++ ws) h).1

pub in_order_drop : (n : ℕ) (vs : List Version) → AreInOrder vs → AreInOrder (drop n vs)
in_order_drop n vs h = in_order_back (take n vs) (drop n vs) (subst AreInOrder (sym (take-append-drop n vs)) h)
