-- Holders of prepares: of none, of one more and of one less; and what they say of a history that leaves these undecided.
use Rattle.std.proofs.Common.{◌≡◌, ◌↔◌, ℕ, zero, suc, ◌+◌, ◌<◌, ◌==◌, Bool, true, false, ◌||◌, not, cond, get_or, List, [], ◌∷◌, ◌++◌, length, map, take, drop, drop-cons, Option, Some, None, refl, sym, ap, ◌∙◌, subst, inl, inr, append-nil, append_assoc, arith}
use Rattle.std.specs.Prelude.{option_map, is_some, slice_get, if◌then◌else◌}
use Rattle.std.specs.BTreeMap.{BTreeMap, IsOrdered, get, is_at}
use Rattle.std.specs.List.{filter, find, list_any, range_with_len}
use Rattle.std.specs.Map.{lookup}
use Rattle.std.specs.Str.{bytes_eq}
use Rattle.std.proofs.lemmas.Bool.{cases_Bool, cases_order, eqb-true, eq-eqb, or_cases}
use Rattle.std.proofs.lemmas.List.{map-append, take-append-drop, take_all, take_more}
use Rattle.std.proofs.lemmas.Map.Text.{is_eq-slice_cmp}
use Rattle.std.proofs.lemmas.Option.{same_Some}
use Rattle.std.proofs.lemmas.Slice.Eq.{bytes_eq-Decides}
use Rattle.wp_model.specs.declared.carried.Carried.{Carried}
use Rattle.wp_model.specs.declared.change.Change.{Change}
use Rattle.wp_model.specs.declared.entry.Entry.{Entry}
use Rattle.wp_model.specs.declared.entry.Entry.TheVariants.{Write, Prepare, Commit, Undo, Close}
use Rattle.wp_model.specs.Batch.{change_to, key_cmp, key_of, value_of}
use Rattle.wp_model.specs.History.{batch_at, entry_at, holder_of, is_changed, is_undecided, name_at, named, prepared_batch, prepared_name, undecided}
use Rattle.wp_model.specs.Legal.{AreFree, NamesUndecided}
use Rattle.wp_model.proofs.Entries.{entry_at_old, undecided_within}
use Rattle.wp_history_laws.specs.Growth.{undecided_after, without_decided}
use Rattle.wp_history_laws.proofs.Growth.{AreNaming, entry_at_next}
use Rattle.wp_history_laws.proofs.Undecided.{is_undecided_by_list, undecided_more}
use Rattle.wp_cuts.specs.Cut.{carried_from, carried_of}
use Rattle.wp_cuts.specs.LegalCut.{AreNumbered, prepares_of}
use Rattle.wp_cuts.proofs.FullList.{full_long}
use Rattle.wp_history.specs.History.{IsStore, Leaves, cut_of}
use Rattle.wp_history.specs.Holders.{Holds, IsAmong, Marks, key_holder, marked, name_holder, without}
use Rattle.wp_history.specs.declared.holders.Holders.{Holders}
use Rattle.wp_history.specs.Outline.{collides, collision_behind, collision_of}
use Rattle.wp_history.proofs.Apart.{by_key, by_name, clear_by, none_collides, shares}
use Rattle.wp_history.proofs.Full.{carried_is}

-- ---- maps

pub leaves_by : {V : Type 0} (key : List ℕ) (value : Option V) (old new : BTreeMap (List ℕ) V) → ((q : List ℕ) → get key_cmp new q ≡ cond (is_at (key_cmp key) q) value (get key_cmp old q)) → IsOrdered key_cmp new → Leaves key value old new
leaves_by key value old new updated ordered values had = record {
  ordered = ordered;
  each = λ other.
      updated other
      ∙ ap (λ (b : Bool). cond b value (get key_cmp old other)) (is_eq-slice_cmp key other)
      ∙ ap (cond (bytes_eq key other) value) (had.each other);
}

pub as_values : {V : Type 0} (f g : List ℕ → Option V) (store : BTreeMap (List ℕ) V) → ((key : List ℕ) → f key ≡ g key) → IsStore f store → IsStore g store
as_values f g store same had = record { ordered = had.ordered; each = λ key. had.each key ∙ same key }

pub nothing_under : {V : Type 0} (store : BTreeMap (List ℕ) V) → store.entries ≡ [] → IsOrdered key_cmp store → IsStore (λ key. None) store
nothing_under {V} store empty ordered = record { ordered = ordered; each = λ key. ap (λ (es : List (List ℕ × V)). lookup (is_at (key_cmp key)) es) empty }

pub marked_more : (value : Option ℕ) (changes : List Change) (change : Change) (values : List ℕ → Option ℕ) → marked value (changes ++ change ∷ []) values ≡ (λ key. if bytes_eq (key_of change) key then value else marked value changes values key)
marked_more value [] change values = refl
marked_more value (first ∷ changes) change values = marked_more value changes change (λ key. if bytes_eq (key_of first) key then value else values key)

pub marks_none : (value : Option ℕ) (map_ : BTreeMap (List ℕ) ℕ) → Marks value [] map_ map_
marks_none value map_ values had = had

pub marks_more : (value : Option ℕ) (changes : List Change) (i : ℕ) (change : Change) (old mid new : BTreeMap (List ℕ) ℕ) → i < length changes → change ≡ get_or changes i change → Marks value (take i changes) old mid → Leaves (key_of change) value mid new → Marks value (take (i + 1) changes) old new
marks_more value changes i change old mid new within is before left values had =
    let step : take (i + 1) changes ≡ take i changes ++ change ∷ [] = take_more changes i change within ∙ ap (λ (x : Change). take i changes ++ x ∷ []) (sym is) in
    subst (λ (cs : List Change). IsStore (marked value cs values) new) (sym step)
    (subst (λ (f : List ℕ → Option ℕ). IsStore f new) (sym (marked_more value (take i changes) change values)) (left (marked value (take i changes) values) (before values had)))

same_either : (b : Bool) (value : Option ℕ) → (if b then value else value) ≡ value
same_either true value = refl
same_either false value = refl

pub marked_is : (value : Option ℕ) (changes : List Change) (values : List ℕ → Option ℕ) (key : List ℕ) → marked value changes values key ≡ (if is_changed changes key then value else values key)
marked_is value [] values key = refl
marked_is value (first ∷ changes) values key =
    marked_is value changes (λ other. if bytes_eq (key_of first) other then value else values other) key ∙ by (bytes_eq (key_of first) key)
  where
    by : (b : Bool) → (if is_changed changes key then value else (if b then value else values key)) ≡ (if is_some (if b then Some (value_of first) else change_to changes key) then value else values key)
    by true = same_either (is_changed changes key) value
    by false = refl

-- ---- who collides

number_of : Carried → ℕ
number_of x = x.number

bytes_swapped : (a b : List ℕ) → bytes_eq a b ≡ bytes_eq b a
bytes_swapped a b = elim (cases_Bool (bytes_eq b a)) [
  | inl same ↦ (bytes_eq-Decides a b).1 (sym ((bytes_eq-Decides b a).0 same)) ∙ sym same
  | inr other ↦ by (bytes_eq a b) refl other
]
  where
    by : (c : Bool) → bytes_eq a b ≡ c → bytes_eq b a ≡ false → bytes_eq a b ≡ bytes_eq b a
    by true e other = let back = (bytes_eq-Decides b a).1 (sym ((bytes_eq-Decides a b).0 e)) in e ∙ sym back
    by false e other = e ∙ sym other

none_any : (changes : List Change) → list_any (λ change. false) changes ≡ false
none_any [] = refl
none_any (change ∷ changes) = none_any changes

any_same : (f g : Change → Bool) (changes : List Change) → ((change : Change) → f change ≡ g change) → list_any f changes ≡ list_any g changes
any_same f g [] same = refl
any_same f g (change ∷ changes) same = rw (same change, any_same f g changes same) refl

or_four : (s a n b : Bool) → ((s || a) || (n || b)) ≡ ((s || n) || (a || b))
or_four true a n b = refl
or_four false true true b = refl
or_four false true false b = refl
or_four false false true b = refl
or_four false false false b = refl

any_or : (f g : Change → Bool) (changes : List Change) → (list_any f changes || list_any g changes) ≡ list_any (λ change. f change || g change) changes
any_or f g [] = refl
any_or f g (change ∷ changes) = or_four (f change) (list_any f changes) (g change) (list_any g changes) ∙ ap (λ (b : Bool). (f change || g change) || b) (any_or f g changes)

head_some : (y : Carried) (b : Bool) (o : Option Carried) → (b || is_some (option_map (λ (x : Carried). x.number) o)) ≡ is_some (option_map (λ (x : Carried). x.number) (cond b (Some y) o))
head_some y true o = refl
head_some y false o = refl

pub any_collides : (x : Carried) (prepares : List Carried) → list_any (collides x) prepares ≡ (is_some (name_holder prepares x.name) || list_any (λ change. is_some (key_holder prepares (key_of change))) x.batch)
any_collides x [] = sym (none_any x.batch)
any_collides x (y ∷ ys) =
    let keys : (list_any (λ change. is_changed y.batch (key_of change)) x.batch || list_any (λ change. is_some (key_holder ys (key_of change))) x.batch) ≡ list_any (λ change. is_some (key_holder (y ∷ ys) (key_of change))) x.batch =
    any_or (λ change. is_changed y.batch (key_of change)) (λ change. is_some (key_holder ys (key_of change))) x.batch
    ∙ any_same (λ change. is_changed y.batch (key_of change) || is_some (key_holder ys (key_of change))) (λ change. is_some (key_holder (y ∷ ys) (key_of change))) x.batch (λ change. head_some y (is_changed y.batch (key_of change)) (find (λ z. is_changed z.batch (key_of change)) ys)) in
    let names : (bytes_eq x.name y.name || is_some (name_holder ys x.name)) ≡ is_some (name_holder (y ∷ ys) x.name) =
    ap (λ (b : Bool). b || is_some (name_holder ys x.name)) (bytes_swapped x.name y.name) ∙ head_some y (bytes_eq y.name x.name) (find (λ z. bytes_eq z.name x.name) ys) in
    ap (λ (b : Bool). collides x y || b) (any_collides x ys)
    ∙ or_four (bytes_eq x.name y.name) (list_any (λ change. is_changed y.batch (key_of change)) x.batch) (is_some (name_holder ys x.name)) (list_any (λ change. is_some (key_holder ys (key_of change))) x.batch)
    ∙ (λ i. names i || keys i)

-- the first that collides
collision_at : (before xs : List Carried) (x : Carried) (more : List Carried) → collision_behind before xs ≡ None → list_any (collides x) (before ++ xs) ≡ true → collision_behind before (xs ++ x ∷ more) ≡ Some x.number
collision_at before [] x more none any = rw (ap (list_any (collides x)) (sym (append-nil before)) ∙ any) refl
collision_at before (y ∷ ys) x more none any =
    let parts = clear_by (list_any (collides y) before) y.number (collision_behind (before ++ y ∷ []) ys) none in
    rw parts.0 (collision_at (before ++ y ∷ []) ys x more parts.1 (ap (list_any (collides x)) (append_assoc before (y ∷ []) ys) ∙ any))

pub first_collides : (prepares : List Carried) (i : ℕ) (x : Carried) → i < length prepares → x ≡ get_or prepares i x → collision_of (take i prepares) ≡ None → list_any (collides x) (take i prepares) ≡ true → collision_of prepares ≡ Some x.number
first_collides prepares i x within is none any =
    let whole : prepares ≡ take i prepares ++ x ∷ drop (suc i) prepares = sym (take-append-drop i prepares) ∙ ap (λ (xs : List Carried). take i prepares ++ xs) (drop-cons prepares i x within ∙ ap (λ (y : Carried). y ∷ drop (suc i) prepares) (sym is)) in
    ap collision_of whole ∙ collision_at [] (take i prepares) x (drop (suc i) prepares) none any

pub collides_by : (prepares : List Carried) (holders : Holders) (x : Carried) → Holds prepares holders → (is_some (get key_cmp holders.names x.name) || list_any (λ change. is_some (get key_cmp holders.keys (key_of change))) x.batch) ≡ list_any (collides x) prepares
collides_by prepares holders x holds =
    let keys = any_same (λ change. is_some (get key_cmp holders.keys (key_of change))) (λ change. is_some (key_holder prepares (key_of change))) x.batch (λ change. ap is_some (holds.keys.each (key_of change))) in
    (λ i. is_some (holds.names.each x.name i) || keys i) ∙ sym (any_collides x prepares)

-- ---- one more

find_last : (test : Carried → Bool) (xs : List Carried) (x : Carried) → find test xs ≡ None → find test (xs ++ x ∷ []) ≡ cond (test x) (Some x) None
find_last test [] x none = refl
find_last test (y ∷ ys) x none = by (test y) none (find_last test ys x)
  where
    by : (b : Bool) → cond b (Some y) (find test ys) ≡ None → (find test ys ≡ None → find test (ys ++ x ∷ []) ≡ cond (test x) (Some x) None) → cond b (Some y) (find test (ys ++ x ∷ [])) ≡ cond (test x) (Some x) None
    by true e rest = absurd cc
    by false e rest = rest e

find_past : (test : Carried → Bool) (xs : List Carried) (x : Carried) → test x ≡ false → find test (xs ++ x ∷ []) ≡ find test xs
find_past test [] x fails = rw fails refl
find_past test (y ∷ ys) x fails = ap (cond (test y) (Some y)) (find_past test ys x fails)

none_found : (o : Option Carried) → is_some (option_map (λ (x : Carried). x.number) o) ≡ false → o ≡ None
none_found None e = refl
none_found (Some x) e = absurd cc

collision_more : (before xs : List Carried) (x : Carried) → collision_behind before xs ≡ None → list_any (collides x) (before ++ xs) ≡ false → collision_behind before (xs ++ x ∷ []) ≡ None
collision_more before [] x none clear = rw (ap (list_any (collides x)) (sym (append-nil before)) ∙ clear) refl
collision_more before (y ∷ ys) x none clear =
    let parts = clear_by (list_any (collides y) before) y.number (collision_behind (before ++ y ∷ []) ys) none in
    rw parts.0 (collision_more (before ++ y ∷ []) ys x parts.1 (ap (list_any (collides x)) (append_assoc before (y ∷ []) ys) ∙ clear))

neither : (a b : Bool) → (a || b) ≡ false → (a ≡ false) × (b ≡ false)
neither true b e = absurd cc
neither false b e = (refl, e)

module _ (prepares : List Carried) (x : Carried) (clear : list_any (collides x) prepares ≡ false) where
  apart_from : (is_some (name_holder prepares x.name) ≡ false) × (list_any (λ change. is_some (key_holder prepares (key_of change))) x.batch ≡ false)
  apart_from = neither (is_some (name_holder prepares x.name)) (list_any (λ change. is_some (key_holder prepares (key_of change))) x.batch) (sym (any_collides x prepares) ∙ clear)

  name_more : (name : List ℕ) → (if bytes_eq x.name name then Some x.number else name_holder prepares name) ≡ name_holder (prepares ++ x ∷ []) name
  name_more name = elim (cases_Bool (bytes_eq x.name name)) [
    | inl here ↦
        let same = (bytes_eq-Decides x.name name).0 here in
        let none = none_found (find (λ y. bytes_eq y.name name) prepares) (ap (λ (n : List ℕ). is_some (name_holder prepares n)) (sym same) ∙ apart_from.0) in
        ap (λ (b : Bool). if b then Some x.number else name_holder prepares name) here
        ∙ sym (ap (option_map (λ (y : Carried). y.number)) (find_last (λ y. bytes_eq y.name name) prepares x none ∙ ap (λ (b : Bool). cond b (Some x) None) here))
    | inr other ↦
        ap (λ (b : Bool). if b then Some x.number else name_holder prepares name) other
        ∙ sym (ap (option_map (λ (y : Carried). y.number)) (find_past (λ y. bytes_eq y.name name) prepares x other))
  ]

  free_of : (key : List ℕ) → is_changed x.batch key ≡ true → (b : Bool) → is_some (key_holder prepares key) ≡ b → b ≡ false
  free_of key changed true e = sym (shares x.batch key (λ k. is_some (key_holder prepares k)) changed e) ∙ apart_from.1
  free_of key changed false e = refl

  key_more : (key : List ℕ) → marked (Some x.number) x.batch (key_holder prepares) key ≡ key_holder (prepares ++ x ∷ []) key
  key_more key = marked_is (Some x.number) x.batch (key_holder prepares) key ∙ elim (cases_Bool (is_changed x.batch key)) [
    | inl here ↦
        let none = none_found (find (λ y. is_changed y.batch key) prepares) (free_of key here (is_some (key_holder prepares key)) refl) in
        ap (λ (b : Bool). if b then Some x.number else key_holder prepares key) here
        ∙ sym (ap (option_map (λ (y : Carried). y.number)) (find_last (λ y. is_changed y.batch key) prepares x none ∙ ap (λ (b : Bool). cond b (Some x) None) here))
    | inr other ↦
        ap (λ (b : Bool). if b then Some x.number else key_holder prepares key) other
        ∙ sym (ap (option_map (λ (y : Carried). y.number)) (find_past (λ y. is_changed y.batch key) prepares x other))
  ]

  pub holds_more : (old new : Holders) → Holds prepares old → Leaves x.name (Some x.number) old.names new.names → Marks (Some x.number) x.batch old.keys new.keys → Holds (prepares ++ x ∷ []) new
  holds_more old new had named_ marks = record {
    apart = collision_more [] prepares x had.apart clear;
    names = as_values (λ name. if bytes_eq x.name name then Some x.number else name_holder prepares name) (name_holder (prepares ++ x ∷ [])) new.names name_more (named_ (name_holder prepares) had.names);
    keys = as_values (marked (Some x.number) x.batch (key_holder prepares)) (key_holder (prepares ++ x ∷ [])) new.keys key_more (marks (key_holder prepares) had.keys);
  }

-- ---- one less

any_without : (test : Carried → Bool) (xs : List Carried) (p : ℕ) → list_any test xs ≡ false → list_any test (without xs p) ≡ false
any_without test [] p none = refl
any_without test (y ∷ ys) p none =
    let parts = neither (test y) (list_any test ys) none in
    let rest = any_without test ys p parts.1 in
    by (y.number == p) parts.0 rest
  where
    by : (b : Bool) → test y ≡ false → list_any test (without ys p) ≡ false → list_any test (if not b then y ∷ without ys p else without ys p) ≡ false
    by true fails rest = rest
    by false fails rest = rw fails rest

without_more : (before : List Carried) (y : Carried) (p : ℕ) (b : Bool) → (y.number == p) ≡ b → without (before ++ y ∷ []) p ≡ without before p ++ (if not b then y ∷ [] else [])
without_more [] y p b e = ap (λ (c : Bool). if not c then y ∷ [] else []) e
without_more (x ∷ before) y p b e = by (x.number == p) (without_more before y p b e)
  where
    by : (c : Bool) → without (before ++ y ∷ []) p ≡ without before p ++ (if not b then y ∷ [] else []) → (if not c then x ∷ without (before ++ y ∷ []) p else without (before ++ y ∷ []) p) ≡ (if not c then x ∷ without before p else without before p) ++ (if not b then y ∷ [] else [])
    by true rest = rest
    by false rest = ap (λ (zs : List Carried). x ∷ zs) rest

collision_without : (p : ℕ) (before xs : List Carried) → collision_behind before xs ≡ None → collision_behind (without before p) (without xs p) ≡ None
collision_without p before [] none = refl
collision_without p before (y ∷ ys) none =
    let parts = clear_by (list_any (collides y) before) y.number (collision_behind (before ++ y ∷ []) ys) none in
    by (y.number == p) refl (any_without (collides y) before p parts.0) (collision_without p (before ++ y ∷ []) ys parts.1)
  where
    by : (b : Bool) → (y.number == p) ≡ b → list_any (collides y) (without before p) ≡ false → collision_behind (without (before ++ y ∷ []) p) (without ys p) ≡ None → collision_behind (without before p) (if not b then y ∷ without ys p else without ys p) ≡ None
    by true e clear rest = subst (λ (zs : List Carried). collision_behind zs (without ys p) ≡ None) (without_more before y p true e ∙ append-nil (without before p)) rest
    by false e clear rest = rw clear (subst (λ (zs : List Carried). collision_behind zs (without ys p) ≡ None) (without_more before y p false e) rest)

find_gone : (test : Carried → Bool) (xs : List Carried) (p : ℕ) → ((i : ℕ) (y : Carried) → slice_get xs i ≡ Some y → test y ≡ true → y.number ≡ p) → find test (without xs p) ≡ None
find_gone test [] p only = refl
find_gone test (y ∷ ys) p only = by (y.number == p) refl (test y) refl (find_gone test ys p (λ i z at. only (suc i) z at))
  where
    by : (b : Bool) → (y.number == p) ≡ b → (c : Bool) → test y ≡ c → find test (without ys p) ≡ None → find test (if not b then y ∷ without ys p else without ys p) ≡ None
    by true e c t rest = rest
    by false e true t rest = let same = eq-eqb y.number p (only 0 y refl t) in absurd cc
    by false e false t rest = rw t rest

find_stays : (test : Carried → Bool) (xs : List Carried) (p : ℕ) → ((i : ℕ) (y : Carried) → slice_get xs i ≡ Some y → y.number ≡ p → test y ≡ false) → find test (without xs p) ≡ find test xs
find_stays test [] p fails = refl
find_stays test (y ∷ ys) p fails = by (y.number == p) refl (find_stays test ys p (λ i z at. fails (suc i) z at))
  where
    by : (b : Bool) → (y.number == p) ≡ b → find test (without ys p) ≡ find test ys → find test (if not b then y ∷ without ys p else without ys p) ≡ cond (test y) (Some y) (find test ys)
    by true e rest = rw (fails 0 y refl (eqb-true y.number p e)) rest
    by false e rest = ap (cond (test y) (Some y)) rest

-- two that would collide either way are one
one_of_two : (xs : List Carried) (i j : ℕ) (x y : Carried) → collision_of xs ≡ None → slice_get xs i ≡ Some x → slice_get xs j ≡ Some y → collides x y ≡ true → collides y x ≡ true → x ≡ y
one_of_two xs i j x y none at there collide back = elim (cases_order i j) [
  | inl same ↦ same_Some x y (sym at ∙ ap (slice_get xs) same ∙ there)
  | inr apart ↦ elim apart [
    | inl below ↦ absurd (none_collides xs i j x y none below at there back)
    | inr above ↦ absurd (none_collides xs j i y x none above there at collide)
  ]
]

-- of prepares that are apart one has the key
pub one_has : (xs : List Carried) (i j : ℕ) (x y : Carried) (key : List ℕ) → collision_of xs ≡ None → slice_get xs i ≡ Some x → slice_get xs j ≡ Some y → is_changed x.batch key ≡ true → is_changed y.batch key ≡ true → x ≡ y
one_has xs i j x y key none at there one other = one_of_two xs i j x y none at there (by_key y x key one other) (by_key x y key other one)

pub never_both : (xs : List Carried) (i j : ℕ) (x y : Carried) (key : List ℕ) → collision_of xs ≡ None → i < j → slice_get xs i ≡ Some x → slice_get xs j ≡ Some y → is_changed x.batch key ≡ true → is_changed y.batch key ≡ true → ⊥
never_both xs i j x y key none below at there one other = none_collides xs i j x y none below at there (by_key x y key other one)

module _ (prepares : List Carried) (p : ℕ) (name : List ℕ) (batch : List Change) (among : IsAmong prepares p name batch) (apart : collision_of prepares ≡ None) where
  abbrev it : Carried
  it = record { number = p; name = name; batch = batch }

  name_less : (other : List ℕ) → (if bytes_eq name other then None else name_holder prepares other) ≡ name_holder (without prepares p) other
  name_less other = elim (cases_Bool (bytes_eq name other)) [
    | inl here ↦
        ap (λ (b : Bool). if b then None else name_holder prepares other) here
        ∙ sym (ap (option_map (λ (y : Carried). y.number)) (find_gone (λ y. bytes_eq y.name other) prepares p (λ i y at has.
        let same : y.name ≡ name = (bytes_eq-Decides y.name other).0 has ∙ sym ((bytes_eq-Decides name other).0 here) in
        ap (λ (z : Carried). z.number) (one_of_two prepares i among.place y it apart at among.there (by_name it y same) (by_name y it (sym same))))))
    | inr not_it ↦
        ap (λ (b : Bool). if b then None else name_holder prepares other) not_it
        ∙ sym (ap (option_map (λ (y : Carried). y.number)) (find_stays (λ y. bytes_eq y.name other) prepares p (λ i y at number. ap (λ (z : Carried). bytes_eq z.name other) (among.alone i y at number) ∙ not_it)))
  ]

  key_less : (key : List ℕ) → marked None batch (key_holder prepares) key ≡ key_holder (without prepares p) key
  key_less key = marked_is None batch (key_holder prepares) key ∙ elim (cases_Bool (is_changed batch key)) [
    | inl here ↦
        ap (λ (b : Bool). if b then None else key_holder prepares key) here
        ∙ sym (ap (option_map (λ (y : Carried). y.number)) (find_gone (λ y. is_changed y.batch key) prepares p (λ i y at has. ap (λ (z : Carried). z.number) (one_has prepares i among.place y it key apart at among.there has here))))
    | inr not_it ↦
        ap (λ (b : Bool). if b then None else key_holder prepares key) not_it
        ∙ sym (ap (option_map (λ (y : Carried). y.number)) (find_stays (λ y. is_changed y.batch key) prepares p (λ i y at number. ap (λ (z : Carried). is_changed z.batch key) (among.alone i y at number) ∙ not_it)))
  ]

pub holds_less : (prepares : List Carried) (p : ℕ) (name : List ℕ) (batch : List Change) (old new : Holders) → Holds prepares old → IsAmong prepares p name batch → Leaves name None old.names new.names → Marks None batch old.keys new.keys → Holds (without prepares p) new
holds_less prepares p name batch old new had among named_ marks = record {
  apart = collision_without p [] prepares had.apart;
  names = as_values (λ other. if bytes_eq name other then None else name_holder prepares other) (name_holder (without prepares p)) new.names (name_less prepares p name batch among had.apart) (named_ (name_holder prepares) had.names);
  keys = as_values (marked None batch (key_holder prepares)) (key_holder (without prepares p)) new.keys (key_less prepares p name batch among had.apart) (marks (key_holder prepares) had.keys);
}

-- ---- none

pub holds_none : (holders : Holders) → holders.names.entries ≡ [] → IsOrdered key_cmp holders.names → holders.keys.entries ≡ [] → IsOrdered key_cmp holders.keys → Holds [] holders
holds_none holders names names_ordered keys keys_ordered = record { apart = refl; names = nothing_under holders.names names names_ordered; keys = nothing_under holders.keys keys keys_ordered }

-- ---- what a history leaves undecided

find_back : (history : List Entry) (test : Carried → Bool) (ps : List ℕ) → find (λ p. test (carried_from history p)) ps ≡ option_map (λ (x : Carried). x.number) (find test (map (carried_from history) ps))
find_back history test [] = refl
find_back history test (p ∷ ps) = by (test (carried_from history p)) (find_back history test ps)
  where
    by : (b : Bool) → find (λ q. test (carried_from history q)) ps ≡ option_map (λ (x : Carried). x.number) (find test (map (carried_from history) ps)) → cond b (Some p) (find (λ q. test (carried_from history q)) ps) ≡ option_map (λ (x : Carried). x.number) (cond b (Some (carried_from history p)) (find test (map (carried_from history) ps)))
    by true rest = refl
    by false rest = rest

named_is : (history : List Entry) (name : List ℕ) → named history name ≡ name_holder (carried_of history) name
named_is history name = find_back history (λ x. bytes_eq x.name name) (undecided history)

holder_is : (history : List Entry) (key : List ℕ) → holder_of history key ≡ key_holder (carried_of history) key
holder_is history key = find_back history (λ x. is_changed x.batch key) (undecided history)

no_number : (o : Option ℕ) → is_some o ≡ false → o ≡ None
no_number None e = refl
no_number (Some n) e = absurd cc

free_from : (history : List Entry) (changes : List Change) → list_any (λ change. is_some (key_holder (carried_of history) (key_of change))) changes ≡ false → AreFree history changes
free_from history [] none = tt
free_from history (change ∷ changes) none =
    let parts = neither (is_some (key_holder (carried_of history) (key_of change))) (list_any (λ c. is_some (key_holder (carried_of history) (key_of c))) changes) none in
    (holder_is history (key_of change) ∙ no_number (key_holder (carried_of history) (key_of change)) parts.0, free_from history changes parts.1)

free_to : (history : List Entry) (changes : List Change) → AreFree history changes → list_any (λ change. is_some (key_holder (carried_of history) (key_of change))) changes ≡ false
free_to history [] free = refl
free_to history (change ∷ changes) free = rw (sym (holder_is history (key_of change)) ∙ free.0) (free_to history changes free.1)

pub not_false : (b : Bool) → not b ≡ true → b ≡ false
not_false true e = absurd cc
not_false false e = refl

module _ (history : List Entry) (holders : Holders) (holds : Holds (carried_of history) holders) where
  under_keys : (changes : List Change) → list_any (λ change. is_some (get key_cmp holders.keys (key_of change))) changes ≡ list_any (λ change. is_some (key_holder (carried_of history) (key_of change))) changes
  under_keys changes = any_same (λ change. is_some (get key_cmp holders.keys (key_of change))) (λ change. is_some (key_holder (carried_of history) (key_of change))) changes (λ change. ap is_some (holds.keys.each (key_of change)))

  pub keys_are_free : (changes : List Change) (have : Bool) → have ≡ list_any (λ change. is_some (get key_cmp holders.keys (key_of change))) changes → (not have ≡ true) ↔ AreFree history changes
  keys_are_free changes have is = (
    λ free. free_from history changes (sym (is ∙ under_keys changes) ∙ not_false have free),
    λ free. ap not (is ∙ under_keys changes ∙ free_to history changes free),
  )

-- one that collides with none
pub clear_next : (history : List Entry) (n : ℕ) (name : List ℕ) (batch : List Change) → AreFree history batch → named history name ≡ None → list_any (collides (record { number = n; name = name; batch = batch })) (carried_of history) ≡ false
clear_next history n name batch free none =
    let no_name : is_some (name_holder (carried_of history) name) ≡ false = ap is_some (sym (named_is history name) ∙ none) in
    any_collides (record { number = n; name = name; batch = batch }) (carried_of history) ∙ (λ i. no_name i || free_to history batch free i)

pub both_are_free : (history : List Entry) (n : ℕ) (name : List ℕ) (batch : List Change) (free : Bool) → free ≡ not (list_any (collides (record { number = n; name = name; batch = batch })) (carried_of history)) → (free ≡ true) ↔ (AreFree history batch × (named history name ≡ None))
both_are_free history n name batch free is = (
  λ yes.
      let none = not_false (list_any (collides (record { number = n; name = name; batch = batch })) (carried_of history)) (sym is ∙ yes) in
      let parts = apart_from (carried_of history) (record { number = n; name = name; batch = batch }) none in
      (free_from history batch parts.1, named_is history name ∙ no_number (name_holder (carried_of history) name) parts.0),
  λ both. is ∙ ap not (clear_next history n name batch both.0 both.1),
)

-- ---- as the history grows

same_map : (keeps : ℕ → Bool) (f g : ℕ → Carried) → ((p : ℕ) → keeps p ≡ true → f p ≡ g p) → (ps : List ℕ) → map f (filter keeps ps) ≡ map g (filter keeps ps)
same_map keeps f g same [] = refl
same_map keeps f g same (p ∷ ps) =
    let rest = same_map keeps f g same ps in
    elim (cases_Bool (keeps p)) [
      | inl kept ↦ rw (kept, same p kept, rest) refl
      | inr dropped ↦ rw dropped rest
    ]

map_without : (history : List Entry) (ps : List ℕ) (p : ℕ) → map (carried_from history) (without_decided ps p) ≡ without (map (carried_from history) ps) p
map_without history [] p = refl
map_without history (q ∷ ps) p = by (q == p) (map_without history ps p)
  where
    by : (b : Bool) → map (carried_from history) (without_decided ps p) ≡ without (map (carried_from history) ps) p → map (carried_from history) (if not b then q ∷ without_decided ps p else without_decided ps p) ≡ (if not b then carried_from history q ∷ without (map (carried_from history) ps) p else without (map (carried_from history) ps) p)
    by true rest = rest
    by false rest = ap (λ (xs : List Carried). carried_from history q ∷ xs) rest

module _ (history : List Entry) (entry : Entry) (naming : AreNaming history) (names : NamesUndecided history entry) where
  abbrev grown : List Entry
  grown = history ++ entry ∷ []

  old_carried : (p : ℕ) → is_undecided history p ≡ true → carried_from grown p ≡ carried_from history p
  old_carried p undecided_p =
      let at : entry_at grown p ≡ entry_at history p = entry_at_old history (entry ∷ []) p (undecided_within history p undecided_p).1 in
      λ i. record { number = p; name = prepared_name (at i); batch = prepared_batch (at i) }

  old_ones : map (carried_from grown) (undecided history) ≡ carried_of history
  old_ones = same_map (is_undecided history) (carried_from grown) (carried_from history) old_carried (range_with_len 1 (length history))

  left_by : carried_of grown ≡ map (carried_from grown) (undecided_after (undecided history) (length history + 1) entry)
  left_by = ap (map (carried_from grown)) (undecided_more history entry naming names)

  next_one : (name : List ℕ) (batch : List Change) → entry ≡ Prepare name batch → carried_from grown (length history + 1) ≡ record { number = length history + 1; name = name; batch = batch }
  next_one name batch is =
      let at : entry_at grown (length history + 1) ≡ Some (Prepare name batch) = entry_at_next history entry ∙ ap (λ (e : Entry). Some e) is in
      λ i. record { number = length history + 1; name = prepared_name (at i); batch = prepared_batch (at i) }

pub carried_write : (history : List Entry) (batch : List Change) → AreNaming history → carried_of (history ++ Write batch ∷ []) ≡ carried_of history
carried_write history batch naming = left_by history (Write batch) naming tt ∙ old_ones history (Write batch) naming tt

pub carried_undo : (history : List Entry) (p : ℕ) (batch : List Change) → AreNaming history → is_undecided history p ≡ true → carried_of (history ++ Undo p batch ∷ []) ≡ carried_of history
carried_undo history p batch naming names = left_by history (Undo p batch) naming names ∙ old_ones history (Undo p batch) naming names

pub carried_prepare : (history : List Entry) (name : List ℕ) (batch : List Change) → AreNaming history → carried_of (history ++ Prepare name batch ∷ []) ≡ carried_of history ++ record { number = length history + 1; name = name; batch = batch } ∷ []
carried_prepare history name batch naming =
    left_by history (Prepare name batch) naming tt
    ∙ map-append (carried_from (history ++ Prepare name batch ∷ [])) (undecided history) ((length history + 1) ∷ [])
    ∙ (λ i. old_ones history (Prepare name batch) naming tt i ++ next_one history (Prepare name batch) naming tt name batch refl i ∷ [])

pub carried_commit : (history : List Entry) (p : ℕ) → AreNaming history → is_undecided history p ≡ true → carried_of (history ++ Commit p ∷ []) ≡ without (carried_of history) p
carried_commit history p naming names =
    left_by history (Commit p) naming names
    ∙ map_without (history ++ Commit p ∷ []) (undecided history) p
    ∙ ap (λ (xs : List Carried). without xs p) (old_ones history (Commit p) naming names)

pub carried_close : (history : List Entry) (p : ℕ) → AreNaming history → is_undecided history p ≡ true → carried_of (history ++ Close p ∷ []) ≡ without (carried_of history) p
carried_close history p naming names =
    left_by history (Close p) naming names
    ∙ map_without (history ++ Close p ∷ []) (undecided history) p
    ∙ ap (λ (xs : List Carried). without xs p) (old_ones history (Close p) naming names)

-- ---- one that is undecided

record HasPlace (history : List Entry) (ps : List ℕ) (p : ℕ) : Type 0 where
  place : ℕ
  there : slice_get (map (carried_from history) ps) place ≡ Some (carried_from history p)

place_of : (history : List Entry) (ps : List ℕ) (p : ℕ) → list_any (λ k. k == p) ps ≡ true → HasPlace history ps p
place_of history [] p any = absurd cc
place_of history (q ∷ ps) p any = elim (or_cases (q == p) (list_any (λ k. k == p) ps) any) [
  | inl here ↦ record { place = 0; there = ap (λ (r : ℕ). Some (carried_from history r)) (eqb-true q p here) }
  | inr behind ↦ let it = place_of history ps p behind in record { place = suc it.place; there = it.there }
]

itself : (history : List Entry) (ps : List ℕ) (i : ℕ) (x : Carried) → slice_get (map (carried_from history) ps) i ≡ Some x → x ≡ carried_from history x.number
itself history [] i x at = absurd cc
itself history (q ∷ ps) zero x at = let same = same_Some (carried_from history q) x at in sym same ∙ ap (λ (z : Carried). carried_from history z.number) same
itself history (q ∷ ps) (suc i) x at = itself history ps i x at

pub is_among : (history : List Entry) (p : ℕ) → is_undecided history p ≡ true → IsAmong (carried_of history) p (name_at history p) (batch_at history p)
is_among history p undecided_p =
    let it = place_of history (undecided history) p (is_undecided_by_list history p ∙ undecided_p) in
    record {
      place = it.place;
      there = it.there;
      alone = λ i x at number. itself history (undecided history) i x at ∙ ap (carried_from history) number;
    }

-- ---- at a base

pub carried_at_base : (base : ℕ) (carried : List Carried) → AreNumbered (cut_of base carried []) → carried_of (prepares_of (cut_of base carried [])) ≡ carried
carried_at_base base carried numbered =
    let long = full_long (cut_of base carried []) [] in
    ap carried_of (sym (take_all base (prepares_of (cut_of base carried [])) (omega (arith, long)))) ∙ sym (carried_is (cut_of base carried []) [] numbered)
