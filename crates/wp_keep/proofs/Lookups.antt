-- What is under a key and a number, of a list and of what is left of it.
use Rattle.std.proofs.Common.{◌≡◌, ℕ, ◌<◌, Bool, true, false, ◌==◌, ◌&&◌, ◌||◌, cond, List, [], ◌∷◌, ◌++◌, Option, Some, None, refl, sym, ap, ◌∙◌, arith}
use Rattle.std.specs.Option.{option_or}
use Rattle.std.specs.List.{filter, list_any}
use Rattle.std.specs.Str.{bytes_eq}
use Rattle.std.proofs.lemmas.Bool.{and_parts, or_left, or_right, eqb-true, eq-eqb}
use Rattle.std.proofs.lemmas.Slice.Eq.{bytes_eq-Decides}
use Rattle.wp_model.specs.declared.version.Version.{Version}
use Rattle.wp_model.specs.Versions.{AreInOrder, version_at}
use Rattle.wp_model.proofs.VersionLists.{IsBefore, in_order_parts, or_cond}
use Rattle.wp_keep.proofs.Order.{bytes_eq-same, newer_number}

abbrev pub version : List ℕ → ℕ → Option (List ℕ) → Version
version key p value = record { key = key; number = p; value = value }

-- ---- two lists

pub at_both : (xs ys : List Version) (key : List ℕ) (p : ℕ) → version_at (xs ++ ys) key p ≡ option_or (version_at xs key p) (version_at ys key p)
at_both [] ys key p = refl
at_both (x ∷ xs) ys key p = ap (cond (bytes_eq x.key key && (x.number == p)) (Some x.value)) (at_both xs ys key p) ∙ or_cond (bytes_eq x.key key && (x.number == p)) x.value (version_at xs key p) (version_at ys key p)

-- ---- tests

pub any_mono : (f g : Version → Bool) → ((w : Version) → f w ≡ true → g w ≡ true) → (vs : List Version) → list_any f vs ≡ true → list_any g vs ≡ true
any_mono f g more [] h = h
any_mono f g more (v ∷ vs) h = by (f v) (more v) h (any_mono f g more vs)
  where
    by : (b : Bool) → (b ≡ true → g v ≡ true) → (b || list_any f vs) ≡ true → (list_any f vs ≡ true → list_any g vs ≡ true) → (g v || list_any g vs) ≡ true
    by true here e rest = or_left (g v) (list_any g vs) (here refl)
    by false here e rest = or_right (g v) (list_any g vs) (rest e)

module _ (key : List ℕ) (p : ℕ) where
  abbrev is_here : Version → Bool
  is_here v = bytes_eq v.key key && (v.number == p)

  is_version : (v : Version) (value : Option (List ℕ)) → is_here v ≡ true → Some v.value ≡ Some value → v ≡ version key p value
  is_version v value h e =
      let parts = and_parts (bytes_eq v.key key) (v.number == p) h in
      let keys : v.key ≡ key = (bytes_eq-Decides v.key key).0 parts.0 in
      let numbers : v.number ≡ p = eqb-true v.number p parts.1 in
      let values : v.value ≡ value = cc in
      λ i. record { key = keys i; number = numbers i; value = values i }

  pub any_found : (f : Version → Bool) (vs : List Version) (value : Option (List ℕ)) → version_at vs key p ≡ Some value → f (version key p value) ≡ true → list_any f vs ≡ true
  any_found f [] value e h = absurd cc
  any_found f (v ∷ vs) value e h = by (is_here v) refl e (λ r. any_found f vs value r h)
    where
      by : (b : Bool) → is_here v ≡ b → cond b (Some v.value) (version_at vs key p) ≡ Some value → (version_at vs key p ≡ Some value → list_any f vs ≡ true) → (f v || list_any f vs) ≡ true
      by true here is rest = or_left (f v) (list_any f vs) (ap f (is_version v value here is) ∙ h)
      by false here is rest = or_right (f v) (list_any f vs) (rest is)

  -- ---- some of a list

  pub at_filter : (f : Version → Bool) (vs : List Version) (value : Option (List ℕ)) → version_at vs key p ≡ Some value → f (version key p value) ≡ true → version_at (filter f vs) key p ≡ Some value
  at_filter f [] value e h = e
  at_filter f (v ∷ vs) value e h = by (is_here v) refl e (λ r. at_filter f vs value r h)
    where
      by : (b : Bool) → is_here v ≡ b → cond b (Some v.value) (version_at vs key p) ≡ Some value → (version_at vs key p ≡ Some value → version_at (filter f vs) key p ≡ Some value) → version_at (cond (f v) (v ∷ filter f vs) (filter f vs)) key p ≡ Some value
      by true here is rest = rw (ap f (is_version v value here is) ∙ h, here) is
      by false here is rest = skip (f v) (rest is)
        where
          skip : (c : Bool) → version_at (filter f vs) key p ≡ Some value → version_at (cond c (v ∷ filter f vs) (filter f vs)) key p ≡ Some value
          skip true r = rw here r
          skip false r = r

  pub passed_filter : (f : Version → Bool) (vs : List Version) (value : Option (List ℕ)) → version_at (filter f vs) key p ≡ Some value → f (version key p value) ≡ true
  passed_filter f [] value e = absurd cc
  passed_filter f (v ∷ vs) value e = by (f v) refl e (passed_filter f vs value)
    where
      by : (c : Bool) → f v ≡ c → version_at (cond c (v ∷ filter f vs) (filter f vs)) key p ≡ Some value → (version_at (filter f vs) key p ≡ Some value → f (version key p value) ≡ true) → f (version key p value) ≡ true
      by false passes is rest = rest is
      by true passes is rest = at (is_here v) refl is
        where
          at : (b : Bool) → is_here v ≡ b → cond b (Some v.value) (version_at (filter f vs) key p) ≡ Some value → f (version key p value) ≡ true
          at true here e = sym (ap f (is_version v value here e)) ∙ passes
          at false here e = rest e

  missing : (v : Version) (vs : List Version) → IsBefore v vs → is_here v ≡ true → version_at vs key p ≡ None
  missing v [] before here = refl
  missing v (w ∷ ws) before here = by (is_here w) refl (missing v ws before.1 here)
    where
      by : (b : Bool) → is_here w ≡ b → version_at ws key p ≡ None → cond b (Some w.value) (version_at ws key p) ≡ None
      by false there rest = rest
      by true there rest =
          let first = and_parts (bytes_eq v.key key) (v.number == p) here in
          let second = and_parts (bytes_eq w.key key) (w.number == p) there in
          let keys : v.key ≡ w.key = (bytes_eq-Decides v.key key).0 first.0 ∙ sym ((bytes_eq-Decides w.key key).0 second.0) in
          let less : w.number < v.number = newer_number v w before.0 (ap (λ k. bytes_eq v.key k) (sym keys) ∙ bytes_eq-same v.key) in
          let a : v.number ≡ p = eqb-true v.number p first.1 in
          let b : w.number ≡ p = eqb-true w.number p second.1 in
          absurd (omega arith)

  pub in_filtered : (f : Version → Bool) (vs : List Version) (value : Option (List ℕ)) → AreInOrder vs → version_at (filter f vs) key p ≡ Some value → version_at vs key p ≡ Some value
  in_filtered f [] value order e = e
  in_filtered f (v ∷ vs) value order e =
      let parts = in_order_parts v vs order in
      by (is_here v) refl (f v) e (in_filtered f vs value parts.1) parts.0
    where
      by : (b : Bool) → is_here v ≡ b → (c : Bool) → version_at (cond c (v ∷ filter f vs) (filter f vs)) key p ≡ Some value → (version_at (filter f vs) key p ≡ Some value → version_at vs key p ≡ Some value) → IsBefore v vs → cond b (Some v.value) (version_at vs key p) ≡ Some value
      by true here true is rest before = sym (ap (λ b. cond b (Some v.value) (version_at (filter f vs) key p)) here) ∙ is
      by true here false is rest before = let none = missing v vs before here in let some = rest is in absurd cc
      by false here true is rest before = rest (sym (ap (λ b. cond b (Some v.value) (version_at (filter f vs) key p)) here) ∙ is)
      by false here false is rest before = rest is

-- ---- a version that a test finds

pub record IsFoundVersion (f : Version → Bool) (vs : List Version) : Type 0 where
  pub found : Version
  pub passes : f found ≡ true
  pub value : Option (List ℕ)
  pub there : version_at vs found.key found.number ≡ Some value

some_either : (b : Bool) (v w : Option (List ℕ)) (o : Option (Option (List ℕ))) → o ≡ Some w → (x : Option (List ℕ)) × (cond b (Some v) o ≡ Some x)
some_either true v w o e = (v, refl)
some_either false v w o e = (w, e)

pub finds : (f : Version → Bool) (vs : List Version) → list_any f vs ≡ true → IsFoundVersion f vs
finds f [] h = absurd cc
finds f (v ∷ vs) h = by (f v) refl h (finds f vs)
  where
    by : (b : Bool) → f v ≡ b → (b || list_any f vs) ≡ true → (list_any f vs ≡ true → IsFoundVersion f vs) → IsFoundVersion f (v ∷ vs)
    by true passes e rest = record { found = v; passes = passes; value = v.value; there = rw (bytes_eq-same v.key, eq-eqb v.number v.number refl) refl }
    by false passes e rest =
        let r = rest e in
        let either = some_either (bytes_eq v.key r.found.key && (v.number == r.found.number)) v.value r.value (version_at vs r.found.key r.found.number) r.there in
        record { found = r.found; passes = r.passes; value = either.0; there = either.1 }
