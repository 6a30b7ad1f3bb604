-- What the order of versions says of two and of three of them.
use Rattle.std.proofs.Common.{◌≡◌, ℕ, ◌<◌, Bool, true, false, cond, Less, Equal, Greater, List, [], ◌∷◌, ◌++◌, refl, sym, ap, ◌∙◌}
use Rattle.std.specs.declared.cmp.Ordering.{Ordering}
use Rattle.std.specs.Ordering.{nat_cmp, ordering_then}
use Rattle.std.specs.Str.{bytes_eq}
use Rattle.std.specs.List.{AllByRecursion, filter}
use Rattle.std.proofs.lemmas.Map.Lookups.{exact_bytes}
use Rattle.std.proofs.lemmas.Map.Text.{is_eq-slice_cmp}
use Rattle.std.proofs.lemmas.Cmp.{ranked, tied_itself, nat_list_cmp_total}
use Rattle.std.specs.Cmp.{Equal-is}
use Rattle.std.proofs.lemmas.Slice.Eq.{bytes_eq-Decides}
use Rattle.wp_model.specs.Batch.{key_cmp}
use Rattle.wp_model.specs.declared.version.Version.{Version}
use Rattle.wp_model.specs.Versions.{AreInOrder, version_cmp}
use Rattle.wp_model.proofs.VersionLists.{IsBefore, in_order_parts, in_order_cons}

pub bytes_eq-same : (a : List ℕ) → bytes_eq a a ≡ true
bytes_eq-same a = (bytes_eq-Decides a a).1 refl

-- ---- two versions

-- of two versions of a key the one that is first has the greater number
pub newer_number : (w v : Version) → version_cmp w v ≡ Less → bytes_eq w.key v.key ≡ true → v.number < w.number
newer_number w v less same =
    let numbers : nat_cmp v.number w.number ≡ Less = sym (ap (λ o. ordering_then o (nat_cmp v.number w.number)) ((Equal-is _).0 (is_eq-slice_cmp w.key v.key ∙ same))) ∙ less in
    ranked v.number w.number Less (sym numbers)

-- ---- three versions

first_less : (o p : Ordering) → ordering_then o p ≡ Less → o ≡ Greater → ⊥
first_less Less p h e = absurd cc
first_less Equal p h e = absurd cc
first_less Greater p h e = absurd cc

-- a version between two of one key is of that key
pub between : (u v w : Version) → version_cmp u v ≡ Less → version_cmp v w ≡ Less → u.key ≡ w.key → v.key ≡ u.key
between u v w first second same = by (key_cmp u.key v.key) refl
  where
    second_by : (o : Ordering) → key_cmp v.key w.key ≡ o → key_cmp u.key v.key ≡ Less → v.key ≡ u.key
    second_by Less e less =
        let across : key_cmp u.key w.key ≡ Less = nat_list_cmp_total.trans u.key v.key w.key less e in
        let tied : key_cmp u.key w.key ≡ Equal = ap (λ k. key_cmp u.key k) (sym same) ∙ tied_itself nat_list_cmp_total u.key in
        absurd cc
    second_by Equal e less = exact_bytes v.key w.key e ∙ sym same
    second_by Greater e less = absurd (first_less _ _ second e)

    by : (o : Ordering) → key_cmp u.key v.key ≡ o → v.key ≡ u.key
    by Less e = second_by (key_cmp v.key w.key) refl e
    by Equal e = sym (exact_bytes u.key v.key e)
    by Greater e = absurd (first_less _ _ first e)

-- ---- a version in a list

-- all of these are before v
abbrev pub IsAfter : Version → List Version → Type 0
IsAfter v versions = AllByRecursion (λ w. version_cmp w v ≡ Less) versions

pub record IsPlaced (front : List Version) (v : Version) (back : List Version) : Type 0 where
  pub after : IsAfter v front
  pub before : IsBefore v back

before_at : (w : Version) (front : List Version) (v : Version) (back : List Version) → IsBefore w (front ++ v ∷ back) → version_cmp w v ≡ Less
before_at w [] v back h = h.0
before_at w (x ∷ front) v back h = before_at w front v back h.1

pub placed_version : (front : List Version) (v : Version) (back : List Version) → AreInOrder (front ++ v ∷ back) → IsPlaced front v back
placed_version [] v back h = record { after = tt; before = (in_order_parts v back h).0 }
placed_version (w ∷ front) v back h =
    let parts = in_order_parts w (front ++ v ∷ back) h in
    let rest = placed_version front v back parts.1 in
    record { after = (before_at w front v back parts.0, rest.after); before = rest.before }

pub after_parts : (u : Version) (front : List Version) (v : Version) → IsAfter u (front ++ v ∷ []) → IsAfter u front × (version_cmp v u ≡ Less)
after_parts u [] v h = (tt, h.0)
after_parts u (w ∷ front) v h = let rest = after_parts u front v h.1 in ((h.0, rest.0), rest.1)

-- ---- some of a list

before_filter : (w : Version) (test : Version → Bool) (vs : List Version) → IsBefore w vs → IsBefore w (filter test vs)
before_filter w test [] h = tt
before_filter w test (v ∷ vs) h = by (test v) (before_filter w test vs h.1)
  where
    by : (b : Bool) → IsBefore w (filter test vs) → IsBefore w (cond b (v ∷ filter test vs) (filter test vs))
    by true rest = (h.0, rest)
    by false rest = rest

pub in_order_filter : (test : Version → Bool) (vs : List Version) → AreInOrder vs → AreInOrder (filter test vs)
in_order_filter test [] h = h
in_order_filter test (v ∷ vs) h = by (test v) (in_order_parts v vs h).0 (in_order_filter test vs (in_order_parts v vs h).1)
  where
    by : (b : Bool) → IsBefore v vs → AreInOrder (filter test vs) → AreInOrder (cond b (v ∷ filter test vs) (filter test vs))
    by true before rest = in_order_cons v (filter test vs) (before_filter v test vs before) rest
    by false before rest = rest
