-- Which versions of a key pass a test, of those before a version and of those after it.
use Rattle.std.proofs.Common.{◌≡◌, ℕ, Bool, true, false, ◌&&◌, ◌||◌, Less, List, [], ◌∷◌, ◌++◌, nat_le, nat_lt, refl, sym, ap, ◌∙◌, arith}
use Rattle.std.specs.List.{AllByRecursion, list_any}
use Rattle.std.specs.Str.{bytes_eq}
use Rattle.std.proofs.lemmas.Bool.{false≢true, lt-ltb, le-ltb, le-leb, lt-leb, or_from}
use Rattle.std.proofs.lemmas.List.Folds.{list_any-append}
use Rattle.std.proofs.lemmas.Slice.Eq.{bytes_eq-Decides}
use Rattle.wp_model.specs.declared.version.Version.{Version}
use Rattle.wp_model.specs.Versions.{version_cmp}
use Rattle.wp_model.proofs.VersionLists.{IsBefore}
use Rattle.wp_keep.proofs.Order.{IsAfter, IsPlaced, bytes_eq-same, newer_number, between}

-- a version of the key is among them that passes the test
abbrev pub any_of : List ℕ → (Version → Bool) → List Version → Bool
any_of key test versions = list_any (λ w. bytes_eq w.key key && test w) versions

or_with : (a b c d : Bool) → a ≡ b → c ≡ d → (a || c) ≡ (b || d)
or_with a b c d e f = λ i. e i || f i

or_false : (a : Bool) → (a || false) ≡ a
or_false true = refl
or_false false = refl

and_true : (a b c : Bool) → (a ≡ true → b ≡ true) → (a && (b && c)) ≡ (a && c)
and_true true b c h = ap (λ x. x && c) (h refl)
and_true false b c h = refl

and_false : (a b c : Bool) → (a ≡ true → b ≡ false) → (a && (b && c)) ≡ false
and_false true b c h = ap (λ x. x && c) (h refl)
and_false false b c h = refl

other_way : (a b : List ℕ) → bytes_eq a b ≡ true → bytes_eq b a ≡ true
other_way a b h = ap (λ k. bytes_eq k a) (sym ((bytes_eq-Decides a b).0 h)) ∙ bytes_eq-same a

module _ (g : Version → Bool) where
  abbrev newer_passes : Version → Version → Bool
  newer_passes v w = bytes_eq w.key v.key && (nat_lt v.number w.number && g w)

  abbrev older_passes : Version → Version → Bool
  older_passes v w = bytes_eq w.key v.key && (nat_le w.number v.number && g w)

  newer_front : (v : Version) (front : List Version) → IsAfter v front → list_any (newer_passes v) front ≡ any_of v.key g front
  newer_front v [] h = refl
  newer_front v (w ∷ ws) h = or_with _ _ _ _ (and_true (bytes_eq w.key v.key) (nat_lt v.number w.number) (g w) (λ e. lt-ltb v.number w.number (newer_number w v h.0 e))) (newer_front v ws h.1)

  newer_back : (v : Version) (back : List Version) → IsBefore v back → list_any (newer_passes v) back ≡ false
  newer_back v [] h = refl
  newer_back v (w ∷ ws) h =
      or_from (newer_passes v w) (list_any (newer_passes v) ws) (and_false (bytes_eq w.key v.key) (nat_lt v.number w.number) (g w) (λ e. let less = newer_number v w h.0 (other_way w.key v.key e) in le-ltb v.number w.number (omega arith))) (newer_back v ws h.1)

  -- the newer ones of its key are those before it
  pub any_newer : (front : List Version) (v : Version) (back : List Version) → IsPlaced front v back → list_any (newer_passes v) (front ++ v ∷ back) ≡ any_of v.key g front
  any_newer front v back place =
      let here : newer_passes v v ≡ false = and_false (bytes_eq v.key v.key) (nat_lt v.number v.number) (g v) (λ e. le-ltb v.number v.number (omega arith)) in
      list_any-append (newer_passes v) front (v ∷ back)
      ∙ or_with _ _ _ _ (newer_front v front place.after) (or_from (newer_passes v v) (list_any (newer_passes v) back) here (newer_back v back place.before))
      ∙ or_false (any_of v.key g front)

  older_front : (v : Version) (front : List Version) → IsAfter v front → list_any (older_passes v) front ≡ false
  older_front v [] h = refl
  older_front v (w ∷ ws) h =
      or_from (older_passes v w) (list_any (older_passes v) ws) (and_false (bytes_eq w.key v.key) (nat_le w.number v.number) (g w) (λ e. lt-leb w.number v.number (newer_number w v h.0 e))) (older_front v ws h.1)

  older_back : (v : Version) (back : List Version) → IsBefore v back → list_any (older_passes v) back ≡ any_of v.key g back
  older_back v [] h = refl
  older_back v (w ∷ ws) h = or_with _ _ _ _ (and_true (bytes_eq w.key v.key) (nat_le w.number v.number) (g w) (λ e. let less = newer_number v w h.0 (other_way w.key v.key e) in le-leb w.number v.number (omega arith))) (older_back v ws h.1)

  -- the ones of its key that are as old are itself and those after it
  pub any_older : (front : List Version) (v : Version) (back : List Version) → IsPlaced front v back → list_any (older_passes v) (front ++ v ∷ back) ≡ (g v || any_of v.key g back)
  any_older front v back place =
      let here : older_passes v v ≡ g v = λ i. bytes_eq-same v.key i && (le-leb v.number v.number (omega arith) i && g v) in
      list_any-append (older_passes v) front (v ∷ back)
      ∙ or_with _ _ _ _ (older_front v front place.after) (or_with _ _ _ _ here (older_back v back place.before))

  none_of_key : (v u : Version) (vs : List Version) → AllByRecursion (λ w. w.key ≡ u.key → v.key ≡ u.key) vs → bytes_eq v.key u.key ≡ false → any_of u.key g vs ≡ false
  none_of_key v u [] h other = refl
  none_of_key v u (w ∷ ws) h other = or_from (bytes_eq w.key u.key && g w) (any_of u.key g ws) (by (bytes_eq w.key u.key) refl) (none_of_key v u ws h.1 other)
    where
      by : (b : Bool) → bytes_eq w.key u.key ≡ b → (b && g w) ≡ false
      by false e = refl
      by true e = absurd (false≢true (sym other ∙ (bytes_eq-Decides v.key u.key).1 (h.0 ((bytes_eq-Decides w.key u.key).0 e))))

  -- none of another key is beyond a version that is not of that key
  pub none_passed : (v u : Version) (front : List Version) → IsAfter v front → version_cmp v u ≡ Less → bytes_eq v.key u.key ≡ false → any_of u.key g front ≡ false
  none_passed v u front h less other = none_of_key v u front (each front h) other
    where
      each : (ws : List Version) → IsAfter v ws → AllByRecursion (λ w. w.key ≡ u.key → v.key ≡ u.key) ws
      each [] h = tt
      each (w ∷ ws) h = (λ same. between w v u h.0 less same ∙ same, each ws h.1)

  pub none_ahead : (v u : Version) (back : List Version) → IsBefore v back → version_cmp u v ≡ Less → bytes_eq v.key u.key ≡ false → any_of u.key g back ≡ false
  none_ahead v u back h less other = none_of_key v u back (each back h) other
    where
      each : (ws : List Version) → IsBefore v ws → AllByRecursion (λ w. w.key ≡ u.key → v.key ≡ u.key) ws
      each [] h = tt
      each (w ∷ ws) h = (λ same. between u v w less h.0 (sym same), each ws h.1)
