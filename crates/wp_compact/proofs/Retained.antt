-- What stays of versions hangs on where their numbers are committed, of the floor and the snapshots, and on nothing else.
use Rattle.std.proofs.Common.{◌≡◌, inl, inr, ℕ, Bool, true, false, nat_le, nat_lt, ◌&&◌, ◌||◌, not, cond, List, [], ◌∷◌, filter, is_none, refl, ap, ◌∙◌}
use Rattle.std.proofs.lemmas.Bool.{and_parts}
use Rattle.std.specs.List.{list_all, list_any}
use Rattle.std.specs.Str.{bytes_eq}
use Rattle.wp_model.specs.declared.version.Version.{Version}
use Rattle.wp_keep.specs.Keep.{has_newer, stays, staying, remains, remaining, retained_of}
use Rattle.wp_core.specs.Lists.{IsIn}
use Rattle.wp_core.proofs.Frames.{in_filter}

-- ---- tests that agree on a list

any_same : {X : Type 0} (f g : X → Bool) (xs : List X) → ((x : X) → IsIn x xs → f x ≡ g x) → list_any f xs ≡ list_any g xs
any_same f g [] same = refl
any_same f g (x ∷ xs) same = λ i. same x (inl refl) i || any_same f g xs (λ y there. same y (inr there)) i

filter_same : {X : Type 0} (f g : X → Bool) (xs : List X) → ((x : X) → IsIn x xs → f x ≡ g x) → filter f xs ≡ filter g xs
filter_same f g [] same = refl
filter_same f g (x ∷ xs) same = let rest = filter_same f g xs (λ y there. same y (inr there)) in λ i. cond (same x (inl refl) i) (x ∷ rest i) (rest i)

module _ (c d : ℕ → ℕ → Bool) (versions : List Version) (snapshots : List ℕ) (floor : ℕ) (same : (v : Version) → IsIn v versions → (n : ℕ) → IsIn n (floor ∷ snapshots) → c v.number n ≡ d v.number n) where
  newer_same : (v : Version) (n : ℕ) → IsIn n (floor ∷ snapshots) → has_newer c versions v n ≡ has_newer d versions v n
  newer_same v n among =
      any_same (λ (w : Version). bytes_eq w.key v.key && (nat_lt v.number w.number && c w.number n)) (λ (w : Version). bytes_eq w.key v.key && (nat_lt v.number w.number && d w.number n)) versions
      (λ w there i. bytes_eq w.key v.key && (nat_lt v.number w.number && same w there n among i))

  stays_same : (v : Version) → IsIn v versions → stays c versions snapshots floor v ≡ stays d versions snapshots floor v
  stays_same v there =
      let each = any_same (λ n. c v.number n && not (has_newer c versions v n)) (λ n. d v.number n && not (has_newer d versions v n)) (floor ∷ snapshots) (λ n among i. same v there n among i && not (newer_same v n among i)) in
      λ i. not (same v there floor (inl refl) i) || each i

  abbrev stayed : List Version
  stayed = staying c versions snapshots floor

  remains_same : (v : Version) → IsIn v stayed → remains c stayed floor v ≡ remains d stayed floor v
  remains_same v in_stayed =
      any_same (λ (w : Version). bytes_eq w.key v.key && (nat_le w.number v.number && not (is_none w.value && c w.number floor))) (λ (w : Version). bytes_eq w.key v.key && (nat_le w.number v.number && not (is_none w.value && d w.number floor))) stayed
      (λ w there i. bytes_eq w.key v.key && (nat_le w.number v.number && not (is_none w.value && same w (in_filter (stays c versions snapshots floor) w versions there).0 floor (inl refl) i)))

  pub retained_same : retained_of c versions snapshots floor ≡ retained_of d versions snapshots floor
  retained_same =
      filter_same (remains c stayed floor) (remains d stayed floor) stayed remains_same
      ∙ ap (λ vs. remaining d vs floor) (filter_same (stays c versions snapshots floor) (stays d versions snapshots floor) versions stays_same)

-- ---- what stays is some of what was there

all_filtered : {X : Type 0} (P keeps : X → Bool) (xs : List X) → list_all P xs ≡ true → list_all P (filter keeps xs) ≡ true
all_filtered P keeps [] all = refl
all_filtered P keeps (x ∷ xs) all =
    let parts = and_parts (P x) (list_all P xs) all in
    by (keeps x) parts.0 (all_filtered P keeps xs parts.1)
  where
    by : (b : Bool) → P x ≡ true → list_all P (filter keeps xs) ≡ true → list_all P (cond b (x ∷ filter keeps xs) (filter keeps xs)) ≡ true
    by true here rest = rw (here, rest) refl
    by false here rest = rest

module _ (committed : ℕ → ℕ → Bool) (versions : List Version) (snapshots : List ℕ) (floor : ℕ) where
  abbrev kept_first : List Version
  kept_first = staying committed versions snapshots floor

  pub all_retained : (P : Version → Bool) → list_all P versions ≡ true → list_all P (retained_of committed versions snapshots floor) ≡ true
  all_retained P all = all_filtered P (remains committed kept_first floor) kept_first (all_filtered P (stays committed versions snapshots floor) versions all)
