-- What stays of versions hangs on where their numbers are committed, of the floor and the listed numbers, and on nothing else.
use Rattle.std.proofs.Common.{◌≡◌, ℕ, Bool, true, false, nat_le, nat_lt, ◌&&◌, ◌||◌, not, cond, List, [], ◌∷◌, filter, is_none, refl, ap, ◌∙◌}
use Rattle.std.specs.List.{AllByRecursion, list_any}
use Rattle.std.specs.Str.{bytes_eq}
use Rattle.wp_model.specs.declared.version.Version.{Version}
use Rattle.wp_keep.specs.Keep.{has_newer, stays, staying, remains, remaining, retained_of}

-- ---- lists

all_of : {X : Type 0} (P : X → Type 0) → ((x : X) → P x) → (xs : List X) → AllByRecursion P xs
all_of P each [] = tt
all_of P each (x ∷ xs) = (each x, all_of P each xs)

all_weaker : {X : Type 0} (P Q : X → Type 0) → ((x : X) → P x → Q x) → (xs : List X) → AllByRecursion P xs → AllByRecursion Q xs
all_weaker P Q f [] all = tt
all_weaker P Q f (x ∷ xs) all = (f x all.0, all_weaker P Q f xs all.1)

all_both : {X : Type 0} (P Q : X → Type 0) (xs : List X) → AllByRecursion P xs → AllByRecursion Q xs → AllByRecursion (λ x. P x × Q x) xs
all_both P Q [] all also = tt
all_both P Q (x ∷ xs) all also = ((all.0, also.0), all_both P Q xs all.1 also.1)

all_turned : {X Y : Type 0} (P : X → Y → Type 0) (xs : List X) (ys : List Y) → AllByRecursion (λ x. AllByRecursion (P x) ys) xs → AllByRecursion (λ y. AllByRecursion (λ x. P x y) xs) ys
all_turned P [] ys all = all_of (λ y. Unit {0}) (λ y. tt) ys
all_turned P (x ∷ xs) ys all = all_both (P x) (λ y. AllByRecursion (λ x. P x y) xs) ys all.0 (all_turned P xs ys all.1)

all_filtered : {X : Type 0} (P : X → Type 0) (keeps : X → Bool) (xs : List X) → AllByRecursion P xs → AllByRecursion P (filter keeps xs)
all_filtered P keeps [] all = tt
all_filtered P keeps (x ∷ xs) all = by (keeps x) (all_filtered P keeps xs all.1)
  where
    by : (b : Bool) → AllByRecursion P (filter keeps xs) → AllByRecursion P (cond b (x ∷ filter keeps xs) (filter keeps xs))
    by true rest = (all.0, rest)
    by false rest = rest

any_same : {X : Type 0} (f g : X → Bool) (xs : List X) → AllByRecursion (λ x. f x ≡ g x) xs → list_any f xs ≡ list_any g xs
any_same f g [] same = refl
any_same f g (x ∷ xs) same = λ i. same.0 i || any_same f g xs same.1 i

filter_same : {X : Type 0} (f g : X → Bool) (xs : List X) → AllByRecursion (λ x. f x ≡ g x) xs → filter f xs ≡ filter g xs
filter_same f g [] same = refl
filter_same f g (x ∷ xs) same = let rest = filter_same f g xs same.1 in λ i. cond (same.0 i) (x ∷ rest i) (rest i)

-- ---- two tests

module _ (c d : ℕ → ℕ → Bool) (versions : List Version) (numbers : List ℕ) (floor : ℕ) where
  -- they agree on a version at a number
  abbrev pub AgreeAt : Version → ℕ → Type 0
  AgreeAt v n = c v.number n ≡ d v.number n

  -- on each version, at the floor and at each listed number
  abbrev pub AgreeOn : Type 0
  AgreeOn = AllByRecursion (λ v. AllByRecursion (AgreeAt v) (floor ∷ numbers)) versions

  newer_same : (v : Version) (n : ℕ) → AllByRecursion (λ w. AgreeAt w n) versions → has_newer c versions v n ≡ has_newer d versions v n
  newer_same v n same =
      any_same (λ (w : Version). bytes_eq w.key v.key && (nat_lt v.number w.number && c w.number n)) (λ (w : Version). bytes_eq w.key v.key && (nat_lt v.number w.number && d w.number n)) versions
      (all_weaker (λ w. AgreeAt w n) (λ w. (bytes_eq w.key v.key && (nat_lt v.number w.number && c w.number n)) ≡ (bytes_eq w.key v.key && (nat_lt v.number w.number && d w.number n))) (λ w e i. bytes_eq w.key v.key && (nat_lt v.number w.number && e i)) versions same)

  stays_same : AgreeOn → (v : Version) → AllByRecursion (AgreeAt v) (floor ∷ numbers) → stays c versions numbers floor v ≡ stays d versions numbers floor v
  stays_same same v here =
      let each = any_same (λ n. c v.number n && not (has_newer c versions v n)) (λ n. d v.number n && not (has_newer d versions v n)) (floor ∷ numbers)
      (all_weaker (λ n. AgreeAt v n × AllByRecursion (λ w. AgreeAt w n) versions) (λ n. (c v.number n && not (has_newer c versions v n)) ≡ (d v.number n && not (has_newer d versions v n)))
      (λ n k i. k.0 i && not (newer_same v n k.1 i)) (floor ∷ numbers)
      (all_both (AgreeAt v) (λ n. AllByRecursion (λ w. AgreeAt w n) versions) (floor ∷ numbers) here (all_turned AgreeAt versions (floor ∷ numbers) same))) in
      λ i. not (here.0 i) || each i

  abbrev stayed : List Version
  stayed = staying c versions numbers floor

  remains_same : AgreeOn → (v : Version) → remains c stayed floor v ≡ remains d stayed floor v
  remains_same same v =
      any_same (λ (w : Version). bytes_eq w.key v.key && (nat_le w.number v.number && not (is_none w.value && c w.number floor))) (λ (w : Version). bytes_eq w.key v.key && (nat_le w.number v.number && not (is_none w.value && d w.number floor))) stayed
      (all_filtered (λ w. (bytes_eq w.key v.key && (nat_le w.number v.number && not (is_none w.value && c w.number floor))) ≡ (bytes_eq w.key v.key && (nat_le w.number v.number && not (is_none w.value && d w.number floor)))) (stays c versions numbers floor) versions
      (all_weaker (λ w. AllByRecursion (AgreeAt w) (floor ∷ numbers)) (λ w. (bytes_eq w.key v.key && (nat_le w.number v.number && not (is_none w.value && c w.number floor))) ≡ (bytes_eq w.key v.key && (nat_le w.number v.number && not (is_none w.value && d w.number floor))))
      (λ w k i. bytes_eq w.key v.key && (nat_le w.number v.number && not (is_none w.value && k.0 i))) versions same))

  pub retained_same : AgreeOn → retained_of c versions numbers floor ≡ retained_of d versions numbers floor
  retained_same same =
      filter_same (remains c stayed floor) (remains d stayed floor) stayed (all_of (λ v. remains c stayed floor v ≡ remains d stayed floor v) (remains_same same) stayed)
      ∙ ap (λ vs. remaining d vs floor) (filter_same (stays c versions numbers floor) (stays d versions numbers floor) versions (all_weaker (λ v. AllByRecursion (AgreeAt v) (floor ∷ numbers)) (λ v. stays c versions numbers floor v ≡ stays d versions numbers floor v) (stays_same same) versions same))
