-- Lists of versions: their order, and what is under a key and a number.
use Rattle.std.proofs.Common.{◌≡◌, ℕ, Bool, true, false, cond, Less, List, [], ◌∷◌, Option, Some, refl}
use Rattle.std.specs.Cmp.{IsTotalOrder}
use Rattle.std.specs.Option.{option_or}
use Rattle.std.specs.List.{AllByRecursion}
use Rattle.std.specs.List.Sorted.{IsStrictlySortedBy}
use Rattle.std.proofs.lemmas.Cmp.{nat_cmp_total, nat_list_cmp_total, on_total, back_total, then_total}
use Rattle.wp_model.specs.declared.version.Version.{Version}
use Rattle.wp_model.specs.Versions.{AreInOrder, version_cmp}

pub version_total : IsTotalOrder version_cmp
version_total = then_total (on_total (λ (v : Version). v.key) nat_list_cmp_total) (on_total (λ (v : Version). v.number) (back_total nat_cmp_total))

-- all of these are after v
abbrev pub IsBefore : Version → List Version → Type 0
IsBefore v versions = AllByRecursion (λ w. version_cmp v w ≡ Less) versions

pub in_order_nil : AreInOrder []
unfolding IsStrictlySortedBy
in_order_nil = tt

pub in_order_parts : (v : Version) (vs : List Version) → AreInOrder (v ∷ vs) → IsBefore v vs × AreInOrder vs
unfolding IsStrictlySortedBy
in_order_parts v vs h = h

pub in_order_cons : (v : Version) (vs : List Version) → IsBefore v vs → AreInOrder vs → AreInOrder (v ∷ vs)
unfolding IsStrictlySortedBy
in_order_cons v vs before rest = (before, rest)

pub or_cond : (b : Bool) (v : Option (List ℕ)) (x y : Option (Option (List ℕ))) → cond b (Some v) (option_or x y) ≡ option_or (cond b (Some v) x) y
or_cond true v x y = refl
or_cond false v x y = refl
