-- The finite map that a list of entries stands for.
use Rattle.std.proofs.Common.{◌≡◌, ℕ, cond, List, [], ◌∷◌, length, Option, Some, None, refl, sym, ap, ◌∙◌, arith}
use Rattle.std.specs.Cmp.{nat_cmp_total}
use Rattle.std.specs.Ordering.{nat_cmp, eq_by_cmp}
use Rattle.std.specs.Map.{lookup}
use Rattle.std.specs.BTreeMap.{is_at}
use Rattle.std.specs.FinMap.{FinMap, from_entries, get, find, insert, remove, get-from_entries, get-insert, get-remove, same_map, nat_cmp-IsAntisymmetric}
use Rattle.wp_prepared.proofs.Sets.{same_either_way}

-- what a list of entries has at q
abbrev pub value_of_number : List (ℕ × ℕ) → ℕ → Option ℕ
value_of_number es q = lookup (is_at (nat_cmp q)) es

-- the map of the list's entries
abbrev pub map_of : List (ℕ × ℕ) → FinMap nat_cmp ℕ
map_of es = from_entries es

find_is : (es : List (ℕ × ℕ)) (q : ℕ) → find nat_cmp q es ≡ value_of_number es q
find_is [] q = refl
find_is (e ∷ es) q = ap (cond (eq_by_cmp nat_cmp q e.0) (Some e.1)) (find_is es q)

pub get-map_of : (es : List (ℕ × ℕ)) (q : ℕ) → get (map_of es) q ≡ value_of_number es q
get-map_of es q = get-from_entries nat_cmp_total es q ∙ find_is es q

from_entries_same : (es : List (ℕ × ℕ)) (m : FinMap nat_cmp ℕ) → ((q : ℕ) → value_of_number es q ≡ get m q) → map_of es ≡ m
from_entries_same es m same = same_map nat_cmp_total nat_cmp-IsAntisymmetric _ _ (λ q. get-map_of es q ∙ same q)

at_old : (es : List (ℕ × ℕ)) (k q : ℕ) (w : Option ℕ) → cond (eq_by_cmp nat_cmp k q) w (value_of_number es q) ≡ cond (eq_by_cmp nat_cmp q k) w (get (map_of es) q)
at_old es k q w = ap (λ b. cond b w (value_of_number es q)) (same_either_way k q) ∙ ap (cond (eq_by_cmp nat_cmp q k) w) (sym (get-map_of es q))

pub from_entries_inserted : (es ns : List (ℕ × ℕ)) (k v : ℕ) → ((q : ℕ) → value_of_number ns q ≡ cond (eq_by_cmp nat_cmp k q) (Some v) (value_of_number es q)) → map_of ns ≡ insert (map_of es) k v
from_entries_inserted es ns k v is = from_entries_same ns _ (λ q. is q ∙ at_old es k q (Some v) ∙ sym (get-insert nat_cmp_total (map_of es) k v q))

pub from_entries_removed : (es ns : List (ℕ × ℕ)) (k : ℕ) → ((q : ℕ) → value_of_number ns q ≡ cond (eq_by_cmp nat_cmp k q) None (value_of_number es q)) → map_of ns ≡ remove (map_of es) k
from_entries_removed es ns k is = from_entries_same ns _ (λ q. is q ∙ at_old es k q None ∙ sym (get-remove nat_cmp_total (map_of es) k q))

-- a map has nothing just where its list is empty
pub none_of_entries : (es : List (ℕ × ℕ)) → length es ≡ 0 → (q : ℕ) → get (map_of es) q ≡ None
none_of_entries [] empty q = get-map_of [] q
none_of_entries (e ∷ es) empty q = absurd (omega arith)
