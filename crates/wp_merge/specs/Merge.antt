-- Sorted lists of versions, merged.
use Rattle.std.specs.Prelude.{◌≡◌, ℕ, List, [], ◌∷◌, Option, None}
use Rattle.std.specs.List.{flat_map}
use Rattle.std.specs.Option.{option_or}
use Rattle.std.specs.declared.cmp.Ordering.{Ordering}
use Rattle.std.specs.declared.cmp.Ordering.TheVariants.{Less, Equal, Greater}
use Rattle.wp_model.specs.declared.version.Version.{Version}
use Rattle.wp_model.specs.Versions.{AreInOrder, version_cmp, version_at}

-- what the first of the lists that has any has under the key and the number
abbrev pub first_at : List (List Version) → List ℕ → ℕ → Option (Option (List ℕ))
first_at [] key n = None
first_at (source ∷ sources) key n = option_or (version_at source key n) (first_at sources key n)

-- all versions of the lists, in order: of several of one key and number the first list's
pub record AreMerged (sources : List (List Version)) (all : List Version) : Type 0 where
  pub in_order : AreInOrder all
  pub each : (key : List ℕ) (n : ℕ) → version_at all key n ≡ first_at sources key n

-- the versions of all lists, one list after the other
abbrev pub joined : List (List Version) → List Version
joined sources = flat_map (λ source. source) sources

-- ---- two lists

-- which list's front comes first: Less for the first list's
abbrev pub front_order : List Version → List Version → Ordering
front_order [] ys = Greater
front_order (x ∷ xs) [] = Less
front_order (x ∷ xs) (y ∷ ys) = version_cmp x y

-- the first list where the order is Less, the second where it is Equal, the third where it is Greater
abbrev pub choose_by_order : Ordering → List Version → List Version → List Version → List Version
choose_by_order Less first both second = first
choose_by_order Equal first both second = both
choose_by_order Greater first both second = second

-- a version in front of ys, where `rest` merges what comes after it with such a list
abbrev pub weave : Version → (List Version → List Version) → List Version → List Version
weave x rest [] = x ∷ rest []
weave x rest (y ∷ ys) = choose_by_order (version_cmp x y) (x ∷ rest (y ∷ ys)) (x ∷ rest ys) (y ∷ weave x rest ys)

abbrev pub merge_of : List Version → List Version → List Version
merge_of [] ys = ys
merge_of (x ∷ xs) ys = weave x (merge_of xs) ys

-- ---- one list

-- the versions in order: of several of one key and number the first
abbrev pub sorted_of : List Version → List Version
sorted_of [] = []
sorted_of (v ∷ vs) = merge_of (v ∷ []) (sorted_of vs)
