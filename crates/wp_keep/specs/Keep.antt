-- Which versions of a list stay.
use Rattle.std.specs.Prelude.{ℕ, Bool, ◌==◌, ◌&&◌, ◌||◌, not, List, ◌∷◌, is_none, nat_le, nat_lt}
use Rattle.std.specs.List.{filter, list_any}
use Rattle.std.specs.Str.{bytes_eq}
use Rattle.std.specs.Ordering.{nat_cmp}
use Rattle.std.specs.FinMap as map
use Rattle.wp_model.specs.declared.version.Version.{Version}
use Rattle.wp_model.specs.Decision.{is_by}
use Rattle.wp_keep.specs.declared.pair.Pair.{Pair}

-- the least commit of each number
abbrev pub commits_in : List (ℕ × ℕ) → map.FinMap nat_cmp ℕ
commits_in = map.from_entries

-- the pairs have the number with a commit of at most n
abbrev pub is_committed : List Pair → ℕ → ℕ → Bool
is_committed committed p n = list_any (λ pair. (pair.number == p) && nat_le pair.commit n) committed

-- the map has the number with a commit of at most n
abbrev pub by_commits : map.FinMap nat_cmp ℕ → ℕ → ℕ → Bool
by_commits commits p n = is_by (map.get commits p) n

-- a newer version of the same key is committed at n
abbrev pub has_newer : (ℕ → ℕ → Bool) → List Version → Version → ℕ → Bool
has_newer committed versions v n = list_any (λ w. bytes_eq w.key v.key && (nat_lt v.number w.number && committed w.number n)) versions

-- not committed at the floor, or at it or at a snapshot committed where nothing newer is
abbrev pub is_needed : (ℕ → Bool) → (ℕ → Bool) → List ℕ → ℕ → Bool
is_needed committed newer snapshots floor = not (committed floor) || list_any (λ n. committed n && not (newer n)) (floor ∷ snapshots)

-- the version is not committed at the floor, or is the newest one of its key that is committed there or at a snapshot
abbrev pub stays : (ℕ → ℕ → Bool) → List Version → List ℕ → ℕ → Version → Bool
stays committed versions snapshots floor v = is_needed (committed v.number) (has_newer committed versions v) snapshots floor

abbrev pub staying : (ℕ → ℕ → Bool) → List Version → List ℕ → ℕ → List Version
staying committed versions snapshots floor = filter (stays committed versions snapshots floor) versions

-- a deletion that is committed at the floor
abbrev pub is_fixed_deletion : (ℕ → ℕ → Bool) → ℕ → Version → Bool
is_fixed_deletion committed floor v = is_none v.value && committed v.number floor

-- the version, or an older one of its key, is no deletion that is committed at the floor
abbrev pub remains : (ℕ → ℕ → Bool) → List Version → ℕ → Version → Bool
remains committed versions floor v = list_any (λ w. bytes_eq w.key v.key && (nat_le w.number v.number && not (is_fixed_deletion committed floor w))) versions

-- the versions without those deletions that are committed at the floor and have nothing else of their key after them
abbrev pub remaining : (ℕ → ℕ → Bool) → List Version → ℕ → List Version
remaining committed versions floor = filter (remains committed versions floor) versions

-- the versions that stay, in their order, where `committed p n` says whether the number p is committed at n
abbrev pub retained_of : (ℕ → ℕ → Bool) → List Version → List ℕ → ℕ → List Version
retained_of committed versions snapshots floor = remaining committed (staying committed versions snapshots floor) floor
