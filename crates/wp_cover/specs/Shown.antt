-- What versions show a reader, in whatever order they come.
use Rattle.std.specs.Prelude.{◌≡◌, ℕ, Bool, true, ◌&&◌, nat_lt, List, [], ◌∷◌, Option, Some, None, option_map, if◌then◌else◌}
use Rattle.std.specs.Str.{bytes_eq}
use Rattle.wp_model.specs.declared.entry.Entry.{Entry}
use Rattle.wp_model.specs.declared.version.Version.{Version}
use Rattle.wp_model.specs.Decision.{is_committed}
use Rattle.wp_cover.specs.declared.shown.Newest.{Newest}
use Rattle.wp_cover.specs.Store.{IsStore, under}

-- a number is above that of the version found, if there is one
abbrev pub is_above : Option ℕ → ℕ → Bool
is_above None number = true
is_above (Some found) number = nat_lt found number

abbrev pub number_of : Option Version → Option ℕ
number_of found = option_map (λ v. v.number) found

abbrev pub value_of : Option Version → Option (List ℕ)
value_of None = None
value_of (Some v) = v.value

-- the version found under the key, or this one: it has to be committed at n, and to be newer
abbrev pub newer : List Entry → ℕ → List ℕ → Option Version → Version → Option Version
newer history n key found v = if bytes_eq v.key key && (is_committed history v.number n && is_above (number_of found) v.number) then Some v else found

-- of the version found under the key and these ones the newest that is committed at n
abbrev pub newest_from : List Entry → ℕ → List ℕ → Option Version → List Version → Option Version
newest_from history n key found [] = found
newest_from history n key found (v ∷ vs) = newest_from history n key (newer history n key found v) vs

-- what a reader at n finds under the key: what the newest of its versions has that is committed there, else nothing
abbrev pub shown : List Entry → ℕ → List Version → List ℕ → Option (List ℕ)
shown history n versions key = value_of (newest_from history n key None versions)

-- of each key the version that was found is noted: its number, and its value, if it is no deletion
pub record IsNewest (found : List ℕ → Option Version) (newest : Newest) : Type 0 where
  pub numbers : (key : List ℕ) → under newest.numbers key ≡ number_of (found key)
  pub values : IsStore (λ key. value_of (found key)) newest.values

-- the versions are noted, one after the other
abbrev pub Notes : List Entry → ℕ → List Version → Newest → Newest → Type 0
Notes history n versions old new = (found : List ℕ → Option Version) → IsNewest found old → IsNewest (λ key. newest_from history n key (found key) versions) new
