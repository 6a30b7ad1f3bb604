-- What stands in the way of a history over a base.
use Rattle.std.specs.Prelude.{Bool, ◌||◌, not, nat_lt, length}
use Rattle.std.specs.List.{list_all}
use Rattle.wp_model.specs.declared.carried.Carried.{Carried}
use Rattle.wp_model.specs.declared.version.Version.{Version}
use Rattle.wp_model.specs.History.{is_changed}
use Rattle.wp_history.specs.History.{RoomyHistory}
use Rattle.wp_history.specs.Outline.{IsFirstWrong, RestoreUpTo, cut_in}
use Rattle.wp_cover.specs.Sources.{is_fixed}
use Rattle.wp_refused.specs.declared.bad.Bad.{Bad}
use Rattle.wp_refused.specs.declared.bad.Bad.TheVariants as bad

-- the version is below the carried prepare, or has no key of it
abbrev pub is_under : Version → Carried → Bool
is_under v x = not (is_changed x.batch v.key) || nat_lt v.number x.number

-- its number is not fixed, or it is below each carried prepare that has its key
abbrev pub fits : RoomyHistory → Version → Bool
fits h v = not (is_fixed h v.number) || list_all (is_under v) (cut_in h).carried

-- an undo is wrong, the first one; or each is right
abbrev pub IsOverCause : RoomyHistory → Bad → Type 0
IsOverCause h (bad.Illegal number) = IsFirstWrong h number
IsOverCause h bad.Uncovered = RestoreUpTo h (length h.entries)
IsOverCause h other = ⊥
