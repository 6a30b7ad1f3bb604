-- A seat that holds the tables turn.
use Rattle.std.specs.Prelude.{◌≡◌, Bool, true, false, [], Some}
use Rattle.wp_core.specs.Lists.{IsIn}
use Rattle.wp_core.specs.States.{Installed, installed}
use Rattle.wp_core.specs.Turns.{store_turn}
use Rattle.wp_core.specs.Views.{Fact, tables_stay, nothing_flushed, frozen_stay}
use Rattle.wp_parts.specs.VersionSet.{VersionSetState}
use Rattle.wp_parts.specs.Parts.{set_first}
use Rattle.wp_shared.specs.Seats.{SharedState, SeatState}
use Rattle.wp_shared.specs.Turns.{comes_last, HoldsTurn}

-- the fact is that no flushed version is in memory
abbrev pub is_of_flushed : Fact → Bool
is_of_flushed nothing_flushed = true
is_of_flushed other = false

-- that, or which versions are in tables, or frozen
abbrev pub is_of_tables : Fact → Bool
is_of_tables (tables_stay versions floor) = true
is_of_tables (frozen_stay n versions) = true
is_of_tables other = is_of_flushed other

-- A live seat of the store has these tables, and no turn that comes behind that of the versions that readers look at, nor that one.
pub record HoldsTables {D : Type 0} (z : SharedState D) (s : SeatState) (e : Installed) : Type 0 where
  pub same_table : s.table ≡ z.table
  pub live : s.knows.live ≡ true
  pub tables : IsIn (installed e) s.knows.held
  pub order : comes_last store_turn s.knows.held ≡ true

-- The seat holds the tables turn alone, with these tables, which are the store's.
pub record HoldsEdits {D : Type 0} (z : SharedState D) (s : SeatState) (e : VersionSetState) : Type 0 where
  pub turn : HoldsTurn z s (installed e.state) [] []
  pub of_store : set_first z.first ≡ Some e.first
