-- A flush and a compaction, of the versions in memory and in tables, keep a world sound.
use Rattle.std.proofs.Common.{◌≡◌, ℕ, suc, List, length, ◌∙◌}
use mathlib.Core.Option.{some}
use lib.ListN.{get_elem?}
use Rattle.wp_model.specs.declared.version.Version.{Version}
use Rattle.wp_model.specs.Versions.{version_at}
use Rattle.wp_core.specs.States.{StoreState}
use Rattle.wp_core.specs.Turns.{tables_turn}
use Rattle.wp_core.specs.Views.{Fact, versions_in_memory, versions_nowhere, tables_stay, nothing_flushed, frozen_stay}
use Rattle.wp_core.specs.World.{Participant, Actor, World}
use Rattle.wp_core.specs.Steps.{move_versions, replace_versions}
use Rattle.wp_core.specs.Effects.{done}
use Rattle.wp_core.specs.Needs.{Needs}
use Rattle.wp_core.specs.Notes.{forgets}
use Rattle.wp_core.specs.IsSound.{IsSound}
use Rattle.wp_core.proofs.PendingVersions.{SoStored, store_changes}
use Rattle.wp_core.proofs.AllParts.{SoIn}
use Rattle.wp_core.proofs.Gives.{not_free}
use Rattle.wp_core.proofs.Quiet.{Stays, stays_not, notes_by}

-- ---- a flush

module _ (w : World) (memory tables : List Version) (pending_same : (key : List ℕ) → version_at memory key (suc (length w.writes.history)) ≡ version_at w.store.memory key (suc (length w.writes.history))) where
  abbrev flushed_store : StoreState
  flushed_store = record w.store { memory = memory; tables = tables }

  so_moved : (p : Participant) (fact : Fact) → Stays w (move_versions memory tables) tables_turn fact → SoIn w p fact → SoStored w flushed_store p fact
  so_moved p versions_in_memory stays k = λ key value e. pending_same key ∙ k key value e
  so_moved p versions_nowhere stays k = λ key. pending_same key ∙ k key
  so_moved p (tables_stay versions floor) stays k = absurd (stays_not tables_turn stays)
  so_moved p nothing_flushed stays k = absurd (stays_not tables_turn stays)
  so_moved p (frozen_stay n versions) stays k = absurd (stays_not tables_turn stays)
  so_moved p fact stays k = k

pub moves_versions : (w : World) (by : ℕ) (a : Actor) (memory tables : List Version) → get_elem? w.actors by ≡ some a → Needs w by a (move_versions memory tables) → IsSound w
    → IsSound (done w by (forgets w.writes.history (length w.cache) (move_versions memory tables) a) (move_versions memory tables))
moves_versions w by a memory tables at n s =
    store_changes w by a (move_versions memory tables) (record w.store { memory = memory; tables = tables }) at n.0 n.3 (λ free. absurd (not_free w.holders tables_turn by n.1 free))
    (notes_by w by (move_versions memory tables) tables_turn _ n.1 (so_moved w memory tables n.2.1)) s

-- ---- a compaction

so_replaced : (w : World) (tables : List Version) (floor : ℕ) (p : Participant) (fact : Fact) → Stays w (replace_versions tables floor) tables_turn fact → SoIn w p fact → SoStored w (record w.store { tables = tables; floor = floor }) p fact
so_replaced w tables floor p (tables_stay versions n) stays k = absurd (stays_not tables_turn stays)
so_replaced w tables floor p fact stays k = k

pub replaces_versions : (w : World) (by : ℕ) (a : Actor) (tables : List Version) (floor : ℕ) → get_elem? w.actors by ≡ some a → Needs w by a (replace_versions tables floor) → IsSound w
    → IsSound (done w by (forgets w.writes.history (length w.cache) (replace_versions tables floor) a) (replace_versions tables floor))
replaces_versions w by a tables floor at n s =
    store_changes w by a (replace_versions tables floor) (record w.store { tables = tables; floor = floor }) at n.0 n.3 (λ free. absurd (not_free w.holders tables_turn by n.1 free))
    (notes_by w by (replace_versions tables floor) tables_turn _ n.1 (so_replaced w tables floor)) s
