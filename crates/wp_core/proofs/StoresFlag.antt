-- Storing a flag keeps a world sound.
use Rattle.std.proofs.Common.{◌≡◌, ℕ, length}
use mathlib.Core.Option.{some}
use lib.ListN.{get_elem?}
use Rattle.wp_core.specs.Turns.{prepared_turn, snapshots_turn}
use Rattle.wp_core.specs.Views.{Fact, delayed_flag_stays, old_flag_stays}
use Rattle.wp_core.specs.World.{Participant, Actor, World}
use Rattle.wp_core.specs.Steps.{store_delayed_flag, store_old_flag}
use Rattle.wp_core.specs.Effects.{done}
use Rattle.wp_core.specs.Needs.{Needs}
use Rattle.wp_core.specs.Notes.{forgets}
use Rattle.wp_core.specs.Sound.Views.{IsSo}
use Rattle.wp_core.specs.IsSound.{IsSound}
use Rattle.wp_core.proofs.Quiet.{Stays, stays_not, notes_by, words_change}
use Rattle.wp_core.proofs.AllParts.{SoIn}
use Rattle.wp_core.proofs.Gives.{not_free}

-- ---- the delayed flag

so_delayed : (w : World) (value : ℕ) (p : Participant) (fact : Fact) → Stays w (store_delayed_flag value) prepared_turn fact → SoIn w p fact → IsSo value w.old_flag w.max_evicted w.cache w.writes w.prepared w.snapshots w.store w.locks w.installed p fact
so_delayed w value p (delayed_flag_stays v) stays k = absurd (stays_not prepared_turn stays)
so_delayed w value p fact stays k = k

pub stores_delayed_flag : (w : World) (by : ℕ) (a : Actor) (value : ℕ) → get_elem? w.actors by ≡ some a → Needs w by a (store_delayed_flag value) → IsSound w → IsSound (done w by (forgets w.writes.history (length w.cache) (store_delayed_flag value) a) (store_delayed_flag value))
stores_delayed_flag w by a value at n s =
    words_change w by a (store_delayed_flag value) prepared_turn w.cache value w.old_flag at n.0 s.cache s.decided s.delayed
    (record { none_delayed = n.1; none_kept = s.flags.none_kept; delayed_free = λ free. absurd (not_free w.holders prepared_turn by n.0 free); old_free = s.flags.old_free })
    s.readers (notes_by w by (store_delayed_flag value) prepared_turn _ n.0 (so_delayed w value)) s

-- ---- the old-map flag

so_old : (w : World) (value : ℕ) (p : Participant) (fact : Fact) → Stays w (store_old_flag value) snapshots_turn fact → SoIn w p fact → IsSo w.delayed_flag value w.max_evicted w.cache w.writes w.prepared w.snapshots w.store w.locks w.installed p fact
so_old w value p (old_flag_stays v) stays k = absurd (stays_not snapshots_turn stays)
so_old w value p fact stays k = k

pub stores_old_flag : (w : World) (by : ℕ) (a : Actor) (value : ℕ) → get_elem? w.actors by ≡ some a → Needs w by a (store_old_flag value) → IsSound w → IsSound (done w by (forgets w.writes.history (length w.cache) (store_old_flag value) a) (store_old_flag value))
stores_old_flag w by a value at n s =
    words_change w by a (store_old_flag value) snapshots_turn w.cache w.delayed_flag value at n.0 s.cache s.decided s.delayed
    (record { none_delayed = s.flags.none_delayed; none_kept = n.1; delayed_free = s.flags.delayed_free; old_free = λ free. absurd (not_free w.holders snapshots_turn by n.0 free) })
    s.readers (notes_by w by (store_old_flag value) snapshots_turn _ n.0 (so_old w value)) s
