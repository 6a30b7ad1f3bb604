-- Steps that leave the actor's own participant as it was: what they leave of notes, and all parts where the bound, words or a
-- set of prepared transactions change.
use Rattle.std.proofs.Common.{◌≡◌, ◌≢◌, ℕ, true, false, not, List, length, map, set, refl, sym, subst, ◌∙◌, Some, ◌⊎◌, inl, true≢false, inr}
use mathlib.Core.Option.{some, some-injective}
use lib.ListN.{get_elem?}
use Rattle.wp_model.specs.PreparedSets.{PreparedSets}
use Rattle.wp_core.specs.Lists.{IsIn}
use Rattle.wp_core.specs.Turns.{Turn, Holds, prepared_turn}
use Rattle.wp_core.specs.States.{prepared}
use Rattle.wp_core.specs.Views.{Fact}
use Rattle.wp_core.specs.World.{Participant, Actor, World}
use Rattle.wp_core.specs.Steps.{Step}
use Rattle.wp_core.specs.Changes.{with_actor, held_with, change}
use Rattle.wp_core.specs.Notes.{forgets, ends}
use Rattle.wp_core.specs.Sound.History.{IsHistory}
use Rattle.wp_core.specs.Sound.Actors.{AreIdle, held_of}
use Rattle.wp_core.specs.Sound.Prepared.{IsCache, AreDecided, AreUndecided, AreDelayed, AreFlags}
use Rattle.wp_core.specs.Sound.Reader.{AreReaders, reader_of}
use Rattle.wp_core.specs.Sound.Views.{IsSo, AreNoted, noter_of, guarded_by}
use Rattle.wp_core.specs.IsSound.{IsSound}
use Rattle.wp_core.proofs.Frames.{at_map}
use Rattle.wp_core.proofs.AllParts.{SoIn, views_of, pasts_of, readers_kept, turns_still, turns_changed, notes_stay, idle_set, quiet_step}
use Rattle.wp_core.proofs.Gives.{not_theirs}

-- who holds a turn is live
pub holder_lives : (w : World) (by : ℕ) (a : Actor) (turn : Turn) → get_elem? w.actors by ≡ some a → Holds w.holders turn by → IsSound w → a.live ≡ false → ⊥
holder_lives w by a turn at holds s dead =
    let have = s.have turn by holds in
    let same : have.0 ≡ a.held = some-injective have.0 a.held (sym have.1 ∙ at_map held_of w.actors by a at) in
    let i = s.idle by a at dead in
    subst (IsIn have.2) (same ∙ i.held) have.3

pub idle_after : (w : World) (by : ℕ) (a b : Actor) (turn : Turn) → get_elem? w.actors by ≡ some a → Holds w.holders turn by → IsSound w → b.live ≡ a.live → AreIdle (set w.actors by b)
idle_after w by a b turn at holds s same = idle_set w by a b at (λ dead. absurd (holder_lives w by a turn at holds s (sym same ∙ dead))) s

-- what a step leaves so of the notes of its actor that it does not end, and of those of others
pub record NotesStay (w : World) (by : ℕ) (step : Step) (so : Participant → Fact → Type 0) : Type 0 where
  pub mine : (p : Participant) (fact : Fact) → not (ends w.writes.history (length w.cache) step fact) ≡ true → SoIn w p fact → so p fact
  pub others : (j : ℕ) (p : Participant) (fact : Fact) → j ≢ by → ((turn : Turn) → guarded_by fact ≡ Some turn → Holds w.holders turn j) → SoIn w p fact → so p fact

-- the step does not end the fact, or the turn does not guard it
abbrev pub Stays : World → Step → Turn → Fact → Type 0
Stays w step turn fact = (not (ends w.writes.history (length w.cache) step fact) ≡ true) ⊎ (guarded_by fact ≡ Some turn → ⊥)

-- it does not where the step ends the fact and the turn guards it
pub stays_not : (turn : Turn) → (false ≡ true) ⊎ (Some turn ≡ Some turn → ⊥) → ⊥
stays_not turn (inl e) = true≢false (sym e)
stays_not turn (inr ne) = ne refl

-- a step of who holds the turn: what it leaves so of what stays
pub notes_by : (w : World) (by : ℕ) (step : Step) (turn : Turn) (so : Participant → Fact → Type 0) → Holds w.holders turn by → ((p : Participant) (fact : Fact) → Stays w step turn fact → SoIn w p fact → so p fact) → NotesStay w by step so
notes_by w by step turn so holds k = record {
  mine = λ p fact left is. k p fact (inl left) is;
  others = λ j p fact ne guard is. k p fact (inr (λ e. not_theirs w.holders turn by j holds ne (guard turn e))) is;
}

-- a step that leaves all that is noted
pub notes_all : (w : World) (by : ℕ) (step : Step) (so : Participant → Fact → Type 0) → ((p : Participant) (fact : Fact) → SoIn w p fact → so p fact) → NotesStay w by step so
notes_all w by step so k = record { mine = λ p fact left is. k p fact is; others = λ j p fact ne guard is. k p fact is }

pub noted_after : (w : World) (by : ℕ) (a b : Actor) (step : Step) (so : Participant → Fact → Type 0) → get_elem? w.actors by ≡ some a → b.participant ≡ a.participant → b.notes ≡ (forgets w.writes.history (length w.cache) step a).notes → NotesStay w by step so → IsSound w → AreNoted w.holders so (map noter_of (set w.actors by b))
noted_after w by a b step so at same notes k s =
    notes_stay w by a b at step w.holders so notes
    (λ fact left m. record { guarded = m.guarded; is_so = subst (λ (p : Participant). so p fact) (sym same) (k.mine a.participant fact left m.is_so) })
    (λ j x fact ne there m. record { guarded = m.guarded; is_so = k.others j x.0 fact ne m.guarded m.is_so }) s

-- ---- the bound and a set of prepared transactions change

pub bound_changes : (w : World) (by : ℕ) (a : Actor) (step : Step) (max : ℕ) (t : PreparedSets) → get_elem? w.actors by ≡ some a → Holds w.holders prepared_turn by → IsHistory w.opened w.writes max → AreDecided w.writes.history w.cache t.delayed_commits max w.snapshots
    → AreUndecided w.writes.history w.writes.pending t max → AreDelayed w.writes.history w.writes.pending t w.cache → AreFlags w.delayed_flag w.old_flag t w.snapshots w.holders.prepared w.holders.snapshots → AreReaders w.writes.history max w.cache t.delayed_commits w.snapshots (map reader_of w.actors)
    → NotesStay w by step (IsSo w.delayed_flag w.old_flag max w.cache w.writes t w.snapshots w.store w.locks w.installed) → IsSound w
    → IsSound (change (record w { max_evicted = max }) by (forgets w.writes.history (length w.cache) step a) (prepared t))
bound_changes w by a step max t at holds history decided undecided delayed flags readers notes s =
    let v : World = record w { max_evicted = max; prepared = t } in
    let c : Actor = forgets w.writes.history (length w.cache) step a in
    let b : Actor = record c { held = held_with c.held (prepared t) } in
    quiet_step w v by a b at refl (record { history = history; cache = s.cache; decided = decided; undecided = undecided; delayed = delayed; flags = flags; versions = s.versions; in_step = s.in_step; coupled = s.coupled; pending = s.pending })
    (views_of w s) s.locks (pasts_of w s) (turns_changed w by a b at (prepared t) holds refl s)
    (readers_kept w by a b at w.writes.history max w.cache t.delayed_commits w.snapshots refl (record { readers = readers; judged = s.judged }))
    (noted_after w by a b step (SoIn v) at refl refl notes s) (idle_after w by a b prepared_turn at holds s refl) s

-- the bound stays
pub prepared_changes : (w : World) (by : ℕ) (a : Actor) (step : Step) (t : PreparedSets) → get_elem? w.actors by ≡ some a → Holds w.holders prepared_turn by
    → AreDecided w.writes.history w.cache t.delayed_commits w.max_evicted w.snapshots → AreUndecided w.writes.history w.writes.pending t w.max_evicted → AreDelayed w.writes.history w.writes.pending t w.cache → AreFlags w.delayed_flag w.old_flag t w.snapshots w.holders.prepared w.holders.snapshots → AreReaders w.writes.history w.max_evicted w.cache t.delayed_commits w.snapshots (map reader_of w.actors)
    → NotesStay w by step (IsSo w.delayed_flag w.old_flag w.max_evicted w.cache w.writes t w.snapshots w.store w.locks w.installed) → IsSound w
    → IsSound (change w by (forgets w.writes.history (length w.cache) step a) (prepared t))
prepared_changes w by a step t at holds decided undecided delayed flags readers notes s = bound_changes w by a step w.max_evicted t at holds s.history decided undecided delayed flags readers notes s

-- ---- words change, and no state

pub words_change : (w : World) (by : ℕ) (a : Actor) (step : Step) (turn : Turn) (cache : List ℕ) (delayed_flag old_flag : ℕ) → get_elem? w.actors by ≡ some a → Holds w.holders turn by
    → IsCache w.writes.history w.writes.pending cache → AreDecided w.writes.history cache w.prepared.delayed_commits w.max_evicted w.snapshots → AreDelayed w.writes.history w.writes.pending w.prepared cache
    → AreFlags delayed_flag old_flag w.prepared w.snapshots w.holders.prepared w.holders.snapshots → AreReaders w.writes.history w.max_evicted cache w.prepared.delayed_commits w.snapshots (map reader_of w.actors)
    → NotesStay w by step (IsSo delayed_flag old_flag w.max_evicted cache w.writes w.prepared w.snapshots w.store w.locks w.installed) → IsSound w
    → IsSound (with_actor (record w { cache = cache; delayed_flag = delayed_flag; old_flag = old_flag }) by (forgets w.writes.history (length w.cache) step a))
words_change w by a step turn cache delayed_flag old_flag at holds cached decided delayed flags readers notes s =
    let v : World = record w { cache = cache; delayed_flag = delayed_flag; old_flag = old_flag } in
    let b : Actor = forgets w.writes.history (length w.cache) step a in
    quiet_step w v by a b at refl (record { history = s.history; cache = cached; decided = decided; undecided = s.undecided; delayed = delayed; flags = flags; versions = s.versions; in_step = s.in_step; coupled = s.coupled; pending = s.pending })
    (views_of w s) s.locks (pasts_of w s) (turns_still w by a b at refl s)
    (readers_kept w by a b at w.writes.history w.max_evicted cache w.prepared.delayed_commits w.snapshots refl (record { readers = readers; judged = s.judged }))
    (noted_after w by a b step (SoIn v) at refl refl notes s) (idle_after w by a b turn at holds s refl) s
