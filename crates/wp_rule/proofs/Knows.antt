-- What a seat knows of the world behind the table.
use Rattle.std.proofs.Common.{◌≡◌, ⊎_elim, ℕ, List, [], ◌∷◌, Option, unwrap_or, refl, sym, ap, ◌∙◌, subst}
use Rattle.wp_model.specs.Flushed.{InstalledEdit}
use Rattle.wp_model.specs.LockState.{LockState}
use Rattle.wp_model.specs.PreparedSets.{PreparedSets}
use Rattle.wp_model.specs.Snapshots.{Snapshots}
use Rattle.wp_core.specs.Lists.{IsIn}
use Rattle.wp_core.specs.Turns.{Turn, Holders, Holds}
use Rattle.wp_core.specs.States.{WriteState, StoreState, Installed, Content, writes, prepared, snapshots, store, locks, installed, turn_of}
use Rattle.wp_core.specs.Views.{Fact}
use Rattle.wp_core.specs.World.{Actor, World, content_of}
use Rattle.wp_core.specs.Sound.Actors.{StartsWith, seen_of, learned_of, held_of, AreHeld}
use Rattle.wp_core.specs.Sound.Views.{noter_of, IsNoted, IsSo}
use Rattle.wp_core.specs.IsSound.{IsSound}
use Rattle.wp_core.proofs.AllParticipants.{mine}
use Rattle.wp_core.proofs.EachStep.{reached_is_sound}
use Rattle.wp_core.proofs.Frames.{at_map}
use Rattle.wp_rule.specs.Words.{Place, IsAt}
use Rattle.wp_rule.specs.Knows.{IsStateOf}
use Rattle.wp_rule.specs.Shows.{WasLast}

pub at_sound : (p : Place) (a : Actor) (w : World) → IsAt p a w → IsSound w
at_sound p a w k = reached_is_sound w k.reached

-- as words were made there was one last edit
pub one_was_first : {S : Type 0} (content : S → Option Content) (first : List S) (one other : InstalledEdit) → WasLast content first one → WasLast content first other → one ≡ other
one_was_first content first one other is was = ap (λ (edit : Option InstalledEdit). unwrap_or edit one) (sym is ∙ was)

held_among : (holders : Holders) (contents : Turn → Content) (j : ℕ) (held : List Content) (c : Content) → IsIn c held → AreHeld holders contents j held → Holds holders (turn_of c) j × (contents (turn_of c) ≡ c)
held_among holders contents j [] c there k = absurd there
held_among holders contents j (d ∷ held) c there k =
    ⊎_elim (λ (e : d ≡ c). subst (λ (x : Content). Holds holders (turn_of x) j × (contents (turn_of x) ≡ x)) e (k.0, k.1)) (λ (other : IsIn c held). held_among holders contents j held c other k.3) there

-- a state that the view has is the world's, and its turn is the seat's
pub held_is : (p : Place) (a : Actor) (w : World) (c : Content) → IsAt p a w → IsIn c a.held → Holds w.holders (turn_of c) p.by × (content_of w (turn_of c) ≡ c)
held_is p a w c k there = held_among w.holders (content_of w) p.by a.held c there ((at_sound p a w k).held p.by a.held (at_map held_of w.actors p.by a k.there))

-- ---- which state it is

abbrev writes_in : WriteState → Content → WriteState
writes_in t (writes d) = d
writes_in t other = t

abbrev prepared_in : PreparedSets → Content → PreparedSets
prepared_in t (prepared d) = d
prepared_in t other = t

abbrev snapshots_in : Snapshots → Content → Snapshots
snapshots_in m (snapshots d) = d
snapshots_in m other = m

abbrev store_in : StoreState → Content → StoreState
store_in t (store d) = d
store_in t other = t

abbrev locks_in : LockState → Content → LockState
locks_in t (locks d) = d
locks_in t other = t

abbrev installed_in : Installed → Content → Installed
installed_in e (installed d) = d
installed_in e other = e

pub is_state : (w : World) (table : Content) → content_of w (turn_of table) ≡ table → IsStateOf w table
is_state w (writes t) e = ap (writes_in t) e
is_state w (prepared t) e = ap (prepared_in t) e
is_state w (snapshots m) e = ap (snapshots_in m) e
is_state w (store t) e = ap (store_in t) e
is_state w (locks t) e = ap (locks_in t) e
is_state w (installed d) e = ap (installed_in d) e

-- ---- what was seen, learned and noted

-- what was seen, and what was learned and not yet seen, begins the history
pub seen_is : (p : Place) (a : Actor) (w : World) → IsAt p a w → StartsWith w.writes.history a.participant.seen
seen_is p a w k = (at_sound p a w k).seen p.by 0 a.participant.seen (mine seen_of w.actors p.by a a k.there refl)

pub learned_is : (p : Place) (a : Actor) (w : World) → IsAt p a w → StartsWith w.writes.history a.learned
learned_is p a w k = (at_sound p a w k).learned p.by a.learned (at_map learned_of w.actors p.by a k.there)

-- what was noted is so
pub noted_is : (p : Place) (a : Actor) (w : World) (fact : Fact) → IsAt p a w → IsIn fact a.notes
    → IsNoted w.holders (IsSo w.delayed_flag w.old_flag w.max_evicted w.cache w.writes w.prepared w.snapshots w.store w.locks w.installed) p.by (noter_of a) fact
noted_is p a w fact k there = (at_sound p a w k).noted p.by (noter_of a) (at_map noter_of w.actors p.by a k.there) fact there
