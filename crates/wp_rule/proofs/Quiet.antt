-- Steps that change no word leave the words, the turns, the free states and the other actors.
use Rattle.std.proofs.Common.{◌≡◌, ◌≢◌, ℕ, zero, suc, List, [], ◌∷◌, length, set, refl, sym, subst, ap, ◌∙◌, Some, None, option_map}
use mathlib.Core.Option.{some}
use Rattle.wp_judge.specs.declared.observed.Load.{Load}
use Rattle.wp_judge.specs.declared.observed.Load.TheVariants.{FirstWord, FirstMax, DelayedFlag, InPrepared, SecondWord, SecondMax, OldFlag, IsOldCommit}
use lib.ListN.{get_elem?}
use Rattle.atomic_table.proofs.Lists.{set_again}
use Rattle.wp_core.specs.Turns.{Turn, write_turn, prepared_turn, snapshots_turn, store_turn, locks_turn, tables_turn, Holds, turn_holder}
use Rattle.wp_core.specs.States.{Content, writes, prepared, snapshots, store, locks, installed, turn_of}
use Rattle.wp_core.specs.World.{Actor, World, content_of, with_content}
use Rattle.wp_core.specs.Changes.{with_actor, turn_index, loaded}
use Rattle.wp_core.specs.Steps.{Step, load_published, register, begin_reading, load, end_reading, make_pending, log_pending, close_log, find_log_closed, find_base, drop_pending, write_segment, use_segment, stop_log, add_prepared, take_pending_prepared, add_delayed_commit, delay_pending, take_out, register_again, release, add_old_commit, add_versions, take_versions, move_versions, replace_versions, install, renew, halt, find_edit, claim_name, take_name, leave_name, free_transaction, lock_key, free_key, lock_direct, free_direct, find_holder, tell, hear, set_batch, note, set_client, store_published, store_max_evicted, store_word, store_delayed_flag, store_old_flag, take_turn, give_turn, make_note, make_seat, learn, join_seat}
use Rattle.wp_core.specs.Needs.{Needs}
use Rattle.wp_core.specs.Notes.{forgets}
use Rattle.wp_core.specs.Runs.{Reaches, goes_on}
use Rattle.wp_core.proofs.Changed.{changed_else}
use Rattle.wp_core.proofs.Frames.{here}
use Rattle.wp_core.proofs.Gives.{same_turn}
use Rattle.wp_rule.specs.Words.{Place, IsAt, words_of}
use Rattle.wp_rule.specs.Moves.{IsQuiet, AreQuiet, AreMet, world_after_step, actor_after_step, world_after, actor_after, MayMake, Leave}

-- ---- what a world has behind its turns, where other parts change

pub same_contents : (w v : World) → v.writes ≡ w.writes → v.prepared ≡ w.prepared → v.snapshots ≡ w.snapshots → v.store ≡ w.store → v.locks ≡ w.locks → v.installed ≡ w.installed → (turn : Turn) → content_of v turn ≡ content_of w turn
same_contents w v a b c d e f write_turn = ap writes a
same_contents w v a b c d e f prepared_turn = ap prepared b
same_contents w v a b c d e f snapshots_turn = ap snapshots c
same_contents w v a b c d e f store_turn = ap store d
same_contents w v a b c d e f locks_turn = ap locks e
same_contents w v a b c d e f tables_turn = ap installed f

-- a turn that is free is another than that of a state that is held
pub free_else : (w : World) (by : ℕ) (c : Content) (turn : Turn) → Holds w.holders (turn_of c) by → turn_holder w.holders turn ≡ None → turn_index turn ≢ turn_index (turn_of c)
free_else w by c turn holds free e = let q : Some by ≡ None = sym holds ∙ (sym (ap (turn_holder w.holders) (same_turn (turn_of c) turn e)) ∙ free) in absurd (cc)

pub others_stay : (w : World) (by : ℕ) (b : Actor) (c : Content) (turn : Turn) → Holds w.holders (turn_of c) by → turn_holder w.holders turn ≡ None → content_of (with_actor (with_content w c) by b) turn ≡ content_of w turn
others_stay w by b c turn holds free = same_contents (with_content w c) (with_actor (with_content w c) by b) refl refl refl refl refl refl turn ∙ changed_else w c turn (free_else w by c turn holds free)

-- ---- one step

alone : (w : World) (by : ℕ) (b : Actor) → Leave by w (words_of w) (with_actor w by b) b
alone w by b = record { words_are = refl; opened = refl; first_edit = refl; cells = refl; holders = refl; contents = λ turn free. same_contents w (with_actor w by b) refl refl refl refl refl refl turn; actors = refl }

changed : (w : World) (by : ℕ) (b : Actor) (c : Content) → Holds w.holders (turn_of c) by → words_of (with_content w c) ≡ words_of w → Leave by w (words_of w) (with_actor (with_content w c) by b) b
changed w by b (writes t) holds same = record { words_are = same; opened = refl; first_edit = refl; cells = refl; holders = refl; contents = λ turn free. others_stay w by b (writes t) turn holds free; actors = refl }
changed w by b (prepared t) holds same = record { words_are = refl; opened = refl; first_edit = refl; cells = refl; holders = refl; contents = λ turn free. others_stay w by b (prepared t) turn holds free; actors = refl }
changed w by b (snapshots t) holds same = record { words_are = refl; opened = refl; first_edit = refl; cells = refl; holders = refl; contents = λ turn free. others_stay w by b (snapshots t) turn holds free; actors = refl }
changed w by b (store t) holds same = record { words_are = refl; opened = refl; first_edit = refl; cells = refl; holders = refl; contents = λ turn free. others_stay w by b (store t) turn holds free; actors = refl }
changed w by b (locks t) holds same = record { words_are = refl; opened = refl; first_edit = refl; cells = refl; holders = refl; contents = λ turn free. others_stay w by b (locks t) turn holds free; actors = refl }
changed w by b (installed t) holds same = record { words_are = refl; opened = refl; first_edit = refl; cells = refl; holders = refl; contents = λ turn free. others_stay w by b (installed t) turn holds free; actors = refl }

-- what a reader loads depends on no actor
loads_same : (w : World) (actors : List Actor) (which : Load) → loaded w which ≡ loaded (record w { actors = actors }) which
loads_same w actors FirstWord = refl
loads_same w actors FirstMax = refl
loads_same w actors DelayedFlag = refl
loads_same w actors InPrepared = refl
loads_same w actors SecondWord = refl
loads_same w actors SecondMax = refl
loads_same w actors OldFlag = refl
loads_same w actors IsOldCommit = refl

loads_alone : (w : World) (a : Actor) (which : Load)
    → record (forgets w.writes.history (length w.cache) (load which) a) { reading = option_map (loaded w which) a.reading } ≡ actor_after_step w a (load which)
loads_alone w a which = ap (λ f. record (forgets w.writes.history (length w.cache) (load which) a) { reading = option_map f a.reading }) (loads_same w (a ∷ []) which)

pub quiet_step : (w : World) (by : ℕ) (a : Actor) (step : Step) → IsQuiet step → Needs w by a step → Leave by w (words_of w) (world_after_step w by a step) (actor_after_step w a step)
quiet_step w by a load_published quiet needs = alone w by _
quiet_step w by a (register smallest) quiet needs = changed w by _ (snapshots _) needs.0 refl
quiet_step w by a (begin_reading bits p snapshot) quiet needs = alone w by _
quiet_step w by a (load which) quiet needs = subst (Leave by w (words_of w) (world_after_step w by a (load which))) (loads_alone w a which) (alone w by _)
quiet_step w by a end_reading quiet needs = alone w by _
quiet_step w by a (make_pending entries) quiet needs = changed w by _ (writes _) needs.0 refl
quiet_step w by a log_pending quiet needs = changed w by _ (writes _) needs.0 refl
quiet_step w by a close_log quiet needs = changed w by _ (writes _) needs.0 refl
quiet_step w by a find_log_closed quiet needs = alone w by _
quiet_step w by a find_base quiet needs = alone w by _
quiet_step w by a drop_pending quiet needs = changed w by _ (writes _) needs.0 refl
quiet_step w by a (write_segment place) quiet needs = changed w by _ (writes _) needs.0 refl
quiet_step w by a use_segment quiet needs = changed w by _ (writes _) needs.0 refl
quiet_step w by a stop_log quiet needs = changed w by _ (writes _) needs.0 refl
quiet_step w by a add_prepared quiet needs = changed w by _ (prepared _) needs.1 refl
quiet_step w by a take_pending_prepared quiet needs = changed w by _ (prepared _) needs.1 refl
quiet_step w by a (add_delayed_commit pair) quiet needs = changed w by _ (prepared _) needs.0 refl
quiet_step w by a (delay_pending pair) quiet needs = changed w by _ (prepared _) needs.1 refl
quiet_step w by a (take_out p) quiet needs = changed w by _ (prepared _) needs.0 refl
quiet_step w by a (register_again s) quiet needs = changed w by _ (snapshots _) needs.0 refl
quiet_step w by a (release front r back) quiet needs = changed w by _ (snapshots _) needs.0 refl
quiet_step w by a (add_old_commit s p) quiet needs = changed w by _ (snapshots _) needs.0 refl
quiet_step w by a (add_versions memory) quiet needs = changed w by _ (store _) needs.1 refl
quiet_step w by a (take_versions memory) quiet needs = changed w by _ (store _) needs.1 refl
quiet_step w by a (move_versions memory tables) quiet needs = changed w by _ (store _) needs.0 refl
quiet_step w by a (replace_versions tables floor) quiet needs = changed w by _ (store _) needs.0 refl
quiet_step w by a (install edit compacts) quiet needs = changed w by _ (installed _) needs.0 refl
quiet_step w by a (renew edit) quiet needs = changed w by _ (installed _) needs.0 refl
quiet_step w by a (halt edit) quiet needs = changed w by _ (installed _) needs.0 refl
quiet_step w by a find_edit quiet needs = alone w by _
quiet_step w by a (claim_name name) quiet needs = changed w by _ (locks _) needs.0 refl
quiet_step w by a (take_name name p) quiet needs = changed w by _ (locks _) needs.0 refl
quiet_step w by a (leave_name name) quiet needs = changed w by _ (locks _) needs.0 refl
quiet_step w by a (free_transaction name) quiet needs = changed w by _ (locks _) needs.0 refl
quiet_step w by a (lock_key name t key) quiet needs = changed w by _ (locks _) needs.0 refl
quiet_step w by a (free_key name t key) quiet needs = changed w by _ (locks _) needs.0 refl
quiet_step w by a (lock_direct key) quiet needs = changed w by _ (locks _) needs.0 refl
quiet_step w by a (free_direct key) quiet needs = changed w by _ (locks _) needs.0 refl
quiet_step w by a (find_holder key holder account) quiet needs = alone w by _
quiet_step w by a (tell label) quiet needs = changed w by _ (locks _) needs refl
quiet_step w by a (hear label n) quiet needs = alone w by _
quiet_step w by a (set_batch name t batch) quiet needs = alone w by _
quiet_step w by a (note fact) quiet needs = alone w by _
quiet_step w by a (set_client client) quiet needs = alone w by _
quiet_step w by a (store_published entry others) quiet needs = absurd quiet
quiet_step w by a (store_max_evicted m) quiet needs = absurd quiet
quiet_step w by a (store_word pair) quiet needs = absurd quiet
quiet_step w by a (store_delayed_flag value) quiet needs = absurd quiet
quiet_step w by a (store_old_flag value) quiet needs = absurd quiet
quiet_step w by a (take_turn turn) quiet needs = absurd quiet
quiet_step w by a (give_turn turn) quiet needs = absurd quiet
quiet_step w by a make_note quiet needs = absurd quiet
quiet_step w by a make_seat quiet needs = absurd quiet
quiet_step w by a (learn other o) quiet needs = absurd quiet
quiet_step w by a (join_seat other o) quiet needs = absurd quiet

-- ---- steps one after another

pub set_twice : {X : Type 0} (xs : List X) (i : ℕ) (x y : X) → set (set xs i x) i y ≡ set xs i y
set_twice [] i x y = refl
set_twice (z ∷ zs) zero x y = refl
set_twice (z ∷ zs) (suc i) x y = ap (λ l. z ∷ l) (set_twice zs i x y)

stays : (w : World) (by : ℕ) (a : Actor) → get_elem? w.actors by ≡ some a → Leave by w (words_of w) w a
stays w by a at = record { words_are = refl; opened = refl; first_edit = refl; cells = refl; holders = refl; contents = λ turn free. refl; actors = sym (set_again w.actors by a at) }

-- steps that leave the words, after others
pub both : (w next last : World) (by : ℕ) (b c : Actor) (words : List ℕ) → Leave by w words next b → Leave by next (words_of next) last c → Leave by w words last c
both w next last by b c words l k = record {
  words_are = k.words_are ∙ l.words_are;
  opened = k.opened ∙ l.opened;
  first_edit = k.first_edit ∙ l.first_edit;
  cells = k.cells ∙ l.cells;
  holders = k.holders ∙ l.holders;
  contents = λ turn free. k.contents turn (ap (λ h. turn_holder h turn) l.holders ∙ free) ∙ l.contents turn free;
  actors = k.actors ∙ (ap (λ (actors : List Actor). set actors by c) l.actors ∙ set_twice w.actors by b c);
}

pub there_after : (w last : World) (by : ℕ) (a b : Actor) (words : List ℕ) → get_elem? w.actors by ≡ some a → Leave by w words last b → get_elem? last.actors by ≡ some b
there_after w last by a b words at l = subst (λ (actors : List Actor). get_elem? actors by ≡ some b) (sym l.actors) (here w.actors by a b at)

pub reached_next : (w : World) (by : ℕ) (a : Actor) (step : Step) → get_elem? w.actors by ≡ some a → Reaches w → Needs w by a step → Reaches (world_after_step w by a step)
reached_next w by a step at reached needs = (reached.0, reached.1, goes_on by step reached.2 (a, at, needs, refl))

pub quiet_steps : (steps : List Step) (w : World) (by : ℕ) (a : Actor) → get_elem? w.actors by ≡ some a → AreQuiet steps → AreMet steps w by a → Leave by w (words_of w) (world_after steps w by a) (actor_after steps w by a)
quiet_steps [] w by a at quiet met = stays w by a at
quiet_steps (step ∷ steps) w by a at quiet met =
    let next : World = world_after_step w by a step in let b : Actor = actor_after_step w a step in let l = quiet_step w by a step quiet.0 met.0 in
    both w next (world_after steps next by b) by b (actor_after steps next by b) (words_of w) l (quiet_steps steps next by b (there_after w next by a b (words_of w) at l) quiet.1 met.1)

pub quiet_reached : (steps : List Step) (w : World) (by : ℕ) (a : Actor) → get_elem? w.actors by ≡ some a → Reaches w → AreQuiet steps → AreMet steps w by a → Reaches (world_after steps w by a)
quiet_reached [] w by a at reached quiet met = reached
quiet_reached (step ∷ steps) w by a at reached quiet met =
    let next : World = world_after_step w by a step in let b : Actor = actor_after_step w a step in
    quiet_reached steps next by b (there_after w next by a b (words_of w) at (quiet_step w by a step quiet.0 met.0)) (reached_next w by a step at reached met.0) quiet.1 met.1

-- ---- where the seat is then

pub at_next : (p : Place) (a : Actor) (w : World) (step : Step) → IsAt p a w → IsQuiet step → Needs w p.by a step → IsAt p (actor_after_step w a step) (world_after_step w p.by a step)
at_next p a w step k quiet needs =
    let l = quiet_step w p.by a step quiet needs in record {
      reached = reached_next w p.by a step k.there k.reached needs;
      opened = l.opened ∙ k.opened;
      cells = l.cells ∙ k.cells;
      first_edit = k.first_edit ∙ ap Some (sym l.first_edit);
      there = there_after w (world_after_step w p.by a step) p.by a (actor_after_step w a step) (words_of w) k.there l;
    }

-- a step, and then steps that its actor may make
pub followed : (p : Place) (a : Actor) (first : World → Step) (others : World → World → List Step) → MayMake p a (λ w. first w ∷ [])
    → ((w : World) → IsAt p a w → MayMake p (actor_after_step w a (first w)) (others w)) → MayMake p a (λ w. first w ∷ others w (world_after_step w p.by a (first w)))
followed p a first others one more w k =
    let f = one w k in let m = more w k (world_after_step w p.by a (first w)) (at_next p a w (first w) k f.0.0 f.1.0) in ((f.0.0, m.0), (f.1.0, m.1))
