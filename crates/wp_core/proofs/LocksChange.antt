-- A step of who holds the locks turn: it changes names, keys and labels, and of its own participant the transactions, the
-- direct write and the past.
use Rattle.std.proofs.Common.{◌≡◌, ◌≢◌, ℕ, true, not, List, ◌∷◌, length, map, set, refl, ap, subst, is_some, ◌++◌, [], ◌⊎◌, Some, ◌∙◌, sym}
use mathlib.Core.Option.{some}
use Rattle.std.specs.FinMap as finite
use lib.ListN.{get_elem?}
use Rattle.wp_model.specs.declared.holder.Holder.{Holder}
use Rattle.wp_model.specs.declared.holder.Holder.TheVariants.{Txn}
use Rattle.wp_model.specs.Batch.{key_cmp}
use Rattle.wp_model.specs.LockState.{LockState, Keys}
use Rattle.wp_core.specs.Turns.{Holds, locks_turn}
use Rattle.wp_core.specs.States.{Content, locks}
use Rattle.wp_core.specs.Views.{Fact, Event, claimed, took, locked}
use Rattle.wp_core.specs.World.{Actor, Participant, World, content_of, with_content}
use Rattle.wp_core.specs.World as world
use Rattle.wp_core.specs.Steps.{Step}
use Rattle.wp_core.specs.Changes.{change, held_with}
use Rattle.wp_core.specs.Notes.{forgets, ends}
use Rattle.wp_core.specs.Sound.Actors.{participants_of, IsParticipantAt}
use Rattle.wp_core.specs.Sound.Locks.{owner_of, AreLocked, Owner}
use Rattle.wp_core.specs.Sound.Pasts.{past_of, raised_to, IsBoard}
use Rattle.wp_core.specs.Sound.Views.{IsSo, AreKeysOf}
use Rattle.wp_core.specs.IsSound.{IsSound, participants}
use Rattle.wp_core.proofs.Quiet.{idle_after}
use Rattle.wp_core.proofs.KeepsRemembered.{noter_there}
use Rattle.wp_core.proofs.AllParts.{PastParts, SoIn, all_parts, tables_of, views_still, pasts_still, readers_still, turns_changed, notes_stay, led_still}
use Rattle.wp_core.proofs.Remembers.{IsQuiet, FindsNothing, TellsNothing, not_raised, holders_new, board_still, faults_more, edits_more}

-- what is noted, with this state in place of the world's
abbrev pub SoWith : World → LockState → Participant → Fact → Type 0
SoWith w t = IsSo w.delayed_flag w.old_flag w.max_evicted w.cache w.writes w.prepared w.snapshots w.store t w.installed

-- the same keys are held for the transaction
pub keys_still : (held more : Keys) (n : List ℕ) (keys : List (List ℕ)) → ((k : List ℕ) → finite.get more k ≡ Some (Txn n) → finite.get held k ≡ Some (Txn n)) → ((k : List ℕ) → finite.get held k ≡ Some (Txn n) → finite.get more k ≡ Some (Txn n))
    → AreKeysOf held n keys → AreKeysOf more n keys
keys_still held more n keys were still k = record { among = λ c h. k.among c (were c h); are_held = λ c h. still c (k.are_held c h) }

module _ (w : World) (by : ℕ) (a : Actor) (step : Step) (p : Participant) (t : LockState) where
  -- the actor before it knows the state
  abbrev pub actor_then : Actor
  actor_then = record (forgets w.writes.history (length w.cache) step a) { participant = record a.participant { transactions = p.transactions; direct = p.direct; past = p.past } }

  abbrev pub actor_after : Actor
  actor_after = record actor_then { held = held_with actor_then.held (locks t) }

  abbrev pub actors_after : List Actor
  actors_after = set w.actors by actor_after

  abbrev pub owners_after : List (List Owner)
  owners_after = map (participants_of owner_of) actors_after

  pub record LocksParts : Type 0 where
    pub locks_part : AreLocked w.opened w.writes.history t owners_after
    pub pasts_part : PastParts w.opened w.writes t w.first_edit w.installed actors_after
    pub mine : (fact : Fact) → not (ends w.writes.history (length w.cache) step fact) ≡ true → SoIn w a.participant fact → SoWith w t (record a.participant { transactions = p.transactions; direct = p.direct; past = p.past }) fact
    pub others : (j : ℕ) (q : Participant) (fact : Fact) → j ≢ by → IsParticipantAt (participants owner_of w) j 0 (owner_of q) → SoIn w q fact → SoWith w t q fact

  module _ (at : get_elem? w.actors by ≡ some a) where
    pub locks_change : Holds w.holders locks_turn by → LocksParts → IsSound w → IsSound (change w by actor_then (locks t))
    locks_change holds k s =
        let b : Actor = actor_after in
        let e : Content = locks t in
        all_parts (with_content w e) actors_after (tables_of w s) (views_still w by a b at refl s) k.locks_part k.pasts_part (turns_changed w by a b at e holds refl s) (readers_still w by a b at refl s)
        (notes_stay w by a b at step w.holders (SoWith w t) refl (λ fact left m. record { guarded = m.guarded; is_so = k.mine fact left m.is_so }) (λ j x fact ne there m. record { guarded = m.guarded; is_so = k.others j x.0 fact ne (noter_there w j x there) m.is_so }) s)
        (led_still w by a b at refl s) (idle_after w by a b locks_turn at holds s refl)

    -- the pasts, where the actor remembers an event, and names and keys that were not before are that event's
    pub pasts_grown : (e : Event) → p.past ≡ a.participant.past ++ e ∷ [] → IsQuiet e → FindsNothing e
        → ((name : List ℕ) → is_some (finite.get t.names name) ≡ true → ((e ≡ claimed name) ⊎ (e ≡ took name)) ⊎ (is_some (finite.get w.locks.names name) ≡ true))
        → ((key : List ℕ) (holder : Holder) → finite.get t.keys key ≡ Some holder → (e ≡ locked key holder) ⊎ (finite.get w.locks.keys key ≡ Some holder))
        → IsBoard (world.published w) t (map (participants_of past_of) actors_after) → IsSound w → PastParts w.opened w.writes t w.first_edit w.installed actors_after
    pasts_grown e grown quiet nothing names keys board s = record {
      holders = holders_new w.actors by a actor_after e at refl grown w.opened w.writes.history w.locks t nothing names keys s.holders;
      board = board;
      faults = faults_more w.actors by a actor_after e at refl grown w.writes w.installed.halted quiet.log quiet.tables (λ n q. absurd (subst FindsNothing q nothing)) (λ n base q. absurd (subst FindsNothing q nothing)) (λ edit q. absurd (not_raised e edit quiet.last edit.flushed (ap raised_to q))) s.faults;
      edits = edits_more w.actors by a actor_after e at refl grown w.first_edit w.installed quiet (λ n base tables due halted q. absurd (subst FindsNothing q nothing)) (λ n base q. absurd (subst FindsNothing q nothing)) (λ n base tables due q. absurd (subst FindsNothing q nothing)) s.edits;
    }

    -- the board hangs on the labels of a state alone
    same_board : (actors : List Actor) → t.labels ≡ w.locks.labels → IsBoard (world.published w) w.locks (map (participants_of past_of) actors) → IsBoard (world.published w) t (map (participants_of past_of) actors)
    same_board actors labels k = record {
      labels = λ label n h. ap (λ (z : finite.FinMap key_cmp ℕ). is_some (finite.get z label)) labels ∙ k.labels label n h;
      numbers = λ label n h. k.numbers label n (ap (λ (z : finite.FinMap key_cmp ℕ). finite.get z label) (sym labels) ∙ h);
      heard = k.heard;
      told = k.told;
    }

    pub board_grown : (e : Event) → p.past ≡ a.participant.past ++ e ∷ [] → TellsNothing e → t.labels ≡ w.locks.labels → IsSound w → IsBoard (world.published w) t (map (participants_of past_of) actors_after)
    board_grown e grown nothing labels s = same_board actors_after labels (board_still w.actors by a actor_after e at refl grown (world.published w) w.locks nothing s.board)

    -- the pasts, where none grows: what is live was live, and what is held was held
    pub pasts_left : p.past ≡ a.participant.past → t.labels ≡ w.locks.labels → ((name : List ℕ) → is_some (finite.get t.names name) ≡ true → is_some (finite.get w.locks.names name) ≡ true)
        → ((key : List ℕ) (holder : Holder) → finite.get t.keys key ≡ Some holder → finite.get w.locks.keys key ≡ Some holder) → IsSound w → PastParts w.opened w.writes t w.first_edit w.installed actors_after
    pasts_left same labels names keys s =
        let k = pasts_still w by a actor_after at (λ i. same i ∷ map past_of a.joined) s in
        let o = k.holders in
        record {
          holders = record { names = λ name live. o.names name (names name live); keys = λ key holder h. o.keys key holder (keys key holder h); found = o.found };
          board = same_board actors_after labels k.board;
          faults = k.faults;
          edits = k.edits;
        }
