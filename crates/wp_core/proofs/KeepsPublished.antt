-- Storing the published number keeps every part of a sound world: the pending entry joins the history.
use Rattle.std.proofs.Common.{◌≡◌, set, ⊎_elim, ℕ, suc, ◌≤◌, Bool, true, false, true≢false, List, [], ◌∷◌, ◌++◌, length, length-append, refl, sym, ap, ◌∙◌, Option, Some, arith}
use mathlib.Core.Option.{some}
use lib.ListN.{get_elem?}
use Rattle.wp_model.specs.declared.entry.Entry.{Entry}
use Rattle.wp_model.specs.Covered.{is_among}
use Rattle.wp_model.specs.Decision.{version_in}
use Rattle.wp_model.specs.Versions.{version_at}
use Rattle.wp_core.proofs.AllParticipants.{mine}
use Rattle.wp_core.proofs.KeepsSeen.{whole, shorter}
use Rattle.wp_core.specs.Conditions.{MayPublish}
use Rattle.wp_core.specs.Entries.{next_of}
use Rattle.wp_core.specs.States.{Content, writes, live_numbers}
use Rattle.wp_core.specs.Turns.{write_turn}
use Rattle.wp_core.specs.World.{Actor, World, with_content}
use Rattle.wp_core.specs.Steps.{store_published}
use Rattle.wp_core.specs.Changes.{held_with}
use Rattle.wp_core.specs.Effects.{done, publishes, with_entry}
use Rattle.wp_core.specs.Needs.{Needs}
use Rattle.wp_core.specs.Notes.{forgets}
use Rattle.wp_core.specs.Sound.Actors.{seen_of, StartsWith, participants_of, learned_of}
use Rattle.wp_core.specs.Sound.Snapshots.{registered_of, AreRegistered, view_of, HasSeen}
use Rattle.wp_core.specs.Sound.Locks.{owner_of, AreLocked}
use Rattle.wp_core.specs.Sound.Pasts.{past_of}
use Rattle.wp_core.specs.IsSound.{IsSound, participants}
use Rattle.wp_core.proofs.Frames.{each_map_set}
use Rattle.wp_core.proofs.KeepsRemembered.{noter_there}
use Rattle.wp_core.proofs.Participants.{each_person_set}
use Rattle.wp_core.proofs.PendingSteps.{SoPending}
use Rattle.wp_core.proofs.PublishesDecisions.{cache_part, decided_part, undecided_part, delayed_part}
use Rattle.wp_core.proofs.PublishesHistory.{history_part, seen_grows, owned_part}
use Rattle.wp_core.proofs.PublishesLocks.{locks_part, holders_part, board_part, faults_part}
use Rattle.wp_core.proofs.PublishesNotes.{prepares_held, writes_unprepared, prepares_locked, transaction_live, mine_grows, others_grow}
use Rattle.wp_core.proofs.PublishesReaders.{registered_part, readers_part, judged_part}
use Rattle.wp_core.proofs.PublishesVersions.{stored_part}
use Rattle.wp_core.proofs.Quiet.{idle_after}
use Rattle.wp_model.proofs.Tests.{some_there}
use Rattle.wp_core.proofs.SnapshotsStep.{among_live}
use Rattle.wp_core.proofs.AllParts.{all_parts, kept_part, pasts_kept, readers_kept, turns_changed, notes_stay, led_still}
use Rattle.wp_core.proofs.Gives.{not_free}

module _ (w : World) (by : ℕ) (a : Actor) (entry : Entry) (others : List Entry) (at : get_elem? w.actors by ≡ some a) (n : MayPublish w by a entry others) (s : IsSound w) where
  abbrev grown : List Entry
  grown = w.writes.history ++ entry ∷ []

  abbrev e : Content
  e = writes (with_entry w.writes entry others)

  abbrev c : Actor
  c = publishes w.writes.history entry (forgets w.writes.history (length w.cache) (store_published entry others) a)

  abbrev b : Actor
  b = record c { held = held_with c.held e }

  not_empty : entry ∷ others ≡ [] → ⊥
  not_empty q = let k : ◌≡◌ {A = ℕ} (suc (length others)) 0 = ap length q in absurd (omega arith)

  -- a logged entry is pending, so the log is not closed
  open_log : w.writes.closed ≡ false
  open_log = by_test w.writes.closed refl
    where
      by_test : (t : Bool) → w.writes.closed ≡ t → t ≡ false
      by_test false q = refl
      by_test true q = absurd (⊎_elim (λ (none : w.writes.pending ≡ []). not_empty (sym n.pending ∙ none)) (λ (not_yet : w.writes.logged ≡ false). true≢false (sym n.logged ∙ not_yet)) (s.faults.not_logged q))

  live_within : (m : ℕ) → is_among (live_numbers w.snapshots) m ≡ true → m ≤ length w.writes.history
  live_within m among = let x = some_there _ (sym (among_live w.snapshots m) ∙ among) in (s.registrations.live m x.0 x.1).1

  in_memory : (key : List ℕ) (value : Option (List ℕ)) → version_in (Some entry) key ≡ Some value → version_at w.store.memory key (suc (length w.writes.history)) ≡ Some value
  in_memory key value q = n.versions key value (ap (λ (z : List Entry). version_in (next_of z) key) n.pending ∙ q)

  opened_within : length w.opened ≤ length w.writes.history
  opened_within = shorter w.writes.history w.opened s.history.grown

  now_sound : IsSound (done w by (forgets w.writes.history (length w.cache) (store_published entry others) a) (store_published entry others))
  now_sound =
      all_parts (with_content w e) (set w.actors by b) (record {
        history = history_part w.opened w.writes w.max_evicted entry others n.pending n.logged open_log n.legal s.history;
        cache = cache_part w.writes.history entry others n.legal w.writes.pending w.cache n.pending s.cache;
        decided = decided_part w.writes.history entry others n.legal w.cache w.prepared.delayed_commits w.max_evicted w.snapshots n.pair s.decided;
        undecided = undecided_part w.writes.history entry others n.legal w.writes.pending w.prepared w.max_evicted n.pending n.number s.undecided;
        delayed = delayed_part w.writes.history entry others n.legal w.writes.pending w.prepared w.cache w.max_evicted n.pending n.pair s.delayed;
        flags = s.flags;
        versions = stored_part w.writes.history entry n.legal w.writes.pending others w.first_edit.segment.base w.snapshots w.store w.installed n.pending live_within in_memory s.versions;
        in_step = s.in_step;
        coupled = record {
          last = s.coupled.last;
          failed = s.coupled.failed;
          next = λ segment is. absurd (not_empty (sym n.pending ∙ ((s.coupled.next segment is).1 open_log).0));
        };
        pending = λ free. absurd (not_free w.holders write_turn by n.turn free);
      })
      (record {
        seen = each_person_set seen_of (StartsWith grown) w.actors by a b at (whole grown) refl (λ j i x there. seen_grows w.writes.history entry x (s.seen j i x there));
        learned = each_map_set learned_of (λ j x. StartsWith grown x) w.actors by b (grown, refl) (λ j x ne there. seen_grows w.writes.history entry x (s.learned j x there));
        owned = owned_part w.actors by a b at refl w.writes.history entry refl w.opened opened_within s.owned;
        registrations = kept_part w by a b at (participants_of registered_of) (AreRegistered grown w.snapshots) refl (registered_part w.writes.history entry n.legal w.snapshots (participants registered_of w) s.registrations);
        from_base = s.from_base;
        viewed = each_person_set view_of HasSeen w.actors by a b at (λ r h. let low = s.viewed by 0 (view_of a.participant) (mine view_of w.actors by a a at refl) r h in let more = shorter w.writes.history a.participant.seen (s.seen by 0 a.participant.seen (mine seen_of w.actors by a a at refl)) in let l = length-append w.writes.history (entry ∷ []) in omega (arith, low, more, l)) refl s.viewed;
      })
      (kept_part w by a b at (participants_of owner_of) (AreLocked w.opened grown w.locks) refl
      (locks_part w.writes.history entry n.legal w.opened w.locks (participants owner_of w) (λ name of. transaction_live w by a entry others at n s name of) (λ name batch key is changed. prepares_held w by a entry others at n s name batch key is changed) (λ key name changed held. writes_unprepared w by a entry others at n s key name changed held)
      (shorter w.writes.history w.opened s.history.grown) (λ name batch key is held. prepares_locked w by a entry others at n s name batch key is held) s.locks))
      (pasts_kept w by a b at w.opened (with_entry w.writes entry others) w.locks w.first_edit w.installed refl (record {
        holders = holders_part w.writes.history entry n.legal w.opened w.locks (participants past_of w) s.holders;
        board = board_part w.writes.history entry n.legal w.locks (participants past_of w) s.board;
        faults = faults_part w.writes entry others w.installed.halted (participants past_of w) open_log s.faults;
        edits = s.edits;
      }))
      (turns_changed w by a b at e n.turn refl s)
      (readers_kept w by a b at grown w.max_evicted w.cache w.prepared.delayed_commits w.snapshots refl (record {
        readers = readers_part w.writes.history entry n.legal w.snapshots w.max_evicted w.cache w.prepared.delayed_commits w.actors s.registrations s.readers;
        judged = judged_part w.writes.history entry n.legal w.snapshots w.max_evicted w.cache w.prepared.delayed_commits w.actors s.registrations s.readers s.judged;
      }))
      (notes_stay w by a b at (store_published entry others) w.holders (SoPending w (with_entry w.writes entry others)) refl (λ fact left m. record { guarded = m.guarded; is_so = mine_grows w by a entry others at n s fact left m.is_so })
      (λ j x fact ne there m. record { guarded = m.guarded; is_so = others_grow w by a entry others at n s j x.0 ne (noter_there w j x there) fact m.guarded m.is_so }) s)
      (led_still w by a b at refl s) (idle_after w by a b write_turn at n.turn s refl)

pub stores_published : (w : World) (by : ℕ) (a : Actor) (entry : Entry) (others : List Entry) → get_elem? w.actors by ≡ some a → Needs w by a (store_published entry others) → IsSound w
    → IsSound (done w by (forgets w.writes.history (length w.cache) (store_published entry others) a) (store_published entry others))
stores_published w by a entry others at n s = now_sound w by a entry others at n s
