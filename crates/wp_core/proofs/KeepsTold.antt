-- Putting under a label the length of what the actor saw keeps every part of a sound world.
use Rattle.std.proofs.Common.{◌≡◌, ⊎_elim, inl, inr, ℕ, true, List, [], ◌∷◌, ◌++◌, length, map, refl, sym, subst, ap, ◌∙◌, arith, Some, is_some, ◌≤◌}
use mathlib.Core.Option.{some}
use lib.ListN.{get_elem?}
use Rattle.std.specs.FinMap as finite
use Rattle.wp_model.specs.LockState.{LockState}
use Rattle.wp_core.proofs.AllParticipants.{mine}
use Rattle.wp_core.proofs.KeepsSeen.{shorter}
use Rattle.wp_core.specs.Views.{Event, told, heard, Fact}
use Rattle.wp_core.specs.World.{Actor, Participant, World}
use Rattle.wp_core.specs.World as world
use Rattle.wp_core.specs.Steps.{tell}
use Rattle.wp_core.specs.Changes.{with_label}
use Rattle.wp_core.specs.Effects.{done}
use Rattle.wp_core.specs.Needs.{Needs}
use Rattle.wp_core.specs.Notes.{forgets}
use Rattle.wp_core.specs.Sound.Actors.{participants_of, seen_of}
use Rattle.wp_core.specs.Sound.Locks.{owner_of, AreLocked}
use Rattle.wp_core.specs.Sound.Pasts.{past_of, IsPast, IsBoard}
use Rattle.wp_core.specs.IsSound.{IsSound, participants}
use Rattle.wp_model.proofs.Keyed.{is_word_same, at_inserted, else_inserted, some_inserted}
use Rattle.wp_core.proofs.OwnersStay.{past_locked}
use Rattle.wp_core.proofs.PastsGrow.{past_still, past_last, past_before}
use Rattle.wp_core.proofs.LocksChange.{SoWith, actor_after, actors_after, LocksParts, locks_change, pasts_grown}
use Rattle.wp_core.proofs.Remembers.{IsQuiet}
use Rattle.wp_core.proofs.AllParts.{SoIn}

abbrev at_label : Event → List ℕ
at_label (told label n) = label
at_label other = []

module _ (w : World) (by : ℕ) (a : Actor) (label : List ℕ) (at : get_elem? w.actors by ≡ some a) (s : IsSound w) where
  abbrev n : ℕ
  n = length a.participant.seen

  abbrev e : Event
  e = told label n

  abbrev t : LockState
  t = with_label w.locks label n

  abbrev p : Participant
  p = record a.participant { past = a.participant.past ++ e ∷ [] }

  abbrev b : Actor
  b = actor_after w by a (tell label) p t

  abbrev after : List (List (List Event))
  after = map (participants_of past_of) (actors_after w by a (tell label) p t)

  told_new : (l : List ℕ) (m : ℕ) → e ≡ told l m → is_some (finite.get t.labels l) ≡ true
  told_new l m q = ap is_some (at_inserted w.locks.labels label n l (sym (ap at_label q)))

  told_same : (l : List ℕ) (m : ℕ) → e ≡ told l m → n ≡ m
  told_same l m q = cc

  seen_within : n ≤ world.published w
  seen_within = shorter w.writes.history a.participant.seen (s.seen by 0 a.participant.seen (mine seen_of w.actors by a a at refl))

  board_part : IsBoard (world.published w) t after
  board_part = record {
    labels = λ l m h. ⊎_elim
        (λ (k : IsPast after (told l m)). ⊎_elim (λ (c : IsPast (participants past_of w) (told l m)). some_inserted w.locks.labels label n l (s.board.labels l m (inl c))) (λ (q : e ≡ told l m). told_new l m q) (past_before w.actors by a b e at refl refl (told l m) k))
        (λ (k : IsPast after (heard l m)). ⊎_elim (λ (c : IsPast (participants past_of w) (heard l m)). some_inserted w.locks.labels label n l (s.board.labels l m (inr c))) (λ (q : e ≡ heard l m). absurd cc) (past_before w.actors by a b e at refl refl (heard l m) k)) h;
    numbers = λ l m h. ⊎_elim
        (λ (q : l ≡ label).
        let f : Some n ≡ Some m = sym (at_inserted w.locks.labels label n l q) ∙ h in
        let same : n ≡ m = cc in
        subst (λ (z : ℕ). IsPast after (told l z)) same (subst (λ (z : List ℕ). IsPast after (told z n)) (sym q) (past_last w.actors by a b e at refl refl)))
        (λ (ne : l ≡ label → ⊥). past_still w.actors by a b e at refl refl (told l m) (s.board.numbers l m (sym (else_inserted w.locks.labels label n l ne) ∙ h))) (is_word_same l label);
    heard = λ l m h. ⊎_elim
        (λ (c : IsPast (participants past_of w) (heard l m)). past_still w.actors by a b e at refl refl (told l m) (s.board.heard l m c))
        (λ (q : e ≡ heard l m). absurd cc) (past_before w.actors by a b e at refl refl (heard l m) h);
    told = λ l m h. ⊎_elim
        (λ (c : IsPast (participants past_of w) (told l m)). s.board.told l m c)
        (λ (q : e ≡ told l m). let same : n ≡ m = told_same l m q in let low = seen_within in omega (arith, same, low)) (past_before w.actors by a b e at refl refl (told l m) h);
  }

  -- no fact speaks of labels, of what was seen or of a past
  mine_still : (fact : Fact) → SoIn w a.participant fact → SoWith w t p fact
  mine_still fact k = k

  others_still : (x : Participant) (fact : Fact) → SoIn w x fact → SoWith w t x fact
  others_still x fact k = k

  quiet : IsQuiet e
  quiet = record { log = refl; tables = refl; due = λ m. refl; last = λ m. refl }

  locked_part : AreLocked w.opened w.writes.history t (map (participants_of owner_of) (actors_after w by a (tell label) p t))
  locked_part =
      let k = past_locked w.actors by a b e at refl refl w.opened w.writes.history w.locks s.locks in
      record { prepared_names = k.prepared_names; prepared_keys = k.prepared_keys; had = λ j i o there. let c = k.had j i o there in record { names = c.names; keys = c.keys; direct = c.direct }; came = k.came; apart = k.apart; names_had = k.names_had; names_left = k.names_left; keys_live = k.keys_live; keys_known = k.keys_known; keys_direct = k.keys_direct; unchanged = k.unchanged; beyond = k.beyond }

  parts : LocksParts w by a (tell label) p t
  parts = record {
    locks_part = locked_part;
    pasts_part = pasts_grown w by a (tell label) p t at e refl quiet tt (λ name live. inr live) (λ key holder h. inr h) board_part s;
    mine = λ fact left k. mine_still fact k;
    others = λ j x fact ne there k. others_still x fact k;
  }

pub tells : (w : World) (by : ℕ) (a : Actor) (label : List ℕ) → get_elem? w.actors by ≡ some a → Needs w by a (tell label) → IsSound w
    → IsSound (done w by (forgets w.writes.history (length w.cache) (tell label) a) (tell label))
tells w by a label at needs s = locks_change w by a (tell label) (p w by a label at s) (t w by a label at s) at needs (parts w by a label at s) s
