-- Leaving a name keeps every part of a sound world.
use Rattle.std.proofs.Common.{◌≡◌, not, ⊎_elim, ℕ, true, true≢false, List, length, refl, sym, ap, ◌∙◌, Some, None, is_some}
use mathlib.Core.Option.{some}
use lib.ListN.{get_elem?}
use Rattle.std.specs.Str.{bytes_eq}
use Rattle.std.specs.FinMap as finite
use Rattle.std.proofs.lemmas.Slice.Eq.{bytes_eq-Decides}
use Rattle.wp_model.specs.History.{name_at, named}
use Rattle.wp_model.specs.LockState.{LockState}
use Rattle.wp_core.specs.World.{Transaction, Actor, World}
use Rattle.wp_core.specs.Steps.{leave_name}
use Rattle.wp_core.specs.Changes.{with_name}
use Rattle.wp_core.specs.Effects.{done}
use Rattle.wp_core.specs.Needs.{Needs}
use Rattle.wp_core.specs.Notes.{forgets}
use Rattle.wp_core.specs.Sound.Locks.{owner_of}
use Rattle.wp_core.specs.IsSound.{IsSound}
use Rattle.wp_model.proofs.Keyed.{is_word_same, at_inserted, else_inserted, some_inserted}
use Rattle.wp_core.proofs.AllParticipants.{mine}
use Rattle.wp_core.proofs.LocksChange.{locks_change}
use Rattle.wp_core.proofs.DropsTransaction.{Drops, p, dropped_parts}

-- a test of names that is not passed: they are two
pub two_names : (name n : List ℕ) → not (bytes_eq name n) ≡ true → n ≡ name → ⊥
two_names name n h same = true≢false (sym h ∙ ap not ((bytes_eq-Decides name n).1 (sym same)))

module _ (w : World) (by : ℕ) (a : Actor) (name : List ℕ) (x0 : Transaction) (at : get_elem? w.actors by ≡ some a) (has : finite.get a.participant.transactions name ≡ Some x0) (prepared : is_some (named w.writes.history name) ≡ true) (s : IsSound w) where
  abbrev t : LockState
  t = with_name w.locks name None

  was_live : finite.get w.locks.names name ≡ Some (Some a.participant.client)
  was_live = (s.locks.had by 0 (owner_of a.participant) (mine owner_of w.actors by a a at refl)).names name x0 has

  live_were : (n : List ℕ) → is_some (finite.get t.names n) ≡ true → is_some (finite.get w.locks.names n) ≡ true
  live_were n live = ⊎_elim
      (λ (q : n ≡ name). ap (λ (z : List ℕ). is_some (finite.get w.locks.names z)) q ∙ ap is_some was_live)
      (λ (ne : n ≡ name → ⊥). ap is_some (sym (else_inserted w.locks.names name None n ne)) ∙ live) (is_word_same n name)

  left_one : Drops w name t (leave_name name)
  left_one = record {
    labels = refl;
    others = record { names = λ n ne. else_inserted w.locks.names name None n ne; transactions = λ k n ne h. h; prepared = λ k n q is h. h; directs = λ k c h. h; were = λ k n h. h };
    nobody = λ c h. let f : Some None ≡ Some (Some c) = sym (at_inserted w.locks.names name None name refl) ∙ h in absurd cc;
    left = λ h. prepared;
    directs_were = λ k c h. h;
    prepared_names = λ q u. some_inserted w.locks.names name None (name_at w.writes.history q) (s.locks.prepared_names q u);
    prepared_keys = s.locks.prepared_keys;
    live = λ k n h. some_inserted w.locks.names name None n (s.locks.keys_live k n h);
    live_were = live_were;
    ended = λ n h. two_names name n h;
  }

pub leaves_name : (w : World) (by : ℕ) (a : Actor) (name : List ℕ) → get_elem? w.actors by ≡ some a → Needs w by a (leave_name name) → IsSound w
    → IsSound (done w by (forgets w.writes.history (length w.cache) (leave_name name) a) (leave_name name))
leaves_name w by a name at needs s =
    let d = left_one w by a name needs.1.0 at needs.1.1 needs.2 s in
    locks_change w by a (leave_name name) (p w by a name needs.1.0 (with_name w.locks name None) (leave_name name) at needs.1.1 d s) (with_name w.locks name None) at needs.0
    (dropped_parts w by a name needs.1.0 (with_name w.locks name None) (leave_name name) at needs.1.1 d s) s
