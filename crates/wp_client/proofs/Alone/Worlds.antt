-- What is so in a reached world of an actor that is alone there.
use Rattle.std.proofs.Common.{◌≡◌, ◌⊎◌, ⊎_elim, inl, inr, ℕ, ◌<◌, ◌≤◌, Bool, true, false, true≢false, List, length, refl, sym, ap, ◌∙◌, Option, Some, None, is_some, arith}
use mathlib.Core.Option.{some}
use lib.ListN.{get_elem?}
use Rattle.std.specs.FinSet as set
use Rattle.std.specs.FinMap as finite
use Rattle.std.proofs.lemmas.Slice.Eq.{bytes_eq-Decides}
use Rattle.wp_model.specs.declared.holder.Holder.{Holder}
use Rattle.wp_model.specs.declared.holder.Holder.TheVariants.{Txn, Client}
use Rattle.wp_model.specs.History.{is_changed, is_undecided, name_at, batch_at, named, holder_of}
use Rattle.wp_model.specs.LockState.{is_among_keys}
use Rattle.wp_model.proofs.Found.{found_holder, found_named}
use Rattle.wp_core.specs.Alone.{IsAlone, IsOnlyOf}
use Rattle.wp_core.specs.Lists.{IsIn, one_if, total}
use Rattle.wp_core.specs.Runs.{Reaches}
use Rattle.wp_core.specs.World.{Transaction, Actor, World}
use Rattle.wp_core.specs.IsSound.{IsSound, participants}
use Rattle.wp_core.specs.Sound.Actors.{StartsWith, participants_of, seen_of}
use Rattle.wp_core.specs.Sound.Locks.{owner_of}
use Rattle.wp_core.specs.Sound.Pasts.{past_of, closes_log}
use Rattle.wp_core.specs.Sound.Views.{noter_of}
use Rattle.wp_core.specs.Views.{Event, unprepared, locks_stay, told, heard, stopped}
use Rattle.wp_core.proofs.AllParticipants.{mine}
use Rattle.wp_core.proofs.EachStep.{reached_is_sound}
use Rattle.wp_core.proofs.Frames.{at_map}
use Rattle.wp_core.proofs.OneActor.{tells}
use Rattle.wp_core.proofs.OneHolder.{holder_is}
use Rattle.wp_core.proofs.Registered.{total_at}
use Rattle.wp_model.proofs.Tests.{some_there, none_some}
use Rattle.wp_client.proofs.Alone.Published.{whole_seen}

-- ---- in any reached world

module _ (w : World) (reached : Reaches w) (j : ℕ) (a : Actor) (there : get_elem? w.actors j ≡ some a) where
  abbrev sound : IsSound w
  sound = reached_is_sound w reached

  -- the history begins with what an actor has seen
  pub has_seen : StartsWith w.writes.history a.participant.seen
  has_seen = sound.seen j 0 a.participant.seen (mine seen_of w.actors j a a there refl)

  -- where the log is not closed, the actor met no fault of it
  pub no_log_fault : w.writes.closed ≡ false → total (λ e. one_if (closes_log e)) a.participant.past ≡ 0
  no_log_fault running =
      let most = total_at (total (total (λ (e : Event). one_if (closes_log e)))) (participants past_of w) j (participants_of past_of a) (at_map (participants_of past_of) w.actors j a there) in
      let all = sound.faults.log in let none : one_if w.writes.closed ≡ 0 = ap one_if running in omega (arith, most, all, none)

  -- no undecided prepare has the key that it writes at once
  pub direct_is_free : (key : List ℕ) → a.participant.direct ≡ Some key → holder_of w.writes.history key ≡ None
  direct_is_free key direct = by (holder_of w.writes.history key) refl
    where
      by : (o : Option ℕ) → holder_of w.writes.history key ≡ o → holder_of w.writes.history key ≡ None
      by None e = e
      by (Some p) e =
          let h = found_holder w.writes.history key p e in
          let held = sound.locks.prepared_keys p key h.0 h.1 in
          let mine_is = (sound.locks.had j 0 (owner_of a.participant) (mine owner_of w.actors j a a there refl)).direct key direct in
          let both : Some (Txn (name_at w.writes.history p)) ≡ Some (Client a.participant.client) = sym held ∙ mine_is in absurd cc

-- ---- where it is alone

-- just these keys are held for the transaction of this name
pub record HoldsJust (w : World) (name : List ℕ) (is_key : List ℕ → Bool) : Type 0 where
  pub among : (key : List ℕ) → finite.get w.locks.keys key ≡ Some (Txn name) → is_key key ≡ true
  pub are_held : (key : List ℕ) → is_key key ≡ true → finite.get w.locks.keys key ≡ Some (Txn name)

module _ (w : World) (reached : Reaches w) (a : Actor) (alone : IsAlone w a) where
  abbrev sound_there : IsSound w
  sound_there = reached_is_sound w reached

  pub only_of : IsOnlyOf w a.participant
  only_of = tells w a alone sound_there

  -- it has seen the whole history, where each number that it published is one that it has seen
  pub seen_whole : StartsWith a.participant.seen w.opened → ((n : ℕ) → IsIn n a.participant.own → n ≤ length a.participant.seen) → w.writes.history ≡ a.participant.seen
  seen_whole begins few = whole_seen w.opened w.writes.history a.participant.seen a.participant.own (has_seen w reached 0 a alone.there) begins few only_of.owned

  -- a live name of which it has no transaction is that of an undecided prepare, and nobody has it
  pub left_name : (name : List ℕ) → is_some (finite.get w.locks.names name) ≡ true → finite.get a.participant.transactions name ≡ None → (finite.get w.locks.names name ≡ Some None) × ((p : ℕ) × (named w.writes.history name ≡ Some p))
  left_name name live none = by (finite.get w.locks.names name) refl
    where
      by : (o : Option (Option (List ℕ))) → finite.get w.locks.names name ≡ o → (finite.get w.locks.names name ≡ Some None) × ((p : ℕ) × (named w.writes.history name ≡ Some p))
      by None e = absurd (true≢false (sym live ∙ ap (λ (o : Option (Option (List ℕ))). is_some o) e))
      by (Some None) e = (e, some_there (named w.writes.history name) (sound_there.locks.names_left name e))
      by (Some (Some client)) e = let k = only_of.names name client e in absurd (none_some (finite.get a.participant.transactions name) k.0 none k.1)

  -- who holds a key, where it is not the actor itself, is an undecided prepare, which changes the key, or was made since the opening
  pub held_by_prepare : (key : List ℕ) (holder : Holder) → finite.get w.locks.keys key ≡ Some holder → a.participant.direct ≡ None → ((name : List ℕ) → holder ≡ Txn name → finite.get a.participant.transactions name ≡ None)
      → (p : ℕ) × (is_undecided w.writes.history p ≡ true) × (holder ≡ Txn (name_at w.writes.history p)) × ((holder_of w.writes.history key ≡ Some p) ⊎ (length w.opened < p))
  held_by_prepare key (Client client) held direct none = absurd (none_some a.participant.direct key direct (only_of.direct key client held))
  held_by_prepare key (Txn name) held direct none =
      let h = w.writes.history in
      let left = left_name name (sound_there.locks.keys_live key name held) (none name refl) in
      let p = left.1.0 in let is = left.1.1 in
      let found = found_named h name p is in (
        p,
        found.0,
        ap Txn (sym ((bytes_eq-Decides (name_at h p) name).0 found.1)),
        ⊎_elim (λ (changed : is_changed (batch_at h p) key ≡ true). inl (holder_is h sound_there.history.legal p key found.0 changed)) (λ (k : (length w.opened < p) × _). inr k.0) (sound_there.locks.beyond key name p is held),
      )

  -- a key that nobody holds is no undecided prepare's
  pub holds_no_free_key : (key : List ℕ) → finite.get w.locks.keys key ≡ None → holder_of w.writes.history key ≡ None
  holds_no_free_key key free = by (holder_of w.writes.history key) refl
    where
      by : (o : Option ℕ) → holder_of w.writes.history key ≡ o → holder_of w.writes.history key ≡ None
      by None e = e
      by (Some p) e = let h = found_holder w.writes.history key p e in let both : Some (Txn (name_at w.writes.history p)) ≡ None = sym (sound_there.locks.prepared_keys p key h.0 h.1) ∙ free in absurd cc

  -- an open transaction's name is that of no undecided prepare, nor has one a key that it locked
  pub open_is_free : (name : List ℕ) → IsIn (unprepared name) a.notes → (named w.writes.history name ≡ None)
      × ((x : Transaction) (key : List ℕ) → finite.get a.participant.transactions name ≡ Some x → set.contains x.locked key ≡ true → holder_of w.writes.history key ≡ None)
  open_is_free name there = let so = (sound_there.noted 0 (noter_of a) (at_map noter_of w.actors 0 a alone.there) (unprepared name) there).is_so in (so.1, so.2)

  -- the keys of a transaction that it has are those that this locked
  pub had_holds : (name : List ℕ) (x : Transaction) (is_key : List ℕ → Bool) → finite.get a.participant.transactions name ≡ Some x → ((key : List ℕ) → set.contains x.locked key ≡ is_key key) → HoldsJust w name is_key
  had_holds name x is_key has keys = record {
    among = λ key held. sym (keys key) ∙ sound_there.locks.keys_known key name held 0 0 (owner_of a.participant) (mine owner_of w.actors 0 a a alone.there refl) x has;
    are_held = λ key its. (sound_there.locks.had 0 0 (owner_of a.participant) (mine owner_of w.actors 0 a a alone.there refl)).keys name x key has (keys key ∙ its);
  }

  -- those of one that it left are those that it noted, while the prepare is undecided
  pub left_holds : (name : List ℕ) (p : ℕ) (noted : List (List ℕ)) (is_key : List ℕ → Bool) → IsIn (locks_stay name p noted) a.notes → named w.writes.history name ≡ Some p → ((key : List ℕ) → is_among_keys noted key ≡ is_key key) → HoldsJust w name is_key
  left_holds name p noted is_key there is are =
      let so = (sound_there.noted 0 (noter_of a) (at_map noter_of w.actors 0 a alone.there) (locks_stay name p noted) there).is_so in let k = so.1 is in record {
        among = λ key held. sym (are key) ∙ k.among key held;
        are_held = λ key its. k.are_held key (are key ∙ its);
      }

  -- where it found the log closed, that was when so many entries were published as are now
  pub was_stopped : (n : ℕ) → IsIn (stopped n) a.participant.past → (w.writes.closed ≡ true) × (n ≡ length w.writes.history)
  was_stopped n there = sound_there.faults.stopped n (0, 0, (a.participant.past, mine past_of w.actors 0 a a alone.there refl, there))

  -- what it heard under a label, something was told under that by it
  pub was_told : (label : List ℕ) (n : ℕ) → IsIn (heard label n) a.participant.past → (m : ℕ) × IsIn (told label m) a.participant.past
  was_told label n there =
      let live = sound_there.board.labels label n (inr (0, 0, (a.participant.past, mine past_of w.actors 0 a a alone.there refl, there))) in
      let some_number = some_there (finite.get w.locks.labels label) live in (some_number.0, only_of.labels label some_number.0 some_number.1)
