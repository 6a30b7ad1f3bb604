-- A step that gives an actor a transaction, under a name that nobody has, keeps a world sound.
use Rattle.std.proofs.Common.{◌≡◌, ◌⊎◌, ⊎_elim, inl, inr, ℕ, true, List, [], ◌∷◌, ◌++◌, refl, sym, subst, ap, ◌∙◌, Some, None, is_some}
use mathlib.Core.Option.{some}
use lib.ListN.{get_elem?}
use Rattle.std.specs.FinSet as words
use Rattle.std.specs.FinMap as finite
use Rattle.wp_model.specs.History.{named}
use Rattle.wp_model.specs.declared.holder.Holder.TheVariants.{Txn}
use Rattle.wp_model.specs.LockState.{LockState}
use Rattle.wp_core.specs.Lists.{IsIn}
use Rattle.wp_core.specs.Views.{Event, claimed, took, Fact, undecided_at, prior_values, unprepared, unchanged}
use Rattle.wp_core.specs.World.{Transaction, Actor, Participant, World}
use Rattle.wp_core.specs.Steps.{Step}
use Rattle.wp_core.specs.Changes.{with_name}
use Rattle.wp_core.specs.Sound.Actors.{IsParticipantAt}
use Rattle.wp_core.specs.Sound.Locks.{Owner, owner_of, Has, Began, IsNameOf, IsDirectOf, PrepareHas, WasLockedFor, CameToKey, CameToKeys, IsOwner, AreLocked}
use Rattle.wp_core.specs.Sound.Views.{Owns}
use Rattle.wp_core.specs.IsSound.{IsSound, participants}
use Rattle.wp_model.proofs.Keyed.{is_word_same, at_inserted, else_inserted, now_inserted, some_inserted}
use Rattle.wp_core.proofs.OwnerMoves.{owners_apart, came_apart, came_itself, locked_for_still, beyond_moved, name_kept, direct_kept}
use Rattle.wp_core.proofs.AllParticipants.{mine, mine_now, was, each_apart}
use Rattle.wp_core.proofs.PastsGrow.{in_front, in_last}
use Rattle.wp_core.proofs.LocksChange.{SoWith, actor_after, owners_after, LocksParts, pasts_grown, board_grown}
use Rattle.wp_core.proofs.Remembers.{IsQuiet, FindsNothing, TellsNothing}
use Rattle.wp_core.proofs.AllParts.{SoIn}

-- what of the names and keys there are such a step needs, and of the event that it leaves in the past
pub record Gains (w : World) (name : List ℕ) (x1 : Transaction) (start : Event) : Type 0 where
  pub nobody : (c : List ℕ) → finite.get w.locks.names name ≡ Some (Some c) → ⊥
  pub keys : (k : List ℕ) → words.contains x1.locked k ≡ true → finite.get w.locks.keys k ≡ Some (Txn name)
  pub known : (k : List ℕ) → finite.get w.locks.keys k ≡ Some (Txn name) → words.contains x1.locked k ≡ true
  pub begins : (start ≡ claimed name) ⊎ (start ≡ took name)
  pub came : (k : List ℕ) → words.contains x1.locked k ≡ true → (start ≡ took name) × (PrepareHas w.opened w.writes.history name k ⊎ WasLockedFor (participants owner_of w) name k)

module _ (w : World) (by : ℕ) (a : Actor) (name : List ℕ) (x1 : Transaction) (start : Event) (step : Step) (at : get_elem? w.actors by ≡ some a) (d : Gains w name x1 start) (s : IsSound w) where
  abbrev pub t : LockState
  t = with_name w.locks name (Some a.participant.client)

  abbrev pub p : Participant
  p = record a.participant { transactions = finite.insert a.participant.transactions name x1; past = a.participant.past ++ start ∷ [] }

  abbrev b : Actor
  b = actor_after w by a step p t

  abbrev after : List (List Owner)
  after = owners_after w by a step p t

  not_it : {C : Type 0} (n c : List ℕ) → finite.get w.locks.names n ≡ Some (Some c) → n ≡ name → C
  not_it n c h same = absurd (d.nobody c (ap (finite.get w.locks.names) (sym same) ∙ h))

  -- what is live stays live, and a name that an actor has stays its
  live_still : (n c : List ℕ) → finite.get w.locks.names n ≡ Some (Some c) → finite.get t.names n ≡ Some (Some c)
  live_still n c h = ⊎_elim (λ (q : n ≡ name). not_it n c h q) (λ (ne : n ≡ name → ⊥). else_inserted w.locks.names name (Some a.participant.client) n ne ∙ h) (is_word_same n name)

  -- what the actor has now: the new one, or what it had
  has_now : (n : List ℕ) (x : Transaction) → finite.get p.transactions n ≡ Some x → ((n ≡ name) × (x1 ≡ x)) ⊎ ((n ≡ name → ⊥) × (finite.get a.participant.transactions n ≡ Some x))
  has_now n x h = now_inserted a.participant.transactions name x1 x n h

  grows : (e : Event) → IsIn e a.participant.past → IsIn e p.past
  grows e h = in_front e a.participant.past (start ∷ []) h

  came_now : (n key : List ℕ) → n ≡ name → (start ≡ took name) × (PrepareHas w.opened w.writes.history name key ⊎ WasLockedFor (participants owner_of w) name key) → CameToKey w.opened w.writes.history after p.past n key
  came_now n key same c =
      let has : PrepareHas w.opened w.writes.history name key ⊎ WasLockedFor after name key = ⊎_elim (λ k. inl k) (λ was. inr (locked_for_still w.actors by a b at refl grows name key was)) c.1 in
      subst (λ (z : List ℕ). CameToKey w.opened w.writes.history after p.past z key) (sym same) (inr (subst (λ (x : Event). IsIn x p.past) c.0 (in_last start a.participant.past), has))

  own_came : CameToKeys w.opened w.writes.history after (owner_of p)
  own_came n x key h held = ⊎_elim
      (λ (u : (n ≡ name) × (x1 ≡ x)). came_now n key u.0 (d.came key (subst (λ (z : Transaction). words.contains z.locked key ≡ true) (sym u.1) held)))
      (λ (u : (n ≡ name → ⊥) × (finite.get a.participant.transactions n ≡ Some x)). came_itself w.actors by a b at refl grows w.opened w.writes.history n key (s.locks.came by 0 (owner_of a.participant) (mine owner_of w.actors by a a at refl) n x key u.1 held)) (has_now n x h)

  own_owner : IsOwner t (owner_of p)
  own_owner =
      let old = s.locks.had by 0 (owner_of a.participant) (mine owner_of w.actors by a a at refl) in
      record {
        names = λ n x h. ⊎_elim
            (λ (u : (n ≡ name) × (x1 ≡ x)). at_inserted w.locks.names name (Some a.participant.client) n u.0)
            (λ (u : (n ≡ name → ⊥) × (finite.get a.participant.transactions n ≡ Some x)). live_still n a.participant.client (old.names n x u.1)) (has_now n x h);
        keys = λ n x key h held. ⊎_elim
            (λ (u : (n ≡ name) × (x1 ≡ x)). d.keys key (subst (λ (z : Transaction). words.contains z.locked key ≡ true) (sym u.1) held) ∙ ap (λ (z : List ℕ). Some (Txn z)) (sym u.0))
            (λ (u : (n ≡ name → ⊥) × (finite.get a.participant.transactions n ≡ Some x)). old.keys n x key u.1 held) (has_now n x h);
        direct = old.direct;
      }

  other_owner : (o : Owner) → IsOwner w.locks o → IsOwner t o
  other_owner o k = record { names = λ n x h. live_still n o.client (k.names n x h); keys = k.keys; direct = k.direct }

  -- nobody had the name
  none_had : (j i : ℕ) (o : Owner) (x : Transaction) → IsParticipantAt (participants owner_of w) j i o → Has o name x → ⊥
  none_had j i o x there h = not_it name o.client ((s.locks.had j i o there).names name x h) refl

  -- what it has it had, or nobody had
  had_or_new : (n : List ℕ) (x : Transaction) → finite.get p.transactions n ≡ Some x → ((y : Transaction) × (finite.get a.participant.transactions n ≡ Some y)) ⊎ ((j i : ℕ) (o : Owner) (y : Transaction) → IsParticipantAt (participants owner_of w) j i o → Has o n y → ⊥)
  had_or_new n x h = ⊎_elim
      (λ (g : (n ≡ name) × (x1 ≡ x)). inr (λ j i o y there has. none_had j i o y there (subst (λ (z : List ℕ). Has o z y) g.0 has)))
      (λ (g : (n ≡ name → ⊥) × (finite.get a.participant.transactions n ≡ Some x)). inl (x, g.1)) (has_now n x h)

  own_after : IsParticipantAt after by 0 (owner_of p)
  own_after = mine_now owner_of w.actors by a b at refl

  name_still : (n client : List ℕ) → (n ≡ name → ⊥) → IsNameOf (participants owner_of w) n client → IsNameOf after n client
  name_still n client ne k = name_kept w.actors by a b at refl refl (λ x k. in_front x a.participant.past (start ∷ []) k) n client (λ y h. (y, else_inserted a.participant.transactions name x1 n ne ∙ h)) k

  direct_still : (key client : List ℕ) → IsDirectOf (participants owner_of w) key client → IsDirectOf after key client
  direct_still key client d = direct_kept w.actors by a b at refl refl (λ x k. in_front x a.participant.past (start ∷ []) k) key client (λ h. h) d

  began_now : (n : List ℕ) → n ≡ name → Began p.past n
  began_now n same = ⊎_elim
      (λ (c : start ≡ claimed name). inl (subst (λ (z : List ℕ). IsIn (claimed z) p.past) (sym same) (subst (λ (x : Event). IsIn x p.past) c (in_last start a.participant.past))))
      (λ (c : start ≡ took name). inr (subst (λ (z : List ℕ). IsIn (took z) p.past) (sym same) (subst (λ (x : Event). IsIn x p.past) c (in_last start a.participant.past)))) d.begins

  names_had : (n client : List ℕ) → finite.get t.names n ≡ Some (Some client) → IsNameOf after n client
  names_had n client h = ⊎_elim
      (λ (e : n ≡ name).
      let q : Some (Some a.participant.client) ≡ Some (Some client) = sym (at_inserted w.locks.names name (Some a.participant.client) n e) ∙ h in
      let same : a.participant.client ≡ client = cc in
      record { at = by; place = 0; owner = owner_of p; transaction = x1; there = own_after; client_is = same; has = at_inserted a.participant.transactions name x1 n e; began = began_now n e })
      (λ (ne : n ≡ name → ⊥). name_still n client ne (s.locks.names_had n client (sym (else_inserted w.locks.names name (Some a.participant.client) n ne) ∙ h))) (is_word_same n name)

  names_left : (n : List ℕ) → finite.get t.names n ≡ Some None → is_some (named w.writes.history n) ≡ true
  names_left n h = ⊎_elim
      (λ (e : n ≡ name). let q : Some (Some a.participant.client) ≡ Some None = sym (at_inserted w.locks.names name (Some a.participant.client) n e) ∙ h in absurd cc)
      (λ (ne : n ≡ name → ⊥). s.locks.names_left n (sym (else_inserted w.locks.names name (Some a.participant.client) n ne) ∙ h)) (is_word_same n name)

  keys_known : (key n : List ℕ) → finite.get w.locks.keys key ≡ Some (Txn n) → (j i : ℕ) (o : Owner) → IsParticipantAt after j i o → (x : Transaction) → Has o n x → words.contains x.locked key ≡ true
  keys_known key n h j i o there x has = ⊎_elim
      (λ (g : (j ≡ by) × (i ≡ 0) × (o ≡ owner_of p)). ⊎_elim
      (λ (u : (n ≡ name) × (x1 ≡ x)). subst (λ (z : Transaction). words.contains z.locked key ≡ true) u.1 (d.known key (h ∙ ap (λ (z : List ℕ). Some (Txn z)) u.0)))
      (λ (u : (n ≡ name → ⊥) × (finite.get a.participant.transactions n ≡ Some x)). s.locks.keys_known key n h by 0 (owner_of a.participant) (mine owner_of w.actors by a a at refl) x u.1)
      (has_now n x (subst (λ (z : Owner). Has z n x) g.2 has)))
      (λ (g : IsParticipantAt (participants owner_of w) j i o). s.locks.keys_known key n h j i o g x has) (was owner_of w.actors by a b at refl j i o there)

  locked_part : AreLocked w.opened w.writes.history t after
  locked_part = record {
    prepared_names = λ q u. some_inserted w.locks.names name (Some a.participant.client) _ (s.locks.prepared_names q u);
    prepared_keys = s.locks.prepared_keys;
    had = each_apart owner_of w.actors by a b at refl (IsOwner t) own_owner (λ j i o elsewhere there. other_owner o (s.locks.had j i o there));
    came = came_apart w.actors by a b at refl grows w.opened w.writes.history own_came s.locks.came;
    apart = owners_apart w.actors by a b at refl had_or_new (λ c h. inl h) s.locks.apart;
    names_had = names_had;
    names_left = names_left;
    keys_live = λ key n h. some_inserted w.locks.names name (Some a.participant.client) n (s.locks.keys_live key n h);
    keys_known = keys_known;
    keys_direct = λ key client h. direct_still key client (s.locks.keys_direct key client h);
    unchanged = s.locks.unchanged;
    beyond = λ key n q is h. beyond_moved w.actors by a b at refl grows w.opened w.writes.history q n key (s.locks.beyond key n q is h);
  }

  -- ---- what is noted

  owns_still : (n : List ℕ) → Owns a.participant n → (n ≡ name → ⊥) × Owns p n
  owns_still n (x, h) =
      let ne : n ≡ name → ⊥ = λ e. none_had by 0 (owner_of a.participant) x (mine owner_of w.actors by a a at refl) (subst (λ (z : List ℕ). finite.get a.participant.transactions z ≡ Some x) e h) in
      (ne, (x, else_inserted a.participant.transactions name x1 n ne ∙ h))

  mine_still : (fact : Fact) → SoIn w a.participant fact → SoWith w t p fact
  mine_still (undecided_at n q) k = ((owns_still n k.0).1, k.1, live_still n a.participant.client k.2, k.3)
  mine_still (prior_values n q batch) k = ((owns_still n k.0).1, k.1, k.2)
  mine_still (unprepared n) k =
      let o = owns_still n k.0 in
      (o.1, k.1, λ x key h held. k.2 x key (sym (else_inserted a.participant.transactions name x1 n o.0) ∙ h) held)
  mine_still (unchanged n key m) k = ((k.0.0, else_inserted a.participant.transactions name x1 n (owns_still n (k.0.0, k.0.1)).0 ∙ k.0.1, k.0.2), k.1, k.2)
  mine_still fact k = k

  others_still : (q : Participant) (fact : Fact) → SoIn w q fact → SoWith w t q fact
  others_still q (undecided_at n m) k = (k.0, k.1, live_still n q.client k.2, k.3)
  others_still q fact k = k

  -- ---- pasts

  quiet : IsQuiet start
  quiet = ⊎_elim
      (λ (c : start ≡ claimed name). subst IsQuiet (sym c) (record { log = refl; tables = refl; due = λ n. refl; last = λ n. refl }))
      (λ (c : start ≡ took name). subst IsQuiet (sym c) (record { log = refl; tables = refl; due = λ n. refl; last = λ n. refl })) d.begins

  finds_nothing : FindsNothing start
  finds_nothing = ⊎_elim (λ (c : start ≡ claimed name). subst FindsNothing (sym c) tt) (λ (c : start ≡ took name). subst FindsNothing (sym c) tt) d.begins

  tells_nothing : TellsNothing start
  tells_nothing = ⊎_elim (λ (c : start ≡ claimed name). subst TellsNothing (sym c) tt) (λ (c : start ≡ took name). subst TellsNothing (sym c) tt) d.begins

  -- a live name was live, or is what the step began
  begun : (n : List ℕ) → is_some (finite.get t.names n) ≡ true → ((start ≡ claimed n) ⊎ (start ≡ took n)) ⊎ (is_some (finite.get w.locks.names n) ≡ true)
  begun n live = ⊎_elim
      (λ (q : n ≡ name). inl (⊎_elim (λ (c : start ≡ claimed name). inl (c ∙ ap claimed (sym q))) (λ (c : start ≡ took name). inr (c ∙ ap took (sym q))) d.begins))
      (λ (ne : n ≡ name → ⊥). inr (ap is_some (sym (else_inserted w.locks.names name (Some a.participant.client) n ne)) ∙ live)) (is_word_same n name)

  pub gained_parts : LocksParts w by a step p t
  gained_parts = record {
    locks_part = locked_part;
    pasts_part = pasts_grown w by a step p t at start refl quiet finds_nothing begun (λ key holder h. inr h) (board_grown w by a step p t at start refl tells_nothing refl s) s;
    mine = λ fact left k. mine_still fact k;
    others = λ j q fact ne there k. others_still q fact k;
  }
