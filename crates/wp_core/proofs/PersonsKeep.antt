-- What is so of the participants is so after actors came and went.
use Rattle.std.proofs.Common.{◌≡◌, ◌≢◌, ◌⊎◌, ⊎_elim, inl, inr, ℕ, ◌≤◌, ◌<◌, ◌==◌, Bool, true, false, List, [], ◌∷◌, map, fold, refl, sym, subst, ap, ◌∙◌, arith, Option, Some, None}
use mathlib.Core.Option.{some, some-ne-none}
use mathlib.Core.Logic.{dite}
use native.Mathlib.Decide.{ℕ_discrete}
use lib.ListN.{get_elem?}
use Rattle.std.specs.FinMap as finite
use Rattle.wp_model.specs.declared.segment.Segment.{Segment}
use Rattle.wp_model.specs.Batch.{key_cmp}
use Rattle.wp_model.specs.declared.entry.Entry.{Entry}
use Rattle.wp_model.specs.declared.holder.Holder.{Holder}
use Rattle.wp_model.specs.declared.holder.Holder.TheVariants.{Txn, Client}
use Rattle.wp_model.specs.LockState.{LockState}
use Rattle.wp_model.specs.Snapshots.{Snapshots}
use Rattle.wp_core.specs.Lists.{IsIn, one_if, total}
use Rattle.wp_core.specs.States.{WriteState, Installed}
use Rattle.wp_model.specs.Flushed.{InstalledEdit}
use Rattle.wp_core.specs.Reading.{Registration}
use Rattle.wp_core.specs.Views.{Account, own, another, prepare_at, Event, claimed, took, locked, installed, renewed, found_edit, found}
use Rattle.wp_core.specs.World.{Actor, Participant, Transaction}
use Rattle.wp_core.specs.Sound.Actors.{participants_of, IsParticipantAt, StartsWith, seen_of, own_of, times, AreSeen, AreOwned, EachParticipant}
use Rattle.wp_core.specs.Sound.Snapshots.{registered_of, AreBelowCommitted, AreRegistered, view_of, HasSeen}
use Rattle.wp_core.specs.Sound.Locks.{Owner, owner_of, Has, WasLockedFor, IsOwner, AreLocked}
use Rattle.wp_core.specs.Sound.Pasts.{past_of, HasDone, IsPast, HasBegun, MadeHolder, IsAccounted, WasLocked, AreHolders, IsBoard, closes_log, is_tables_fault, AreFaults, is_install, raised_to, WasInstalled, WasPlaced, WasBased, due_after, tables_due, last_after, last_installed, OtherDid, OtherInstalls, OtherCompacts, AreEdits}
use Rattle.wp_core.proofs.OwnerMoves.{came_still, beyond_still}
use Rattle.wp_core.proofs.PastsGrow.{at_place}
use Rattle.wp_core.proofs.Persons.{IsNone, Moves, same_there, apart_still, CameWith, IsOfNone, came_from, goes_to, total_same}

-- ---- what one has that has nothing

no_past : (p : Participant) → IsNone p → p.past ≡ []
no_past p none = ap (λ (z : Participant). z.past) none

none_has : (p : Participant) (name : List ℕ) (x : Transaction) → IsNone p → Has (owner_of p) name x → ⊥
none_has p name x none h =
    let q : None ≡ Some x = sym (ap (λ (z : Participant). finite.get z.transactions name) none ∙ finite.get-empty key_cmp name) ∙ h in
    absurd (cc)

none_direct : (p : Participant) (key : List ℕ) → IsNone p → p.direct ≡ Some key → ⊥
none_direct p key none h = let q : None ≡ Some key = sym (ap (λ (z : Participant). z.direct) none) ∙ h in absurd (cc)

none_owner : (t : LockState) (p : Participant) → IsNone p → IsOwner t (owner_of p)
none_owner t p none = record {
  names = λ name x h. absurd (none_has p name x none h);
  keys = λ name x key h held. absurd (none_has p name x none h);
  direct = λ key h. absurd (none_direct p key none h);
}

-- ---- the tables that are due

due_one : (d : ℕ) (e : Event) → (d ≤ due_after d e) ⊎ ((edit : InstalledEdit) × (installed edit true ≡ e))
due_one d (installed edit true) = inr (edit, refl)
due_one d (installed edit false) = inl (omega arith)
due_one d e = inl (omega arith)

due_from : (d : ℕ) (past : List Event) → (d ≤ fold due_after d past) ⊎ ((edit : InstalledEdit) × IsIn (installed edit true) past)
due_from d [] = inl (omega arith)
due_from d (e ∷ past) = ⊎_elim
    (λ (le : d ≤ due_after d e). ⊎_elim
    (λ (more : due_after d e ≤ fold due_after (due_after d e) past). inl (omega arith))
    (λ (k : (edit : InstalledEdit) × IsIn (installed edit true) past). inr (k.0, inr k.1))
    (due_from (due_after d e) past))
    (λ (k : (edit : InstalledEdit) × (installed edit true ≡ e)). inr (k.0, inl (sym k.1))) (due_one d e)

-- ---- the last edit

last_one : (last : InstalledEdit) (e : Event) → (last_after last e ≡ last) ⊎ (is_install e ≡ true)
last_one last (installed edit compacts) = inr refl
last_one last (renewed edit) = inr refl
last_one last e = inl refl

last_from : (last : InstalledEdit) (past : List Event) → (fold last_after last past ≡ last) ⊎ ((e : Event) × (is_install e ≡ true) × IsIn e past)
last_from last [] = inl refl
last_from last (e ∷ past) = ⊎_elim
    (λ (same : last_after last e ≡ last). ⊎_elim
    (λ (rest : fold last_after (last_after last e) past ≡ last_after last e). inl (rest ∙ same))
    (λ (k : (x : Event) × (is_install x ≡ true) × IsIn x past). inr (k.0, k.1, inr k.2))
    (last_from (last_after last e) past))
    (λ (is : is_install e ≡ true). inr (e, is, inl refl)) (last_one last e)

module _ (row place : ℕ → ℕ → ℕ) (history : List Entry) (xs ys : List Actor) (m : Moves row place history xs ys) where
  -- ---- what they saw and published, and their registrations

  pub seen_moved : AreSeen history (map (participants_of seen_of) xs) → AreSeen history (map (participants_of seen_of) ys)
  seen_moved k j i x there = ⊎_elim
      (λ (c : CameWith row place history xs ys m seen_of j i x). k c.at c.at_place x c.there)
      (λ (n : (o : IsOfNone row place history xs ys m seen_of x) × StartsWith history o.person.seen). subst (StartsWith history) n.0.has n.1)
      (came_from row place history xs ys m seen_of j i x there)

  pub owned_moved : (opened : List Entry) → AreOwned opened history (map (participants_of own_of) xs) → AreOwned opened history (map (participants_of own_of) ys)
  owned_moved opened k n = total_same row place history xs ys m own_of (times n) (λ p none. ap (λ (z : Participant). times n z.own) none) ∙ k n

  none_below : (p : Participant) → IsNone p → AreBelowCommitted history p.registered
  none_below p none = subst (AreBelowCommitted history) (sym (ap (λ (z : Participant). z.registered) none)) (λ i r e. absurd (some-ne-none r (sym e)))

  pub registered_moved : (snapshots : Snapshots) → AreRegistered history snapshots (map (participants_of registered_of) xs) → AreRegistered history snapshots (map (participants_of registered_of) ys)
  registered_moved snapshots k = record {
    counted = λ s. k.counted s ∙ sym (total_same row place history xs ys m registered_of (total (λ (r : Registration). one_if (r.number == s))) (λ p none. ap (λ (z : Participant). total (λ (r : Registration). one_if (r.number == s)) z.registered) none));
    live = k.live;
    smallest = λ j i x there. ⊎_elim
        (λ (c : CameWith row place history xs ys m registered_of j i x). k.smallest c.at c.at_place x c.there)
        (λ (n : (o : IsOfNone row place history xs ys m registered_of x) × StartsWith history o.person.seen). subst (AreBelowCommitted history) n.0.has (none_below n.0.person n.0.none))
        (came_from row place history xs ys m registered_of j i x there);
  }

  pub viewed_moved : EachParticipant HasSeen (map (participants_of view_of) xs) → EachParticipant HasSeen (map (participants_of view_of) ys)
  viewed_moved k j i x there = ⊎_elim
      (λ (c : CameWith row place history xs ys m view_of j i x). k c.at c.at_place x c.there)
      (λ (n : (o : IsOfNone row place history xs ys m view_of x) × StartsWith history o.person.seen). subst HasSeen n.0.has (none_viewed n.0.person n.0.none))
      (came_from row place history xs ys m view_of j i x there)
    where
      none_viewed : (p : Participant) → IsNone p → HasSeen (view_of p)
      none_viewed p none r h = absurd (subst (IsIn r) (ap (λ (z : Participant). z.registered) none) h)

  -- ---- names and keys

  abbrev owners : List Actor → List (List Owner)
  owners = map (participants_of owner_of)

  abbrev CameOwner : ℕ → ℕ → Owner → Type 0
  CameOwner = CameWith row place history xs ys m owner_of

  abbrev NoneOwner : Owner → Type 0
  NoneOwner o = (n : IsOfNone row place history xs ys m owner_of o) × StartsWith history n.person.seen

  not_none : (o : Owner) (name : List ℕ) (x : Transaction) → IsOfNone row place history xs ys m owner_of o → Has o name x → ⊥
  not_none o name x n h = none_has n.person name x n.none (subst (λ (z : Owner). Has z name x) (sym n.has) h)

  not_direct : (o : Owner) (key : List ℕ) → IsOfNone row place history xs ys m owner_of o → o.direct ≡ Some key → ⊥
  not_direct o key n h = none_direct n.person key n.none (subst (λ (z : Owner). z.direct ≡ Some key) (sym n.has) h)

  who_has : (j i : ℕ) (o : Owner) (name : List ℕ) (x : Transaction) → IsParticipantAt (owners ys) j i o → Has o name x → CameOwner j i o
  who_has j i o name x there h = ⊎_elim (λ (c : CameOwner j i o). c) (λ (n : NoneOwner o). absurd (not_none o name x n.0 h)) (came_from row place history xs ys m owner_of j i o there)

  who_writes : (j i : ℕ) (o : Owner) (key : List ℕ) → IsParticipantAt (owners ys) j i o → o.direct ≡ Some key → CameOwner j i o
  who_writes j i o key there h = ⊎_elim (λ (c : CameOwner j i o). c) (λ (n : NoneOwner o). absurd (not_direct o key n.0 h)) (came_from row place history xs ys m owner_of j i o there)

  both_places : (j i k l : ℕ) (o p : Owner) (c : CameOwner j i o) (d : CameOwner k l p) → (c.at ≡ d.at) × (c.at_place ≡ d.at_place) → (j ≡ k) × (i ≡ l)
  both_places j i k l o p c d same =
      (sym c.row_is ∙ ((λ u. row (same.0 u) (same.1 u)) ∙ d.row_is), sym c.place_is ∙ ((λ u. place (same.0 u) (same.1 u)) ∙ d.place_is))

  locked_for_moved : (name key : List ℕ) → WasLockedFor (owners xs) name key → WasLockedFor (owners ys) name key
  locked_for_moved name key o = ⊎_elim
      (λ (c : IsParticipantAt (owners ys) (row o.at o.place) (place o.at o.place) o.owner). record { at = row o.at o.place; place = place o.at o.place; owner = o.owner; there = c; began = o.began })
      (λ (n : IsOfNone row place history xs ys m owner_of o.owner). absurd (subst (IsIn (locked key (Txn name))) (ap (λ (z : Owner). z.past) (sym n.has) ∙ no_past n.person n.none) o.began))
      (goes_to row place history xs ys m owner_of o.at o.place o.owner o.there)

  pub locked_moved : (opened : List Entry) (t : LockState) → AreLocked opened history t (owners xs) → AreLocked opened history t (owners ys)
  locked_moved opened t k = record {
    prepared_names = k.prepared_names;
    prepared_keys = k.prepared_keys;
    had = λ j i o there. ⊎_elim
        (λ (c : CameOwner j i o). k.had c.at c.at_place o c.there)
        (λ (n : NoneOwner o). subst (IsOwner t) n.0.has (none_owner t n.0.person n.0.none))
        (came_from row place history xs ys m owner_of j i o there);
    came = λ j i o there name x key has held.
        let c = who_has j i o name x there has in
        came_still opened history (owners xs) (owners ys) o.past o.past (λ e h. h) name key (λ was. locked_for_moved name key was) (k.came c.at c.at_place o c.there name x key has held);
    apart = record {
      names = λ j i l n o p name x y here there first second.
          let c = who_has j i o name x here first in let d = who_has l n p name y there second in
          both_places j i l n o p c d (k.apart.names c.at c.at_place d.at d.at_place o p name x y c.there d.there first second);
      direct = λ j i l n o p key here there first second.
          let c = who_writes j i o key here first in let d = who_writes l n p key there second in
          both_places j i l n o p c d (k.apart.direct c.at c.at_place d.at d.at_place o p key c.there d.there first second);
    };
    names_had = λ name client h.
        let o = k.names_had name client h in
        ⊎_elim
        (λ (c : IsParticipantAt (owners ys) (row o.at o.place) (place o.at o.place) o.owner). record { at = row o.at o.place; place = place o.at o.place; owner = o.owner; transaction = o.transaction; there = c; client_is = o.client_is; has = o.has; began = o.began })
        (λ (n : IsOfNone row place history xs ys m owner_of o.owner). absurd (not_none o.owner name o.transaction n o.has))
        (goes_to row place history xs ys m owner_of o.at o.place o.owner o.there);
    names_left = k.names_left;
    keys_live = k.keys_live;
    keys_known = λ key name h j i o there x has. let c = who_has j i o name x there has in k.keys_known key name h c.at c.at_place o c.there x has;
    keys_direct = λ key client h.
        let o = k.keys_direct key client h in
        ⊎_elim
        (λ (c : IsParticipantAt (owners ys) (row o.at o.place) (place o.at o.place) o.owner). record { at = row o.at o.place; place = place o.at o.place; owner = o.owner; there = c; client_is = o.client_is; has = o.has; began = o.began })
        (λ (n : IsOfNone row place history xs ys m owner_of o.owner). absurd (not_direct o.owner key n o.has))
        (goes_to row place history xs ys m owner_of o.at o.place o.owner o.there);
    unchanged = k.unchanged;
    beyond = λ key name p is h. beyond_still opened history (owners xs) (owners ys) p name key (λ was. locked_for_moved name key was) (k.beyond key name p is h);
  }

  -- ---- pasts

  abbrev pasts : List Actor → List (List (List Event))
  pasts = map (participants_of past_of)

  none_done : (past : List Event) (e : Event) → IsOfNone row place history xs ys m past_of past → IsIn e past → ⊥
  none_done past e n h = subst (IsIn e) (sym n.has ∙ no_past n.person n.none) h

  pub done_moved : (j i : ℕ) (e : Event) → HasDone (pasts xs) j i e → HasDone (pasts ys) (row j i) (place j i) e
  done_moved j i e (past, there, h) = ⊎_elim
      (λ (c : IsParticipantAt (pasts ys) (row j i) (place j i) past). (past, c, h))
      (λ (n : IsOfNone row place history xs ys m past_of past). absurd (none_done past e n h))
      (goes_to row place history xs ys m past_of j i past there)

  -- it was done by one that has become this one
  pub record WasDone (j i : ℕ) (e : Event) : Type 0 where
    pub at : ℕ
    pub at_place : ℕ
    pub done : HasDone (pasts xs) at at_place e
    pub row_is : row at at_place ≡ j
    pub place_is : place at at_place ≡ i

  pub done_was : (j i : ℕ) (e : Event) → HasDone (pasts ys) j i e → WasDone j i e
  done_was j i e (past, there, h) = ⊎_elim
      (λ (c : CameWith row place history xs ys m past_of j i past). record { at = c.at; at_place = c.at_place; done = (past, c.there, h); row_is = c.row_is; place_is = c.place_is })
      (λ (n : (o : IsOfNone row place history xs ys m past_of past) × StartsWith history o.person.seen). absurd (none_done past e n.0 h))
      (came_from row place history xs ys m past_of j i past there)

  pub past_moved : (e : Event) → IsPast (pasts xs) e → IsPast (pasts ys) e
  past_moved e (j, i, k) = (row j i, place j i, done_moved j i e k)

  pub past_was : (e : Event) → IsPast (pasts ys) e → IsPast (pasts xs) e
  past_was e (j, i, k) = let o = done_was j i e k in (o.at, o.at_place, o.done)

  begun_moved : (j i : ℕ) (name : List ℕ) → HasBegun (pasts xs) j i name → HasBegun (pasts ys) (row j i) (place j i) name
  begun_moved j i name (inl k) = inl (done_moved j i (claimed name) k)
  begun_moved j i name (inr k) = inr (done_moved j i (took name) k)

  made_moved : (opened : List Entry) (j i : ℕ) (key : Option (List ℕ)) (holder : Holder) → MadeHolder opened history (pasts xs) j i key holder → MadeHolder opened history (pasts ys) (row j i) (place j i) key holder
  made_moved opened j i None (Txn name) k = begun_moved j i name k
  made_moved opened j i (Some key) (Txn name) (inl (begun, k)) = inl (begun_moved j i name begun, done_moved j i (locked key (Txn name)) k)
  made_moved opened j i (Some key) (Txn name) (inr (k, inl has)) = inr (done_moved j i (took name) k, inl has)
  made_moved opened j i (Some key) (Txn name) (inr (k, inr was)) = inr (done_moved j i (took name) k, inr (past_moved (locked key (Txn name)) was))
  made_moved opened j i (Some key) (Client client) k = done_moved j i (locked key (Client client)) k
  made_moved opened j i None (Client client) none = absurd none

  accounted_moved : (opened : List Entry) (j i : ℕ) (key : Option (List ℕ)) (holder : Holder) (seen : ℕ) (account : Account) → IsAccounted opened history (pasts xs) j i key holder seen account → IsAccounted opened history (pasts ys) (row j i) (place j i) key holder seen account
  accounted_moved opened j i key holder seen own k = made_moved opened j i key holder k
  accounted_moved opened j i key holder seen another (l, n, apart, k) = (row l n, place l n, apart_still row place history xs ys m j i l n apart, made_moved opened l n key holder k)
  accounted_moved opened j i key (Txn name) seen (prepare_at n) (inl k) = inl k
  accounted_moved opened j i None (Txn name) seen (prepare_at n) (inr k) = absurd k.1
  accounted_moved opened j i (Some key) (Txn name) seen (prepare_at n) (inr k) = inr (k.0, past_moved (locked key (Txn name)) k.1)
  accounted_moved opened j i key (Client name) seen (prepare_at n) k = k

  key_moved : (opened : List Entry) (key : List ℕ) (holder : Holder) → WasLocked opened (pasts xs) key holder → WasLocked opened (pasts ys) key holder
  key_moved opened key holder (inl k) = inl (past_moved _ k)
  key_moved opened key holder (inr k) = inr k

  pub holders_moved : (opened : List Entry) (t : LockState) → AreHolders opened history t (pasts xs) → AreHolders opened history t (pasts ys)
  holders_moved opened t k = record {
    names = λ name h. ⊎_elim
        (λ c. inl (⊎_elim (λ p. inl (past_moved _ p)) (λ p. inr (past_moved _ p)) c))
        (λ c. inr c) (k.names name h);
    keys = λ key holder h. key_moved opened key holder (k.keys key holder h);
    found = λ j i key holder seen account h.
        let o = done_was j i (found key holder seen account) h in
        let is = accounted_moved opened o.at o.at_place key holder seen account (k.found o.at o.at_place key holder seen account o.done) in
        subst (λ (n : ℕ). IsAccounted opened history (pasts ys) n i key holder seen account) o.row_is (subst (λ (n : ℕ). IsAccounted opened history (pasts ys) (row o.at o.at_place) n key holder seen account) o.place_is is);
  }

  pub board_moved : (published : ℕ) (t : LockState) → IsBoard published t (pasts xs) → IsBoard published t (pasts ys)
  board_moved published t k = record {
    labels = λ label n h. k.labels label n (⊎_elim (λ p. inl (past_was _ p)) (λ p. inr (past_was _ p)) h);
    numbers = λ label n h. past_moved _ (k.numbers label n h);
    heard = λ label n h. past_moved _ (k.heard label n (past_was _ h));
    told = λ label n h. k.told label n (past_was _ h);
  }

  pub faults_moved : (writes : WriteState) (halted : Bool) → AreFaults writes halted (pasts xs) → AreFaults writes halted (pasts ys)
  faults_moved writes halted k = record {
    log = total_same row place history xs ys m past_of (total (λ (e : Event). one_if (closes_log e))) (λ p none. ap (λ (z : Participant). total (λ (e : Event). one_if (closes_log e)) z.past) none) ∙ k.log;
    tables = total_same row place history xs ys m past_of (total (λ (e : Event). one_if (is_tables_fault e))) (λ p none. ap (λ (z : Participant). total (λ (e : Event). one_if (is_tables_fault e)) z.past) none) ∙ k.tables;
    not_logged = k.not_logged;
    stopped = λ n h. k.stopped n (past_was _ h);
    based = λ n base h. let f = k.based n base (past_was _ h) in (f.0, λ edit there. f.1 edit (past_was _ there));
    failed = λ entries h. k.failed entries (past_was _ h);
    renewing = k.renewing;
    of_log = λ entries h. k.of_log entries (past_was _ h);
    behind = λ h. k.behind (past_was _ h);
    unfailed = λ h. k.unfailed (past_was _ h);
  }

  installed_moved : (first : InstalledEdit) (n : ℕ) → WasInstalled first (pasts xs) n → WasInstalled first (pasts ys) n
  installed_moved first n (inl k) = inl k
  installed_moved first n (inr (e, raised, k)) = inr (e, raised, past_moved e k)

  placed_moved : (first : InstalledEdit) (segment : Segment) → WasPlaced first (pasts xs) segment → WasPlaced first (pasts ys) segment
  placed_moved first segment (inl k) = inl k
  placed_moved first segment (inr (edit, is, k)) = inr (edit, is, past_moved (renewed edit) k)

  based_moved : (first : InstalledEdit) (base : ℕ) → WasBased first (pasts xs) base → WasBased first (pasts ys) base
  based_moved first base (inl k) = inl k
  based_moved first base (inr (edit, is, k)) = inr (edit, is, past_moved (renewed edit) k)

  other_moved : (j i : ℕ) (e : Event) → OtherDid (pasts xs) j i e → OtherDid (pasts ys) (row j i) (place j i) e
  other_moved j i e (l, n, apart, k) = (row l n, place l n, apart_still row place history xs ys m j i l n apart, done_moved l n e k)

  -- for one that did nothing it is another that did it
  other_else : (j i k l : ℕ) (e : Event) → IsParticipantAt (pasts ys) j i [] → HasDone (pasts xs) k l e → OtherDid (pasts ys) j i e
  other_else j i k l e there h =
      let done = done_moved k l e h in
      (row k l, place k l, apart done, done)
    where
      not_here : HasDone (pasts ys) j i e → ⊥
      not_here (past, here, is) = subst (IsIn e) (same_there (pasts ys) j i past [] here there) is

      apart : HasDone (pasts ys) (row k l) (place k l) e → (row k l ≢ j) ⊎ (place k l ≢ i)
      apart done = dite (ℕ_discrete (row k l) j)
          (λ (same : row k l ≡ j). inr (λ f. not_here (at_place (λ (r p : ℕ). HasDone (pasts ys) r p e) j i (row k l) (place k l) same f done)))
          (λ (ne : row k l ≢ j). inl ne)

  compacts_moved : (j i : ℕ) → OtherCompacts (pasts xs) j i → OtherCompacts (pasts ys) (row j i) (place j i)
  compacts_moved j i (edit, k) = (edit, other_moved j i _ k)

  installs_moved : (j i : ℕ) → OtherInstalls (pasts xs) j i → OtherInstalls (pasts ys) (row j i) (place j i)
  installs_moved j i (e, is, k) = (e, is, other_moved j i e k)

  -- what an actor knows of the edits, one knows that did nothing: it is so, or another's doing
  module _ (by : ℕ) (a : Actor) (first : InstalledEdit) (t : Installed) (mine : IsParticipantAt (pasts xs) by 0 a.participant.past) (k : AreEdits first t (pasts xs)) (j i : ℕ) (here : IsParticipantAt (pasts ys) j i []) where
    edit_else : (t.last ≡ first) ⊎ OtherInstalls (pasts ys) j i
    edit_else = ⊎_elim
        (λ (d : t.last ≡ last_installed first a.participant.past). ⊎_elim
        (λ (same : last_installed first a.participant.past ≡ first). inl (d ∙ same))
        (λ (c : (e : Event) × (is_install e ≡ true) × IsIn e a.participant.past). inr (c.0, c.1, other_else j i by 0 c.0 here (a.participant.past, mine, c.2)))
        (last_from first a.participant.past))
        (λ (d : OtherInstalls (pasts xs) by 0). inr (d.0, d.1, other_else j i d.2.0 d.2.1 d.0 here d.2.3))
        (k.edit by 0 a.participant.past mine)

    tables_else : (first.tables ≤ t.last.tables) ⊎ OtherCompacts (pasts ys) j i
    tables_else = ⊎_elim
        (λ (d : tables_due first a.participant.past ≤ t.last.tables). ⊎_elim
        (λ (le : first.tables ≤ tables_due first a.participant.past). inl (omega arith))
        (λ (c : (edit : InstalledEdit) × IsIn (installed edit true) a.participant.past). inr (c.0, other_else j i by 0 (installed c.0 true) here (a.participant.past, mine, c.1)))
        (due_from first.tables a.participant.past))
        (λ (d : OtherCompacts (pasts xs) by 0). inr (d.0, other_else j i d.1.0 d.1.1 (installed d.0 true) here d.1.3))
        (k.tables by 0 a.participant.past mine)

  abbrev NonePast : List Event → Type 0
  NonePast past = (o : IsOfNone row place history xs ys m past_of past) × StartsWith history o.person.seen

  is_empty : (past : List Event) → NonePast past → past ≡ []
  is_empty past n = sym n.0.has ∙ no_past n.0.person n.0.none

  few_moved : (first : InstalledEdit) (t : Installed) → AreEdits first t (pasts xs) → (j i n base tables due : ℕ) (halted : Bool) → HasDone (pasts ys) j i (found_edit n base tables due halted) → tables < due → OtherCompacts (pasts ys) j i
  few_moved first t k j i n base tables due halted h few =
      let o = done_was j i (found_edit n base tables due halted) h in
      at_place (OtherCompacts (pasts ys)) j i (row o.at o.at_place) (place o.at o.at_place) o.row_is o.place_is (compacts_moved o.at o.at_place (k.few o.at o.at_place n base tables due halted o.done few))

  pub edits_moved : (by : ℕ) (a : Actor) (first : InstalledEdit) (t : Installed) → get_elem? xs by ≡ some a → IsParticipantAt (pasts xs) by 0 a.participant.past → AreEdits first t (pasts xs) → AreEdits first t (pasts ys)
  edits_moved by a first t at mine k = record {
    last = installed_moved first t.last.flushed k.last;
    rises = λ n h. k.rises n (⊎_elim (λ q. inl q) (λ (c : (e : Event) × (raised_to e ≡ Some n) × IsPast (pasts ys) e). inr (c.0, c.1, past_was c.0 c.2)) h);
    placed = placed_moved first t.last.segment k.placed;
    risen = λ edit h. k.risen edit (past_was _ h);
    found = λ n base tables due halted h. installed_moved first n (k.found n base tables due halted (past_was _ h));
    found_base = λ n base tables due halted h. based_moved first base (k.found_base n base tables due halted (past_was _ h));
    based = λ n base h. based_moved first base (k.based n base (past_was _ h));
    few = few_moved first t k;
    edit = λ j i past there. ⊎_elim
        (λ (c : CameWith row place history xs ys m past_of j i past). ⊎_elim
        (λ d. inl d)
        (λ (d : OtherInstalls (pasts xs) c.at c.at_place). inr (at_place (OtherInstalls (pasts ys)) j i (row c.at c.at_place) (place c.at c.at_place) c.row_is c.place_is (installs_moved c.at c.at_place d)))
        (k.edit c.at c.at_place past c.there))
        (λ (n : NonePast past).
        let empty = is_empty past n in
        ⊎_elim (λ (d : t.last ≡ first). inl (d ∙ ap (last_installed first) (sym empty))) (λ d. inr d)
        (edit_else by a first t mine k j i (subst (IsParticipantAt (pasts ys) j i) empty there)))
        (came_from row place history xs ys m past_of j i past there);
    tables = λ j i past there. ⊎_elim
        (λ (c : CameWith row place history xs ys m past_of j i past). ⊎_elim
        (λ d. inl d)
        (λ (d : OtherCompacts (pasts xs) c.at c.at_place). inr (at_place (OtherCompacts (pasts ys)) j i (row c.at c.at_place) (place c.at c.at_place) c.row_is c.place_is (compacts_moved c.at c.at_place d)))
        (k.tables c.at c.at_place past c.there))
        (λ (n : NonePast past).
        let empty = is_empty past n in
        ⊎_elim (λ (d : first.tables ≤ t.last.tables). inl (subst (λ (z : List Event). tables_due first z ≤ t.last.tables) (sym empty) d)) (λ d. inr d)
        (tables_else by a first t mine k j i (subst (IsParticipantAt (pasts ys) j i) empty there)))
        (came_from row place history xs ys m past_of j i past there);
    failed = λ last edit h. k.failed last edit (past_was _ h);
    found_halted = λ n base tables due h. k.found_halted n base tables due (past_was _ h);
    none_failed = k.none_failed;
  }
