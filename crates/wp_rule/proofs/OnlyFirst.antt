-- Where no other actor did anything, a sound world is sound with its first actor alone.
use Rattle.std.proofs.Common.{◌≡◌, ◌⊎◌, ⊎_elim, inl, inr, ℕ, zero, suc, ◌+◌, eqb, true, List, [], ◌∷◌, length, map, refl, sym, subst, ap, ◌∙◌, Option, Some, None, arith}
use mathlib.Core.Option.{some, some-injective, some-ne-none}
use lib.ListN.{get_elem?}
use Rattle.std.specs.FinMap as finite
use Rattle.wp_model.specs.declared.segment.Segment.{Segment}
use Rattle.wp_model.specs.Batch.{key_cmp}
use Rattle.wp_model.specs.declared.entry.Entry.{Entry}
use Rattle.wp_model.specs.declared.holder.Holder.{Holder}
use Rattle.wp_model.specs.declared.holder.Holder.TheVariants.{Txn, Client}
use Rattle.wp_core.specs.Lists.{IsIn, one_if, total}
use Rattle.wp_core.specs.Turns.{Turn, turn_holder}
use Rattle.wp_core.specs.Views.{Account, Event, own, another, prepare_at, locked, renewed}
use Rattle.wp_core.specs.World.{Actor, Participant, World, new_participant}
use Rattle.wp_core.specs.World as world
use Rattle.wp_core.specs.Sound.Actors.{seen_of, own_of, learned_of, held_of, role_of, participants_of, IsParticipantAt, total_participants, times}
use Rattle.wp_core.specs.Sound.Locks.{Owner, owner_of, IsNameOf, IsDirectOf, WasLockedFor, AreLocked}
use Rattle.wp_core.specs.Sound.Pasts.{past_of, HasDone, IsPast, closes_log, is_tables_fault, HasBegun, MadeHolder, IsAccounted, WasLocked, WasInstalled, WasPlaced, WasBased, OtherDid, OtherInstalls, OtherCompacts, AreHolders, IsBoard, AreFaults, AreEdits}
use Rattle.wp_core.specs.Sound.Reader.{reader_of}
use Rattle.wp_core.specs.Sound.Snapshots.{registered_of, view_of}
use Rattle.wp_core.specs.Sound.Views.{noter_of}
use Rattle.wp_core.specs.IsSound.{IsSound, participants}
use Rattle.wp_core.proofs.OwnerMoves.{came_still, beyond_still}
use Rattle.wp_model.proofs.Tests.{none_some}
use Rattle.wp_rule.specs.Shows.{DidNothing}

-- ---- one item, or none

-- what stands in a list of one is its item
one_there : {X : Type 0} (x y : X) (j : ℕ) → get_elem? (x ∷ []) j ≡ some y → (j ≡ 0) × (x ≡ y)
one_there x y zero at = (refl, some-injective x y at)
one_there x y (suc j) at = absurd (some-ne-none y (sym at))

-- the participants of actors that did nothing: they are as one is made
at_new : {X : Type 0} (f : Participant → X) (actors : List Actor) → ((j : ℕ) (b : Actor) → get_elem? actors j ≡ some b → DidNothing b) → (j i : ℕ) (x : X) → IsParticipantAt (map (participants_of f) actors) j i x
    → (client : List ℕ) × (seen : List Entry) × (x ≡ f (new_participant client seen))
at_new f [] nothing j i x there = absurd (some-ne-none there.0 (sym there.1))
at_new {X} f (b ∷ actors) nothing zero i x there =
    let d = nothing zero b refl in let p : Participant = b.participant in
    let one : participants_of f b ≡ f p ∷ [] = ap (λ (joined : List Participant). f p ∷ map f joined) d.2 in
    let at : get_elem? (f p ∷ []) i ≡ some x = ap (λ (ps : List X). get_elem? ps i) (sym one ∙ some-injective (participants_of f b) there.0 there.1) ∙ there.2 in
    (p.client, p.seen, sym (one_there (f p) x i at).1 ∙ ap f d.1.participant)
at_new f (b ∷ actors) nothing (suc j) i x there = at_new f actors (λ k c at. nothing (suc k) c at) j i x there

-- nothing that is 0 of one who did nothing adds up
total_new : {X : Type 0} (g : X → ℕ) (f : Participant → X) → ((client : List ℕ) (seen : List Entry) → g (f (new_participant client seen)) ≡ 0) → (actors : List Actor) → ((j : ℕ) (b : Actor) → get_elem? actors j ≡ some b → DidNothing b)
    → total (total g) (map (participants_of f) actors) ≡ 0
total_new g f none [] nothing = refl
total_new g f none (b ∷ actors) nothing =
    let d = nothing zero b refl in let p : Participant = b.participant in
    let one : total g (participants_of f b) ≡ g (f p) + 0 = ap (λ (joined : List Participant). g (f p) + total g (map f joined)) d.2 in
    let gone : g (f p) ≡ 0 = ap (λ (q : Participant). g (f q)) d.1.participant ∙ none p.client p.seen in
    let others = total_new g f none actors (λ k c at. nothing (suc k) c at) in omega (arith, one, gone, others)

module _ (w : World) (a : Actor) (others : List Actor) (is : w.actors ≡ a ∷ others) (nothing : (j : ℕ) (b : Actor) → get_elem? others j ≡ some b → DidNothing b) (s : IsSound w) where
  abbrev v : World
  v = record w { actors = a ∷ [] }

  -- what stands with the first actor stands in the world
  up_at : {X : Type 0} (f : Actor → X) (j : ℕ) (x : X) → get_elem? (map f (a ∷ [])) j ≡ some x → get_elem? (map f w.actors) j ≡ some x
  up_at f j x at = let k = one_there (f a) x j at in ap (λ (n : ℕ). get_elem? (map f w.actors) n) k.0 ∙ (ap (λ (actors : List Actor). get_elem? (map f actors) 0) is ∙ ap some k.1)

  up : {X : Type 0} (f : Participant → X) (j i : ℕ) (x : X) → IsParticipantAt (participants f v) j i x → IsParticipantAt (participants f w) j i x
  up f j i x there = (there.0, up_at (participants_of f) j there.0 there.1, there.2)

  -- what stands in the world stands with the first actor, or is of one who did nothing
  down : {X : Type 0} (f : Participant → X) (j i : ℕ) (x : X) → IsParticipantAt (participants f w) j i x → IsParticipantAt (participants f v) j i x ⊎ ((client : List ℕ) × (seen : List Entry) × (x ≡ f (new_participant client seen)))
  down {X} f j i x there = by j (subst (λ (actors : List Actor). IsParticipantAt (map (participants_of f) actors) j i x) is there)
    where
      by : (k : ℕ) → IsParticipantAt (map (participants_of f) (a ∷ others)) k i x → IsParticipantAt (participants f v) k i x ⊎ ((client : List ℕ) × (seen : List Entry) × (x ≡ f (new_participant client seen)))
      by zero at = inl at
      by (suc k) at = inr (at_new f others nothing k i x at)

  total_down : {X : Type 0} (g : X → ℕ) (f : Participant → X) → ((client : List ℕ) (seen : List Entry) → g (f (new_participant client seen)) ≡ 0) → total_participants g (participants f v) ≡ total_participants g (participants f w)
  total_down g f none = let rest = total_new g f none others nothing in let all = ap (λ (actors : List Actor). total_participants g (map (participants_of f) actors)) is in omega (arith, rest, all)

  -- ---- pasts

  done_down : (j i : ℕ) (e : Event) → HasDone (participants past_of w) j i e → HasDone (participants past_of v) j i e
  done_down j i e d = ⊎_elim (λ there. (d.0, there, d.2)) (λ n. absurd (subst (IsIn e) n.2 d.2)) (down past_of j i d.0 d.1)

  past_down : (e : Event) → IsPast (participants past_of w) e → IsPast (participants past_of v) e
  past_down e q = (q.0, q.1, done_down q.0 q.1 e q.2)

  done_up : (j i : ℕ) (e : Event) → HasDone (participants past_of v) j i e → HasDone (participants past_of w) j i e
  done_up j i e d = (d.0, up past_of j i d.0 d.1, d.2)

  past_up : (e : Event) → IsPast (participants past_of v) e → IsPast (participants past_of w) e
  past_up e q = (q.0, q.1, done_up q.0 q.1 e q.2)

  locked_down : (key : List ℕ) (holder : Holder) → WasLocked w.opened (participants past_of w) key holder → WasLocked w.opened (participants past_of v) key holder
  locked_down key holder l = ⊎_elim (λ q. inl (past_down _ q)) (λ o. inr o) l

  begun_down : (j i : ℕ) (name : List ℕ) → HasBegun (participants past_of w) j i name → HasBegun (participants past_of v) j i name
  begun_down j i name k = ⊎_elim (λ q. inl (done_down j i _ q)) (λ q. inr (done_down j i _ q)) k

  made_down : (j i : ℕ) (key : Option (List ℕ)) (holder : Holder) → MadeHolder w.opened w.writes.history (participants past_of w) j i key holder → MadeHolder w.opened w.writes.history (participants past_of v) j i key holder
  made_down j i None (Txn name) k = begun_down j i name k
  made_down j i (Some key) (Txn name) (inl (begun, k)) = inl (begun_down j i name begun, done_down j i _ k)
  made_down j i (Some key) (Txn name) (inr (k, inl has)) = inr (done_down j i _ k, inl has)
  made_down j i (Some key) (Txn name) (inr (k, inr was)) = inr (done_down j i _ k, inr (past_down _ was))
  made_down j i (Some key) (Client client) k = done_down j i _ k
  made_down j i None (Client client) none = absurd none

  accounted_down : (j i : ℕ) (key : Option (List ℕ)) (holder : Holder) (seen : ℕ) (account : Account) → IsAccounted w.opened w.writes.history (participants past_of w) j i key holder seen account → IsAccounted w.opened w.writes.history (participants past_of v) j i key holder seen account
  accounted_down j i key holder seen own k = made_down j i key holder k
  accounted_down j i key holder seen another k = (k.0, k.1, k.2, made_down k.0 k.1 key holder k.3)
  accounted_down j i key (Txn name) seen (prepare_at n) (inl k) = inl k
  accounted_down j i None (Txn name) seen (prepare_at n) (inr k) = absurd k.1
  accounted_down j i (Some key) (Txn name) seen (prepare_at n) (inr k) = inr (k.0, past_down _ k.1)
  accounted_down j i key (Client name) seen (prepare_at n) k = absurd k

  -- ---- names and keys

  name_down : (name client : List ℕ) → IsNameOf (participants owner_of w) name client → IsNameOf (participants owner_of v) name client
  name_down name client n = ⊎_elim
      (λ there. record { at = n.at; place = n.place; owner = n.owner; transaction = n.transaction; there = there; client_is = n.client_is; has = n.has; began = n.began })
      (λ new. absurd (none_some (finite.get (new_participant new.0 new.1).transactions name) n.transaction (finite.get-empty key_cmp name) (ap (λ (o : Owner). finite.get o.transactions name) (sym new.2) ∙ n.has)))
      (down owner_of n.at n.place n.owner n.there)

  direct_down : (key client : List ℕ) → IsDirectOf (participants owner_of w) key client → IsDirectOf (participants owner_of v) key client
  direct_down key client n = ⊎_elim
      (λ there. record { at = n.at; place = n.place; owner = n.owner; there = there; client_is = n.client_is; has = n.has; began = n.began })
      (λ new. let q : None ≡ Some key = ap (λ (o : Owner). o.direct) (sym new.2) ∙ n.has in absurd cc)
      (down owner_of n.at n.place n.owner n.there)

  locked_for_down : (name key : List ℕ) → WasLockedFor (participants owner_of w) name key → WasLockedFor (participants owner_of v) name key
  locked_for_down name key n = ⊎_elim
      (λ there. record { at = n.at; place = n.place; owner = n.owner; there = there; began = n.began })
      (λ new. absurd (subst (IsIn (locked key (Txn name))) (ap (λ (o : Owner). o.past) new.2) n.began))
      (down owner_of n.at n.place n.owner n.there)

  locks_down : AreLocked w.opened w.writes.history w.locks (participants owner_of v)
  locks_down = let k = s.locks in record {
    prepared_names = k.prepared_names;
    prepared_keys = k.prepared_keys;
    had = λ j i o there. k.had j i o (up owner_of j i o there);
    came = λ j i o there name x key has held. came_still w.opened w.writes.history (participants owner_of w) (participants owner_of v) o.past o.past (λ e h. h) name key (λ was. locked_for_down name key was) (k.came j i o (up owner_of j i o there) name x key has held);
    apart = record {
      names = λ j i m l o p name x y there there'. k.apart.names j i m l o p name x y (up owner_of j i o there) (up owner_of m l p there');
      direct = λ j i m l o p key there there'. k.apart.direct j i m l o p key (up owner_of j i o there) (up owner_of m l p there');
    };
    names_had = λ name client h. name_down name client (k.names_had name client h);
    names_left = k.names_left;
    keys_live = k.keys_live;
    keys_known = λ key name h j i o there. k.keys_known key name h j i o (up owner_of j i o there);
    keys_direct = λ key client h. direct_down key client (k.keys_direct key client h);
    unchanged = k.unchanged;
    beyond = λ key name p is h. beyond_still w.opened w.writes.history (participants owner_of w) (participants owner_of v) p name key (λ was. locked_for_down name key was) (k.beyond key name p is h);
  }

  -- ---- all parts

  holders_down : AreHolders w.opened w.writes.history w.locks (participants past_of v)
  holders_down = let k = s.holders in record {
    names = λ name h. ⊎_elim (λ p. inl (⊎_elim (λ q. inl (past_down _ q)) (λ q. inr (past_down _ q)) p)) (λ o. inr o) (k.names name h);
    keys = λ key holder h. locked_down key holder (k.keys key holder h);
    found = λ j i key holder seen account d. accounted_down j i key holder seen account (k.found j i key holder seen account (done_up j i _ d));
  }

  board_down : IsBoard (world.published w) w.locks (participants past_of v)
  board_down = let k = s.board in record {
    labels = λ label n p. k.labels label n (⊎_elim (λ q. inl (past_up _ q)) (λ q. inr (past_up _ q)) p);
    numbers = λ label n h. past_down _ (k.numbers label n h);
    heard = λ label n q. past_down _ (k.heard label n (past_up _ q));
    told = λ label n q. k.told label n (past_up _ q);
  }

  faults_down : AreFaults w.writes w.installed.halted (participants past_of v)
  faults_down = let k = s.faults in record {
    log = total_down (total (λ (e : Event). one_if (closes_log e))) past_of (λ client seen. refl) ∙ k.log;
    tables = total_down (total (λ (e : Event). one_if (is_tables_fault e))) past_of (λ client seen. refl) ∙ k.tables;
    not_logged = k.not_logged;
    stopped = λ n q. k.stopped n (past_up _ q);
    based = λ n base q. let f = k.based n base (past_up _ q) in (f.0, λ edit made below. f.1 edit (past_up _ made) below);
    failed = λ entries q. k.failed entries (past_up _ q);
    renewing = k.renewing;
    of_log = λ entries q. k.of_log entries (past_up _ q);
    behind = λ q. k.behind (past_up _ q);
    unfailed = λ q. k.unfailed (past_up _ q);
  }

  installed_down : (n : ℕ) → WasInstalled w.first_edit (participants past_of w) n → WasInstalled w.first_edit (participants past_of v) n
  installed_down n k = ⊎_elim (λ e. inl e) (λ q. inr (q.0, q.1, past_down q.0 q.2)) k

  installed_up : (n : ℕ) → WasInstalled w.first_edit (participants past_of v) n → WasInstalled w.first_edit (participants past_of w) n
  installed_up n k = ⊎_elim (λ e. inl e) (λ q. inr (q.0, q.1, past_up q.0 q.2)) k

  placed_down : (segment : Segment) → WasPlaced w.first_edit (participants past_of w) segment → WasPlaced w.first_edit (participants past_of v) segment
  placed_down segment k = ⊎_elim (λ e. inl e) (λ q. inr (q.0, q.1, past_down (renewed q.0) q.2)) k

  based_down : (base : ℕ) → WasBased w.first_edit (participants past_of w) base → WasBased w.first_edit (participants past_of v) base
  based_down base k = ⊎_elim (λ e. inl e) (λ q. inr (q.0, q.1, past_down (renewed q.0) q.2)) k

  other_down : (j i : ℕ) (e : Event) → OtherDid (participants past_of w) j i e → OtherDid (participants past_of v) j i e
  other_down j i e o = (o.0, o.1, o.2, done_down o.0 o.1 e o.3)

  compacts_down : (j i : ℕ) → OtherCompacts (participants past_of w) j i → OtherCompacts (participants past_of v) j i
  compacts_down j i o = (o.0, other_down j i _ o.1)

  edits_down : AreEdits w.first_edit w.installed (participants past_of v)
  edits_down = let k = s.edits in record {
    last = installed_down w.installed.last.flushed k.last;
    rises = λ n q. k.rises n (installed_up n q);
    placed = placed_down w.installed.last.segment k.placed;
    risen = λ edit q. k.risen edit (past_up _ q);
    based = λ n base q. based_down base (k.based n base (past_up _ q));
    found = λ n base tables due halted q. installed_down n (k.found n base tables due halted (past_up _ q));
    found_base = λ n base tables due halted q. based_down base (k.found_base n base tables due halted (past_up _ q));
    few = λ j i n base tables due halted d less. compacts_down j i (k.few j i n base tables due halted (done_up j i _ d) less);
    edit = λ j i past there. ⊎_elim (λ same. inl same) (λ (o : OtherInstalls (participants past_of w) j i). inr (o.0, o.1, other_down j i _ o.2)) (k.edit j i past (up past_of j i past there));
    tables = λ j i past there. ⊎_elim (λ le. inl le) (λ (o : OtherCompacts (participants past_of w) j i). inr (compacts_down j i o)) (k.tables j i past (up past_of j i past there));
    failed = λ last edit q. k.failed last edit (past_up _ q);
    found_halted = λ n base tables due q. k.found_halted n base tables due (past_up _ q);
    none_failed = k.none_failed;
  }

  pub only_first : ((turn : Turn) → turn_holder w.holders turn ≡ None) → a.live ≡ true → a.made ≡ length a.joined → IsSound v
  only_first free live all = record {
    history = s.history;
    seen = λ j i x there. s.seen j i x (up seen_of j i x there);
    learned = λ j x at. s.learned j x (up_at learned_of j x at);
    owned = λ n. total_down (times n) own_of (λ client seen. refl) ∙ s.owned n;
    cache = s.cache;
    decided = s.decided;
    undecided = s.undecided;
    delayed = s.delayed;
    registrations = let k = s.registrations in record {
      counted = λ n. k.counted n ∙ sym (total_down (total (λ r. one_if (eqb r.number n))) registered_of (λ client seen. refl));
      live = k.live;
      smallest = λ j i x there. k.smallest j i x (up registered_of j i x there);
    };
    from_base = s.from_base;
    viewed = λ j i x there. s.viewed j i x (up view_of j i x there);
    flags = s.flags;
    versions = s.versions;
    in_step = s.in_step;
    coupled = s.coupled;
    locks = locks_down;
    holders = holders_down;
    board = board_down;
    faults = faults_down;
    edits = edits_down;
    pending = s.pending;
    held = λ j x at. s.held j x (up_at held_of j x at);
    have = λ turn j holds. let f = free turn in absurd cc;
    readers = λ j x at. s.readers j x (up_at reader_of j x at);
    judged = λ j x at. s.judged j x (up_at reader_of j x at);
    noted = λ j x at. s.noted j x (up_at noter_of j x at);
    led = record {
      first = role_of a;
      there = refl;
      live = live;
      counted = let one : one_if a.live ≡ 1 = ap one_if live in omega (arith, one, all);
      others = λ j x at ne. absurd (ne (one_there (role_of a) x j at).0);
    };
    idle = λ j x at. let k = one_there a x j at in s.idle j x (ap (λ (n : ℕ). get_elem? w.actors n) k.0 ∙ (ap (λ (actors : List Actor). get_elem? actors 0) is ∙ ap some k.1));
  }
