-- Each opening is sound.
use Rattle.std.proofs.Common.{◌≡◌, inl, inr, ℕ, zero, suc, ◌<◌, ◌≤◌, ◌||◌, eqb, eq-eqb, Bool, true, false, true≢false, List, [], ◌∷◌, ◌++◌, length, refl, sym, subst, ap, ◌∙◌, Option, Some, None, is_some, slice_index, ⊎_elim, append-nil, arith}
use Rattle.std.specs.Prelude.{All}
use Rattle.std.specs.List.{list_any}
use Rattle.std.proofs.lemmas.Bool.Decides.{nat_tests}
use mathlib.Core.Option.{some, some-injective, some-ne-none}
use lib.ListN.{get_elem?}
use Rattle.std.specs.Ordering.{nat_cmp}
use Rattle.std.specs.Option.{option_map_or}
use Rattle.std.specs.FinSet as finset
use Rattle.std.specs.FinMap as finite
use Rattle.wp_model.specs.Batch.{key_cmp}
use Rattle.wp_model.specs.declared.entry.Entry.{Entry}
use Rattle.wp_model.specs.declared.holder.Holder.TheVariants.{Txn, Client}
use Rattle.wp_model.specs.History.{is_undecided, name_at, batch_at, undecided, named, holder_of, is_changed}
use Rattle.wp_model.specs.Legal.{IsLegal, undone_last}
use Rattle.wp_model.specs.Snapshots as snaps
use Rattle.wp_model.specs.LockState.{LockState}
use Rattle.wp_model.specs.PreparedSets.{PreparedSets, is_prepared, NoneDelayed}
use Rattle.wp_model.proofs.Entries.{undecided_prepared, undecided_within}
use Rattle.wp_history_laws.proofs.Undecided.{is_undecided_by_list}
use Rattle.wp_judge.specs.Words.{CommitPair}
use Rattle.wp_judge.specs.declared.observed.Observed.{Observed}
use Rattle.wp_model.proofs.Found.{found_holder, found_named}
use Rattle.wp_history_laws.proofs.Unchanged.{held_unchanged}
use Rattle.wp_core.specs.Lists.{IsIn}
use Rattle.wp_core.specs.Turns.{Turn, write_turn, prepared_turn, snapshots_turn, store_turn, locks_turn, tables_turn, Holds, all_free}
use Rattle.wp_core.specs.States.{StoreState, Installed}
use Rattle.wp_model.specs.Flushed.{InstalledEdit}
use Rattle.wp_core.specs.Reading.{Registration}
use Rattle.wp_core.specs.Views.{Event, Fact, told, heard, renewed, log_failed, log_stopped, tables_failed, stopped, based_at, found_edit, found}
use Rattle.wp_core.specs.World.{World, Actor, Participant, Transaction, new_actor, new_participant, content_of}
use Rattle.wp_core.specs.Runs.{IsOpening}
use Rattle.wp_history_laws.specs.Opened.{AreOpened, named_by, prepare_holding}
use Rattle.wp_core.specs.Sound.Actors.{StartsWith, once, AreHeld, Role, IsParticipantAt}
use Rattle.wp_core.specs.Sound.Snapshots.{count_of, HasSeen}
use Rattle.wp_core.specs.Sound.Store.{IsStored, IsOfEdit}
use Rattle.wp_core.specs.Sound.Locks.{Owner, owner_of, IsOwner}
use Rattle.wp_core.specs.Sound.Pasts.{IsPast, raised_to, tables_due, last_installed}
use Rattle.wp_core.specs.IsSound.{IsSound}
use Rattle.wp_core.specs.Cache.{pair_at}
use Rattle.wp_judge.proofs.Packing.{word_back}
use Rattle.wp_core.proofs.HistoryLaws.{decision_within, undecided_not_decided}
use Rattle.wp_core.proofs.OneHolder.{holder_is, name_is, found_name}
use Rattle.wp_model.proofs.Tests.{none_some, same_some}
use Rattle.wp_model.proofs.Keyed.{txn_is}
use Rattle.wp_core.proofs.PendingSteps.{none_logged}

-- ---- what is not there

not_kept : (s p : ℕ) → snaps.is_old_commit finite.empty s p ≡ false
not_kept s p = ap (λ (o : Option snaps.LiveSnapshot). option_map_or (λ x. finset.contains x.old_commits p) o false) (finite.get-empty nat_cmp s)

one : {X : Type 0} (x y : X) (j : ℕ) → get_elem? (x ∷ []) j ≡ some y → x ≡ y
one x y zero e = some-injective x y e
one x y (suc j) e = absurd (some-ne-none y (sym e))

one_participant : {X : Type 0} (x : X) (j i : ℕ) (p : X) → IsParticipantAt ((x ∷ []) ∷ []) j i p → x ≡ p
one_participant x j i p k = one x p i (subst (λ ps. get_elem? ps i ≡ some p) (sym (one (x ∷ []) k.0 j k.1)) k.2)

no_past : (e : Event) → IsPast (([] ∷ []) ∷ []) e → ⊥
no_past e k = let p = k.2 in subst (IsIn e) (sym (one_participant [] k.0 k.1 p.0 p.1)) p.2

no_turn : (t : Turn) (j : ℕ) → Holds all_free t j → ⊥
no_turn write_turn j e = let q : None ≡ Some j = e in absurd (cc)
no_turn prepared_turn j e = let q : None ≡ Some j = e in absurd (cc)
no_turn snapshots_turn j e = let q : None ≡ Some j = e in absurd (cc)
no_turn store_turn j e = let q : None ≡ Some j = e in absurd (cc)
no_turn locks_turn j e = let q : None ≡ Some j = e in absurd (cc)
no_turn tables_turn j e = let q : None ≡ Some j = e in absurd (cc)

no_transaction : (name : List ℕ) (x : Transaction) → finite.get {X = Transaction} {R = key_cmp} finite.empty name ≡ Some x → ⊥
no_transaction name x e = none_some _ x (finite.get-empty key_cmp name) e

-- a list in which no number is found is empty
none_in : (numbers : List ℕ) → ((p : ℕ) → list_any (λ k. eqb k p) numbers ≡ false) → numbers ≡ []
none_in [] h = refl
none_in (n ∷ numbers) h = absurd (true≢false (sym (ap (λ (b : Bool). b || list_any (λ k. eqb k n) numbers) (eq-eqb n n refl)) ∙ h n))

some_named_by : (o : Option ℕ) → is_some (named_by o) ≡ is_some o
some_named_by None = refl
some_named_by (Some p) = refl

nobody_named : (o : Option ℕ) (client : List ℕ) → named_by o ≡ Some (Some client) → ⊥
nobody_named None client e = let q : None ≡ Some (Some client) = e in absurd (cc)
nobody_named (Some p) client e = let q : Some None ≡ Some (Some client) = e in absurd (cc)

no_client_holds : (history : List Entry) (o : Option ℕ) (client : List ℕ) → prepare_holding history o ≡ Some (Client client) → ⊥
no_client_holds history None client e = let q : None ≡ Some (Client client) = e in absurd (cc)
no_client_holds history (Some p) client e = let q : Some (Txn (name_at history p)) ≡ Some (Client client) = e in absurd (cc)

who_holds : (history : List Entry) (o : Option ℕ) (name : List ℕ) → prepare_holding history o ≡ Some (Txn name) → (p : ℕ) × (o ≡ Some p) × (name_at history p ≡ name)
who_holds history None name e = let q : None ≡ Some (Txn name) = e in absurd (cc)
who_holds history (Some p) name e = (p, refl, txn_is (name_at history p) name e)

-- ---- the world of an opening, by what openings differ in

abbrev prepared_of : List Entry → PreparedSets
prepared_of opened = record { heap = finset.empty; delayed = finset.from_list (undecided opened); delayed_commits = finite.empty }

abbrev running : InstalledEdit → Installed
running edit = record { last = edit; failed = None; halted = false }

abbrev opened_world : List Entry → List ℕ → ℕ → Bool → StoreState → LockState → InstalledEdit → List ℕ → World
opened_world opened cache flag logged store locks edit client =
    record {
      opened = opened;
      max_evicted = length opened;
      delayed_flag = flag;
      old_flag = 0;
      cache = cache;
      holders = all_free;
      writes = record { history = opened; pending = []; logged = logged; log = opened; closed = false; stopped = false; failed = []; segment = edit.segment; next = None };
      prepared = prepared_of opened;
      snapshots = finite.empty;
      store = store;
      locks = locks;
      installed = running edit;
      first_edit = edit;
      actors = new_actor true client opened ∷ [];
    }

module _ (opened : List Entry) (cache : List ℕ) (flag : ℕ) (logged : Bool) (store : StoreState) (t : LockState) (edit : InstalledEdit) (client : List ℕ)
    (legal : IsLegal opened) (no_undo : undone_last opened ≡ None) (words : 1 ≤ length cache) (zeros : All (λ word. word ≡ 0) cache)
    (down : flag ≡ 0 → undecided opened ≡ []) (up : undecided opened ≡ [] → flag ≡ 0)
    (versions : IsStored opened [] edit.segment.base finite.empty store (running edit)) (in_step : IsOfEdit store edit) (locks : AreOpened opened t) where
  abbrev world : World
  world = opened_world opened cache flag logged store t edit client

  delayed_is : (p : ℕ) → finset.contains (prepared_of opened).delayed p ≡ is_undecided opened p
  delayed_is p = finset.contains-from_list_nat (undecided opened) p ∙ is_undecided_by_list opened p

  prepared_is : (p : ℕ) → is_prepared (prepared_of opened) p ≡ is_undecided opened p
  prepared_is p = (λ i. finset.contains-empty nat_cmp p i || delayed_is p i)

  no_pair : (i : ℕ) (pair : CommitPair) → i < length cache → pair_at cache i ≡ Some pair → ⊥
  no_pair i pair lt e =
      let k = word_back (length cache) i (slice_index cache i) pair lt e in let is = k.packed in let none = zeros i 0 lt in
      absurd (omega (arith, is, none))

  none_owned : (n : ℕ) → 0 ≡ once opened opened n
  none_owned n = grind (arith, nat_tests)

  none_delayed : flag ≡ 0 → NoneDelayed (prepared_of opened)
  none_delayed z = ((λ p. ap (λ (numbers : List ℕ). finset.contains (finset.from_list {R = nat_cmp} numbers) p) (down z) ∙ finset.contains-from_list_nat [] p), (λ p. finite.get-empty nat_cmp p))

  delayed_free : NoneDelayed (prepared_of opened) → flag ≡ 0
  delayed_free none = up (none_in (undecided opened) (λ p. sym (finset.contains-from_list_nat (undecided opened) p) ∙ none.0 p))

  no_live : {A : Type 0} (s : ℕ) (x : A) → finite.get {X = A} {R = nat_cmp} finite.empty s ≡ Some x → ⊥
  no_live s x e = none_some _ x (finite.get-empty nat_cmp s) e

  no_label : (label : List ℕ) → finite.get t.labels label ≡ None
  no_label label = ap (λ (z : finite.FinMap key_cmp ℕ). finite.get z label) locks.labels ∙ finite.get-empty key_cmp label

  is_live : (p : ℕ) → is_undecided opened p ≡ true → is_some (finite.get t.names (name_at opened p)) ≡ true
  is_live p u = ap is_some (locks.names (name_at opened p)) ∙ some_named_by (named opened (name_at opened p)) ∙ found_name opened p u

  was_named : (name : List ℕ) → is_some (finite.get t.names name) ≡ true → is_some (named opened name) ≡ true
  was_named name live = sym (some_named_by (named opened name)) ∙ ap is_some (sym (locks.names name)) ∙ live

  key_live : (key name : List ℕ) → finite.get t.keys key ≡ Some (Txn name) → is_some (finite.get t.names name) ≡ true
  key_live key name e =
      let k = who_holds opened (holder_of opened key) name (sym (locks.keys key) ∙ e) in
      let h = found_holder opened key k.0 k.1 in
      subst (λ (n : List ℕ). is_some (finite.get t.names n) ≡ true) k.2 (is_live k.0 h.0)

  -- a key that is held is the undecided prepare's of that name
  key_changed : (key name : List ℕ) (p : ℕ) → named opened name ≡ Some p → finite.get t.keys key ≡ Some (Txn name) → is_changed (batch_at opened p) key ≡ true
  key_changed key name p is e =
      let k = who_holds opened (holder_of opened key) name (sym (locks.keys key) ∙ e) in
      let h = found_holder opened key k.0 k.1 in
      let same : k.0 ≡ p = same_some k.0 p (sym (name_is opened legal k.0 h.0) ∙ (ap (named opened) k.2 ∙ is)) in
      subst (λ (q : ℕ). is_changed (batch_at opened q) key ≡ true) same h.1

  starts : StartsWith opened opened
  starts = ([], sym (append-nil opened))

  opened_is_sound : IsSound world
  opened_is_sound = record {
    history = record {
      legal = legal;
      grown = starts;
      bounded = omega arith;
      log = sym (ap (λ (entries : List Entry). opened ++ entries) (none_logged logged) ∙ append-nil opened);
      rest = inl refl;
      legal_next = subst IsLegal (sym (append-nil opened)) legal;
      legal_failed = subst IsLegal (sym (append-nil opened)) legal;
      none_failed = λ _. refl;
      not_stopped = λ _. refl;
      undo_closes = λ p e. absurd (none_some (undone_last opened) p no_undo e);
    };
    seen = λ j i seen at. subst (StartsWith opened) (one_participant opened j i seen at) starts;
    learned = λ j entries at. subst (StartsWith opened) (one [] entries j at) (opened, refl);
    owned = none_owned;
    cache = record { some = words; empty = λ i lt e. zeros i 0 lt; pairs = λ i pair lt e. absurd (no_pair i pair lt e) };
    decided = record {
      found = λ p c e. inr (decision_within opened p c e, λ s live low high. absurd (true≢false (sym live ∙ ap is_some (finite.get-empty nat_cmp s))));
      kept = λ s p e. absurd (true≢false (sym e ∙ not_kept s p));
    };
    undecided = record {
      found = λ p u. prepared_is p ∙ u;
      heap_above = λ p e. absurd (true≢false (sym e ∙ finset.contains-empty nat_cmp p));
      delayed_passed = λ p e. (undecided_within opened p (sym (delayed_is p) ∙ e)).1;
      known = λ p e. undecided_prepared opened p (sym (prepared_is p) ∙ e);
    };
    delayed = record {
      found = λ p c there e. absurd (undecided_not_decided opened p c (sym (prepared_is p) ∙ there) e);
      commits = λ p c e. absurd (no_live p c e);
    };
    registrations = record {
      counted = λ s. ap count_of (finite.get-empty nat_cmp s);
      live = λ s x e. absurd (no_live s x e);
      smallest = λ j i rs at k r there. let q : get_elem? [] k ≡ some r = ap (λ (z : List Registration). get_elem? z k) (one_participant [] j i rs at) ∙ there in absurd (some-ne-none r (sym q));
    };
    from_base = λ t live. absurd (true≢false (sym live ∙ ap is_some (finite.get-empty nat_cmp t)));
    flags = record { none_delayed = none_delayed; none_kept = λ _ s p. not_kept s p; delayed_free = λ _ none. delayed_free none; old_free = λ _ _. refl };
    versions = versions;
    in_step = λ _. in_step;
    coupled = record {
      last = inl refl;
      failed = λ failed e. absurd (none_some None failed refl e);
      next = λ segment e. absurd (none_some None segment refl e);
    };
    locks = record {
      prepared_names = is_live;
      prepared_keys = λ p key u changed. locks.keys key ∙ ap (prepare_holding opened) (holder_is opened legal p key u changed);
      had = λ j i o at. subst (IsOwner t) (one_participant (owner_of (new_participant client opened)) j i o at)
          record { names = λ name x e. absurd (no_transaction name x e); keys = λ name x key e _. absurd (no_transaction name x e); direct = λ key e. let q : None ≡ Some key = e in absurd (cc) };
      came = λ j i o at name x key has _. absurd (no_transaction name x (ap (λ (z : Owner). finite.get z.transactions name) (one_participant (owner_of (new_participant client opened)) j i o at) ∙ has));
      apart = record {
        names = λ j i k l o p name x y at _ e _. absurd (no_transaction name x (ap (λ (z : Owner). finite.get z.transactions name) (one_participant (owner_of (new_participant client opened)) j i o at) ∙ e));
        direct = λ j i k l o p key at _ e _. let q : None ≡ Some key = ap (λ (z : Owner). z.direct) (one_participant (owner_of (new_participant client opened)) j i o at) ∙ e in absurd (cc);
      };
      names_had = λ name c e. absurd (nobody_named (named opened name) c (sym (locks.names name) ∙ e));
      names_left = λ name e. was_named name (ap is_some e);
      keys_live = key_live;
      keys_known = λ key name e j i o at x has. absurd (no_transaction name x (ap (λ (z : Owner). finite.get z.transactions name) (one_participant (owner_of (new_participant client opened)) j i o at) ∙ has));
      keys_direct = λ key c e. absurd (no_client_holds opened (holder_of opened key) c (sym (locks.keys key) ∙ e));
      unchanged = λ key name p is e. held_unchanged opened key p legal (found_named opened name p is).0 (key_changed key name p is e);
      beyond = λ key name p is e. inl (key_changed key name p is e);
    };
    holders = record {
      names = λ name live. inr (was_named name live);
      keys = λ key holder e. inr (sym (locks.keys key) ∙ e);
      found = λ j i key holder seen account k. absurd (no_past (found key holder seen account) (j, i, k));
    };
    board = record { labels = λ label n e. ⊎_elim (λ k. absurd (no_past (told label n) k)) (λ k. absurd (no_past (heard label n) k)) e; numbers = λ label n e. absurd (none_some _ n (no_label label) e); heard = λ label n k. absurd (no_past (heard label n) k); told = λ label n k. absurd (no_past (told label n) k) };
    faults = record {
      log = refl;
      tables = refl;
      not_logged = λ e. inl refl;
      stopped = λ n k. absurd (no_past (stopped n) k);
      based = λ n base k. absurd (no_past (based_at n base) k);
      failed = λ entries k. absurd (no_past (log_failed entries) k);
      renewing = λ q. absurd (true≢false (sym q));
      of_log = λ entries k. absurd (no_past (log_failed entries) k);
      behind = λ k. absurd (no_past log_stopped k);
      unfailed = λ k. absurd (no_past log_stopped k);
    };
    edits = record {
      last = inl refl;
      rises = λ n k. ⊎_elim (λ (q : n ≡ edit.flushed). omega (arith, q)) (λ (h : (x : Event) × (raised_to x ≡ Some n) × IsPast (([] ∷ []) ∷ []) x). absurd (no_past h.0 h.2)) k;
      placed = inl refl;
      risen = λ renewal k. absurd (no_past (renewed renewal) k);
      found = λ n base tables due halted k. absurd (no_past (found_edit n base tables due halted) k);
      found_base = λ n base tables due halted k. absurd (no_past (found_edit n base tables due halted) k);
      based = λ n base k. absurd (no_past (based_at n base) k);
      few = λ j i n base tables due halted k less. absurd (no_past (found_edit n base tables due halted) (j, i, k));
      edit = λ j i past at. inl (ap (last_installed edit) (one_participant [] j i past at));
      tables = λ j i past at. inl (subst (λ (z : List Event). tables_due edit z ≤ edit.tables) (one_participant [] j i past at) (omega arith));
      failed = λ last failing k. absurd (no_past (tables_failed last failing) k);
      found_halted = λ n base tables due k. absurd (no_past (found_edit n base tables due true) k);
      none_failed = λ _. refl;
    };
    pending = λ _. refl;
    held = λ j held at. subst (AreHeld all_free (content_of world) j) (one [] held j at) tt;
    have = λ turn j e. absurd (no_turn turn j e);
    readers = λ j x at r e. let q : None ≡ Some r = ap (λ (z : List Registration × Option Observed). z.1) (one ([], None) x j at) ∙ e in absurd (cc);
    viewed = λ j i x at. subst HasSeen (one_participant (opened, []) j i x at) (λ r h. absurd h);
    judged = λ j x at r visible e. let q : None ≡ Some r = ap (λ (z : List Registration × Option Observed). z.1) (one ([], None) x j at) ∙ e in absurd (cc);
    noted = λ j x at fact k. absurd (subst (λ (z : Participant × List Fact). IsIn fact z.1) (sym (one (new_participant client opened, []) x j at)) k);
    led = record { first = record { live = true; made = 0; joined = [] }; there = refl; live = refl; counted = refl; others = λ j s at ne. subst (λ (z : Role). (z.made ≡ 0) × (z.joined ≡ [])) (one (record { live = true; made = 0; joined = [] }) s j at) (refl, refl) };
    idle = λ j a at dead. let q : true ≡ false = ap (λ (z : Actor). z.live) (one (new_actor true client opened) a j at) ∙ dead in absurd (true≢false q);
  }

-- ---- any opening

same_world : (w : World) (o : IsOpening w) → w ≡ opened_world w.opened w.cache w.delayed_flag w.writes.logged w.store w.locks w.first_edit o.client
same_world w o =
    λ i. record {
      opened = w.opened;
      max_evicted = o.max_evicted i;
      delayed_flag = w.delayed_flag;
      old_flag = o.old_flag i;
      cache = w.cache;
      holders = o.holders i;
      writes = record { history = o.history i; pending = o.pending i; logged = w.writes.logged; log = o.log i; closed = o.running_log i; stopped = o.unstopped i; failed = o.none_failed i; segment = o.segment i; next = o.none_next i };
      prepared = record { heap = o.heap i; delayed = o.delayed i; delayed_commits = o.delayed_commits i };
      snapshots = o.snapshots i;
      store = w.store;
      locks = w.locks;
      installed = record { last = o.first_edit i; failed = o.not_failed i; halted = o.running i };
      first_edit = w.first_edit;
      actors = o.actors i;
    }

pub opening_is_sound : (w : World) → IsOpening w → IsSound w
opening_is_sound w o =
    subst IsSound (sym (same_world w o))
    (opened_is_sound w.opened w.cache w.delayed_flag w.writes.logged w.store w.locks w.first_edit o.client o.legal o.closed_undo o.words o.cache o.delayed_flag o.delayed_free
    (subst (λ (z : World). IsStored z.opened [] z.first_edit.segment.base z.snapshots z.store z.installed) (same_world w o) o.versions)
    (subst (λ (z : World). IsOfEdit z.store z.installed.last) (same_world w o) o.in_step)
    o.locks)
