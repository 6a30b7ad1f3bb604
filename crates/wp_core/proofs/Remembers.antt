-- What is so of all pasts, once one actor's past has an event more that installs nothing and is no fault.
use Rattle.std.proofs.Common.{◌≡◌, ◌⊎◌, ⊎_elim, inl, inr, ℕ, ◌+◌, ◌≤◌, ◌<◌, Bool, true, false, true≢false, List, [], ◌∷◌, ◌++◌, length, map, set, refl, sym, subst, ap, ◌∙◌, arith, Option, is_some, Some, None, ◌≢◌}
use Rattle.std.proofs.lemmas.List.Sums.{fold-append}
use mathlib.Core.Option.{some}
use lib.ListN.{get_elem?}
use Rattle.std.specs.FinMap as finite
use Rattle.wp_model.specs.declared.segment.Segment.{Segment}
use Rattle.wp_model.specs.declared.entry.Entry.{Entry}
use Rattle.wp_model.specs.declared.holder.Holder.{Holder}
use Rattle.wp_model.specs.declared.holder.Holder.TheVariants.{Txn, Client}
use Rattle.wp_model.specs.LockState.{LockState}
use Rattle.wp_core.specs.States.{WriteState, Installed}
use Rattle.wp_model.specs.Flushed.{InstalledEdit}
use Rattle.wp_core.specs.Views.{Account, own, another, prepare_at, Event, claimed, took, locked, told, heard, installed, renewed, log_failed, log_stopped, tables_failed, stopped, based_at, found_edit, found}
use Rattle.wp_core.specs.World.{Actor}
use Rattle.wp_core.specs.Sound.Actors.{participants_of, IsParticipantAt}
use Rattle.wp_core.specs.Sound.Pasts.{past_of, HasDone, IsPast, HasBegun, MadeHolder, IsAccounted, WasLocked, AreHolders, IsBoard, closes_log, is_tables_fault, NoneBetween, AreFaults, raised_to, WasInstalled, WasPlaced, WasBased, due_after, tables_due, last_after, last_installed, OtherDid, OtherInstalls, OtherCompacts, AreEdits}
use Rattle.wp_core.proofs.AllParticipants.{mine, was_apart}
use Rattle.wp_core.proofs.PastsGrow.{at_place, done_still, done_before, past_still, past_last, past_before, times_more}

-- it installs nothing, is no fault, and closes no log
pub record IsQuiet (e : Event) : Type 0 where
  pub log : closes_log e ≡ false
  pub tables : is_tables_fault e ≡ false
  pub due : (n : ℕ) → due_after n e ≡ n
  pub last : (edit : InstalledEdit) → last_after edit e ≡ edit

-- it finds no holder, no closed log, no base and no edit
abbrev pub FindsNothing : Event → Type 0
FindsNothing (found key holder seen account) = ⊥
FindsNothing (stopped n) = ⊥
FindsNothing (based_at n base) = ⊥
FindsNothing (found_edit n base tables due halted) = ⊥
FindsNothing e = Unit {0}

-- it tells and hears nothing
abbrev pub TellsNothing : Event → Type 0
TellsNothing (told label n) = ⊥
TellsNothing (heard label n) = ⊥
TellsNothing e = Unit {0}

-- what leaves each last edit raises no flushed number
pub not_raised : (e : Event) (edit : InstalledEdit) → ((x : InstalledEdit) → last_after x e ≡ x) → (n : ℕ) → raised_to e ≡ Some n → ⊥
not_raised (installed new false) edit last n is = one_edit new edit last
  where
    one_edit : (new edit : InstalledEdit) → ((x : InstalledEdit) → new ≡ x) → ⊥
    one_edit new edit last = let one : new.tables ≡ edit.tables = ap (λ (x : InstalledEdit). x.tables) (last edit) in let two : new.tables ≡ edit.tables + 1 = ap (λ (x : InstalledEdit). x.tables) (last (record edit { tables = edit.tables + 1 })) in absurd (omega (arith, one, two))
not_raised (renewed new) edit last n is =
    let one : new.tables ≡ edit.tables = ap (λ (x : InstalledEdit). x.tables) (last edit) in let two : new.tables ≡ edit.tables + 1 = ap (λ (x : InstalledEdit). x.tables) (last (record edit { tables = edit.tables + 1 })) in absurd (omega (arith, one, two))
not_raised other edit last n is = absurd cc

-- the base of such a segment
pub based_of : (first : InstalledEdit) (pasts : List (List (List Event))) (segment : Segment) → WasPlaced first pasts segment → WasBased first pasts segment.base
based_of first pasts segment (inl same) = inl (ap (λ (s : Segment). s.base) same)
based_of first pasts segment (inr (edit, same, there)) = inr (edit, ap (λ (s : Segment). s.base) same, there)

module _ (xs : List Actor) (by : ℕ) (a b : Actor) (e : Event) (at : get_elem? xs by ≡ some a) (same : b.joined ≡ a.joined) (grown : b.participant.past ≡ a.participant.past ++ e ∷ []) where
  abbrev before : List (List (List Event))
  before = map (participants_of past_of) xs

  abbrev after : List (List (List Event))
  after = map (participants_of past_of) (set xs by b)

  begun_still : (j i : ℕ) (name : List ℕ) → HasBegun before j i name → HasBegun after j i name
  begun_still j i name (inl k) = inl (done_still xs by a b e at same grown j i (claimed name) k)
  begun_still j i name (inr k) = inr (done_still xs by a b e at same grown j i (took name) k)

  made_still : (opened history : List Entry) (j i : ℕ) (key : Option (List ℕ)) (holder : Holder) → MadeHolder opened history before j i key holder → MadeHolder opened history after j i key holder
  made_still opened history j i None (Txn name) k = begun_still j i name k
  made_still opened history j i (Some key) (Txn name) (inl (begun, k)) = inl (begun_still j i name begun, done_still xs by a b e at same grown j i (locked key (Txn name)) k)
  made_still opened history j i (Some key) (Txn name) (inr (k, inl has)) = inr (done_still xs by a b e at same grown j i (took name) k, inl has)
  made_still opened history j i (Some key) (Txn name) (inr (k, inr was)) = inr (done_still xs by a b e at same grown j i (took name) k, inr (past_still xs by a b e at same grown (locked key (Txn name)) was))
  made_still opened history j i (Some key) (Client client) k = done_still xs by a b e at same grown j i (locked key (Client client)) k
  made_still opened history j i None (Client client) none = absurd none

  accounted_still : (opened history : List Entry) (j i : ℕ) (key : Option (List ℕ)) (holder : Holder) (seen : ℕ) (account : Account) → IsAccounted opened history before j i key holder seen account → IsAccounted opened history after j i key holder seen account
  accounted_still opened history j i key holder seen own k = made_still opened history j i key holder k
  accounted_still opened history j i key holder seen another (l, m, apart, k) = (l, m, apart, made_still opened history l m key holder k)
  accounted_still opened history j i key (Txn name) seen (prepare_at n) (inl k) = inl k
  accounted_still opened history j i None (Txn name) seen (prepare_at n) (inr k) = absurd k.1
  accounted_still opened history j i (Some key) (Txn name) seen (prepare_at n) (inr k) = inr (k.0, past_still xs by a b e at same grown (locked key (Txn name)) k.1)
  accounted_still opened history j i key (Client name) seen (prepare_at n) k = k

  key_still : (opened : List Entry) (key : List ℕ) (holder : Holder) → WasLocked opened before key holder → WasLocked opened after key holder
  key_still opened key holder (inl k) = inl (past_still xs by a b e at same grown (locked key holder) k)
  key_still opened key holder (inr k) = inr k

  pub holders_more : (opened history : List Entry) (t : LockState) → ((key : Option (List ℕ)) (holder : Holder) (seen : ℕ) (account : Account) → e ≡ found key holder seen account → IsAccounted opened history before by 0 key holder seen account)
      → AreHolders opened history t before → AreHolders opened history t after
  holders_more opened history t new k = record {
    names = λ name h. ⊎_elim
        (λ c. inl (⊎_elim (λ p. inl (past_still xs by a b e at same grown _ p)) (λ p. inr (past_still xs by a b e at same grown _ p)) c))
        (λ c. inr c) (k.names name h);
    keys = λ key holder h. key_still opened key holder (k.keys key holder h);
    found = λ j i key holder seen account h. ⊎_elim
        (λ c. accounted_still opened history j i key holder seen account (k.found j i key holder seen account c))
        (λ (c : (j ≡ by) × (i ≡ 0) × (e ≡ found key holder seen account)).
        let is : IsAccounted opened history after by 0 key holder seen account = accounted_still opened history by 0 key holder seen account (new key holder seen account c.2) in
        subst (λ (n : ℕ). IsAccounted opened history after n i key holder seen account) (sym c.0) (subst (λ (n : ℕ). IsAccounted opened history after by n key holder seen account) (sym c.1) is))
        (done_before xs by a b e at same grown j i (found key holder seen account) h);
  }

  -- where it finds nothing, and names and keys that are not of before are its own
  pub holders_new : (opened history : List Entry) (t u : LockState) → FindsNothing e
      → ((name : List ℕ) → is_some (finite.get u.names name) ≡ true → ((e ≡ claimed name) ⊎ (e ≡ took name)) ⊎ (is_some (finite.get t.names name) ≡ true))
      → ((key : List ℕ) (holder : Holder) → finite.get u.keys key ≡ Some holder → (e ≡ locked key holder) ⊎ (finite.get t.keys key ≡ Some holder))
      → AreHolders opened history t before → AreHolders opened history u after
  holders_new opened history t u nothing names keys s =
      let k = holders_more opened history t (λ key holder seen account q. absurd (subst FindsNothing q nothing)) s in
      record {
        names = λ name live. ⊎_elim
            (λ c. inl (⊎_elim (λ q. inl (subst (IsPast after) q (past_last xs by a b e at same grown))) (λ q. inr (subst (IsPast after) q (past_last xs by a b e at same grown))) c))
            (λ c. k.names name c) (names name live);
        keys = λ key holder h. ⊎_elim (λ q. inl (subst (IsPast after) q (past_last xs by a b e at same grown))) (λ c. k.keys key holder c) (keys key holder h);
        found = k.found;
      }

  pub holders_still : (opened history : List Entry) (t : LockState) → FindsNothing e → AreHolders opened history t before → AreHolders opened history t after
  holders_still opened history t nothing k = holders_new opened history t t nothing (λ name live. inr live) (λ key holder h. inr h) k

  pub board_more : (published : ℕ) (t : LockState) → ((label : List ℕ) (n : ℕ) → (e ≡ told label n) ⊎ (e ≡ heard label n) → is_some (finite.get t.labels label) ≡ true)
      → ((label : List ℕ) (n : ℕ) → e ≡ heard label n → IsPast before (told label n)) → ((label : List ℕ) (n : ℕ) → e ≡ told label n → ⊥) → IsBoard published t before → IsBoard published t after
  board_more published t new was_told not_told k = record {
    labels = λ label n h. ⊎_elim
        (λ p. ⊎_elim (λ c. k.labels label n (inl c)) (λ c. new label n (inl c)) (past_before xs by a b e at same grown (told label n) p))
        (λ p. ⊎_elim (λ c. k.labels label n (inr c)) (λ c. new label n (inr c)) (past_before xs by a b e at same grown (heard label n) p)) h;
    numbers = λ label n h. past_still xs by a b e at same grown (told label n) (k.numbers label n h);
    heard = λ label n h. past_still xs by a b e at same grown (told label n) (⊎_elim (λ c. k.heard label n c) (λ c. was_told label n c) (past_before xs by a b e at same grown (heard label n) h));
    told = λ label n h. ⊎_elim (λ c. k.told label n c) (λ c. absurd (not_told label n c)) (past_before xs by a b e at same grown (told label n) h);
  }

  pub board_still : (published : ℕ) (t : LockState) → TellsNothing e → IsBoard published t before → IsBoard published t after
  board_still published t nothing k = board_more published t (λ label n q. absurd (⊎_elim (λ (r : e ≡ told label n). subst TellsNothing r nothing) (λ (r : e ≡ heard label n). subst TellsNothing r nothing) q)) (λ label n q. absurd (subst TellsNothing q nothing)) (λ label n q. subst TellsNothing q nothing) k

  -- where it is a renewal, its base is no lower than what is published
  abbrev pub RenewsAbove : WriteState → Type 0
  RenewsAbove writes = (edit : InstalledEdit) → e ≡ renewed edit → length writes.history ≤ edit.segment.base

  pub bases_still : (writes : WriteState) → RenewsAbove writes → (n base : ℕ) → (n ≤ length writes.history) × NoneBetween before base n → (n ≤ length writes.history) × NoneBetween after base n
  bases_still writes above n base k = let few = k.0 in (
    few,
    λ edit there below. ⊎_elim
        (λ c. k.1 edit c below)
        (λ (q : e ≡ renewed edit). let low = above edit q in absurd (omega (arith, low, few, below)))
        (past_before xs by a b e at same grown (renewed edit) there),
  )

  pub faults_more : (writes : WriteState) (halted : Bool) → closes_log e ≡ false → is_tables_fault e ≡ false → ((n : ℕ) → e ≡ stopped n → (writes.closed ≡ true) × (n ≡ length writes.history))
      → ((n base : ℕ) → e ≡ based_at n base → (n ≤ length writes.history) × NoneBetween before base n) → RenewsAbove writes → AreFaults writes halted before → AreFaults writes halted after
  faults_more writes halted open_ working new filled above k = record {
    log = times_more xs by a b e at same grown closes_log ∙ rw open_ (let z = k.log in omega (arith, z));
    tables = times_more xs by a b e at same grown is_tables_fault ∙ rw working (let z = k.tables in omega (arith, z));
    not_logged = k.not_logged;
    stopped = λ n h. ⊎_elim (λ c. k.stopped n c) (λ c. new n c) (past_before xs by a b e at same grown (stopped n) h);
    based = λ n base h. bases_still writes above n base (⊎_elim (λ c. k.based n base c) (λ c. filled n base c) (past_before xs by a b e at same grown (based_at n base) h));
    failed = λ entries h. ⊎_elim (λ c. k.failed entries c) (λ (q : e ≡ log_failed entries). absurd (true≢false (sym (ap closes_log q) ∙ open_))) (past_before xs by a b e at same grown (log_failed entries) h);
    renewing = k.renewing;
    of_log = λ entries h. ⊎_elim (λ c. k.of_log entries c) (λ (q : e ≡ log_failed entries). absurd (true≢false (sym (ap closes_log q) ∙ open_))) (past_before xs by a b e at same grown (log_failed entries) h);
    behind = λ h. ⊎_elim (λ c. k.behind c) (λ (q : e ≡ log_stopped). absurd (true≢false (sym (ap closes_log q) ∙ open_))) (past_before xs by a b e at same grown log_stopped h);
    unfailed = λ h. ⊎_elim (λ c. k.unfailed c) (λ (q : e ≡ log_stopped). absurd (true≢false (sym (ap closes_log q) ∙ open_))) (past_before xs by a b e at same grown log_stopped h);
  }

  pub installed_still : (first : InstalledEdit) (n : ℕ) → WasInstalled first before n → WasInstalled first after n
  installed_still first n (inl k) = inl k
  installed_still first n (inr (x, raised, k)) = inr (x, raised, past_still xs by a b e at same grown x k)

  pub placed_still : (first : InstalledEdit) (segment : Segment) → WasPlaced first before segment → WasPlaced first after segment
  placed_still first segment (inl k) = inl k
  placed_still first segment (inr (edit, is, k)) = inr (edit, is, past_still xs by a b e at same grown (renewed edit) k)

  based_still : (first : InstalledEdit) (base : ℕ) → WasBased first before base → WasBased first after base
  based_still first base (inl k) = inl k
  based_still first base (inr (edit, is, k)) = inr (edit, is, past_still xs by a b e at same grown (renewed edit) k)

  other_still : (j i : ℕ) (x : Event) → OtherDid before j i x → OtherDid after j i x
  other_still j i x (l, m, apart, k) = (l, m, apart, done_still xs by a b e at same grown l m x k)

  compacts_still : (j i : ℕ) → OtherCompacts before j i → OtherCompacts after j i
  compacts_still j i (edit, k) = (edit, other_still j i _ k)

  installs_still : (j i : ℕ) → OtherInstalls before j i → OtherInstalls after j i
  installs_still j i (x, is, k) = (x, is, other_still j i x k)

  due_same : (first : InstalledEdit) → ((n : ℕ) → due_after n e ≡ n) → tables_due first b.participant.past ≡ tables_due first a.participant.past
  due_same first due = ap (tables_due first) grown ∙ fold-append due_after first.tables a.participant.past (e ∷ []) ∙ due (tables_due first a.participant.past)

  last_same : (first : InstalledEdit) → ((edit : InstalledEdit) → last_after edit e ≡ edit) → last_installed first b.participant.past ≡ last_installed first a.participant.past
  last_same first last = ap (last_installed first) grown ∙ fold-append last_after first a.participant.past (e ∷ []) ∙ last (last_installed first a.participant.past)

  -- what of a found edit is so by itself
  abbrev pub AreFound : InstalledEdit → Type 0
  AreFound first = (n base tables due : ℕ) (halted : Bool) → e ≡ found_edit n base tables due halted → WasInstalled first before n × WasBased first before base × (tables < due → OtherCompacts before by 0)

  -- ... and of a base
  abbrev pub AreBased : InstalledEdit → Type 0
  AreBased first = (n base : ℕ) → e ≡ based_at n base → WasBased first before base

  -- what the edits need, where the last one may be another, and more tables may be due
  pub record EditsGrow (first : InstalledEdit) (t u : Installed) : Type 0 where
    pub last : WasInstalled first after u.last.flushed
    pub placed : WasPlaced first after u.last.segment
    pub rises : t.last.flushed ≤ u.last.flushed
    pub new : (n : ℕ) → raised_to e ≡ Some n → n ≤ u.last.flushed
    pub based : AreBased first
    pub base_rises : t.last.segment.base ≤ u.last.segment.base
    pub renews : (edit : InstalledEdit) → e ≡ renewed edit → (first.segment.base ≤ edit.segment.base) × (edit.segment.base ≤ u.last.segment.base)
    pub found : AreFound first
    pub its_edit : t.last ≡ last_installed first a.participant.past → u.last ≡ last_installed first b.participant.past
    pub their_edit : (j i : ℕ) (past : List Event) → (j ≢ by) ⊎ (i ≢ 0) → t.last ≡ last_installed first past → (u.last ≡ last_installed first past) ⊎ OtherInstalls after j i
    pub its_tables : tables_due first a.participant.past ≤ t.last.tables → tables_due first b.participant.past ≤ u.last.tables
    pub their_tables : (j i : ℕ) (past : List Event) → (j ≢ by) ⊎ (i ≢ 0) → tables_due first past ≤ t.last.tables → (tables_due first past ≤ u.last.tables) ⊎ OtherCompacts after j i
    pub failed : (last : InstalledEdit) (edit : Option InstalledEdit) → IsPast after (tables_failed last edit) → (u.halted ≡ true) × (u.last ≡ last) × (u.failed ≡ edit)
    pub stays : t.halted ≡ true → (u.halted ≡ true) × (u.last ≡ t.last)
    pub found_halted : (n base tables due : ℕ) → e ≡ found_edit n base tables due true → (u.halted ≡ true) × (n ≡ u.last.flushed)
    pub none_failed : u.halted ≡ false → u.failed ≡ None

  few_more : (first : InstalledEdit) (t : Installed) → AreFound first → AreEdits first t before → (j i n base tables due : ℕ) (halted : Bool) → HasDone after j i (found_edit n base tables due halted) → tables < due → OtherCompacts after j i
  few_more first t is_so k j i n base tables due halted h few = ⊎_elim
      (λ (c : HasDone before j i (found_edit n base tables due halted)). compacts_still j i (k.few j i n base tables due halted c few))
      (λ (c : (j ≡ by) × (i ≡ 0) × (e ≡ found_edit n base tables due halted)). at_place (OtherCompacts after) j i by 0 (sym c.0) (sym c.1) (compacts_still by 0 ((is_so n base tables due halted c.2).2 few)))
      (done_before xs by a b e at same grown j i (found_edit n base tables due halted) h)

  risen : (first : InstalledEdit) (t u : Installed) → EditsGrow first t u → AreEdits first t before → (n : ℕ) → WasInstalled first after n → n ≤ u.last.flushed
  risen first t u g k n (inl q) = let was = k.rises n (inl q) in let more = g.rises in omega (arith, was, more)
  risen first t u g k n (inr (x, raised, h)) = ⊎_elim
      (λ (c : IsPast before x). let was = k.rises n (inr (x, raised, c)) in let more = g.rises in omega (arith, was, more))
      (λ (q : e ≡ x). g.new n (ap raised_to q ∙ raised))
      (past_before xs by a b e at same grown x h)

  pub edits_grown : (first : InstalledEdit) (t u : Installed) → EditsGrow first t u → AreEdits first t before → AreEdits first u after
  edits_grown first t u g k = record {
    last = g.last;
    rises = risen first t u g k;
    placed = g.placed;
    risen = λ edit h. ⊎_elim
        (λ c. let was = k.risen edit c in let more = g.base_rises in let low = was.0 in let high = was.1 in (low, omega (arith, high, more)))
        (λ (q : e ≡ renewed edit). g.renews edit q)
        (past_before xs by a b e at same grown (renewed edit) h);
    found = λ n base tables due halted h. installed_still first n (⊎_elim (λ c. k.found n base tables due halted c) (λ c. (g.found n base tables due halted c).0) (past_before xs by a b e at same grown (found_edit n base tables due halted) h));
    found_base = λ n base tables due halted h. based_still first base (⊎_elim (λ c. k.found_base n base tables due halted c) (λ c. (g.found n base tables due halted c).1) (past_before xs by a b e at same grown (found_edit n base tables due halted) h));
    based = λ n base h. based_still first base (⊎_elim (λ c. k.based n base c) (λ c. g.based n base c) (past_before xs by a b e at same grown (based_at n base) h));
    few = few_more first t g.found k;
    edit = λ j i past there. ⊎_elim
        (λ (c : (j ≡ by) × (i ≡ 0) × (past ≡ b.participant.past)).
        ⊎_elim
        (λ (d : t.last ≡ last_installed first a.participant.past). inl (g.its_edit d ∙ ap (last_installed first) (sym c.2)))
        (λ (d : OtherInstalls before by 0). inr (at_place (OtherInstalls after) j i by 0 (sym c.0) (sym c.1) (installs_still by 0 d)))
        (k.edit by 0 a.participant.past (mine past_of xs by a b at same)))
        (λ (c : ((j ≢ by) ⊎ (i ≢ 0)) × IsParticipantAt before j i past).
        ⊎_elim
        (λ (d : t.last ≡ last_installed first past). g.their_edit j i past c.0 d)
        (λ (d : OtherInstalls before j i). inr (installs_still j i d))
        (k.edit j i past c.1))
        (was_apart past_of xs by a b at same j i past there);
    tables = λ j i past there. ⊎_elim
        (λ (c : (j ≡ by) × (i ≡ 0) × (past ≡ b.participant.past)).
        ⊎_elim
        (λ (d : tables_due first a.participant.past ≤ t.last.tables). inl (subst (λ (p : List Event). tables_due first p ≤ u.last.tables) (sym c.2) (g.its_tables d)))
        (λ (d : OtherCompacts before by 0). inr (at_place (OtherCompacts after) j i by 0 (sym c.0) (sym c.1) (compacts_still by 0 d)))
        (k.tables by 0 a.participant.past (mine past_of xs by a b at same)))
        (λ (c : ((j ≢ by) ⊎ (i ≢ 0)) × IsParticipantAt before j i past).
        ⊎_elim
        (λ (d : tables_due first past ≤ t.last.tables). g.their_tables j i past c.0 d)
        (λ (d : OtherCompacts before j i). inr (compacts_still j i d))
        (k.tables j i past c.1))
        (was_apart past_of xs by a b at same j i past there);
    failed = g.failed;
    found_halted = λ n base tables due h. ⊎_elim
        (λ (c : IsPast before (found_edit n base tables due true)). let was = k.found_halted n base tables due c in let stays = g.stays was.0 in (stays.0, was.1 ∙ ap (λ (edit : InstalledEdit). edit.flushed) (sym stays.1)))
        (λ (q : e ≡ found_edit n base tables due true). g.found_halted n base tables due q)
        (past_before xs by a b e at same grown (found_edit n base tables due true) h);
    none_failed = g.none_failed;
  }

  -- the same where the event installs nothing and is no fault of the tables' devices
  pub edits_still : (first : InstalledEdit) (t : Installed) → ((n : ℕ) → due_after n e ≡ n) → ((edit : InstalledEdit) → last_after edit e ≡ edit) → is_tables_fault e ≡ false → AreFound first → AreBased first
      → ((n base tables due : ℕ) → e ≡ found_edit n base tables due true → (t.halted ≡ true) × (n ≡ t.last.flushed)) → AreEdits first t before → AreEdits first t after
  edits_still first t due last working is_so based_so halted_so k = edits_grown first t t record {
    last = installed_still first t.last.flushed k.last;
    placed = placed_still first t.last.segment k.placed;
    rises = omega arith;
    new = λ n q. absurd (not_raised e first last n q);
    based = based_so;
    base_rises = omega arith;
    renews = λ edit q. absurd (not_raised e first last edit.flushed (ap raised_to q));
    found = is_so;
    its_edit = λ d. d ∙ sym (last_same first last);
    their_edit = λ j i past elsewhere d. inl d;
    its_tables = λ le. subst (λ (n : ℕ). n ≤ t.last.tables) (sym (due_same first due)) le;
    their_tables = λ j i past elsewhere le. inl le;
    failed = λ last edit h. ⊎_elim (λ c. k.failed last edit c) (λ (q : e ≡ tables_failed last edit). absurd (true≢false (sym (ap is_tables_fault q) ∙ working))) (past_before xs by a b e at same grown (tables_failed last edit) h);
    stays = λ halted. (halted, refl);
    found_halted = halted_so;
    none_failed = k.none_failed;
  } k

  pub edits_more : (first : InstalledEdit) (t : Installed) → IsQuiet e → AreFound first → AreBased first → ((n base tables due : ℕ) → e ≡ found_edit n base tables due true → (t.halted ≡ true) × (n ≡ t.last.flushed)) → AreEdits first t before → AreEdits first t after
  edits_more first t quiet is_so based_so halted_so k = edits_still first t quiet.due quiet.last quiet.tables is_so based_so halted_so k
