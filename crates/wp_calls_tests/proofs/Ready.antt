-- What each call leaves of a client that was ready.
use Rattle.std.proofs.Common.{◌≡◌, ◌≢◌, ⊎_elim, inl, inr, ℕ, zero, suc, ◌≤◌, Bool, true, false, List, [], ◌∷◌, ◌++◌, length, refl, sym, subst, ap, ◌∙◌, Option, Some, None, arith}
use Rattle.std.specs.Prelude.{IfSome, AllPairs, Result, Ok, Err}
use Rattle.std.specs.FinMap as finite
use Rattle.std.specs.Str.{bytes_eq}
use Rattle.std.proofs.lemmas.Bool.{cases_lt}
use Rattle.std.proofs.lemmas.Slice.Eq.{bytes_eq-Decides}
use Rattle.wp_model.specs.declared.change.Change.{Change}
use Rattle.wp_model.specs.declared.entry.Entry.{Entry}
use Rattle.wp_model.specs.declared.entry.Entry.TheVariants.{Write}
use Rattle.wp_model.specs.Batch.{key_of}
use Rattle.wp_model.specs.History.{entry_at}
use Rattle.wp_model.specs.LockState.{is_among_keys}
use Rattle.wp_model.proofs.Entries.{entry_at_old, entry_at_past}
use Rattle.wp_model.proofs.Keyed.{else_inserted, else_removed}
use Rattle.wp_history_laws.proofs.Growth.{entry_at_next, length_next}
use Rattle.wp_core.specs.Lists.{IsIn}
use Rattle.wp_core.specs.Reading.{Registration}
use Rattle.wp_core.specs.Sound.Actors.{StartsWith}
use Rattle.wp_core.specs.Sound.Snapshots.{has_versions, has_versions_at}
use Rattle.wp_core.specs.Views.{Fact, undecided_at}
use Rattle.wp_core.specs.World.{Participant}
use Rattle.wp_core.proofs.KeepsSeen.{shorter}
use Rattle.wp_shared.specs.Calls.{ContinuesWith, Continues, IsLoose}
use Rattle.wp_shared.specs.Seats.{SharedState, SeatState}
use Rattle.wp_open_txns.specs.declared.error.TxnError.{TxnError}
use Rattle.wp_open_txns.specs.declared.error.TxnError.TheVariants.{Memory, Busy, TooMany, Conflict, Unknown, InUse, NumbersFull, LogFault, Stopped}
use Rattle.wp_open_txns.specs.declared.validating.Locked.{Locked}
use Rattle.wp_open_txns.specs.declared.validating.Locked.TheVariants.{Own, Read}
use Rattle.wp_open_txns.specs.Calls.{Changes, Pins, LocksForRead, Takes, TakesPrepared, GivesUp, locking}
use Rattle.wp_open_txns.specs.Turns.{IsApartFrom}
use Rattle.wp_open_txns.specs.Txn.{OpenState, PreparedState, has_key, HasOpen, HasPrepared}
use Rattle.wp_txn.specs.Groups.{ArePrepared}
use Rattle.wp_txn.specs.Writes.{Refuses, WritesDirect}
use Rattle.wp_maint.specs.declared.done.Done.{Done}
use Rattle.wp_maint.specs.declared.error.MaintError.{MaintError}
use Rattle.wp_maint.specs.declared.error.MaintError.TheVariants as maint
use Rattle.wp_maint.specs.declared.renewed.Renewed.{Renewed}
use Rattle.wp_maint.specs.declared.renewed.RenewError.{RenewError}
use Rattle.wp_maint.specs.declared.renewed.RenewError.TheVariants as renew
use Rattle.wp_maint.specs.Calls.{Flushes}
use Rattle.wp_maint.specs.Renewal.{Renews}
use Rattle.wp_compact.specs.Calls.{Compacts}
use Rattle.wp_calls_tests.specs.Ready.{HasSnapshot, IsFirst, IsReader, IsWriter}

-- ---- versions

version_within : (history : List Entry) (p : ℕ) → has_versions_at history p ≡ true → p ≤ length history
version_within history p has =
    elim (cases_lt (length history) p) [
      | inl past ↦ let q : has_versions (entry_at history p) ≡ has_versions None = ap has_versions (entry_at_past history p past) in absurd (cc)
      | inr within ↦ within
    ]

-- what has versions has them in a longer history
pub versions_stay : (history seen : List Entry) (p : ℕ) → StartsWith history seen → has_versions_at seen p ≡ true → has_versions_at history p ≡ true
versions_stay history seen p s has =
    ap (λ (h : List Entry). has_versions_at h p) s.1 ∙ (ap has_versions (entry_at_old seen s.0 p (version_within seen p has)) ∙ has)

-- the last entry has versions where it is of a kind that has
pub last_version : (seen history : List Entry) (entry : Entry) (n : ℕ) → n ≡ length seen → seen ≡ history ++ entry ∷ [] → has_versions (Some entry) ≡ true → has_versions_at seen n ≡ true
last_version seen history entry n is ends has =
    ap (λ (h : List Entry). has_versions_at h n) ends
    ∙ (ap (has_versions_at (history ++ entry ∷ [])) (is ∙ (ap (λ (h : List Entry). length h) ends ∙ length_next history entry)) ∙ (ap has_versions (entry_at_next history entry) ∙ has))

not_equal : (a b : List ℕ) → a ≢ b → (t : Bool) → bytes_eq a b ≡ t → t ≡ false
not_equal a b ne true e = absurd (ne ((bytes_eq-Decides a b).0 e))
not_equal a b ne false e = refl

two_differ : (a b : List ℕ) → a ≢ b → AllPairs ◌≢◌ (a ∷ b ∷ [])
two_differ a b ne zero zero d below within = absurd (omega (arith, below))
two_differ a b ne zero (suc zero) d below within = ne
two_differ a b ne zero (suc (suc j)) d below within = absurd (omega (arith, within))
two_differ a b ne (suc i) j d below within = absurd (omega (arith, below, within))

pub both_prepared : (s : SeatState) (txns : List PreparedState) (first second : PreparedState) → txns ≡ first ∷ second ∷ [] → HasPrepared s first → HasPrepared s second → second.name ≢ first.name → ArePrepared s txns
both_prepared s txns first second are has_first has_second apart = subst (ArePrepared s) (sym are) ((has_first, (has_second, tt)), two_differ first.name second.name (λ same. apart (sym same)))

if_stays : {A : Type 0} (P Q : A → Type 0) (o : Option A) → ((x : A) → P x → Q x) → IfSome o P → IfSome o Q
if_stays P Q None f k = tt
if_stays P Q (Some x) f k = f x k

-- ---- the client that writes

module _ {D : Type 0} (z : SharedState D) (old new : SeatState) (direct : old.knows.participant.direct ≡ None) where
  -- the seat goes on as a participant that writes nothing directly
  pub wrote : (Stays : Fact → Type 0) (after : Participant) (goes : ContinuesWith Stays z old new after) (b : Option OpenState) (p : Option PreparedState) → after.direct ≡ None
      → IfSome b (HasOpen new) → IfSome p (HasPrepared new) → IsWriter z new b p
  wrote Stays after goes b p none has_b has_p = record {
    free = goes.free;
    direct = ap (λ (x : Participant). x.direct) goes.participant ∙ none;
    has_begun = has_b;
    has_prepared = has_p;
  }

  -- what it has prepared it has still
  prepared_still : (Stays : Fact → Type 0) (after : Participant) (goes : ContinuesWith Stays z old new after) (t : PreparedState) → Stays (undecided_at t.name t.number)
      → finite.get after.transactions t.name ≡ finite.get old.knows.participant.transactions t.name → HasPrepared old t → HasPrepared new t
  prepared_still Stays after goes t stays same h = record {
    transaction = h.transaction;
    has = ap (λ (x : Participant). finite.get x.transactions t.name) goes.participant ∙ (same ∙ h.has);
    batch_is = h.batch_is;
    keys = h.keys;
    noted = goes.notes (undecided_at t.name t.number) stays h.noted;
    seen = let more = shorter new.knows.participant.seen old.knows.participant.seen goes.seen in let low = h.seen in omega (arith, more, low);
    stands = let s = goes.seen in ap (λ (l : List Entry). entry_at l t.number) s.1 ∙ (entry_at_old old.knows.participant.seen s.0 t.number h.seen ∙ h.stands);
  }

  kept_with : (Stays : Fact → Type 0) → ((name : List ℕ) (n : ℕ) → Stays (undecided_at name n)) → (after : Participant) (goes : ContinuesWith Stays z old new after) → after.transactions ≡ old.knows.participant.transactions → after.direct ≡ old.knows.participant.direct
      → (p : Option PreparedState) → IfSome p (HasPrepared old) → IsWriter z new None p
  kept_with Stays stays after goes same as_before p has =
      wrote Stays after goes None p (as_before ∙ direct) tt (if_stays _ _ p (λ t h. prepared_still Stays after goes t (stays t.name t.number) (ap (λ ts. finite.get ts t.name) same) h) has)

  kept : (after : Participant) (goes : Continues z old new after) → after.transactions ≡ old.knows.participant.transactions → after.direct ≡ old.knows.participant.direct
      → (p : Option PreparedState) → IfSome p (HasPrepared old) → IsWriter z new None p
  kept after goes same as_before p has = kept_with IsLoose (λ name n. refl) after goes same as_before p has

  -- why a call put no entries there
  refused_as : (needed : ℕ) (Asks : List Entry → Type 0) (found after : Participant) (why : TxnError) → after.transactions ≡ old.knows.participant.transactions → after.direct ≡ old.knows.participant.direct
      → Refuses z old new needed Asks found after why → (p : Option PreparedState) → IfSome p (HasPrepared old) → IsWriter z new None p
  refused_as needed Asks found after Memory t d c = kept _ c t d
  refused_as needed Asks found after (Stopped n) t d c = kept _ c.2 t d
  refused_as needed Asks found after (NumbersFull published limit) t d c = kept _ c.4 t d
  refused_as needed Asks found after LogFault t d c = kept _ c.2.2 t d
  refused_as needed Asks found after other t d c = absurd c

  -- ---- an open transaction

  locking_direct : (t : Bool) (name key : List ℕ) (x : Participant) → (locking t name key x).direct ≡ x.direct
  locking_direct true name key x = refl
  locking_direct false name key x = refl

  pub changed : (txn : OpenState) (change : Change) (answer : Result (Unit {0}) TxnError) (left : OpenState) → Changes z old txn change answer new left → IsWriter z new (Some left) None
  changed txn change (Ok done) left c = wrote IsLoose _ c.3 (Some left) None (locking_direct (has_key txn.batch txn.locked (key_of change)) txn.name (key_of change) old.knows.participant ∙ direct) c.1 tt
  changed txn change (Err TooMany) left c = wrote IsLoose _ c.3 (Some left) None direct c.1 tt
  changed txn change (Err (Busy holder)) left c = wrote IsLoose _ c.5.goes_on (Some left) None direct c.1 tt
  changed txn change (Err (Conflict number)) left c = wrote IsLoose _ c.4.goes_on (Some left) None direct c.1 tt
  changed txn change (Err Memory) left c = wrote IsLoose _ c.2 (Some left) None direct c.1 tt
  changed txn change (Err other) left c = absurd c

  pub pinned : (txn : OpenState) (answer : Result ℕ TxnError) (left : OpenState) → Pins z old txn answer new left → IsWriter z new (Some left) None
  pinned txn (Ok n) left c = wrote IsLoose _ c.6 (Some left) None direct c.2 tt
  pinned txn (Err Memory) left c = wrote IsLoose _ c.2 (Some left) None direct c.1 tt
  pinned txn (Err other) left c = absurd c

  pub locked : (txn : OpenState) (key : List ℕ) (answer : Result Locked TxnError) (left : OpenState) → LocksForRead z old txn key answer new left → IsWriter z new (Some left) None
  locked txn key (Ok Own) left c = wrote IsLoose _ c.3 (Some left) None direct c.1 tt
  locked txn key (Ok (Read value n)) left c = wrote IsLoose _ c.2.goes_on (Some left) None (locking_direct (is_among_keys txn.locked key) txn.name key old.knows.participant ∙ direct) c.1 tt
  locked txn key (Err TooMany) left (no_change, k) = wrote IsLoose _ k.3 (Some left) None direct k.1 tt
  locked txn key (Err (Busy holder)) left (no_change, k) = wrote IsLoose _ k.5.goes_on (Some left) None direct k.1 tt
  locked txn key (Err (Conflict number)) left (no_change, k) = wrote IsLoose _ k.4.goes_on (Some left) None direct k.1 tt
  locked txn key (Err Memory) left c = ⊎_elim (λ keeps. wrote IsLoose _ keeps (Some left) None direct c.1 tt) (λ given. wrote IsLoose _ given.goes_on (Some left) None direct c.1 tt) c.3
  locked txn key (Err other) left (no_change, k) = absurd k

  -- ---- two prepared transactions

  pub not_taken : (name : List ℕ) (why : TxnError) (t : PreparedState) → HasPrepared old t → TakesPrepared z old name (Err why) new → IsWriter z new None (Some t)
  not_taken name (Unknown other at) t has c = kept _ c.3 refl refl (Some t) has
  not_taken name (InUse other) t has c = kept _ c.1.goes_on refl refl (Some t) has
  not_taken name Memory t has c = kept _ c refl refl (Some t) has
  not_taken name other t has c = absurd c

  pub taken : (name : List ℕ) (t left : PreparedState) → HasPrepared old t → Takes z old name left new → IsWriter z new None None × HasPrepared new left × HasPrepared new t × (t.name ≢ left.name)
  taken name t left has c =
      let apart : t.name ≢ name = λ same. let e : Some has.transaction ≡ None = sym has.has ∙ (ap (finite.get old.knows.participant.transactions) same ∙ c.not_had) in absurd cc in (
        wrote IsLoose _ c.goes_on None None direct tt tt,
        c.has,
        prepared_still IsLoose _ c.goes_on t refl (else_inserted old.knows.participant.transactions name c.has.transaction t.name apart) has,
        (λ same. apart (same ∙ c.name_is)),
      )

  -- another one is left
  pub left_beside : (t left : PreparedState) → t.name ≢ left.name → HasPrepared old t → GivesUp z old new left.name → IsWriter z new None (Some t)
  left_beside t left apart has c =
      wrote (IsApartFrom left.name) _ c None (Some t) direct tt
      (prepared_still (IsApartFrom left.name) _ c t (refl, not_equal left.name t.name (λ same. apart (sym same)) (bytes_eq left.name t.name) refl) (else_removed old.knows.participant.transactions left.name t.name apart) has)

  -- ---- a direct write

  abbrev asks_write : Change → List Entry → Type 0
  asks_write change entries = entries ≡ Write (change ∷ []) ∷ []

  pub has_written : (change : Change) (n : ℕ) (p : Option PreparedState) → IfSome p (HasPrepared old) → WritesDirect z old change (Ok n) new → IsWriter z new None p
  has_written change n p has c = kept_with _ (λ name m. (refl, (refl, tt))) _ c.1.1.goes_on refl refl p has

  pub written_version : (change : Change) (n : ℕ) → WritesDirect z old change (Ok n) new → has_versions_at new.knows.participant.seen n ≡ true
  written_version change n c = last_version new.knows.participant.seen c.1.0 (Write (change ∷ [])) n c.0 c.1.1.seen refl

  pub not_written : (change : Change) (why : TxnError) (p : Option PreparedState) → IfSome p (HasPrepared old) → WritesDirect z old change (Err why) new → IsWriter z new None p
  not_written change (Busy holder) p has c = kept _ c.goes_on refl refl p has
  not_written change Memory p has c = ⊎_elim (λ none. kept _ none refl refl p has) (λ freed. kept _ freed.0 refl refl p has) c
  not_written change (Stopped n) p has c = refused_as 1 (asks_write change) _ _ (Stopped n) refl refl c.0 p has
  not_written change (NumbersFull published limit) p has c = refused_as 1 (asks_write change) _ _ (NumbersFull published limit) refl refl c.0 p has
  not_written change LogFault p has c = refused_as 1 (asks_write change) _ _ LogFault refl refl c.0 p has
  not_written change other p has c = absurd c.0

-- ---- the client that reads

in_back : (xs : List Registration) (r : Registration) → IsIn r (xs ++ r ∷ [])
in_back [] r = inl refl
in_back (x ∷ xs) r = inr (in_back xs r)

module _ {D : Type 0} (z : SharedState D) (old new : SeatState) (v : Option ℕ) where
  -- the seat goes on with this snapshot, and writes nothing directly
  pub went : (Stays : Fact → Type 0) (o : Option Registration) (after : Participant) → after.direct ≡ None → ContinuesWith Stays z old new after → IfSome o (λ r. IsIn r after.registered) → IfSome v (λ p. has_versions_at old.knows.participant.seen p ≡ true) → IsReader z new o v
  went Stays o after none goes has_o has_v = record {
    free = goes.free;
    direct = ap (λ (x : Participant). x.direct) goes.participant ∙ none;
    registered = subst (λ (x : Participant). IfSome o (λ r. IsIn r x.registered)) (sym goes.participant) has_o;
    has_version = if_stays _ _ v (λ p has. versions_stay new.knows.participant.seen old.knows.participant.seen p goes.seen has) has_v;
  }

  pub snapped : (r : Registration) → old.knows.participant.direct ≡ None → Continues z old new (record old.knows.participant { registered = old.knows.participant.registered ++ r ∷ [] }) → IfSome v (λ p. has_versions_at old.knows.participant.seen p ≡ true) → IsReader z new (Some r) v
  snapped r none goes has = went IsLoose (Some r) _ none goes (in_back old.knows.participant.registered r) has

  -- however a direct write ends
  pub put : (o : Option Registration) → IsReader z old o v → (change : Change) (answer : Result ℕ TxnError) → WritesDirect z old change answer new → IsReader z new o v
  put o was change (Ok n) c = went _ o _ was.direct c.1.1.goes_on was.registered was.has_version
  put o was change (Err (Busy holder)) c = went IsLoose o _ was.direct c.goes_on was.registered was.has_version
  put o was change (Err Memory) c = ⊎_elim (λ none. went IsLoose o _ was.direct none was.registered was.has_version) (λ freed. went IsLoose o _ was.direct freed.0 was.registered was.has_version) c
  put o was change (Err (Stopped n)) c = went IsLoose o _ was.direct c.0.2 was.registered was.has_version
  put o was change (Err (NumbersFull published limit)) c = went IsLoose o _ was.direct c.0.4 was.registered was.has_version
  put o was change (Err LogFault) c = went IsLoose o _ was.direct c.0.2.2 was.registered was.has_version
  put o was change (Err other) c = absurd c.0

  -- however versions were moved
  same : (o : Option Registration) → IsReader z old o v → (after : Participant) → Continues z old new after → after.direct ≡ old.knows.participant.direct → after.registered ≡ old.knows.participant.registered → IsReader z new o v
  same o was after goes direct registered = went IsLoose o after (direct ∙ was.direct) goes (subst (λ rs. IfSome o (λ r. IsIn r rs)) (sym registered) was.registered) was.has_version

  pub flushed : (o : Option Registration) → IsReader z old o v → (answer : Result Done MaintError) → Flushes z old answer new → IsReader z new o v
  flushed o was (Err maint.Memory) (t, goes) = same o was _ goes refl refl
  flushed o was (Err maint.Nothing) (t, (whole, k)) = same o was _ k.goes_on refl refl
  flushed o was (Err maint.TableFault) (t, (whole, k)) = same o was _ k.goes_on refl refl
  flushed o was _ (t, k) = same o was _ k.goes_on refl refl

  pub compacted : (o : Option Registration) → IsReader z old o v → (answer : Result Done MaintError) → Compacts z old answer new → IsReader z new o v
  compacted o was (Err maint.Memory) (t, goes) = same o was _ goes refl refl
  compacted o was _ (t, k) = same o was _ k.goes_on refl refl

  pub renewed : (o : Option Registration) → IsReader z old o v → (answer : Result Renewed RenewError) → Renews z old answer new → IsReader z new o v
  renewed o was (Err renew.Memory) (t, k) = same o was _ k.goes_on refl refl
  renewed o was _ (t, k) = same o was _ k.goes_on refl refl

-- ---- the first seat

module _ {D : Type 0} (z : SharedState D) (old new : SeatState) (was : IsFirst z old) where
  pub first_still : (Stays : Fact → Type 0) (after : Participant) → ContinuesWith Stays z old new after → IsFirst z new
  first_still Stays after goes = record { free = goes.free; first = goes.same_by ∙ was.first; made = goes.made ∙ was.made; joined = goes.joined ∙ was.joined }

  pub has_snapshot : (r : Registration) → Continues z old new (record old.knows.participant { registered = old.knows.participant.registered ++ r ∷ [] }) → HasSnapshot z (new, r)
  has_snapshot r goes = (first_still IsLoose _ goes, subst (λ (x : Participant). IsIn r x.registered) (sym goes.participant) (in_back old.knows.participant.registered r))

  pub snapshot_still : (r : Registration) → IsIn r old.knows.participant.registered → Continues z old new old.knows.participant → HasSnapshot z (new, r)
  snapshot_still r has goes = (first_still IsLoose _ goes, subst (λ (x : Participant). IsIn r x.registered) (sym goes.participant) has)
