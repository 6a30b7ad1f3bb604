-- A transaction that its entries end, and one that is prepared.
use Rattle.std.proofs.Common.{◌≡◌, inl, ℕ, false, List, [], ◌∷◌, ◌++◌, length, refl, sym, subst, ap, ◌∙◌, Option, Some, ◌+◌, arith}
use Rattle.std.specs.Prelude.{Ok}
use Rattle.std.specs.FinMap as finite
use Rattle.wp_model.specs.Changed.{IsUnchanged}
use Rattle.wp_model.specs.History.{entry_at}
use Rattle.wp_model.specs.Legal.{IsLegal}
use Rattle.wp_model.specs.LockState.{LockState}
use Rattle.wp_model.specs.declared.change.Change.{Change}
use Rattle.wp_model.specs.declared.entry.Entry.{Entry}
use Rattle.wp_model.specs.declared.entry.Entry.TheVariants.{Write, Prepare}
use Rattle.wp_model.proofs.Entries.{entry_at_old}
use Rattle.wp_history_laws.proofs.Growth.{entry_at_next, length_next}
use Rattle.wp_history_laws.proofs.Unchanged.{unchanged_later}
use Rattle.wp_core.specs.Lists.{IsIn}
use Rattle.wp_core.specs.Reading.{Registration}
use Rattle.wp_core.specs.Views.{Fact, undecided_at, unprepared, unchanged}
use Rattle.wp_core.specs.World.{Transactions, Participant}
use Rattle.wp_core.specs.Sound.Actors.{StartsWith}
use Rattle.wp_read.specs.Registers.{unregistering}
use Rattle.wp_records.specs.Records.{numbers_behind, IsAboutNone}
use Rattle.wp_records.specs.Writing.{FoundLog}
use Rattle.wp_shared.specs.Calls.{IsLoose, ContinuesWith, Continues, with_events}
use Rattle.wp_rule.proofs.Knows.{at_sound, noted_is}
use Rattle.wp_rule.specs.Words.{IsAt}
use Rattle.wp_shared.proofs.Onward.{continues_none}
use Rattle.wp_shared.specs.Seats.{SharedState, SeatState, IsFree, place_at}
use Rattle.wp_open_txns.specs.Calls.{LocksAre, IsFreeName, without_transaction, Frees}
use Rattle.wp_txn.specs.Recording.{Records}
use Rattle.wp_open_txns.specs.Turns.{IsApartFrom}
use Rattle.wp_open_txns.specs.Txn.{OpenState, PreparedState, HasLocked, HasOpen, HasPrepared}
use Rattle.wp_txn.specs.Writes.{HasPut, Refuses, AreUnchanged, StayUnchanged, Prepares, Ends, RefusesOpen, RefusesPrepared}
use Rattle.wp_open_txns.specs.declared.error.TxnError.{TxnError}
use Rattle.wp_txn.proofs.Goes.{chain, put_within, refused_within, refused_still, refused_registered}
use Rattle.wp_open_txns.proofs.Made.{key_there}
use Rattle.wp_open_txns.proofs.Still.{open_still, prepared_still}

-- ---- the transaction is freed

-- The call began with what left the seat as it was, but for what it had seen. Behind the record the transaction's pin was released, if it
-- had one.
module _ {D : Type 0} (z : SharedState D) (old start mid u new : SeatState) (pin : Option Registration) (entries : List Entry) (facts : ℕ → List Fact) (n : ℕ) (begins : Continues z old start old.knows.participant)
    (r : Records z start entries facts (Ok n) mid) (unpinned : Continues z mid u (unregistering pin mid.knows.participant)) (exact : u.knows.participant ≡ unregistering pin mid.knows.participant) where
  abbrev it : Participant
  it = old.knows.participant

  abbrev Part : Fact → Type 0
  Part fact = IsLoose fact × IsAboutNone r.1.0 entries fact

  -- with these numbers more of its own
  abbrev owning : Participant → Participant
  owning p = record p { own = p.own ++ numbers_behind (length r.1.0) entries }

  -- without its pin
  abbrev left_it : Participant
  left_it = unregistering pin it

  until_then : ContinuesWith Part z old mid (owning it)
  until_then =
      chain Part IsLoose Part z old start mid it (owning start.knows.participant) (owning it) (λ fact part. part.0) (λ fact part. part) begins r.1.1.put.goes_on
      (ap (λ (p : Participant). record (owning p) { seen = mid.knows.participant.seen }) begins.participant)

  pub until_unpinned : ContinuesWith Part z old u (owning left_it)
  until_unpinned =
      chain Part Part IsLoose z old mid u (owning it) (unregistering pin mid.knows.participant) (owning left_it) (λ fact part. part) (λ fact part. part.0) until_then unpinned
      (ap (λ (p : Participant). record (unregistering pin p) { seen = u.knows.participant.seen }) until_then.participant)

  pub seen_then : u.knows.participant.seen ≡ mid.knows.participant.seen
  seen_then = ap (λ (p : Participant). p.seen) exact

  -- what was put is put still, and these transactions are gone
  pub put_and_gone : (Stays : Fact → Type 0) → ((fact : Fact) → Stays fact → IsLoose fact) → (gone : Transactions → Transactions) → ContinuesWith Stays z u new (record u.knows.participant { transactions = gone u.knows.participant.transactions })
      → new.knows.participant ≡ record u.knows.participant { transactions = gone u.knows.participant.transactions } → HasPut Stays z old new it (record left_it { transactions = gone left_it.transactions }) r.1.0 entries
  put_and_gone Stays loose gone goes is =
      let without : Participant → Participant = λ p. record p { transactions = gone p.transactions } in
      put_within IsLoose Stays z old start mid new it (without left_it) r.1.0 entries begins r.1.1.put (ap (λ (p : Participant). p.seen) is ∙ seen_then)
      (chain (λ fact. Stays fact × IsAboutNone r.1.0 entries fact) Part Stays z old u new (owning left_it) (without u.knows.participant) (owning (without left_it)) (λ fact stays. (loose fact stays.0, stays.1)) (λ fact stays. stays.0)
      until_unpinned goes (ap (λ (p : Participant). record (without p) { seen = new.knows.participant.seen }) until_unpinned.participant))

  -- the number published then is how much it has seen still
  pub seen_still : new.knows.participant.seen ≡ u.knows.participant.seen → n ≡ length new.knows.participant.seen
  seen_still same = r.0 ∙ ap (λ (es : List Entry). length es) (sym (same ∙ seen_then))

  -- one transaction ended
  module _ (name : List ℕ) where
    pub put_and_freed : Frees z u new name → HasPut (IsApartFrom name) z old new it (without_transaction name left_it) r.1.0 entries
    put_and_freed frees = put_and_gone (IsApartFrom name) (λ fact apart. apart.0) (λ ts. finite.remove ts name) frees.gives_up frees.same

    pub number_still : Frees z u new name → n ≡ length new.knows.participant.seen
    number_still frees = seen_still (ap (λ (p : Participant). p.seen) frees.same)

    pub ended : (So : List Entry → Type 0) → So r.1.0 → Frees z u new name → Ends z old name (without_transaction name left_it) entries So n new
    ended So so frees = (number_still frees, (r.1.0, put_and_freed frees, so), frees.freed)

  -- it has a transaction until then, with the keys that it locked
  pub locked_until : (name : List ℕ) (batch : List Change) (locked : List (List ℕ)) → HasLocked old name batch locked → HasLocked u name batch locked
  locked_until name batch locked h = record { transaction = h.transaction; has = ap (λ (p : Participant). finite.get p.transactions name) until_unpinned.participant ∙ h.has; keys = h.keys }

-- ---- what was noted of keys was so, as the log was found

module _ {D : Type 0} (z : SharedState D) (old start mid : SeatState) (entries : List Entry) (facts : ℕ → List Fact) (n : ℕ) (begins : Continues z old start old.knows.participant) (r : Records z start entries facts (Ok n) mid) where
  abbrev found : FoundLog z start start.knows.participant r.1.0 false
  found = r.1.1.put.found_log

  so_then : (fact : Fact) → IsLoose fact → IsIn fact old.knows.notes → IsIn fact found.actor.notes
  so_then fact loose there = found.notes fact loose (begins.notes fact loose there)

  noted_then : (name key : List ℕ) (m : ℕ) → IsIn (unchanged name key m) old.knows.notes → IsUnchanged r.1.0 key m
  noted_then name key m there =
      subst (λ (h : List Entry). IsUnchanged h key m) found.history_is ((noted_is (place_at z start.by) found.actor found.world (unchanged name key m) found.there (so_then (unchanged name key m) refl there)).is_so.2)

  -- an open one knows of each key since when it is unchanged, no later than its pin
  pub are_unchanged : (txn : OpenState) → HasOpen old txn → AreUnchanged old txn r.1.0
  are_unchanged txn h = record {
    noted = noted_then txn.name;
    pinned = λ pin is key has. let since = h.since key has in unchanged_later r.1.0 key since.number pin.number (since.pinned pin is) (noted_then txn.name key since.number since.noted);
  }

  -- the keys of a prepared transaction are unchanged since its prepare
  pub stay_unchanged : (x : PreparedState) → HasPrepared start x → StayUnchanged x r.1.0
  stay_unchanged x h key has =
      let p = place_at z start.by in
      let named_is = (noted_is p found.actor found.world (undecided_at x.name x.number) found.there (found.notes (undecided_at x.name x.number) refl h.noted)).is_so.1 in
      let there = ap (λ (q : Participant). finite.get q.transactions x.name) found.participant ∙ h.has in
      subst (λ (es : List Entry). IsUnchanged es key x.number) found.history_is
      ((at_sound p found.actor found.world found.there).locks.unchanged key x.name x.number named_is (key_there p found.actor found.world found.there x.name h.transaction there key (h.keys key ∙ has)))

-- a refusal behind such a beginning
pub refused_from : {D : Type 0} (z : SharedState D) (old start new : SeatState) (needed : ℕ) (Asks More : List Entry → Type 0) (wider : (entries : List Entry) → Asks entries → IsLegal (new.knows.participant.seen ++ entries) → More entries) (begins : Continues z old start old.knows.participant) (why : TxnError)
    → Refuses z start new needed Asks start.knows.participant start.knows.participant why → Refuses z old new needed More old.knows.participant old.knows.participant why
refused_from z old start new needed Asks More wider begins why c =
    let it = old.knows.participant in
    refused_within z old start new new needed it it begins refl
    (λ goes. chain IsLoose IsLoose IsLoose z old start new it start.knows.participant it (λ fact stays. stays) (λ fact stays. stays) begins goes (ap (λ (p : Participant). record p { seen = new.knows.participant.seen }) begins.participant))
    (λ events goes.
    chain IsLoose IsLoose IsLoose z old start new it (with_events events start.knows.participant) (with_events events it) (λ fact stays. stays) (λ fact stays. stays) begins goes
    (ap (λ (p : Participant). record (with_events events p) { seen = new.knows.participant.seen }) begins.participant))
    Asks More wider why c

-- what was noted of a name outlasts a record that is of no transaction
pub noted_until : {D : Type 0} (z : SharedState D) (old mid : SeatState) (batch : List Change) (facts : ℕ → List Fact) (n : ℕ) (name : List ℕ) → Records z old (Write batch ∷ []) facts (Ok n) mid → IsIn (unprepared name) old.knows.notes
    → IsIn (unprepared name) mid.knows.notes
noted_until z old mid batch facts n name r there = r.1.1.put.goes_on.notes (unprepared name) (refl, (refl, tt)) there

-- it stood with the locks as whoever is that participant in its place
pub locks_as : {D : Type 0} (z : SharedState D) (s t : SeatState) (So : LockState → Type 0) → t.by ≡ s.by → t.knows.participant ≡ s.knows.participant → t.knows.made ≡ s.knows.made → t.knows.joined ≡ s.knows.joined → LocksAre z s So → LocksAre z t So
locks_as z s t So by same made joined k = let a = k.stood in record {
  world = k.world;
  stood = record { actor = a.actor; there = subst (λ (n : ℕ). IsAt (place_at z n) a.actor k.world) (sym by) a.there; held = a.held; participant = a.participant ∙ sym same; made = a.made ∙ sym made; joined = a.joined ∙ sym joined };
  so_is = k.so_is;
}

-- freed, and then out of the prepared sets
pub freed_then : {D : Type 0} (z : SharedState D) (old mid new : SeatState) (name : List ℕ) → Frees z old mid name → Continues z mid new mid.knows.participant → new.knows.participant ≡ mid.knows.participant → Frees z old new name
freed_then z old mid new name frees goes same = record {
  gives_up = chain (IsApartFrom name) (IsApartFrom name) IsLoose z old mid new (without_transaction name old.knows.participant) mid.knows.participant (without_transaction name old.knows.participant)
      (λ fact apart. apart) (λ fact apart. apart.0) frees.gives_up goes (ap (λ (p : Participant). record p { seen = new.knows.participant.seen }) frees.same);
  same = same ∙ frees.same;
  freed = locks_as z mid new (IsFreeName name) goes.same_by same goes.made goes.joined frees.freed;
}

-- ---- a prepared transaction

-- its prepare stands in what the record was put behind
pub stands_before : (old : SeatState) (x : PreparedState) → HasPrepared old x → (history : List Entry) → StartsWith history old.knows.participant.seen → entry_at history x.number ≡ Some (Prepare x.name x.batch)
stands_before old x h history grown = ap (λ (es : List Entry). entry_at es x.number) grown.1 ∙ entry_at_old old.knows.participant.seen grown.0 x.number h.seen ∙ h.stands

-- ---- a transaction is prepared

pub prepares : {D : Type 0} (z : SharedState D) (old mid new : SeatState) (txn : OpenState) (n : ℕ) → HasOpen old txn → IsFree z.table old → Records z old (Prepare txn.name txn.batch ∷ []) (λ m. undecided_at txn.name m ∷ []) (Ok n) mid
    → Continues z mid new (unregistering txn.pin mid.knows.participant) → new.knows.participant ≡ unregistering txn.pin mid.knows.participant
    → Prepares z old txn (record { name = txn.name; number = n; batch = txn.batch; locked = txn.locked }) n new
prepares z old mid new txn n h free r unpinned exact =
    let history = r.1.0 in let put = r.1.1.put in let begins = continues_none z old free in
    let entries : List Entry = Prepare txn.name txn.batch ∷ [] in
    let goes = until_unpinned z old old mid new new txn.pin entries (λ m. undecided_at txn.name m ∷ []) n begins r unpinned exact in
    let same = seen_then z old old mid new new txn.pin entries (λ m. undecided_at txn.name m ∷ []) n begins r unpinned exact in
    let seen : new.knows.participant.seen ≡ history ++ entries = same ∙ put.seen in
    let number : n ≡ length new.knows.participant.seen = r.0 ∙ ap (λ (es : List Entry). length es) (sym same) in
    let last : n ≡ length history + 1 = r.0 ∙ ap (λ (es : List Entry). length es) put.seen ∙ length_next history (Prepare txn.name txn.batch) in (
      number,
      refl,
      record {
        transaction = h.transaction;
        has = ap (λ (p : Participant). finite.get p.transactions txn.name) goes.participant ∙ h.has;
        batch_is = h.batch_is;
        keys = h.keys;
        noted = unpinned.notes (undecided_at txn.name n) refl (r.2 (undecided_at txn.name n) (inl refl));
        seen = omega (arith, number);
        stands = ap (λ (es : List Entry). entry_at es n) seen ∙ ap (entry_at (history ++ entries)) last ∙ entry_at_next history (Prepare txn.name txn.batch);
      },
      (
        history,
        put_within IsLoose IsLoose z old old mid new old.knows.participant (unregistering txn.pin old.knows.participant) history entries begins put same goes,
        are_unchanged z old old mid entries (λ m. undecided_at txn.name m ∷ []) n begins r txn h,
      ),
    )

-- ---- a refusal

pub refuses_open : {D : Type 0} (z : SharedState D) (old new : SeatState) (txn : OpenState) (entry : Entry) (why : TxnError) → HasOpen old txn → Refuses z old new 1 (λ asked. asked ≡ entry ∷ []) old.knows.participant old.knows.participant why → RefusesOpen z old txn entry txn why new
refuses_open z old new txn entry why h c =
    let Asks : List Entry → Type 0 = λ asked. asked ≡ entry ∷ [] in (
      refl,
      open_still old new (refused_still z old new 1 Asks why c) txn h (λ pin is. subst (IsIn pin) (sym (refused_registered z old new 1 Asks why c)) (h.pinned pin is).0),
      c,
    )

pub refuses_prepared : {D : Type 0} (z : SharedState D) (old new : SeatState) (txn : PreparedState) (needed : ℕ) (Asks : List Entry → PreparedState → List Entry → Type 0) (why : TxnError) → HasPrepared old txn
    → Refuses z old new needed (Asks new.knows.participant.seen txn) old.knows.participant old.knows.participant why → RefusesPrepared z old txn needed Asks txn why new
refuses_prepared z old new txn needed Asks why h c = (refl, prepared_still old new (refused_still z old new needed (Asks new.knows.participant.seen txn) why c) txn h, c)
