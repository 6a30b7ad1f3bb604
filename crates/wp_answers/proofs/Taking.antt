-- Prepared transactions that a seat takes one after another, and leaves again.
use Rattle.std.proofs.Common.{◌≡◌, ◌≢◌, ◌⊎◌, inl, inr, ⊎_elim, ℕ, suc, ◌+◌, ◌<◌, ◌≤◌, Bool, true, not, List, [], ◌∷◌, ◌++◌, length, take, drop, drop-cons, get_or, Some, refl, sym, subst, ap, ◌∙◌, append_assoc, append-nil, arith}
use Rattle.std.specs.Prelude.{Err, AllPairs, slice_index_or}
use Rattle.std.specs.List.{remove, AllByRecursion, list_any}
use Rattle.std.specs.Str.{bytes_eq}
use Rattle.std.specs.FinMap as finite
use Rattle.std.proofs.lemmas.Bool.{cases_Bool, or_parts}
use Rattle.std.proofs.lemmas.List.{map_push, take_more, take-append-drop, take_all}
use Rattle.std.proofs.lemmas.List.Elements.{recursion_from_All, All-from_recursion}
use Rattle.std.proofs.lemmas.List.Folds.{list_any-append}
use Rattle.std.proofs.lemmas.List.Kept.{AllPairs-cons}
use Rattle.std.proofs.lemmas.Slice.Eq.{bytes_eq-Decides}
use Rattle.wp_model.specs.declared.entry.Entry.{Entry}
use Rattle.wp_model.specs.History.{entry_at, prepared_name, is_prepare, is_undecided, decides, named}
use Rattle.wp_model.specs.Legal.{IsLegal}
use Rattle.wp_model.proofs.Entries.{entry_at_old}
use Rattle.wp_model.proofs.Found.{found_named}
use Rattle.wp_model.proofs.Tests.{one_not_other}
use Rattle.wp_model.proofs.Keyed.{is_word_same, else_inserted, inserted_still, at_removed, else_removed}
use Rattle.wp_history_laws.proofs.Growth.{legal_before}
use Rattle.wp_core.specs.Lists.{IsIn}
use Rattle.wp_core.specs.Sound.Actors.{StartsWith}
use Rattle.wp_core.specs.Views.{Event, Fact, took, undecided_at}
use Rattle.wp_core.specs.World.{Transaction, Transactions, Participant, World}
use Rattle.wp_core.proofs.EachStep.{reached_is_sound}
use Rattle.wp_core.proofs.KeepsSeen.{shorter}
use Rattle.wp_core.proofs.PastsGrow.{in_front, in_last}
use Rattle.wp_rule.proofs.Knows.{noted_is}
use Rattle.wp_records.specs.Writing.{FoundLog}
use Rattle.wp_shared.specs.Calls.{ContinuesWith, Continues}
use Rattle.wp_shared.specs.Seats.{SharedState, SeatState, Stands, place_at}
use Rattle.wp_shared.proofs.Onward.{continues_none, continues_then}
use Rattle.wp_open_txns.specs.declared.error.TxnError.{TxnError}
use Rattle.wp_open_txns.specs.Calls.{without_transaction, GivesUp, Takes, TakesPrepared}
use Rattle.wp_open_txns.specs.Turns.{IsApartFrom}
use Rattle.wp_open_txns.specs.Txn.{PreparedState, HasPrepared}
use Rattle.wp_txn.specs.Groups.{names_of, numbers_of}
use Rattle.wp_txn.proofs.OneName.{named_is}
use Rattle.wp_replies.specs.Replies.{AreNamed}
use Rattle.wp_client.specs.declared.holdings.HeldTxn.TheVariants as held
use Rattle.wp_client.specs.Holdings.{HoldsTxn}
use Rattle.wp_client.proofs.Alone.Worlds.{has_seen}
use Rattle.wp_answers.specs.Settling.{HoldsTxns, takes_of, having_taken, HasTaken, TakesAll, IsOfNone, GivesUpTo, RefusesTakes}

-- ---- lists

pub all_last : {X : Type 0} (P : X → Type 0) (xs : List X) (x : X) → AllByRecursion P xs → P x → AllByRecursion P (xs ++ x ∷ [])
all_last P [] x each last = (last, tt)
all_last P (y ∷ xs) x each last = (each.0, all_last P xs x each.1 last)

-- what is so of those in front of one, and of that one
all_before : {X : Type 0} (P : X → Type 0) (xs ys : List X) → AllByRecursion P (xs ++ ys) → AllByRecursion P xs
all_before P [] ys each = tt
all_before P (x ∷ xs) ys each = (each.0, all_before P xs ys each.1)

all_there : {X : Type 0} (P : X → Type 0) (xs : List X) (y : X) (ys : List X) → AllByRecursion P (xs ++ y ∷ ys) → P y
all_there P [] y ys each = each.0
all_there P (x ∷ xs) y ys each = all_there P xs y ys each.1

module _ {X : Type 0} (R : X → X → Type 0) where
  pub pairs_first : (x : X) (xs : List X) → AllPairs R (x ∷ xs) → AllByRecursion (R x) xs
  pairs_first x xs h = recursion_from_All (R x) xs (λ j d lt. h 0 (suc j) d (omega arith) (omega (arith, lt)))

  pub pairs_rest : (x : X) (xs : List X) → AllPairs R (x ∷ xs) → AllPairs R xs
  pairs_rest x xs h = λ i j d lt within. h (suc i) (suc j) d (omega (arith, lt)) (omega (arith, within))

  pub pairs_before : (xs ys : List X) → AllPairs R (xs ++ ys) → AllPairs R xs
  pairs_before [] ys h = λ i j d lt within. absurd (omega (arith, within))
  pairs_before (x ∷ xs) ys h = AllPairs-cons R x xs (All-from_recursion (R x) xs (all_before (R x) xs ys (pairs_first x (xs ++ ys) h))) (pairs_before xs ys (pairs_rest x (xs ++ ys) h))

  -- each in front of one is before that one
  pub pairs_at : (xs : List X) (y : X) (ys : List X) → AllPairs R (xs ++ y ∷ ys) → AllByRecursion (λ x. R x y) xs
  pairs_at [] y ys h = tt
  pairs_at (x ∷ xs) y ys h = (all_there (R x) xs y ys (pairs_first x (xs ++ y ∷ ys) h), pairs_at xs y ys (pairs_rest x (xs ++ y ∷ ys) h))

-- one that differs from each of them is not among them
pub not_among : (name : List ℕ) (names : List (List ℕ)) → AllByRecursion (λ other. other ≢ name) names → IsIn name names → ⊥
not_among name [] each there = there
not_among name (other ∷ names) each (inl same) = each.0 same
not_among name (other ∷ names) each (inr there) = not_among name names each.1 there

-- ---- one transaction

-- It is the seat's still, where the seat has it under its name as before.
prepared_on : (old new : SeatState) (t : PreparedState) → StartsWith new.knows.participant.seen old.knows.participant.seen → (IsIn (undecided_at t.name t.number) old.knows.notes → IsIn (undecided_at t.name t.number) new.knows.notes)
    → ((x : Transaction) → finite.get old.knows.participant.transactions t.name ≡ Some x → finite.get new.knows.participant.transactions t.name ≡ Some x) → HasPrepared old t → HasPrepared new t
prepared_on old new t grown notes has h = let low = shorter new.knows.participant.seen old.knows.participant.seen grown in record {
  transaction = h.transaction;
  has = has h.transaction h.has;
  batch_is = h.batch_is;
  keys = h.keys;
  noted = notes h.noted;
  seen = (let s = h.seen in omega (arith, low, s));
  stands = ap (λ (es : List Entry). entry_at es t.number) grown.1 ∙ entry_at_old old.knows.participant.seen grown.0 t.number h.seen ∙ h.stands;
}

-- a participant with the transactions that it has then
pub own_transactions : {D : Type 0} {Stays : Fact → Type 0} (z : SharedState D) (s t : SeatState) (p : Participant) → ContinuesWith Stays z s t p → ContinuesWith Stays z s t (record p { transactions = t.knows.participant.transactions })
own_transactions z s t p k = record {
  free = k.free;
  same_by = k.same_by;
  seen = k.seen;
  participant = k.participant ∙ ap (λ (ts : Transactions). record p { transactions = ts; seen = t.knows.participant.seen }) (sym (ap (λ (q : Participant). q.transactions) k.participant));
  notes = k.notes;
  made = k.made;
  joined = k.joined;
}

-- fewer of the notes
pub continues_fewer : {D : Type 0} {Stays Others : Fact → Type 0} (z : SharedState D) (s t : SeatState) (p : Participant) → ((fact : Fact) → Others fact → Stays fact) → ContinuesWith Stays z s t p → ContinuesWith Others z s t p
continues_fewer z s t p fewer k = record {
  free = k.free;
  same_by = k.same_by;
  seen = k.seen;
  participant = k.participant;
  notes = λ fact other there. k.notes fact (fewer fact other) there;
  made = k.made;
  joined = k.joined;
}

-- ---- none

pub has_none : {D : Type 0} (z : SharedState D) (s : SeatState) → HoldsTxn z s held.Idle → HoldsTxns z s []
has_none z s has = record { free = has.free; direct = has.direct; have = (tt, λ i j d lt within. absurd (omega (arith, within))); only = λ name out. has.only name refl }

pub idle_again : {D : Type 0} (z : SharedState D) (s : SeatState) → HoldsTxns z s [] → HoldsTxn z s held.Idle
idle_again z s has = record { free = has.free; direct = has.direct; has = tt; only = λ name free. has.only name (λ there. there) }

-- ---- one more is taken

module _ {D : Type 0} (z : SharedState D) (s t : SeatState) (name : List ℕ) (txn : PreparedState) (k : Takes z s name txn t) where
  each_on : (txns : List PreparedState) → AllByRecursion (HasPrepared s) txns → AllByRecursion (HasPrepared t) txns
  each_on [] each = tt
  each_on (u ∷ txns) each = (
    prepared_on s t u k.goes_on.seen (k.goes_on.notes (undecided_at u.name u.number) refl)
        (λ x has. ap (λ (p : Participant). finite.get p.transactions u.name) k.goes_on.participant ∙ inserted_still s.knows.participant.transactions name k.not_had k.has.transaction x u.name has) each.0,
    each_on txns each.1,
  )

  names_more : (txns : List PreparedState) → names_of (txns ++ txn ∷ []) ≡ names_of txns ++ name ∷ []
  names_more txns = map_push (λ (u : PreparedState). u.name) txns txn ∙ ap (λ (n : List ℕ). names_of txns ++ n ∷ []) k.name_is

  holds_more : (txns : List PreparedState) → HoldsTxns z s txns → AllPairs ◌≢◌ (names_of txns ++ name ∷ []) → HoldsTxns z t (txns ++ txn ∷ [])
  holds_more txns has differ = record {
    free = k.goes_on.free;
    direct = ap (λ (p : Participant). p.direct) k.goes_on.participant ∙ has.direct;
    have = (all_last (HasPrepared t) txns txn (each_on txns has.have.0) k.has, subst (λ (names : List (List ℕ)). AllPairs ◌≢◌ names) (sym (names_more txns)) differ);
    only = λ other out.
        let away : IsIn other (names_of txns ++ name ∷ []) → ⊥ = λ there. out (subst (IsIn other) (sym (names_more txns)) there) in
        ap (λ (p : Participant). finite.get p.transactions other) k.goes_on.participant
        ∙ (else_inserted s.knows.participant.transactions name k.has.transaction other (λ same. away (subst (λ (n : List ℕ). IsIn n (names_of txns ++ name ∷ [])) (sym same) (in_last name (names_of txns))))
        ∙ has.only other (λ there. away (in_front other (names_of txns) (name ∷ []) there)));
  }

  pub taken_more : (old : SeatState) (names : List (List ℕ)) (txns : List PreparedState) → AllPairs ◌≢◌ (names ++ name ∷ []) → HasTaken z old names txns s → HasTaken z old (names ++ name ∷ []) (txns ++ txn ∷ []) t
  taken_more old names txns differ h =
      let it = old.knows.participant in
      let here : Continues z s t (having_taken (name ∷ []) t.knows.participant.transactions s.knows.participant) = own_transactions z s t _ k.goes_on in
      let both : Continues z old t (having_taken (name ∷ []) t.knows.participant.transactions (having_taken names s.knows.participant.transactions it)) =
      continues_then z old s t (having_taken names s.knows.participant.transactions it) (having_taken (name ∷ []) t.knows.participant.transactions) (λ p h k. refl) h.goes_on here in
      let past : (it.past ++ takes_of names) ++ took name ∷ [] ≡ it.past ++ takes_of (names ++ name ∷ []) =
      append_assoc it.past (takes_of names) (took name ∷ []) ∙ ap (λ (events : List Event). it.past ++ events) (sym (map_push (λ (n : List ℕ). took n) names name)) in record {
        goes_on = subst (λ (events : List Event). Continues z old t (record it { past = events; transactions = t.knows.participant.transactions })) past both;
        holds = holds_more txns h.holds (subst (λ (ns : List (List ℕ)). AllPairs ◌≢◌ (ns ++ name ∷ [])) (sym h.names_are) differ);
        names_are = names_more txns ∙ ap (λ (ns : List (List ℕ)). ns ++ name ∷ []) h.names_are;
      }

-- none is taken yet
pub taken_none : {D : Type 0} (z : SharedState D) (s : SeatState) → HoldsTxn z s held.Idle → HasTaken z s [] [] s
taken_none z s has = record {
  goes_on = subst (λ (events : List Event). Continues z s s (record s.knows.participant { past = events })) (sym (append-nil s.knows.participant.past)) (continues_none z s has.free);
  holds = has_none z s has;
  names_are = refl;
}

-- ---- one is left

module _ {D : Type 0} (z : SharedState D) (s t : SeatState) (txn : PreparedState) (k : GivesUp z s t txn.name) where
  its_other : (other : List ℕ) (p : ℕ) → txn.name ≢ other → IsApartFrom txn.name (undecided_at other p)
  its_other other p ne = elim (cases_Bool (bytes_eq txn.name other)) [
    | inl same ↦ absurd (ne ((bytes_eq-Decides txn.name other).0 same))
    | inr free ↦ (refl, free)
  ]

  each_left : (txns : List PreparedState) → AllByRecursion (λ other. txn.name ≢ other) (names_of txns) → AllByRecursion (HasPrepared s) txns → AllByRecursion (HasPrepared t) txns
  each_left [] differ each = tt
  each_left (u ∷ txns) differ each = (
    prepared_on s t u k.seen (k.notes (undecided_at u.name u.number) (its_other u.name u.number differ.0))
        (λ x has. ap (λ (p : Participant). finite.get p.transactions u.name) k.participant ∙ (else_removed s.knows.participant.transactions txn.name u.name (λ same. differ.0 (sym same)) ∙ has)) each.0,
    each_left txns differ.1 each.1,
  )

  pub holds_fewer : (txns : List PreparedState) → HoldsTxns z s (txn ∷ txns) → HoldsTxns z t txns
  holds_fewer txns has = record {
    free = k.free;
    direct = ap (λ (p : Participant). p.direct) k.participant ∙ has.direct;
    have = (each_left txns (pairs_first ◌≢◌ txn.name (names_of txns) has.have.1) has.have.0.1, pairs_rest ◌≢◌ txn.name (names_of txns) has.have.1);
    only = λ other out. ap (λ (p : Participant). finite.get p.transactions other) k.participant ∙ elim (is_word_same other txn.name) [
      | inl same ↦ at_removed s.knows.participant.transactions txn.name other same
      | inr ne ↦ else_removed s.knows.participant.transactions txn.name other ne ∙ has.only other (λ there. ⊎_elim (λ (e : txn.name ≡ other). ne (sym e)) out there)
    ];
  }

  pub given_up_more : (old : SeatState) (txns : List PreparedState) → t.knows.participant ≡ without_transaction txn.name s.knows.participant → GivesUpTo z old s (txn ∷ txns) → GivesUpTo z old t txns
  given_up_more old txns same h =
      let it = old.knows.participant in let ts = t.knows.participant.transactions in
      let here : ContinuesWith IsOfNone z s t (record s.knows.participant { transactions = ts }) = continues_fewer z s t _ (λ fact none. (none.0, none.1 txn.name)) (own_transactions z s t (without_transaction txn.name s.knows.participant) k) in record {
        gives_up = continues_then z old s t (record it { transactions = s.knows.participant.transactions }) (λ p. record p { transactions = ts }) (λ p h k. refl) h.gives_up here;
        same = same ∙ (ap (λ (x : Transactions). record s.knows.participant { transactions = x }) (sym (ap (λ (p : Participant). p.transactions) same)) ∙ ap (λ (p : Participant). record p { transactions = ts }) h.same);
        holds = holds_fewer txns h.holds;
      }

-- none is left yet
pub given_up_none : {D : Type 0} (z : SharedState D) (s : SeatState) (txns : List PreparedState) → HoldsTxns z s txns → GivesUpTo z s s txns
given_up_none z s txns has = record { gives_up = continues_none z s has.free; same = refl; holds = has }

-- ---- the names, in what the seat has seen

-- what is undecided was so before
undecided_before : (seen rest : List Entry) (p : ℕ) → p ≤ length seen → is_undecided (seen ++ rest) p ≡ true → is_undecided seen p ≡ true
undecided_before seen rest p low is =
    let parts = one_not_other (is_prepare (entry_at (seen ++ rest) p)) (list_any (decides p) (seen ++ rest)) is in
    let none = or_parts (list_any (decides p) seen) (list_any (decides p) rest) (sym (list_any-append (decides p) seen rest) ∙ parts.1) in
    let there : is_prepare (entry_at seen p) ≡ true = ap is_prepare (sym (entry_at_old seen rest p low)) ∙ parts.0 in
    rw (there, none.0) refl

module _ {D : Type 0} (z : SharedState D) (s : SeatState) (w : World) (stands : Stands z s w) where
  named_seen : (t : PreparedState) → HasPrepared s t → named s.knows.participant.seen t.name ≡ Some t.number
  named_seen t h =
      let seen = s.knows.participant.seen in let now = w.writes.history in
      let is = (noted_is (place_at z s.by) s.knows w (undecided_at t.name t.number) stands h.noted).is_so.1 in
      let begins = has_seen w stands.reached s.by s.knows stands.there in
      let whole : is_undecided (seen ++ begins.0) t.number ≡ true = subst (λ (h : List Entry). is_undecided h t.number ≡ true) begins.1 (found_named now t.name t.number is).0 in
      named_is seen (legal_before seen begins.0 (subst IsLegal begins.1 (reached_is_sound w stands.reached).history.legal)) t.number t.name (undecided_before seen begins.0 t.number h.seen whole) (ap prepared_name h.stands)

  each_named : (txns : List PreparedState) → AllByRecursion (HasPrepared s) txns → AreNamed s.knows.participant.seen (names_of txns) (numbers_of txns)
  each_named [] each = tt
  each_named (t ∷ txns) each = (named_seen t each.0, each_named txns each.1)

  pub all_named : (names : List (List ℕ)) (txns : List PreparedState) → names_of txns ≡ names → HoldsTxns z s txns → AreNamed s.knows.participant.seen names (numbers_of txns)
  all_named names txns are has = subst (λ (ns : List (List ℕ)). AreNamed s.knows.participant.seen ns (numbers_of txns)) are (each_named txns has.have.0)

-- ... and in the history that the log was found with
pub found_named_all : {D : Type 0} (z : SharedState D) (s : SeatState) (history : List Entry) (closed : Bool) (found : FoundLog z s s.knows.participant history closed) (txns : List PreparedState) → AllByRecursion (HasPrepared s) txns → AreNamed history (names_of txns) (numbers_of txns)
found_named_all z s history closed found [] each = tt
found_named_all z s history closed found (t ∷ txns) each = (
  ap (λ (h : List Entry). named h t.name) (sym found.history_is) ∙ (noted_is (place_at z s.by) found.actor found.world (undecided_at t.name t.number) found.there (found.notes (undecided_at t.name t.number) refl each.0.noted)).is_so.1,
  found_named_all z s history closed found txns each.1,
)

-- ---- as a loop takes them

pub first_out : (txns : List PreparedState) (d : PreparedState) → 1 ≤ length txns → txns ≡ slice_index_or txns 0 d ∷ remove txns 0
first_out [] d some = absurd (omega (arith, some))
first_out (txn ∷ txns) d some = refl

module _ (names : List (List ℕ)) (i : ℕ) (name : List ℕ) (lt : i < length names) (at : name ≡ get_or names i name) where
  pub names_cut : names ≡ take i names ++ name ∷ drop (suc i) names
  names_cut = sym (take-append-drop i names) ∙ ap (λ (ns : List (List ℕ)). take i names ++ ns) (drop-cons names i name lt ∙ ap (λ (n : List ℕ). n ∷ drop (suc i) names) (sym at))

  pub names_next : take (i + 1) names ≡ take i names ++ name ∷ []
  names_next = take_more names i name lt ∙ ap (λ (n : List ℕ). take i names ++ n ∷ []) (sym at)

  -- those up to the next differ
  differ_next : AllPairs ◌≢◌ names → AllPairs ◌≢◌ (take i names ++ name ∷ [])
  differ_next differ = pairs_before ◌≢◌ (take i names ++ name ∷ []) (drop (suc i) names)
      (subst (λ (ns : List (List ℕ)). AllPairs ◌≢◌ ns) (names_cut ∙ sym (append_assoc (take i names) (name ∷ []) (drop (suc i) names))) differ)

  module _ {D : Type 0} (z : SharedState D) (old s t : SeatState) (txns : List PreparedState) (taken : HasTaken z old (take i names) txns s) (differ : AllPairs ◌≢◌ names) where
    -- one more is taken
    pub next_taken : (txn : PreparedState) → Takes z s name txn t → HasTaken z old (take (i + 1) names) (txns ++ txn ∷ []) t
    next_taken txn k = subst (λ (ns : List (List ℕ)). HasTaken z old ns (txns ++ txn ∷ []) t) (sym names_next) (taken_more z s t name txn k old (take i names) txns (differ_next differ) taken)

    -- the next one is refused
    pub next_refused : (why : TxnError) (new : SeatState) (w : World) → Stands z t w → HoldsTxns z t txns → TakesPrepared z s name (Err why) t → GivesUpTo z t new [] → RefusesTakes z old names why new
    next_refused why new w stands has k leaves = inr (record {
      before = take i names;
      name = name;
      after = drop (suc i) names;
      place = names_cut;
      txns = txns;
      mid = s;
      taken = taken;
      behind = t;
      refused = k;
      named = all_named z t w stands (take i names) txns taken.names_are has;
      leaves = leaves;
    })

-- all of them are taken
pub whole_taken : {D : Type 0} (z : SharedState D) (old s : SeatState) (names : List (List ℕ)) (i : ℕ) (txns : List PreparedState) → length names ≤ i → HasTaken z old (take i names) txns s → (w : World) → Stands z s w → TakesAll z old names txns s
whole_taken z old s names i txns all taken w stands =
    let whole = subst (λ (ns : List (List ℕ)). HasTaken z old ns txns s) (take_all i names all) taken in record { taken = whole; named = all_named z s w stands names txns whole.names_are whole.holds }
