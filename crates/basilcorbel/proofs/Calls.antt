-- For who calls: whatever a change is answered its transaction is open, and a snapshot that was taken is the seat's own. A prepared
-- transaction stays so beside one that is taken or left.
use Rattle.std.specs.Prelude.{AllPairs, Result, Ok, Err, slice_index_or}
use Rattle.std.proofs.Common.{◌≡◌, ◌≢◌, ℕ, zero, suc, ◌<◌, ◌∷◌, ◌++◌, [], List, length, Some, refl, sym, ap, ◌∙◌, arith}
use Rattle.std.specs.FinMap as finite
use Rattle.std.specs.List.{AllByRecursion, remove}
use Rattle.std.specs.Str.{bytes_eq}
use Rattle.std.proofs.lemmas.Bool.{false_from_ne_true}
use Rattle.std.proofs.lemmas.Slice.Eq.{bytes_eq-Decides}
use Rattle.wp_model.specs.declared.change.Change.{Change}
use Rattle.wp_model.specs.declared.entry.Entry.{Entry}
use Rattle.wp_model.specs.History.{entry_at}
use Rattle.wp_model.proofs.Entries.{entry_at_old}
use Rattle.wp_model.proofs.Keyed.{else_removed, inserted_still}
use Rattle.wp_core.specs.Lists.{IsIn}
use Rattle.wp_core.specs.Reading.{Registration}
use Rattle.wp_core.specs.Views.{Fact, undecided_at}
use Rattle.wp_core.specs.World.{Participant}
use Rattle.wp_core.proofs.KeepsSeen.{shorter}
use Rattle.wp_core.proofs.PastsGrow.{in_last}
use Rattle.wp_shared.specs.Calls.{ContinuesWith, Continues}
use Rattle.wp_shared.specs.Seats.{SharedState, SeatState}
use Rattle.wp_open_txns.specs.Calls.{Changes, GivesUp, TakesPrepared}
use Rattle.wp_open_txns.specs.Txn.{OpenState, PreparedState, HasOpen, HasPrepared}
use Rattle.wp_open_txns.specs.declared.error.TxnError.{TxnError}
use Rattle.wp_open_txns.specs.declared.error.TxnError.TheVariants.{Memory, Busy, Conflict, TooMany, Unknown, InUse}
use Rattle.wp_txn.specs.Groups.{names_of, ArePrepared}

pub stays_open : {D : Type 0} (z : SharedState D) (old new : SeatState) (txn left : OpenState) (change : Change) (answer : Result (Unit {0}) TxnError) → Changes z old txn change answer new left → HasOpen new left
stays_open z old new txn left change (Ok done) c = c.1
stays_open z old new txn left change (Err TooMany) c = c.1
stays_open z old new txn left change (Err (Busy holder)) c = c.1
stays_open z old new txn left change (Err (Conflict number)) c = c.1
stays_open z old new txn left change (Err Memory) c = c.1
stays_open z old new txn left change (Err other) c = absurd c

pub is_registered : {D : Type 0} (z : SharedState D) (old new : SeatState) (snapshot : Registration) → Continues z old new (record old.knows.participant { registered = old.knows.participant.registered ++ snapshot ∷ [] }) → IsIn snapshot new.knows.participant.registered
is_registered z old new snapshot goes = rw goes.participant (in_last snapshot old.knows.participant.registered)

-- ---- prepared transactions

-- the seat goes on with the transaction of its name, and knows of it what it knew
prepared_on : {D : Type 0} (Stays : Fact → Type 0) (z : SharedState D) (old new : SeatState) (after : Participant) (x : PreparedState) (h : HasPrepared old x) → ContinuesWith Stays z old new after → finite.get after.transactions x.name ≡ Some h.transaction → Stays (undecided_at x.name x.number) → HasPrepared new x
prepared_on Stays z old new after x h goes same stays = let s = goes.seen in let low = shorter new.knows.participant.seen old.knows.participant.seen s in record {
  transaction = h.transaction;
  has = ap (λ (p : Participant). finite.get p.transactions x.name) goes.participant ∙ same;
  batch_is = h.batch_is;
  keys = h.keys;
  noted = goes.notes (undecided_at x.name x.number) stays h.noted;
  seen = (let was = h.seen in omega (arith, low, was));
  stands = ap (λ (es : List Entry). entry_at es x.number) s.1 ∙ (entry_at_old old.knows.participant.seen s.0 x.number h.seen ∙ h.stands);
}

-- another one is asked for by its name, and taken or not
pub prepared_beside : {D : Type 0} (z : SharedState D) (old new : SeatState) (name : List ℕ) (x : PreparedState) (answer : Result PreparedState TxnError) → TakesPrepared z old name answer new → HasPrepared old x → HasPrepared new x
prepared_beside z old new name x (Ok taken) c h = prepared_on _ z old new _ x h c.goes_on (inserted_still old.knows.participant.transactions name c.not_had c.has.transaction h.transaction x.name h.has) refl
prepared_beside z old new name x (Err (Unknown other at)) c h = prepared_on _ z old new _ x h c.3 h.has refl
prepared_beside z old new name x (Err (InUse other)) c h = prepared_on _ z old new _ x h c.1.goes_on h.has refl
prepared_beside z old new name x (Err Memory) c h = prepared_on _ z old new _ x h c h.has refl
prepared_beside z old new name x (Err other) c h = absurd c

-- where it was taken, both are prepared, and their names differ
pub both_prepared : {D : Type 0} (z : SharedState D) (old new : SeatState) (name : List ℕ) (x y : PreparedState) → TakesPrepared z old name (Ok y) new → HasPrepared old x → ArePrepared new (x ∷ y ∷ [])
both_prepared z old new name x y c h = ((prepared_beside z old new name x (Ok y) c h, (c.has, tt)), apart)
  where
    differ : x.name ≢ y.name
    differ same = let had : finite.get old.knows.participant.transactions name ≡ Some h.transaction = ap (finite.get old.knows.participant.transactions) (sym c.name_is ∙ sym same) ∙ h.has in let none = c.not_had in absurd cc

    apart : AllPairs ◌≢◌ (x.name ∷ y.name ∷ [])
    apart zero zero d lt within = absurd (omega (arith, lt))
    apart zero (suc zero) d lt within = differ
    apart zero (suc (suc j)) d lt within = absurd (omega (arith, within))
    apart (suc i) j d lt within = absurd (omega (arith, lt, within))

others_on : {D : Type 0} (z : SharedState D) (old new : SeatState) (name : List ℕ) → GivesUp z old new name → (others : List PreparedState) → ((j : ℕ) (d : List ℕ) → j < length (names_of others) → name ≢ slice_index_or (names_of others) j d)
    → AllByRecursion (HasPrepared old) others → AllByRecursion (HasPrepared new) others
others_on z old new name goes [] apart has = tt
others_on z old new name goes (x ∷ others) apart has =
    let differ = apart 0 [] (omega arith) in (
      prepared_on _ z old new _ x has.0 goes (else_removed old.knows.participant.transactions name x.name (λ same. differ (sym same)) ∙ has.0.has)
          (refl, false_from_ne_true (bytes_eq name x.name) (λ same. differ ((bytes_eq-Decides name x.name).0 same))),
      others_on z old new name goes others (λ j d low. apart (suc j) d (omega (arith, low))) has.1,
    )

-- the first of them is given up, and the others are prepared still
pub others_prepared : {D : Type 0} (z : SharedState D) (old new : SeatState) (x : PreparedState) (others : List PreparedState) → GivesUp z old new x.name → ArePrepared old (x ∷ others) → ArePrepared new others
others_prepared z old new x others goes are = (
  others_on z old new x.name goes others (λ j d low. are.1 0 (suc j) d (omega arith) (omega (arith, low))) are.0.1,
  (λ i j d low high. are.1 (suc i) (suc j) d (omega (arith, low)) (omega (arith, high))),
)

-- where the first of a list is taken out, it is the first
pub first_out : {X : Type 0} (xs : List X) (d : X) → 0 < length xs → xs ≡ slice_index_or xs 0 d ∷ remove xs 0
first_out [] d some = absurd (omega (arith, some))
first_out (x ∷ xs) d some = refl
