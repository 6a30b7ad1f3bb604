-- A prepared transaction that is rolled back.
use Rattle.std.proofs.Common.{◌≡◌, inl, inr, ℕ, suc, ◌≤◌, ◌<◌, true, List, [], ◌∷◌, ◌++◌, length, length-append, take, refl, sym, subst, ap, ◌∙◌, Some, None, append_assoc, eq-eqb, arith}
use Rattle.std.specs.Prelude.{Ok}
use Rattle.std.proofs.lemmas.List.{take-append-le}
use Rattle.wp_model.specs.Decision.{decision_of}
use Rattle.wp_model.specs.History.{batch_at, prepared_batch, named, is_undecided}
use Rattle.wp_model.specs.Legal.{IsLegal, prior}
use Rattle.wp_model.specs.declared.change.Change.{Change}
use Rattle.wp_model.specs.declared.entry.Entry.{Entry}
use Rattle.wp_model.specs.declared.entry.Entry.TheVariants.{Undo, Close}
use Rattle.wp_model.proofs.Entries.{undecided_within}
use Rattle.wp_history_laws.proofs.Growth.{after_front, legal_before}
use Rattle.wp_judge.specs.Words.{fits, seq_end}
use Rattle.wp_core.specs.Lists.{IsIn}
use Rattle.wp_core.specs.Reading.{Registration}
use Rattle.wp_core.specs.Views.{Fact, has_left}
use Rattle.wp_core.specs.World.{Participant}
use Rattle.wp_core.specs.Sound.Actors.{StartsWith}
use Rattle.wp_core.proofs.HistoryGrows.{named_stays}
use Rattle.wp_core.proofs.HistoryLaws.{next_decides_prepare}
use Rattle.wp_core.proofs.KeepsSeen.{shorter}
use Rattle.wp_parts.specs.Log.{LogState}
use Rattle.wp_shared.specs.Calls.{IsLoose, Continues}
use Rattle.wp_shared.specs.Seats.{SharedState, SeatState, IsFree}
use Rattle.wp_shared.proofs.Onward.{continues_none}
use Rattle.wp_open_txns.specs.Calls.{without_transaction, Frees}
use Rattle.wp_txn.specs.Recording.{OpensLog, Records, HadPrior, IsPriorSince}
use Rattle.wp_open_txns.specs.Turns.{IsApartFrom}
use Rattle.wp_open_txns.specs.Txn.{PreparedState, HasLocked, HasPrepared}
use Rattle.wp_txn.specs.Writes.{HasPut, RollsBack, AsksRollback}
use Rattle.wp_txn.proofs.Ends.{put_and_freed, number_still, locked_until, stands_before}
use Rattle.wp_txn.proofs.Goes.{chain}
use Rattle.wp_open_txns.proofs.Still.{still, prepared_locked, prepared_still}
use Rattle.wp_txn.proofs.MayPut.{legal_now, stands_still, undecided_still}
use Rattle.wp_txn.proofs.OneName.{name_is_free}

-- ---- the registration is as before

in_last : {X : Type 0} (xs : List X) (x : X) → IsIn x (xs ++ x ∷ [])
in_last [] x = inl refl
in_last (y ∷ ys) x = inr (in_last ys x)

none_before : {X : Type 0} (front back : List X) (x : X) → [] ≡ front ++ x ∷ back → ⊥
none_before [] back x e = absurd cc
none_before (y ∷ front) back x e = absurd cc

-- where the last one is taken out, the others are left
last_out : {X : Type 0} (xs front back : List X) (x : X) → xs ++ x ∷ [] ≡ front ++ x ∷ back → (IsIn x back → ⊥) → front ++ back ≡ xs
last_out [] [] back x e none = let e' : [] ≡ back = cc in sym e'
last_out (y ∷ xs) [] back x e none = let e' : xs ++ x ∷ [] ≡ back = cc in absurd (none (subst (IsIn x) e' (in_last xs x)))
last_out [] (y ∷ front) back x e none = let e' : [] ≡ front ++ x ∷ back = cc in absurd (none_before front back x e')
last_out (y ∷ xs) (z ∷ front) back x e none =
    let here : y ≡ z = cc in let e' : xs ++ x ∷ [] ≡ front ++ x ∷ back = cc in
    (λ i. sym here i ∷ last_out xs front back x e' none i)

-- the seat took a snapshot, read at it, and released it
module _ {D : Type 0} (z : SharedState D) (a b : SeatState) (r : Registration) (took : Continues z a b (record a.knows.participant { registered = a.knows.participant.registered ++ r ∷ [] })) where
  abbrev it : Participant
  it = a.knows.participant

  -- with these registrations
  abbrev registering : List Registration → Participant
  registering rs = record it { registered = rs }

  abbrev more : List Registration
  more = it.registered ++ r ∷ []

  registered_then : b.knows.participant.registered ≡ more
  registered_then = ap (λ (p : Participant). p.registered) took.participant

  pub is_registered : IsIn r b.knows.participant.registered
  is_registered = subst (IsIn r) (sym registered_then) (in_last it.registered r)

  module _ (c : SeatState) (read : Continues z b c b.knows.participant) where
    registered_later : c.knows.participant.registered ≡ more
    registered_later = ap (λ (p : Participant). p.registered) read.participant ∙ registered_then

    pub is_registered_still : IsIn r c.knows.participant.registered
    is_registered_still = subst (IsIn r) (sym registered_later) (in_last it.registered r)

    until_read : Continues z a c (registering more)
    until_read = chain IsLoose IsLoose IsLoose z a b c (registering more) b.knows.participant (registering more) (λ fact stays. stays) (λ fact stays. stays) took read
        (ap (λ (p : Participant). record p { seen = c.knows.participant.seen }) took.participant)

    module _ (d : SeatState) (front back : List Registration) (there : c.knows.participant.registered ≡ front ++ r ∷ back) (last : IsIn r back → ⊥) (left : Continues z c d (record c.knows.participant { registered = front ++ back })) where
      as_before : front ++ back ≡ it.registered
      as_before = last_out it.registered front back r (sym registered_later ∙ there) last

      -- it is as it was
      pub released : Continues z a d it
      released = chain IsLoose IsLoose IsLoose z a c d (registering more) (record c.knows.participant { registered = front ++ back }) it (λ fact stays. stays) (λ fact stays. stays) until_read left
          (ap (λ (p : Participant). record p { registered = front ++ back; seen = d.knows.participant.seen }) until_read.participant
          ∙ ap (λ (rs : List Registration). record it { registered = rs; seen = d.knows.participant.seen }) as_before)

      -- what was read is what the keys had since
      pub had_prior : (batch found : List Change) → r.number ≡ length b.knows.participant.seen → found ≡ prior (take r.number c.knows.participant.seen) batch → IsPriorSince a d batch found
      had_prior batch found number is =
          let first = shorter b.knows.participant.seen a.knows.participant.seen took.seen in
          let second = shorter c.knows.participant.seen b.knows.participant.seen read.seen in
          let third = shorter d.knows.participant.seen c.knows.participant.seen left.seen in
          let within : r.number ≤ length c.knows.participant.seen = omega (arith, second, number) in (
            r.number,
            omega (arith, first, number),
            omega (arith, within, third),
            is ∙ ap (λ (h : List Entry). prior h batch) (sym (ap (take r.number) left.seen.1 ∙ take-append-le r.number c.knows.participant.seen left.seen.0 within)),
          )

-- ---- the name of what was rolled back

module _ (history : List Entry) (p : ℕ) (batch : List Change) (legal : IsLegal (history ++ Undo p batch ∷ Close p ∷ [])) where
  abbrev undone : List Entry
  undone = history ++ Undo p batch ∷ []

  in_two : undone ++ Close p ∷ [] ≡ history ++ Undo p batch ∷ Close p ∷ []
  in_two = append_assoc history (Undo p batch ∷ []) (Close p ∷ [])

  both : IsLegal (undone ++ Close p ∷ [])
  both = subst IsLegal (sym in_two) legal

  pub rollback_frees : (name : List ℕ) → named history name ≡ Some p → named (history ++ Undo p batch ∷ Close p ∷ []) name ≡ None
  rollback_frees name is =
      ap (λ (h : List Entry). named h name) (sym in_two) ∙ name_is_free undone (Close p) p name both (named_stays history (Undo p batch) (legal_before undone (Close p ∷ []) both) name p is refl) (eq-eqb p p refl) refl

  -- the prepare is decided by the Close
  pub rollback_decides : (n : ℕ) → n ≡ length (history ++ Undo p batch ∷ Close p ∷ []) → (decision_of (history ++ Undo p batch ∷ Close p ∷ []) p ≡ Some n) × (p ≤ n) × (n < seq_end)
  rollback_decides n last =
      let undecided = (after_front undone (Close p) [] both).orderly.names_undecided in
      let long = length-append undone (Close p ∷ []) in
      let same = ap (λ (h : List Entry). length h) in_two in
      let is : suc (length undone) ≡ n = omega (arith, last, long, same) in
      let low = (undecided_within undone p undecided).1 in let few = both.few in (
        ap (λ (h : List Entry). decision_of h p) (sym in_two) ∙ (next_decides_prepare undone (Close p) p undecided (eq-eqb p p refl) ∙ ap Some is),
        omega (arith, is, low),
        omega (arith, last, same, few),
      )

-- ---- what the keys had is what they have

-- what holds of each history: the keys of an undecided prepare keep their values
abbrev pub KeysKeepValues : Type 0
KeysKeepValues = (h : List Entry) (p n : ℕ) → IsLegal h → is_undecided h p ≡ true → p ≤ n → n ≤ length h → prior (take n h) (batch_at h p) ≡ prior h (batch_at h p)

module _ {D : Type 0} (z : SharedState D) (old new : SeatState) (log : LogState) (needed : ℕ) (o : OpensLog z old new log needed) (x : PreparedState) (h : HasPrepared old x) where
  -- the seat saw a part of this history then
  pub restores : KeysKeepValues → (found : List Change) → HadPrior old x.number x.batch found → found ≡ prior log.state.history (batch_at log.state.history x.number)
  restores law found had =
      let history = log.state.history in let seen = old.knows.participant.seen in let n = had.0 in let high = had.2 in
      let long = shorter history seen o.took.grown in
      let same : x.batch ≡ batch_at history x.number = sym (ap prepared_batch (stands_still z old new log needed o x h)) in
      had.3 ∙ ap (prior (take n seen)) same
      ∙ ap (λ (es : List Entry). prior es (batch_at history x.number)) (sym (ap (take n) o.took.grown.1 ∙ take-append-le n seen o.took.grown.0 high))
      ∙ law history x.number n (legal_now z old new log needed o) (undecided_still z old new log needed o x h) had.1 (omega (arith, long, high))

-- what is asked for behind a history restores what the keys have there
pub asks_prior : {D : Type 0} (z : SharedState D) (old new : SeatState) (x : PreparedState) (restored : List Change) (asked : List Entry) → HasPrepared old x
    → StartsWith new.knows.participant.seen old.knows.participant.seen → asked ≡ Undo x.number restored ∷ Close x.number ∷ [] → IsLegal (new.knows.participant.seen ++ asked) → AsksRollback new.knows.participant.seen x asked
asks_prior z old new x restored asked h grown is legal =
    let history = new.knows.participant.seen in
    let k = after_front history (Undo x.number restored) (Close x.number ∷ []) (subst (λ (es : List Entry). IsLegal (history ++ es)) is legal) in
    is ∙ ap (λ (b : List Change). Undo x.number b ∷ Close x.number ∷ []) (k.restores_prior ∙ ap (prior history) (ap prepared_batch (stands_before old x h history grown)))

-- ---- the transaction is rolled back

-- it is as it was, behind what left the seat as it was
pub prepared_since : {D : Type 0} (z : SharedState D) (old new : SeatState) (x : PreparedState) → Continues z old new old.knows.participant → HasPrepared old x → HasPrepared new x
prepared_since z old new x begins = prepared_still old new (still z old new old.knows.participant refl refl (λ event there. there) begins) x

module _ {D : Type 0} (z : SharedState D) (old start mid : SeatState) (x : PreparedState) (restored : List Change) (begins : Continues z old start old.knows.participant) (h : HasPrepared start x)
    (facts : ℕ → List Fact) (n : ℕ) (r : Records z start (Undo x.number restored ∷ Close x.number ∷ []) facts (Ok n) mid) where
  abbrev before_it : List Entry
  before_it = r.1.0

  pub rolled_back_decides : (decision_of mid.knows.participant.seen x.number ≡ Some n) × (x.number ≤ n) × (n < seq_end)
  rolled_back_decides =
      subst (λ (es : List Entry). (decision_of es x.number ≡ Some n) × (x.number ≤ n) × (n < seq_end)) (sym r.1.1.put.seen)
      (rollback_decides before_it x.number restored r.1.1.legal n (r.0 ∙ ap (λ (es : List Entry). length es) r.1.1.put.seen))

  restored_is : restored ≡ prior before_it x.batch
  restored_is = (after_front before_it (Undo x.number restored) (Close x.number ∷ []) r.1.1.legal).restores_prior ∙ ap (prior before_it) (ap prepared_batch (stands_before start x h before_it r.1.1.put.grown))

  -- it had no pin
  mid_free : IsFree z.table mid
  mid_free = r.1.1.put.goes_on.free

  -- it has the transaction until the record is put
  pub locked_still : HasLocked mid x.name x.batch x.locked
  locked_still =
      locked_until z start start mid mid mid None (Undo x.number restored ∷ Close x.number ∷ []) facts n (continues_none z start begins.free) r (continues_none z mid mid_free) refl x.name x.batch x.locked (prepared_locked start x h)

  pub rolled_back : (new : SeatState) → Frees z mid new x.name → (fits z.cells (record { number = x.number; decision = n }) ≡ true → IsIn (has_left x.number) new.knows.notes) → RollsBack z old x n new
  rolled_back new frees gone =
      let entries : List Entry = Undo x.number restored ∷ Close x.number ∷ [] in
      let Put : List Change → Type 0 = λ b. HasPut (IsApartFrom x.name) z old new old.knows.participant (without_transaction x.name old.knows.participant) before_it (Undo x.number b ∷ Close x.number ∷ []) in (
        number_still z old start mid mid new None entries facts n begins r (continues_none z mid mid_free) refl x.name frees,
        (before_it, subst Put restored_is (put_and_freed z old start mid mid new None entries facts n begins r (continues_none z mid mid_free) refl x.name frees)),
        gone,
        frees.freed,
      )
