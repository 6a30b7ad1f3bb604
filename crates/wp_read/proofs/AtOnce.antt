-- A key is read under the snapshots turn, at a snapshot that goes before the turn is given.
use Rattle.std.proofs.Common.{◌≡◌, inl, inr, ℕ, List, [], ◌∷◌, ◌++◌, length, refl, sym, subst, ap, ◌∙◌, Option, append-nil}
use Rattle.std.specs.Prelude.{Result, Ok, Err, IfOk}
use Rattle.wp_judge.specs.declared.observed.Observed.{Observed}
use Rattle.wp_model.specs.declared.entry.Entry.{Entry}
use Rattle.wp_model.specs.History.{value_at}
use Rattle.wp_model.specs.Snapshots.{Snapshots}
use Rattle.wp_core.specs.Changes.{with_registered}
use Rattle.wp_core.specs.Lists.{IsIn}
use Rattle.wp_core.specs.Reading.{Registration}
use Rattle.wp_core.specs.States.{snapshots}
use Rattle.wp_core.specs.Turns.{store_turn}
use Rattle.wp_core.specs.Views.{Fact}
use Rattle.wp_core.specs.World.{Participant}
use Rattle.wp_shared.specs.Calls.{IsLoose, GoesOnWith, Continues}
use Rattle.wp_shared.specs.Notes.{is_under, GoesOn}
use Rattle.wp_shared.specs.Seats.{SharedState, SeatState, IsFree}
use Rattle.wp_shared.specs.Turns.{HoldsTurn, Taken}
use Rattle.wp_shared.proofs.Onward.{starts_equal, loose_under, goes_same, goes_fewer, goes_then, goes_still, goes_free}
use Rattle.wp_read.specs.declared.at_once.Begun.{Begun}
use Rattle.wp_read.specs.declared.at_once.Begun.TheVariants.{Read, Registered}
use Rattle.wp_read.specs.AtOnce.{IsNotOfStore, ReadsOn, IsBegun, BeginsRead, kept_by}
use Rattle.wp_read.specs.Reads.{reading, Reads}
use Rattle.wp_read.specs.Registers.{IsTakenAt, Registers, Unregisters, registered_by, registration_of}
use Rattle.wp_read.proofs.Registers.{registered_and_released}
use Rattle.wp_read.proofs.Taking.{taken_since}
use Rattle.wp_read.proofs.Seated.{changed_so, number_seen, was_taken, released_one, none_zero}

-- ---- a look under the store turn

module _ {s t : SeatState} (k : GoesOn (is_under store_turn) s.knows.held s.turns s t) where
  pub same_client : t.knows.participant ≡ s.knows.participant
  same_client = ap (λ (x : SeatState). x.knows.participant) k.same

  pub free_client : {D : Type 0} (z : SharedState D) → IsFree z.table s → Continues z s t s.knows.participant
  free_client z free =
      let still : IsFree z.table t = record {
        same_table = ap (λ (x : SeatState). x.table) k.same ∙ free.same_table;
        live = ap (λ (x : SeatState). x.knows.live) k.same ∙ free.live;
        turns = ap (λ (x : SeatState). x.turns) k.same ∙ free.turns;
        held = ap (λ (x : SeatState). x.knows.held) k.same ∙ free.held;
      } in
      goes_free z s t s.knows.participant still (goes_same s t (is_under store_turn) s.knows.held s.turns (loose_under store_turn) k)

pub loose_not : (fact : Fact) → IsLoose fact → IsNotOfStore fact
loose_not fact loose = loose_under store_turn fact loose

-- ---- what a read leaves of the seat

module _ {s t : SeatState} (k : GoesOn (is_under store_turn) s.knows.held s.turns s t) where
  pub reads_on : ReadsOn s t
  reads_on = subst (ReadsOn s) (sym k.same) (record { same = refl; noted = λ fact not there. k.noted fact not there })

  pub reads_on_then : {D : Type 0} {z : SharedState D} {u : SeatState} {r : Observed} → Reads z t u r → ReadsOn s u
  reads_on_then {u = u} {r = r} next = subst (ReadsOn s) (sym (next.seat ∙ ap (λ (x : SeatState). reading x r) k.same)) (record { same = refl; noted = λ fact not there. k.noted fact not there })

-- ---- a snapshot is registered, the key is read, and it may be given back

in_last : {X : Type 0} (x : X) (xs : List X) → IsIn x (xs ++ x ∷ [])
in_last x [] = inl refl
in_last x (y ∷ xs) = inr (in_last x xs)

module _ {D : Type 0} {z : SharedState D} {s t : SeatState} {n : ℕ} {least : Option ℕ} {m : Snapshots} (k : Registers z s t n least m) (was : HoldsTurn z s (snapshots m) [] []) where
  pub reading_holds : HoldsTurn z t (snapshots (with_registered m n)) [] []
  reading_holds = (changed_so k was (with_registered m n) refl).holds

  pub reading_at : IsIn (registration_of n least) t.knows.participant.registered
  reading_at =
      let r = registration_of n least in let rs = s.knows.participant.registered in
      subst (IsIn r) (sym (ap (λ (p : Participant). p.registered) (changed_so k was (with_registered m n) refl).goes.participant)) (in_last r rs)

module _ {D : Type 0} {z : SharedState D} {s t u : SeatState} {n : ℕ} {least : Option ℕ} {m : Snapshots} (k : Registers z s t n least m) (was : HoldsTurn z s (snapshots m) [] []) (on : ReadsOn t u) where
  abbrev r : Registration
  r = registration_of n least

  abbrev with_it : Participant
  with_it = record s.knows.participant { registered = s.knows.participant.registered ++ r ∷ [] }

  goes_reading : GoesOnWith IsNotOfStore t u t.knows.participant
  goes_reading =
      let seen : u.knows.participant.seen ≡ t.knows.participant.seen = ap (λ (x : SeatState). x.knows.participant.seen) on.same in record {
        same_table = ap (λ (x : SeatState). x.table) on.same;
        same_by = ap (λ (x : SeatState). x.by) on.same;
        live = ap (λ (x : SeatState). x.knows.live) on.same;
        seen = starts_equal t.knows.participant.seen u.knows.participant.seen seen;
        participant = ap (λ (x : SeatState). x.knows.participant) on.same ∙ (λ i. record t.knows.participant { seen = (sym seen) i });
        notes = on.noted;
        made = ap (λ (x : SeatState). x.knows.made) on.same;
        joined = ap (λ (x : SeatState). x.knows.joined) on.same;
      }

  pub registered_goes : GoesOnWith IsNotOfStore s u with_it
  registered_goes = goes_still s t u with_it (goes_fewer s t with_it (λ fact not. tt) (changed_so k was (with_registered m n) refl).goes) goes_reading

  pub registered_holds : HoldsTurn z u (snapshots (with_registered m n)) [] []
  registered_holds = let h = (changed_so k was (with_registered m n) refl).holds in record {
    same_table = ap (λ (x : SeatState). x.table) on.same ∙ h.same_table;
    live = ap (λ (x : SeatState). x.knows.live) on.same ∙ h.live;
    held = ap (λ (x : SeatState). x.knows.held) on.same ∙ h.held;
    turns = ap (λ (x : SeatState). x.turns) on.same ∙ h.turns;
  }

  pub registered_in : u.knows.participant.registered ≡ s.knows.participant.registered ++ r ∷ []
  registered_in = ap (λ (p : Participant). p.registered) registered_goes.participant

  seen_there : u.knows.participant.seen ≡ t.knows.participant.seen
  seen_there = ap (λ (x : SeatState). x.knows.participant.seen) on.same

  taken_there : (h : List Entry) → h ≡ t.knows.participant.seen → IsTakenAt z s h r m
  taken_there h is = subst (λ (x : List Entry). IsTakenAt z s x r m) (sym is) (was_taken k was r refl).0

  pub begun_registered : (key : List ℕ) → IsBegun z s u.knows.participant.seen key (Registered r)
  begun_registered key = ((m, taken_there u.knows.participant.seen seen_there), number_seen k was r refl ∙ ap (λ (x : List Entry). length x) (sym seen_there))

  module _ {v : SeatState} (back : Unregisters u v s.knows.participant.registered [] r (with_registered m n)) where
    pub back_holds : HoldsTurn z v (snapshots m) [] []
    back_holds = (released_one u v s.knows.participant.registered [] r (with_registered m n) m back registered_holds (sym (registered_and_released m n (none_zero k was)))).holds

    pub back_read : GoesOnWith IsNotOfStore s v (record s.knows.participant { registered = s.knows.participant.registered ++ [] })
    back_read =
        let rs = s.knows.participant.registered in
        let gone = released_one u v rs [] r (with_registered m n) m back registered_holds (sym (registered_and_released m n (none_zero k was))) in
        goes_then s u v with_it (λ q. record q { registered = rs ++ [] }) (λ q h k. refl) registered_goes (goes_fewer u v (record u.knows.participant { registered = rs ++ [] }) (λ fact not. tt) gone.goes)

    pub back_goes : GoesOnWith IsNotOfStore s v s.knows.participant
    back_goes = subst (λ (l : List Registration). GoesOnWith IsNotOfStore s v (record s.knows.participant { registered = l })) (append-nil s.knows.participant.registered) back_read

    seen_back : v.knows.participant.seen ≡ t.knows.participant.seen
    seen_back = ap (λ (x : SeatState). x.knows.participant.seen) back.seat ∙ seen_there

    pub begun_read : (key : List ℕ) (value : Option (List ℕ)) → value ≡ value_at t.knows.participant.seen key n → IsBegun z s v.knows.participant.seen key (Read value n)
    begun_read key value is = (
      r,
      (m, taken_there v.knows.participant.seen seen_back),
      refl,
      number_seen k was r refl ∙ ap (λ (x : List Entry). length x) (sym seen_back),
      is ∙ ap (λ (x : List Entry). value_at x key n) (sym seen_back),
    )

-- ---- the turn was given

module _ {D E : Type 0} (z : SharedState D) (s t u v : SeatState) (key : List ℕ) (result : Result Begun E) {m : Snapshots} (took : Taken z s t (snapshots m)) where
  begun_since : (h h' : List Entry) → h ≡ h' → (b : Begun) → IsBegun z t h key b → IsBegun z s h' key b
  begun_since h h' same (Read value n) k =
      let taken = k.1 in (k.0, (taken.0, taken_since z s t _ _ _ took.goes.same h h' same k.0 taken.0 taken.1), k.2, k.3 ∙ ap (λ (x : List Entry). length x) same, k.4 ∙ ap (λ (x : List Entry). value_at x key n) same)
  begun_since h h' same (Registered r) k = let taken = k.0 in ((taken.0, taken_since z s t _ _ _ took.goes.same h h' same r taken.0 taken.1), k.1 ∙ ap (λ (x : List Entry). length x) same)

  pub begins : Continues z s v (registered_by kept_by result s.knows.participant) → u.knows.participant.seen ≡ v.knows.participant.seen → IfOk result (IsBegun z t u.knows.participant.seen key) → IfOk result (BeginsRead z s v key)
  begins goes same is = by result goes is
    where
      by : (o : Result Begun E) → Continues z s v (registered_by kept_by o s.knows.participant) → IfOk o (IsBegun z t u.knows.participant.seen key) → IfOk o (BeginsRead z s v key)
      by (Ok b) on k = (on, begun_since u.knows.participant.seen v.knows.participant.seen same b k)
      by (Err error) on k = tt
