-- A read as of now: at once, or at a brief snapshot that is released again.
use Rattle.std.proofs.Common.{◌≡◌, ℕ, ◌≤◌, List, [], ◌∷◌, ◌++◌, length, take, Option, refl, sym, subst, ap, ◌∙◌, arith}
use Rattle.std.specs.Prelude.{Result, Ok, Err, OnErr}
use Rattle.std.proofs.lemmas.List.{take-append-le}
use mathlib.Core.List.{append-nil}
use Rattle.wp_model.specs.declared.entry.Entry.{Entry}
use Rattle.wp_model.specs.History.{newest, value_at}
use Rattle.wp_core.specs.Lists.{IsIn}
use Rattle.wp_core.specs.Reading.{Registration}
use Rattle.wp_core.specs.Sound.Actors.{StartsWith}
use Rattle.wp_core.specs.World.{Participant}
use Rattle.wp_core.proofs.KeepsSeen.{shorter, whole}
use Rattle.wp_core.proofs.PastsGrow.{in_last}
use Rattle.wp_read.specs.declared.at_once.Begun.{Begun}
use Rattle.wp_read.specs.declared.at_once.Begun.TheVariants.{Read, Registered}
use Rattle.wp_read.specs.AtOnce.{BeginsRead}
use Rattle.wp_read.specs.Fresh.{ReadsFresh}
use Rattle.wp_read.specs.Registers.{IsTaken}
use Rattle.wp_shared.specs.Calls.{Continues}
use Rattle.wp_shared.specs.Seats.{SharedState, SeatState}
use Rattle.wp_shared.proofs.Onward.{starts_on}

-- what is so anyhow
pub if_broken : {X E P : Type 0} (r : Result X E) → P → OnErr r P
if_broken (Ok answer) p = tt
if_broken (Err e) p = p

value_old : (history seen : List Entry) (key : List ℕ) (n : ℕ) → StartsWith history seen → n ≤ length seen → value_at history key n ≡ value_at seen key n
value_old history seen key n starts low = ap (λ (h : List Entry). newest h key) (ap (take n) starts.1 ∙ take-append-le n seen starts.0 low)

none_before : {X : Type 0} (front back : List X) (x : X) → [] ≡ front ++ x ∷ back → ⊥
none_before [] back x e = absurd cc
none_before (y ∷ front) back x e = absurd cc

-- where the last one is taken out, the others are left
last_out : {X : Type 0} (xs front back : List X) (x : X) → xs ++ x ∷ [] ≡ front ++ x ∷ back → (IsIn x back → ⊥) → front ++ back ≡ xs
last_out [] [] back x e none = let e' : [] ≡ back = cc in sym e'
last_out (y ∷ xs) [] back x e none = let e' : xs ++ x ∷ [] ≡ back = cc in absurd (none (subst (IsIn x) e' (in_last x xs)))
last_out [] (y ∷ front) back x e none = let e' : [] ≡ front ++ x ∷ back = cc in absurd (none_before front back x e')
last_out (y ∷ xs) (z ∷ front) back x e none =
    let here : y ≡ z = cc in let e' : xs ++ x ∷ [] ≡ front ++ x ∷ back = cc in
    (λ i. sym here i ∷ last_out xs front back x e' none i)

-- the snapshot is registered
pub begun : {D : Type 0} (z : SharedState D) (a b : SeatState) (key : List ℕ) (r : Registration) {x : Begun} → x ≡ Registered r → BeginsRead z a b key x → BeginsRead z a b key (Registered r)
begun z a b key r is k = subst (BeginsRead z a b key) is k

-- the value was read at once
pub read_now : {D : Type 0} (z : SharedState D) (a d : SeatState) (key : List ℕ) (value : Option (List ℕ)) (n : ℕ) → BeginsRead z a d key (Read value n) → ReadsFresh z a d key value n
read_now z a d key value n k =
    let goes = k.0 in let is = k.1 in let all = is.3 in let first = shorter d.knows.participant.seen a.knows.participant.seen goes.seen in record {
      goes_on = subst (λ (rs : List Registration). Continues z a d (record a.knows.participant { registered = rs })) (append-nil a.knows.participant.registered) goes;
      fresh = omega (arith, first, all);
      within = omega (arith, all);
      published = record { snapshot = is.0; history = d.knows.participant.seen; taken = is.1; number = is.2; seen = whole d.knows.participant.seen };
      value_is = is.4;
    }

module _ {D : Type 0} (z : SharedState D) (a b : SeatState) (r : Registration) (took : Continues z a b (record a.knows.participant { registered = a.knows.participant.registered ++ r ∷ [] })) where
  abbrev more : List Registration
  more = a.knows.participant.registered ++ r ∷ []

  registered_then : b.knows.participant.registered ≡ more
  registered_then = ap (λ (p : Participant). p.registered) took.participant

  pub is_registered_then : IsIn r b.knows.participant.registered
  is_registered_then = subst (IsIn r) (sym registered_then) (in_last r a.knows.participant.registered)

  module _ (c : SeatState) (read : Continues z b c b.knows.participant) where
    registered_later : c.knows.participant.registered ≡ more
    registered_later = ap (λ (p : Participant). p.registered) read.participant ∙ registered_then

    pub is_registered_still : IsIn r c.knows.participant.registered
    is_registered_still = subst (IsIn r) (sym registered_later) (in_last r a.knows.participant.registered)

    module _ (d : SeatState) (front back : List Registration) (there : c.knows.participant.registered ≡ front ++ r ∷ back) (last : IsIn r back → ⊥) (left : Continues z c d (record c.knows.participant { registered = front ++ back })) where
      as_before : front ++ back ≡ a.knows.participant.registered
      as_before = last_out a.knows.participant.registered front back r (sym registered_later ∙ there) last

      -- the seat is as it was
      pub released : Continues z a d a.knows.participant
      released = record {
        free = left.free;
        same_by = left.same_by ∙ (read.same_by ∙ took.same_by);
        seen = starts_on a.knows.participant.seen c.knows.participant.seen d.knows.participant.seen (starts_on a.knows.participant.seen b.knows.participant.seen c.knows.participant.seen took.seen read.seen) left.seen;
        participant = left.participant
            ∙ (ap (λ (p : Participant). record p { registered = front ++ back; seen = d.knows.participant.seen }) (read.participant ∙ ap (λ (p : Participant). record p { seen = c.knows.participant.seen }) took.participant)
            ∙ ap (λ (rs : List Registration). record a.knows.participant { registered = rs; seen = d.knows.participant.seen }) as_before);
        notes = λ fact stays there. left.notes fact stays (read.notes fact stays (took.notes fact stays there));
        made = left.made ∙ (read.made ∙ took.made);
        joined = left.joined ∙ (read.joined ∙ took.joined);
      }

      pub read_once : (key : List ℕ) (value : Option (List ℕ)) → r.number ≡ length b.knows.participant.seen → IsTaken z a b.knows.participant.seen r → value ≡ value_at c.knows.participant.seen key r.number → ReadsFresh z a d key value r.number
      read_once key value number taken is =
          let first = shorter b.knows.participant.seen a.knows.participant.seen took.seen in
          let second = shorter c.knows.participant.seen b.knows.participant.seen read.seen in
          let third = shorter d.knows.participant.seen c.knows.participant.seen left.seen in
          record {
            goes_on = released;
            fresh = omega (arith, first, number);
            within = omega (arith, second, third, number);
            published = record {
              snapshot = r;
              history = b.knows.participant.seen;
              taken = taken;
              number = refl;
              seen = starts_on b.knows.participant.seen c.knows.participant.seen d.knows.participant.seen read.seen left.seen;
            };
            value_is = is ∙ sym (value_old d.knows.participant.seen c.knows.participant.seen key r.number left.seen (omega (arith, second, number)));
          }
