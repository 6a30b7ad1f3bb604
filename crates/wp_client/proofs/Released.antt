-- A client's snapshots are released, and its transaction is let go of, as the session ends.
use Rattle.std.proofs.Common.{◌≡◌, List, [], ◌∷◌, ◌++◌, length, refl, subst, ap, ◌∙◌, arith}
use mathlib.Core.List.{append-nil}
use Rattle.wp_core.specs.Lists.{IsIn}
use Rattle.wp_core.specs.Views.{Fact}
use Rattle.wp_core.specs.World.{Participant}
use Rattle.wp_core.proofs.KeepsSeen.{whole}
use Rattle.wp_shared.specs.Calls.{ContinuesWith}
use Rattle.wp_shared.specs.Seats.{SharedState, SeatState}
use Rattle.wp_shared.proofs.Onward.{starts_on}
use Rattle.wp_client.specs.declared.holdings.HeldTxn.{HeldTxn}
use Rattle.wp_client.specs.declared.holdings.HeldTxn.TheVariants as held
use Rattle.wp_client.specs.declared.holdings.HeldSnapshot.{HeldSnapshot}
use Rattle.wp_client.specs.Answers.{Stays}
use Rattle.wp_client.specs.Ends.{LetsGo}
use Rattle.wp_client.specs.Holdings.{HoldingsState, no_holdings, Holds, HoldsFrom}
use Rattle.wp_client.specs.Replies.{IsPlace}
use Rattle.wp_client.proofs.Labelled.{none_before_last}
use Rattle.wp_client.proofs.Snapping.{Released, place_registered, freed_holds}
use Rattle.wp_client.proofs.Staying.{in_place}

-- ---- the end of a session

pub stays_through : (a b c : SeatState) → Stays a b → Stays b c → Stays a c
stays_through a b c first second = record {
  same_by = second.same_by ∙ first.same_by;
  made = second.made ∙ first.made;
  joined = second.joined ∙ first.joined;
  client = second.client ∙ first.client;
  seen = starts_on a.knows.participant.seen b.knows.participant.seen c.knows.participant.seen first.seen second.seen;
}

module _ {D : Type 0} (z : SharedState D) (old : SeatState) (was : HoldingsState) where
  -- nothing is let go of yet
  pub lets_nothing_go : LetsGo z old old was was
  lets_nothing_go = record {
    stays = record { same_by = refl; made = refl; joined = refl; client = refl; seen = whole old.knows.participant.seen };
    own = refl;
    past = refl;
    holds = λ has. has;
  }

  module _ (mid : SeatState) (t : HeldTxn) (xs : List HeldSnapshot) (s : HeldSnapshot) (so : LetsGo z old mid was (record { txn = t; snapshots = xs ++ s ∷ [] })) (has : Holds z old was) where
    abbrev with_it : HoldingsState
    with_it = record { txn = t; snapshots = xs ++ s ∷ [] }

    abbrev last_place : IsPlace (xs ++ s ∷ []) s.label (length xs)
    last_place = record { front = xs; found = s; back = []; are = refl; place = refl; label_is = refl; none_before = none_before_last xs s (so.holds has).distinct }

    -- the last one is registered
    pub last_registered : IsIn s.snapshot mid.knows.participant.registered
    last_registered = place_registered z mid with_it s.label (length xs) (so.holds has) last_place

    -- it is released
    pub last_let_go : (new : SeatState) → Released z mid new s.snapshot → LetsGo z old new was (record { txn = t; snapshots = xs })
    last_let_go new out = record {
      stays = stays_through old mid new so.stays (in_place _ z mid new (record mid.knows.participant { registered = out.front ++ out.back }) out.goes_on refl);
      own = ap (λ (p : Participant). p.own) out.goes_on.participant ∙ so.own;
      past = ap (λ (p : Participant). p.past) out.goes_on.participant ∙ so.past;
      holds = λ had. subst (λ (ys : List HeldSnapshot). Holds z new (record { txn = t; snapshots = ys })) (append-nil xs) (freed_holds z mid new with_it s.label (length xs) last_place (so.holds had) out);
    }

-- where none is left there are none
pub none_left_of : (xs : List HeldSnapshot) → length xs ≡ 0 → xs ≡ []
none_left_of [] none = refl
none_left_of (x ∷ xs) none = absurd (omega (arith, none))

-- its transaction is given up
pub txn_let_go : {D : Type 0} (Kept : Fact → Type 0) (z : SharedState D) (old new : SeatState) (after : Participant) → after.client ≡ old.knows.participant.client → after.own ≡ old.knows.participant.own → after.past ≡ old.knows.participant.past
    → (t : HeldTxn) → ContinuesWith Kept z old new after → HoldsFrom z old new t held.Idle → (h : HoldingsState) → h.txn ≡ t → LetsGo z old new h (record h { txn = held.Idle })
txn_let_go Kept z old new after client own past t goes holds h is = record {
  stays = in_place Kept z old new after goes client;
  own = ap (λ (p : Participant). p.own) goes.participant ∙ own;
  past = ap (λ (p : Participant). p.past) goes.participant ∙ past;
  holds = λ has. holds h is has;
}

-- first its snapshots, and then its transaction
pub all_let_go : {D : Type 0} (z : SharedState D) (old mid new : SeatState) (h : HoldingsState) → LetsGo z old mid h (record h { snapshots = [] }) → LetsGo z mid new (record h { snapshots = [] }) no_holdings → LetsGo z old new h no_holdings
all_let_go z old mid new h first second = record {
  stays = stays_through old mid new first.stays second.stays;
  own = second.own ∙ first.own;
  past = second.past ∙ first.past;
  holds = λ has. second.holds (first.holds has);
}
