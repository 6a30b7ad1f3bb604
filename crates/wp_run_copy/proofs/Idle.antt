-- The first seat of a store, by which nothing was done but to read at a snapshot.
use Rattle.std.proofs.Common.{◌≡◌, ℕ, ◌≤◌, List, [], ◌∷◌, ◌++◌, length, take, None, Some, inl, refl, sym, ap, ◌∙◌, subst, append-nil, take_all, arith}
use Rattle.std.specs.FinMap as finite
use Rattle.wp_model.specs.declared.entry.Entry.{Entry}
use Rattle.wp_model.specs.Batch.{key_cmp}
use Rattle.wp_model.specs.Legal.{undone_last}
use Rattle.wp_core.specs.Lists.{IsIn}
use Rattle.wp_core.specs.Reading.{Registration}
use Rattle.wp_core.specs.Sound.Actors.{StartsWith}
use Rattle.wp_core.specs.World.{Participant, new_participant}
use Rattle.wp_shared.specs.Calls.{Continues}
use Rattle.wp_shared.specs.Seats.{SharedState, SeatState, IsFree, participant_of, seen_by}
use Rattle.wp_read.specs.Registers.{IsTakenAt, without_last}
use Rattle.wp_client.specs.Holdings.{times_registered}
use Rattle.wp_client.proofs.Alone.Seated.{alone_at}
use Rattle.wp_client.proofs.Alone.Worlds.{seen_whole}
use Rattle.wp_seats.specs.New.{first_seat}
use Rattle.wp_threads.specs.Idle.{IsUnused}

module _ {D : Type 0} (z : SharedState D) (client : List ℕ) (first : SeatState) (is : first ≡ first_seat z client) where
  pub free_first : IsFree z.table first
  free_first = subst (IsFree z.table) (sym is) (record { same_table = refl; live = refl; turns = refl; held = refl })

  -- ---- what a snapshot of it is

  module _ (history : List Entry) (snapshot : Registration) (m : _) (taken : IsTakenAt z first history snapshot m) where
    begun : taken.actor.participant ≡ new_participant client z.opened
    begun = taken.participant ∙ ap participant_of is

    pub opened_then : history ≡ z.opened
    opened_then =
        sym taken.history_is
        ∙ seen_whole taken.world taken.there.reached taken.actor (alone_at z first.by taken.actor taken.world taken.there (ap (λ (s : SeatState). s.by) is) (taken.made ∙ ap (λ (s : SeatState). s.knows.made) is) (taken.joined ∙ ap (λ (s : SeatState). s.knows.joined) is))
        (subst (λ (p : Participant). StartsWith p.seen taken.world.opened) (sym begun) (subst (StartsWith z.opened) (sym taken.there.opened) ([], sym (append-nil z.opened))))
        (subst (λ (p : Participant). (n : ℕ) → IsIn n p.own → n ≤ length p.seen) (sym begun) (λ n there. absurd there))
        ∙ ap (λ (p : Participant). p.seen) begun

    number_then : snapshot.number ≡ length z.opened
    number_then = taken.number ∙ ap (λ (h : List Entry). length h) (taken.history_is ∙ opened_then)

    pub all_then : take snapshot.number history ≡ z.opened
    all_then = (λ i. take (number_then i) (opened_then i)) ∙ take_all (length z.opened) z.opened (omega arith)

    pub whole_then : undone_last z.opened ≡ None → undone_last (take snapshot.number history) ≡ None
    whole_then whole = ap undone_last all_then ∙ whole

  -- ---- what is left of it

  module _ (s : SeatState) (free : IsFree z.table s) (by : s.by ≡ first.by) (made : s.knows.made ≡ first.knows.made) (joined : s.knows.joined ≡ first.knows.joined)
      (same : participant_of s ≡ record (new_participant client z.opened) { seen = seen_by s }) where
    pub unused : IsUnused z s
    unused = record {
      only = record { by = by ∙ ap (λ (x : SeatState). x.by) is; made = made ∙ ap (λ (x : SeatState). x.knows.made) is; joined = joined ∙ ap (λ (x : SeatState). x.knows.joined) is };
      holds = record {
        txn = record {
          free = free;
          direct = ap (λ (p : Participant). p.direct) same;
          has = tt;
          only = λ name none. subst (λ (p : Participant). finite.get p.transactions name ≡ None) (sym same) (finite.get-empty key_cmp name);
        };
        registered = λ r. ap (λ (p : Participant). times_registered r p.registered) same;
        within = tt;
        distinct = tt;
      };
      own = ap (λ (p : Participant). p.own) same;
      past = ap (λ (p : Participant). p.past) same;
    }

  -- where no snapshot was taken
  pub none_taken : (s : SeatState) → Continues z first s (participant_of first) → IsUnused z s
  none_taken s goes = unused s goes.free goes.same_by goes.made goes.joined (goes.participant ∙ ap (λ (p : Participant). record p { seen = seen_by s }) (ap participant_of is))

  -- where one was taken
  module _ (snapshot : Registration) (s : SeatState) (took : Continues z first s (record (participant_of first) { registered = first.knows.participant.registered ++ snapshot ∷ [] })) where
    took_is : participant_of s ≡ record (new_participant client z.opened) { seen = seen_by s; registered = snapshot ∷ [] }
    took_is = took.participant ∙ ap (λ (x : SeatState). record (participant_of x) { seen = seen_by s; registered = x.knows.participant.registered ++ snapshot ∷ [] }) is

    pub registered_then : IsIn snapshot s.knows.participant.registered
    registered_then = subst (IsIn snapshot) (sym (ap (λ (p : Participant). p.registered) took_is)) (inl refl)

    -- and something was read at it
    module _ (t : SeatState) (read : Continues z s t (participant_of s)) where
      read_is : participant_of t ≡ record (new_participant client z.opened) { seen = seen_by t; registered = snapshot ∷ [] }
      read_is = read.participant ∙ ap (λ (p : Participant). record p { seen = seen_by t }) took_is

      pub registered_still : IsIn snapshot t.knows.participant.registered
      registered_still = subst (IsIn snapshot) (sym (ap (λ (p : Participant). p.registered) read_is)) (inl refl)

      -- and it is released again
      pub released : (u : SeatState) (rest : List Registration) → rest ≡ without_last (Some snapshot) t.knows.participant.registered → Continues z t u (record (participant_of t) { registered = rest }) → IsUnused z u
      released u rest none gave =
          unused u gave.free (gave.same_by ∙ read.same_by ∙ took.same_by) (gave.made ∙ read.made ∙ took.made) (gave.joined ∙ read.joined ∙ took.joined)
          (gave.participant ∙ (λ i. record (read_is i) { seen = seen_by u; registered = (none ∙ ap (λ (p : Participant). without_last (Some snapshot) p.registered) read_is) i }))
