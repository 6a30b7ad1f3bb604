-- A session begins at a new seat.
use Rattle.std.proofs.Common.{◌≡◌, inl, ℕ, ◌≤◌, true, List, [], length, Option, Some, None, refl, sym, subst, ap, arith}
use Rattle.std.specs.Prelude.{is_some}
use Rattle.std.specs.FinMap as finite
use Rattle.std.specs.FinMap.{get-empty}
use Rattle.wp_model.specs.declared.entry.Entry.{Entry}
use Rattle.wp_model.specs.Batch.{key_cmp}
use Rattle.wp_model.proofs.Entries.{undecided_within}
use Rattle.wp_core.specs.Lists.{IsIn}
use Rattle.wp_core.specs.Sound.Pasts.{tables_due}
use Rattle.wp_core.specs.Views.{Event, log_failed, log_stopped, tables_failed}
use Rattle.wp_core.specs.World.{Actor, Participant, new_participant}
use Rattle.wp_core.proofs.KeepsSeen.{whole}
use Rattle.wp_shared.proofs.Limits.{limit_opened}
use Rattle.wp_shared.specs.Seats.{SharedState, SeatState}
use Rattle.wp_replies.specs.Txn.{Idle}
use Rattle.wp_replies.specs.Client.{new_client}
use Rattle.wp_replies.specs.Current.{opened_store}
use Rattle.wp_replies.specs.Known.{StoredState, known_at_first}
use Rattle.wp_client.specs.Alone.{log_faults, device_faults, tables_faults, limits_of, IsStoreOf, AreLockedIn}
use Rattle.wp_client.specs.Holdings.{times_registered, no_holdings, Holds}
use Rattle.wp_seats.specs.New.{IsNew}
use Rattle.wp_threads.specs.SoFar.{IsFound, IsExplainedTo, IsSessionSoFar}

some_not_none : (o : Option ℕ) → o ≡ None → is_some o ≡ true → ⊥
some_not_none o none is = absurd cc

module _ {D : Type 0} (z : SharedState D) (name : List ℕ) (s : SeatState) (new : IsNew z name s) where
  is_new : s.knows.participant ≡ new_participant name z.opened
  is_new = ap (λ (a : Actor). a.participant) new.knows

  of_new : (P : Participant → Type 0) → P (new_participant name z.opened) → P s.knows.participant
  of_new P holds = subst P (sym is_new) holds

  pub holds_new : Holds z s no_holdings
  holds_new = record {
    txn = record {
      free = record { same_table = new.table; live = ap (λ (a : Actor). a.live) new.knows; turns = new.turns; held = ap (λ (a : Actor). a.held) new.knows };
      direct = ap (λ (p : Participant). p.direct) is_new;
      has = tt;
      only = λ n none. of_new (λ p. finite.get p.transactions n ≡ None) (get-empty key_cmp n);
    };
    registered = λ r. of_new (λ p. times_registered r p.registered ≡ times_registered r []) refl;
    within = tt;
    distinct = tt;
  }

module _ {D : Type 0} (z : SharedState D) (found : StoredState) (is_found : IsFound z found) (name : List ℕ) (s : SeatState) (new : IsNew z name s) where
  store_is : IsStoreOf z found.edit (new_participant name z.opened) (opened_store (limits_of z) found)
  store_is = record {
    first_is = is_found.edit;
    at = is_found.at;
    base = refl;
    risen = omega arith;
    history = is_found.history;
    opened = whole z.opened;
    own = λ n there. absurd there;
    stopped = refl;
    limit = sym (limit_opened z found.edit.segment.base is_found.at);
    renewed_limit = refl;
    cells = refl;
    installed = refl;
    halted = refl;
    board = λ label. ((λ is. absurd (some_not_none (finite.get finite.empty label) (get-empty key_cmp label) is)), (λ told. absurd told.1));
  }

  -- no prepare was made since the opening
  none_locked : AreLockedIn z s Idle (opened_store (limits_of z) found)
  none_locked = record {
    since = λ x there. absurd there;
    known = λ x there undecided. absurd there;
    all = λ p behind undecided. let within = (undecided_within found.history p undecided).1 in let same = ap (λ (h : List Entry). length h) is_found.history in absurd (omega (arith, behind, within, same));
  }

  -- and nothing was done
  nothing_past : (event : Event) → IsIn event s.knows.participant.past → ⊥
  nothing_past event = of_new z name s new (λ p. IsIn event p.past → ⊥) (λ none. none)

  pub goes_new : IsSessionSoFar z found name [] [] s no_holdings
  goes_new = record {
    holds = holds_new z name s new;
    client = ap (λ (p : Participant). p.client) (is_new z name s new);
    each = refl;
    own = ap (λ (p : Participant). p.own) (is_new z name s new);
    within = of_new z name s new (λ p. (n : ℕ) → IsIn n p.own → n ≤ z.limit) (λ n there. absurd there);
    session = record {
      progress = known_at_first found;
      is_progress = record {
        last = of_new z name s new (λ p. length found.history ≤ length p.seen) (let same : length found.history ≡ length z.opened = ap (λ (h : List Entry). length h) is_found.history in omega (arith, same));
        tables = of_new z name s new (λ p. (known_at_first found).tables ≡ tables_due found.edit p.past) refl;
        base = inl refl;
        labels = λ label known. absurd cc;
        keys = tt;
      };
      goes_on = λ e agrees commands others rest. rest;
    };
    explained = of_new z name s new (λ p. IsExplainedTo name [] [] p.past new_client) (record { alike = new_client; is_alike = refl; goes_on = λ is_such commands others comes. comes; explained = λ event there. absurd there });
    log_failed = of_new z name s new (λ p. 0 ≡ device_faults p.past) refl;
    log_stopped = of_new z name s new (λ p. 0 ≡ log_faults p.past) refl;
    tables_failed = of_new z name s new (λ p. 0 ≡ tables_faults p.past) refl;
    remembered = λ answer there. absurd there;
    alone = λ only. record {
      places = [];
      store = opened_store (limits_of z) found;
      store_is = of_new z name s new (λ p. IsStoreOf z found.edit p (opened_store (limits_of z) found)) store_is;
      locked = none_locked;
      ran = (refl, refl);
      asked = λ entries there. absurd (nothing_past (log_failed entries) there);
      asked_none = λ there. absurd (nothing_past log_stopped there);
      asked_edit = λ last edit there. absurd (nothing_past (tables_failed last (Some edit)) there);
    };
  }
