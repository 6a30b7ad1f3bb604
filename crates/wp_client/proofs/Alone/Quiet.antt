-- What is answered where nothing is logged and no edit installed: the store is as it was.
use Rattle.std.proofs.Common.{◌≡◌, Bool, true, false, List, [], ◌++◌, refl, sym, subst, ap, ◌∙◌, append-nil, Some}
use Rattle.std.specs.Prelude.{if◌then◌else◌}
use Rattle.wp_model.specs.Flushed.{InstalledEdit}
use Rattle.wp_model.specs.LockState.{Labels}
use Rattle.wp_text.specs.declared.script.Command.{Command}
use Rattle.wp_text.specs.declared.reply.Reply.{Reply}
use Rattle.wp_text.specs.declared.reply.Reply.TheVariants as reply
use Rattle.wp_core.specs.World.{World}
use Rattle.wp_core.specs.Sound.Pasts.{closes_log, is_tables_fault}
use Rattle.wp_core.specs.Views.{Event, log_failed, log_stopped, tables_failed}
use Rattle.wp_shared.specs.Seats.{SharedState, SeatState, Stands}
use Rattle.wp_replies.specs.Client.{Client}
use Rattle.wp_replies.specs.Txn.{Txn, Idle, Open, Prepared, LockedKeys}
use Rattle.wp_replies.specs.Due.{Store, plan_in, IsReply, edit_of, board_after, locked_after, store_after, client_after}
use Rattle.wp_replies.specs.Kind.{Kind, is_logged, is_fault, is_installed, is_renewal, says_log_fault, says_tables_fault, says_installed, says_renewed, says_stop}
use Rattle.wp_replies.specs.Kind as kind
use Rattle.wp_replies.specs.Plan.{asked_of}
use Rattle.wp_client.specs.Alone.{IsOnly, IsStoreOf, AreLockedIn, AnswersAlone}
use Rattle.wp_client.proofs.Alone.Published.{not_counted}
use Rattle.wp_client.proofs.Alone.Seated.{AreQuiet, Follows, same_store}

-- ---- what else a reply does not say

-- a reply of no fault stops no log
pub never_stops : (renewal : Bool) (k : Kind) → says_log_fault k ≡ false → says_tables_fault k ≡ false → says_stop renewal k ≡ false
never_stops renewal kind.LogFault log tables = absurd cc
never_stops renewal kind.TablesFault log tables = absurd cc
never_stops renewal other log tables = refl

-- one of no edit tells of no renewal
pub never_renews : (k : Kind) → says_installed k ≡ false → says_renewed k ≡ false
never_renews (kind.Renewed n) none = absurd cc
never_renews other none = refl

-- only a prepare keeps locked keys
pub locked_same : (locked : List LockedKeys) (txn : Txn) (r : Reply) → is_logged r ≡ false → locked_after locked txn r ≡ locked
locked_same locked Idle r none = refl
locked_same locked (Open own) (reply.Prepared n) none = absurd cc
locked_same locked (Open own) r none = refl
locked_same locked (Prepared p) r none = refl

-- the reply says of no change of the store
pub record LeavesStore (c : Command) (r : Reply) : Type 0 where
  pub logged : is_logged r ≡ false
  pub fault : is_fault r ≡ false
  pub installed : is_installed r ≡ false
  pub tables : kind.is_tables_fault r ≡ false
  pub board : (b : Labels) → board_after b c r ≡ b

pub store_stays : (store : Store) (was : Client) (c : Command) (r : Reply) → LeavesStore c r → store_after 0 store was c r ≡ store
store_stays store was c r l = λ i. record {
  base = store.base;
  history = (ap (λ (b : Bool). store.history ++ (if b then asked_of (plan_in store was c) else [])) l.logged ∙ append-nil store.history) i;
  stopped = ap (λ (b : Bool). if b then true else store.stopped) (never_stops (is_renewal c) (kind.kind r) l.fault l.tables) i;
  limit = ap (λ (b : Bool). if b then store.renewed_limit else store.limit) (never_renews (kind.kind r) l.installed) i;
  renewed_limit = store.renewed_limit;
  cells = store.cells;
  installed = ap (λ (b : Bool). if b then edit_of 0 store was (plan_in store was c) else store.installed) l.installed i;
  halted = ap (λ (b : Bool). if b then true else store.halted) l.tables i;
  board = l.board store.board i;
  locked = locked_same store.locked was.txn r l.logged i;
}

module _ {D : Type 0} (z : SharedState D) (first : InstalledEdit) (old new : SeatState) (only : IsOnly old) (store : Store) (is : IsStoreOf z first old.knows.participant store) where
  -- the locked keys are those of the store as it was
  locked_stays : (s : SeatState) (txn : Txn) (was : Client) (c : Command) (r : Reply) → LeavesStore c r → AreLockedIn z s txn store → AreLockedIn z s txn (store_after 0 store was c r)
  locked_stays s txn was c r leaves = subst (AreLockedIn z s txn) (sym (store_stays store was c r leaves))

  -- the seat is as it was
  pub at_once : new ≡ old → (was now : Client) (c : Command) (r : Reply) → LeavesStore c r → IsReply store was c r → now ≡ client_after store.history was c r → now.txn ≡ was.txn → AnswersAlone z first old new was now c r store
  at_once same was now c r leaves replied client txn = record {
    replied = replied;
    place = 0;
    store_is = subst (λ (x : Store). IsStoreOf z first new.knows.participant x) (sym (store_stays store was c r leaves)) (subst (λ (s : SeatState). IsStoreOf z first s.knows.participant store) (sym same) is);
    locked = λ are. locked_stays new now.txn was c r leaves (subst (λ (t : Txn). AreLockedIn z new t store) (sym txn) (subst (λ (s : SeatState). AreLockedIn z s was.txn store) (sym same) are));
    client = client;
    events = [];
    past = ap (λ (s : SeatState). s.knows.participant.past) same ∙ sym (append-nil old.knows.participant.past);
    asked = λ entries there. absurd there;
    asked_none = λ there. absurd there;
    asked_edit = λ last edit there. absurd there;
  }

  module _ (stood : (w : World) × Stands z new w) where
    -- the seat remembers such events more
    pub quiet_answers : (events : List Event) → Follows old new [] events → AreQuiet events → (was now : Client) (c : Command) (r : Reply) → LeavesStore c r → IsReply store was c r → now ≡ client_after store.history was c r
        → (AreLockedIn z old was.txn store → AreLockedIn z new now.txn store) → AnswersAlone z first old new was now c r store
    quiet_answers events f quiet was now c r leaves replied client locked = record {
      replied = replied;
      place = 0;
      store_is = subst (λ (x : Store). IsStoreOf z first new.knows.participant x) (sym (store_stays store was c r leaves)) (same_store z first old new only store is stood events f quiet);
      locked = λ are. locked_stays new now.txn was c r leaves (locked are);
      client = client;
      events = events;
      past = f.past;
      asked = λ entries there. absurd (not_counted closes_log events (log_failed entries) quiet.log there refl);
      asked_none = λ there. absurd (not_counted closes_log events log_stopped quiet.log there refl);
      asked_edit = λ last edit there. absurd (not_counted is_tables_fault events (tables_failed last (Some edit)) quiet.leave.tables there refl);
    }
