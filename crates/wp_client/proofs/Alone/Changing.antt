-- What a change comes to, and what it comes to where an open transaction asks for a key.
use Rattle.std.proofs.Common.{◌≡◌, ℕ, ◌+◌, ◌≤◌, ◌&&◌, Bool, true, false, not, nat_le, List, [], ◌∷◌, length, refl, ap, ◌∙◌, Option, Some, None, arith}
use Rattle.std.specs.Prelude.{IfSome, if◌then◌else◌}
use Rattle.std.proofs.lemmas.Bool.Decides.{nat_tests}
use Rattle.wp_model.specs.declared.batch.TheConstants.{MOST_KEYS}
use Rattle.wp_model.specs.declared.change.Change.{Change}
use Rattle.wp_model.specs.declared.change.Change.TheVariants as change
use Rattle.wp_model.specs.declared.entry.Entry.{Entry}
use Rattle.wp_model.specs.declared.entry.Entry.TheVariants as entry
use Rattle.wp_model.specs.declared.holder.Holder.TheVariants as holder
use Rattle.wp_model.specs.Batch.{key_of, change_to}
use Rattle.wp_model.specs.Changed.{conflict}
use Rattle.wp_model.specs.History.{name_at, value_at}
use Rattle.wp_model.specs.LockState.{Labels}
use Rattle.wp_text.specs.declared.script.Command.{Command}
use Rattle.wp_text.specs.declared.script.Command.TheVariants as command
use Rattle.wp_text.specs.declared.reply.Reply.{Reply}
use Rattle.wp_text.specs.declared.reply.Reply.TheVariants as reply
use Rattle.wp_replies.specs.declared.plan.Plan.TheVariants.{Say, Log}
use Rattle.wp_replies.specs.declared.client.LabelledSnapshot.{LabelledSnapshot}
use Rattle.wp_replies.specs.Txn.{Staged, Idle, Open, is_its_key, LockedKeys}
use Rattle.wp_replies.specs.Client.{Client, has_no_room}
use Rattle.wp_replies.specs.Due.{board_after, client_after}
use Rattle.wp_replies.specs.Plan.{plan, next, holder_then, busy_or, conflict_or, unless_busy, unless_changed, with_key_plan, read_or_own, read_reply, refused_or}
use Rattle.wp_open_txns.specs.Calls.{IsFull}
use Rattle.wp_open_txns.specs.Txn.{OpenState}
use Rattle.wp_client.specs.Holdings.{staged_of}
use Rattle.wp_client.specs.Replies.{asking, acknowledging}

-- no reply to it changes the board
pub board_same : (c : Change) (b : Labels) (r : Reply) → board_after b (asking c) r ≡ b
board_same (change.Put key value) b r = refl
board_same (change.Del key) b r = refl

module _ (snapshots : List LabelledSnapshot) where
  abbrev idle : Client
  idle = record { txn = Idle; snapshots = snapshots }

  abbrev open_ : Staged → Client
  open_ own = record { txn = Open own; snapshots = snapshots }

  -- ---- at once

  pub writes_at_once : (history : List Entry) (locked : List LockedKeys) (c : Change) → holder_then history locked (key_of c) ≡ None → plan history locked idle (asking c) ≡ Log (entry.Write (c ∷ [])) (acknowledging c (next history))
  writes_at_once history locked (change.Put key value) free = ap (λ (o : Option ℕ). busy_or history o (Log (entry.Write (change.Put key value ∷ [])) (reply.Put (next history)))) free
  writes_at_once history locked (change.Del key) free = ap (λ (o : Option ℕ). busy_or history o (Log (entry.Write (change.Del key ∷ [])) (reply.Del (next history)))) free

  pub is_busy_at_once : (history : List Entry) (locked : List LockedKeys) (c : Change) (p : ℕ) → holder_then history locked (key_of c) ≡ Some p → plan history locked idle (asking c) ≡ Say (reply.Busy (holder.Txn (name_at history p)))
  is_busy_at_once history locked (change.Put key value) p held = ap (λ (o : Option ℕ). busy_or history o (Log (entry.Write (change.Put key value ∷ [])) (reply.Put (next history)))) held
  is_busy_at_once history locked (change.Del key) p held = ap (λ (o : Option ℕ). busy_or history o (Log (entry.Write (change.Del key ∷ [])) (reply.Del (next history)))) held

  pub still_idle : (history : List Entry) (c : Change) (n : ℕ) → idle ≡ client_after history idle (asking c) (acknowledging c n)
  still_idle history (change.Put key value) n = refl
  still_idle history (change.Del key) n = refl

  -- ---- in a transaction

  -- the command comes to this: the key comes to the open transaction, and that is said; or it is refused
  abbrev pub Comes : List Entry → List LockedKeys → Staged → Command → List ℕ → Reply → Type 0
  Comes history locked own c key made = plan history locked (open_ own) c ≡ refused_or (if has_no_room own key then Some reply.TooMany else None) (with_key_plan history locked own key made)

  pub change_comes : (history : List Entry) (locked : List LockedKeys) (own : Staged) (c : Change) → Comes history locked own (asking c) (key_of c) reply.Held
  change_comes history locked own (change.Put key value) = refl
  change_comes history locked own (change.Del key) = refl

  pub lock_comes : (history : List Entry) (locked : List LockedKeys) (own : Staged) (key : List ℕ) → change_to own.batch key ≡ None → Comes history locked own (command.Lock key) key (read_reply (value_at history key (length history)) (length history))
  lock_comes history locked own key none = ap (λ (o : Option (Option (List ℕ))). refused_or (if has_no_room own key then Some reply.TooMany else None) (read_or_own history locked own o key)) none

  module _ (history : List Entry) (locked : List LockedKeys) (own : Staged) (c : Command) (key : List ℕ) (made : Reply) (comes : Comes history locked own c key made) where
    pub says_too_many : has_no_room own key ≡ true → plan history locked (open_ own) c ≡ Say reply.TooMany
    says_too_many full = comes ∙ ap (λ (b : Bool). refused_or (if b then Some reply.TooMany else None) (with_key_plan history locked own key made)) full

    module _ (room : has_no_room own key ≡ false) where
      with_room : plan history locked (open_ own) c ≡ with_key_plan history locked own key made
      with_room = comes ∙ ap (λ (b : Bool). refused_or (if b then Some reply.TooMany else None) (with_key_plan history locked own key made)) room

      pub says_its : is_its_key own key ≡ true → plan history locked (open_ own) c ≡ Say made
      says_its its = with_room ∙ ap (λ (b : Bool). if b then Say made else unless_busy history locked key (unless_changed history own.pin key (Say made))) its

      module _ (new : is_its_key own key ≡ false) where
        asks_holder : plan history locked (open_ own) c ≡ unless_busy history locked key (unless_changed history own.pin key (Say made))
        asks_holder = with_room ∙ ap (λ (b : Bool). if b then Say made else unless_busy history locked key (unless_changed history own.pin key (Say made))) new

        pub says_busy : (p : ℕ) → holder_then history locked key ≡ Some p → plan history locked (open_ own) c ≡ Say (reply.Busy (holder.Txn (name_at history p)))
        says_busy p held = asks_holder ∙ ap (λ (o : Option ℕ). busy_or history o (unless_changed history own.pin key (Say made))) held

        module _ (free : holder_then history locked key ≡ None) where
          asks_pin : plan history locked (open_ own) c ≡ unless_changed history own.pin key (Say made)
          asks_pin = asks_holder ∙ ap (λ (o : Option ℕ). busy_or history o (unless_changed history own.pin key (Say made))) free

          pub says_conflict : (pin n : ℕ) → own.pin ≡ Some pin → conflict history key pin ≡ Some n → plan history locked (open_ own) c ≡ Say (reply.Conflict n)
          says_conflict pin n pinned changed = asks_pin ∙ ap (λ (o : Option ℕ). unless_changed history o key (Say made)) pinned ∙ ap (λ (o : Option ℕ). conflict_or o (Say made)) changed

          pub says_free : IfSome own.pin (λ pin. conflict history key pin ≡ None) → plan history locked (open_ own) c ≡ Say made
          says_free unchanged = asks_pin ∙ by own.pin unchanged
            where
              by : (pin : Option ℕ) → IfSome pin (λ n. conflict history key n ≡ None) → unless_changed history pin key (Say made) ≡ Say made
              by None none = refl
              by (Some pin) none = ap (λ (o : Option ℕ). conflict_or o (Say made)) none

-- ---- how many keys a transaction has

-- one that is full for a key has no room for it, and one that is not has
pub full_has_none : (txn : OpenState) (key : List ℕ) → IsFull txn key → has_no_room (staged_of txn) key ≡ true
full_has_none txn key full =
    let many : nat_le MOST_KEYS (length txn.batch + length txn.locked) ≡ true = (let size = full.0 in grind (arith, nat_tests)) in
    ap (λ (b : Bool). b && not (is_its_key (staged_of txn) key)) many ∙ ap (λ (b : Bool). not b) full.1

pub not_full_has_room : (txn : OpenState) (key : List ℕ) → length txn.batch + length txn.locked ≤ MOST_KEYS → (IsFull txn key → ⊥) → has_no_room (staged_of txn) key ≡ false
not_full_has_room txn key few not_full = by (nat_le MOST_KEYS (length txn.batch + length txn.locked)) refl (is_its_key (staged_of txn) key) refl
  where
    by : (b : Bool) → nat_le MOST_KEYS (length txn.batch + length txn.locked) ≡ b → (its : Bool) → is_its_key (staged_of txn) key ≡ its → (b && not its) ≡ false
    by false many its is = refl
    by true many true is = refl
    by true many false is = let size : length txn.batch + length txn.locked ≡ MOST_KEYS = (let m = many in grind (arith, nat_tests)) in absurd (not_full (size, is))
