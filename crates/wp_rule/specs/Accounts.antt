-- How the holder is accounted for whom a seat finds under the locks turn.
use Rattle.std.specs.Prelude.{◌≡◌, ℕ, Bool, true, false, ◌&&◌, List, Option, Some, None, is_some, bytes_eq, if◌then◌else◌}
use Rattle.std.specs.FinMap as finite
use Rattle.wp_model.specs.LockState.{LockState}
use Rattle.wp_model.specs.declared.holder.Holder.{Holder}
use Rattle.wp_model.specs.declared.holder.Holder.TheVariants.{Txn, Client}
use Rattle.wp_core.specs.Views.{Account, own, another, prepare_at}
use Rattle.wp_core.specs.World.{Participant}

-- the locks have the holder of the key; where no key is given, the holder is a live name
abbrev pub IsHolderIn : LockState → Option (List ℕ) → Holder → Type 0
IsHolderIn t (Some key) holder = finite.get t.keys key ≡ Some holder
IsHolderIn t None holder = (name : List ℕ) × (holder ≡ Txn name) × (is_some (finite.get t.names name) ≡ true)

-- it is this key
abbrev pub is_key : Option (List ℕ) → List ℕ → Bool
is_key None key = false
is_key (Some other) key = bytes_eq other key

-- the participant is this holder itself: it has the transaction, or the direct write of the key
abbrev pub is_self : Participant → Option (List ℕ) → Holder → Bool
is_self p key (Txn name) = is_some (finite.get p.transactions name)
is_self p (Some key) (Client client) = bytes_eq p.client client && is_key p.direct key
is_self p None (Client client) = false

-- a live name that no client has is an undecided prepare's
abbrev pub account_by : ℕ → Option (Option (List ℕ)) → Account
account_by published (Some None) = prepare_at published
account_by published other = another

-- the account of a holder that is not the finder itself
abbrev pub account_else : LockState → ℕ → Holder → Account
account_else t published (Txn name) = account_by published (finite.get t.names name)
account_else t published (Client client) = another

-- the account of a holder that this participant finds, where so many entries are published
abbrev pub account_of : Participant → LockState → ℕ → Option (List ℕ) → Holder → Account
account_of p t published key holder = if is_self p key holder then own else account_else t published holder
