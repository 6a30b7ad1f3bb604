-- What is known of a holder that a seat found, which is not the seat itself.
use Rattle.std.proofs.Common.{◌≡◌, inl, inr, ℕ, ◌≤◌, Bool, true, false, List, length, Option, Some, None, refl, subst, ap, ◌∙◌, arith}
use Rattle.std.specs.Prelude.{◌&&◌, is_some}
use Rattle.std.specs.Str.{bytes_eq}
use Rattle.std.specs.FinMap as finite
use Rattle.wp_model.specs.declared.entry.Entry.{Entry}
use Rattle.wp_model.specs.declared.holder.Holder.{Holder}
use Rattle.wp_model.specs.declared.holder.Holder.TheVariants as holder
use Rattle.wp_model.specs.LockState.{LockState}
use Rattle.wp_core.specs.Views.{another}
use Rattle.wp_core.specs.World.{Transaction, Participant}
use Rattle.wp_rule.specs.Accounts.{is_key, is_self, account_by, account_else, account_of}
use Rattle.wp_replies.specs.Replies.{Evidence, WasUndecided, IsBusy, IsNameTaken}
use Rattle.wp_client.specs.Agrees.{IsAnother, KnowsHolder}

and_false : (b : Bool) → (b && false) ≡ false
and_false true = refl
and_false false = refl

-- the participant is not the holder, where it has no such transaction and writes nothing directly
not_self : (p : Participant) (key : Option (List ℕ)) (h : Holder) → p.direct ≡ None → ((name : List ℕ) → h ≡ holder.Txn name → finite.get p.transactions name ≡ None) → is_self p key h ≡ false
not_self p key (holder.Txn name) direct none = ap (λ (x : Option Transaction). is_some x) (none name refl)
not_self p (Some key) (holder.Client client) direct none = ap (λ (d : Option (List ℕ)). bytes_eq p.client client && is_key d key) direct ∙ and_false (bytes_eq p.client client)
not_self p None (holder.Client client) direct none = refl

account_is : (p : Participant) (t : LockState) (published : ℕ) (key : Option (List ℕ)) (h : Holder) → is_self p key h ≡ false → account_of p t published key h ≡ account_else t published h
account_is p t published key h none = rw none refl

-- a prepare that was undecided once more was seen was so once less was
earlier : (h : List Entry) (last seen : ℕ) (name : List ℕ) (p : ℕ) → last ≤ seen → WasUndecided h seen name p → WasUndecided h last name p
earlier h last seen name p low was = record { at = was.at; fresh = (let f = was.fresh.0 in omega (arith, f, low), was.fresh.1); undecided = was.undecided; named = was.named }

-- another client has the transaction
busy_of_another : (e : Evidence) (last : ℕ) (key name : List ℕ) → IsAnother e (Some key) (holder.Txn name) → IsBusy e last key (holder.Txn name)
busy_of_another e last key name (inl has) = inr (inl has)
busy_of_another e last key name (inr (took, inl had)) = inr (inr (inl (took, had)))
busy_of_another e last key name (inr (took, inr locked)) = inr (inr (inr (locked, inr took)))

busy_by : (e : Evidence) (last seen : ℕ) (key name : List ℕ) (published : ℕ) (live : Option (Option (List ℕ))) → last ≤ seen → KnowsHolder e (Some key) (holder.Txn name) seen (account_by published live) → IsBusy e last key (holder.Txn name)
unfolding earlier
busy_by e last seen key name published (Some None) low (p, was, inl has) = inl (p, earlier e.history last seen name p low was, has)
busy_by e last seen key name published (Some None) low (p, was, inr (behind, locked)) = inr (inr (inr (locked, inl (p, earlier e.history last seen name p low was, behind))))
busy_by e last seen key name published (Some (Some client)) low k = busy_of_another e last key name k
busy_by e last seen key name published None low k = busy_of_another e last key name k

taken_by : (e : Evidence) (last seen : ℕ) (name : List ℕ) (published : ℕ) (live : Option (Option (List ℕ))) → last ≤ seen → KnowsHolder e None (holder.Txn name) seen (account_by published live) → IsNameTaken e last name
taken_by e last seen name published (Some None) low (p, was, has) = inl (p, earlier e.history last seen name p low was)
taken_by e last seen name published (Some (Some client)) low k = inr k
taken_by e last seen name published None low k = inr k

-- the holder of a key, as the table of replies has it
pub found_busy : (e : Evidence) (last : ℕ) (key : List ℕ) (h : Holder) (p : Participant) (t : LockState) (published : ℕ) → last ≤ length p.seen → p.direct ≡ None → ((name : List ℕ) → h ≡ holder.Txn name → finite.get p.transactions name ≡ None)
    → KnowsHolder e (Some key) h (length p.seen) (account_of p t published (Some key) h) → IsBusy e last key h
found_busy e last key (holder.Txn name) p t published low direct none k =
    busy_by e last (length p.seen) key name published (finite.get t.names name) low (subst (KnowsHolder e (Some key) (holder.Txn name) (length p.seen)) (account_is p t published (Some key) (holder.Txn name) (not_self p (Some key) (holder.Txn name) direct none)) k)
found_busy e last key (holder.Client client) p t published low direct none k =
    subst (KnowsHolder e (Some key) (holder.Client client) (length p.seen)) (account_is p t published (Some key) (holder.Client client) (not_self p (Some key) (holder.Client client) direct none)) k

-- likewise a live name
pub found_taken : (e : Evidence) (last : ℕ) (name : List ℕ) (p : Participant) (t : LockState) (published : ℕ) → last ≤ length p.seen → p.direct ≡ None → finite.get p.transactions name ≡ None
    → KnowsHolder e None (holder.Txn name) (length p.seen) (account_of p t published None (holder.Txn name)) → IsNameTaken e last name
found_taken e last name p t published low direct none k =
    taken_by e last (length p.seen) name published (finite.get t.names name) low (subst (KnowsHolder e None (holder.Txn name) (length p.seen)) (account_is p t published None (holder.Txn name) (ap (λ (x : Option Transaction). is_some x) none)) k)

-- who is found to have a name of which the participant has no transaction is another client
pub of_another : (p : Participant) (t : LockState) (published : ℕ) (name client : List ℕ) → finite.get p.transactions name ≡ None → finite.get t.names name ≡ Some (Some client) → account_of p t published None (holder.Txn name) ≡ another
of_another p t published name client none is = account_is p t published None (holder.Txn name) (ap (λ (x : Option Transaction). is_some x) none) ∙ ap (account_by published) is
