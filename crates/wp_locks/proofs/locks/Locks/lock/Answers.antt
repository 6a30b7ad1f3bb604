use Rattle.std.proofs.Common.{refl, sym, ap, ◌∙◌}
use Rattle.wp_locks.specs.Locks.{is_free_for}
use Rattle.wp_locks.proofs.Maps.{map_of, map_of_inserted, get_found}
use Rattle.wp_locks.proofs.Tables.{locked_again, with_keys}
use Rattle.wp_locks.proofs.locks.Locks.lock.Goals as goal

pub returns-then-is_same_txn : goal.returns-then-is_same_txn
returns-then-is_same_txn c =
    let found = get_found _ c.args.key.now _ c.in-Some.ensures.value in
    let keys = locked_again _ c.args.key.now c.in-Some.other.now c.args.holder found (sym c.is_same_txn.ensures ∙ c.if-is_same_txn.true) in
    rw (← c.self.view_is) (ap (λ o. is_free_for o c.args.holder) found ∙ sym c.is_same_txn.ensures ∙ c.if-is_same_txn.true, with_keys _ _ keys)

pub returns-in-Some : goal.returns-in-Some
returns-in-Some c =
    let found = get_found _ c.args.key.now _ c.in-Some.ensures.value in
    rw (c.in_ok-copy.ensures, ← c.self.view_is) (found, sym c.is_same_txn.ensures ∙ c.if-is_same_txn.false, refl)

pub returns : goal.returns
returns c =
    let found = get_found _ c.args.key.now _ c.in_default.ensures.value in
    let updated = rw c.in_ok-copy-2.ensures at c.in_ok-insert.ensures.updates in
    let keys = map_of_inserted _ _ c.args.key.now c.args.holder updated.0 in
    rw (← c.self.view_is) (ap (λ o. is_free_for o c.args.holder) found, λ i. record { names = map_of c.self.inside.names.entries; keys = keys i; labels = map_of c.self.inside.labels.entries })
