use Rattle.std.proofs.Common.{rules, ◌≡◌, ℕ, true, List}
use Rattle.wp_model.specs.declared.holder.Holder.TheVariants.{Txn}
use Rattle.wp_model.specs.LockState.{is_among_keys}
use Rattle.wp_core.specs.Changes.{keys_of_holder}
use Rattle.wp_machine.proofs.NameMaps.{set_of}
use Rattle.wp_machine_permits.specs.Each.{Each}
use Rattle.wp_machine_permits.proofs.KeysOf.{just_these}
use Rattle.wp_machine_permits.proofs.needs.unchanged.are_keys_of.Goals as goal

pub returns : goal.returns
returns c held =
    let found : List (List ℕ) = c.in_ok-found.found.items in
    let are : set_of found ≡ keys_of_holder c.args.locks.now (Txn c.args.name.now) = search rules in
    let among : Each (λ key. is_among_keys c.args.keys.now key ≡ true) found = rw c.deref.ensures.value at c.are_among.ensures c.if-not-are_among.false in
    just_these c.args.locks.now c.args.name.now c.args.keys.now found are among (c.are_held.ensures held)
