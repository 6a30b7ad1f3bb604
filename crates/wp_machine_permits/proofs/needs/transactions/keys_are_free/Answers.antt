use Rattle.std.proofs.Common.{◌≡◌, ℕ, List, None, sym, ap, ◌∙◌}
use Rattle.std.specs.FinSet as set
use Rattle.wp_model.specs.History.{holder_of}
use Rattle.wp_machine.proofs.NameMaps.{set_of}
use Rattle.wp_machine_permits.proofs.LiveNumbers.{each_locked, locked_each}
use Rattle.wp_machine_permits.proofs.needs.transactions.keys_are_free.Goals as goal

pub returns : goal.returns
returns c =
    let P : List ℕ → Type 0 = λ key. holder_of c.args.history.now.entries key ≡ None in
    let locked : set_of c.deref.result.now ≡ c.args.transaction.now.locked = ap set_of c.deref.ensures.value ∙ ap (λ t. t.locked) c.transaction.view_is in
    (λ e key has. each_locked P _ (c.each_is_free.ensures.0 e) key (ap (λ s. set.contains s key) locked ∙ has), λ h. c.each_is_free.ensures.1 (locked_each P _ (λ key has. h key (sym (ap (λ s. set.contains s key) locked) ∙ has))))
