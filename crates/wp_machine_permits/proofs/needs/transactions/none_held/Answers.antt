use Rattle.std.proofs.Common.{◌≡◌, sym, ap, ◌∙◌}
use Rattle.std.specs.FinSet as set
use Rattle.wp_machine_permits.proofs.needs.transactions.none_held.Goals as goal

pub returns-in-Some : goal.returns-in-Some
returns-in-Some c =
    let is = rw c.in-Some.is at c.transaction.ensures in
    (λ e x key got has. let same : x ≡ c.in-Some.transaction.now = cc in c.keys_are_free.ensures.0 e key (ap (λ t. set.contains t.locked key) (sym same) ∙ has), λ h. c.keys_are_free.ensures.1 (λ key has. h c.in-Some.transaction.now key (sym is) has))
