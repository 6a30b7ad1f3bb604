use Rattle.std.proofs.Common.{sym, ◌∙◌}
use Rattle.wp_machine_permits.proofs.Owning.{some_copied, copied_some}
use Rattle.wp_machine_permits.proofs.needs.transactions.owns.Goals as goal

pub returns : goal.returns
returns c = (λ e. some_copied _ _ c.transaction.ensures (sym c.is_some.ensures ∙ e), λ h. c.is_some.ensures ∙ copied_some _ _ c.transaction.ensures h)
