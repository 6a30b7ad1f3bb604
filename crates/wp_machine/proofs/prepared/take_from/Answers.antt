use Rattle.std.proofs.Common.{rules, not, nat_eq, ap, ◌∙◌}
use Rattle.std.proofs.lemmas.Fn.{filter_same}
use Rattle.wp_machine.proofs.Maps.{set_of, set_removed}
use Rattle.wp_machine.proofs.prepared.take_from.Goals as goal

pub returns : goal.returns
returns c = ap set_of (filter_same _ (λ q. not (nat_eq q c.args.p)) _ (λ q b f called. search rules) _ _ c.retain.ensures.filtered) ∙ set_removed c.args.p c.args.numbers.now.items
