use Rattle.std.proofs.Common.{rules, not, nat_eq, ap, ◌∙◌}
use Rattle.std.proofs.lemmas.Fn.{filter_same}
use Rattle.wp_machine.proofs.Maps.{map_of, map_removed}
use Rattle.wp_machine.proofs.pairs.take_of.Goals as goal

pub returns : goal.returns
returns g c = ap map_of (filter_same _ (λ e. not (nat_eq e.0 c.args.n)) _ (λ x b f called. search rules) _ _ c.retain.ensures.filtered) ∙ map_removed c.args.n c.args.pairs.now.items
