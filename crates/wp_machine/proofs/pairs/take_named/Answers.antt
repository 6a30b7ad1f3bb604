use Rattle.std.proofs.Common.{rules, not, ap, ◌∙◌}
use Rattle.std.specs.Str.{bytes_eq}
use Rattle.std.proofs.lemmas.Fn.{filter_same}
use Rattle.wp_machine.proofs.NameMaps.{map_of, map_removed}
use Rattle.wp_machine.proofs.pairs.take_named.Goals as goal

pub returns : goal.returns
returns g c = ap map_of (filter_same _ (λ e. not (bytes_eq e.0 c.args.name.now)) _ (λ x b f called. search rules) _ _ c.retain.ensures.filtered) ∙ map_removed c.args.name.now c.args.pairs.now.items
