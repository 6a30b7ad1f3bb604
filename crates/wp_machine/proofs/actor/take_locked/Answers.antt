use Rattle.std.proofs.Common.{rules, not, ap, ◌∙◌}
use Rattle.std.specs.Str.{bytes_eq}
use Rattle.std.proofs.lemmas.Fn.{filter_same}
use Rattle.wp_machine.proofs.NameMaps.{set_of, set_removed}
use Rattle.wp_machine.proofs.actor.take_locked.Goals as goal

pub returns : goal.returns
returns c = ap set_of (filter_same _ (λ x. not (bytes_eq x c.args.key.now)) _ (λ x b f called. search rules) _ _ c.retain.ensures.filtered) ∙ set_removed c.args.key.now c.args.locked.now.items
