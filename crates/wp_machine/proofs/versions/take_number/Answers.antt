use Rattle.std.proofs.Common.{rules, not, nat_eq}
use Rattle.std.proofs.lemmas.Fn.{filter_same}
use Rattle.wp_machine.proofs.versions.take_number.Goals as goal

pub returns : goal.returns
returns c = filter_same _ (λ v. not (nat_eq v.number c.args.n)) _ (λ v b f called. search rules) _ _ c.retain.ensures.filtered
