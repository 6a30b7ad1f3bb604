use Rattle.std.proofs.Common.{rules, not}
use Rattle.std.specs.Str.{bytes_eq}
use Rattle.std.proofs.lemmas.Fn.{filter_same}
use Rattle.wp_open_txns.proofs.changes.let_go.Goals as goal

pub returns : goal.returns
returns c = filter_same _ (λ x. not (bytes_eq x c.args.key.now)) _ (λ x b f called. search rules) _ _ c.retain.ensures.filtered
