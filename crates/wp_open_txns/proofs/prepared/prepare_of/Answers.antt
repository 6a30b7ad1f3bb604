use Rattle.std.proofs.Common.{sym, ◌∙◌}
use Rattle.wp_model.proofs.Found.{named_is_undecided}
use Rattle.wp_open_txns.proofs.prepared.prepare_of.Goals as goal

pub batch_at-requires : goal.batch_at-requires
batch_at-requires c = named_is_undecided c.args.history.now.entries c.args.name.now c.in-Some.number (sym c.named.ensures ∙ c.in-Some.is)
