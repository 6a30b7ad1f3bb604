use Rattle.std.proofs.Common.{List, sym, subst}
use Rattle.wp_model.specs.declared.entry.Entry.{Entry}
use Rattle.wp_cuts.specs.Cut.{carried_of}
use Rattle.wp_history.specs.Holders.{Holds}
use Rattle.wp_wal.proofs.Told.{told_none}
use Rattle.wp_wal.proofs.read.without_base.Goals as goal

pub returns-clause-told : goal.returns-clause-told
returns-clause-told c = record {
  told = told_none c.args.outline c.requires.0 c.requires.1;
  holds = subst (λ (es : List Entry). Holds (carried_of es) c.new-holders.result) (sym c.requires.1) c.new-holders.ensures;
}
