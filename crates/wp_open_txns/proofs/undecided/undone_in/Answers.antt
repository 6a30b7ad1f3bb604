use Rattle.std.proofs.Common.{sym, ap, ◌∙◌}
use Rattle.std.specs.Option.{option_copied}
use Rattle.wp_open_txns.proofs.UndecidedAt.{some_undone, none_undone}
use Rattle.wp_open_txns.proofs.undecided.undone_in.Goals as goal

pub returns-in-Some : goal.returns-in-Some
returns-in-Some c =
    let history = c.args.history.now in
    c.undone_by.ensures ∙ some_undone history.entries history.base c.args.n c.requires.from c.requires.within c.base.ensures.starts c.in-Some.entry.now (ap option_copied (sym c.in-Some.is) ∙ c.entry_at.ensures.behind)

pub returns-in-None : goal.returns-in-None
returns-in-None c =
    let history = c.args.history.now in
    none_undone history.entries history.base c.args.n c.requires.from c.requires.within c.base.ensures.starts (ap option_copied (sym c.in-None.is) ∙ c.entry_at.ensures.behind)
