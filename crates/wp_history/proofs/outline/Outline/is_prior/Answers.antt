use Rattle.wp_history.proofs.Judged.{prepared_there, never_gone}
use Rattle.wp_history.proofs.outline.Outline.is_prior.Goals as goal

pub returns : goal.returns
returns c = rw (prepared_there _ c.args.n c.args.p _ _ c.requires.undecided c.in-Some.ensures) (rw (c.changes-in-Some.ensures.value, c.changes.ensures.value) at c.are_restored.ensures)

pub unreachable-requires : goal.unreachable-requires
unreachable-requires c = never_gone _ c.args.n c.args.p c.requires.undecided c.in-None.ensures
