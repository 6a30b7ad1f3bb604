use Rattle.wp_run.proofs.TopLemmas.{text_ends}
use Rattle.wp_run.proofs.serve.finish.Goals as goal

pub returns-clause-ended : goal.returns-clause-ended
returns-clause-ended g c =
    let entries = c.store.result.now.entries in (
      entries,
      record { order = c.store.ensures.ordered; each = c.store.ensures.each },
      text_ends c.args.action c.args.parts.now c.args.run.answers.items c.args.run.history.base entries c.args.run.history.entries c.text_of-text.result _ _ _ c.write_text-status.result
          (rw c.deref.ensures.value at c.text_of-text.ensures.whole) (rw c.deref.ensures.value at c.text_of-text.ensures.text) (rw c.deref-2.ensures.value at c.log_failed-stopped.ensures) (rw c.deref-3.ensures.value at c.tables_failed-halted.ensures)
          c.write_text-status.ensures.written c.write_text-status.ensures.unwritten,
    )
