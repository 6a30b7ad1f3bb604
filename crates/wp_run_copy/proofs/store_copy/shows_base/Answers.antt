use Rattle.wp_run_copy.proofs.store_copy.shows_base.Goals as goal

pub returns : goal.returns
returns c = (c.store.result.now.entries, record { order = c.store.ensures.ordered; each = c.store.ensures.each })
