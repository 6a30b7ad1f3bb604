use Rattle.wp_answers.proofs.answering.change_txn.Goals as goal

pub decide-left-requires-clause-has : goal.decide-left-requires-clause-has
decide-left-requires-clause-has g c = rw c.take_out.ensures.value c.requires.has

pub returns-clause-holds : goal.returns-clause-holds
returns-clause-holds g c = rw (c.put_back.ensures, ← c.take_out.ensures.value) c.decide-left.ensures.holds

pub returns-clause-answered : goal.returns-clause-answered
returns-clause-answered g c = rw (c.put_back.ensures, ← c.take_out.ensures.value) c.decide-left.ensures.answered

pub returns-clause-err : goal.returns-clause-err
returns-clause-err g c = rw (c.put_back.ensures, ← c.take_out.ensures.value) c.decide-left.ensures.err

pub returns-clause-uncalled : goal.returns-clause-uncalled
returns-clause-uncalled g c = rw (← c.take_out.ensures.value) c.decide-left.ensures.uncalled
