use Rattle.wp_model.proofs.word.WordOrd.cmp.Goals as goal

pub returns : goal.returns
returns g c = rw (← c.bytes.ensures.value, ← c.bytes-2.ensures.value) c.order.ensures
