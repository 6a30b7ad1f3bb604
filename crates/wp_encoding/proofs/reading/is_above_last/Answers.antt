use Rattle.std.proofs.Common.{sym}
use Rattle.wp_encoding.proofs.Order.{is_above_last-at}
use Rattle.wp_encoding.proofs.reading.is_above_last.Goals as goal

pub returns-in-len1-up : goal.returns-in-len1-up
returns-in-len1-up c = rw (c.lt.ensures, c.key.ensures, ← c.changes.ensures.value) (sym (is_above_last-at c.changes.result.now c.args.key.now c.last-item.result c.in-len1-up.len_at_least c.last-item.is))
