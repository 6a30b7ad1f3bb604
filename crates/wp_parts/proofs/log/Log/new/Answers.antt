use Rattle.wp_parts.proofs.LogLemmas.{new_kept}
use Rattle.wp_parts.proofs.log.Log.new.Goals as goal

pub invariant_of-result : goal.invariant_of-result
invariant_of-result g c =
    let s = c.requires.stores in
    rw (c.of.ensures, c.of-2.ensures, c.new-pending.ensures.items) (new_kept c.args.wal c.args.history.entries c.args.history.base c.args.history.room s.0 c.requires.base s.1 s.2 c.requires.running c.shows_legal.ensures)
