use Rattle.wp_opened.proofs.OpeningLemmas.{founds}
use Rattle.wp_opened.proofs.filling.guard.Goals as goal

pub returns-in-Ok-make_guarded-clause-slots : goal.returns-in-Ok-make_guarded-clause-slots
returns-in-Ok-make_guarded-clause-slots g c = let room = c.in-Ok.room in let made = c.in-Ok-make_guarded in record {
  log = made.guarded.log;
  prepared = room.prepared;
  snaps = room.snaps;
  stock = made.guarded.stock;
  locks = room.locks;
  edits = made.guarded.edits;
  are = c.fill.ensures.slots;
  log_is = made.ensures.log;
  delayed = c.in-Ok.ensures.prepared;
  none_live = c.in-Ok.ensures.snaps;
  stock_is = made.ensures.stock;
  locked = c.in-Ok.ensures.locks;
  edits_are = made.ensures.edits;
}

pub returns-in-Ok-make_guarded-clause-founds : goal.returns-in-Ok-make_guarded-clause-founds
unfolding returns-in-Ok-make_guarded-clause-slots
returns-in-Ok-make_guarded-clause-founds g c client cells flag some flagged =
    let o = c.requires.opened in let parts = c.args.parts in
    founds o.0 o.1 o.2 o.3 parts.wal parts.history.entries parts.manifest _ parts.store o.4 (g.D.Peek.faults parts.tables) c.fill.result.items (returns-in-Ok-make_guarded-clause-slots g c) client cells flag some flagged
    c.fill.ensures.log c.fill.ensures.edits
