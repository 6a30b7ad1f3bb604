use Rattle.wp_maint.proofs.Freezes.{has_frozen}
use Rattle.wp_maint.proofs.frozen.freeze_in.Goals as goal

pub returns-clause-frozen : goal.returns-clause-frozen
returns-clause-frozen g c = (
  has_frozen c.args.store.now c.args.seat.now c.args.log.now.state c.args.stock.now c.args.edits.now.state c.requires.holds.held c.requires.pending c.requires.seen c.requires.in_step c.requires.stands.0 c.requires.stands.1
      c.published.result c.published.ensures.value c.in_ok-frozen.frozen c.in_ok-frozen.ensures.copied c.note_frozen.new.seat c.note_frozen.ensures,
  c.in_ok-frozen.ensures.copied.versions,
)
