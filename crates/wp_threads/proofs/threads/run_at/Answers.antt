use Rattle.std.proofs.Common.{subst}
use Rattle.wp_text.specs.declared.script.Part.{Part}
use Rattle.wp_threads.specs.Over.{IsOver}
use Rattle.wp_threads.proofs.Places.{same_part}
use Rattle.wp_threads.proofs.threads.run_at.Goals as goal

pub returns : goal.returns
returns g c = (
  (λ found is_found part at. subst (λ (p : Part). IsOver c.args.store.now found p c.run_session.result c.run_session.new.seat)
      (same_part c.args.parts.now c.args.place c.index-parts-place.result part c.requires.0 c.index-parts-place.is at) (c.run_session.ensures.over found is_found)),
  c.run_session.ensures.stays,
  c.run_session.ensures.free,
)
