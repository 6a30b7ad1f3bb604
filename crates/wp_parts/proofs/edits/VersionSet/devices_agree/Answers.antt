use Rattle.std.proofs.Common.{refl}
use Rattle.wp_parts.proofs.EditsLemmas.{manifest_tells}
use Rattle.wp_parts.proofs.edits.VersionSet.devices_agree.Goals as goal

pub returns-clause-manifest : goal.returns-clause-manifest
returns-clause-manifest g c = rw (← c.self.view_is) (manifest_tells _ c.self.invariant c.self.inside.base refl)
