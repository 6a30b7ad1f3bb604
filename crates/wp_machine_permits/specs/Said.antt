-- What a fact says, in a world.
use Rattle.wp_core.specs.World.{Participant, World}
use Rattle.wp_core.specs.Views.{Fact}
use Rattle.wp_core.specs.Sound.Views.{IsSo}

abbrev pub IsSaid : World → Participant → Fact → Type 0
IsSaid w a fact = IsSo w.delayed_flag w.old_flag w.max_evicted w.cache w.writes w.prepared w.snapshots w.store w.locks w.installed a fact
