use Rattle.std.proofs.Common.{ap, sym, ◌∙◌}
use Rattle.wp_machine.specs.Machine.{word_step}
use Rattle.wp_machine.proofs.effects.word.word.Goals as goal

pub returns-in-StoreWord : goal.returns-in-StoreWord
returns-in-StoreWord c s e = c.store_word.ensures s c.args.actor.now (ap (word_step c.args.world.now.writes) (sym c.in-StoreWord.is) ∙ e)
