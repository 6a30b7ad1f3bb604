use Rattle.std.proofs.Common.{◌∙◌, leb, length}
use Rattle.std.proofs.lemmas.Bool.{and_parts}
use Rattle.wp_model.specs.Batch.{are_ascending}
use Rattle.wp_model.specs.declared.batch.TheConstants.{MOST_KEYS}
use Rattle.wp_encoding.proofs.Order.{with_change-last}
use Rattle.wp_encoding.proofs.reading.append.Goals as goal

pub returns-in-Ok-clause-appended : goal.returns-in-Ok-clause-appended
returns-in-Ok-clause-appended c =
    let parts = and_parts (leb (length c.args.batch.now) MOST_KEYS) (are_ascending c.args.batch.now) c.requires.batch in
    c.in-Ok.ensures.ok ∙ with_change-last c.args.batch.now c.args.change parts.1 c.requires.above
