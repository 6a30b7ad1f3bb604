use Rattle.wp_manifest.proofs.EditLemmas.{one_edit}
use Rattle.wp_manifest.proofs.laws.edits_have_one_spelling.Goals as goal

pub returns : goal.returns
returns c = one_edit
