use Rattle.std.proofs.Common.{ℕ, List, drop, ap, ◌∙◌, arith}
use Rattle.std.proofs.lemmas.List.{drop_at}
use Rattle.wp_manifest.specs.Edit.{edit_bytes}
use Rattle.wp_manifest.proofs.write.frame_edit.Goals as goal

pub returns-clause-spelling : goal.returns-clause-spelling
returns-clause-spelling c = c.in_ok-frame.ensures ∙ ap (λ (l : List ℕ). drop 8 l) c.in_ok-push_edit.ensures.pushed ∙ drop_at c.in_ok-room.room.items (edit_bytes c.args.edit.now) 8 (omega (arith, c.in_ok-room.ensures))
