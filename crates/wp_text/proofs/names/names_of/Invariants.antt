use Rattle.std.proofs.Common.{◌≡◌, true, map, take}
use Rattle.std.specs.List.{list_all}
use Rattle.wp_model.specs.Word.{is_name}
use Rattle.wp_text.proofs.names.names_of.Given as goal

abbrev pub invariant-loop-word : goal.invariant-loop-word
invariant-loop-word l = (l.names.items ≡ map (λ word. word.now) (take l.word-index l.words)) × (list_all is_name l.names.items ≡ true)
