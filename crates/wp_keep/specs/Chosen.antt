-- Which of a list's versions are chosen, one by one.
use Rattle.std.specs.Prelude.{Bool, cond, List, [], ◌∷◌}
use Rattle.wp_model.specs.declared.version.Version.{Version}

abbrev pub chosen : List Version → List Bool → List Version
chosen (v ∷ versions) (b ∷ are) = cond b (v ∷ chosen versions are) (chosen versions are)
chosen versions are = []
