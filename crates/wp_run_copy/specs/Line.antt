-- The line that tells what was copied.
use Rattle.std.specs.Prelude.{ℕ, List, ◌++◌, codes, decimal}
use Rattle.wp_checkpoint.specs.declared.copying.Copied.{Copied}

-- at which number, how many versions the copy's table has, and how many prepares it carries
abbrev pub copied_line : Copied → List ℕ
copied_line copied = codes "copied @" ++ decimal copied.at ++ codes " " ++ decimal copied.versions ++ codes " " ++ decimal copied.carried ++ codes "\n"
