-- What a Prepare says.
use Rattle.std.specs.Prelude.{ℕ, List, Option, Some, None}
use Rattle.wp_model.specs.declared.change.Change.{Change}
use Rattle.wp_model.specs.declared.entry.Entry.{Entry}
use Rattle.wp_model.specs.declared.entry.Entry.TheVariants.{Prepare}

-- the name and the batch of a Prepare
abbrev pub prepare_of : Option Entry → Option (List ℕ × List Change)
prepare_of (Some (Prepare name batch)) = Some (name, batch)
prepare_of other = None
