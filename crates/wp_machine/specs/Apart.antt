-- Steps of an actor that makes none.
use Rattle.wp_machine.specs.declared.step.Kind.{Kind}
use Rattle.wp_machine.specs.declared.step.Kind.TheVariants.{Actors}

abbrev pub IsApart : Kind → Type 0
IsApart (Actors kind) = ⊥
IsApart other = Unit {0}
