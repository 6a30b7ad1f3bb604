use Rattle.wp_model.specs.Flushed.{later_versions}
use Rattle.wp_cuts.proofs.UpTo.{later_above, same_with_later, full_with_later, value_with_later, value_by_same, gives_by_same}
use Rattle.wp_cuts.proofs.laws.later_versions_are_apart.Goals as goal

pub returns-clause-same : goal.returns-clause-same
returns-clause-same c = λ history versions base flushed le. same_with_later base versions (later_versions history flushed) (later_above history base flushed le)

pub returns-clause-full : goal.returns-clause-full
returns-clause-full c = λ history d versions flushed le. full_with_later d versions (later_versions history flushed) (later_above history d.base flushed le)

pub returns-clause-value : goal.returns-clause-value
returns-clause-value c = λ history d versions key flushed le. value_with_later d versions (later_versions history flushed) key (later_above history d.base flushed le)

pub returns-clause-values : goal.returns-clause-values
returns-clause-values c = value_by_same

pub returns-clause-gives : goal.returns-clause-gives
returns-clause-gives c = gives_by_same
