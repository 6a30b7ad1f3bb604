-- What a note of a pair is in the machine.
use Rattle.wp_judge.specs.Words.{commit_pair}
use Rattle.wp_core.specs.Views.{Fact, passed, in_old_commits, apart, pair_delayed, none_waits}
use Rattle.wp_commits.specs.declared.pair_note.PairNote.{PairNote}
use Rattle.wp_commits.specs.declared.pair_note.PairNote.TheVariants as note

abbrev pub fact_of : PairNote → Fact
fact_of (note.Passed place p c) = passed place (commit_pair p c)
fact_of (note.InOldCommits place p c) = in_old_commits place (commit_pair p c)
fact_of (note.Apart place p c) = apart place (commit_pair p c)
fact_of note.PairDelayed = pair_delayed
fact_of note.NoneWaits = none_waits
