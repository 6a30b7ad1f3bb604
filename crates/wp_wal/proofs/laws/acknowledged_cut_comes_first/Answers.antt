use Rattle.std.proofs.Common.{ℕ, ◌++◌, List, drop, subst, sym}
use Rattle.wp_fields.specs.declared.format.Format.{Format}
use Rattle.wp_gatelog.specs.Spelling.{stamped}
use Rattle.wp_gatelog.proofs.LawLemmas.{spelled_from}
use Rattle.wp_wal.specs.Spelling.{MAGIC, AreCut}
use Rattle.wp_wal.proofs.CutLemmas.{AreCut-first}
use Rattle.wp_wal.proofs.laws.acknowledged_cut_comes_first.Goals as goal

pub returns : goal.returns
returns c = λ place id other cut longest bytes has spells.
    let spelled = spelled_from place bytes MAGIC (stamped spells.0 other) spells.1 spells.3 in
    let one = c.acknowledged_records_come_first.ensures.one_format (drop place bytes) MAGIC (stamped has.0 id) (stamped spells.0 other) has.1 spells.1 has.3 spelled in
    let more = c.acknowledged_records_come_first.ensures.first (drop place bytes) MAGIC (stamped has.0 id) (stamped spells.0 other) has.1 spells.1 has.3 spelled in
    AreCut-first c.spellings_differ.ensures c.bases_are_read.ensures.spelled has.0 place has.1 more.0 cut longest has.4 has.5
    (subst (λ (format : Format). AreCut format place (has.1 ++ more.0) longest) (sym one) (subst (λ (all : List (List ℕ)). AreCut spells.0 place all longest) more.1 spells.4))
