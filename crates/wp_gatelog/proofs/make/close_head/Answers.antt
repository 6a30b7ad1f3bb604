use Rattle.std.proofs.Common.{◌∷◌, [], arith}
use Rattle.wp_outside.specs.Disk.{IsImage, synced, after_cut, after_write}
use Rattle.wp_gatelog.specs.Spelling.{IsUnmade}
use Rattle.wp_gatelog.proofs.ChangeLemmas.{changes_map}
use Rattle.wp_gatelog.proofs.MakeLemmas.{unmade_written, reads_written, unmade_cut, reads_cut}
use Rattle.wp_gatelog.proofs.make.close_head.Goals as goal

pub returns-then-len-le1-clause-changes : goal.returns-then-len-le1-clause-changes
returns-then-len-le1-clause-changes g c = λ before unmade len_is known.
    let m = after_write 0 (0 ∷ []) (synced before) in
    changes_map [] (IsImage m) IsUnmade before m.reads (0 ∷ []) _ _ _ (λ image. unmade_written before image (omega (arith, len_is))) (reads_written before (omega (arith, len_is))) (c.write_synced.ensures.changes [] before 0 (omega arith) known)

pub returns-clause-changes : goal.returns-clause-changes
returns-clause-changes g c = λ before unmade len_is known.
    let m = after_cut 1 (synced before) in
    changes_map [] (IsImage m) IsUnmade before m.reads (0 ∷ []) _ _ _ (λ image. unmade_cut before image (omega (arith, len_is)) unmade) (reads_cut before (omega (arith, len_is)) unmade) (c.cut_synced.ensures.changes [] before 1 (omega arith) known)
