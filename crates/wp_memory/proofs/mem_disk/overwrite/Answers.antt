use Rattle.std.proofs.Common.{◌<◌, length, arith, ◌∙◌, ap}
use Rattle.std.proofs.lemmas.Bool.Decides.{nat_tests}
use Rattle.wp_outside.specs.Disk.{put}
use Rattle.wp_memory.proofs.Writes.{overwritten}
use Rattle.wp_memory.proofs.mem_disk.overwrite.Goals as goal

pub returns-clause-reads : goal.returns-clause-reads
returns-clause-reads c = λ m reads.
    let some : 0 < length c.args.piece.now = grind (arith, nat_tests, c.is_empty.ensures, c.if-is_empty.false) in
    overwritten c.args.at c.fill_up.new.bytes.len c.args.piece.now c.args.bytes.now.items c.fill_up.new.bytes.items c.copy_over.new.bytes m
    some reads c.fill_up.ensures.items (c.copy_over.ensures ∙ ap (λ xs. put c.args.at c.args.piece.now xs) c.deref_mut.ensures.value) (omega arith)
