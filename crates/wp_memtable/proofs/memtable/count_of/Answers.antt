use Rattle.std.proofs.Common.{length, ap, ◌∙◌, arith}
use Rattle.wp_memtable.specs.Memtable.{versions_in}
use Rattle.wp_memtable.proofs.Listed.{length-versions_in}
use Rattle.wp_memtable.proofs.memtable.count_of.Goals as goal

pub overflow_add-count : goal.overflow_add-count
overflow_add-count c =
    let step = ap (λ es. length (versions_in es)) c.in-Some.ensures.steps ∙ length-versions_in (c.in-Some.field-0-0.now, c.in-Some.versions.now) c.next.new.self in
    omega (arith, c.loop-versions.invariant, c.requires)

pub loop-versions-preserved : goal.loop-versions-preserved
loop-versions-preserved c =
    let step = ap (λ es. length (versions_in es)) c.in-Some.ensures.steps ∙ length-versions_in (c.in-Some.field-0-0.now, c.in-Some.versions.now) c.next.new.self in
    omega (arith, c.loop-versions.invariant)
