use Rattle.std.proofs.Common.{[], ap, sym}
use Rattle.wp_fields.specs.declared.format.Format.TheVariants.{Two}
use Rattle.wp_entry.specs.Base.{Base}
use Rattle.wp_gatelog.specs.Spelling.{stamped}
use Rattle.wp_wal.specs.Spelling.{MAGIC}
use Rattle.wp_wal.proofs.SegmentLemmas.{whole_bytes}
use Rattle.wp_wal.proofs.segment.NewSegment.of.Goals as goal

pub returns-clause-whole : goal.returns-clause-whole
returns-clause-whole c = rw (← c.in_ok-frame.ensures.bytes) (c.in_ok-log.ensures MAGIC (stamped Two c.args.id) [] c.in_ok-new.ensures)

pub invariant_of-result : goal.invariant_of-result
invariant_of-result c =
    let is = rw (← c.base.view_is) at c.of.ensures in
    (sym (ap (λ (b : Base). b.number) is), whole_bytes _ _ _ (c.in_ok-log.ensures MAGIC (stamped Two c.args.id) [] c.in_ok-new.ensures))
