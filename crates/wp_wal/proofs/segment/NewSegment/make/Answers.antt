use Rattle.std.proofs.Common.{◌∷◌, []}
use Rattle.std.proofs.lemmas.Result.{on_ok_weaker}
use Rattle.wp_fields.specs.declared.format.Format.TheVariants.{Two}
use Rattle.wp_entry.specs.Base.{base_bytes}
use Rattle.wp_gatelog.specs.Beside.{IsNoneOrWhole}
use Rattle.wp_gatelog.specs.Moments.{Leaves}
use Rattle.wp_gatelog.specs.Spelling.{stamped}
use Rattle.wp_gatelog.proofs.MomentLemmas.{goes_map}
use Rattle.wp_wal.specs.Segment.{IsNoneOrLog}
use Rattle.wp_wal.specs.Spelling.{MAGIC}
use Rattle.wp_wal.proofs.SegmentLemmas.{none_or_base, spells_base}
use Rattle.wp_wal.proofs.segment.NewSegment.make.Goals as goal

pub returns-clause-left : goal.returns-clause-left
returns-clause-left g c =
    let base = c.self.inside.base.value in
    rw (← c.self.view_is) (λ id is whole none.
    on_ok_weaker c.make_whole.result (λ spelled image h. spells_base id base image is (spelled image h)) (c.make_whole.ensures.spelled MAGIC (stamped Two id) (base_bytes base ∷ []) whole none))

pub returns-clause-passed : goal.returns-clause-passed
returns-clause-passed g c =
    let base = c.self.inside.base.value in
    rw (← c.self.view_is) (λ id is whole known.
    goes_map (Leaves (IsNoneOrWhole MAGIC (stamped Two id) (base_bytes base ∷ []))) (Leaves (IsNoneOrLog id base)) (λ m leaves image h. none_or_base id base image is (leaves image h)) _ _
    (c.make_whole.ensures.passed MAGIC (stamped Two id) (base_bytes base ∷ []) whole known))
