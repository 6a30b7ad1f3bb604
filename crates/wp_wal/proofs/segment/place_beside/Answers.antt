use Rattle.std.proofs.Common.{inl, inr, refl, arith}
use Rattle.wp_wal.proofs.SegmentLemmas.{end_at, end_low}
use Rattle.wp_wal.proofs.segment.place_beside.Goals as goal

pub returns-then-size-used-clause-place : goal.returns-then-size-used-clause-place
returns-then-size-used-clause-place g c = inl (c.if-size-used.true, refl)

pub returns-then-size-used-clause-end : goal.returns-then-size-used-clause-end
returns-then-size-used-clause-end g c = λ large. absurd (omega (arith, large, c.if-size-used.true))

pub returns-then-len-used-clause-place : goal.returns-then-len-used-clause-place
returns-then-len-used-clause-place g c = inr (omega (arith, c.if-size-used.false), omega arith)

pub returns-then-len-used-clause-end : goal.returns-then-len-used-clause-end
returns-then-len-used-clause-end g c = end_low c.args.used c.args.size c.in_ok-len.len _ _ c.if-len-used.true c.in_ok-len.ensures.ok.2

pub returns-then-len-used-clause-ok : goal.returns-then-len-used-clause-ok
returns-then-len-used-clause-ok g c = c.in_ok-len.ensures.ok.3

pub returns-clause-place : goal.returns-clause-place
returns-clause-place g c = inr (omega (arith, c.if-size-used.false), omega (arith, c.if-len-used.false))

pub returns-clause-end : goal.returns-clause-end
returns-clause-end g c = end_at c.args.used c.args.size c.in_ok-len.len _ c.in_ok-len.ensures.ok.2

pub returns-clause-ok : goal.returns-clause-ok
returns-clause-ok g c = c.in_ok-len.ensures.ok.3
