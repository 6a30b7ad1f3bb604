use Rattle.std.proofs.Common.{◌≡◌, ◌+◌, ◌-◌, length, refl, arith}
use Rattle.std.proofs.lemmas.Result.{err_from_is_err_and}
use Rattle.wp_wal.proofs.SegmentLemmas.{places_differ, refused_before, refused_writing, survives_beside}
use Rattle.wp_wal.proofs.wal.Wal.write_segment.Goals as goal

pub returns-in_err-place-clause-writes : goal.returns-in_err-place-clause-writes
returns-in_err-place-clause-writes g c =
    let p = err_from_is_err_and c.from_residual.result c.from_residual.ensures.1 in
    let inside = c.self.inside in
    rw (p.1, p.2, ← c.self.view_is) (λ cut stores is whole. refused_before inside.log inside.segment inside.due inside.reserved cut stores c.place_beside.new.log c.in_err-place.field-0.0 c.args.new.now c.in_err-place.ensures.err c.place_beside.ensures.moments)

pub returns-in_err-write_beside-clause-writes : goal.returns-in_err-write_beside-clause-writes
returns-in_err-write_beside-clause-writes g c =
    let p = err_from_is_err_and c.from_residual-in_err-write_beside.result c.from_residual-in_err-write_beside.ensures.1 in
    let inside = c.self.inside in
    let place = rw c.bytes-bytes.ensures at c.in_ok-place.ensures.place in
    let end = rw c.bytes-bytes.ensures at c.in_ok-place.ensures.end in
    let same = c.in_ok-place.ensures.ok in
    let writes = rw (c.bytes-bytes.ensures, same) at c.in_err-write_beside.ensures.writes in
    rw (p.1, p.2, ← c.self.view_is, ← c.new.view_is)
    (λ cut stores is whole. refused_writing inside.log inside.segment inside.due inside.reserved cut stores c.write_beside.new.self c.in_ok-place.place c.new.inside.base.value c.new.inside.log place end c.in_err-write_beside.field-0.0
    (rw same at c.in_err-write_beside.ensures.err) writes)

pub returns-clause-writes : goal.returns-clause-writes
returns-clause-writes g c =
    let inside = c.self.inside in
    let at = c.in_ok-place.place in
    let bytes = c.new.inside.log in
    let place = rw c.bytes-bytes.ensures at c.in_ok-place.ensures.place in
    let end = rw c.bytes-bytes.ensures at c.in_ok-place.ensures.end in
    let same = c.in_ok-place.ensures.ok in
    let writes = rw (c.bytes-bytes.ensures, same) at c.in_ok-write_beside.ensures.writes in
    let ok = rw same at c.in_ok-write_beside.ensures.ok in
    let some = c.new.invariant.1 in
    let ends : at + length c.bytes-bytes.result.now - 1 + 1 ≡ at + length bytes = rw c.bytes-bytes.ensures (omega (arith, some)) in
    rw (← c.self.view_is, ← c.new.view_is)
    (λ cut stores is whole. survives_beside inside.log inside.segment inside.due inside.reserved cut stores c.write_beside.new.self at c.new.inside.base.value bytes place end _ _ ok.0 ok.1 writes is whole refl
    c.new.invariant.0 ends (places_differ inside.segment.place (length bytes) at some place))
