use Rattle.std.proofs.Common.{arith}
use Rattle.wp_entry.specs.Base.{Base}
use Rattle.wp_wal.proofs.Told.{ascending_base, is_base_of, numbered_base, told_base}
use Rattle.wp_wal.proofs.read.take_base.Goals as goal

pub from_base-requires-clause-few : goal.from_base-requires-clause-few
from_base-requires-clause-few c =
    let is = rw (← c.base.view_is) at c.in-Ok.ensures.found.0 in
    let small = is.small in
    omega (arith, small)

pub from_base-requires-clause-numbered : goal.from_base-requires-clause-numbered
from_base-requires-clause-numbered c =
    let base : Base = record { number = c.base.inside.number; carried = c.base.inside.carried.items } in
    numbered_base base (rw (← c.base.view_is) at c.in-Ok.ensures.found.0)

pub from_base-requires-clause-ascending : goal.from_base-requires-clause-ascending
from_base-requires-clause-ascending c =
    let base : Base = record { number = c.base.inside.number; carried = c.base.inside.carried.items } in
    ascending_base base (rw (← c.base.view_is) at c.in-Ok.ensures.found.0)

pub from_base-requires-clause-apart : goal.from_base-requires-clause-apart
from_base-requires-clause-apart c = rw c.deref.ensures.value at c.in-Ok-of.ensures.ok.apart

pub returns-clause-told : goal.returns-clause-told
returns-clause-told c =
    let base : Base = record { number = c.base.inside.number; carried = c.base.inside.carried.items } in
    let holds = rw c.deref.ensures.value at c.in-Ok-of.ensures.ok in
    let its = c.in_ok-outline.ensures in
    record {
      told = told_base c.in_ok-outline.outline base its.cut its.entries (rw (← c.base.view_is) at c.in-Ok.ensures.found.0) holds.apart;
      holds = rw its.carried holds;
    }

pub returns-clause-ok : goal.returns-clause-ok
returns-clause-ok c =
    let base : Base = record { number = c.base.inside.number; carried = c.base.inside.carried.items } in
    is_base_of c.in_ok-outline.outline base c.args.bytes.now c.in_ok-outline.ensures.cut (rw (← c.base.view_is) at c.in-Ok.ensures.found.0) (rw (← c.base.view_is) at c.in-Ok.ensures.found.1)
