use Rattle.std.proofs.Common.{rules, refl}
use Rattle.wp_open.proofs.Reading.{found_table, short_named, fault_named}
use Rattle.wp_open.proofs.tables.read_table.Goals as goal

pub returns-in-Ok-2-clause-found : goal.returns-in-Ok-2-clause-found
returns-in-Ok-2-clause-found g c =
    let found = c.in-Ok.ensures.found in
    found_table c.args.id c.args.flushed c.in_ok-bytes.bytes.items c.args.placed c.in-Ok.field-0 _ found (search rules) c.in_ok-bytes.ensures.size c.in_ok-bytes.ensures.shown

pub returns-in-Ok-clause-cause : goal.returns-in-Ok-clause-cause
returns-in-Ok-clause-cause g c =
    let found = c.in-Ok.ensures.found in
    let read = c.in_ok-bytes.ensures in
    (refl, tt, short_named c.args.id c.args.flushed c.args.len c.args.placed _ c.in_ok-bytes.bytes.items read.shown read.size read.ended c.in-Ok.field-0 found (search rules))

pub returns-in-Err-clause-cause : goal.returns-in-Err-clause-cause
returns-in-Err-clause-cause g c =
    let read = c.in_ok-bytes.ensures in
    fault_named c.args.id c.args.flushed c.args.len c.args.placed _ c.in_ok-bytes.bytes.items read.shown read.size read.ended _ c.in-Err.why c.table_reason.result c.in-Err.ensures.refused c.table_reason.ensures
