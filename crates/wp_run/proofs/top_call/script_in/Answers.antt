use Rattle.wp_run.proofs.top_call.script_in.Goals as goal

pub returns-in-Ok-read_script-clause-read : goal.returns-in-Ok-read_script-clause-read
returns-in-Ok-read_script-clause-read g c = (c.in-Ok.bytes.items, (c.in-Ok.ensures.taken, c.in-Ok.ensures.unfailed), rw c.deref.ensures.value at c.in-Ok-read_script.ensures.script)

pub returns-in-Ok-clause-read : goal.returns-in-Ok-clause-read
returns-in-Ok-clause-read g c = (c.in-Ok.bytes.items, (c.in-Ok.ensures.taken, c.in-Ok.ensures.unfailed), rw (c.in-Err-Fault-read_script.field-0-is, c.deref.ensures.value) at c.in-Err-Fault-read_script.ensures.error)
