use Rattle.std.proofs.Common.{refl}
use Rattle.wp_run.proofs.Keeping.{uncalled_durable}
use Rattle.wp_run_copy.proofs.Complete.{complete}
use Rattle.wp_run_copy.proofs.Ends.{copied_ends, in_ranges, wordless_ends}
use Rattle.wp_run_copy.proofs.copy_call.run_copy.Goals as goal

pub returns-in-Err-clause-ends : goal.returns-in-Err-clause-ends
returns-in-Err-clause-ends g c = wordless_ends _ _ (refl, refl, refl) (refl, refl, refl) (rw c.in-Err.is at c.options_in.ensures)

pub returns-in-Err-clause-complete : goal.returns-in-Err-clause-complete
returns-in-Err-clause-complete g c = λ fine. complete _ fine c.in-Err.status (wordless_ends _ _ (refl, refl, refl) (refl, refl, refl) (rw c.in-Err.is at c.options_in.ensures))

pub returns-in-Err-clause-durable : goal.returns-in-Err-clause-durable
returns-in-Err-clause-durable g c = uncalled_durable g.D.Peek.moments g.D.Peek.faults c.args.disks

pub copy_store-requires-clause-ranges : goal.copy_store-requires-clause-ranges
copy_store-requires-clause-ranges g c = in_ranges _ c.in-Ok.options c.in-Ok.ensures

pub returns-clause-ends : goal.returns-clause-ends
returns-clause-ends g c = copied_ends _ c.copy_store.result.0.status (record { options = c.in-Ok.options; chosen = c.in-Ok.ensures; copied = c.copy_store.ensures.copies })

pub returns-clause-complete : goal.returns-clause-complete
returns-clause-complete g c = λ fine. complete _ fine c.copy_store.result.0.status (copied_ends _ c.copy_store.result.0.status (record { options = c.in-Ok.options; chosen = c.in-Ok.ensures; copied = c.copy_store.ensures.copies }))
