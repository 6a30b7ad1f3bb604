use Rattle.wp_manifest.proofs.EditLemmas.{place_pushed}
use Rattle.wp_manifest.proofs.write.push_place.Goals as goal

pub returns-clause-pushed : goal.returns-clause-pushed
returns-clause-pushed c = place_pushed c.args.out.now.items c.push_u64.new.out.items c.push_u64-2.new.out.items c.args.table.now c.in_ok-push_u64.ensures.pushed c.in_ok-push_u64-2.ensures.pushed
