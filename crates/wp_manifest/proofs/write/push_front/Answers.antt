use Rattle.wp_manifest.proofs.EditLemmas.{front_pushed}
use Rattle.wp_manifest.proofs.write.push_front.Goals as goal

pub returns-clause-pushed : goal.returns-clause-pushed
returns-clause-pushed c =
    front_pushed c.args.out.now.items c.push_u32.new.out.items c.push_u32-2.new.out.items c.push_u64.new.out.items c.push_u64-2.new.out.items _ c.args.flushed c.args.place c.args.count c.in_ok-push_u32.ensures.pushed c.in_ok-push_u32-2.ensures.pushed c.in_ok-push_u64.ensures.pushed c.in_ok-push_u64-2.ensures.pushed c.in_ok-push_u64-3.ensures.pushed
