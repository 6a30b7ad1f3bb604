use Rattle.std.proofs.Common.{inl, refl}
use Rattle.wp_status.specs.declared.status.Status.TheVariants as status
use Rattle.wp_run.proofs.Keeping.{uncalled_durable}
use Rattle.wp_run.proofs.TopLemmas.{wordless_ends, scriptless_ends, served_ends, outcome, in_ranges, can_make}
use Rattle.wp_run.proofs.Uncalled.{shown_uncalled, made_uncalled}
use Rattle.wp_run.proofs.top_call.run.Goals as goal

pub returns-in-Err-clause-outcome : goal.returns-in-Err-clause-outcome
returns-in-Err-clause-outcome g c = outcome _ _ (wordless_ends _ _ (refl, refl, refl) (rw c.in-Err.is at c.choice_in.ensures)) (uncalled_durable g.D.Peek.moments g.D.Peek.faults c.args.disks)

pub returns-in-Err-script_of-clause-outcome : goal.returns-in-Err-script_of-clause-outcome
returns-in-Err-script_of-clause-outcome g c =
    outcome _ _ (scriptless_ends _ c.in-Ok.choice.action _ (c.in-Ok.choice, c.in-Ok.ensures, refl) (refl, refl, refl) (rw c.in-Err-script_of.is at c.script_of.ensures.read)) (uncalled_durable g.D.Peek.moments g.D.Peek.faults c.args.disks)

pub returns-in-Err-new-clause-outcome : goal.returns-in-Err-new-clause-outcome
returns-in-Err-new-clause-outcome g c = outcome _ status.Memory (inl (refl, refl, refl)) (uncalled_durable g.D.Peek.moments g.D.Peek.faults c.args.disks)

pub script_of-requires : goal.script_of-requires
script_of-requires g c = can_make _ c.in-Ok.choice c.in-Ok.ensures

pub serve-requires-clause-ranges : goal.serve-requires-clause-ranges
serve-requires-clause-ranges g c κs within = in_ranges _ c.in-Ok.choice c.in-Ok.ensures

pub returns-clause-outcome : goal.returns-clause-outcome
returns-clause-outcome g c =
    outcome _ c.serve.result.status (served_ends _ c.serve.result.status (record {
      choice = c.in-Ok.choice;
      chosen = c.in-Ok.ensures;
      script = c.in-Ok-script_of.script;
      read = c.in-Ok-script_of.ensures.read;
      served = rw c.as_slice-parts.ensures at c.serve.ensures.serves;
    })) c.serve.ensures.durable

pub returns-in-Err-script_of-clause-shown : goal.returns-in-Err-script_of-clause-shown
returns-in-Err-script_of-clause-shown g c = shown_uncalled _ c.in-Ok.choice _ c.script_of.result c.words_choose_once.ensures c.in-Ok.ensures c.script_of.ensures.read

pub returns-in-Err-script_of-clause-made : goal.returns-in-Err-script_of-clause-made
returns-in-Err-script_of-clause-made g c = made_uncalled _ c.in-Ok.choice _ c.script_of.result c.words_choose_once.ensures c.in-Ok.ensures c.script_of.ensures.read

pub returns-in-Err-new-clause-shown : goal.returns-in-Err-new-clause-shown
returns-in-Err-new-clause-shown g c = shown_uncalled _ c.in-Ok.choice _ c.script_of.result c.words_choose_once.ensures c.in-Ok.ensures c.script_of.ensures.read

pub returns-in-Err-new-clause-made : goal.returns-in-Err-new-clause-made
returns-in-Err-new-clause-made g c = made_uncalled _ c.in-Ok.choice _ c.script_of.result c.words_choose_once.ensures c.in-Ok.ensures c.script_of.ensures.read

pub returns-clause-shown : goal.returns-clause-shown
returns-clause-shown g c = shown_uncalled _ c.in-Ok.choice _ c.script_of.result c.words_choose_once.ensures c.in-Ok.ensures c.script_of.ensures.read

pub returns-clause-made : goal.returns-clause-made
returns-clause-made g c = made_uncalled _ c.in-Ok.choice _ c.script_of.result c.words_choose_once.ensures c.in-Ok.ensures c.script_of.ensures.read
