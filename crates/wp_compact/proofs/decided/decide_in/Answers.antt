use Rattle.std.proofs.Common.{List, subst, ◌∙◌}
use Rattle.wp_model.specs.declared.entry.Entry.{Entry}
use Rattle.std.proofs.lemmas.Result.{on_ok_weaker}
use Rattle.wp_compact.specs.Decided.{Decides, both_bases, version_numbers}
use Rattle.wp_compact.proofs.decided.decide_in.Goals as goal

pub returns : goal.returns
returns g c =
    on_ok_weaker c.decide_bases.result (λ k. subst (λ (h : List Entry). Decides h (version_numbers c.args.versions.now) (both_bases c.args.bases) c.args.committed.now.items c.decide_bases.new.committed.items) (c.in_ok-decisions.ensures ∙ c.history.ensures.entries) k) c.decide_bases.ensures
