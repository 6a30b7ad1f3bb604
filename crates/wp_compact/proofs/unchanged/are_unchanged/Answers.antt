use Rattle.std.proofs.Common.{◌≡◌, inl, inr, true, false, true≢false, sym, ◌∙◌}
use Rattle.std.proofs.lemmas.Result.{IfOk-weaker}
use Rattle.wp_compact.proofs.StillTabled.{matched_some, matched_none, or_other, some_of}
use Rattle.wp_compact.proofs.unchanged.are_unchanged.Goals as goal

pub find_tables-requires-clause-live : goal.find_tables-requires-clause-live
find_tables-requires-clause-live g c = c.requires.decided.live_is

pub find_tables-requires-clause-bases : goal.find_tables-requires-clause-bases
find_tables-requires-clause-bases g c = (c.requires.decided.low, c.requires.opened)

pub returns-in-Some-clause-same : goal.returns-in-Some-clause-same
returns-in-Some-clause-same g c = IfOk-weaker c.have_versions.result _ _ (λ same so yes. so.0 yes ∙ matched_some _ _ _ _ c.in-Some.is c.in_ok-tables.ensures.tables) c.have_versions.ensures

pub returns-in-Some-clause-may : goal.returns-in-Some-clause-may
returns-in-Some-clause-may g c = IfOk-weaker c.have_versions.result _ _ (λ same so yes. some_of _ _ _ c.in-Some.is c.in_ok-tables.ensures.may) c.have_versions.ensures

pub returns-in-Some-clause-overtaken : goal.returns-in-Some-clause-overtaken
returns-in-Some-clause-overtaken g c =
    IfOk-weaker c.have_versions.result _ _ (λ same so not. inr (inl (λ is. let t : true ≡ false = sym (so.1 (is ∙ sym (matched_some _ _ _ _ c.in-Some.is c.in_ok-tables.ensures.tables))) ∙ not in true≢false t))) c.have_versions.ensures

pub returns-in-None-clause-overtaken : goal.returns-in-None-clause-overtaken
returns-in-None-clause-overtaken g c e = or_other (matched_none _ _ _ c.in-None.is c.in_ok-tables.ensures.tables)
