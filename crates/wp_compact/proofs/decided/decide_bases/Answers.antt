use Rattle.std.proofs.Common.{◌<◌, ◌≤◌, ℕ, List, [], ◌∷◌, length, take, sym, subst, arith}
use Rattle.std.proofs.lemmas.List.{take_all}
use Rattle.wp_model.specs.declared.version.Version.{Version}
use Rattle.wp_compact.specs.Decided.{Decides, both_bases, version_numbers}
use Rattle.wp_compact.proofs.Decisions.{decided_nothing, mapped_next, then_versions}
use Rattle.wp_compact.proofs.decided.decide_bases.Goals as goal

pub loop-i-init : goal.loop-i-init
loop-i-init c = decided_nothing c.args.decisions.now (both_bases c.args.bases) c.args.committed.now.items

pub loop-i-preserved : goal.loop-i-preserved
loop-i-preserved c =
    let h = c.args.decisions.now in let versions = c.args.versions.now in let i = c.loop-i.i in let x = c.index-versions-i.result in let is = c.index-versions-i.is in let lt : i < length versions = omega arith in
    let ns = both_bases c.args.bases in let before = c.args.committed.now.items in let mid = c.loop-i.committed.items in let after = c.decide_at_bases.new.committed.items in
    subst (λ (ps : List ℕ). Decides h ps ns before after) (sym (mapped_next (λ (v : Version). v.number) versions i x lt is))
    (then_versions h before mid after (version_numbers (take i versions)) (x.number ∷ []) ns c.loop-i.invariant
    (subst (λ (v : Version). Decides h (v.number ∷ []) ns mid after) (sym is) c.in_ok-decide_at_bases.ensures))

pub returns : goal.returns
returns c =
    let versions = c.args.versions.now in let le : length versions ≤ c.loop-i.i = omega arith in
    subst (λ (vs : List Version). Decides c.args.decisions.now (version_numbers vs) (both_bases c.args.bases) c.args.committed.now.items c.loop-i.committed.items) (take_all c.loop-i.i versions le) c.loop-i.invariant
