use Rattle.std.proofs.Common.{List, map, ◌∙◌, ap, subst, sym, take_all, arith, ℕ}
use Rattle.wp_model.specs.declared.entry.Entry.TheVariants.{Commit}
use Rattle.wp_model.specs.Record.{IsOneRecord}
use Rattle.wp_model.proofs.Records.{commits_share}
use Rattle.wp_records.proofs.record.Record.commits.Goals as goal

pub invariant_of-result : goal.invariant_of-result
invariant_of-result c =
    let all = c.loop-p.invariant ∙ ap (λ (ps : List ℕ). map (λ p. Commit p) ps) (take_all c.loop-p.p-index c.args.numbers.now (omega (arith, c.loop-p-test.false))) in
    subst IsOneRecord (sym all) (commits_share c.args.numbers.now c.requires.some c.requires.few)
