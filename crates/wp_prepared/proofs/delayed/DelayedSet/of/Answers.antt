use Rattle.std.proofs.Common.{sym, subst, ap, ◌∙◌, arith}
use Rattle.std.specs.List.Sorted.{IsStrictlyIncreasing}
use Rattle.wp_prepared.specs.DelayedSet.{numbers_in, commits_in, AreFrom}
use Rattle.wp_prepared.proofs.Commits.{all_bare, commits-bare, from-bare}
use Rattle.wp_prepared.proofs.Maps.{map_of}
use Rattle.wp_prepared.proofs.Numbered.{numbers-bare}
use Rattle.wp_prepared.proofs.Sets.{set_of_numbers}
use Rattle.wp_prepared.proofs.delayed.DelayedSet.of.Goals as goal

pub invariant_of-result : goal.invariant_of-result
invariant_of-result c =
    let ns = c.args.numbers.now in
    let all = all_bare c.loop-number.number-index ns c.loop-number.entries.items c.loop-number.invariant (omega (arith, c.loop-number-test.false)) in (
      subst IsStrictlyIncreasing (sym (ap numbers_in all ∙ numbers-bare ns)) c.requires,
      subst (AreFrom 18446744073709551615) (sym all) (from-bare 18446744073709551615 ns),
    )

pub returns-clause-numbers : goal.returns-clause-numbers
returns-clause-numbers c =
    let ns = c.args.numbers.now in
    let all = all_bare c.loop-number.number-index ns c.loop-number.entries.items c.loop-number.invariant (omega (arith, c.loop-number-test.false)) in
    ap set_of_numbers (ap numbers_in all ∙ numbers-bare ns)

pub returns-clause-commits : goal.returns-clause-commits
returns-clause-commits c =
    let ns = c.args.numbers.now in
    let all = all_bare c.loop-number.number-index ns c.loop-number.entries.items c.loop-number.invariant (omega (arith, c.loop-number-test.false)) in
    ap map_of (ap commits_in all ∙ commits-bare ns)
