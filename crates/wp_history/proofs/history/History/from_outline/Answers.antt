use Rattle.std.proofs.Common.{subst}
use Rattle.wp_history.specs.History.{RoomyHistory}
use Rattle.wp_history.specs.Outline.{IsFirstWrong}
use Rattle.wp_history.proofs.Judged.{has_base_values, is_kept, is_illegal}
use Rattle.wp_history.proofs.history.History.from_outline.Goals as goal

pub first_wrong-requires : goal.first_wrong-requires
first_wrong-requires c =
    let made = c.with_versions-outline.ensures in
    has_base_values _ _ c.args.versions.value _ made.whole made.cut c.requires.order c.requires.below c.requires.store

pub invariant_of-result : goal.invariant_of-result
invariant_of-result c =
    let made = c.with_versions-outline.ensures in (
      is_kept _ _ c.args.versions.value _ made.whole made.cut c.requires.order c.requires.below c.in-None.ensures.none
          (has_base_values _ _ c.args.versions.value _ made.whole made.cut c.requires.order c.requires.below c.requires.store),
      tt,
    )

pub returns-in-Some-clause-illegal : goal.returns-in-Some-clause-illegal
returns-in-Some-clause-illegal c =
    let made = c.with_versions-outline.ensures in
    is_illegal _ _ c.args.versions.value c.args.store made.whole made.cut c.requires.order c.requires.below _ c.in-Some.ensures.some

pub returns-in-Some-clause-wrong : goal.returns-in-Some-clause-wrong
returns-in-Some-clause-wrong c = subst (λ (h : RoomyHistory). IsFirstWrong h c.in-Some.number) c.with_versions-outline.ensures.whole c.in-Some.ensures.some
