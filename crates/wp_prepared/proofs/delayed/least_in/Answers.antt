use Rattle.std.proofs.Common.{ℕ, ◌+◌, sym, subst, arith, take, get_or}
use Rattle.std.proofs.lemmas.List.{take_more}
use Rattle.wp_prepared.specs.declared.delayed.Delayed.{Delayed}
use Rattle.wp_prepared.specs.DelayedSet.{IsFrom, AreFrom}
use Rattle.wp_prepared.proofs.Commits.{from-push}
use Rattle.wp_prepared.proofs.Numbered.{blank}
use Rattle.wp_prepared.proofs.delayed.least_in.Goals as goal
use Rattle.wp_prepared.proofs.delayed.least_in.Goals.{in-Some, in_default}

pub loop-x-preserved : goal.loop-x-preserved
loop-x-preserved c =
    let xs = c.args.entries.now in
    let i = c.loop-x.x-index in
    let here : Delayed = get_or xs i blank in
    let more = take_more xs i blank c.loop-x-test.true in
    elim c.match-x.branch [
      | in-Some w ↦
          let least = w.min-least.ensures in
          let is : IsFrom w.min-least.result here.commit = subst (IsFrom w.min-least.result) (sym w.in-Some.is) (omega (arith, least)) in
          let all : AreFrom w.min-least.result (take (i + 1) xs) = subst (AreFrom w.min-least.result) (sym more) (from-push c.loop-x.least w.min-least.result (take i xs) here (omega (arith, least)) is c.loop-x.invariant) in
          subst (λ (n : ℕ). AreFrom n (take (i + 1) xs)) (sym w.least-is) all
      | in_default w ↦
          let is : IsFrom c.loop-x.least here.commit = subst (IsFrom c.loop-x.least) (sym w.in_default.is) tt in
          let all : AreFrom c.loop-x.least (take (i + 1) xs) = subst (AreFrom c.loop-x.least) (sym more) (from-push c.loop-x.least c.loop-x.least (take i xs) here (omega arith) is c.loop-x.invariant) in
          subst (λ (n : ℕ). AreFrom n (take (i + 1) xs)) (sym w.least-is) all
    ]
