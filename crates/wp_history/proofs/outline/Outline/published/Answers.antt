use Rattle.std.proofs.Common.{◌≡◌, length, rules, arith}
use Rattle.wp_cuts.proofs.FullList.{full_long}
use Rattle.wp_history.specs.History.{cut_of}
use Rattle.wp_history.proofs.Kept.{cut_is_orderly}
use Rattle.wp_history.proofs.outline.Outline.published.Goals as goal

pub overflow_add-result : goal.overflow_add-result
overflow_add-result c =
    let inside = c.self.inside in
    let size : c.len.result ≡ length inside.later.items = search rules in
    let few = c.self.invariant.0.cut.few in
    omega (arith, few, size)

pub returns-clause-value : goal.returns-clause-value
returns-clause-value c =
    let inside = c.self.inside in
    let long = full_long (cut_of inside.base inside.carried.items inside.later.items) inside.versions.value in
    let size : c.len.result ≡ length inside.later.items = search rules in
    rw (← c.self.view_is) (omega (arith, long, size))

pub returns-clause-few : goal.returns-clause-few
returns-clause-few c =
    let inside = c.self.inside in
    let size : c.len.result ≡ length inside.later.items = search rules in
    let few = c.self.invariant.0.cut.few in
    omega (arith, few, size)

pub returns-clause-cut : goal.returns-clause-cut
returns-clause-cut c =
    let inside = c.self.inside in
    cut_is_orderly (cut_of inside.base inside.carried.items inside.later.items) inside.versions.value inside.room _ c.self.view_is c.self.invariant.0.cut
