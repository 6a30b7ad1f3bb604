use Rattle.std.proofs.Common.{List, length, sym, ap, subst, ◌∙◌, arith}
use Rattle.std.proofs.lemmas.List.{length-map}
use Rattle.wp_model.specs.declared.version.Version.{Version}
use Rattle.wp_model.specs.Versions.{AreInOrder}
use Rattle.wp_keep.specs.Chosen.{chosen}
use Rattle.wp_keep.specs.Keep.{by_commits, stays, remaining, retained_of}
use Rattle.wp_keep.proofs.Choosing.{chosen_by}
use Rattle.wp_keep.proofs.Committed.{same_test}
use Rattle.wp_keep.proofs.Order.{in_order_filter}
use Rattle.wp_keep.proofs.retained.keep_at.Goals as goal

pub remaining-requires-clause-each : goal.remaining-requires-clause-each
remaining-requires-clause-each c =
    let all = c.args.versions in let test = stays (by_commits c.in_ok-commits.commits) c.as_slice.result.now c.args.snapshots.now c.args.floor in
    let one = ap (λ (vs : List Version). length vs) (c.into_vec.ensures.value ∙ sym c.as_slice.ensures.value) in
    let two = ap (λ bs. length bs) (c.deref.ensures.value ∙ c.in_ok-stay.ensures) ∙ length-map c.as_slice.result.now test in
    omega (arith, one, two)

pub remaining-requires-clause-in_order : goal.remaining-requires-clause-in_order
remaining-requires-clause-in_order c =
    let test = stays (by_commits c.in_ok-commits.commits) c.as_slice.result.now c.args.snapshots.now c.args.floor in
    let order = subst AreInOrder (sym c.as_slice.ensures.value) c.as_slice.ensures.in_order in
    let same = (λ j. chosen ((c.into_vec.ensures.value ∙ sym c.as_slice.ensures.value) j) ((c.deref.ensures.value ∙ c.in_ok-stay.ensures) j)) ∙ chosen_by test c.as_slice.result.now in
    subst AreInOrder (sym same) (in_order_filter test c.as_slice.result.now order)

pub of-requires-2 : goal.of-requires-2
of-requires-2 c =
    let test = stays (by_commits c.in_ok-commits.commits) c.as_slice.result.now c.args.snapshots.now c.args.floor in
    let order = subst AreInOrder (sym c.as_slice.ensures.value) c.as_slice.ensures.in_order in
    let same = (λ j. chosen ((c.into_vec.ensures.value ∙ sym c.as_slice.ensures.value) j) ((c.deref.ensures.value ∙ c.in_ok-stay.ensures) j)) ∙ chosen_by test c.as_slice.result.now in
    subst AreInOrder (sym c.in_ok-retained.ensures) (in_order_filter _ _ (subst AreInOrder (sym same) (in_order_filter test c.as_slice.result.now order)))

pub returns : goal.returns
returns c =
    let test = stays (by_commits c.in_ok-commits.commits) c.as_slice.result.now c.args.snapshots.now c.args.floor in
    let same = (λ j. chosen ((c.into_vec.ensures.value ∙ sym c.as_slice.ensures.value) j) ((c.deref.ensures.value ∙ c.in_ok-stay.ensures) j)) ∙ chosen_by test c.as_slice.result.now in
    record {
      retained =
          c.of-2.ensures
          ∙ c.in_ok-retained.ensures
          ∙ ap (λ vs. remaining (by_commits c.in_ok-commits.commits) vs c.args.floor) same
          ∙ ap (λ vs. retained_of (by_commits c.in_ok-commits.commits) vs c.args.snapshots.now c.args.floor) c.as_slice.ensures.value
          ∙ ap (λ is. retained_of is c.args.versions c.args.snapshots.now c.args.floor) (same_test _ _ c.in_ok-commits.ensures);
    }
