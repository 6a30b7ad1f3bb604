use Rattle.std.proofs.Common.{◌==◌, refl, get_or}
use Rattle.std.proofs.lemmas.Bool.{eq-eqb}
use Rattle.std.proofs.lemmas.List.Folds.{list_any_at}
use Rattle.wp_cover.proofs.covering.gives_listed.Goals as goal

pub gives_store-requires-clause-from : goal.gives_store-requires-clause-from
gives_store-requires-clause-from c =
    let n = get_or c.args.numbers.now c.loop-n.n-index 0 in
    c.requires.from n (list_any_at (λ m. m == n) c.args.numbers.now c.loop-n.n-index 0 c.loop-n-test.true (eq-eqb n n refl))
