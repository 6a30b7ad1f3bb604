use Rattle.std.proofs.Common.{◌∙◌, sym, subst}
use Rattle.wp_model.specs.CachePlace.{NoneShare}
use Rattle.wp_model.proofs.CachePlaces.{none_share}
use Rattle.wp_group.proofs.group.Group.of.Goals as goal

pub returns-clause-ok : goal.returns-clause-ok
returns-clause-ok c = (
  c.in_ok-to_vec.ensures.items_if_clones_equal (λ x y same. same),
  subst (λ n. NoneShare n c.args.numbers.now) c.count_words.ensures.count (none_share c.count_words.result c.args.numbers.now (sym c.first_crowded.ensures ∙ c.in_default.is)),
)
