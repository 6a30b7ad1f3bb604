use Rattle.std.proofs.Common.{◌≡◌, true, Equal, List, [], ◌∷◌, Option, None, Some, sym, ap, ◌∙◌, subst}
use Rattle.std.specs.Prelude.{⊤}
use Rattle.std.specs.List.{list_all}
use Rattle.std.specs.Option.{option_map}
use Rattle.std.specs.Ordering.{MatchOrdering}
use Rattle.std.specs.declared.cmp.Ordering.{Ordering}
use Rattle.std.proofs.lemmas.Bool.{and_parts}
use Rattle.wp_model.specs.declared.version.Version.{Version}
use Rattle.wp_table.specs.Borrowed.{seen, with_next}
use Rattle.wp_table.specs.Table.{has_words}
use Rattle.wp_merge.specs.Merge.{front_order}
use Rattle.wp_merge.proofs.tables.take_next.Goals as goal

-- where both have a version, what follows the table's has words where all of it has
behind_both : (list : List Version) (next : Option Version) (rest : List Version) → front_order list (with_next next rest) ≡ Equal → list_all has_words (with_next next rest) ≡ true → list_all has_words rest ≡ true
behind_both list (Some v) rest both all = (and_parts (has_words v) (list_all has_words rest) all).1
behind_both [] None rest both all = absurd (subst (λ (o : Ordering). MatchOrdering o ⊤ ⊥ ⊤) both tt)
behind_both (first ∷ others) None rest both all = absurd (subst (λ (o : Ordering). MatchOrdering o ⊤ ⊥ ⊤) both tt)

pub returns-in-Equal-clause-in_range : goal.returns-in-Equal-clause-in_range
returns-in-Equal-clause-in_range c =
    sym (ap (list_all has_words) c.advance.ensures)
    ∙ behind_both c.args.list.now.items (option_map seen c.args.next.now) c.args.rest.now (sym (c.next_of.ensures c.args.rest.now) ∙ c.in-Equal.is) c.requires
