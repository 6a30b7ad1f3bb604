use Rattle.std.proofs.Common.{◌<◌, ◌∙◌, ℕ, get_or, ap, sym, subst}
use Rattle.wp_rule.specs.Words.{SharedWords, IsWordOf, words_of}
use Rattle.wp_rule.proofs.Stores.{word_at, word_within}
use Rattle.wp_rule.proofs.Told.{moved_so}
use Rattle.wp_rule.proofs.words.Words.load.Goals as goal

pub place-requires : goal.place-requires
place-requires g c = (c.self.inside.table.shared.key.cells, subst (λ (z : SharedWords _). IsWordOf z.cells c.args.word) (sym c.self.view_is) c.requires.word, c.self.invariant.2)

pub load-requires-clause-word : goal.load-requires-clause-word
load-requires-clause-word g c = subst (λ (i : ℕ). i < c.self.inside.table.shared.table_id.words) (sym c.place.ensures) (word_within c.self.inside.table.shared.key.cells c.self.inside.table.shared.table_id.words c.args.word c.self.invariant.0 (subst (λ (z : SharedWords _). IsWordOf z.cells c.args.word) (sym c.self.view_is) c.requires.word))

pub returns-clause-moved : goal.returns-clause-moved
returns-clause-moved g c = moved_so g.J.Moves.place g.J.Moves.steps _ _ _ _ (λ w so. so ∙ ap (λ (i : ℕ). get_or (words_of w) i 0) c.place.ensures ∙ word_at w c.args.word) c.load.ensures.moved
