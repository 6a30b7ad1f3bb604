use Rattle.std.proofs.Common.{ℕ, ◌<◌, sym, subst, ap, ◌∙◌}
use Rattle.std.specs.Option.{option_map}
use Rattle.wp_judge.specs.Words.{pair_of, numbers_of}
use Rattle.wp_commits.proofs.Words.{pair_is, found}
use Rattle.wp_commits.proofs.steps.pair.Goals as goal

pub unpack-requires-clause-place : goal.unpack-requires-clause-place
unpack-requires-clause-place g c = subst (λ (n : ℕ). c.args.place < n) c.bits-bits.ensures.1 c.requires.within

pub returns-clause-pair : goal.returns-clause-pair
returns-clause-pair g c bound words there =
    pair_is c.args.store.now c.args.seat.now c.word.new.seat c.args.log.now.state c.args.place c.word.result c.word.ensures.same c.word.ensures.found bound words there c.unpack.result
    (c.unpack.ensures.pair ∙ ap (λ (n : ℕ). option_map numbers_of (pair_of n c.args.place c.word.result)) (sym c.bits-bits.ensures.1))

pub returns-clause-there : goal.returns-clause-there
returns-clause-there g c =
    found c.args.store.now c.args.seat.now c.word.new.seat c.args.log.now.state c.args.place c.word.result c.word.ensures.same c.word.ensures.found c.requires.held c.requires.within c.requires.words c.requires.published c.unpack.result
    (c.unpack.ensures.pair ∙ ap (λ (n : ℕ). option_map numbers_of (pair_of n c.args.place c.word.result)) (sym c.bits-bits.ensures.1))
