use Rattle.std.proofs.Common.{ℕ, sym, subst, ap, ◌∙◌}
use Rattle.wp_judge.specs.Words.{CommitPair, commit_pair, MayBePacked, word_of, pair_of}
use Rattle.wp_shared.specs.Seats.{place_at}
use Rattle.wp_commits.proofs.Puts.{next_packs, word_there, may_put, put, words_put, put_there, put_elsewhere}
use Rattle.wp_commits.proofs.steps.put_word.Goals as goal

pub pack-requires-clause-pair : goal.pack-requires-clause-pair
pack-requires-clause-pair g c =
    let pair : CommitPair = commit_pair c.args.p c.args.c in
    subst (λ (n : ℕ). MayBePacked n pair) c.bits-bits.ensures.1 (next_packs c.args.store.now.cells c.args.log.now.state.history c.args.log.now.state.pending pair c.devices_agree.ensures.log.legal c.requires.pending c.requires.narrow)

pub store_word-requires-clause-pair : goal.store_word-requires-clause-pair
store_word-requires-clause-pair g c =
    let pair : CommitPair = commit_pair c.args.p c.args.c in (
      pair,
      c.pack.ensures.word ∙ ap (λ (n : ℕ). word_of n pair) (sym c.bits-bits.ensures.1),
      word_there c.args.store.now.cells c.bits-bits.result c.args.place c.pack.result pair c.bits-bits.ensures.1 c.requires.place.0 c.pack.ensures.unpacks,
      c.requires.place.1,
      c.requires.place.0,
      may_put (place_at c.args.store.now c.args.seat.now.by) c.args.seat.now.knows c.args.log.now.state c.args.place pair c.requires.held c.requires.place.0 c.requires.pending c.requires.narrow c.requires.cleared,
    )

pub returns : goal.returns
returns g c =
    let z = c.args.store.now in let s = c.args.seat.now in let t = c.store_word.new.seat in let p = place_at z s.by in
    let pair : CommitPair = commit_pair c.args.p c.args.c in
    let there = word_there z.cells c.bits-bits.result c.args.place c.pack.result pair c.bits-bits.ensures.1 c.requires.place.0 c.pack.ensures.unpacks in
    let word = c.pack.ensures.word ∙ ap (λ (n : ℕ). word_of n pair) (sym c.bits-bits.ensures.1) in
    let moved = c.store_word.ensures.moved pair there in
    record {
      seat = put p _ s t c.args.place pair c.requires.place.0 c.store_word.ensures.same moved;
      words = words_put p _ s t c.args.place pair c.requires.place.0 c.store_word.ensures.same moved;
      there = put_there p _ s t c.args.place pair c.requires.place.0 c.store_word.ensures.same moved c.requires.place.1 (ap (pair_of z.cells c.args.place) (sym word) ∙ there);
      elsewhere = put_elsewhere p _ s t c.args.place pair c.requires.place.0 c.store_word.ensures.same moved;
    }
