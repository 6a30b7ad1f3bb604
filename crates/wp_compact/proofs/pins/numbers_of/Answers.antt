use Rattle.std.proofs.Common.{◌≤◌, ◌<◌, [], ◌∷◌, ◌++◌, length, sym, ap, ◌∙◌, arith}
use Rattle.std.proofs.lemmas.List.{take_all}
use Rattle.wp_core.specs.Reading.{Registration}
use Rattle.wp_read.specs.Registers.{numbers_of}
use Rattle.wp_compact.proofs.Decisions.{mapped_next}
use Rattle.wp_compact.proofs.pins.numbers_of.Goals as goal

pub loop-i-preserved : goal.loop-i-preserved
loop-i-preserved c =
    let live = c.args.live.now in let x = c.index-live-i.result in let lt : c.loop-i.i < length live = omega arith in
    c.in_ok-push.ensures.items ∙ (λ j. c.loop-i.invariant j ++ c.number.ensures j ∷ []) ∙ sym (mapped_next (λ (r : Registration). r.number) live c.loop-i.i x lt c.index-live-i.is)

pub returns : goal.returns
returns c = let le : length c.args.live.now ≤ c.loop-i.i = omega arith in c.loop-i.invariant ∙ ap numbers_of (take_all c.loop-i.i c.args.live.now le)
